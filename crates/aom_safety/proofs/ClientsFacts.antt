-- What a well-typed state says of queues and of the server that is dispatched.
use Rattle.std.proofs.lemmas.Bool.Decides.{nat_tests}
use Rattle.std.proofs.Common.{[], Bool, List, None, Option, Some, ap, arith, cond, false, inr, length, refl, subst, sym, true, ℕ, ◌==◌, ◌∙◌, ◌∷◌, ◌≡◌, ◌≤◌}
use Rattle.std.proofs.lemmas.Bool.{ne_eqb, true≢false}
use Rattle.std.specs.List.{list_any}
use Rattle.std.specs.Prelude.{is_some}
use Rattle.aom_image.specs.Image.{Image}
use Rattle.aom_image.specs.declared.method.Thing.{Thing}
use Rattle.aom_image.specs.declared.method.Thing.TheVariants.{Message}
use Rattle.aom_clients.specs.declared.client.Client.{Client}
use Rattle.aom_typing_rules.specs.Typing.{Typing}
use Rattle.aom_abstract_state.specs.Kinds.{filled}
use Rattle.aom_abstract_state.specs.declared.kind.InitState.TheVariants.{Ready}
use Rattle.aom_abstract_state.specs.declared.kind.FieldState.TheVariants.{Full}
use Rattle.aom_abstract_state.specs.declared.kind.Kind.{Kind}
use Rattle.aom_abstract_state.specs.declared.kind.Kind.TheVariants.{Null, Own}
use Rattle.aom_abstract_state.specs.declared.kind.MessageState.{MessageState}
use Rattle.aom_safety.proofs.Destroying.{Untouched, untouched}
use Rattle.aom_safety.proofs.SemanticsLemmas.{named_name}
use Rattle.aom_safety.proofs.Owners.{HasThing, MayOverride, fits_thing, in_queue, queued_lower}
use Rattle.aom_safety.proofs.Picking.{own_held}
use Rattle.aom_safety.proofs.Services.{service_unnamed}
use Rattle.aom_safety.specs.Claims.{Dispatching, Dying, Ending, Layer, Mark, Method, Unwinding, by_stage, claim, declared, delivered, serves, tasks_of}
use Rattle.aom_safety.specs.Kept.{ClientsFit, is_message_of}
use Rattle.aom_safety.specs.Laws.{IsWired}
use Rattle.aom_semantics.specs.Places.{Asked, Cell, Elsewhere, Going, In_service, Message_of, Object, Queued, held, named, seen, service_of, requested}
use Rattle.aom_semantics.specs.Servers.{has_message, is_message, is_server, message_thing}
use Rattle.aom_semantics.specs.State.{Destroy, Dispatch, Dispatched, Of_server, OwnedObject, Stage, State, Task}
use Rattle.aom_safety.specs.WellTyped.{Back, Caught, Fits, Gone, Leaves, Now, Returns, SomeIn, Stack, WellTyped}
use Rattle.aom_roles.specs.Things.{is_subtype}
use Rattle.aom_safety.proofs.Dropping.{queued_claim}
use Rattle.aom_safety.proofs.Things.{stands_message, message_plain}

message_any : (c m : ℕ) (es : List Asked) → list_any (is_message_of c m) es ≡ true → list_any (λ e. is_message m e) es ≡ true
message_any c m [] h = cc
message_any c m (Message_of d k ∷ es) h = grind (arith, nat_tests, message_any c m es)
message_any c m (_ ∷ es) h = message_any c m es h

module _ (p : Image) (t : Typing) (s : State) (w : WellTyped p t s) where
  -- what a client sent waits in the queue
  pub queued_well : (clients : List Client) → ClientsFit p clients s.cells → (n c m : ℕ) → list_any (is_message_of c m) (service_of s.cells n).queue ≡ true →
      (x : Object) × (held s.cells (Elsewhere (Queued n m)) ≡ Some x)
  queued_well clients fit n c m h = go (named s.cells n) refl
    where
      has : has_message (service_of s.cells n) m ≡ true
      has = message_any c m (service_of s.cells n).queue h

      fits : Fits p (seen s.cells) (held s.cells (Elsewhere (Queued n m))) (declared p s.cells (Elsewhere (Queued n m)))
      fits = subst (λ k. Fits p (seen s.cells) (held s.cells (Elsewhere (Queued n m))) k) (queued_claim p (declared p s.cells) w.layers n m)
          (w.good.fits (Elsewhere (Queued n m)))

      at : (o : Object) → named s.cells n ≡ Some o → (b : Bool) → is_server p o.thing ≡ b → (x : Object) × (held s.cells (Elsewhere (Queued n m)) ≡ Some x)
      at o e true serves =
          let kind : declared p s.cells (Elsewhere (Queued n m)) ≡ Own Message Ready = ap (λ b. cond b (filled (message_thing p (named s.cells n)) Full) Null)
          has ∙ ap (λ y. filled (message_thing p y) Full) e ∙ ap (λ b. filled (cond b (Some Message) None) Full) serves in
          let x = own_held p (seen s.cells) (held s.cells (Elsewhere (Queued n m))) Message
          (subst (λ k. Fits p (seen s.cells) (held s.cells (Elsewhere (Queued n m))) k) kind fits) in
          (x.0, x.1)
      at o e false plain =
          let name : o.name ≡ n = named_name s.cells n o e in
          let none = (fit.servers o (ap (λ k. named s.cells k) name ∙ e) plain).0 in
          absurd (true≢false (sym has ∙ ap (λ k. has_message (service_of s.cells k) m) (sym name) ∙ ap (λ q. list_any (λ e. is_message m e) q) none))

      go : (o : Option Object) → named s.cells n ≡ o → (x : Object) × (held s.cells (Elsewhere (Queued n m)) ≡ Some x)
      go None e = absurd (true≢false (sym has ∙ ap (λ v. has_message v m) (service_unnamed s.cells n e)))
      go (Some o) e = at o e (is_server p o.thing) refl

module _ (p : Image) (t : Typing) (wired : IsWired p) (s : State) (w : WellTyped p t s) where
  -- what waits in a queue is a message, and so no server
  pub waiting_message : (n m : ℕ) (o : Object) → held s.cells (Elsewhere (Queued n m)) ≡ Some o → o.thing ≡ Message
  waiting_message n m o e = let x = in_queue p t wired s w n m o e in (queued_lower p wired x.0 o.thing x.3).0

  pub waiting_well : (n m : ℕ) (o : Object) → held s.cells (Elsewhere (Queued n m)) ≡ Some o → is_server p o.thing ≡ false
  waiting_well n m o e = message_plain p o.thing (waiting_message n m o e)

-- ---- the dispatch of a server

abbrev pub IsAt : Dispatch → List Task → Type 0
IsAt d [] = ⊥
IsAt d (Dispatched e ∷ ts) = e ≡ d
IsAt d (_ ∷ ts) = IsAt d ts

abbrev pub ServerLives : Image → List Cell → OwnedObject → List Layer → Type 0
ServerLives p cs x ls = (named cs x.object.name ≡ Some x.object) × (is_server p x.object.thing ≡ true) × SomeIn x.object.name ls
    × (is_some (requested cs x.object.name) ≡ true)

-- its server stands, and sits
pub server_lives : (p : Image) (t : Typing) (cs : List Cell) (ls : List Layer) (back : Back) (x : OwnedObject) (c : ℕ) (stage : Stage) → Stack p t cs back ls →
    IsAt (Of_server x c stage) (tasks_of ls) → ServerLives p cs x ls
server_lives p t cs [] back x c stage s at = absurd at
server_lives p t cs (Method fr sh ∷ ls) back x c stage s at = let r = server_lives p t cs ls (Returns fr.method fr.receiver) x c stage s.4 at in (r.0, r.1, inr r.2, r.3)
server_lives p t cs (Mark gv ∷ ls) back x c stage s at = server_lives p t cs ls (Caught gv) x c stage s.1 at
server_lives p t cs (Dying o ∷ ls) back x c stage s at = server_lives p t cs ls Gone x c stage s.2 at
server_lives p t cs (Ending o left ∷ ls) back x c stage s at = server_lives p t cs ls Now x c stage s.3 at
server_lives p t cs (Unwinding code es ∷ ls) back x c stage s at = server_lives p t cs ls Leaves x c stage s.1 at
server_lives p t cs (Dispatching d owned_chain ∷ ls) back x c stage s at = grind (arith, nat_tests)

-- ---- what is served

message_by_stage : (d : Dispatch) (k : Kind) (x : Thing) → (HasThing k x → ⊥) → HasThing (by_stage d k) x → x ≡ Message
message_by_stage x k y none h = grind arith

message_delivered : (d : MessageState) (x : Thing) → HasThing (delivered d) x → x ≡ Message
message_delivered y x h = grind arith

-- is a message
pub service_message : (p : Image) (cs : List Cell) (ls : List Layer) (t : Typing) (back : Back) (x : Thing) → Stack p t cs back ls →
    HasThing (claim p (declared p cs) ls (Elsewhere In_service)) x → x ≡ Message
service_message p cs [] t back x s h = absurd h
service_message p cs (Method fr sh ∷ ls) t back x s h = go (serves p fr.method) (service_message p cs ls t (Returns fr.method fr.receiver) x s.4) h
  where
    go : (b : Bool) → (HasThing (claim p (declared p cs) ls (Elsewhere In_service)) x → x ≡ Message) →
        HasThing (cond b (delivered sh.message_state) (claim p (declared p cs) ls (Elsewhere In_service))) x → x ≡ Message
    go true below h = message_delivered sh.message_state x h
    go false below h = below h
service_message p cs (Mark gv ∷ ls) t back x s h = service_message p cs ls t (Caught gv) x s.1 h
service_message p cs (Dying o ∷ ls) t back x s h = service_message p cs ls t Gone x s.2 h
service_message p cs (Ending o left ∷ ls) t back x s h = service_message p cs ls t Now x s.3 h
service_message p cs (Unwinding code es ∷ ls) t back x s h = service_message p cs ls t Leaves x s.1 h
service_message p cs (Dispatching d owned_chain ∷ ls) t back x s h = grind (arith, nat_tests, message_by_stage d, HasThing)

pub serving_plain : (p : Image) (t : Typing) (s : State) (w : WellTyped p t s) (o : Object) → held s.cells (Elsewhere In_service) ≡ Some o →
    is_server p o.thing ≡ false
serving_plain p t s w o e = message_plain p o.thing
    (stands_message p o.thing (subst (λ z. is_subtype p o.thing z ≡ true) (service_message p s.cells w.layers t Now y.0 w.good.stack y.1) y.2))
  where
    y : MayOverride p (claim p (declared p s.cells) w.layers (Elsewhere In_service)) o.thing
    y = fits_thing p (seen s.cells) o _
        (subst (λ y. Fits p (seen s.cells) y (claim p (declared p s.cells) w.layers (Elsewhere In_service))) e (w.good.fits (Elsewhere In_service)))

-- ---- a cell that goes

pub dying_layers : (ls : List Layer) (ts : List Task) → Destroy ∷ ts ≡ tasks_of ls →
    (o : Object) × (below : List Layer) × (ls ≡ Dying o ∷ below) × (ts ≡ tasks_of below)
dying_layers (Dying o ∷ ls) ts e = (o, ls, refl, cc)
dying_layers _ ts e = cc

-- is not the server that is dispatched
pub goes_apart : (p : Image) (t : Typing) (s : State) (w : WellTyped p t s) (ts : List Task) → s.tasks ≡ Destroy ∷ ts → (o : Object) →
    held s.cells (Going (length ts)) ≡ Some o → (x : OwnedObject) (c : ℕ) (stage : Stage) → IsAt (Of_server x c stage) ts → (o.name == x.object.name) ≡ false
goes_apart p t s w ts tasks o there x c stage at = ne_eqb o.name x.object.name (λ same. u.some (subst (λ n. SomeIn n d.1) (sym same) l.2))
  where
    d : (o : Object) × (below : List Layer) × (w.layers ≡ Dying o ∷ below) × (ts ≡ tasks_of below)
    d = dying_layers w.layers ts (sym tasks ∙ w.tasks)

    stack : Stack p t s.cells Gone d.1
    stack = (subst (λ ls. Stack p t s.cells Now ls) d.2 w.good.stack).2

    l : ServerLives p s.cells x d.1
    l = server_lives p t s.cells d.1 Gone x c stage stack (subst (λ l. IsAt (Of_server x c stage) l) d.3 at)

    u : Untouched p (λ f. Null) o.name d.1
    u = untouched p t s.cells (Going (length ts)) o w.good.no_duplicates there (λ f. Null) d.1 Gone
        (subst (λ l. length (tasks_of d.1) ≤ length l) (sym d.3) (omega arith)) stack
