-- What is there stays there as a cell goes and as a dispatch ends: the server that is dispatched does not go, and after its end no client is accepted.
use Rattle.std.proofs.lemmas.Bool.Decides.{nat_tests}
use Rattle.std.proofs.Common.{Bool, List, None, Option, Some, ap, arith, false, length, refl, subst, sym, true, ℕ, ℤ, ◌==◌, ◌∙◌, ◌∷◌, ◌≡◌, ◌≤◌}
use Rattle.std.proofs.lemmas.Bool.{eqb-true, ne_eqb}
use Rattle.std.specs.Prelude.{◌||◌}
use Rattle.aom_image.specs.Image.{Image}
use Rattle.aom_link_conditions.specs.Roles.{destructor_of}
use Rattle.aom_clients.specs.Nodes.{is_connecting_at}
use Rattle.aom_clients.specs.declared.client.Client.{Client}
use Rattle.aom_clients.specs.declared.client.Client.TheVariants.{Unconnected}
use Rattle.aom_typing_rules.specs.Typing.{Typing}
use Rattle.aom_abstract_state.specs.declared.kind.Kind.TheVariants.{Null}
use Rattle.aom_determinism.proofs.SafetyLemmas.{IsAt, ServerLives, Untouched, client_here, client_there, closing_layer, dispatch_layer, dying_layers}
use Rattle.aom_determinism.proofs.SafetyLemmas.{found_first, goes_same, held_elsewhere, server_lives, service_moved, untouched}
use Rattle.aom_safety.specs.Claims.{Dying, Layer, tasks_of}
use Rattle.aom_semantics.specs.Clients.{client_at, with_client}
use Rattle.aom_semantics.specs.Destruction.{closing, first_session, parting, parting_from}
use Rattle.aom_safety.specs.Kept.{ClientsFit}
use Rattle.aom_semantics.specs.Moves.{answered, dispatch_ends, handled, main_ends, object_ends, stage_ends}
use Rattle.aom_semantics.specs.Places.{Cell, Elsewhere, Going, In_service, Object, Root, Session, NoDuplicates, held, moved, service_of}
use Rattle.aom_semantics.specs.Servers.{is_server, parted}
use Rattle.aom_semantics.specs.State.{Accept_left, Accepted, Accepts, Answered, Asks, Closing, Destroy, Dispatch, Dispatched, Goes, Main_left, Object_left}
use Rattle.aom_semantics.specs.State.{Of_main, Of_object, Of_root, Of_server, Disconnects, OwnedObject, Service_left, Serves, Stage, State, Task}
use Rattle.aom_safety.specs.WellTyped.{EndsDispatch, Gone, Now, SomeIn, Stack, WellTyped}
use Rattle.aom_determinism.proofs.Fresh.{accepting, dispatch_at}
use Rattle.aom_determinism.proofs.Keeping.{UnchangedCalls, unchanged_calls_itself, unchanged_calls_moved, unchanged_calls_reserved, still_either, there_by}
use Rattle.aom_determinism.proofs.Moving.{dispatch_begun, dispatch_begun_by, or_none}
use Rattle.aom_determinism.proofs.Reclaiming.{unchanged_calls_without}
use Rattle.aom_determinism.specs.There.{AllThere, AreThere, accepts, dispatch_of, waits}

-- ---- what goes is not the server that is dispatched

dying_apart : (p : Image) (t : Typing) (cs : List Cell) (no_duplicates : NoDuplicates cs) (ls : List Layer) (ts : List Task) →
    Stack p t cs Now ls → Destroy ∷ ts ≡ tasks_of ls → (o : Object) → held cs (Going (length ts)) ≡ Some o →
    (x : OwnedObject) (c : ℕ) (stage : Stage) → dispatch_of ts ≡ Some (Of_server x c stage) → (o.name == x.object.name) ≡ false
dying_apart p t cs no_duplicates ls ts stack tasks o there x c stage at = ne_eqb o.name x.object.name (λ same. u.some (subst (λ n. SomeIn n d.1) (sym same) l.2))
  where
    d : (o : Object) × (below : List Layer) × (ls ≡ Dying o ∷ below) × (ts ≡ tasks_of below)
    d = dying_layers ls ts tasks

    below : Stack p t cs Gone d.1
    below = (subst (λ ls. Stack p t cs Now ls) d.2 stack).2

    l : ServerLives p cs x d.1
    l = server_lives p t cs d.1 Gone x c stage below (subst (λ l. IsAt (Of_server x c stage) l) d.3 (dispatch_at ts (Of_server x c stage) at))

    u : Untouched p (λ f. Null) o.name d.1
    u = untouched p t cs (Going (length ts)) o no_duplicates there (λ f. Null) d.1 Gone (subst (λ l. length (tasks_of d.1) ≤ length l) (sym d.3) (omega arith)) below

-- of what a server that goes accepts
accepted_apart : (o : Object) (d : Option Dispatch) → ((x : OwnedObject) (c : ℕ) (stage : Stage) →
    d ≡ Some (Of_server x c stage) → (o.name == x.object.name) ≡ false) → (n c : ℕ) → accepts n c d ≡ true → (o.name == n) ≡ false
accepted_apart o d apart n c h = let a = accepting n c d h in ap (λ m. o.name == m) (sym a.name) ∙ apart a.owned_object a.client a.stage a.is

pub gone_apart : (p : Image) (t : Typing) (s : State) (w : WellTyped p t s) (ts : List Task) →
    s.tasks ≡ Destroy ∷ ts → (o : Object) → held s.cells (Going (length ts)) ≡ Some o → (n c : ℕ) → accepts n c (dispatch_of ts) ≡ true → (o.name == n) ≡ false
gone_apart p t s w ts tasks o there n c h = accepted_apart o
    (dispatch_of ts) (λ x k stage at. dying_apart p t s.cells w.good.no_duplicates w.layers ts w.good.stack (sym tasks ∙ w.tasks) o there x k stage at) n c h

-- ---- the sessions of a server go

-- each is one of that server
module _ (p : Image) (t : Typing) (s : State) (w : WellTyped p t s) (there : AllThere s) where
  closing_layers : (ls : List Layer) (ts : List Task) → Stack p t s.cells Now ls → Closing ∷ ts ≡ tasks_of ls →
      (below : List Layer) × (Stack p t s.cells Now below) × (ts ≡ tasks_of below)
  closing_layers ls ts k e = closing_layer (λ ls. Stack p t s.cells Now ls) ts ls (sym e) k (λ o left below is k. (below, k.3, sym is))

  -- a session of a server that is not dispatched is at hand to go
  session_goes :
      (o : Object) (c k : ℕ) (d : Option Dispatch) → ((x : OwnedObject) (c : ℕ) (stage : Stage) → d ≡ Some (Of_server x c stage) → (o.name == x.object.name) ≡ false) →
      AreThere s.clients s.cells d → AreThere s.clients (moved (Elsewhere (Session o.name c)) (Going k) s.cells) d
  session_goes o c k d apart there = record {
    asked = grind (arith, nat_tests, still_either, service_moved s.cells (Elsewhere (Session o.name c)) (Going k));
    serves = grind (arith, nat_tests, held_elsewhere);
  }
    where
      cells : List Cell
      cells = moved (Elsewhere (Session o.name c)) (Going k) s.cells

  pub closing_there : (ts : List Task) (u : State) → s.tasks ≡ Closing ∷ ts → closing p ts s ≡ Goes u → AllThere u
  closing_there (Destroy ∷ below) u tasks e = by_server (held s.cells (Going (length below))) refl e
    where
      l : (ls : List Layer) × (Stack p t s.cells Now ls) × (Destroy ∷ below ≡ tasks_of ls)
      l = closing_layers w.layers (Destroy ∷ below) w.good.stack (sym tasks ∙ w.tasks)

      before : AreThere s.clients s.cells (dispatch_of below)
      before = subst (λ ts. AreThere s.clients s.cells (dispatch_of ts)) tasks there

      by_session : (o : Object) → held s.cells (Going (length below)) ≡ Some o →
          (x : Option OwnedObject) → first_session s.cells o.name (service_of s.cells o.name).sessions ≡ x → AllThere (parting p o x below s)
      by_session o at None first = there_by s.clients s.cells
          (dispatch_of below) s.clients s.cells _ refl (unchanged_calls_itself s.cells) (dispatch_begun_by p (destructor_of p o.thing) o (length s.items) below) before
      by_session o at (Some x) first =
          let found = found_first s.cells o.name (service_of s.cells o.name).sessions x first in
          let goes = session_goes o found.client (length (Closing ∷ Destroy ∷ below))
          (dispatch_of below) (λ x k stage d. dying_apart p t s.cells w.good.no_duplicates l.0 below l.1 l.2 o at x k stage d) before in
          there_by s.clients _ (dispatch_of below) s.clients _ _ refl (unchanged_calls_itself _) (dispatch_begun p x.object (length s.items) (Closing ∷ Destroy ∷ below))
          (rw found.place goes)

      by_server : (o : Option Object) → held s.cells (Going (length below)) ≡ o → parting_from p o below s ≡ Goes u → AllThere u
      by_server None at e = cc
      by_server (Some o) at e = subst AllThere (goes_same _ u e) (by_session o at (first_session s.cells o.name (service_of s.cells o.name).sessions) refl)
  closing_there _ u tasks e = cc

-- ---- a dispatch ends

-- each client that connects waits
abbrev pub AllWait : List Client → List Cell → Type 0
AllWait clients cs = (n c : ℕ) → is_connecting_at n (client_at clients c) ≡ true → waits cs n c ≡ true

-- no dispatch of a server
abbrev pub IsPlain : Option Dispatch → Type 0
IsPlain (Some (Of_server x c stage)) = ⊥
IsPlain _ = Unit {0}

pub plain_there : (clients : List Client) (cs : List Cell) (d : Option Dispatch) → IsPlain d → AllWait clients cs → AreThere clients cs d
plain_there clients cs d plain all = search (arith, nat_tests)

or_true : (a b : Bool) → b ≡ false → (a || b) ≡ true → a ≡ true
or_true x b e h = grind arith

pub all_wait : (clients : List Client) (cs : List Cell) (d : Option Dispatch) → ((n c : ℕ) → accepts n c d ≡ false) → AreThere clients cs d → AllWait clients cs
all_wait clients cs d none there n c e = or_true (waits cs n c) (accepts n c d) (none n c) (there.asked n c e)

pub unchanged_calls_waits : (clients : List Client) (cs cs' : List Cell) → UnchangedCalls cs cs' → AllWait clients cs → AllWait clients cs'
unchanged_calls_waits clients cs cs' unchanged_calls all n c e = unchanged_calls.connects n c (all n c e)

module _ (p : Image) (s : State) (all : AllWait s.clients s.cells) where
  main_there : (b : Bool) (root : Option Object) → AllThere (main_ends p b root s)
  main_there x root = grind (
    arith,
    nat_tests,
    dispatch_begun p,
    plain_there s.clients,
    unchanged_calls_waits s.clients s.cells,
    unchanged_calls_moved s.cells (Elsewhere Root) (Going 1),
    plain_there s.clients s.cells None,
  )

module _ (p : Image) (s : State) (all : AllWait s.clients s.cells) where
  object_there : AllThere (object_ends p s)
  object_there = main_there p (handled s) all s.rest.stopped (held s.cells (Elsewhere Root))

  answer_there : (answer : ℤ) → AllThere (answered p answer s)
  answer_there answer = grind (arith, nat_tests, object_there, plain_there s.clients s.cells None)

module _ (p : Image) (s : State) (fit : ClientsFit p s.clients s.cells) (no_duplicates : NoDuplicates s.cells)
    (plain : (o : Object) → held s.cells (Elsewhere In_service) ≡ Some o → is_server p o.thing ≡ false) where
  -- a client is at something else, where it does not connect
  all_with : (c : ℕ) (to : Client) → ((n d : ℕ) → (c == d) ≡ false → is_connecting_at n (client_at s.clients d) ≡ true → waits s.cells n d ≡ true) →
      ((n : ℕ) → is_connecting_at n to ≡ true → waits s.cells n c ≡ true) → AllWait (with_client c to s.clients) s.cells
  all_with c to others own n d e = grind (arith, nat_tests, eqb-true c d, client_here c to s.clients, client_there c d to s.clients)

  stage_there : (x : OwnedObject) (c : ℕ) (stage : Stage) → EndsDispatch p (Of_server x c stage) Now → AreThere s.clients s.cells (Some (Of_server x c stage)) →
      AllThere (stage_ends x c stage s)
  stage_there x c Accepts ends there = absurd ends
  stage_there x c Accepted ends there = grind (arith, nat_tests, plain_there, all_wait)
  stage_there x c (Serves o) ends there = grind (arith, nat_tests, plain_there, all_wait)
  stage_there x c (Accept_left code) ends there = grind (arith, nat_tests, plain_there, all_with c Unconnected, or_true, or_none)
  stage_there x c (Service_left code) ends there = grind (
    arith,
    nat_tests,
    plain_there s.clients,
    unchanged_calls_waits s.clients s.cells,
    unchanged_calls_without p s.clients s.cells no_duplicates fit (Elsewhere In_service),
    all_wait s.clients s.cells (Some (Of_server x c (Service_left code))),
  )
  stage_there x c Disconnects ends there =
      let all : AllWait s.clients s.cells = all_wait s.clients s.cells (Some (Of_server x c Disconnects)) (λ n d. refl) there in
      plain_there _ _ (Some (Of_object x)) tt
      (unchanged_calls_waits _ s.cells _ (unchanged_calls_reserved (parted c) (λ v k h. h) s.cells x.object.name) (grind (arith, nat_tests, all_with)))

  ends_there : (d : Dispatch) → EndsDispatch p d Now → AreThere s.clients s.cells (Some d) → AllThere (dispatch_ends p d s)
  ends_there Of_main ends there = main_there p s (all_wait s.clients s.cells (Some Of_main) (λ n d. refl) there) s.rest.stopped (held s.cells (Elsewhere Root))
  ends_there (Main_left code) ends there = plain_there s.clients s.cells None tt (all_wait s.clients s.cells (Some (Main_left code)) (λ n d. refl) there)
  ends_there Of_root ends there = plain_there s.clients s.cells None tt (all_wait s.clients s.cells (Some Of_root) (λ n d. refl) there)
  ends_there (Of_object x) ends there = object_there p s (all_wait s.clients s.cells (Some (Of_object x)) (λ n d. refl) there)
  ends_there (Object_left x code) ends there = grind (arith, nat_tests, answer_there, plain_there, all_wait)
  ends_there (Asks x) ends there = object_there p s (all_wait s.clients s.cells (Some (Asks x)) (λ n d. refl) there)
  ends_there (Answered x answer) ends there = answer_there p s (all_wait s.clients s.cells (Some (Answered x answer)) (λ n d. refl) there) answer
  ends_there (Of_server x c stage) ends there = stage_there x c stage ends there

-- of a well-typed state
top_dispatch : (p : Image) (t : Typing) (cs : List Cell) (ls : List Layer) (d : Dispatch) (ts : List Task) → Stack p t cs Now ls →
    Dispatched d ∷ ts ≡ tasks_of ls → EndsDispatch p d Now
top_dispatch p t cs ls d ts k e = dispatch_layer (λ ls. Stack p t cs Now ls) d ts ls (sym e) k (λ owned_chain below is k. k.0)

pub dispatch_there : (p : Image) (t : Typing) (s : State) (w : WellTyped p t s) → ClientsFit p s.clients s.cells →
    ((o : Object) → held s.cells (Elsewhere In_service) ≡ Some o → is_server p o.thing ≡ false) → (d : Dispatch) (ts : List Task) →
    s.tasks ≡ Dispatched d ∷ ts → AllThere s → (v : State) → v.cells ≡ s.cells → v.clients ≡ s.clients → AllThere (dispatch_ends p d v)
dispatch_there p t s w fit plain d ts tasks there v cells clients =
    grind (arith, nat_tests, ends_there p v, top_dispatch p t s.cells w.layers d ts w.good.stack)
