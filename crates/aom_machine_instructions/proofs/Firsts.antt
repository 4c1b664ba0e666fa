-- The first session with a server that is there is that of the client that the machine finds, by the number in the place of each session. What closes its
-- sessions stands over its own going.
use Rattle.std.proofs.lemmas.Bool.Decides.{nat_tests}
use Rattle.std.proofs.Common.{Bool, List, None, Option, Some, [], ap, cond, false, length, not, refl, subst, sym, true, ℕ, ◌==◌, ◌∙◌, ◌∷◌, ◌≡◌, ◌||◌, arith}
use Rattle.std.proofs.lemmas.Bool.{eq-eqb, true≢false}
use Rattle.std.proofs.lemmas.Option.{none-some, same_Some}
use Rattle.aom_cells.specs.Heap.{Lives, null}
use Rattle.aom_clients.specs.Clients.{ClientsState as Machine_clients, client_at, first_there, sessions_at}
use Rattle.aom_clients.specs.Table.{has_cell, no_cell, server_of, session_of}
use Rattle.aom_clients.specs.declared.client.Client.{Client}
use Rattle.aom_clients.specs.declared.client.Client.TheVariants.{Closing, Dying, Open}
use Rattle.aom_image.specs.Image.{Image}
use Rattle.aom_typing_rules.specs.Typing.{Typing}
use Rattle.aom_abstract_state.specs.declared.kind.InitState.TheVariants.{Ready}
use Rattle.aom_abstract_state.specs.declared.kind.Kind.TheVariants.{Own}
use Rattle.aom_machine_instructions.proofs.SafetyLemmas.{closing_layer, own_held, session_object}
use Rattle.aom_machine_instructions.proofs.SemanticsLemmas.{held_lives}
use Rattle.aom_safety.specs.Claims.{Dying as Dying_layer, Ending, Layer, claim, declared, tasks_of}
use Rattle.aom_semantics.specs.Destruction.{first_session, owned_object_or}
use Rattle.aom_safety.specs.Kept.{ClientsFit}
use Rattle.aom_semantics.specs.Places.{Elsewhere, Going, Object, Place, Session, held, seen, service_of}
use Rattle.aom_semantics.specs.Servers.{is_among}
use Rattle.aom_semantics.specs.State.{Closing as Closing_task, Destroy, OwnedObject, State, Task}
use Rattle.aom_safety.specs.WellTyped.{Fits, Good, IsOverDying, WellTyped}
use Rattle.aom_machine_state.specs.Agrees.{Agrees, number}
use Rattle.aom_machine_state.specs.Places.{session_number, session_with}
use Rattle.aom_machine_state.specs.Serving.{sessionless}
use Rattle.aom_machine_state.specs.declared.parts.Parts.{Parts}
use Rattle.aom_machine_instructions.proofs.Running.{nothing_held, object_lives_at}

-- ---- what a client says of the number in the place of its session

-- which it is with a server is no matter of the session's cell
server_same : (k : Client) → server_of (sessionless k) ≡ server_of k
server_same k = grind arith

module _ (n : ℕ) where
  numbered : (server session : ℕ) → Some server ≡ Some n → cond (server == n) (session_number session) null ≡ session_number session
  numbered server session e = ap (λ b. cond b (session_number session) null) (eq-eqb server n (same_Some server n e))

  no_number : (session : ℕ) → not (session == no_cell) ≡ false → session_number session ≡ null
  no_number session e = grind arith

  own_number : (session : ℕ) → not (session == no_cell) ≡ true → session_number session ≡ session
  own_number session e = grind arith

  -- a session that went shows null
  shows_none : (k : Client) → server_of k ≡ Some n → has_cell k ≡ false → session_with n k ≡ null
  shows_none x at gone = grind (arith, nat_tests, numbered, no_number)

  -- and another its cell
  shows_cell : (k : Client) → server_of k ≡ Some n → has_cell k ≡ true → (r : ℕ) → session_of k ≡ Some r → session_with n k ≡ r
  shows_cell x at there r is = grind (arith, nat_tests, numbered, own_number, same_Some)

-- who is found has a cell
pub found_session : (k : Machine_clients) (cs : List ℕ) (c : ℕ) → first_there k cs ≡ Some c → session_of (client_at k c) ≡ None → ⊥
found_session k [] c e none = none-some c e
found_session k (d ∷ cs) c e none = go (has_cell (client_at k d)) refl e (λ e. found_session k cs c e none)
  where
    no_cell_there : (x : Client) → has_cell x ≡ true → session_of x ≡ None → ⊥
    no_cell_there (Open server session slots) there none = none-some session (sym none)
    no_cell_there (Closing server session) there none = none-some session (sym none)
    no_cell_there (Dying server session) there none = none-some session (sym none)
    no_cell_there _ there none = true≢false (sym there)

    go : (b : Bool) → has_cell (client_at k d) ≡ b → cond b (Some d) (first_there k cs) ≡ Some c → (first_there k cs ≡ Some c → ⊥) → ⊥
    go true there e rest = no_cell_there (client_at k c) (subst (λ i. has_cell (client_at k i) ≡ true) (same_Some d c e) there) none
    go false gone e rest = rest e

-- ---- the first of them

module _ (p : Image) (m : Parts) (t : Typing) (s : State) (typed : WellTyped p t s) (agrees : Agrees p m s) (n : ℕ) where
  -- these clients have their sessions with the server
  abbrev With : List ℕ → Type 0
  With cs = (c : ℕ) → is_among c cs ≡ true → server_of (client_at m.clients c) ≡ Some n

  -- the place of the session of a client
  abbrev its : ℕ → Place
  its c = Elsewhere (Session n c)

  none_there : (c : ℕ) → server_of (client_at m.clients c) ≡ Some n → has_cell (client_at m.clients c) ≡ false → held s.cells (its c) ≡ None
  none_there c at gone = grind (arith, nat_tests, nothing_held p m t s typed agrees, shows_none n)

  -- the seat of the session of that client, whose number is that
  pub record IsOwnedObject (c r : ℕ) (o : Option OwnedObject) : Type 0 where
    pub object : Object
    pub held : held s.cells (its c) ≡ Some object
    pub owned_object : o ≡ Some (record { object = object; place = its c })
    pub number : r ≡ object.name

  one_there : (c : ℕ) → server_of (client_at m.clients c) ≡ Some n → has_cell (client_at m.clients c) ≡ true →
      (r : ℕ) → session_of (client_at m.clients c) ≡ Some r → (r ≡ null → ⊥) → (x : Object) × (held s.cells (its c) ≡ Some x) × (r ≡ x.name)
  one_there c at there r is some = go (held s.cells (its c)) refl (sym (shows_cell n (client_at m.clients c) at there r is) ∙ agrees.values (its c))
    where
      go : (o : Option Object) → held s.cells (its c) ≡ o → r ≡ number o → (x : Object) × (held s.cells (its c) ≡ Some x) × (r ≡ x.name)
      go None e shown = absurd (some shown)
      go (Some x) e shown = (x, e, shown)

  first_with : (c : ℕ) (cs : List ℕ) → With (c ∷ cs) → server_of (client_at m.clients c) ≡ Some n
  first_with c cs all = all c (ap (λ b. b || is_among c cs) (eq-eqb c c refl))

  rest_with : (c : ℕ) (cs : List ℕ) → With (c ∷ cs) → With cs
  rest_with c cs all d among = grind (arith, nat_tests)

  -- where the machine finds none, none is there
  none_first : (cs : List ℕ) → With cs → first_there m.clients cs ≡ None → first_session s.cells n cs ≡ None
  none_first [] all e = refl
  none_first (c ∷ cs) all e = go (has_cell (client_at m.clients c)) refl e (λ e. none_first cs (rest_with c cs all) e)
    where
      go : (b : Bool) → has_cell (client_at m.clients c) ≡ b → cond b (Some c) (first_there m.clients cs) ≡ None →
          (first_there m.clients cs ≡ None → first_session s.cells n cs ≡ None) → first_session s.cells n (c ∷ cs) ≡ None
      go true there e rest = absurd (none-some c (sym e))
      go false gone e rest = ap (λ o. owned_object_or o (its c) (first_session s.cells n cs)) (none_there c (first_with c cs all) gone) ∙ rest e

  -- and where it finds a client, its session is the first
  some_first : (cs : List ℕ) → With cs → (c r : ℕ) → first_there m.clients cs ≡ Some c → session_of (client_at m.clients c) ≡ Some r → (r ≡ null → ⊥) →
      IsOwnedObject c r (first_session s.cells n cs)
  some_first [] all c r e is some = absurd (none-some c e)
  some_first (d ∷ cs) all c r e is some = go (has_cell (client_at m.clients d)) refl e (λ e. some_first cs (rest_with d cs all) c r e is some)
    where
      go : (b : Bool) → has_cell (client_at m.clients d) ≡ b → cond b (Some d) (first_there m.clients cs) ≡ Some c →
          (first_there m.clients cs ≡ Some c → IsOwnedObject c r (first_session s.cells n cs)) → IsOwnedObject c r (first_session s.cells n (d ∷ cs))
      go true there e rest =
          let same = same_Some d c e in
          let x = one_there c (subst (λ k. server_of (client_at m.clients k) ≡ Some n) same (first_with d cs all))
          (subst (λ k. has_cell (client_at m.clients k) ≡ true) same there) r is some in
          record {
            object = x.0;
            held = x.1;
            owned_object = ap (λ k. owned_object_or (held s.cells (its k)) (its k) (first_session s.cells n cs)) same ∙ ap (λ o. owned_object_or o (its c) (first_session s.cells n cs)) x.1;
            number = x.2;
          }
      go false gone e rest = subst (IsOwnedObject c r) (sym (ap (λ o. owned_object_or o (its d) (first_session s.cells n cs)) (none_there d (first_with d cs all) gone))) (rest e)

  -- ---- of a server's own sessions

  module _ (fit : ClientsFit p s.clients s.cells) where
    own_with : With (service_of s.cells n).sessions
    own_with c among = sym (server_same (client_at m.clients c)) ∙ ap server_of (agrees.services.clients.at c) ∙ fit.sessions n c among

    pub no_session : first_there m.clients (sessions_at m.clients n) ≡ None → first_session s.cells n (service_of s.cells n).sessions ≡ None
    no_session e = grind (arith, nat_tests, none_first, own_with)

    pub its_session : (c r : ℕ) → first_there m.clients (sessions_at m.clients n) ≡ Some c → session_of (client_at m.clients c) ≡ Some r → (r ≡ null → ⊥) →
        IsOwnedObject c r (first_session s.cells n (service_of s.cells n).sessions)
    its_session c r e is some =
        some_first (service_of s.cells n).sessions own_with c r (ap (first_there m.clients) (sym (agrees.services.clients.sessions n)) ∙ e) is some

-- ---- a session is there

-- the machine has the cell of a session
pub session_lives : (p : Image) (m : Parts) (t : Typing) (s : State) → WellTyped p t s → Agrees p m s → (n c : ℕ) (o : Object) →
    held s.cells (Elsewhere (Session n c)) ≡ Some o → Lives m.cells o.name
session_lives p m t s w agrees n c o e =
    object_lives_at p m s agrees o (held_lives s.cells (Elsewhere (Session n c)) o w.good.no_duplicates e) (session_object p n c t s w o e)

-- ---- what closes its sessions

-- is a server at hand to go, right under it
pub record ClosesOver (s : State) (us : List Task) : Type 0 where
  pub below : List Task
  pub tasks : us ≡ Destroy ∷ below
  pub object : Object
  pub held : held s.cells (Going (length below)) ≡ Some object

pub closing_found : (p : Image) (t : Typing) (s : State) → WellTyped p t s → (us : List Task) → s.tasks ≡ Closing_task ∷ us → ClosesOver s us
closing_found p t s w us top = closing_layer (λ ls. Good p t s.cells ls) us w.layers (sym w.tasks ∙ top) w.good over
  where
    dying : (o : Object) (left : List ℕ) (ls : List Layer) → tasks_of ls ≡ us → Good p t s.cells (Ending o left ∷ ls) → IsOverDying o ls → ClosesOver s us
    dying o left (Dying_layer x ∷ ls) tasks good same =
        let k = length (tasks_of ls) in
        let own = own_held p (seen s.cells) (held s.cells (Going k)) x.thing (subst (λ b. Fits p (seen s.cells) (held s.cells (Going k))
        (cond b (Own x.thing Ready) (claim p (declared p s.cells) ls (Going k)))) (eq-eqb k k refl) (good.fits (Going k))) in
        record { below = tasks_of ls; tasks = sym tasks; object = own.0; held = own.1 }
    dying o left _ tasks good same = absurd same

    over : (o : Object) (left : List ℕ) (ls : List Layer) → tasks_of ls ≡ us → Good p t s.cells (Ending o left ∷ ls) → ClosesOver s us
    over o left ls tasks good = dying o left ls tasks good good.stack.2
