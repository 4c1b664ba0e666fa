-- What a machine shows of the step that is next is what each state that it stands for has: by what agrees of tasks, cells and the root.
use Rattle.std.proofs.Common.{◌≡◌, ◌≢◌, ◌∙◌, ◌<◌, ℕ, Bool, true, false, not, List, ◌∷◌, length, Option, Some, None, refl, sym, ap, arith, subst, IsSome}
use Rattle.std.proofs.Common.{cond, ◌==◌}
use Rattle.std.specs.Prelude.{is_some}
use Rattle.std.proofs.lemmas.Option.{none-some, same_Some}
use Rattle.std.proofs.lemmas.Bool.{eq-eqb, eqb-true, false≢true, ne_eqb}
use Rattle.aom_machine_instructions.specs.Serving.{session_there}
use Rattle.aom_clients.specs.Clients.{client_at, first_there, sessions_at}
use Rattle.aom_clients.specs.Table.{session_of}
use Rattle.aom_debug_stepping.proofs.ImageLemmas.{some_given}
use Rattle.aom_image.specs.Image.{Image}
use Rattle.aom_image.specs.declared.method.Role.TheVariants.{Destruct}
use Rattle.aom_image.specs.declared.method.Thing.TheVariants.{Object as An_object_of}
use Rattle.aom_link_conditions.specs.Roles.{role_of}
use Rattle.aom_cells.specs.Heap.{Lives, cell_at, class_at, class_of, null}
use Rattle.aom_frames.specs.Tasks.{TopFrameIs, method_here, place_here}
use Rattle.aom_frames.specs.declared.task.Task.{Task as Machine_task}
use Rattle.aom_frames.specs.declared.task.Task.TheVariants.{Closing as Closes, Destroy as Destroy_held}
use Rattle.aom_frames.specs.declared.dispatch.Dispatch.{Dispatch as Machine_dispatch}
use Rattle.aom_semantics.specs.Destruction.{first_session}
use Rattle.aom_semantics.specs.Places.{Elsewhere, Going, Object, Place, Root, Session, held, named, service_of}
use Rattle.aom_semantics.specs.State.{Closing, Destroy, Dispatch, Dispatched as Ends_state, OwnedObject, State, Task}
use Rattle.aom_debug_stepping.proofs.SemanticsLemmas.{held_lives}
use Rattle.aom_machine_state.specs.declared.parts.Parts.{Parts}
use Rattle.aom_machine_state.specs.Agrees.{SameTasks, dispatch_of, number, number as number_of_object, thing_in}
use Rattle.aom_machine_state.specs.Places.{IsClosing, IsDestroying, going_here, going_in, value}
use Rattle.aom_machine_state.specs.Stands.{Refines}
use Rattle.aom_debug_stepping.proofs.MachineStateLemmas.{Alike, alike, both_close, both_end, both_go, both_run, class_reported, is_an_object, same_length}
use Rattle.aom_machine_instructions.specs.Going.{ending_here}
use Rattle.aom_debug_stepping.proofs.MachineInstructionsLemmas.{ClosesOver, closing_found, found_session, its_session, no_session, nothing_held, object_lives_at}
use Rattle.aom_debug_stepping.proofs.MachineInstructionsLemmas.{object_there, session_lives}
use Rattle.aom_debug_protocol.specs.declared.answer.Answer.{Answer}
use Rattle.aom_debug_protocol.specs.declared.answer.Answer.TheVariants.{At, Gone}
use Rattle.aom_debug_stepping.specs.Next.{GoesFirst, begins_by, destroyed_under, destruction_by, destruction_of, first_number, goes_first, gone_by}
use Rattle.aom_debug_stepping.specs.Next.{going_of, next_in}

-- what goes is on top
at_top : (x : ℕ) (ms : List Machine_task) (d : ℕ) → length ms ≡ d → going_in (Destroy_held x ∷ ms) d ≡ x
at_top x ms d is = subst (λ k. cond k x (going_in ms d) ≡ x) (sym (eq-eqb (length ms) d is)) refl

-- no dispatch is at its end
abbrev pub NoEnd : List Task → Type 0
NoEnd (Ends_state d ∷ ts) = ⊥
NoEnd _ = Unit {0}

module _ (p : Image) (m : Parts) (s : State) (st : Refines (record { image = p; parts = m }) s) where
  -- what lives under a number is of the class of the machine's cell there
  thing_at : (o : Object) (n class : ℕ) → named s.cells o.name ≡ Some o → n ≡ o.name → class_at m.cells n ≡ Some class → o.thing ≡ An_object_of class
  thing_at o n class lives name reported = some_given (λ c. class_of c ≡ Some class) (cell_at m.cells n) reported (λ none. absurd (none-some class none)) (λ c is reported.
      let here : cell_at m.cells o.name ≡ Some c = ap (cell_at m.cells) (sym name) ∙ is in
      let object = is_an_object p m.cells s.cells o.name o st.agrees.cells lives (ap is_some here) in
      let thing : Some (An_object_of c.class) ≡ Some o.thing = ap thing_in (sym here) ∙ class_reported p m.cells s.cells o.name o st.agrees.cells lives object in
      sym (same_Some (An_object_of c.class) o.thing thing) ∙ ap An_object_of (same_Some c.class class reported))

  -- where a machine has a number that lives, the place owns something
  owns_living : (q : Place) (n : ℕ) → n ≡ number (held s.cells q) → Lives m.cells n → (o : Object) × (held s.cells q ≡ Some o) × (n ≡ o.name)
  owns_living q n is lives = go (held s.cells q) refl is
    where
      go : (x : Option Object) → held s.cells q ≡ x → n ≡ number x → (o : Object) × (held s.cells q ≡ Some o) × (n ≡ o.name)
      go None e is = absurd (false≢true (sym (ap is_some (ap (cell_at m.cells) is ∙ st.agrees.cells.null_is_none)) ∙ lives))
      go (Some o) e is = (o, e, is)

  -- ---- the root

  pub root_shows : m.root ≡ number (held s.cells (Elsewhere Root))
  root_shows = st.agrees.values (Elsewhere Root)

  pub root_owns_nothing : m.root ≡ null → held s.cells (Elsewhere Root) ≡ None
  root_owns_nothing is = nothing_held p m st.typing s st.typed st.agrees (Elsewhere Root) (sym is ∙ root_shows)

  pub root_owns : m.root ≢ null → (o : Object) × (held s.cells (Elsewhere Root) ≡ Some o) × (m.root ≡ o.name)
  root_owns some = go (held s.cells (Elsewhere Root)) refl
    where
      go : (o : Option Object) → held s.cells (Elsewhere Root) ≡ o → (x : Object) × (held s.cells (Elsewhere Root) ≡ Some x) × (m.root ≡ x.name)
      go None e = absurd (some (root_shows ∙ ap number e))
      go (Some x) e = (x, e, root_shows ∙ ap number e)

  pub root_reported : not (m.root == null) ≡ is_some (held s.cells (Elsewhere Root))
  root_reported = go (m.root == null) refl
    where
      go : (b : Bool) → (m.root == null) ≡ b → not b ≡ is_some (held s.cells (Elsewhere Root))
      go true e = sym (ap is_some (root_owns_nothing (eqb-true m.root null e)))
      go false e = sym (ap is_some (root_owns (λ is. false≢true (sym e ∙ eq-eqb m.root null is))).1)

  -- ---- what goes first

  -- a cell's number is below the queues of servers
  pub within_queues : (n : ℕ) → Lives m.cells n → n < length m.clients.queues
  within_queues n lives = some_given (λ c. IsSome c) (cell_at m.cells n) lives (λ none. absurd (cc)) (λ c is some.
      let below = st.agrees.cells.below n c is in
      let limit = st.agrees.cells.limit in
      let queues = st.agrees.services.sized.queues in
      omega (arith, below, limit, queues))

  -- the first session with it that is there, told by its client, or itself
  data Firsts (n first : ℕ) : Option OwnedObject → Type 0 where
    itself : first ≡ n → Firsts n first None
    a_session : (c : ℕ) (o : Object) → held s.cells (Elsewhere (Session n c)) ≡ Some o → first ≡ o.name →
        Firsts n first (Some (record { object = o; place = Elsewhere (Session n c) }))

  firsts : (n first : ℕ) → GoesFirst m n first → Firsts n first (first_session s.cells n (service_of s.cells n).sessions)
  firsts n first goes = go (first_there m.clients (sessions_at m.clients n)) refl
    where
      its : (c : ℕ) → first_there m.clients (sessions_at m.clients n) ≡ Some c →
          (r : Option ℕ) → session_of (client_at m.clients c) ≡ r → Firsts n first (first_session s.cells n (service_of s.cells n).sessions)
      its c found None none = absurd (found_session m.clients (sessions_at m.clients n) c found none)
      its c found (Some r) reported =
          let is : first ≡ r = goes.number ∙ ap (λ o. first_number (session_there o m.clients) n) found ∙ ap (λ o. first_number o n) reported in
          let owned_object = its_session p m st.typing s st.typed st.agrees n st.kept.fit c r found reported (λ e. let below = goes.below in omega (arith, below, is, e)) in
          subst (Firsts n first) (sym owned_object.owned_object) (a_session c owned_object.object owned_object.held (is ∙ owned_object.number))

      go : (o : Option ℕ) → first_there m.clients (sessions_at m.clients n) ≡ o → Firsts n first (first_session s.cells n (service_of s.cells n).sessions)
      go None e = subst (Firsts n first)
          (sym (no_session p m st.typing s st.typed st.agrees n st.kept.fit e)) (itself (goes.number ∙ ap (λ o. first_number (session_there o m.clients) n) e))
      go (Some c) e = its c e (session_of (client_at m.clients c)) refl

  pub first_lives : (n first : ℕ) → Lives m.cells n → GoesFirst m n first → Lives m.cells first
  first_lives n first lives goes = elim (firsts n first goes) as (λ o f. Lives m.cells first) [
    | itself is ↦ subst (Lives m.cells) (sym is) lives
    | a_session c o holds is ↦ subst (Lives m.cells) (sym is) (session_lives p m st.typing s st.typed st.agrees n c o holds)
  ]

  -- its destruction begins with that of what goes first
  begins_with : (o : Object) (first class : ℕ) → named s.cells o.name ≡ Some o →
      GoesFirst m o.name first → class_at m.cells first ≡ Some class → begins_by class (role_of p class Destruct) ≡ destruction_of p s.cells (Some o)
  begins_with o first class lives goes reported =
      elim (firsts o.name first goes) as (λ x f. begins_by class (role_of p class Destruct) ≡ destruction_by p (goes_first o x)) [
        | itself is ↦ sym (ap (destruction_by p) (thing_at o first class lives is reported))
        | a_session c x holds
            is ↦ sym (ap (destruction_by p) (thing_at x first class (held_lives s.cells (Elsewhere (Session o.name c)) x st.typed.good.no_duplicates holds) is reported))
      ]

  pub destroyed_reported : (q : Place) (n first class : ℕ) → n ≡ number (held s.cells q) → Lives m.cells n →
      GoesFirst m n first → class_at m.cells first ≡ Some class → begins_by class (role_of p class Destruct) ≡ destruction_of p s.cells (held s.cells q)
  destroyed_reported q n first class is lives goes reported =
      let x = owns_living q n is lives in
      begins_with x.0 first class (held_lives s.cells q x.0 st.typed.good.no_duplicates x.1) (subst (λ k. GoesFirst m k first) x.2 goes) reported
      ∙ sym (ap (destruction_of p s.cells) x.1)

  -- ---- the task on top

  pub runs_reported : TopFrameIs m.stack.tasks → At (record { method = method_here m.stack.tasks; place = place_here m.stack.tasks }) ≡ next_in p s s.tasks
  runs_reported runs = go (alike m.stack.tasks s.tasks st.agrees.tasks) runs
    where
      go : {ms : List Machine_task} {us : List Task} → Alike ms us → TopFrameIs ms → At (record { method = method_here ms; place = place_here ms }) ≡ next_in p s us
      go (both_run f fr ms ts same below more) runs =
          ap (λ (n : ℕ). At (record { method = n; place = f.place })) same.method ∙ ap (λ (n : ℕ). At (record { method = fr.method; place = n })) same.place
      go _ runs = absurd runs

  pub goes_reported : (number class : ℕ) → IsDestroying m.stack.tasks →
      number ≡ going_here m.stack.tasks → Lives m.cells (going_here m.stack.tasks) → class_at m.cells number ≡ Some class → Gone class ≡ next_in p s s.tasks
  goes_reported number class going is lives reported = go refl refl (alike m.stack.tasks s.tasks st.agrees.tasks) going is
    where
      shows : (x : ℕ) (ms : List Machine_task) (ts : List Task) → m.stack.tasks ≡ Destroy_held x ∷ ms → SameTasks ms ts →
          x ≡ number_of_object (held s.cells (Going (length ts)))
      shows x ms ts e same =
          let here : value m (Going (length ts)) ≡ x = ap (λ us. going_in us (length ts)) e ∙ at_top x ms (length ts) (same_length ms ts same) in
          sym here ∙ st.agrees.values (Going (length ts))

      owned : (x : ℕ) (ts : List Task) (o : Option Object) → held s.cells (Going (length ts)) ≡ o → x ≡ number_of_object o → number ≡ x →
          IsSome (cell_at m.cells number) → Gone class ≡ going_of o
      owned x ts None e shown same some = absurd (false≢true (sym (ap is_some (ap (cell_at m.cells) (same ∙ shown) ∙ st.agrees.cells.null_is_none)) ∙ some))
      owned x ts (Some o) e shown same some =
          sym (ap gone_by (thing_at o number class (held_lives s.cells (Going (length ts)) o st.typed.good.no_duplicates e) (same ∙ shown) reported))

      go : {ms : List Machine_task} {us : List Task} → m.stack.tasks ≡ ms → s.tasks ≡ us → Alike ms us → IsDestroying ms → number ≡ going_here ms →
          Gone class ≡ next_in p s us
      go e f (both_go x ms ts small same more) going is = owned x ts
          (held s.cells (Going (length ts))) refl (shows x ms ts e same) is (subst (λ k. IsSome (cell_at m.cells k)) (sym (is ∙ sym (ap going_here e))) lives)
      go e f _ going is = absurd going

  -- ---- where a server lets go of its sessions

  -- what it lets go stands right under the task on top, on both sides
  pub record ClosesAt (x : ℕ) : Type 0 where
    pub under : destroyed_under m.stack.tasks ≡ Some x
    pub below : List Task
    pub tasks : s.tasks ≡ Closing ∷ Destroy ∷ below
    pub number : x ≡ number (held s.cells (Going (length below)))
    pub lives : Lives m.cells x

  pub closes_at : IsClosing m.stack.tasks → (x : ℕ) × ClosesAt x
  closes_at closing = go refl refl (alike m.stack.tasks s.tasks st.agrees.tasks) closing
    where
      second : (x : ℕ) (ms : List Machine_task) (ts : List Task) → m.stack.tasks ≡ Closes ∷ Destroy_held x ∷ ms →
          s.tasks ≡ Closing ∷ Destroy ∷ ts → x < 4096 → SameTasks ms ts → (o : Object) → held s.cells (Going (length ts)) ≡ Some o → ClosesAt x
      second x ms ts e f small same o holds =
          let deep = same_length ms ts same in
          let over : (length (Destroy_held x ∷ ms) == length ts) ≡ false = ne_eqb (length (Destroy_held x ∷ ms)) (length ts) (λ even. omega (arith, even, deep)) in
          let here : value m (Going (length ts)) ≡ x = ap (λ us. going_in us (length ts)) e
          ∙ ap (λ b. cond b null (going_in (Destroy_held x ∷ ms) (length ts))) over ∙ at_top x ms (length ts) deep in
          let named_so = held_lives s.cells (Going (length ts)) o st.typed.good.no_duplicates holds in
          let is : x ≡ number (held s.cells (Going (length ts))) = sym here ∙ st.agrees.values (Going (length ts)) in
          let own : x ≡ o.name = is ∙ ap number holds in
          record {
            under = ap destroyed_under e;
            below = ts;
            tasks = f;
            number = is;
            lives = subst (Lives m.cells) (sym own)
                (object_lives_at p m s st.agrees o named_so (object_there p m s st.agrees o named_so (omega (arith, small, own))));
          }

      first : (ms : List Machine_task) (ts : List Task) → m.stack.tasks ≡ Closes ∷ ms → s.tasks ≡ Closing ∷ ts → Alike ms ts → ClosesOver s ts → (x : ℕ) × ClosesAt x
      first ms ts e f like over = with_both like e f over.tasks
        where
          with_both : {ms : List Machine_task} {ts : List Task} → Alike ms ts → m.stack.tasks ≡ Closes ∷ ms → s.tasks ≡ Closing ∷ ts →
              ts ≡ Destroy ∷ over.below → (x : ℕ) × ClosesAt x
          with_both (both_go x ns us small same more) e f g =
              let rest : us ≡ over.below = cc in
              (x, second x ns us e f small same over.object (ap (λ vs. held s.cells (Going (length vs))) rest ∙ over.held))
          with_both _ e f g = cc

      go : {ms : List Machine_task} {us : List Task} → m.stack.tasks ≡ ms → s.tasks ≡ us → Alike ms us → IsClosing ms → (x : ℕ) × ClosesAt x
      go e f (both_close ms ts same more) closing = first ms ts e f more (closing_found p st.typing s st.typed ts f)
      go e f _ closing = absurd closing

  -- so what is next is the first step of its destruction
  pub closes_next_reported : (x : ℕ) (at : ClosesAt x) (reported : Answer) → reported ≡ destruction_of p s.cells (held s.cells (Going (length at.below))) →
      reported ≡ next_in p s s.tasks
  closes_next_reported x at reported is = is ∙ sym (ap (next_in p s) at.tasks)

  -- ---- the end of a dispatch

  pub ends_reported : (d : Machine_dispatch) (all : Dispatch → Bool) (in_tasks : List Task → Bool) (b : Bool) → ((e : Dispatch) (ts : List Task) →
      in_tasks (Ends_state e ∷ ts) ≡ all e) → ending_here m.stack.tasks ≡ Some d → ((q : Place) → b ≡ all (dispatch_of q d)) → b ≡ in_tasks s.tasks
  ends_reported d all in_tasks b is ending by = go (alike m.stack.tasks s.tasks st.agrees.tasks) ending
    where
      go : {ms : List Machine_task} {us : List Task} → Alike ms us → ending_here ms ≡ Some d → b ≡ in_tasks us
      go (both_end x e ms ts same rest more) ending =
          let which : x ≡ d = same_Some x d ending in
          by same.0 ∙ ap all (ap (dispatch_of same.0) (sym which) ∙ same.1) ∙ sym (is e ts)
      go _ ending = absurd (none-some d ending)

  pub none_ends_reported : (in_tasks : List Task → Bool) → ((us : List Task) → NoEnd us → in_tasks us ≡ false) → ending_here m.stack.tasks ≡ None →
      false ≡ in_tasks s.tasks
  none_ends_reported in_tasks is none = go (alike m.stack.tasks s.tasks st.agrees.tasks) none
    where
      go : {ms : List Machine_task} {us : List Task} → Alike ms us → ending_here ms ≡ None → false ≡ in_tasks us
      go (both_end x e ms ts same rest more) none = absurd (none-some x (sym none))
      go {us} _ none = sym (is us tt)
