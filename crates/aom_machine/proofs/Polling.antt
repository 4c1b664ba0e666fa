-- A native is polled: what it completes is outstanding there, and the machine then stands for the state that the checked machine goes to.
use Rattle.std.proofs.lemmas.Bool.Decides.{nat_tests}
use Rattle.std.proofs.Common.{ap, cond, None, Option, refl, Some, subst, suc, sym, true, ℕ, ℤ, ◌∙◌, ◌≡◌, [], arith}
use Rattle.std.specs.Prelude.{◌&&◌, IfSome, IsTrue, is_some}
use Rattle.std.proofs.lemmas.Bool.{and_parts}
use Rattle.aom_image.specs.Image.{Image}
use Rattle.aom_cells.specs.Heap.{Lives}
use Rattle.aom_machine_state.specs.LineBuffer.{LineBuffer}
use Rattle.aom_scheduler.specs.Requests.{is_pending, request_at}
use Rattle.aom_machine.proofs.ActiveObjectsLemmas.{timer_anew}
use Rattle.aom_active_objects.specs.Agrees.{Active, queued, timer_in}
use Rattle.aom_active_objects.specs.Meanings.{Makes}
use Rattle.aom_determinism.specs.Owed.{owes, serves, serves_object}
use Rattle.aom_machine.proofs.SafetyLemmas.{comes_asked, completed, fit_same, on_none, recorded_so, same_requested}
use Rattle.aom_semantics.specs.Requests.{completed_with, on_request, recorded}
use Rattle.aom_semantics.specs.Natives.{is_outstanding_at, is_owed, is_served_by}
use Rattle.aom_semantics.specs.Places.{Object, Request, named, requested}
use Rattle.aom_semantics.specs.State.{CompletedTwice, Goes, IsStuck, Counters, State, FitsWord}
use Rattle.aom_semantics.specs.World.{AnswersWell, Completion, Polls, answered_by, past_native, turned, with_request}
use Rattle.aom_termination.specs.Left.{is_entry}
use Rattle.aom_machine.proofs.TerminationLemmas.{asked_same}
use Rattle.aom_machine_state.specs.declared.parts.Parts.{Parts}
use Rattle.aom_machine_state.specs.declared.progress.Progress.TheVariants.{Turned}
use Rattle.aom_machine_state.specs.Agrees.{Agrees, Represents, word_at}
use Rattle.aom_machine_state.specs.Places.{value}
use Rattle.aom_machine_state.specs.Progress.{progress_by}
use Rattle.aom_machine.specs.Serving.{Finishes}
use Rattle.aom_machine_state.specs.Stands.{MachineModel, Stands, Refines}
use Rattle.aom_machine.specs.Turns.{Answers, Takes}
use Rattle.aom_machine.proofs.MachineStateLemmas.{cell_of, natives_asked, pending_reported, services_asked}
use Rattle.aom_machine.proofs.Served.{Placed, coded, its_place, owes_in_all, served_object, untimed, unreported}
use Rattle.aom_semantics.specs.Tokens.{awaited}
use Rattle.aom_machine.proofs.Idle.{stands_idle}
use Rattle.aom_machine.proofs.Timers.{timers_same}
use Rattle.aom_machine.proofs.Turning.{alike, cells_then, machine_between, order_same, requests_asked, rest_turns, silent}

-- what a native completes is outstanding there, in some state that the machine stands for
abbrev pub IsOwed : MachineModel → (native : ℕ) → Option (ℕ × ℤ) → Type 0
IsOwed m native completion = IfSome completion (λ x. (s : State) × Refines m s × (owes m.image s.cells native x.0 ≡ true))

-- from each state that it stands for the machine takes the poll that completes that
abbrev pub PollsAll : (native : ℕ) → Option (ℕ × ℤ) → (old new : MachineModel) → Type 0
PollsAll native completion old new = (s : State) → Refines old s → (answer : Option Completion) × Answers s.cells completion answer
    × AnswersWell old.image s (Polls native answer) × ((reported : LineBuffer) → Takes old s (Polls native answer) reported reported new)

some_request : (q : Option Request) → is_owed q ≡ true → (r : Request) × (q ≡ Some r)
some_request x e = grind arith

module _ (p : Image) (m : Parts) (native : ℕ) where
  abbrev was : MachineModel
  was = record { image = p; parts = m }

  abbrev now : Active → MachineModel
  now a = record { image = p; parts = record m { active = a; rest = record m.rest { polled = suc native } } }

  -- ---- the request of one cell

  module _ (s : State) (st : Refines was s) (id : ℕ) (owed : owes p s.cells native id ≡ true) where
    both : (serves p s.cells native id ≡ true) × (is_owed (requested s.cells id) ≡ true)
    both = and_parts (serves p s.cells native id) (is_owed (requested s.cells id)) owed

    it : Placed s.cells id
    it = its_place p m s st native id both.0

    request : (r : Request) × (requested s.cells id ≡ Some r)
    request = some_request (requested s.cells id) both.1

    lives_pending : Lives m.cells id × IsTrue (is_pending (request_at m.active.table id))
    lives_pending = (
      ap is_some (cell_of p m.cells s.cells id it.cell.object st.agrees.cells it.lives
          (served_object p native it.cell.object.thing (sym (ap (serves_object p native) it.lives) ∙ both.0))).1,
      pending_reported (request_at m.active.table id) (requested s.cells id) (queued p s.cells id) (st.agrees.requests.stands.reports id)
          (coded p m s st native id both.0) both.1,
    )

    module _ (code : ℤ) (a : Active) (makes : Makes m.active a id (completed_with (recorded code))) where
      -- it has no timer before or after
      one_timers : a.pending.timers ≡ m.active.pending.timers
      one_timers =
          let r = request.0 in
          let none : r.timer ≡ None = sym (ap timer_in request.1) ∙ untimed p m s st native id both.0 in
          timers_same m.active a (requested s.cells) _ (queued p s.cells)
          (queued p s.cells) (timer_anew id r (completed_with (recorded code) r) (requested s.cells) request.1 none) st.agrees.requests.stands
          (makes.stands (requested s.cells) (queued p s.cells) r st.agrees.requests.stands request.1)

      module _ (idle : s.tasks ≡ []) where
        abbrev object : Object
        object = it.cell.object

        abbrev f : Request → Request
        f = completed_with (recorded code)

        abbrev counts : Counters
        counts = record s.rest { polled = suc native }

        abbrev then : State
        then = past_native native (record s { cells = with_request f object s.cells })

        lives : named s.cells object.name ≡ Some object
        lives = ap (named s.cells) it.name ∙ it.lives

        asked : requested s.cells object.name ≡ Some request.0
        asked = ap (requested s.cells) it.name ∙ request.1

        -- it waited for no token, and waits for none
        waits_for_none : awaited (on_request f (requested s.cells object.name)) ≡ awaited (requested s.cells object.name)
        waits_for_none = ap (λ q. awaited (on_request f q)) asked ∙ sym (ap (λ n. awaited (requested s.cells n)) it.name ∙ unreported p m s st native id both.0)

        polled_agrees : Agrees p (now a).parts then
        polled_agrees = record {
          tasks = st.agrees.tasks;
          values = λ q. subst (λ h. Represents (value m q) (word_at s.tasks q) h) (sym ((alike s.cells object f).held_so q)) (st.agrees.values q);
          cells = cells_then s.cells object f p m.cells st.agrees.cells;
          entries = st.agrees.entries;
          requests = requests_asked s.cells object f p m.active a request.0 lives asked (subst (λ n. Makes m.active a n f) (sym it.name) makes) st.agrees.requests;
          natives = natives_asked p m.sessions s.killed s.cells object.name _ st.agrees.natives;
          services = services_asked p s.cells object (on_request f (requested s.cells object.name)) lives
              (order_same f (λ r. refl) (requested s.cells object.name)) waits_for_none st.agrees.services;
          rest = ap (λ (r : Counters). record r { polled = suc native }) st.agrees.rest;
          room = st.agrees.room;
          entry_room = st.agrees.entry_room;
        }

        polled_stands : Refines (now a) then
        polled_stands = stands_idle p m s st idle (now a).parts (with_request f object s.cells) s.clients counts s.killed
            (completed p st.typing s st.typed idle (recorded code) (recorded_so code) object counts) (fit_same p s.clients s.cells _
            (same_requested s.cells object (on_request f (requested s.cells object.name)) (λ e. on_none f (requested s.cells object.name) e)) st.kept.fit)
            (comes_asked s.cells object.name (on_request f (requested s.cells object.name)) (λ k e. sym waits_for_none ∙ e))
            (asked_same st.sound.prices is_entry object.name (on_request f (requested s.cells object.name)) s.cells) refl polled_agrees

        outstanding : is_outstanding_at p native it.cell ≡ true
        outstanding = sym (ap (λ o. serves_object p native o && is_owed (requested s.cells id)) it.lives
            ∙ ap (λ q. is_served_by p native object.thing && is_owed q) it.asked) ∙ owed

        abbrev answer : Completion
        answer = record { cell = it.index; code = code }

        goes : turned p s (Polls native (Some answer)) ≡ Goes then
        goes = ap (λ c. answered_by p native c code s) it.at ∙ ap (λ b. cond b (Goes then) (IsStuck CompletedTwice)) outstanding

  -- ---- whatever it completes

  pub owed_pending : (completion : Option (ℕ × ℤ)) → IsOwed was native completion →
      IfSome completion (λ x. Lives m.cells x.0 × IsTrue (is_pending (request_at m.active.table x.0)))
  owed_pending None owed = tt
  owed_pending (Some x) owed = lives_pending owed.0 owed.1 x.0 owed.2

  pub polled_timers : (completion : Option (ℕ × ℤ)) (a : Active) → IsOwed was native completion → Finishes completion m.active a →
      a.pending.timers ≡ m.active.pending.timers
  polled_timers None a owed same = ap (λ (x : Active). x.pending.timers) same
  polled_timers (Some x) a owed makes = one_timers owed.0 owed.1 x.0 owed.2 x.1 a makes

  module _ (turned_now : progress_by m.rest.ended m.stack.tasks ≡ Turned) where
    nothing : PollsAll native None was (now m.active)
    nothing s st =
        (None, tt, tt, λ reported. rest_turns p m turned_now (Polls native None) (λ r. record r { polled = suc native }) (λ s. (refl, refl)) (λ r. refl) reported s st)

    pub polls_well : (completion : Option (ℕ × ℤ)) (a : Active) →
        IfSome completion (λ x. FitsWord x.1) → IsOwed was native completion → Finishes completion m.active a → PollsAll native completion was (now a)
    polls_well None a fits owed same s st = subst (λ x. PollsAll native None was (now x)) (sym same) nothing s st
    polls_well (Some x) a fits owed makes s st =
        let here = owes_in_all p m native x.0 owed.0 s owed.1 st owed.2 in
        let idle = (machine_between was s st turned_now).idle in
        let c = it s st x.0 here in (
          Some (answer s st x.0 here x.1 a makes idle),
          (c.cell, c.at, c.name, refl),
          (c.cell, c.at, outstanding s st x.0 here x.1 a makes idle, fits),
          grind (arith, nat_tests, machine_between, goes s st x.0 here x.1 a makes idle, silent, polled_stands s st x.0 here x.1 a makes idle),
        )

    -- and it stands for one again
    pub polled_again : (completion : Option (ℕ × ℤ)) (a : Active) → IfSome completion (λ x. FitsWord x.1) → IsOwed was native completion →
        Finishes completion m.active a → Stands was → Stands (now a)
    polled_again completion a fits owed finishes (s, st) = let t =
        (polls_well completion a fits owed finishes s st).3 (record { lines = []; refused = []; room = 0 }) in (t.state, t.stands)
