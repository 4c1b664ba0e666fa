-- A move under other names, by the task at hand: the same move, and the same lines.
use Rattle.std.proofs.lemmas.Bool.Decides.{nat_tests}
use Rattle.std.proofs.Common.{arith, Bool, List, None, Option, Some, [], ap, length, refl, sym, true, ℕ, ℤ, ◌∙◌, ◌∷◌, ◌≡◌}
use Rattle.std.specs.Prelude.{option_map}
use Rattle.aom_image.specs.Image.{Image}
use Rattle.aom_image.specs.declared.method.Role.TheVariants.{Error as Answers}
use Rattle.aom_image.specs.Views.{instr_at}
use Rattle.aom_instructions.specs.declared.instr.Instr.{Instr}
use Rattle.aom_semantics.specs.World.{Observed, ObservesWell, Environment}
use Rattle.aom_semantics.specs.Cleanup.{arrived, unwound}
use Rattle.aom_clients.specs.declared.client.Client.TheVariants.{Unconnected}
use Rattle.aom_semantics.specs.Destruction.{closing, gone, parting, reclaimed}
use Rattle.aom_semantics.specs.Requests.{part_of}
use Rattle.aom_semantics.specs.Moves.{IsOpen, answered, asking, dispatch_ends, is_refused, main_ends, makes_cell}
use Rattle.aom_semantics.specs.Moves.{needs_end, object_ends, stage_ends, step, step_instr, step_task, written, written_task}
use Rattle.aom_semantics.specs.Places.{Cell, Elsewhere, Going, In_service, Object, Root, named}
use Rattle.aom_semantics.specs.State.{A_mark, An_object, An_operation, Answered, Asks, Choice, Closing, Destroy, Dispatch, Dispatched, Frame, Item}
use Rattle.aom_semantics.specs.State.{Object_left, Of_main, Of_object, Of_root, Of_server, Run, OwnedObject, Stage, State, Task, Trapped, Unwind}
use Rattle.aom_determinism.proofs.NamedCells.{cells_counted, cond_applied, emptied_kept, held_renamed, moved_renamed}
use Rattle.aom_determinism.proofs.NamedCells.{named_renamed, requested_kept, tasks_counted, without_renamed}
use Rattle.aom_determinism.proofs.Doing.{begun_renamed, dealt_renamed, destructed_renamed, does_renamed, needs_kept, reported_renamed}
use Rattle.aom_determinism.proofs.Needs.{guarded_renamed, place_owns, register_renamed, whole_kept}
use Rattle.aom_determinism.proofs.Lines.{dispatch_lines_kept, message_line_kept, queue_lines_kept}
use Rattle.aom_determinism.proofs.Serving.{each_slot_released_renamed, first_session_renamed, parted_client_renamed, parts_renamed, queue_ended_renamed}
use Rattle.aom_determinism.proofs.Serving.{service_renamed, sessions_ended_renamed, with_client_renamed, without_queue_renamed}
use Rattle.aom_determinism.proofs.Turning.{turns_so, writes_turn_so, answers_so}
use Rattle.aom_determinism.specs.Determined.{NamesMeanNothing}
use Rattle.aom_determinism.specs.Names.{IsOneToOne, renamed, renamed_cells, renamed_choice, renamed_stage, renamed_dispatch, renamed_frame}
use Rattle.aom_determinism.specs.Names.{renamed_object, renamed_outcome, renamed_owned_object, renamed_tasks, renamed_observed}

module _ (names : ℕ → ℕ) (one_to_one : IsOneToOne names) where
  instr_renamed : (p : Image) (c : Choice) (fr : Frame) (ts : List Task) (s : State) (i : Option Instr) → step_instr p
      (renamed_choice names c) (renamed_frame names fr) (renamed_tasks names ts) (renamed names s) i ≡ renamed_outcome names (step_instr p c fr ts s i)
  instr_renamed p c fr ts s x =
      grind (arith, nat_tests, needs_kept names one_to_one p c fr ts s, does_renamed names one_to_one p c fr ts s, guarded_renamed names)

  -- ---- a cell goes

  reclaimed_renamed : (o : Object) (ts : List Task) (s : State) →
      reclaimed (renamed_object names o) (renamed_tasks names ts) (renamed names s) ≡ renamed names (reclaimed o ts s)
  reclaimed_renamed o ts s = grind (
    arith,
    nat_tests,
    tasks_counted names ts,
    without_queue_renamed names one_to_one o.name s.cells,
    without_renamed names one_to_one,
    each_slot_released_renamed names,
    queue_ended_renamed names,
    sessions_ended_renamed names,
    service_renamed names one_to_one s.cells o.name,
  )

  gone_renamed : (o : Option Object) (ts : List Task) (s : State) →
      gone (option_map (renamed_object names) o) (renamed_tasks names ts) (renamed names s) ≡ renamed_outcome names (gone o ts s)
  gone_renamed x ts s = grind (arith, nat_tests, without_queue_renamed, emptied_kept, requested_kept, reclaimed_renamed, guarded_renamed names)

  -- ---- the sessions of a server

  parting_renamed : (p : Image) (o : Object) (x : Option OwnedObject) (below : List Task) (s : State) → parting p
      (renamed_object names o) (option_map (renamed_owned_object names) x) (renamed_tasks names below) (renamed names s) ≡ renamed names (parting p o x below s)
  parting_renamed p o None below s = ap (λ ts. record (renamed names s) { tasks = ts }) (destructed_renamed names p o (length s.items) below)
  parting_renamed p o (Some x) below s =
      grind (arith, nat_tests, tasks_counted names below, moved_renamed names one_to_one x.place, begun_renamed names p x.object)

  closing_renamed : (p : Image) (ts : List Task) (s : State) → closing p (renamed_tasks names ts) (renamed names s) ≡ renamed_outcome names (closing p ts s)
  closing_renamed p x s =
      grind (arith, nat_tests, tasks_counted names, held_renamed names one_to_one s.cells, service_renamed, first_session_renamed, parting_renamed)

  arrived_renamed : (p : Image) (code : ℤ) (ts : List Task) (items : List Item) (s : State) →
      arrived p code (renamed_tasks names ts) items (renamed names s) ≡ renamed_outcome names (arrived p code ts items s)
  arrived_renamed p code x items s = grind (arith, nat_tests, reported_renamed names)

  unwound_renamed : (p : Image) (code : ℤ) (ts : List Task) (s : State) (items : List Item) →
      unwound p code (renamed_tasks names ts) (renamed names s) items ≡ renamed_outcome names (unwound p code ts s items)
  unwound_renamed p code ts s [] = refl
  unwound_renamed p code ts s (An_object ∷ items) = grind (
    arith,
    nat_tests,
    whole_kept names one_to_one s.cells (An_object ∷ items),
    dealt_renamed names one_to_one p (An_object ∷ items) (Unwind code ∷ ts) s,
  )
  unwound_renamed p code ts s (An_operation m w ∷ items) = refl
  unwound_renamed p code ts s (A_mark ∷ items) = arrived_renamed p code ts items s

  main_ends_renamed : (p : Image) (b : Bool) (o : Option Object) (s : State) →
      main_ends p b (option_map (renamed_object names) o) (renamed names s) ≡ renamed names (main_ends p b o s)
  main_ends_renamed p true (Some o) s =
      rw (moved_renamed names one_to_one (Elsewhere Root) (Going 1) s.cells, begun_renamed names p o (length s.items) (Dispatched Of_root ∷ []))
  main_ends_renamed p _ _ s = refl

  object_ends_renamed : (p : Image) (s : State) → object_ends p (renamed names s) ≡ renamed names (object_ends p s)
  object_ends_renamed p s = grind (arith, nat_tests, held_renamed names one_to_one s.cells (Elsewhere Root), main_ends_renamed p s.rest.stopped)

  answered_renamed : (p : Image) (answer : ℤ) (s : State) → answered p answer (renamed names s) ≡ renamed names (answered p answer s)
  answered_renamed p answer s = grind (arith, nat_tests, object_ends_renamed p s, cond_applied)

  asking_renamed : (p : Image) (m : Option ℕ) (x : OwnedObject) (code : ℤ) (s : State) →
      asking p m (renamed_owned_object names x) code (renamed names s) ≡ renamed names (asking p m x code s)
  asking_renamed p x y code s = grind (arith, nat_tests, answered_renamed p code s)

  -- the end of a stage
  stage_ends_renamed : (x : OwnedObject) (c : ℕ) (stage : Stage) (s : State) →
      stage_ends (renamed_owned_object names x) c (renamed_stage names stage) (renamed names s) ≡ renamed names (stage_ends x c stage s)
  stage_ends_renamed x c y s = grind (
    arith,
    nat_tests,
    with_client_renamed names c Unconnected s.clients,
    without_renamed names one_to_one (Elsewhere In_service) s.cells,
    parts_renamed names one_to_one c x.object.name s.cells,
    parted_client_renamed names c s.clients,
  )

  end_needs_kept : (d : Dispatch) (cs : List Cell) → needs_end (renamed_dispatch names d) (renamed_cells names cs) ≡ needs_end d cs
  end_needs_kept x cs = grind (arith, nat_tests, place_owns names one_to_one cs (Elsewhere In_service))

  ends_renamed : (p : Image) (d : Dispatch) (s : State) → dispatch_ends p (renamed_dispatch names d) (renamed names s) ≡ renamed names (dispatch_ends p d s)
  ends_renamed p Of_main s = grind (arith, nat_tests, held_renamed names one_to_one s.cells (Elsewhere Root), main_ends_renamed p s.rest.stopped)
  ends_renamed p (Of_object x) s = object_ends_renamed p s
  ends_renamed p (Object_left x code) s = asking_renamed p (part_of p Answers x.object.thing) x code s
  ends_renamed p (Asks x) s = object_ends_renamed p s
  ends_renamed p (Answered x answer) s = answered_renamed p answer s
  ends_renamed p (Of_server x c stage) s = stage_ends_renamed x c stage s
  ends_renamed p _ s = refl

  task_renamed : (p : Image) (c : Choice) (s : State) (ts : List Task) →
      step_task p (renamed_choice names c) (renamed names s) (renamed_tasks names ts) ≡ renamed_outcome names (step_task p c s ts)
  task_renamed p c s [] = refl
  task_renamed p c s (Run fr ∷ ts) = instr_renamed p c fr ts s (instr_at p fr.method fr.place)
  task_renamed p c s (Trapped ∷ ts) = refl
  task_renamed p c s (Destroy ∷ ts) = grind (arith, nat_tests, tasks_counted names ts, held_renamed names one_to_one s.cells, gone_renamed)
  task_renamed p c s (Unwind code ∷ ts) = unwound_renamed p code ts s s.items
  task_renamed p c s (Closing ∷ ts) = closing_renamed p ts s
  task_renamed p c s (Dispatched d ∷ ts) = grind (arith, nat_tests, end_needs_kept d s.cells, ends_renamed p d s, guarded_renamed names)

  -- ---- what is counted and written

  makes_kept : (p : Image) (ts : List Task) → makes_cell p (renamed_tasks names ts) ≡ makes_cell p ts
  makes_kept p x = grind arith

  pub moves_so : (p : Image) (c : Choice) (s : State) → step p (renamed_choice names c) (renamed names s) ≡ renamed_outcome names (step p c s)
  moves_so p c s = grind (arith, nat_tests, task_renamed p c)

  task_writes : (p : Image) (s : State) (ts : List Task) → written_task p (renamed names s) (renamed_tasks names ts) ≡ written_task p s ts
  task_writes p s x = grind (
    arith,
    nat_tests,
    register_renamed,
    message_line_kept,
    tasks_counted names,
    held_renamed names one_to_one s.cells,
    queue_lines_kept names one_to_one s.cells,
    dispatch_lines_kept names one_to_one s.cells,
  )

  pub writes_so : (p : Image) (s : State) → written p (renamed names s) ≡ written p s
  writes_so p s = rw (task_writes p s s.tasks)

  pub refused_so : (p : Image) (refused : List ℕ) (s : State) → is_refused p refused (renamed names s) ≡ is_refused p refused s
  refused_so p refused s = rw (makes_kept p s.tasks, cells_counted names s.cells)

  none_named : (o : Option Object) → o ≡ None → option_map (renamed_object names) o ≡ None
  none_named o e = ap (option_map (renamed_object names)) e

  pub free_so : (s : State) (n : ℕ) → named s.cells n ≡ None → named (renamed_cells names s.cells) (names n) ≡ None
  free_so s n e = named_renamed names one_to_one s.cells n ∙ none_named (named s.cells n) e

  pub opens_so : (p : Image) (refused : List ℕ) (c : Choice) (s : State) → IsOpen p refused c s → IsOpen p refused (renamed_choice names c) (renamed names s)
  opens_so p refused c s h = record { name = free_so s c.name h.name; refusal = h.refusal ∙ sym (refused_so p refused s); answer = h.answer }

  observes_so : (p : Image) (outside : Environment) (observed : Observed) (s : State) → ObservesWell p outside observed s →
      ObservesWell p outside (renamed_observed names observed) (renamed names s)
  observes_so p outside observed s well = record { completion = answers_so names one_to_one p outside observed s well.completion; name = free_so s observed.name well.name }

pub names_mean_nothing : NamesMeanNothing
names_mean_nothing = search (arith, nat_tests, opens_so, moves_so, writes_so, turns_so, observes_so, writes_turn_so)
