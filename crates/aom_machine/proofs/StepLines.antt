-- The lines of a step: what its move writes, and the moves after it that count as none.
use Rattle.std.proofs.lemmas.Bool.Decides.{nat_tests}
use Rattle.std.proofs.Common.{◌≡◌, ◌≤◌, ◌+◌, ℕ, ℤ, length, List, [], ◌∷◌, Option, Some, sym, subst, arith}
use Rattle.std.proofs.lemmas.List.{length-append}
use Rattle.aom_image.specs.Image.{Image}
use Rattle.aom_semantics.specs.Cleanup.{arrival}
use Rattle.aom_semantics.specs.Lines.{message_line, queue_lines, stage_lines, reported_line}
use Rattle.aom_semantics.specs.Moves.{announcement, goes_line, step, written, written_task}
use Rattle.aom_semantics.specs.Places.{Cell, Going, Object, Sender, held}
use Rattle.aom_semantics.specs.State.{A_mark, An_object, An_operation, Choice, Closing, Destroy, Dispatched, Goes, Item, Of_server, Counters, Run, Stage, State, Task, Trapped, Unwind}
use Rattle.aom_image.specs.declared.method.Thing.{Thing}
use Rattle.aom_image.specs.declared.method.Thing.TheVariants.{Object as An_object_of, Message}
use Rattle.aom_machine.specs.Steps.{IsUncounted}

-- ---- what one move writes

with_line : (o : Object) (t : Thing) → o.thing ≡ t → length (goes_line (Some (record o { thing = t }))) ≤ 1 → length (goes_line (Some o)) ≤ 1
with_line o t e few = subst (λ x. length (goes_line (Some (record o { thing = x }))) ≤ 1) (sym e) few

of_thing : (o : Object) (t : Thing) → o.thing ≡ t → length (goes_line (Some o)) ≤ 1
of_thing o (An_object_of c) e = with_line o (An_object_of c) e (omega arith)
of_thing o Message e = with_line o Message e (omega arith)

going_one : (o : Option Object) → length (goes_line o) ≤ 1
going_one x = grind (arith, nat_tests, of_thing)

-- a completion is told by one line
pub reported_one : (code : ℤ) (m : Option Sender) → length (reported_line code m) ≤ 1
reported_one code x = grind arith

message_one : (cs : List Cell) (o : Option Object) (code : ℤ) → length (message_line cs o code) ≤ 1
message_one cs x code = grind (arith, nat_tests, reported_one code)

-- and so is the end of a stage
stage_one : (cs : List Cell) (c : ℕ) (stage : Stage) → length (stage_lines cs c stage) ≤ 1
stage_one cs c x = grind (arith, nat_tests, message_one cs)

arrival_one : (code : ℤ) (items : List Item) → length (arrival code items) ≤ 1
arrival_one code [] = omega arith
arrival_one code (An_object ∷ items) = omega arith
arrival_one code (An_operation m w ∷ items) = omega arith
arrival_one code (A_mark ∷ items) = omega arith

-- what waits at the cell that goes, if one does, is told by that many lines
abbrev pub going_lines : State → List Task → ℕ
going_lines s (Destroy ∷ ts) = length (queue_lines s.cells (held s.cells (Going (length ts))))
going_lines s _ = 0

-- a move writes one line more at most, and main's before that
writes_one : (p : Image) (s : State) (us : List Task) → length (written_task p s us) ≤ going_lines s us + 1
writes_one p s [] = omega arith
writes_one p s (Run fr ∷ ts) = grind (arith, nat_tests, message_one s.cells)
writes_one p s (Destroy ∷ ts) = grind (arith, nat_tests, going_one, length-append)
writes_one p s (Unwind code ∷ ts) = arrival_one code s.items
writes_one p s (Dispatched (Of_server x c stage) ∷ ts) = stage_one s.cells c stage
writes_one p s (Trapped ∷ ts) = omega arith
writes_one p s (Closing ∷ ts) = omega arith
writes_one p s (Dispatched d ∷ ts) = omega arith

announces_one : (r : Counters) → length (announcement r) ≤ 1
announces_one r = grind (arith, nat_tests)

pub writes_few : (p : Image) (s : State) → length (written p s) ≤ going_lines s s.tasks + 2
writes_few p s = grind (arith, nat_tests, announces_one s.rest, writes_one p s s.tasks, length-append)

-- ---- what the moves write that count as none

-- so many lines may still come: of a leave that arrives, and of the stage of a server
abbrev pub lines_left : List Task → ℕ
lines_left (Unwind code ∷ ts) = 2
lines_left (Dispatched (Of_server x c stage) ∷ ts) = 1
lines_left _ = 0

-- what such a move writes, and what may still come, is no more than might come before it
pub passes_few : (p : Image) (c : Choice) (s u : State) (ts : List Task) → s.tasks ≡ ts → IsUncounted ts → step p c s ≡ Goes u →
    length (written_task p s ts) + lines_left u.tasks ≤ lines_left ts
passes_few p c s u x is uncounted e = grind arith
