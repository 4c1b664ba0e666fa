use Rattle.std.proofs.Common.{rules, subst, sym, to_z, of_z, w32, ◌≡◌, ◌∙◌, ◌∷◌, ◌++◌, []}
use Rattle.std.proofs.lemmas.Bool.{false≢true}
use Rattle.aom_image.specs.Views.{instr_at}
use Rattle.aom_transcript.specs.declared.line.Line.TheVariants.{Leave}
use Rattle.aom_frames.specs.Tasks.{TopFrameIs, method_here, place_here, below_first}
use Rattle.aom_machine_instructions.specs.Cleanup.{Unwinds, reported}
use Rattle.aom_machine_instructions.specs.Ends.{left_by}
use Rattle.aom_machine_state.specs.Places.{code_here, with_tasks}
use Rattle.aom_machine_instructions.proofs.Topping.{coded_through, ends_under, returns_within_through}
use Rattle.aom_machine_instructions.proofs.UnwindActs.{arrives_end, arrives_method, reported_code}
use Rattle.aom_machine_instructions.proofs.leaving.arrive.Goals as goal

pub returns-then-is_running : goal.returns-then-is_running
returns-then-is_running c =
    let p = c.args.linked.now in
    let m = c.args.parts.now in
    let under = below_first (below_first m.stack.tasks) in
    let i = instr_at p (method_here under) (place_here under) in
    let code = reported_code c.args.code (code_here m.stack.tasks) (search rules) c.requires.coded in
    let marked = rw (c.end_other-2.ensures, c.end_other.ensures) at c.unmark.ensures in
    let runs : TopFrameIs under = rw (c.end_other-2.ensures, c.end_other.ensures) at (c.is_running.ensures.0 c.if-is_running.true) in
    let coded = coded_through p (below_first m.stack.tasks) c.requires.below c.requires.trapped runs in
    let received : c.receive_code.new.parts ≡ reported p i (to_z w32 (of_z w32 c.args.code)) (record (with_tasks under m) { entries = c.unmark.new.self }) =
    rw (c.end_other-2.ensures, c.end_other.ensures) at c.receive_code.ensures in
    rw (received, c.push.ensures)
    (subst (λ w. Unwinds p m (reported p i w (record (with_tasks under m) { entries = c.unmark.new.self })) c.args.lines.now
    (record c.args.lines.now { lines = c.args.lines.now.lines ++ Leave w ∷ [] })) (sym code.0)
    (arrives_method p m c.unmark.new.self marked c.args.lines.now code.1 c.requires.unwinding c.requires.trapped runs coded))

pub returns-else-is_running : goal.returns-else-is_running
returns-else-is_running c =
    let m = c.args.parts.now in
    let code = reported_code c.args.code (code_here m.stack.tasks) (search rules) c.requires.coded in
    let marked = rw (c.end_other-2.ensures, c.end_other.ensures) at c.unmark.ensures in
    let ending = ends_under c.args.linked.now (below_first m.stack.tasks) c.requires.below c.requires.trapped
    (λ runs. false≢true (sym c.if-is_running.false ∙ c.is_running.ensures.1 (rw (c.end_other-2.ensures, c.end_other.ensures) runs))) in
    let left : c.leave_dispatch.new.parts ≡ record (with_tasks (left_by (to_z w32 (of_z w32 c.args.code)) (below_first (below_first m.stack.tasks))) m)
    { entries = c.unmark.new.self } = rw (c.end_other-2.ensures, c.end_other.ensures) at c.leave_dispatch.ensures in
    rw (left, c.push.ensures)
    (subst (λ w. Unwinds c.args.linked.now m (record (with_tasks (left_by w (below_first (below_first m.stack.tasks))) m)
    { entries = c.unmark.new.self }) c.args.lines.now (record c.args.lines.now { lines = c.args.lines.now.lines ++ Leave w ∷ [] })) (sym code.0)
    (arrives_end c.args.linked.now m c.unmark.new.self marked c.args.lines.now code.1 c.requires.unwinding c.requires.trapped ending))

pub unmark-requires : goal.unmark-requires
unmark-requires c = rw (c.end_other-2.ensures, c.end_other.ensures) c.requires.marked

pub receive_code-requires-clause-runs : goal.receive_code-requires-clause-runs
receive_code-requires-clause-runs c = c.is_running.ensures.0 c.if-is_running.true

pub receive_code-requires-clause-within : goal.receive_code-requires-clause-within
receive_code-requires-clause-within c =
    let runs = rw (c.end_other-2.ensures, c.end_other.ensures) at (c.is_running.ensures.0 c.if-is_running.true) in
    rw (c.end_other-2.ensures, c.end_other.ensures)
    (returns_within_through c.args.linked.now (below_first c.args.parts.now.stack.tasks) c.requires.below c.requires.trapped runs)

pub receive_code-requires-clause-coded : goal.receive_code-requires-clause-coded
receive_code-requires-clause-coded c =
    let runs = rw (c.end_other-2.ensures, c.end_other.ensures) at (c.is_running.ensures.0 c.if-is_running.true) in
    rw (c.end_other-2.ensures, c.end_other.ensures)
    (coded_through c.args.linked.now (below_first c.args.parts.now.stack.tasks) c.requires.below c.requires.trapped runs)

pub leave_dispatch-requires-clause-ending : goal.leave_dispatch-requires-clause-ending
leave_dispatch-requires-clause-ending c =
    let stops : TopFrameIs _ → ⊥ = λ runs. false≢true (sym c.if-is_running.false ∙ c.is_running.ensures.1 (rw (c.end_other-2.ensures, c.end_other.ensures) runs)) in
    rw (c.end_other-2.ensures, c.end_other.ensures)
    (ends_under c.args.linked.now (below_first c.args.parts.now.stack.tasks) c.requires.below c.requires.trapped stops)
