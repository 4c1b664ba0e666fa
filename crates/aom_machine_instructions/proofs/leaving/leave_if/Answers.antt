use Rattle.std.proofs.Common.{rules, sym, ap, pos, ◌∙◌, ◌≡◌, w32, FitsSigned, to_z, of_z}
use Rattle.std.specs.Prelude.{int_lt}
use Rattle.std.proofs.lemmas.Int.{to_z-of_z}
use Rattle.aom_frames.specs.Tasks.{register_here}
use Rattle.aom_machine_instructions.proofs.LeavingActs.{leave_if_leaves, leave_if_stays}
use Rattle.aom_machine_instructions.proofs.Resulting.{on_top_runs}
use Rattle.aom_machine_instructions.proofs.leaving.leave_if.Goals as goal

pub returns-then-code-lt0-clause-does : goal.returns-then-code-lt0-clause-does
returns-then-code-lt0-clause-does c = λ refused.
    let m = c.args.parts.now in
    let fits : FitsSigned w32 c.word-code.result = search rules in
    let code : to_z w32 (of_z w32 c.word-code.result) ≡ to_z w32 (register_here m.stack.tasks c.args.from) = to_z-of_z w32 c.word-code.result fits
    ∙ c.word-code.ensures in
    rw c.leave.ensures (leave_if_leaves m refused c.args.from _ code c.if-code-lt0.true)

pub returns-clause-does : goal.returns-clause-does
returns-clause-does c = λ refused.
    let m = c.args.parts.now in
    let fits : FitsSigned w32 c.word-code.result = search rules in
    let code : to_z w32 (of_z w32 c.word-code.result) ≡ to_z w32 (register_here m.stack.tasks c.args.from) = to_z-of_z w32 c.word-code.result fits
    ∙ c.word-code.ensures in
    rw c.next.ensures (leave_if_stays m refused c.args.from (ap (λ w. int_lt w (pos 0)) (sym code) ∙ c.if-code-lt0.false))

pub returns-clause-runs : goal.returns-clause-runs
returns-clause-runs c = λ still. rw c.next.ensures (on_top_runs _ _ c.requires.1.runs)
