use Rattle.std.proofs.Common.{rules, ◌∙◌, ◌≡◌, w32, FitsSigned, to_z, of_z}
use Rattle.std.proofs.lemmas.Int.{to_z-of_z}
use Rattle.aom_frames.specs.Tasks.{register_here}
use Rattle.aom_machine_instructions.proofs.LeavingActs.{leave_does}
use Rattle.aom_machine_instructions.proofs.leaving.leave_with.Goals as goal

pub returns : goal.returns
returns c = λ refused.
    let m = c.args.parts.now in
    let fits : FitsSigned w32 c.word-word.result = search rules in
    let code : to_z w32 (of_z w32 c.word-word.result) ≡ to_z w32 (register_here m.stack.tasks c.args.from) = to_z-of_z w32 c.word-word.result fits
    ∙ c.word-word.ensures in
    rw c.leave.ensures (leave_does m refused c.args.from _ code)
