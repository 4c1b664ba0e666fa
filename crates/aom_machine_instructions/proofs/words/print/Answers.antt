use Rattle.std.proofs.Common.{rules, ◌∙◌, ◌≡◌, w32, FitsSigned, to_z, of_z}
use Rattle.std.proofs.lemmas.Int.{to_z-of_z}
use Rattle.aom_frames.specs.Tasks.{register_here}
use Rattle.aom_machine_instructions.proofs.WordActs.{print_does, print_reports}
use Rattle.aom_machine_instructions.proofs.words.print.Goals as goal

pub returns-clause-does : goal.returns-clause-does
returns-clause-does c = λ refused. rw c.next.ensures (print_does c.args.parts.now refused c.args.from)

pub returns-clause-reports : goal.returns-clause-reports
returns-clause-reports c =
    let fits : FitsSigned w32 c.word-word.result = search rules in
    let word : to_z w32 (of_z w32 c.word-word.result) ≡ to_z w32 (register_here c.args.parts.now.stack.tasks c.args.from) =
    to_z-of_z w32 c.word-word.result fits ∙ c.word-word.ensures in
    rw (c.push.ensures, word) (print_reports c.args.parts.now c.args.lines.now c.args.from)
