-- The place has an instruction, or nothing is said.
use Rattle.std.proofs.Common.{◌∙◌, ◌++◌, ap, append-nil, arith, sym}
use Rattle.aom_needs.specs.Sentences.{needed_in}
use Rattle.aom_diagnostic_commands.proofs.Knowing.{has_instr, has_no_instr}
use Rattle.aom_diagnostic_commands.proofs.causes.write_needed_line.Goals as goal

pub returns-then-len-at : goal.returns-then-len-at
returns-then-len-at c =
    let out = c.args.out.now in
    let none = has_no_instr c.args.linked.now c.args.at.now.method c.args.at.now.place c.method.result.now c.method.ensures (omega (arith, c.if-len-at.true, c.len.ensures)) in
    sym (ap (λ o. out ++ needed_in c.args.told.now.names c.args.linked.now c.args.at.now.method c.args.shape.now c.args.at.now.why o) none ∙ append-nil out)

pub write_needed-requires : goal.write_needed-requires
write_needed-requires c =
    has_instr c.args.linked.now c.args.at.now.method c.args.at.now.place c.method.result.now c.method.ensures (omega (arith, c.if-len-at.false, c.len.ensures))
