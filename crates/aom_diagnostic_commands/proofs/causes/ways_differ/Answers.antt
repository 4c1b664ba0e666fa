-- The rule is asked where there is an instruction and room, and answers as its clause says.
use Rattle.std.proofs.Common.{◌∙◌, Ok, Err, ap, arith}
use Rattle.std.specs.Prelude.{not}
use Rattle.aom_diagnostic_commands.proofs.Knowing.{has_instr, has_no_instr, none_needs, rule_differs, too_many}
use Rattle.aom_diagnostic_commands.proofs.causes.ways_differ.Goals as goal

pub returns-then-height-ge-MAX_ENTRIES : goal.returns-then-height-ge-MAX_ENTRIES
returns-then-height-ge-MAX_ENTRIES c =
    too_many c.args.linked.now c.args.method c.args.place c.args.shape.now c.args.why (omega (arith, c.if-height-ge-MAX_ENTRIES.true, c.height.ensures))

pub returns-then-len-place : goal.returns-then-len-place
returns-then-len-place c =
    none_needs c.args.linked.now c.args.method c.args.place c.args.shape.now c.args.why (omega (arith, c.if-height-ge-MAX_ENTRIES.false, c.height.ensures))
    (has_no_instr c.args.linked.now c.args.method c.args.place c.method.result.now c.method.ensures (omega (arith, c.if-len-place.true, c.len.ensures)))

pub rule-requires-clause-instr : goal.rule-requires-clause-instr
rule-requires-clause-instr c =
    has_instr c.args.linked.now c.args.method c.args.place c.method.result.now c.method.ensures (omega (arith, c.if-len-place.false, c.len.ensures))

pub returns-in-Ok : goal.returns-in-Ok
returns-in-Ok c =
    let there = has_instr c.args.linked.now c.args.method c.args.place c.method.result.now c.method.ensures (omega (arith, c.if-len-place.false, c.len.ensures)) in
    rule_differs c.args.linked.now c.args.method c.args.place c.args.shape.now c.args.why (omega (arith, c.if-height-ge-MAX_ENTRIES.false, c.height.ensures))
    (Ok _) there c.in-Ok.ensures

pub returns-in-Err : goal.returns-in-Err
returns-in-Err c =
    let there = has_instr c.args.linked.now c.args.method c.args.place c.method.result.now c.method.ensures (omega (arith, c.if-len-place.false, c.len.ensures)) in
    ap not c.is_same_why.ensures ∙ rule_differs c.args.linked.now c.args.method c.args.place c.args.shape.now c.args.why
    (omega (arith, c.if-height-ge-MAX_ENTRIES.false, c.height.ensures)) (Err _) there c.in-Err.ensures
