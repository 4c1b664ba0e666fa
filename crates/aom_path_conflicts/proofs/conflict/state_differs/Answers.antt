-- By what the rule answers, if the place has an instruction.
use Rattle.std.proofs.Common.{Err, Ok, arith}
use Rattle.aom_path_conflicts.proofs.Leading.{answer_agrees, answer_differs, has_instr, past_end, refused}
use Rattle.aom_path_conflicts.proofs.VerifyLemmas.{rule_fails, rule_flows}
use Rattle.aom_path_conflicts.proofs.conflict.state_differs.Goals as goal

pub returns-then-len-from-clause-none : goal.returns-then-len-from-clause-none
returns-then-len-from-clause-none c =
    past_end c.args.linked.now c.args.method c.args.from c.args.shape.now c.args.place c.args.here.now.registers
    c.method.result.now c.method.ensures (omega (arith, c.if-len-from.true, c.len.ensures))

pub rule-requires-clause-instr : goal.rule-requires-clause-instr
rule-requires-clause-instr c =
    has_instr c.args.linked.now c.args.method c.args.from c.method.result.now c.method.ensures (omega (arith, c.if-len-from.false, c.len.ensures))

pub returns-in-Ok-clause-some : goal.returns-in-Ok-clause-some
returns-in-Ok-clause-some c =
    let some = has_instr c.args.linked.now c.args.method c.args.from c.method.result.now c.method.ensures (omega (arith, c.if-len-from.false, c.len.ensures)) in
    answer_differs c.args.linked.now c.args.method c.args.from c.args.shape.now c.args.place c.args.here.now.registers c.in-Ok.flow c.flow_differs.result
    (omega (arith, c.if-height-ge-MAX_ENTRIES.false, c.height.ensures))
    (rule_flows c.args.linked.now c.args.method c.args.from c.args.shape.now (Ok c.in-Ok.flow) some c.in-Ok.ensures) c.flow_differs.ensures.some

pub returns-in-Ok-clause-none : goal.returns-in-Ok-clause-none
returns-in-Ok-clause-none c =
    let some = has_instr c.args.linked.now c.args.method c.args.from c.method.result.now c.method.ensures (omega (arith, c.if-len-from.false, c.len.ensures)) in
    answer_agrees c.args.linked.now c.args.method c.args.from c.args.shape.now c.args.place c.args.here.now.registers c.in-Ok.flow c.flow_differs.result
    (rule_flows c.args.linked.now c.args.method c.args.from c.args.shape.now (Ok c.in-Ok.flow) some c.in-Ok.ensures) c.flow_differs.ensures.none

pub returns-in-Err-clause-none : goal.returns-in-Err-clause-none
returns-in-Err-clause-none c =
    let some = has_instr c.args.linked.now c.args.method c.args.from c.method.result.now c.method.ensures (omega (arith, c.if-len-from.false, c.len.ensures)) in
    refused c.args.linked.now c.args.method c.args.from c.args.shape.now c.args.place c.args.here.now.registers c.in-Err.field-0
    (rule_fails c.args.linked.now c.args.method c.args.from c.args.shape.now (Err c.in-Err.field-0) some c.in-Err.ensures)
