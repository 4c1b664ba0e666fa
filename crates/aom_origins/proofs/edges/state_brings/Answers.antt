-- By what the rule answers, if the place has an instruction.
use Rattle.std.proofs.Common.{◌≡◌, ◌∙◌, Err, Ok, ap, arith, false, sym}
use Rattle.aom_abstract_state.specs.AbstractState.{AbstractState, Known}
use Rattle.aom_abstract_state.specs.Changes.{ways_from}
use Rattle.aom_origins.specs.Origins.{known_of}
use Rattle.aom_origins.specs.Subjects.{is_same}
use Rattle.aom_origins.proofs.Bringing.{brings_about, brings_not, past_end, refused}
use Rattle.aom_origins.proofs.PathConflictsLemmas.{has_instr}
use Rattle.aom_origins.proofs.VerifyLemmas.{rule_fails, rule_flows}
use Rattle.aom_origins.proofs.edges.state_brings.Goals as goal

pub returns-then-len-from-clause-no : goal.returns-then-len-from-clause-no
returns-then-len-from-clause-no c so =
    past_end c.args.linked.now c.args.method c.args.from c.args.shape.now c.args.subject.now c.args.now.now
    c.method.result.now c.method.ensures (omega (arith, c.if-len-from.true, c.len.ensures))

pub rule-requires-clause-instr : goal.rule-requires-clause-instr
rule-requires-clause-instr c =
    has_instr c.args.linked.now c.args.method c.args.from c.method.result.now c.method.ensures (omega (arith, c.if-len-from.false, c.len.ensures))

pub returns-in-Ok-clause-yes : goal.returns-in-Ok-clause-yes
returns-in-Ok-clause-yes c so =
    let sh = c.args.shape.now in
    let some = has_instr c.args.linked.now c.args.method c.args.from c.method.result.now c.method.ensures (omega (arith, c.if-len-from.false, c.len.ensures)) in
    let known : known_of sh ≡ c.known.result = sym (ap known_of c.known.ensures) in
    let otherwise : is_same c.args.subject.now (known_of sh) c.args.now.now ≡ false =
    ap (λ (k : Known). is_same c.args.subject.now k c.args.now.now) known ∙ sym c.is_same.ensures ∙ c.if-is_same.false in
    brings_about c.args.linked.now c.args.method c.args.from sh c.args.subject.now c.args.now.now (ways_from sh.entries c.in-Ok.flow) c.flow_brings.result otherwise
    (omega (arith, c.if-height-ge-MAX_ENTRIES.false, c.height.ensures))
    (rule_flows c.args.linked.now c.args.method c.args.from sh (Ok c.in-Ok.flow) some c.in-Ok.ensures) (c.flow_brings.ensures sh.entries) so

pub returns-in-Ok-clause-no : goal.returns-in-Ok-clause-no
returns-in-Ok-clause-no c so =
    let sh = c.args.shape.now in
    let some = has_instr c.args.linked.now c.args.method c.args.from c.method.result.now c.method.ensures (omega (arith, c.if-len-from.false, c.len.ensures)) in
    brings_not c.args.linked.now c.args.method c.args.from sh c.args.subject.now c.args.now.now (ways_from sh.entries c.in-Ok.flow) c.flow_brings.result
    (rule_flows c.args.linked.now c.args.method c.args.from sh (Ok c.in-Ok.flow) some c.in-Ok.ensures) (c.flow_brings.ensures sh.entries) so

pub returns-in-Err-clause-no : goal.returns-in-Err-clause-no
returns-in-Err-clause-no c so =
    let some = has_instr c.args.linked.now c.args.method c.args.from c.method.result.now c.method.ensures (omega (arith, c.if-len-from.false, c.len.ensures)) in
    refused c.args.linked.now c.args.method c.args.from c.args.shape.now c.args.subject.now c.args.now.now c.in-Err.field-0
    (rule_fails c.args.linked.now c.args.method c.args.from c.args.shape.now (Err c.in-Err.field-0) some c.in-Err.ensures)
