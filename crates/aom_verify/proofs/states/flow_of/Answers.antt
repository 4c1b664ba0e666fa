-- The rule's answer, with its flows within the method.
use Rattle.std.proofs.lemmas.Result.{IfOk-weaker}
use Rattle.aom_verify.proofs.LinkConditionsLemmas.{has_method}
use Rattle.aom_verify.proofs.Few.{flows_few}
use Rattle.aom_verify.proofs.Places.{few_places}
use Rattle.aom_verify.proofs.Ways.{rule_flows, rule_fails, ways_within}
use Rattle.aom_verify.proofs.states.flow_of.Goals as goal

pub returns-clause-ok : goal.returns-clause-ok
returns-clause-ok c = rule_flows _ _ _ _ _ c.requires.instr c.rule.ensures

pub returns-clause-within : goal.returns-clause-within
returns-clause-within c =
    IfOk-weaker c.rule.result _ _ (λ flow h. ways_within _ _ _ _ _ c.facts.ensures.linked h) (rule_flows _ _ _ _ _ c.requires.instr c.rule.ensures)

pub returns-clause-few : goal.returns-clause-few
returns-clause-few c = IfOk-weaker c.rule.result _ _ (λ flow h. flows_few _ _ _ _ _ h) (rule_flows _ _ _ _ _ c.requires.instr c.rule.ensures)

pub returns-clause-room : goal.returns-clause-room
returns-clause-room c =
    let formed = rw c.image.ensures at c.methods-formed.ensures.well_formed in
    few_places _ _ _ formed (has_method _ _ _ c.requires.instr) c.requires.room

pub returns-clause-err : goal.returns-clause-err
returns-clause-err c = rule_fails _ _ _ _ _ c.requires.instr c.rule.ensures

pub rule-requires-clause-room : goal.rule-requires-clause-room
rule-requires-clause-room c =
    let formed = rw c.image.ensures at c.methods-formed.ensures.well_formed in
    few_places _ _ _ formed (has_method _ _ _ c.requires.instr) c.requires.room
