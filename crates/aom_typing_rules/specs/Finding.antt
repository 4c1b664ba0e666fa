-- What the function of a rule finds: the first need that is not met, or where a run may go on.
use Rattle.std.specs.Prelude.{◌≡◌, List, Result}
use Rattle.aom_typing_rules.specs.Ways.{Ways, flowing}
use Rattle.aom_abstract_state.specs.Changes.{reported}
use Rattle.aom_abstract_state.specs.Needs.{Need, judged}
use Rattle.aom_abstract_state.specs.declared.flow.Flow.{Flow as Answer}
use Rattle.aom_abstract_state.specs.declared.why.Reason.{Reason}
use Rattle.aom_typing_rules.specs.RuleContext.{RuleContext}

-- at that site these needs are asked, and a run may go on by these ways
abbrev pub Finds : RuleContext → List Need → Ways → Result Answer Reason → Type 0
Finds s needs ways answer = reported s.shape.entries answer ≡ judged needs (flowing s.image s.method s.place s.shape ways)
