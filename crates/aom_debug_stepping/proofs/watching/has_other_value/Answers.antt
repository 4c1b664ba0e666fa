-- The parts that stand for a state agree with it in all.
use Rattle.std.proofs.Common.{◌∙◌, ap}
use Rattle.aom_debug_stepping.specs.Stops.{is_other}
use Rattle.aom_debug_stepping.proofs.watching.has_other_value.Goals as goal

pub variable_at-requires-clause-agrees : goal.variable_at-requires-clause-agrees
variable_at-requires-clause-agrees g c = rw (c.parts.ensures.parts, c.accepted.ensures) c.parts.ensures.agrees

pub returns : goal.returns
returns g c = λ t strongest s st.
    let reported = rw (c.parts.ensures.parts, c.accepted.ensures) at c.variable_at.ensures in
    c.is_other.ensures ∙ ap (is_other c.args.watched.now.answer) (reported t strongest s st.stands)
