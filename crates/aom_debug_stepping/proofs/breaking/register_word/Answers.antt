-- The parts that stand for a state agree with it in all.
use Rattle.std.proofs.Common.{◌∙◌, ap}
use Rattle.aom_debug_stepping.specs.Stops.{word_in}
use Rattle.aom_debug_stepping.proofs.breaking.register_word.Goals as goal

pub register_at-requires-clause-agrees : goal.register_at-requires-clause-agrees
register_at-requires-clause-agrees g c = rw (c.parts.ensures.parts, c.accepted.ensures) c.parts.ensures.agrees

pub returns : goal.returns
returns g c = λ t strongest s st.
    let reported = rw (c.parts.ensures.parts, c.accepted.ensures) at c.register_at.ensures in
    c.word_in.ensures ∙ ap word_in (reported t strongest s st.stands)
