use Rattle.std.proofs.Common.{◌∙◌, ap}
use Rattle.aom_debug_stepping.specs.RunGoals.{is_next}
use Rattle.aom_debug_stepping.proofs.over.is_next.Goals as goal

pub returns-in-Some : goal.returns-in-Some
returns-in-Some g c = λ s st.
    let reported = rw (c.parts.ensures.parts, c.linked.ensures, c.accepted.ensures) at c.in-Some.ensures in
    c.is.ensures ∙ ap (is_next c.args.spot) (reported s st.stands)

pub returns-in-None : goal.returns-in-None
returns-in-None g c = λ s st.
    let reported = rw (c.parts.ensures.parts, c.linked.ensures, c.accepted.ensures) at c.in-None.ensures in
    ap (is_next c.args.spot) (reported s st.stands)
