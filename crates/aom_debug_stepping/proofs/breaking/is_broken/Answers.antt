-- The breakpoint at the instruction that is next decides.
use Rattle.std.proofs.Common.{◌∙◌, ap}
use Rattle.aom_debug_stepping.specs.Stops.{is_broken, stops_at}
use Rattle.aom_debug_stepping.proofs.breaking.is_broken.Goals as goal

pub returns-in-Some : goal.returns-in-Some
returns-in-Some g c = λ t strongest s st.
    let reported = rw (c.parts.ensures.parts, c.linked.ensures, c.accepted.ensures) at c.in-Some.ensures in
    c.stops_at.ensures t strongest s st ∙ ap (stops_at t s) c.find.ensures ∙ ap (λ o. is_broken t s c.args.breakpoints.now o) (reported s st.stands)

pub returns-in-None : goal.returns-in-None
returns-in-None g c = λ t strongest s st.
    let reported = rw (c.parts.ensures.parts, c.linked.ensures, c.accepted.ensures) at c.in-None.ensures in
    ap (λ o. is_broken t s c.args.breakpoints.now o) (reported s st.stands)
