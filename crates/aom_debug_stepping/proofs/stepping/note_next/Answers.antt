use Rattle.std.proofs.Common.{◌∙◌, ap}
use Rattle.aom_debug_stepping.specs.Moves.{noted}
use Rattle.aom_debug_stepping.proofs.stepping.note_next.Goals as goal

pub returns-in-Some : goal.returns-in-Some
returns-in-Some g c = λ s st.
    let reported = rw (c.parts-parts.ensures.parts, c.linked.ensures, c.accepted.ensures) at c.in-Some.ensures in
    c.note.ensures ∙ ap (λ o. noted o c.args.recent.now) (reported s st.stands)

pub returns-in_default : goal.returns-in_default
returns-in_default g c = λ s st.
    let reported = rw (c.parts-parts.ensures.parts, c.linked.ensures, c.accepted.ensures) at c.in_default.ensures in
    ap (λ o. noted o c.args.recent.now) (reported s st.stands)
