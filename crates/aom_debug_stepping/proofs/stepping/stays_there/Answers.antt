use Rattle.aom_debug_stepping.proofs.stepping.stays_there.Goals as goal

pub returns : goal.returns
returns g c = λ s st. let reported = rw (c.parts.ensures.parts, c.linked.ensures, c.accepted.ensures) at c.pauses.ensures in reported s st.stands
