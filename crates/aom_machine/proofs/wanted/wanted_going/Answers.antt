use Rattle.std.proofs.Common.{ap, sym, ◌∙◌}
use Rattle.std.specs.Prelude.{option_map}
use Rattle.aom_machine.specs.NativeCall.{as_wanted}
use Rattle.aom_machine.proofs.Wanting.{closes_going, going_lives, nothing_going}
use Rattle.aom_machine.proofs.wanted.wanted_going.Goals as goal

pub living-id-requires : goal.living-id-requires
living-id-requires c = rw c.requires.going (going_lives c.args.linked.now c.args.parts.now c.requires.stands.0 c.requires.stands.1 c.requires.destroying)

pub serving-requires-clause-lives : goal.serving-requires-clause-lives
serving-requires-clause-lives c = rw c.requires.going (going_lives c.args.linked.now c.args.parts.now c.requires.stands.0 c.requires.stands.1 c.requires.destroying)

pub returns-in-Some : goal.returns-in-Some
returns-in-Some c = λ s st.
    let serves = rw c.requires.going at c.serving.ensures in
    let result = rw (c.living-id.ensures.value, c.requires.going) at c.closing.ensures in
    closes_going c.args.linked.now c.args.parts.now s st c.requires.destroying c.in-Some.native (serves ∙ c.in-Some.is) ∙ ap (option_map as_wanted) (sym result)

pub returns-in-None : goal.returns-in-None
returns-in-None c = λ s st.
    let serves = rw c.requires.going at c.serving.ensures in
    nothing_going c.args.linked.now c.args.parts.now s st c.requires.destroying (serves ∙ c.in-None.is)
