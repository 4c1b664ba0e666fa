-- A cell's number is below the queues of servers, and what goes first lives.
use Rattle.std.proofs.Common.{ap, arith, sym, ◌∙◌}
use Rattle.aom_debug_stepping.proofs.MachineInstructionsLemmas.{lives_below}
use Rattle.aom_debug_stepping.specs.Next.{first_number}
use Rattle.aom_debug_stepping.proofs.NextPlaces.{first_lives, within_queues}
use Rattle.aom_debug_stepping.proofs.next.first_to_go.Goals as goal

pub first_session-requires : goal.first_session-requires
first_session-requires c = within_queues c.args.linked.now c.args.parts.now c.requires.stands.0 c.requires.stands.1 c.args.number c.requires.lives

pub returns-in-Some-clause-first : goal.returns-in-Some-clause-first
returns-in-Some-clause-first c = record {
  number = c.from.ensures ∙ ap (λ o. first_number o c.args.number) (sym c.in-Some.is ∙ c.first_session.ensures.value);
  below = let small = rw c.in-Some.is at c.first_session.ensures.below in let same = c.from.ensures in omega (arith, small, same);
}

pub returns-in-None-clause-first : goal.returns-in-None-clause-first
returns-in-None-clause-first c = record {
  number = ap (λ o. first_number o c.args.number) (sym c.in-None.is ∙ c.first_session.ensures.value);
  below = let st = c.requires.stands in
      let small = lives_below c.args.linked.now c.args.parts.now st.0 st.1.sound.formed st.1.agrees c.args.number c.requires.lives in omega (arith, small);
}

pub returns-in-Some-clause-lives : goal.returns-in-Some-clause-lives
returns-in-Some-clause-lives c = first_lives c.args.linked.now _ c.requires.stands.0 c.requires.stands.1 _ _ c.requires.lives (returns-in-Some-clause-first c)
