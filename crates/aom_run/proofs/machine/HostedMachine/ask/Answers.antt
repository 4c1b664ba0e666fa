use Rattle.std.proofs.Common.{rules, ◌∙◌, sym, ap, refl, w32}
use Rattle.std.specs.Prelude.{FitsSigned}
use Rattle.std.specs.Int.{int_wrap}
use Rattle.std.proofs.lemmas.Int.{int_wrap_fits, to_z-of_z}
use Rattle.aom_machine_state.specs.Agrees.{observed_by}
use Rattle.aom_run.proofs.Stepped.{asks_nothing, asks_so, fits, observed_nothing, observed_so}
use Rattle.aom_run.proofs.machine.HostedMachine.ask.Goals as goal

-- nothing is asked
pub returns-in_default : goal.returns-in_default
returns-in_default g c = record {
  agree = c.requires.agree;
  idle = λ resting. refl;
  core = refl;
  stands = λ s st. st;
  asked = λ s st. observed_nothing _ _ _ _ _ _ _ (asks_nothing c.args.self.now s st (λ running. c.in_default.not-Running (c.progress.ensures ∙ running)));
}

-- what is asked fits
pub call-answer-requires-clause-fits : goal.call-answer-requires-clause-fits
call-answer-requires-clause-fits g c = fits c.args.self.now _ c.requires.stands.1 _ (c.in-Some.ensures c.requires.stands.0 c.requires.stands.1.stands)

-- the answer is heard
pub returns-in-Some-clause-asked : goal.returns-in-Some-clause-asked
returns-in-Some-clause-asked g c = λ s st.
    let fits : FitsSigned w32 c.call-answer.result = search rules in
    observed_so _ _ _ _ _ _ _ _ _ _ (asks_so c.args.self.now s st _ (sym c.progress.ensures ∙ c.in-Running.is) (c.in-Some.ensures s st.stands))
    (ap (λ m. observed_by m.parts) c.observe.ensures.observed ∙ ap (int_wrap w32) (to_z-of_z w32 c.call-answer.result fits)
    ∙ int_wrap_fits w32 c.call-answer.result fits) c.call-answer.ensures.answer c.call-answer.ensures.after

pub call-answer-requires-clause-agree : goal.call-answer-requires-clause-agree
call-answer-requires-clause-agree g c = c.requires.agree

pub returns-in-Some-clause-agree : goal.returns-in-Some-clause-agree
returns-in-Some-clause-agree g c = c.call-answer.ensures.agree

pub returns-in_default-wanted-clause-agree : goal.returns-in_default-wanted-clause-agree
returns-in_default-wanted-clause-agree g c = c.requires.agree

pub returns-in_default-wanted-clause-core : goal.returns-in_default-wanted-clause-core
returns-in_default-wanted-clause-core g c = refl

pub returns-in_default-wanted-clause-stands : goal.returns-in_default-wanted-clause-stands
returns-in_default-wanted-clause-stands g c = λ s st. st

-- something was at hand
pub returns-in-Some-clause-idle : goal.returns-in-Some-clause-idle
returns-in-Some-clause-idle g c = λ resting. absurd (resting (sym c.progress.ensures ∙ c.in-Running.is))

pub returns-in_default-wanted-clause-idle : goal.returns-in_default-wanted-clause-idle
returns-in_default-wanted-clause-idle g c = λ resting. refl
