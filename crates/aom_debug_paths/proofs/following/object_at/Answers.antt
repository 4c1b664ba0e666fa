-- The object that is held lives.
use Rattle.std.proofs.Common.{◌∙◌, subst, sym}
use Rattle.std.proofs.lemmas.Bool.{false≢true}
use Rattle.aom_debug_paths.specs.Paths.{IsAlive, IsHeld, owned_at}
use Rattle.aom_debug_paths.proofs.Onward.{classless}
use Rattle.aom_debug_paths.proofs.following.object_at.Goals as goal

pub returns-in_default : goal.returns-in_default
returns-in_default c = record {
  lives = tt;
  found = λ s st. classless s (owned_at s c.args.path.now) c.owned_at.result (c.owned_at.ensures.held s st) (λ cell class is. c.in_default.not-Object cell class is);
}

pub returns-in-Some-clause-found : goal.returns-in-Some-clause-found
returns-in-Some-clause-found c = λ s st.
    let is = subst (λ h. IsHeld s (owned_at s c.args.path.now) h) c.in-Object.is (c.owned_at.ensures.held s st) in
    (is.0, is.1, is.2, is.3 ∙ sym c.in-Some.ensures.value)

pub returns-in-None-clause-found : goal.returns-in-None-clause-found
returns-in-None-clause-found c = absurd (false≢true (c.in-None.ensures.lives.1 (subst (IsAlive c.args.parts.now) c.in-Object.is c.owned_at.ensures.alive)))
