-- Whoever meets the flows of a state meets those of a state that says more.
use Rattle.std.proofs.Common.{List, [], ◌∷◌, inl, inr}
use Rattle.aom_typing_rules.specs.Laws.{Follows, AllFollow}
use Rattle.aom_abstract_state.specs.Needs.{Flow}
use Rattle.aom_static_bounds.specs.Shapes.{Shapes, Meets, AllMet}
use Rattle.aom_verify.proofs.Ordering.{meets_more}

follows_met : (t : Shapes) (xs : List Flow) (way : Flow) → Follows xs way → AllMet t xs → Meets t way.0 way.1
follows_met t [] way h met = absurd h
follows_met t (x ∷ xs) way (inl h) met = meets_more t way.0 x.1 way.1 (rw h.0 at met.0) h.1
follows_met t (x ∷ xs) way (inr h) met = follows_met t xs way h met.1

pub follow_met : (t : Shapes) (xs ys : List Flow) → AllFollow xs ys → AllMet t xs → AllMet t ys
follow_met t xs [] h met = tt
follow_met t xs (y ∷ ys) h met = (follows_met t xs y h.0 met, follow_met t xs ys h.1 met)
