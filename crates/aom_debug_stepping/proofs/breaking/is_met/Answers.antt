-- The register's word is that of each state.
use Rattle.std.proofs.Common.{◌∙◌, ap, rules}
use Rattle.std.specs.Int.{w32}
use Rattle.std.specs.Prelude.{FitsSigned}
use Rattle.std.proofs.lemmas.Int.{to_z-of_z}
use Rattle.aom_debug_stepping.specs.Stops.{compares}
use Rattle.aom_debug_stepping.proofs.breaking.is_met.Goals as goal

pub returns-in-Where : goal.returns-in-Where
returns-in-Where g c =
    let fits : FitsSigned w32 c.in-Where.bound = search rules in
    let so = rw (to_z-of_z w32 c.in-Where.bound fits) at c.compares.ensures in
    rw c.in-Where.is (λ t strongest s st. so ∙ ap (compares c.in-Where.comparison c.in-Where.bound) (c.register_word.ensures t strongest s st))
