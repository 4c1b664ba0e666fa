-- Which methods are there, by their numbers.
use Rattle.std.proofs.lemmas.Bool.Decides.{nat_tests}
use Rattle.std.proofs.Common.{arith, ◌≡◌, ◌<◌, ℕ, length, Some, inl, inr}
use Rattle.std.proofs.lemmas.Option.{slice_get_within}
use Rattle.aom_image.specs.Image.{Image}
use Rattle.aom_image.specs.Views.{method_at}
use Rattle.aom_image.specs.declared.method.Method.{Method}
use Rattle.aom_image.specs.declared.method.Thing.{Thing}
use Rattle.aom_image.specs.declared.method.Thing.TheVariants.{Object}
use Rattle.aom_static_bounds.proofs.LinkConditionsLemmas.{own_found}
use Rattle.aom_static_bounds.specs.Layers.{Destructs, InLine}

pub method_within : (p : Image) (m : ℕ) (d : Method) → method_at p m ≡ Some d → m < length p.methods
unfolding method_at
method_within p m d e = slice_get_within p.methods m d e

in_line : (p : Image) (x : Thing) (k : ℕ) → InLine p x k → k < length p.methods
in_line p x k w = grind (arith, nat_tests, own_found, method_within)

-- each that runs as a thing is destroyed is there
pub destructs_within : (p : Image) (x : Thing) (k : ℕ) → Destructs p x k → k < length p.methods
destructs_within p x k (y, stands, inl w) = in_line p y k w
destructs_within p x k (y, stands, inr w) = in_line p (Object w.0) k w.2
