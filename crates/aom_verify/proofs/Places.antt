-- A well-formed image has places in each method, and no more methods than a number can name.
use Rattle.std.proofs.Common.{◌≡◌, ℕ, ◌<◌, length, IsSome, Some, None, refl, ◌∙◌, arith}
use Rattle.aom_image.specs.Image.{Image}
use Rattle.aom_image.specs.Views.{method_at}
use Rattle.aom_image.specs.WellFormed.{WellFormed, MethodFits}
use Rattle.aom_image.specs.declared.method.Method.{Method}
use Rattle.aom_verify.proofs.LinkConditionsLemmas.{all_there}
use Rattle.aom_abstract_state.specs.AbstractState.{AbstractState}
use Rattle.aom_static_bounds.specs.Shapes.{Shapes}
use Rattle.aom_verify.specs.Entries.{HasRoom}
use Rattle.aom_verify.specs.Sweep.{HasPlaces, Spans}

pub some_places : (p : Image) (m : ℕ) (d : Method) → WellFormed p → method_at p m ≡ Some d → 0 < length d.code
unfolding method_at
some_places p m d h e = let fits : MethodFits p.header.version (length p.classes) (length p.methods) d =
    all_there (λ x. MethodFits p.header.version (length p.classes) (length p.methods) x) p.methods m d h.methods.each e in
    omega (arith, fits.some_code)

-- a state with room has fewer entries than a method may have places
pub few_places : (p : Image) (m : ℕ) (sh : AbstractState) → WellFormed p → IsSome (method_at p m) → HasRoom p m sh → length sh.entries < 1024
unfolding method_at
few_places p m sh h some room = elim (method_at p m) as (λ o. method_at p m ≡ o → IsSome o → length sh.entries < 1024) [
  | None ↦ λ e some. absurd cc
  | Some d ↦ λ e some.
      let fits : MethodFits p.header.version (length p.classes) (length p.methods) d =
      all_there (λ x. MethodFits p.header.version (length p.classes) (length p.methods) x) p.methods m d h.methods.each e in
      omega (arith, fits.code_length, room.each d e)
] refl some

pub spanned : (p : Image) (m n : ℕ) (s : Shapes) → HasPlaces p m n → length s ≡ n → Spans p m s
spanned p m n s h e = record { method = h.method; is = h.is; size = e ∙ h.size }
