-- The only place of those so far that brings it about.
use Rattle.std.proofs.Common.{◌≡◌, ◌∙◌, ℕ, ◌<◌, ◌≤◌, ◌+◌, false, true, IfSome, None, Option, Some, arith, inl, inr, length, subst, sym}
use Rattle.std.specs.Prelude.{IfNone, is_some}
use Rattle.std.proofs.lemmas.Bool.Decides.{leb_tells}
use Rattle.aom_image.specs.Image.{Image}
use Rattle.aom_roles.specs.Tables.{at}
use Rattle.aom_abstract_state.specs.AbstractState.{AbstractState, Known}
use Rattle.aom_static_bounds.specs.Shapes.{Shapes}
use Rattle.aom_origins.specs.Origins.{BringsFrom, IsOnly, IsOrigin}
use Rattle.aom_origins.specs.declared.subject.Subject.{Subject}
use Rattle.aom_origins.proofs.AbstractStateLemmas.{at_past}

module _ (p : Image) (m : ℕ) (s : Shapes) (subject : Subject) (now : Known) where
  -- of the first places none brings it about, or this one alone
  abbrev pub SoFar : Option ℕ → ℕ → Type 0
  SoFar None n = (k : ℕ) → k < n → ¬ BringsFrom p m s subject now k
  SoFar (Some place) n = (place < n) × BringsFrom p m s subject now place × ((k : ℕ) → k < n → BringsFrom p m s subject now k → k ≡ place)

  -- one more, which is before or the last
  more : (n : ℕ) {P : ℕ → Type 0} → ((k : ℕ) → k < n → P k) → P n → (k : ℕ) → k < n + 1 → P k
  more n {P = P} before last k below = elim (leb_tells n k) [
    | inr early ↦ before k early.1
    | inl late ↦ let same : n ≡ k = omega (arith, late.1, below) in subst P same last
  ]

  pub not_more : (found : Option ℕ) (n : ℕ) → SoFar found n → ¬ BringsFrom p m s subject now n → SoFar found (n + 1)
  not_more None n so not = more n so not
  not_more (Some place) n so not = (omega (arith, so.0), so.1, more n so.2 (λ brings. absurd (not brings)))

  first_more : (n : ℕ) → SoFar None n → BringsFrom p m s subject now n → SoFar (Some n) (n + 1)
  first_more n so brings = (omega arith, brings, more n (λ k below other. absurd (so k below other)) (λ other. refl_of n))
    where
      refl_of : (k : ℕ) → k ≡ k
      refl_of k = cc

  pub one_more : (found : Option ℕ) (n : ℕ) → is_some found ≡ false → SoFar found n → BringsFrom p m s subject now n → SoFar (Some n) (n + 1)
  one_more None n none so brings = first_more n so brings
  one_more (Some place) n none so brings = absurd cc

  second : (found n : ℕ) → SoFar (Some found) n → BringsFrom p m s subject now n → (place : ℕ) → ¬ IsOnly p m s subject now place
  second found n so brings place only =
      let one = only.alone found so.1 in
      let other = only.alone n brings in
      omega (arith, one, other, so.0)

  pub two_bring : (found : Option ℕ) (n : ℕ) → is_some found ≡ true → SoFar found n → BringsFrom p m s subject now n → (place : ℕ) → ¬ IsOnly p m s subject now place
  two_bring None n some so brings = absurd cc
  two_bring (Some found) n some so brings = second found n so brings

  within : (k : ℕ) → BringsFrom p m s subject now k → k < length s
  within k brings = elim (leb_tells (length s) k) [
    | inr early ↦ early.1
    | inl late ↦ let none = at_past None s k (omega (arith, late.1)) in let some = brings.there in absurd cc
  ]

  pub found_only : (found : Option ℕ) (n : ℕ) → length s ≤ n → SoFar found n → IfSome found (λ place. IsOnly p m s subject now place)
  found_only None n all so = tt
  found_only (Some place) n all so = record { brings = so.1; alone = λ k brings. so.2 k (omega (arith, within k brings, all)) brings }

  pub found_none : (found : Option ℕ) (n : ℕ) → length s ≤ n → SoFar found n → IfNone found ((place : ℕ) → ¬ IsOnly p m s subject now place)
  found_none None n all so = λ place only. so place (omega (arith, within place only.brings, all)) only.brings
  found_none (Some place) n all so = tt

  pub no_origin : (found : Option ℕ) → IfNone found ((place : ℕ) → ¬ IsOnly p m s subject now place) → IfNone found ((place : ℕ) → ¬ IsOrigin p m s subject now place)
  no_origin None none = λ place origin. none place origin.only
  no_origin (Some place) none = tt
