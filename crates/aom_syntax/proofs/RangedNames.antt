-- Names that are used stand for places among the names that are declared.
use Rattle.std.proofs.lemmas.Bool.Decides.{nat_tests}
use Rattle.std.proofs.Common.{arith, ◌≡◌, refl, subst, ap, ℕ, ◌<◌, ◌≤◌, Bool, true, false, List, [], length, Option, Some, Ok, eqb-true, ◌∙◌}
use Rattle.std.specs.Prelude.{if◌then◌else◌}
use Rattle.std.specs.Str.{bytes_eq}
use Rattle.std.proofs.lemmas.Bool.{both_ways}
use Rattle.std.proofs.lemmas.List.Quantifiers.{position-Some}
use Rattle.aom_syntax.specs.Names.{place_of, nowhere, referred}
use Rattle.aom_syntax.specs.Reading.{name}
use Rattle.aom_syntax.specs.Operands.{used}
use Rattle.aom_syntax.specs.Classes.{declared, is_at}
use Rattle.aom_syntax.proofs.Within.{Within, ok_is, passed, seen_within}
use Rattle.aom_syntax.proofs.ImageLemmas.{false_given, some_given}

place_below : (n : List ℕ) (names : List (List ℕ)) (k : ℕ) → place_of n names ≡ Some k → k < length names
place_below n names k is = (position-Some (λ m. bytes_eq m n) names k [] is).0

-- a name that is declared nowhere is a fault, or there is the number 0
pub record IsKnown (is_strict : Bool) (count : ℕ) : Type 0 where
  pub some : is_strict ≡ false → 1 ≤ count

pub all_known : (is_strict : Bool) (count : ℕ) → is_strict ≡ true → IsKnown is_strict count
all_known is_strict count strict = record { some = λ loose. absurd (both_ways is_strict loose strict) }

module _ (is_strict : Bool) (limit : ℕ) (names : List (List ℕ)) (known : IsKnown is_strict (length names)) where
  nowhere_below : (x : ℕ) → nowhere is_strict ≡ Ok x → x < length names
  nowhere_below x is = false_given (λ s. nowhere s ≡ Ok x) is_strict is (λ e. cc) (λ loose e. subst (λ y. y < length names) (ok_is 0 x e) (known.some loose))

  found_below : (b : Bool) (k x : ℕ) → k < length names → (if b then Ok k else nowhere is_strict) ≡ Ok x → x < length names
  found_below x k y below is = grind (arith, nat_tests, ok_is, nowhere_below)

  place_referred : (o : Option ℕ) (n : List ℕ) (x : ℕ) → place_of n names ≡ o → referred is_strict limit o ≡ Ok x → x < length names
  place_referred x n y there is = grind (arith, nat_tests, nowhere_below, found_below, place_below)

  pub referred_below : (n : List ℕ) (x : ℕ) → referred is_strict limit (place_of n names) ≡ Ok x → x < length names
  referred_below n x is = place_referred (place_of n names) n x refl is

  pub used_below : Within (λ x. x < length names) (used is_strict limit names)
  used_below = seen_within (λ x. x < length names) (λ n. referred is_strict limit (place_of n names)) name referred_below

-- ---- names that are declared

pub at_place : (place : ℕ) (o : Option ℕ) → is_at place o ≡ true → o ≡ Some place
at_place place o is = some_given (λ o. is_at place o ≡ true) o is (λ e. cc) (λ k same e. same ∙ ap Some (eqb-true k place e))

-- a name that is declared at a place: there is that place
pub declared_below : (place : ℕ) (names : List (List ℕ)) → Within (λ u. place < length names) (declared place names)
declared_below place names = grind (arith, nat_tests, seen_within, place_below, at_place place, passed)
