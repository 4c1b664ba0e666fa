-- Numbers that are read are in their ranges.
use Rattle.std.proofs.lemmas.Bool.Decides.{nat_tests}
use Rattle.std.proofs.lemmas.Option.{cond_some}
use Rattle.std.proofs.Common.{◌≡◌, subst, arith, ℕ, ℤ, pos, neg_ℤ, ◌≤◌, ◌^◌, ◌&&◌, ◌||◌, ◌==◌, not, nat_le, nat_lt, Bool, FitsSigned}
use Rattle.std.proofs.Common.{w32, Option, Some, None, Result, Ok, Err, ap, ◌∙◌}
use Rattle.std.specs.Prelude.{if◌then◌else◌}
use Rattle.std.proofs.lemmas.Bool.{and_parts, leb-true, ltb-true}
use Rattle.aom_text.specs.declared.fault.AsmFaultKind.TheVariants.{BadNumber}
use Rattle.aom_text.specs.declared.number.Number.{Number}
use Rattle.aom_text.specs.Numbers.{number_of, number_within, number_signed}
use Rattle.aom_syntax.specs.Reading.{giving, in_range, number, number_in, optional_number, took, word}
use Rattle.aom_syntax.specs.Operands.{signed, signed_of}
use Rattle.aom_syntax.specs.declared.keyword.Keyword.{Keyword}
use Rattle.aom_syntax.proofs.Within.{Within, either, giving_within, seen_within, ok_is}
use Rattle.aom_syntax.proofs.ImageLemmas.{some_given}

in_range_is : {X : Type 0} (o : Option X) (x : X) → in_range o ≡ Ok x → o ≡ Some x
in_range_is o x is = some_given (λ o. in_range o ≡ Ok x) o is (λ e. cc) (λ y same e. same ∙ ap Some (ok_is y x e))

-- a number between two
pub record Between (low high n : ℕ) : Type 0 where
  pub least : low ≤ n
  pub most : n ≤ high

between : (low high : ℕ) (n : Number) (x : ℕ) → number_within low high n ≡ Some x → Between low high x
between low high n x is =
    let s = cond_some ((not n.is_negative || n.size == 0) && nat_le low n.size && nat_le n.size high) n.size x is in
    let t = and_parts _ _ s.0 in
    let u = and_parts _ _ t.0 in
    subst (Between low high) s.1 (record { least = leb-true _ _ u.1; most = leb-true _ _ t.1 })

pub in_range_between : (low high : ℕ) (n : Number) (x : ℕ) → in_range (number_within low high n) ≡ Ok x → Between low high x
in_range_between low high n x is = between low high n x (in_range_is _ x is)

pub number_between : (low high : ℕ) → Within (Between low high) (number low high)
number_between low high = seen_within (Between low high) (number_in low high) word (λ w x is.
    some_given (λ o. ◌≡◌ {A = Result ℕ _} (elim o [ None ↦ Err BadNumber | Some n ↦ in_range (number_within low high n) ]) (Ok x)) (number_of w) is (λ e. cc)
    (λ n there e. in_range_between low high n x e))

-- a number that may be missing
pub optional_between : (key : Keyword) (high : ℕ) → Within (Between 0 high) (optional_number key high)
optional_between key high = either (Between 0 high) (λ ws. (took key ws).0) (λ ws. (took key ws).1) (number 0 high) (giving 0) (number_between 0 high)
    (giving_within (Between 0 high) 0 (record { least = omega arith; most = omega arith }))

-- ---- numbers with their signs

negative_fits : (n : ℕ) → n ≤ 2 ^ 31 → FitsSigned w32 (neg_ℤ (pos n))
negative_fits x small = grind arith

below_zero : (n : ℕ) (z : ℤ) → (if nat_le n (2 ^ 31) then Some (neg_ℤ (pos n)) else None) ≡ Some z → FitsSigned w32 z
below_zero n z is = grind (arith, nat_tests, cond_some, negative_fits n, leb-true)

from_zero : (n : ℕ) (z : ℤ) → (if nat_lt n (2 ^ 31) then Some (pos n) else None) ≡ Some z → FitsSigned w32 z
from_zero n z is = search (arith, nat_tests, cond_some, ltb-true)

signed_fits : (is_negative : Bool) (size : ℕ) (z : ℤ) → number_signed (record { is_negative = is_negative; size = size }) ≡ Some z → FitsSigned w32 z
signed_fits x size z is = grind (arith, nat_tests, below_zero, from_zero)

signed_is : (o : Option Number) (z : ℤ) → signed_of o ≡ Ok z → FitsSigned w32 z
signed_is o z is = some_given (λ o. signed_of o ≡ Ok z) o is (λ e. cc) (λ n same e. signed_fits n.is_negative n.size z (in_range_is (number_signed n) z e))

pub signed_within : Within (FitsSigned w32) signed
signed_within = seen_within (FitsSigned w32) (λ w. signed_of (number_of w)) word (λ w z is. signed_is (number_of w) z is)
