-- Registers, fields, words, targets, depths and rounds that are read are in their ranges.
use Rattle.std.proofs.lemmas.Bool.Decides.{nat_tests}
use Rattle.std.proofs.Common.{◌≡◌, subst, arith, ℕ, ◌≤◌, ◌<◌, ◌^◌, ◌==◌, Bool, true, false, List, [], ◌∷◌, Option, Ok, codes}
use Rattle.std.specs.Prelude.{if◌then◌else◌}
use Rattle.std.specs.Str.{bytes_eq}
use Rattle.aom_text.specs.declared.number.Number.{Number}
use Rattle.aom_instructions.specs.Operands.{IsDepth, IsField, IsRegister, IsWord, TargetFits}
use Rattle.aom_instructions.specs.declared.instr.Target.{Target}
use Rattle.aom_instructions.specs.declared.instr.Target.TheVariants as targets
use Rattle.aom_syntax.specs.Reading.{◌>>=◌, word}
use Rattle.aom_syntax.specs.Operands.{depth, field, index_of, indexed, last_register, register, rounds, target, target_of, word_field}
use Rattle.aom_syntax.proofs.Numbers.{Between, in_range_between, number_between}
use Rattle.aom_syntax.proofs.Within.{Within, ok_is, passed, seen_within, value_is, weaker, kept, made_of}
use Rattle.aom_syntax.proofs.ImageLemmas.{cons_given, some_given}

index_most : (highest : ℕ) (o : Option Number) (x : ℕ) → index_of highest o ≡ Ok x → x ≤ highest
index_most highest o x is = grind (arith, nat_tests, some_given, in_range_between 0 highest, kept)

indexed_most : (letter highest : ℕ) (w : List ℕ) (x : ℕ) → indexed letter highest w ≡ Ok x → x ≤ highest
indexed_most letter highest w x is = grind (arith, nat_tests, cons_given, index_most highest, passed)

register_most : (highest : ℕ) → Within (λ n. n ≤ highest) (register highest)
register_most highest = seen_within (λ n. n ≤ highest) (indexed 114 highest) word (indexed_most 114 highest)

pub field_within : Within IsField field
field_within = seen_within IsField (indexed 102 7) word (λ w n is. omega (arith, indexed_most 102 7 w n is))

pub word_field_within : Within IsWord word_field
word_field_within = seen_within IsWord (indexed 119 7) word (λ w n is. omega (arith, indexed_most 119 7 w n is))

last_from : (highest : ℕ) (ws : List (List ℕ)) (x : ℕ) (rest : List (List ℕ)) → last_register highest ws ≡ Ok (x, rest) → x ≤ highest
last_from highest [] x rest is = value_is (λ n. n ≤ highest) 0 x [] rest is (omega arith)
last_from highest (w ∷ ws) x rest is = (register_most highest).each (w ∷ ws) x rest is

pub last_most : (highest : ℕ) → Within (λ n. n ≤ highest) (last_register highest)
last_most highest = record { each = last_from highest }

pub last_within : Within IsRegister (last_register 15)
last_within = weaker (λ n. n ≤ 15) IsRegister (last_register 15) (λ n most. omega (arith, most)) (last_most 15)

-- ---- targets

module _ (w : List ℕ) (t : Target) where
  numbered : (letter highest : ℕ) (make : ℕ → Target) → ((n : ℕ) → n ≤ highest → TargetFits (make n)) →
      (indexed letter highest w >>= λ n. Ok (make n)) ≡ Ok t → TargetFits t
  numbered letter highest make fits is = grind (arith, nat_tests, made_of, indexed_most)

  by_letter : (is_self is_register is_field : Bool) → (if is_self then Ok targets.This else if is_register then (indexed 114 15 w >>= λ n. Ok
      (targets.Register n)) else if is_field then (indexed 102 7 w >>= λ n. Ok (targets.Field n)) else (indexed 99 15 w >>= λ n. Ok (targets.Entry n))) ≡ Ok t
      → TargetFits t
  by_letter true r f is = subst TargetFits (ok_is targets.This t is) tt
  by_letter false true f is = numbered 114 15 (λ n. targets.Register n) (λ n most. omega (arith, most)) is
  by_letter false false true is = numbered 102 7 (λ n. targets.Field n) (λ n most. omega (arith, most)) is
  by_letter false false false is = numbered 99 15 (λ n. targets.Entry n) (λ n most. omega (arith, most)) is

target_fits : (w : List ℕ) (t : Target) → target_of w ≡ Ok t → TargetFits t
target_fits w t is = cons_given (λ w. target_of w ≡ Ok t) w is (λ e. cc) (λ b bs same e.
    by_letter (b ∷ bs) t (bytes_eq (b ∷ bs) (codes "self")) (b == 114) (b == 102) e)

pub target_within : Within TargetFits target
target_within = seen_within TargetFits target_of word target_fits

-- ---- loops

pub depth_within : Within IsDepth depth
depth_within = weaker (Between 0 3) IsDepth depth (λ n b. omega (arith, b.most)) (number_between 0 3)

abbrev pub AreRounds : ℕ → Type 0
AreRounds n = (1 ≤ n) × (n < 2 ^ 16)

pub rounds_within : Within AreRounds rounds
rounds_within = weaker (Between 1 65535) AreRounds rounds (λ n b. (b.least, omega (arith, b.most))) (number_between 1 65535)
