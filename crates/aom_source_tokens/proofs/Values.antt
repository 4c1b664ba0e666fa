-- A number that has passed its range stays past it, whatever digits follow.
use Rattle.std.proofs.Common.{ℕ, List, [], ◌∷◌, ◌≡◌, ◌≤◌, ◌<◌, ◌+◌, ◌-◌, ◌*◌, ◌^◌, ◌∙◌, sym, ap, take, drop, arith, get_or, length, Err}
use Rattle.std.specs.List.{fold}
use Rattle.std.proofs.lemmas.List.{take-append-drop}
use Rattle.std.proofs.lemmas.List.Sums.{fold-append, fold_more}
use Rattle.std.proofs.lemmas.Bool.Decides.{nat_tests}
use Rattle.aom_source_tokens.specs.Numbers.{decimal_more, hexadecimal_more}
use Rattle.aom_source_tokens.specs.Tokens.{sized}
use Rattle.aom_source_tokens.specs.declared.fault.TokenFaultKind.TheVariants.{NumberRange}

pub record Grows (f : ℕ → ℕ → ℕ) : Type 0 where
  pub at : (v b : ℕ) → v ≤ f v b

pub fold_grows : (f : ℕ → ℕ → ℕ) → Grows f → (v : ℕ) (bytes : List ℕ) → v ≤ fold f v bytes
fold_grows f h v [] = omega arith
fold_grows f h v (b ∷ bs) = omega (arith, h.at v b, fold_grows f h (f v b) bs)

pub whole_grows : (f : ℕ → ℕ → ℕ) → Grows f → (bytes : List ℕ) (i : ℕ) → fold f 0 (take i bytes) ≤ fold f 0 bytes
whole_grows f h bytes i =
    let e : fold f 0 bytes ≡ fold f (fold f 0 (take i bytes)) (drop i bytes)
    = ap (fold f 0) (sym (take-append-drop i bytes)) ∙ fold-append f 0 (take i bytes) (drop i bytes) in
    omega (arith, e, fold_grows f h (fold f 0 (take i bytes)) (drop i bytes))

pub sized_past : (v : ℕ) → 2 ^ 32 ≤ v → sized v ≡ Err NumberRange
sized_past v h = grind (arith, nat_tests)

pub past : (f : ℕ → ℕ → ℕ) → Grows f → (bytes : List ℕ) (i v : ℕ) → i < length bytes → v ≡ fold f 0 (take i bytes) → 2 ^ 32 ≤ f v (get_or bytes i 0)
    → Err NumberRange ≡ sized (fold f 0 bytes)
past f h bytes i v lt e over =
    let more : fold f 0 (take (i + 1) bytes) ≡ f (fold f 0 (take i bytes)) (get_or bytes i 0) = fold_more f 0 bytes i 0 lt in
    let same : f v (get_or bytes i 0) ≡ fold f 0 (take (i + 1) bytes) = ap (λ (x : ℕ). f x (get_or bytes i 0)) e ∙ sym more in
    sym (sized_past (fold f 0 bytes) (omega (arith, same, whole_grows f h bytes (i + 1))))

pub decimal_grows : Grows decimal_more
decimal_grows = record { at = λ v b. grind (arith, nat_tests) }

pub hexadecimal_grows : Grows hexadecimal_more
hexadecimal_grows = record { at = λ v b. omega arith }

pub decimal_past : (v b : ℕ) → (b ≡ 95 → ⊥) → 2 ^ 32 ≤ 10 * v + (b - 48) → 2 ^ 32 ≤ decimal_more v b
decimal_past v b other over = grind (arith, nat_tests)
