-- Opcodes go up by one from mnemonic to mnemonic, so the mnemonic of an opcode stands at its place.
use Rattle.std.proofs.Common.{◌≡◌, ◌∙◌, ◌==◌, ◌+◌, Bor, ℕ, zero, suc, Bool, true, false, cond, List, [], ◌∷◌, Option, Some, refl, sym, ap, arith}
use Rattle.std.proofs.lemmas.Bool.{eq-eqb, eqb-true, ne_eqb, false≢true}
use Rattle.std.proofs.lemmas.Grind.{elements}
use Rattle.std.specs.List.{find, slice_get}
use Rattle.std.specs.Option.{option_copied}
use Rattle.std.specs.Slice.{IsItemAt}
use Rattle.aom_instructions.specs.Mnemonics.{with_opcode}
use Rattle.aom_instructions.specs.Table.{mnemonics, row}

-- what a slice lends at a place, as a value
pub copied_at : {X : Type 0} (xs : List X) (i : ℕ) (r : Option (Bor X)) → IsItemAt xs i r → option_copied r ≡ slice_get xs i
copied_at xs i r h = grind (arith, elements)

module _ {X : Type 0} (number : X → ℕ) where
  -- numbers that go up by one from the first
  in_order : ℕ → List X → Bool
  in_order first [] = true
  in_order first (x ∷ xs) = cond (number x == first) (in_order (suc first) xs) false

  both : (a b : Bool) → cond a b false ≡ true → (a ≡ true) × (b ≡ true)
  both true b h = (refl, h)
  both false b h = absurd (false≢true h)

  -- what passes a test is taken, what does not is passed by
  taken : (x : X) (rest : Option X) (b : Bool) → b ≡ true → Some x ≡ cond b (Some x) rest
  taken x rest true h = refl
  taken x rest false h = absurd (false≢true h)

  passed_by : (x : X) (rest : Option X) (b : Bool) → b ≡ false → rest ≡ cond b (Some x) rest
  passed_by x rest false h = refl
  passed_by x rest true h = absurd (false≢true (sym h))

  by_place : (xs : List X) (first i : ℕ) → in_order first xs ≡ true → slice_get xs i ≡ find (λ x. number x == first + i) xs
  unfolding in_order
  by_place [] first i h = refl
  by_place (x ∷ xs) first zero h =
      let here : number x ≡ first = eqb-true (number x) first (both (number x == first) (in_order (suc first) xs) h).0 in
      taken x (find (λ y. number y == first + zero) xs) (number x == first + zero) (eq-eqb (number x) (first + zero) (omega (here, arith)))
  by_place (x ∷ xs) first (suc i) h =
      let ordered = both (number x == first) (in_order (suc first) xs) h in
      let here : number x ≡ first = eqb-true (number x) first ordered.0 in
      let same : suc first + i ≡ first + suc i = omega arith in
      by_place xs (suc first) i ordered.1
      ∙ (ap (λ n. find (λ y. number y == n) xs) same
      ∙ passed_by x (find (λ y. number y == first + suc i) xs) (number x == first + suc i) (ne_eqb (number x) (first + suc i) (λ e. omega (here, e, arith))))

-- the first opcode is 1
pub opcode_at : (i : ℕ) → slice_get mnemonics i ≡ with_opcode (1 + i)
unfolding in_order
opcode_at i = by_place (λ m. (row m).opcode) mnemonics 1 i refl
