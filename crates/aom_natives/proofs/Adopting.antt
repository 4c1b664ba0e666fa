-- What is known of the slots once one more native has moved in.
use Rattle.std.proofs.Common.{◌≡◌, ℕ, ◌+◌, ◌<◌, List, [], ◌∷◌, ◌++◌, Option, None, Some, append_assoc, length, map, take, refl, sym, ap, subst, ◌∙◌, inl, inr}
use Rattle.std.proofs.Common.{arith}
use Rattle.std.specs.Prelude.{option_map, remove, replicate, slice_index_or, IfSome}
use Rattle.std.proofs.lemmas.Bool.{cases_eq, cases_lt}
use Rattle.std.proofs.lemmas.Grind.{replicate_next}
use Rattle.std.proofs.lemmas.List.{get_or_past, get_or-replicate, length-append, length-replicate, map-append}
use Rattle.std.proofs.Math.ListN.{get_or-append}
use Rattle.std.proofs.Math.Seq.{get_or-append_seam}
use Rattle.aom_natives.specs.Owed.{Agrees}
use Rattle.aom_natives.specs.Slots.{living_at, ids_at, ids_of, AllAgree}
use Rattle.aom_natives.proofs.Ids.{agrees-nothing}
use Rattle.aom_natives.proofs.Lines.{take-full}

-- what a removal at the front leaves
pub front : {B : Type 0} (bs : List B) (b : B) → 0 < length bs → b ≡ slice_index_or bs 0 b → bs ≡ b ∷ remove bs 0
front [] b some at = absurd (omega (arith, some))
front (x ∷ xs) b some at = ap (λ y. y ∷ xs) (sym at)

-- the last of equal elements, and those before it
pub last-is : {X : Type 0} (x y : X) (n : ℕ) (xs : List X) → xs ++ y ∷ [] ≡ replicate (n + 1) x → y ≡ x
last-is x y n xs is =
    let long : length xs + 1 ≡ n + 1 = sym (length-append xs (y ∷ [])) ∙ ap (λ l. length l) is ∙ length-replicate (n + 1) x in
    sym (get_or-append_seam xs y [] y) ∙ ap (λ l. slice_index_or l (length xs) y) is ∙ get_or-replicate (n + 1) (length xs) x y (omega (arith, long))

pub others-are : {X : Type 0} (x y : X) (n : ℕ) (xs : List X) → xs ++ y ∷ [] ≡ replicate (n + 1) x → xs ≡ replicate n x
others-are x y n xs is =
    let long : length xs + 1 ≡ n + 1 = sym (length-append xs (y ∷ [])) ∙ ap (λ l. length l) is ∙ length-replicate (n + 1) x in
    take-full n xs y (omega (arith, long)) ∙ ap (λ l. take n l) (is ∙ replicate_next n x) ∙ sym (take-full n (replicate n x) x (length-replicate n x))

module _ {L : Type 0} (slots : List (Option L)) (l : L) where
  -- what holds of each slot and of the new one
  pub each-more : (P : Option L → Type 0) → P None → P (Some l) → ((k : ℕ) → P (living_at slots k)) → (k : ℕ) → P (living_at (slots ++ Some l ∷ []) k)
  each-more P none one old k = elim (cases_lt k (length slots)) [
    | inl inside ↦ subst P (sym (get_or-append slots (Some l ∷ []) None k inside)) (old k)
    | inr past ↦ elim (cases_eq k (length slots)) [
      | inl same ↦ subst P (sym (ap (λ n. living_at (slots ++ Some l ∷ []) n) same ∙ get_or-append_seam slots (Some l) [] None)) one
      | inr other ↦
          let long : length (slots ++ Some l ∷ []) ≡ length slots + 1 = length-append slots (Some l ∷ []) in
          subst P (sym (get_or_past (slots ++ Some l ∷ []) k None (omega (arith, long, past, other)))) none
    ]
  ]

  pub nothing-more : (ids : L → List ℕ) → ids l ≡ [] → ((k : ℕ) → ids_at ids slots k ≡ []) → (k : ℕ) → ids_at ids (slots ++ Some l ∷ []) k ≡ []
  nothing-more ids none old = each-more (λ s. ids_of ids s ≡ []) refl none old

  pub agree-more : (ids owed : L → List ℕ) → ids l ≡ [] → owed l ≡ [] → AllAgree ids owed slots → AllAgree ids owed (slots ++ Some l ∷ [])
  agree-more ids owed none nothing old = record {
    each = each-more (λ s. IfSome s (λ l. Agrees (ids l) (owed l))) tt (subst (λ xs. Agrees xs (owed l)) (sym none) (agrees-nothing (owed l) nothing)) old.each;
  }

  pub moved-more : {B : Type 0} (native : L → B) (all : List (Option B)) (bs rest : List B) → bs ≡ native l ∷ rest →
      map (option_map native) slots ++ map (λ b. Some b) bs ≡ all → map (option_map native) (slots ++ Some l ∷ []) ++ map (λ b. Some b) rest ≡ all
  moved-more native all bs rest is whole = ap (λ xs. xs ++ map (λ b. Some b) rest) (map-append (option_map native) slots (Some l ∷ []))
      ∙ append_assoc (map (option_map native) slots) (Some (native l) ∷ []) (map (λ b. Some b) rest)
      ∙ ap (λ ys. map (option_map native) slots ++ map (λ b. Some b) ys) (sym is) ∙ whole
