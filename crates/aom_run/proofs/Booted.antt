-- As a machine boots, its natives owe nothing.
use Rattle.std.proofs.lemmas.Bool.Decides.{nat_tests}
use Rattle.std.proofs.Common.{◌≡◌, ◌<◌, ◌≤◌, ◌↔◌, ℕ, zero, suc, List, [], ◌∷◌, Option, Some, None, refl, sym, ap, ◌∙◌, length, map, arith}
use Rattle.std.specs.Prelude.{option_map, IsSome}
use Rattle.aom_image.specs.Image.{Image}
use Rattle.aom_natives.specs.Slots.{ids_at, living_at}
use Rattle.aom_semantics.specs.World.{boot_state}
use Rattle.aom_run.specs.Beside.{Serves}
use Rattle.aom_natives.specs.declared.fault.BootFault.{BootFault}
use Rattle.aom_natives.specs.declared.fault.BootFault.TheVariants.{OutOfMemory, TooFewNatives}

-- where memory is wanting, the natives are not too few
pub memory_is_not_few : (fault : BootFault) (given named : ℕ) → fault ≡ OutOfMemory → named ≤ given → (fault ≡ TooFewNatives) ↔ (given < named)
memory_is_not_few fault given named is enough = (grind arith, λ less. absurd (omega (arith, less, enough)))

-- each slot has its box
all_there : {L B : Type 0} (box : L → B) (slots : List (Option L)) (boxes : List B) → map (option_map box) slots ≡ map (λ b. Some b) boxes → (n : ℕ) →
    n < length slots → IsSome (living_at slots n)
all_there box [] boxes e n within = absurd (omega (arith, within))
all_there box (None ∷ slots) (b ∷ boxes) e n within = cc
all_there box (Some l ∷ slots) (b ∷ boxes) e zero within = refl
all_there box (Some l ∷ slots) (b ∷ boxes) e (suc n) within = grind (arith, nat_tests, all_there box slots boxes)
all_there box (l ∷ slots) [] e n within = cc

same_length : {L B : Type 0} (box : L → B) (slots : List (Option L)) (boxes : List B) → map (option_map box) slots ≡ map (λ b. Some b) boxes →
    length slots ≡ length boxes
same_length box slots boxes e = sym (long (option_map box) slots) ∙ ap length e ∙ long (λ b. Some b) boxes
  where
    long : {X Y : Type 0} (f : X → Y) (xs : List X) → length (map f xs) ≡ length xs
    long f [] = refl
    long f (x ∷ xs) = ap suc (long f xs)

module _ {L B : Type 0} (kept : L → List ℕ) (box : L → B) (p : Image) (slots : List (Option L)) (boxes : List B)
    (same : map (option_map box) slots ≡ map (λ b. Some b) boxes) where
  pub count : length slots ≡ length boxes
  count = same_length box slots boxes same

  pub serves_at_boot : p.header.natives ≤ length boxes → ((k : ℕ) → ids_at kept slots k ≡ []) → Serves kept p (boot_state p) slots
  serves_at_boot enough nothing = search (arith, nat_tests, count, all_there box slots boxes same)
