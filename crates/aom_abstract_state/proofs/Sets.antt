-- Sets of request states as numbers: one that has another, and the union and the intersection of two.
use Rattle.std.proofs.Common.{◌≡◌, ℕ, ◌≤◌, ◌/◌, IsTrue, sym, ap, ◌∙◌, arith}
use Rattle.std.proofs.lemmas.Nat.{and_comm, and_le_l, and_assoc, and_or_self, or_comm, or_shr}
use Rattle.std.specs.Prelude.{bit_and, bit_or}
use Rattle.aom_image.specs.Views.{has}
use Rattle.aom_abstract_state.proofs.ImageLemmas.{has_by, shared}
use lib.Arith.{bin_ind}
use lib.Bits.{and_self, and_step, or_add_and, or_step}

-- the union of two sets has each, and a set that has both has it
pub has_first : (a b : ℕ) → IsTrue (has (bit_or a b) a)
has_first a b = has_by (bit_or a b) a (ap (λ x. bit_and x a) (or_comm a b) ∙ and_or_self a b)

pub has_second : (a b : ℕ) → IsTrue (has (bit_or a b) b)
has_second a b = has_by (bit_or a b) b (and_or_self b a)

pub has_both : (n a b : ℕ) → IsTrue (has n a) → IsTrue (has n b) → IsTrue (has n (bit_or a b))
has_both n a b h k = has_by n (bit_or a b) (go n a b (shared n a h) (shared n b k))
  where
    go : (n a b : ℕ) → bit_and n a ≡ a → bit_and n b ≡ b → bit_and n (bit_or a b) ≡ bit_or a b
    go = bin_ind (λ (n : ℕ). (a b : ℕ) → bit_and n a ≡ a → bit_and n b ≡ b → bit_and n (bit_or a b) ≡ bit_or a b)
        (λ a b h k. omega (arith, and_le_l 0 a, and_le_l 0 b, or_add_and a b, and_le_l 0 (bit_or a b)))
        (λ n ih a b h k. let below : bit_and (n / 2) (bit_or a b / 2) ≡ bit_or a b / 2 = ap (bit_and (n / 2)) (or_shr a b 1)
        ∙ ih (a / 2) (b / 2) (omega (arith, and_step n a)) (omega (arith, and_step n b)) ∙ sym (or_shr a b 1) in
        omega (arith, below, and_step n (bit_or a b), and_step n a, and_step n b, or_step a b))

-- what a set has of a third, one that has it has too
pub has_shared : (a b c : ℕ) → IsTrue (has a b) → IsTrue (has (bit_and a c) (bit_and b c))
has_shared a b c h =
    let twice : bit_and c (bit_and b c) ≡ bit_and b c = ap (bit_and c) (and_comm b c) ∙ sym (and_assoc b c c) ∙ ap (λ x. bit_and x b) (and_self c) ∙ and_comm c b in
    has_by (bit_and a c) (bit_and b c) (and_assoc (bit_and b c) a c ∙ ap (bit_and a) twice ∙ sym (and_assoc c a b) ∙ ap (λ x. bit_and x c) (shared a b h))

-- a set that has another is no smaller a number
pub larger : (a b : ℕ) → IsTrue (has a b) → b ≤ a
larger a b h = omega (arith, shared a b h, and_le_l a b)
