-- Sets of request states as numbers.
use Rattle.std.proofs.Common.{◌≡◌, ℕ, IsTrue, sym, ap, ◌∙◌}
use Rattle.std.proofs.lemmas.Bool.{eqb-true, eq-eqb}
use Rattle.std.proofs.lemmas.Nat.{and_assoc}
use Rattle.std.specs.Prelude.{bit_and}
use Rattle.aom_image.specs.Views.{has}
use lib.Bits.{and_self}

pub shared : (a b : ℕ) → IsTrue (has a b) → bit_and a b ≡ b
shared a b h = eqb-true (bit_and a b) b h

pub has_by : (a b : ℕ) → bit_and a b ≡ b → IsTrue (has a b)
has_by a b e = eq-eqb (bit_and a b) b e

pub has_itself : (a : ℕ) → IsTrue (has a a)
has_itself a = has_by a a (and_self a)

pub has_along : (a b c : ℕ) → IsTrue (has a b) → IsTrue (has b c) → IsTrue (has a c)
has_along a b c h k = has_by a c (ap (bit_and a) (sym (shared b c k)) ∙ sym (and_assoc c a b) ∙ ap (λ x. bit_and x c) (shared a b h) ∙ shared b c k)
