-- Heads with one byte more.
use Rattle.std.proofs.Common.{◌≡◌, ◌∙◌, ◌≤◌, ◌<◌, ◌⊎◌, inl, inr, true, false, List, [], ◌∷◌, ◌++◌, ℕ, suc, ap, arith, length, take, length-append}
use Rattle.std.proofs.lemmas.Bool.{cases_lt}
use Rattle.std.proofs.lemmas.List.{take-append-le, take_all}
use Rattle.aom_message_framing.specs.Frames.{HasNoHead, IsHead, IsOfHead, is_whole}

same_beginning : (p : List ℕ) (b k : ℕ) → k ≤ length p → take k (p ++ b ∷ []) ≡ take k p
same_beginning p b k within = grind (arith, take-append-le)

beginning : (p : List ℕ) (b k : ℕ) → HasNoHead p → k ≤ length p → is_whole (take k (p ++ b ∷ [])) ≡ false
beginning p b k none within = ap is_whole (same_beginning p b k within) ∙ none.none k within

-- a head is whole with its last byte
pub ended : (p : List ℕ) (b : ℕ) → IsOfHead p → is_whole (p ++ b ∷ []) ≡ true → IsHead (p ++ b ∷ [])
ended p b of whole = record {
  whole = whole;
  first = λ k before. beginning p b k of.none (grind (arith, length-append p (b ∷ [])));
  few = grind (arith, length-append p (b ∷ []), of.few);
}

grown_at : (p : List ℕ) (b k : ℕ) → HasNoHead p → is_whole (p ++ b ∷ []) ≡ false → (k < suc (length p)) ⊎ (suc (length p) ≤ k) → is_whole (take k (p ++ b ∷ [])) ≡ false
grown_at p b k none not (inl before) = beginning p b k none (grind arith)
grown_at p b k none not (inr whole) = ap is_whole (take_all k (p ++ b ∷ []) (grind (arith, length-append p (b ∷ [])))) ∙ not

pub grown : (p : List ℕ) (b : ℕ) → HasNoHead p → is_whole (p ++ b ∷ []) ≡ false → HasNoHead (p ++ b ∷ [])
grown p b none not = record { none = λ k within. grown_at p b k none not (cases_lt k (suc (length p))) }
