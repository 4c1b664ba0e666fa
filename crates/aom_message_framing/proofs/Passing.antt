-- A message that is passed over, with one byte more.
use Rattle.std.proofs.Common.{◌≡◌, ◌∙◌, ◌≤◌, ◌<◌, ◌+◌, ◌-◌, ◌^◌, List, [], ◌∷◌, ◌++◌, ℕ, Some, append_assoc, ap, arith, length, length-append}
use Rattle.std.proofs.lemmas.List.{take_all}
use Rattle.aom_message_framing.specs.Frames.{HasLength, IsOfHead, StandsAt, is_whole}
use Rattle.aom_message_framing.specs.declared.frames.Stage.TheVariants as stages
use Rattle.aom_message_framing.specs.declared.frames.Stage.TheVariants.{Passing}

-- nothing has come of a head
nothing : IsOfHead []
nothing = record { none = record { none = λ k within. ap is_whole (take_all k [] (grind arith)) }; few = grind arith }

joined : (p head begun : List ℕ) (b : ℕ) → p ≡ head ++ begun → p ++ b ∷ [] ≡ head ++ (begun ++ b ∷ [])
joined p head begun b is = ap (λ t. t ++ b ∷ []) is ∙ append_assoc head begun (b ∷ [])

counted : (begun : List ℕ) (b left : ℕ) → 1 ≤ left → length begun + left ≡ length (begun ++ b ∷ []) + (left - 1)
counted begun b left some = grind (arith, length-append begun (b ∷ []))

pub passed_more : (p : List ℕ) (b left : ℕ) (kept : List ℕ) → 1 < left → StandsAt p (Passing left) kept → StandsAt (p ++ b ∷ []) (Passing (left - 1)) kept
passed_more p b left kept more stands =
    let begun = stands.0.1 in
    let is = stands.0.2 in
    let long = stands.0.3 in
    let same = counted begun b left (grind arith) in (
      (
        stands.0.0,
        begun ++ b ∷ [],
        record {
          whole = is.whole;
          says = is.says ∙ ap (λ n. Some n) same;
          is = joined p stands.0.0 begun b is.is;
          more = grind (arith, more);
        },
        grind (arith, same, long),
      ),
      stands.1,
    )

pub passed_last : (p : List ℕ) (b left : ℕ) (kept : List ℕ) → left ≤ 1 → StandsAt p (Passing left) kept
    → ((head : List ℕ) × (message : List ℕ) × HasLength (p ++ b ∷ []) head message × (2 ^ 22 < length message)) × StandsAt [] stages.Head kept
passed_last p b left kept last stands =
    let begun = stands.0.1 in
    let is = stands.0.2 in
    let long = stands.0.3 in
    let one : left ≡ 1 = grind (arith, is.more) in
    let size : length begun + left ≡ length (begun ++ b ∷ []) = grind (arith, one, length-append begun (b ∷ [])) in (
      (
        stands.0.0,
        begun ++ b ∷ [],
        record { whole = is.whole; says = is.says ∙ ap (λ n. Some n) size; is = joined p stands.0.0 begun b is.is },
        grind (arith, size, long),
      ),
      (nothing, stands.1),
    )
