-- The states of a method have fewer cleanup entries than there are places reached, and so fewer than it has places.
use Rattle.std.proofs.Common.{◌≡◌, ℕ, zero, suc, ◌<◌, ◌≤◌, List, [], ◌∷◌, ◌++◌, length, Option, Some, None, slice_set, slice_index_or, replicate, inl, inr}
use Rattle.std.proofs.Common.{refl, sym, ◌∙◌, ap, arith}
use Rattle.std.proofs.lemmas.Bool.Decides.{eqb_tells}
use Rattle.std.proofs.lemmas.List.{length-set, length-replicate}
use Rattle.std.proofs.lemmas.List.Sums.{sum_by-set, sum_by-cons}
use Rattle.aom_image.specs.Image.{Image}
use Rattle.aom_typing_rules.specs.Laws.{HaveAtMost}
use Rattle.aom_abstract_state.specs.Meet.{IsMeet}
use Rattle.aom_abstract_state.specs.Needs.{Flow}
use Rattle.aom_abstract_state.specs.AbstractState.{AbstractState}
use Rattle.aom_roles.specs.Tables.{at}
use Rattle.aom_verify.proofs.TypingRulesLemmas.{at_most_one_more}
use Rattle.aom_verify.proofs.AbstractStateLemmas.{at_set_here, at_set_other, at_within}
use Rattle.aom_static_bounds.specs.Shapes.{Shapes}
use Rattle.aom_verify.specs.Change.{unreached, unreached_count, IsChange}
use Rattle.aom_verify.specs.Entries.{HasFewEntries, IsFew, AllFew, HasRoom}
use Rattle.aom_verify.specs.Sweep.{Spans, Joins, Flows}
use Rattle.aom_verify.specs.declared.change.StatesChange.{StatesChange}
use Rattle.aom_verify.specs.declared.change.StatesChange.TheVariants.{Nothing, Fell, Reached}

-- ---- a place that is written

-- it is reached first
pub few_first : (s : Shapes) (to : ℕ) (sh : AbstractState) → HasFewEntries s → to < length s → at None s to ≡ None → IsFew s sh → HasFewEntries (slice_set s to (Some sh))
few_first s to sh h within e few =
    let read : slice_index_or s to None ≡ None = at_within None None s to within ∙ e in
    let one_less = sum_by-set unreached s to (Some sh) None within in
    let was = ap unreached read in
    record {
      each = λ pc x f. elim (eqb_tells pc to) [
        | inl w ↦
            let same : sh ≡ x = let here = rw w.1 at f in let there = at_set_here None s to (Some sh) within in cc in
            rw (← same) (omega (arith, one_less, was, few, length-set s to (Some sh)))
        | inr w ↦
            let other = h.each pc x (sym (at_set_other None s to pc (Some sh) w.1) ∙ f) in
            omega (arith, one_less, was, other, length-set s to (Some sh))
      ];
    }

-- its state falls, and keeps its entries
pub few_lower : (s : Shapes) (to : ℕ) (sh there less : AbstractState) → HasFewEntries s → to < length s → at None s to ≡ Some there → IsMeet less there sh →
    HasFewEntries (slice_set s to (Some less))
few_lower s to sh there less h within e meet =
    let read : slice_index_or s to (Some there) ≡ Some there = at_within None (Some there) s to within ∙ e in
    let as_many = sum_by-set unreached s to (Some less) (Some there) within in
    let was = ap unreached read in
    let kept = ap (λ es. length es) meet.first.entries in
    record {
      each = λ pc x f. elim (eqb_tells pc to) [
        | inl w ↦
            let same : less ≡ x = let here = rw w.1 at f in let put = at_set_here None s to (Some less) within in cc in
            rw (← same) (omega (arith, as_many, was, kept, h.each to there e, length-set s to (Some less)))
        | inr w ↦
            let other = h.each pc x (sym (at_set_other None s to pc (Some less) w.1) ∙ f) in
            omega (arith, as_many, was, other, length-set s to (Some less))
      ];
    }

-- ---- the first states

all_unreached : (n : ℕ) → unreached_count (replicate n None) ≡ n
all_unreached zero = refl
all_unreached (suc n) = omega (arith, sum_by-cons unreached None (replicate n None), all_unreached n)

none_there : (n pc : ℕ) → at {A = Option AbstractState} None (replicate n None) pc ≡ None
none_there zero pc = refl
none_there (suc n) zero = refl
none_there (suc n) (suc pc) = none_there n pc

none_few : (n : ℕ) → HasFewEntries (replicate n None)
none_few n = record { each = λ pc x f. let missing = none_there n pc in absurd cc }

pub few_at_first : (n : ℕ) (entry : AbstractState) → 0 < n → entry.entries ≡ [] → HasFewEntries (slice_set (replicate n None) 0 (Some entry))
few_at_first n entry some none =
    let size = length-replicate {A = Option AbstractState} n None in
    few_first (replicate n None) 0 entry (none_few n) (omega (arith, size, some)) (none_there n 0) (omega (arith, size, all_unreached n, ap (λ es. length es) none))

-- ---- ways

fewer_left : (old new : Shapes) (change : StatesChange) → IsChange old new change → unreached_count new ≤ unreached_count old
fewer_left old new Nothing h = rw h (omega arith)
fewer_left old new Fell h = omega (arith, h.0)
fewer_left old new Reached h = omega (arith, h)

pub few_ways_first : (s : Shapes) (xs ys : List Flow) → AllFew s (xs ++ ys) → AllFew s xs
few_ways_first s [] ys h = tt
few_ways_first s (x ∷ xs) ys h = (h.0, few_ways_first s xs ys h.1)

few_ways_last : (s : Shapes) (xs ys : List Flow) → AllFew s (xs ++ ys) → AllFew s ys
few_ways_last s [] ys h = h
few_ways_last s (x ∷ xs) ys h = few_ways_last s xs ys h.1

still_few : (a b : Shapes) (xs ys : List Flow) (x : StatesChange) → Joins a b xs x → AllFew a ys → AllFew b ys
still_few a b xs [] x h few = tt
still_few a b xs (y ∷ ys) x h few = (omega (arith, few.0, h.size, fewer_left a b x h.changed), still_few a b xs ys x h few.1)

-- ways are as few once others have been joined
pub ways_still_few : (a b : Shapes) (xs ys : List Flow) (x : StatesChange) → Joins a b xs x → AllFew a (xs ++ ys) → AllFew b ys
ways_still_few a b xs ys x h few = still_few a b xs ys x h (few_ways_last a xs ys few)

-- ---- a visit

pub room : (p : Image) (m : ℕ) (s : Shapes) (pc : ℕ) (sh : AbstractState) → Spans p m s → HasFewEntries s → at None s pc ≡ Some sh → HasRoom p m sh
room p m s pc sh spans h e = record {
  each = λ d f.
      let same : spans.method ≡ d = let g = spans.is in cc in
      let size = rw same at spans.size in
      omega (arith, h.each pc sh e, size);
}

pub flows_few : (p : Image) (m pc : ℕ) (sh : AbstractState) (ways : List Flow) → Flows p m pc sh ways → HaveAtMost (suc (length sh.entries)) ways
flows_few p m pc sh ways h = rw h.is (at_most_one_more p m pc sh h.instr)

pub ways_few : (s : Shapes) (pc : ℕ) (sh : AbstractState) (ways : List Flow) → HasFewEntries s → at None s pc ≡ Some sh →
    HaveAtMost (suc (length sh.entries)) ways → AllFew s ways
ways_few s pc sh [] h e few = tt
ways_few s pc sh (way ∷ ways) h e few = (omega (arith, h.each pc sh e, few.0), ways_few s pc sh ways h e few.1)
