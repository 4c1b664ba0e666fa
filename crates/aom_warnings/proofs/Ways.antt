-- Ways out of the places that are marked, and that without them just what is reached is marked.
use Rattle.std.proofs.Common.{◌≡◌, ◌<◌, ◌≤◌, ◌+◌, ◌∙◌, ℕ, zero, suc, Bool, true, false, List, [], ◌∷◌, Option, Some, None, length, slice_get, slice_index_or, slice_set, cond, sum_by, replicate, ap, arith, inl, inr, refl, subst, sym}
use Rattle.std.proofs.lemmas.Bool.Decides.{eqb_tells, nat_tests}
use Rattle.std.proofs.lemmas.List.{get_or-replicate, get_or-set_other, get_or-set_same, get_or_past, length-replicate}
use Rattle.std.proofs.lemmas.List.Sums.{sum_by-set}
use Rattle.std.proofs.lemmas.Option.{slice_get_read, slice_get_within}
use Rattle.aom_instructions.specs.Table.{transfer_of}
use Rattle.aom_instructions.specs.declared.instr.Instr.{Instr}
use Rattle.aom_instructions.specs.declared.transfer.Transfer.{Transfer}
use Rattle.aom_warnings.specs.Reached.{IsReached, Keeps, Leads, LeadsIn, LeadsOut, MarksReached, OutBy, is_marked}
use Rattle.aom_warnings.specs.Reached.IsReached.{begins, goes_on}

module _ (code : List Instr) (marks : List Bool) where
  module _ (place : ℕ) (i : Instr) (t : Transfer) where
    pub leads_out : (next : ℕ) → place < length code → i ≡ slice_index_or code place i → t ≡ transfer_of i → is_marked marks place ≡ true →
        OutBy t marks place (Some next) → LeadsOut code marks next
    unfolding LeadsIn
    leads_out next lt at is marked out = record {
      from = place;
      marked = marked;
      leads = rw (slice_get_read code (length code) place i refl lt at, ← is) out.0;
      there = out.1;
      unmarked = out.2;
    }

    pub keeps_by : place < length code → i ≡ slice_index_or code place i → t ≡ transfer_of i → OutBy t marks place None → Keeps code marks place
    unfolding LeadsIn
    keeps_by lt at is none = λ marked next leads. none next (rw (slice_get_read code (length code) place i refl lt at, ← is) at leads)

  pub keeps_unmarked : (place : ℕ) → is_marked marks place ≡ false → Keeps code marks place
  keeps_unmarked place none = λ marked. absurd cc

  pub keeps_more : (place : ℕ) → ((k : ℕ) → k < place → Keeps code marks k) → Keeps code marks place → (k : ℕ) → k < place + 1 → Keeps code marks k
  keeps_more place before here k lt = elim (eqb_tells k place) [
    | inl w ↦ subst (λ j. Keeps code marks j) (sym w.1) here
    | inr w ↦ before k (omega (arith, w.1, lt))
  ]

leads_within : (code : List Instr) (place next : ℕ) → Leads code place next → place < length code
unfolding LeadsIn
leads_within code place next leads = go (slice_get code place) refl leads
  where
    go : (o : Option Instr) → slice_get code place ≡ o → LeadsIn o place next → place < length code
    go None e l = absurd l
    go (Some i) e l = slice_get_within code place i e

complete : (code : List Instr) (marks : List Bool) → length marks ≡ length code → is_marked marks 0 ≡ true → ((place : ℕ) → Keeps code marks place) → (k : ℕ) →
    IsReached code k → k < length code → is_marked marks k ≡ true
complete code marks size first keeps k begins lt = first
complete code marks size first keeps k (goes_on place next before leads) lt =
    keeps place (complete code marks size first keeps place before (leads_within code place next leads)) next leads (omega (arith, size, lt))

-- where no way leads out, just the places that are reached are marked
pub all_reached : (code : List Instr) (marks : List Bool) → length marks ≡ length code → is_marked marks 0 ≡ true → ((place : ℕ) → Keeps code marks place) →
    ((k : ℕ) → is_marked marks k ≡ true → IsReached code k) → MarksReached code marks
all_reached code marks size first keeps sound place lt = (sound place, λ r. complete code marks size first keeps place r lt)

-- ---- one mark more

-- 1 for a place that is not marked
abbrev pub left : Bool → ℕ
left marked = cond marked 0 1

-- fewer places are left
pub fewer_left : (marks : List Bool) (next : ℕ) → next < length marks → is_marked marks next ≡ false → sum_by left (slice_set marks next true) < sum_by left marks
fewer_left marks next lt none =
    let taken : left (slice_index_or marks next false) ≡ 1 = ap left none in
    omega (arith, sum_by-set left marks next true false lt, taken)

-- what was reached, and one place more
pub one_more : (code : List Instr) (marks : List Bool) (next : ℕ) → ((k : ℕ) → is_marked marks k ≡ true → IsReached code k) →
    IsReached code next → (k : ℕ) → is_marked (slice_set marks next true) k ≡ true → IsReached code k
one_more code marks next sound here k is = elim (eqb_tells k next) [
  | inl w ↦ subst (λ j. IsReached code j) (sym w.1) here
  | inr w ↦ sound k (sym (get_or-set_other marks next k true false w.1) ∙ is)
]

pub out_reached : (code : List Instr) (marks : List Bool) (next : ℕ) → ((k : ℕ) → is_marked marks k ≡ true → IsReached code k) → LeadsOut code marks next →
    IsReached code next
out_reached code marks next sound out = goes_on out.from next (sound out.from out.marked) out.leads

pub still_first : (marks : List Bool) (next : ℕ) → is_marked marks 0 ≡ true → is_marked (slice_set marks next true) 0 ≡ true
still_first [] next first = absurd cc
still_first (m ∷ marks) zero first = refl
still_first (m ∷ marks) (suc next) first = first

-- at the beginning none is marked, and then the first place
none_marked : (n k : ℕ) → is_marked (replicate n false) k ≡ true → ⊥
none_marked n k is = grind (arith, nat_tests, get_or-replicate n k false false, get_or_past (replicate n false) k false, length-replicate n false)

pub first_sound : (code : List Instr) (n k : ℕ) → is_marked (slice_set (replicate n false) 0 true) k ≡ true → IsReached code k
first_sound code n k is = one_more code (replicate n false) 0 (λ j some. absurd (none_marked n j some)) begins k is

pub first_marked : (n : ℕ) → 1 ≤ n → is_marked (slice_set (replicate n false) 0 true) 0 ≡ true
first_marked n some = get_or-set_same (replicate n false) 0 true false (omega (arith, some, length-replicate n false))
