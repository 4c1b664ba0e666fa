-- Which places are to be worked: where the state of a place has not changed since it was worked, the rule still applies there.
use Rattle.std.proofs.Common.{◌≡◌, ◌≢◌, ◌⊎◌, ℕ, zero, suc, ◌<◌, ◌≤◌, Bool, true, false, List, length, None, replicate, slice_set, inl, inr, refl, sym, ◌∙◌, ap, slice_index_or}
use Rattle.std.proofs.lemmas.Bool.{false≢true}
use Rattle.std.proofs.lemmas.Bool.Decides.{eqb_tells}
use Rattle.aom_image.specs.Image.{Image}
use Rattle.aom_roles.specs.Tables.{at}
use Rattle.aom_verify.proofs.AbstractStateLemmas.{at_past, at_set_here, at_set_other, at_within}
use Rattle.aom_static_bounds.specs.Shapes.{Shapes, IsBelow}
use Rattle.aom_verify.specs.Change.{IsChange}
use Rattle.aom_verify.specs.Sweep.{AppliesAt, AreWorked, Marks, SameBut, Visits}
use Rattle.aom_verify.specs.declared.change.StatesChange.{StatesChange}
use Rattle.aom_verify.specs.declared.change.StatesChange.TheVariants.{Nothing}
use Rattle.aom_verify.proofs.Ahead.{applies_still, nothing_ahead}
use Rattle.aom_verify.proofs.Ordering.{below_self}

-- ---- flags

pub put_stale : (s : List Bool) (to : ℕ) → to < length s → (pc : ℕ) → at true (slice_set s to true) pc ≡ false → (at true s pc ≡ false) × (pc ≢ to)
put_stale s to within pc f = elim (eqb_tells pc to) [
  | inl w ↦ absurd (false≢true (sym (rw w.1 at f) ∙ at_set_here true s to true within))
  | inr w ↦ (sym (at_set_other true s to pc true w.1) ∙ f, w.1)
]

pub past_stale : (s : List Bool) (to : ℕ) → length s ≤ to → (pc : ℕ) → at true s pc ≡ false → (at true s pc ≡ false) × (pc ≢ to)
past_stale s to past pc f = (f, λ e. false≢true (sym (rw e at f) ∙ at_past true s to past))

pub taken_other : (s : List Bool) (to pc : ℕ) → pc ≢ to → at true (slice_set s to false) pc ≡ false → at true s pc ≡ false
taken_other s to pc other f = sym (at_set_other true s to pc false other) ∙ f

pub flag_read : (s : List Bool) (place : ℕ) (flag : Bool) → place < length s → flag ≡ slice_index_or s place flag → flag ≡ at true s place
flag_read s place flag within is = is ∙ at_within true flag s place within

pub flag_past : (s : List Bool) (place : ℕ) → length s ≤ place → true ≡ at true s place
flag_past s place past = sym (at_past true s place past)

all_stale : (n pc : ℕ) → at true (replicate n true) pc ≡ true
all_stale zero pc = refl
all_stale (suc n) zero = refl
all_stale (suc n) (suc pc) = all_stale n pc

-- ---- a step

pub marks_self : (s : Shapes) (flags : List Bool) → Marks s s flags flags
marks_self s flags = record { each = λ pc f. (f, refl) }

pub marks_along : (a b c : Shapes) (x y z : List Bool) → Marks a b x y → Marks b c y z → Marks a c x z
marks_along a b c x y z h k = record {
  each = λ pc f.
      let last = k.each pc f in
      let first = h.each pc last.0 in
      (first.0, last.1 ∙ first.1);
}

-- one place is marked if its state changes
pub marks_one : (old new : Shapes) (before after : List Bool) (to : ℕ) (change : StatesChange) → IsChange old new change → SameBut to old new →
    ((pc : ℕ) → at true after pc ≡ false → (at true before pc ≡ false) × ((change ≡ Nothing) ⊎ (pc ≢ to))) → Marks old new before after
marks_one old new before after to change changed others marked = record { each = λ pc f. ((marked pc f).0, same pc (marked pc f).1) }
  where
    same : (pc : ℕ) → (change ≡ Nothing) ⊎ (pc ≢ to) → at None new pc ≡ at None old pc
    same pc (inl none) = let alike : new ≡ old = rw none at changed in ap (λ s. at None s pc) alike
    same pc (inr other) = others pc other

-- ---- what is worked

pub worked_at_first : (p : Image) (m : ℕ) (s : Shapes) (count : ℕ) → AreWorked p m s (replicate count true)
worked_at_first p m s count = record { each = λ pc f. absurd (false≢true (sym f ∙ all_stale count pc)) }

-- a place was worked, and it does not change its own state, or is stale again
pub worked_more : (p : Image) (m : ℕ) (old new : Shapes) (before taken after : List Bool) (place : ℕ) → AreWorked p m old before →
    ((pc : ℕ) → pc ≢ place → at true taken pc ≡ false → at true before pc ≡ false) → Marks old new taken after → IsBelow new old →
    (at None new place ≡ at None old place → AppliesAt p m new place) → AreWorked p m new after
worked_more p m old new before taken after place worked others marks below here = record {
  each = λ pc f.
      let marked = marks.each pc f in
      elim (eqb_tells pc place) [
        | inl w ↦ rw w.1 (here (rw w.1 at marked.1))
        | inr w ↦ applies_still p m old new pc marked.1 below (worked.each pc (others pc w.1 marked.0))
      ];
}

-- a place that is not stale has nothing to be done
pub passed_over : (p : Image) (m : ℕ) (s : Shapes) (before : List Bool) (place : ℕ) (is_stale : Bool) → AreWorked p m s before → is_stale ≡ at true before place →
    is_stale ≡ false → Visits p m s s place (record { change = Nothing; is_behind = false })
passed_over p m s before place is_stale worked was not_stale = record {
  keeps = record { size = refl; below_old = below_self s; arrives = λ all. all; typings = λ t typed below. below };
  changed = refl;
  ahead = nothing_ahead place s;
  applies = λ behind. worked.each place (sym was ∙ not_stale);
}

pub worked_before : (p : Image) (m : ℕ) (s : Shapes) (before after : List Bool) (place : ℕ) (is_stale : Bool) → AreWorked p m s before →
    is_stale ≡ at true before place → is_stale ≡ false → ((pc : ℕ) → pc ≢ place → at true after pc ≡ false → at true before pc ≡ false) → AreWorked p m s after
worked_before p m s before after place is_stale worked was not_stale others = record {
  each = λ pc f. elim (eqb_tells pc place) [
    | inl w ↦ worked.each pc (rw w.1 (sym was ∙ not_stale))
    | inr w ↦ worked.each pc (others pc w.1 f)
  ];
}

-- nor has one that is not reached
pub worked_none : (p : Image) (m : ℕ) (s : Shapes) (before taken : List Bool) (place : ℕ) → AreWorked p m s before → at None s place ≡ None →
    ((pc : ℕ) → pc ≢ place → at true taken pc ≡ false → at true before pc ≡ false) → AreWorked p m s taken
worked_none p m s before taken place worked missing others =
    worked_more p m s s before taken taken place worked others (marks_self s taken) (below_self s) (λ same sh f. absurd cc)
