-- Visits add up to a sweep, and sweeps to the states that they find.
use Rattle.std.proofs.Common.{◌≡◌, ℕ, ◌<◌, ◌+◌, false, length, Option, Some, None, replicate, slice_set, inl, inr, refl, ◌∙◌, arith}
use Rattle.std.proofs.lemmas.Bool.Decides.{eqb_tells, leb_tells}
use Rattle.std.proofs.lemmas.List.{length-set, length-replicate}
use Rattle.aom_image.specs.Image.{Image}
use Rattle.aom_abstract_state.specs.Order.{IsImpliedBy}
use Rattle.aom_abstract_state.specs.AbstractState.{AbstractState}
use Rattle.aom_roles.specs.Tables.{at}
use Rattle.aom_abstract_state.specs.Arguments.{entry_shape}
use Rattle.aom_abstract_state.specs.declared.why.Reason.{Reason}
use Rattle.aom_verify.proofs.AbstractStateLemmas.{at_past, at_set_here, at_set_other}
use Rattle.aom_static_bounds.specs.Shapes.{Shapes, IsBelow, IsMethodTyped, HasTyping}
use Rattle.aom_static_bounds.specs.Strongest.{IsMethodStrongest}
use Rattle.aom_verify.specs.Arrivals.{AllArrive, StatesFail}
use Rattle.aom_verify.specs.Arrivals.Arrives.{begins}
use Rattle.aom_verify.specs.Change.{step_then}
use Rattle.aom_verify.specs.Sweep.{Spans, SweepInvariant, Visits, Sweeps, Settles, NoTypingBelow}
use Rattle.aom_verify.specs.declared.change.StatesChange.TheVariants.{Nothing}
use Rattle.aom_verify.specs.declared.change.Step.{Step}
use Rattle.aom_verify.proofs.Ahead.{applies_still, then_first, then_last, then_nothing}
use Rattle.aom_verify.proofs.Ordering.{meets_more, below_self, below_along}
use Rattle.aom_verify.proofs.Falling.{changes_add}
use Rattle.aom_verify.proofs.Keeping.{none_reached}

pub spans_kept : (p : Image) (m : ℕ) (s new : Shapes) → Spans p m s → length new ≡ length s → Spans p m new
spans_kept p m s new h e = record { method = h.method; is = h.is; size = e ∙ h.size }

pub keeps_self : (p : Image) (m : ℕ) (s : Shapes) → SweepInvariant p m s s
keeps_self p m s = record { size = refl; below_old = below_self s; arrives = λ all. all; typings = λ t typed below. below }

pub keeps_along : (p : Image) (m : ℕ) (a b c : Shapes) → SweepInvariant p m a b → SweepInvariant p m b c → SweepInvariant p m a c
keeps_along p m a b c h k = record {
  size = k.size ∙ h.size;
  below_old = below_along c b a k.below_old h.below_old;
  arrives = λ all. k.arrives (h.arrives all);
  typings = λ t typed below. k.typings t typed (h.typings t typed below);
}

pub none_before : (p : Image) (m : ℕ) (a b : Shapes) → SweepInvariant p m a b → NoTypingBelow p m b → NoTypingBelow p m a
none_before p m a b h k = record { none = λ t typed below. k.none t typed (h.typings t typed below) }

pub fails_before : (p : Image) (m : ℕ) (a b c : Shapes) (place : ℕ) (why : Reason) → SweepInvariant p m a b → StatesFail p m b c place why → StatesFail p m a c place why
fails_before p m a b c place why h k = λ all. k (h.arrives all)

pub sweeps_self : (p : Image) (m : ℕ) (s : Shapes) → Sweeps p m s s 0 (record { change = Nothing; is_behind = false })
sweeps_self p m s = record { keeps = keeps_self p m s; changed = refl; nothing = λ none. refl; applies = λ behind pc below. absurd (omega arith) }

pub sweeps_more : (p : Image) (m : ℕ) (a b c : Shapes) (count : ℕ) (x y : Step) → Sweeps p m a b count x → Visits p m b c count y →
    Sweeps p m a c (count + 1) (step_then x y)
sweeps_more p m a b c count x y h k = record {
  keeps = keeps_along p m a b c h.keeps k.keeps;
  changed = changes_add a b c x.change y.change h.changed k.changed;
  nothing = then_nothing x y h.nothing k.ahead.nothing;
  applies = λ behind pc below. elim (eqb_tells pc count) [
    | inl w ↦ rw w.1 (k.applies (then_last x y behind))
    | inr w ↦
        let low : pc < count = omega (arith, w.1, below) in
        applies_still p m b c pc (k.ahead.same (then_last x y behind) pc (omega (arith, low))) k.keeps.below_old (h.applies (then_first x y behind) pc low)
  ];
}

-- the states before the first sweep
abbrev pub first_shapes : ℕ → AbstractState → Shapes
first_shapes places entry = slice_set (replicate places None) 0 (Some entry)

pub first_count : (places : ℕ) (entry : AbstractState) → length (first_shapes places entry) ≡ places
first_count places entry = length-set (replicate places None) 0 (Some entry) ∙ length-replicate places None

entry_stands : (places : ℕ) (entry : AbstractState) → 0 < places → at None (first_shapes places entry) 0 ≡ Some entry
entry_stands places entry h = at_set_here None (replicate places None) 0 (Some entry) (omega (arith, h, length-replicate {A = Option AbstractState} places None))

pub typing_below_first : (p : Image) (m : ℕ) (t : Shapes) (places : ℕ) (entry : AbstractState) → 0 < places → IsImpliedBy (entry_shape p m) entry → IsMethodTyped p m t →
    IsBelow t (first_shapes places entry)
typing_below_first p m t places entry some no_less typed = record {
  each = λ pc sh e. elim (eqb_tells pc 0) [
    | inl w ↦
        let same : entry ≡ sh = let f = rw w.1 at e in let g = entry_stands places entry some in cc in
        rw (w.1, ← same) (meets_more t 0 (entry_shape p m) entry typed.entry no_less)
    | inr w ↦
        let other = at_set_other None (replicate places None) 0 pc (Some entry) w.1 in
        let missing = none_reached {A = AbstractState} places pc in
        absurd cc
  ];
}

-- the state before the first sweep is what is known as the method begins
pub first_arrives : (p : Image) (m : ℕ) (places : ℕ) (entry : AbstractState) → 0 < places → IsImpliedBy entry (entry_shape p m) → IsImpliedBy (entry_shape p m) entry →
    AllArrive p m (first_shapes places entry)
first_arrives p m places entry some implied no_less = λ pc sh e. elim (eqb_tells pc 0) [
  | inl w ↦
      let same : entry ≡ sh = let f = rw w.1 at e in let g = entry_stands places entry some in cc in
      rw (w.1, ← same) (begins implied no_less)
  | inr w ↦
      let other = at_set_other None (replicate places None) 0 pc (Some entry) w.1 in
      let missing = none_reached {A = AbstractState} places pc in
      absurd cc
]

-- settled states are the strongest typing
pub settled : (p : Image) (m : ℕ) (places : ℕ) (entry : AbstractState) (s : Shapes) →
    0 < places → IsImpliedBy entry (entry_shape p m) → IsImpliedBy (entry_shape p m) entry → Settles p m (first_shapes places entry) s → IsMethodStrongest p m s
settled p m places entry s some implied no_less h = record {
  typed = record {
    each = λ pc sh e. elim (leb_tells (length s) pc) [
      | inl w ↦ let past = at_past None s pc w.1 in absurd cc
      | inr w ↦ h.applies pc (omega (arith, w.1)) sh e
    ];
    entry = meets_more s 0 entry (entry_shape p m) (h.keeps.below_old.each 0 entry (entry_stands places entry some)) implied;
  };
  least = λ t typed. h.keeps.typings t typed (typing_below_first p m t places entry some no_less typed);
}

-- and where there is no typing below the first states the method has none
pub untyped : (p : Image) (m : ℕ) (places : ℕ) (entry : AbstractState) → 0 < places → IsImpliedBy (entry_shape p m) entry →
    NoTypingBelow p m (first_shapes places entry) → ¬ HasTyping p m
untyped p m places entry some no_less h = λ typing. h.none typing.states typing.typed (typing_below_first p m typing.states places entry some no_less typing.typed)
