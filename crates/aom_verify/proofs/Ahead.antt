-- Where a step changes no place that the sweep has come to, what was found of these places stands.
use Rattle.std.proofs.Common.{◌≡◌, ◌∙◌, ℕ, ◌<◌, Bool, false, List, Option, Some, None, slice_set, inl, inr, refl, ap, arith}
use Rattle.std.specs.Prelude.{◌⊎◌, ◌||◌}
use Rattle.aom_image.specs.Image.{Image}
use Rattle.aom_abstract_state.specs.Changes.{kept_shape}
use Rattle.aom_roles.specs.Tables.{at}
use Rattle.aom_abstract_state.specs.declared.entry_stacks.Node.{Node}
use Rattle.aom_abstract_state.specs.declared.shape.Kept.{Kept}
use Rattle.aom_verify.proofs.AbstractStateLemmas.{at_set_other}
use Rattle.aom_static_bounds.specs.Shapes.{Shapes, IsBelow}
use Rattle.aom_verify.specs.Change.{IsChange, step_then, then}
use Rattle.aom_verify.specs.States.{shapes_of}
use Rattle.aom_abstract_state.specs.Needs.{Flow}
use Rattle.aom_verify.specs.Sweep.{AppliesAt, IsAhead, Joins, SameBut, SameUpTo}
use Rattle.aom_verify.specs.declared.change.StatesChange.{StatesChange}
use Rattle.aom_verify.specs.declared.change.StatesChange.TheVariants.{Nothing}
use Rattle.aom_verify.specs.declared.change.Step.{Step}
use Rattle.aom_verify.proofs.Joining.{all_met_below}
use Rattle.aom_verify.proofs.Keeping.{set_shapes}
use Rattle.std.proofs.lemmas.Bool.{or_parts}

-- ---- one place changes

pub set_but : (nodes : List Node) (kept : List (Option Kept)) (to : ℕ) (k : Kept) → SameBut to (shapes_of nodes kept) (shapes_of nodes (slice_set kept to (Some k)))
set_but nodes kept to k pc other = rw (set_shapes nodes kept to (Some k)) (at_set_other None (shapes_of nodes kept) to pc (Some (kept_shape nodes k)) other)

pub joined_ahead : (old new : Shapes) (to seen : ℕ) (step : Step) → IsChange old new step.change → SameBut to old new →
    (step.is_behind ≡ false → (step.change ≡ Nothing) ⊎ (seen < to)) → (step.change ≡ Nothing → step.is_behind ≡ false) → IsAhead seen old new step
joined_ahead old new to seen step changed others ahead nothing = record { same = λ behind. go (ahead behind); nothing = nothing }
  where
    go : (step.change ≡ Nothing) ⊎ (seen < to) → SameUpTo seen old new
    go (inl none) pc le = let same : new ≡ old = rw none at changed in ap (λ s. at None s pc) same
    go (inr lt) pc le = others pc (λ e. absurd (omega (arith, e, le, lt)))

-- what was joined at a place by a step with that change
pub joined_at : (old new : Shapes) (ways : List Flow) (to seen : ℕ) (change : StatesChange) (step : Step) → Joins old new ways change →
    SameBut to old new → step.change ≡ change → (step.is_behind ≡ false → (change ≡ Nothing) ⊎ (seen < to)) → (change ≡ Nothing → step.is_behind ≡ false) →
    Joins old new ways step.change × IsAhead seen old new step
joined_at old new ways to seen change step joins others same ahead nothing =
    let here : Joins old new ways step.change = rw same joins in
    (here, joined_ahead old new to seen step here.changed others (rw same ahead) (rw same nothing))

-- ---- nothing changes, and one step after another

pub nothing_ahead : (seen : ℕ) (s : Shapes) → IsAhead seen s s (record { change = Nothing; is_behind = false })
nothing_ahead seen s = record { same = λ behind pc le. refl; nothing = λ none. refl }

or_first : (x y : Bool) → (x || y) ≡ false → x ≡ false
or_first x y e = (or_parts x y e).0

or_last : (x y : Bool) → (x || y) ≡ false → y ≡ false
or_last x y e = (or_parts x y e).1

or_none : (x y : Bool) → x ≡ false → y ≡ false → (x || y) ≡ false
or_none x y e f = rw (e, f) refl

pub then_first : (x y : Step) → (step_then x y).is_behind ≡ false → x.is_behind ≡ false
then_first x y e = or_first x.is_behind y.is_behind e

pub then_last : (x y : Step) → (step_then x y).is_behind ≡ false → y.is_behind ≡ false
then_last x y e = or_last x.is_behind y.is_behind e

nothing_first : (x y : StatesChange) → then x y ≡ Nothing → x ≡ Nothing
nothing_first Nothing y e = refl
nothing_first _ _ e = absurd (grind arith)

nothing_last : (x y : StatesChange) → then x y ≡ Nothing → y ≡ Nothing
nothing_last x y e = rw (nothing_first x y e) at e

pub then_nothing : (x y : Step) → (x.change ≡ Nothing → x.is_behind ≡ false) → (y.change ≡ Nothing → y.is_behind ≡ false) → (step_then x y).change ≡ Nothing →
    (step_then x y).is_behind ≡ false
then_nothing x y one other e = or_none x.is_behind y.is_behind (one (nothing_first x.change y.change e)) (other (nothing_last x.change y.change e))

pub then_ahead : (seen : ℕ) (a b c : Shapes) (x y : Step) → IsAhead seen a b x → IsAhead seen b c y → IsAhead seen a c (step_then x y)
then_ahead seen a b c x y h k = record {
  same = λ behind pc le. k.same (then_last x y behind) pc le ∙ h.same (then_first x y behind) pc le;
  nothing = then_nothing x y h.nothing k.nothing;
}

-- ---- the rule still applies

pub applies_still : (p : Image) (m : ℕ) (b c : Shapes) (pc : ℕ) → at None c pc ≡ at None b pc → IsBelow c b → AppliesAt p m b pc → AppliesAt p m c pc
applies_still p m b c pc same below h sh e =
    let applies = h sh (rw same at e) in
    record { instr = applies.instr; stands = applies.stands; needs = applies.needs; flows = all_met_below c b _ below applies.flows }
