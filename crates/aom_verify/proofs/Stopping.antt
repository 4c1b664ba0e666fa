-- Where sweeps end early, for what was there before.
use Rattle.std.proofs.Common.{◌≡◌, ℕ, ◌<◌, ◌++◌, List, length, Some, None, refl, arith}
use Rattle.aom_image.specs.Image.{Image}
use Rattle.aom_abstract_state.specs.Needs.{Flow}
use Rattle.aom_abstract_state.specs.Order.{IsImpliedBy}
use Rattle.aom_abstract_state.specs.AbstractState.{AbstractState}
use Rattle.aom_roles.specs.Tables.{at}
use Rattle.aom_abstract_state.specs.Arguments.{entry_shape}
use Rattle.aom_abstract_state.specs.declared.why.Reason.{Reason}
use Rattle.aom_static_bounds.specs.Shapes.{Shapes}
use Rattle.aom_verify.specs.Arrivals.{FailsFor, IsRefused, StopsAt}
use Rattle.aom_verify.specs.Arrivals.FailsFor.{by_meet, by_rule}
use Rattle.aom_verify.specs.Arrivals.IsRefused.{by_need, without_meet}
use Rattle.aom_verify.specs.Faults.{JoinStops, Stops, refusal_of}
use Rattle.aom_verify.specs.Refusals.{RefusesMethod}
use Rattle.aom_verify.specs.Sweep.{Fails, Flows, HasPlaces, Joins, SweepInvariant}
use Rattle.aom_verify.specs.declared.change.StatesChange.{StatesChange}
use Rattle.aom_verify.specs.declared.states.SweepFault.{SweepFault}
use Rattle.aom_verify.specs.declared.states.SweepFault.TheVariants.{OutOfMemory, At}
use Rattle.aom_verify.proofs.Joining.{cannot_first, cannot_last, fails_first, fails_last}
use Rattle.aom_verify.proofs.Places.{spanned}
use Rattle.aom_verify.proofs.Sweeping.{fails_before, first_arrives, first_count, first_shapes, none_before, untyped}
use Rattle.aom_verify.proofs.Visiting.{failed_join, failed_visit, has_instr, reported_join, reported_rule}

pub stops_before : (p : Image) (m : ℕ) (a b c : Shapes) (fault : SweepFault) → SweepInvariant p m a b → Stops p m b c fault → Stops p m a c fault
stops_before p m a b c OutOfMemory keeps h = tt
stops_before p m a b c (At place why) keeps h = (none_before p m a b keeps h.0, omega (arith, h.1, keeps.size), fails_before p m a b c place why keeps h.2)

pub stops_first : (a c : Shapes) (xs ys : List Flow) (fault : SweepFault) → JoinStops a c xs fault → JoinStops a c (xs ++ ys) fault
stops_first a c xs ys OutOfMemory h = tt
stops_first a c xs ys (At place why) h = (cannot_first a xs ys h.0, h.1, fails_first a c xs ys place why h.2)

pub stops_last : (a b c : Shapes) (xs ys : List Flow) (x : StatesChange) (fault : SweepFault) → Joins a b xs x → JoinStops b c ys fault →
    JoinStops a c (xs ++ ys) fault
stops_last a b c xs ys x OutOfMemory joins h = tt
stops_last a b c xs ys x (At place why) joins h = (cannot_last a b xs ys x joins h.0, omega (arith, h.1, joins.size), fails_last a b c xs ys x place why joins h.2)

-- a rule that fails, and flows that cannot be joined
pub stops_rule : (p : Image) (m : ℕ) (s : Shapes) (pc : ℕ) (sh : AbstractState) (why : Reason) → pc < length s → at None s pc ≡ Some sh → Fails p m pc sh why →
    Stops p m s s (At pc why)
stops_rule p m s pc sh why within e h = (failed_visit p m s pc sh why e h, within, reported_rule p m s pc pc sh why e h refl)

pub stops_visit : (p : Image) (m : ℕ) (s new : Shapes) (pc : ℕ) (sh : AbstractState) (ways : List Flow) (fault : SweepFault) → at None s pc ≡ Some sh →
    Flows p m pc sh ways → JoinStops s new ways fault → Stops p m s new fault
stops_visit p m s new pc sh ways OutOfMemory e h k = tt
stops_visit p m s new pc sh ways (At place why) e h k = (failed_join p m s pc sh ways e h k.0, k.1, reported_join p m s new pc place sh ways why e h k.2)

-- a place at which states stop fails for that reason
pub fails_there : (p : Image) (m : ℕ) (s : Shapes) (place : ℕ) (why : Reason) → StopsAt p m s place why → FailsFor p m place why
fails_there p m s place why stops = go stops.refused
  where
    go : IsRefused p m place stops.shape why → FailsFor p m place why
    go (by_need is reported) = by_rule (stops.arrive place stops.shape stops.there) is reported
    go (without_meet other none reported) = by_meet (stops.arrive place stops.shape stops.there) other none reported

-- the states that are found from the first ones on
pub stops_there : (p : Image) (m places : ℕ) (entry : AbstractState) (new : Shapes) (place : ℕ) (why : Reason) → 0 < places → IsImpliedBy entry (entry_shape p m) →
    IsImpliedBy (entry_shape p m) entry → Stops p m (first_shapes places entry) new (At place why) → StopsAt p m new place why
stops_there p m places entry new place why some implied no_less h = h.2 (first_arrives p m places entry some implied no_less)

-- a method in which the sweeps end early is refused
pub stops_refused : (p : Image) (m places : ℕ) (entry : AbstractState) (new : Shapes) (fault : SweepFault) → HasPlaces p m places → 0 < places → IsImpliedBy entry
    (entry_shape p m) → IsImpliedBy (entry_shape p m) entry → Stops p m (first_shapes places entry) new fault → RefusesMethod p m (refusal_of m fault)
stops_refused p m places entry new OutOfMemory has some implied no_less h = tt
stops_refused p m places entry new (At place why) has some implied no_less h =
    let spans = spanned p m places (first_shapes places entry) has (first_count places entry) in (
      refl,
      untyped p m places entry some no_less h.0,
      has_instr p m (first_shapes places entry) place spans h.1,
      fails_there p m new place why (stops_there p m places entry new place why some implied no_less h),
    )
