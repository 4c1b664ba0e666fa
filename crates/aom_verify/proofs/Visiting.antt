-- A visit of one place: what it changes, and that no typing is lost.
use Rattle.std.proofs.Common.{◌≡◌, ℕ, ◌<◌, false, List, [], ◌∷◌, length, Some, None, IsSome, inl, inr, refl, arith}
use Rattle.aom_image.specs.Image.{Image}
use Rattle.aom_image.specs.Views.{instr_at, instr_in}
use Rattle.aom_abstract_state.specs.Needs.{Flow}
use Rattle.aom_abstract_state.specs.Order.{IsImpliedBy}
use Rattle.aom_typing_rules.specs.Rules.{flows}
use Rattle.aom_abstract_state.specs.AbstractState.{AbstractState}
use Rattle.aom_roles.specs.Tables.{at}
use Rattle.aom_abstract_state.specs.declared.why.Reason.{Reason}
use Rattle.aom_verify.proofs.TypingRulesLemmas.{flows_more, needs_more}
use Rattle.aom_static_bounds.specs.Shapes.{Shapes, AllMet, IsBelow, Applies, IsMethodTyped}
use Rattle.aom_verify.specs.Arrivals.{Arrives, IsOneOf, AllArrive, EachArrives, JoinFails, StatesFail}
use Rattle.aom_verify.specs.Arrivals.Arrives.{led}
use Rattle.aom_verify.specs.Arrivals.IsRefused.{by_need}
use Rattle.aom_verify.specs.Sweep.{Spans, Joins, CannotJoin, Flows, Fails, AppliesAt, IsAhead, Visits, NoTypingBelow, AllWithin, WithinMethod}
use Rattle.aom_verify.specs.declared.change.StatesChange.TheVariants.{Nothing}
use Rattle.aom_verify.specs.declared.change.Step.{Step}
use Rattle.aom_verify.proofs.Ahead.{nothing_ahead}
use Rattle.aom_verify.proofs.Ordering.{below_self}
use Rattle.aom_verify.proofs.Following.{follow_met}
use Rattle.std.proofs.lemmas.Option.{slice_get_cases}
use Rattle.std.proofs.Common.{⊎_elim, subst, sym}

-- each place below the count has an instruction
pub has_instr : (p : Image) (m : ℕ) (s : Shapes) (pc : ℕ) → Spans p m s → pc < length s → IsSome (instr_at p m pc)
unfolding instr_in
has_instr p m s pc h below =
    let within : pc < length h.method.code = rw h.size at below in
    rw (h.is) (⊎_elim (λ there. subst (λ o. IsSome o) (sym there.2) refl) (λ past. absurd (omega (arith, past.0, within))) (slice_get_cases h.method.code pc).1)

pub within_shapes : (p : Image) (m : ℕ) (s : Shapes) (ways : List Flow) → Spans p m s → WithinMethod p m ways → AllWithin (length s) ways
within_shapes p m s ways h w = rw h.size (w.each h.method h.is)

-- a typing below the states says no more than the one state
record IsTypedBelow (p : Image) (m : ℕ) (t : Shapes) (pc : ℕ) (sh : AbstractState) : Type 0 where
  next : AbstractState
  implied : IsImpliedBy next sh
  applies : Applies p m t pc next

typed_below : (p : Image) (m : ℕ) (t s : Shapes) (pc : ℕ) (sh : AbstractState) → IsMethodTyped p m t → IsBelow t s → at None s pc ≡ Some sh → IsTypedBelow p m t pc sh
typed_below p m t s pc sh typed below e =
    let meets = below.each pc sh e in
    record { next = meets.next; implied = meets.implied; applies = typed.each pc meets.next meets.there }

-- it meets the flows
typing_meets : (p : Image) (m : ℕ) (t s : Shapes) (pc : ℕ) (sh : AbstractState) (ways : List Flow) → at None s pc ≡ Some sh → Flows p m pc sh ways →
    IsMethodTyped p m t → IsBelow t s → AllMet t ways
typing_meets p m t s pc sh ways e h typed below =
    let found = typed_below p m t s pc sh typed below e in
    let same : found.applies.instr ≡ h.instr = let f = found.applies.stands in let g = h.stands in cc in
    let follow = flows_more p m pc found.next sh h.instr found.implied (rw same at found.applies.needs) in
    rw h.is (follow_met t (flows p m pc found.next h.instr) (flows p m pc sh h.instr) follow (rw same at found.applies.flows))

-- where the rule fails there is none
pub failed_visit : (p : Image) (m : ℕ) (s : Shapes) (pc : ℕ) (sh : AbstractState) (why : Reason) → at None s pc ≡ Some sh → Fails p m pc sh why → NoTypingBelow p m s
failed_visit p m s pc sh why e h = record {
  none = λ t typed below.
      let found = typed_below p m t s pc sh typed below e in
      let same : found.applies.instr ≡ h.instr = let f = found.applies.stands in let g = h.stands in cc in
      h.unmet (needs_more p m pc found.next sh h.instr found.implied (rw same at found.applies.needs));
}

-- where the flows cannot be joined there is none
pub failed_join : (p : Image) (m : ℕ) (s : Shapes) (pc : ℕ) (sh : AbstractState) (ways : List Flow) → at None s pc ≡ Some sh → Flows p m pc sh ways →
    CannotJoin s ways → NoTypingBelow p m s
failed_join p m s pc sh ways e h k = record { none = λ t typed below. k.none t below (typing_meets p m t s pc sh ways e h typed below) }

-- the flows of a state that arrives do
each_arrives : (p : Image) (m : ℕ) (ways : List Flow) → ((to : ℕ) (next : AbstractState) → IsOneOf ways (to, next) → Arrives p m to next) → EachArrives p m ways
each_arrives p m [] h = tt
each_arrives p m (way ∷ ways) h = (h way.0 way.1 (inl refl), each_arrives p m ways (λ to next one. h to next (inr one)))

ways_arrive : (p : Image) (m : ℕ) (s : Shapes) (pc : ℕ) (sh : AbstractState) (ways : List Flow) → at None s pc ≡ Some sh → Flows p m pc sh ways →
    AllArrive p m s → EachArrives p m ways
ways_arrive p m s pc sh ways e h all = rw h.is (each_arrives p m (flows p m pc sh h.instr) (λ to next one. led (all pc sh e) h.stands h.needs one))

-- a need that fails there, and flows that cannot be joined, are told of states that arrive
pub reported_rule : (p : Image) (m : ℕ) (s : Shapes) (pc place : ℕ) (sh : AbstractState) (why : Reason) → at None s pc ≡ Some sh → Fails p m pc sh why → place ≡ pc →
    StatesFail p m s s place why
reported_rule p m s pc place sh why e h same = λ all. rw same (record { arrive = all; shape = sh; there = e; refused = by_need h.stands h.is })

pub reported_join : (p : Image) (m : ℕ) (s new : Shapes) (pc place : ℕ) (sh : AbstractState) (ways : List Flow) (why : Reason) → at None s pc ≡ Some sh →
    Flows p m pc sh ways → JoinFails s new ways place why → StatesFail p m s new place why
reported_join p m s new pc place sh ways why e h fails = λ all. fails p m all (ways_arrive p m s pc sh ways e h all)

pub applies_after : (p : Image) (m : ℕ) (s new : Shapes) (pc : ℕ) (sh : AbstractState) (ways : List Flow) → at None s pc ≡ Some sh →
    Flows p m pc sh ways → AllMet new ways → at None new pc ≡ at None s pc → AppliesAt p m new pc
applies_after p m s new pc sh ways e h met same = λ x f.
    let alike : sh ≡ x = let g = rw same at f in cc in
    let found : Applies p m new pc sh = record { instr = h.instr; stands = h.stands; needs = h.needs; flows = rw h.is at met } in
    rw alike at found

pub visited : (p : Image) (m : ℕ) (s new : Shapes) (pc : ℕ) (sh : AbstractState) (ways : List Flow) (step : Step) → at None s pc ≡ Some sh →
    Flows p m pc sh ways → Joins s new ways step.change → IsAhead pc s new step → Visits p m s new pc step
visited p m s new pc sh ways step e h k ahead = record {
  keeps = record {
    size = k.size;
    below_old = k.below_old;
    arrives = λ all. k.arrives p m all (ways_arrive p m s pc sh ways e h all);
    typings = λ t typed below. k.strongest t below (typing_meets p m t s pc sh ways e h typed below);
  };
  changed = k.changed;
  ahead = ahead;
  applies = λ behind. applies_after p m s new pc sh ways e h k.met (ahead.same behind pc (omega arith));
}

-- a place that is not reached
pub visited_none : (p : Image) (m : ℕ) (s : Shapes) (pc : ℕ) → at None s pc ≡ None → Visits p m s s pc (record { change = Nothing; is_behind = false })
visited_none p m s pc e = record {
  keeps = record { size = refl; below_old = below_self s; arrives = λ all. all; typings = λ t typed below. below };
  changed = refl;
  ahead = nothing_ahead pc s;
  applies = λ behind sh f. absurd cc;
}
