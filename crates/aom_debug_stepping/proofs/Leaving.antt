-- What is left of a run falls from one dispatch's end to that of the next.
use Rattle.std.proofs.Common.{◌≡◌, ◌≤◌, ◌<◌, ◌+◌, ◌-◌, ◌^◌, ◌∙◌, ◌⊎◌, ℕ, suc, Bool, true, List, Option, Some, None, length, sym}
use Rattle.std.proofs.Common.{ap, subst, inl, inr, arith}
use Rattle.std.specs.Prelude.{◌*◌, is_some}
use Rattle.aom_image.specs.Image.{Image}
use Rattle.aom_semantics.specs.State.{Counters, State}
use Rattle.aom_semantics.specs.World.{IsBetween, Environment}
use Rattle.aom_termination.specs.BudgetOwners.{budget_owner}
use Rattle.aom_determinism.specs.Endings.{one_where}
use Rattle.aom_transcript.specs.declared.event.TimedEvent.{TimedEvent}
use Rattle.aom_transcript.specs.declared.line.Line.{Line}
use Rattle.aom_transcript.specs.declared.line.Ending.{Ending}
use Rattle.aom_machine_state.specs.declared.progress.Progress.TheVariants.{Ended, Running, Turned}
use Rattle.aom_machine_state.specs.Progress.{progress_by, progress_of}
use Rattle.aom_machine.specs.Steps.{HasTask, progress}
use Rattle.aom_debug_stepping.proofs.MachineLemmas.{between, is_as_far}
use Rattle.aom_run.specs.Calls.{Stands, RefinesWithNatives}
use Rattle.aom_debug_stepping.specs.Sends.{HostedMachine, Sends}
use Rattle.aom_run.specs.Runs.{Moving}
use Rattle.aom_run.specs.Turns.{LeadTo}
use Rattle.aom_debug_stepping.proofs.RunLemmas.{lower, moving_spares}
use Rattle.aom_debug_protocol.specs.declared.spot.CodeLocation.{CodeLocation}
use Rattle.aom_debug_stepping.specs.Moves.{Arrives, TurnsOnce, stays as no_turns, turns}
use Rattle.aom_debug_stepping.specs.RunGoals.{InDispatch, IsOver, Rests, WalksOn}
use Rattle.aom_debug_stepping.proofs.Sending.{running_of}
use Rattle.aom_debug_stepping.proofs.DebugSteps.{moving_walk}

-- how many dispatches there may be yet, and then how many events are to come
abbrev rounds_by : ℕ → Option Ending → ℕ
rounds_by n None = suc n
rounds_by n (Some ending) = 0

abbrev pub left_in : List TimedEvent → ℕ → Counters → ℕ
left_in events limit r = rounds_by (limit - r.dispatches) r.ended * suc (length events) + (length events - r.delivered)

not_ended : (e : Option Ending) (ending : Ending) → e ≡ Some ending → e ≡ None → ⊥
not_ended e ending some none = absurd cc

between_runs_not : (s : State) → IsBetween s → progress_of s ≡ Running → ⊥
between_runs_not s idle running =
    let turned : progress_of s ≡ Turned = ap (λ e. progress_by e s.tasks) idle.going ∙ ap (λ ts. progress_by None ts) idle.idle in
    absurd cc

unpaid : (s : State) → IsBetween s → is_some (budget_owner s.tasks) ≡ true → ⊥
unpaid s idle paid = let none = ap (λ ts. is_some (budget_owner ts)) idle.idle in absurd cc

module _ (p : Image) (outside : Environment) (few : outside.limit ≤ 2 ^ 64 - 1) where
  abbrev left_of : State → ℕ
  left_of s = left_in outside.events outside.limit s.rest

  rounds_open : (s : State) → IsBetween s → rounds_by (outside.limit - s.rest.dispatches) s.rest.ended ≡ suc (outside.limit - s.rest.dispatches)
  rounds_open s idle = ap (λ e. rounds_by (outside.limit - s.rest.dispatches) e) idle.going

  -- a native's end
  falls_reported : (s u : State) → IsBetween s → IsBetween u →
      u.rest.dispatches ≡ s.rest.dispatches → length outside.events - u.rest.delivered < length outside.events - s.rest.delivered → left_of u < left_of s
  falls_reported s u idle again same less =
      let rounds = rounds_open u again ∙ ap (λ n. suc (outside.limit - n)) same ∙ sym (rounds_open s idle) in
      let all = ap (λ n. n * suc (length outside.events)) rounds in
      omega (arith, all, less)

  -- turns from between dispatches to between dispatches
  falls_between : (s : State) (lines : List Line) (u : State) → IsBetween s → IsBetween u → TurnsOnce p outside s lines u → left_of u < left_of s
  falls_between s lines u idle again once = go once.0 once.2
    where
      go : (ending : Option Ending) → LeadTo outside ending s lines u → left_of u < left_of s
      go (Some ending) leads = absurd (not_ended u.rest.ended ending leads.1 again.going)
      go None leads = by leads.3
        where
          by : (is_some (budget_owner u.tasks) ≡ true)
              ⊎ (IsBetween u × (length outside.events - u.rest.delivered < length outside.events - s.rest.delivered)) → left_of u < left_of s
          by (inl paid) = absurd (unpaid u again paid)
          by (inr reported) = falls_reported s u idle again leads.2 reported.1

  arrived_left : (s : State) (lines : List Line) (u : State) → IsBetween s → IsBetween u → Arrives p outside s lines u → left_of u ≤ left_of s
  arrived_left s _ _ idle again no_turns = omega arith
  arrived_left s _ _ idle again (turns {lines} {more} {v} {u} before here once) =
      let first = arrived_left s lines v idle here before in
      let last = falls_between v more u here again once in
      omega (arith, first, last)

  -- a dispatch to its end
  falls_after : (s : State) (lines : List Line) (u : State) (ls : List Line) (v : State) →
      IsBetween s → progress_of u ≡ Running → IsBetween v → TurnsOnce p outside s lines u → Moving p outside.refused u ls v → left_of v < left_of s
  falls_after s lines u ls v idle running again once moving = go once.0 once.2
    where
      by : u.rest.dispatches ≡ s.rest.dispatches → s.rest.dispatches < outside.limit → is_some (budget_owner u.tasks) ≡ true → left_of v < left_of s
      by same below paid =
          let one = ap one_where paid in
          let bare = ap (λ ts. one_where (is_some (budget_owner ts))) again.idle in
          let kept = moving_spares p outside.limit few outside.refused u ls v moving in
          let less : rounds_by (outside.limit - v.rest.dispatches) v.rest.ended < rounds_by (outside.limit - s.rest.dispatches) s.rest.ended =
          omega (arith, rounds_open v again, rounds_open s idle, one, bare, kept, same, below) in
          lower (rounds_by (outside.limit - v.rest.dispatches) v.rest.ended) (rounds_by (outside.limit - s.rest.dispatches) s.rest.ended)
          (length outside.events - v.rest.delivered) (length outside.events - s.rest.delivered) (length outside.events) less (omega arith)

      go : (ending : Option Ending) → LeadTo outside ending s lines u → left_of v < left_of s
      go (Some ending) leads =
          let over : progress_of u ≡ Ended ending = ap (λ e. progress_by e u.tasks) leads.1 in
          absurd cc
      go None leads = open_by leads.3
        where
          open_by : (is_some (budget_owner u.tasks) ≡ true)
              ⊎ (IsBetween u × (length outside.events - u.rest.delivered < length outside.events - s.rest.delivered)) → left_of v < left_of s
          open_by (inl paid) = by leads.2 leads.1 paid
          open_by (inr reported) = absurd (between_runs_not u reported.0 running)

  -- turns up to a dispatch, and that to its end
  falls_arrived : (s : State) (lines : List Line) (u : State) (ls : List Line) (v : State) →
      IsBetween s → progress_of u ≡ Running → IsBetween v → Arrives p outside s lines u → Moving p outside.refused u ls v → left_of v < left_of s
  falls_arrived s _ _ ls v idle running again no_turns moving = absurd (between_runs_not s idle running)
  falls_arrived s _ _ ls v idle running again (turns {lines} {more} {v = w} {u} before here once) moving =
      let first = arrived_left s lines w idle here before in
      let last = falls_after w more u ls v here running again once moving in
      omega (arith, first, last)

  over_not : (s : State) → IsOver s → IsBetween s → ⊥
  over_not s over idle = let none = ap is_some idle.going in absurd cc

  -- steps in the next dispatch
  pub falls_on : (stays : State → Bool) (old new : List CodeLocation) (s : State) (lines : List Line) (u : State) →
      IsBetween s → IsBetween u → InDispatch p outside (WalksOn p outside.refused stays) old new s lines u → left_of u < left_of s
  falls_on stays old new s lines u idle again z = go z.4
    where
      by : progress_of z.0 ≡ Running → WalksOn p outside.refused stays old new z.0 z.2 u → left_of u < left_of s
      by running (inl y) = absurd (between_runs_not z.0 (subst (λ v. IsBetween v) y.1.1 again) running)
      by running (inr y) = falls_arrived s z.1 z.0 z.2 u idle running again z.3 (moving_walk p outside.refused stays old z.0 (suc y.1.0) new z.2 u y.1.1)

      go : (IsOver z.0 × Rests old new z.0 z.2 u) ⊎ (HasTask z.0 × WalksOn p outside.refused stays old new z.0 z.2 u) → left_of u < left_of s
      go (inl y) = absurd (over_not z.0 y.0 (subst (λ v. IsBetween v) y.1.1 again))
      go (inr y) = by (running_of z.0 y.0) y.1

  -- so with a machine
  module _ {X : Type 0} {B : X → Type 0} where
    left_at : (m : HostedMachine X B) (s : State) → RefinesWithNatives m s → left_in outside.events outside.limit m.core.parts.rest ≡ left_of s
    left_at m s stands = ap (λ r. left_in outside.events outside.limit r) stands.stands.agrees.rest

    pub left_falls : (stays : State → Bool) (old new : List CodeLocation) (m c : HostedMachine X B) (mid out : Option (List ℕ)) →
        Stands m → progress m.core ≡ Turned → Sends (InDispatch p outside (WalksOn p outside.refused stays) old new) m mid out c → progress c.core ≡ Turned
        → left_in outside.events outside.limit c.core.parts.rest < left_in outside.events outside.limit m.core.parts.rest
    left_falls stays old new m c mid out st resting y again =
        let g = y st.0 st.1 in
        let idle = between st.0 (sym (is_as_far m.core st.0 st.1.stands) ∙ resting) in
        let there = between g.1 (sym (is_as_far c.core g.1 g.4.stands) ∙ again) in
        let less = falls_on stays old new st.0 g.0 g.1 idle there g.2 in
        omega (arith, less, left_at m st.0 st.1, left_at c g.1 g.4)
