-- What is watched is there in each state, and goes on from what it has there.
use Rattle.std.proofs.Common.{◌≡◌, ◌⊎◌, ℕ, Bool, true, List, Option, Some, Ok, Err, ap, inl, inr, length, refl, subst}
use Rattle.std.specs.Prelude.{is_some}
use Rattle.aom_semantics.specs.State.{State}
use Rattle.aom_debug_stepping.specs.Calls.{RefinesWithNatives}
use Rattle.aom_debug_stepping.specs.RunGoals.{run_goal_of}
use Rattle.aom_debug_stepping.specs.Runners.{outside_of}
use Rattle.aom_debug_stepping.specs.declared.run_goals.RunGoal.TheVariants.{Change}
use Rattle.aom_debug_protocol.specs.declared.answer.Answer.{Answer as Told}
use Rattle.aom_debug_protocol.specs.declared.variable.Variable.{Variable}
use Rattle.aom_debug_protocol.specs.declared.fault.DebugFault.{DebugFault}
use Rattle.aom_debug_protocol.specs.declared.fault.DebugFault.TheVariants.{BadCommand, Ended, NoSuch, NotThere, OutOfMemory, WriteFault}
use Rattle.aom_debug.specs.Debugging.{Answer, Goes, Outgoing, goes_of, has_ended}
use Rattle.aom_debug.specs.Printing.{HasNone, HasValue}
use Rattle.aom_debug.specs.Watching.{Has, Watches}
use Rattle.aom_debug.specs.declared.debugger.Debugger.{Debugger}

-- what was not there is lacked
pub watches_nothing : {X : Type 0} {B : X → Type 0} (v : Variable) (d : Debugger X B) (out : Option (List ℕ)) (failed : Bool) (fault : DebugFault) →
    HasNone v d fault → Watches v d d (record { before = out; now = out; failed = failed }) (Err fault)
watches_nothing v d out failed NotThere none = (
  none.0,
  record { same = refl; silent = refl },
  (λ s st. (st.stands.typing, st.stands.sound.strongest, none.1 st.stands.typing st.stands.sound.strongest s st.stands)),
)
watches_nothing v d out failed Ended has_write_failed = (inl has_write_failed, record { same = refl; silent = refl })
watches_nothing v d out failed _ none = absurd none

module _ {X : Type 0} {B : X → Type 0} (v : Variable) (d new : Debugger X B) (x : Told) (depth : ℕ) (has : HasValue v d (Some x))
    (deep : (s : State) → RefinesWithNatives d.runner.machine s → depth ≡ length s.tasks) (out : Outgoing) where
  there : Has v d
  there s st =
      let t = st.stands.typing in
      let strongest = st.stands.sound.strongest in
      (t, strongest, ap is_some (has t strongest s st.stands))

  pub watches_so : (answer : Answer) → Goes (goes_of (Change (record { variable = v; answer = x; depth = depth }))) d new out answer → Watches v d new out answer
  watches_so (Ok done) y =
      let moved = y.1 in (
        there,
        (
          y.0,
          record {
            goes = λ s st.
                let t = st.stands.typing in
                let strongest = st.stands.sound.strongest in
                let f = moved.goes s st in
                let way = subst (λ n. run_goal_of d.runner.machine.core.image (outside_of d.runner) d.breakpoints
                (Change (record { variable = v; answer = x; depth = n })) d.runner.recent new.runner.recent s f.0 f.1) (deep s st) f.2 in
                (f.0, f.1, (t, strongest, x, has t strongest s st.stands, way), f.3, f.4);
            spots = moved.spots;
            names = moved.names;
            well = moved.well;
          },
        ),
      )
  watches_so (Err Ended) y = (go y.0, y.1)
    where
      go : (d.has_failed ≡ true) ⊎ (has_ended d ≡ true) → (d.has_failed ≡ true) ⊎ ((has_ended d ≡ true) × Has v d)
      go (inl failed) = inl failed
      go (inr over) = inr (over, there)
  watches_so (Err WriteFault) y = (there, y)
  watches_so (Err BadCommand) y = absurd y
  watches_so (Err NoSuch) y = absurd y
  watches_so (Err NotThere) y = absurd y
  watches_so (Err OutOfMemory) y = absurd y
