-- So many steps, each after its turns: what goes out, by what comes before.
use Rattle.std.proofs.Common.{◌≡◌, ◌≢◌, ◌∙◌, ◌<◌, ℕ, suc, true, List, [], ◌∷◌, ◌++◌, Option, Some, None, refl, sym}
use Rattle.std.proofs.Common.{subst, inl, inr}
use Rattle.std.specs.Prelude.{is_some}
use Rattle.aom_image.specs.Image.{Image}
use Rattle.aom_semantics.specs.State.{State}
use Rattle.aom_semantics.specs.World.{Environment, Reaches, begins as from_here}
use Rattle.aom_transcript.specs.declared.line.Line.{Line}
use Rattle.aom_machine_state.specs.declared.progress.Progress.TheVariants.{Running, Turned}
use Rattle.aom_machine_state.specs.Progress.{progress_by, progress_of}
use Rattle.aom_transcript.specs.declared.line.Ending.{Ending}
use Rattle.aom_machine.specs.Steps.{progress}
use Rattle.aom_debug_stepping.proofs.MachineLemmas.{has_task, is_as_far}
use Rattle.aom_debug_stepping.specs.Sends.{Breaks, HostedMachine, Sends}
use Rattle.aom_debug_stepping.specs.Runners.{KeepsRunner, outside_of}
use Rattle.aom_debug_stepping.specs.declared.runner.Runner.{Runner}
use Rattle.aom_run.specs.Runs.{Moving}
use Rattle.aom_debug_stepping.proofs.RunLemmas.{reaches_both, reaches_then}
use Rattle.aom_debug_stepping.proofs.Keeping.{observed_as}
use Rattle.aom_debug_stepping.proofs.Sending.{after_none, breaks_then, moving_debug_step, reaches_arrived, sent_both}
use Rattle.aom_debug_protocol.specs.declared.spot.CodeLocation.{CodeLocation}
use Rattle.aom_debug_stepping.specs.Moves.{Arrives, DebugSteps}
use Rattle.aom_debug_stepping.specs.RunGoals.{RunGoals, Goes, GoesBy, IsOver}
use Rattle.aom_debug_stepping.specs.RunGoals.Goes.{begins, debug_steps}

-- nothing is at hand, and something may not come: the run is over
over_by : {T : Type 0} (e : Option Ending) (ts : List T) → progress_by e ts ≢ Running → progress_by e ts ≢ Turned → is_some e ≡ true
over_by (Some ending) ts rests goes = refl
over_by None [] rests goes = absurd (goes refl)
over_by None (t ∷ ts) rests goes = absurd (rests refl)

pub is_over : (s : State) → progress_of s ≢ Running → progress_of s ≢ Turned → IsOver s
is_over s rests goes = over_by s.rest.ended s.tasks rests goes

-- moves are a run
pub run_of : (p : Image) (outside : Environment) (s : State) (lines : List Line) (u : State) → Moving p outside.refused s lines u → Reaches p outside s lines u
run_of p outside s lines u moving = reaches_then p outside s [] s lines u from_here moving

-- so are steps with the turns before them
pub reaches_goes : (p : Image) (outside : Environment) (old : List CodeLocation) (s : State) (n : ℕ) (new : List CodeLocation) (lines : List Line) (u : State) →
    Goes p outside old s n new lines u → Reaches p outside s lines u
reaches_goes p outside old s _ _ _ _ begins = from_here
reaches_goes p outside old s _ _ _ _ (debug_steps {n} {mid} {new} {lines} {first} {later} {v} {w} {u} before comes hand once) =
    reaches_both p outside s lines v (first ++ later) u (reaches_goes p outside old s n mid lines v before) (reaches_both p outside v first w later u
    (reaches_arrived p outside v first w comes) (run_of p outside w later u (moving_debug_step p outside.refused mid new w later u once)))

-- so many steps so far
abbrev pub GoesSo : Image → Environment → ℕ → RunGoals
GoesSo p outside n old new s lines u = Goes p outside old s n new lines u

module _ {X : Type 0} {B : X → Type 0} (p : Image) (outside : Environment) where
  -- moves that were cut are a run that was
  pub cut_run : (m c : HostedMachine X B) (mid out : Option (List ℕ)) → Breaks (Moving p outside.refused) m mid out c → Breaks (Reaches p outside) m mid out c
  cut_run m c mid out y s stands = let g = y s stands in (g.0, g.1, run_of p outside s g.0 g.1 g.2, g.3, g.4)

  pub no_steps : (spots : List CodeLocation) (m : HostedMachine X B) (out : Option (List ℕ)) → Sends (GoesSo p outside 0 spots spots) m out out m
  no_steps spots m out s stands = ([], s, begins, after_none out, stands)

  module _ (n : ℕ) (old mid : List CodeLocation) (a m c : HostedMachine X B) (before here out : Option (List ℕ)) (x : Sends (GoesSo p outside n old mid) a before here m) where
    pub goes_cut : Breaks (Reaches p outside) m here out c → Breaks (Reaches p outside) a before out c
    goes_cut y = breaks_then a m c before here out (GoesSo p outside n old mid) (Reaches p outside) x (Reaches p outside)
        (λ s ls v ks u f g. reaches_both p outside s ls v ks u (reaches_goes p outside old s n mid ls v f) g) y

    -- the run ends before the next step
    pub ends_early : (steps : ℕ) → n < steps → progress c.core ≢ Running → progress c.core ≢ Turned → Sends (Arrives p outside) m here out c →
        Sends (GoesBy p outside steps old mid) a before out c
    ends_early steps below rests goes y s stands =
        let f = x s stands in
        let g = y f.1 f.4 in
        let far = is_as_far c.core g.1 g.4.stands in
        (f.0 ++ g.0, g.1, inr (n, below, (f.1, f.0, g.0, f.2, g.2, refl), is_over g.1 (λ is. rests (far ∙ is)) (λ is. goes (far ∙ is))), sent_both before here out f.0 g.0 f.3 g.3, g.4)

    -- or there is one step more
    module _ (d : HostedMachine X B) (last : Option (List ℕ)) (y : Sends (Arrives p outside) m here out c) where
      pub one_more : (new : List CodeLocation) → progress c.core ≡ Running → Sends (DebugSteps p outside.refused mid new) c out last d →
          Sends (GoesSo p outside (suc n) old new) a before last d
      one_more new running z s stands =
          let f = x s stands in
          let g = y f.1 f.4 in
          let h = z g.1 g.4 in (
            f.0 ++ (g.0 ++ h.0),
            h.1,
            debug_steps f.2 g.2 (has_task g.1 (sym (is_as_far c.core g.1 g.4.stands) ∙ running)) h.2,
            sent_both before here last f.0 (g.0 ++ h.0) f.3 (sent_both here out last g.0 h.0 g.3 h.3),
            h.4,
          )

      pub step_cut : Breaks (Moving p outside.refused) c out last d → Breaks (Reaches p outside) a before last d
      step_cut z = breaks_then a m d before here last (GoesSo p outside n old mid) (Reaches p outside) x (Reaches p outside) (λ s ls v ks u f g. reaches_both
          p outside s ls v ks u (reaches_goes p outside old s n mid ls v f) g) (breaks_then m c d here out last (Arrives p outside) (Reaches p outside) y
          (Reaches p outside) (λ s ls v ks u f g. reaches_both p outside s ls v ks u (reaches_arrived p outside s ls v f) g) (cut_run c d out last z))

  pub all_made : (steps n : ℕ) → n ≡ steps → (old new : List CodeLocation) (a c : HostedMachine X B) (before out : Option (List ℕ)) →
      Sends (GoesSo p outside n old new) a before out c → Sends (GoesBy p outside steps old new) a before out c
  all_made steps n is old new a c before out x s stands = let f = x s stands in (f.0, f.1, inl (subst (λ k. Goes p outside old s k new f.0 f.1) is f.2), f.3, f.4)

-- what goes out in a loop of steps, by what it keeps
module _ {X : Type 0} {B : X → Type 0} (a m c : Runner X B) (keeps : KeepsRunner a m) (here out : Option (List ℕ)) where
  pub comes_so : Sends (Arrives m.machine.core.image (outside_of m)) m.machine here out c.machine →
      Sends (Arrives a.machine.core.image (outside_of a)) m.machine here out c.machine
  comes_so = observed_as keeps (λ q o. Sends (Arrives q o) m.machine here out c.machine)

  pub cut_so : Breaks (Reaches m.machine.core.image (outside_of m)) m.machine here out c.machine →
      Breaks (Reaches a.machine.core.image (outside_of a)) m.machine here out c.machine
  cut_so = observed_as keeps (λ q o. Breaks (Reaches q o) m.machine here out c.machine)
