-- Lines of a source one after another: what goes out, by what comes before.
use Rattle.std.proofs.Common.{◌≡◌, ◌∙◌, ℕ, suc, Bool, List, [], ◌++◌, Option, ap, subst}
use Rattle.aom_image.specs.Image.{Image}
use Rattle.aom_semantics.specs.State.{State}
use Rattle.aom_semantics.specs.World.{Environment, Reaches}
use Rattle.aom_typing_rules.specs.Typing.{Typing}
use Rattle.aom_machine_state.specs.declared.progress.Progress.{Progress}
use Rattle.aom_machine_state.specs.Progress.{progress_of}
use Rattle.aom_machine.specs.Steps.{progress}
use Rattle.aom_run.specs.Calls.{RefinesWithNatives}
use Rattle.aom_debug_protocol.specs.declared.breakpoints.Breakpoint.{Breakpoint}
use Rattle.aom_debug_protocol.specs.declared.spot.CodeLocation.{CodeLocation}
use Rattle.aom_debug_symbols.specs.NameLists.{NameLists}
use Rattle.aom_debug_stepping.specs.RunGoals.{RunGoals, InDispatch, LinesGo, dispatch_goal_of, line_goal}
use Rattle.aom_debug_stepping.specs.RunGoals.LinesGo.{begins, goes_line}
use Rattle.aom_debug_stepping.specs.Sends.{Breaks, HostedMachine, Sends}
use Rattle.aom_debug_stepping.specs.SourceLines.{scope_at}
use Rattle.aom_debug_stepping.specs.declared.dispatch.DispatchGoal.{DispatchGoal}
use Rattle.aom_debug_stepping.specs.declared.source_lines.LineScope.{LineScope}
use Rattle.aom_debug_stepping.specs.declared.walking.Until.TheVariants.{Line as AtLine}
use Rattle.aom_debug_stepping.proofs.MachineLemmas.{is_as_far}
use Rattle.aom_debug_stepping.proofs.RunLemmas.{reaches_both}
use Rattle.aom_debug_stepping.proofs.Runs.{reaches_lines}
use Rattle.aom_debug_stepping.proofs.Sending.{after_none, breaks_then, sent_both}

-- so many lines so far
abbrev pub LinesSo : Typing → Image → Environment → NameLists → (enters : Bool) → List Breakpoint → ℕ → RunGoals
LinesSo t p outside ns enters bs n old new s lines u = LinesGo t p outside ns enters bs old s n new lines u

module _ {X : Type 0} {B : X → Type 0} (t : Typing) (p : Image) (outside : Environment) (ns : NameLists) (enters : Bool) (bs : List Breakpoint) where
  pub no_line : (spots : List CodeLocation) (m : HostedMachine X B) (out : Option (List ℕ)) → Sends (LinesSo t p outside ns enters bs 0 spots spots) m out out m
  no_line spots m out s stands = ([], s, begins, after_none out, stands)

  module _ (n : ℕ) (old mid : List CodeLocation) (a m c : HostedMachine X B) (before here out : Option (List ℕ)) (x : Sends (LinesSo t p outside ns enters bs n old mid) a before here m) where
    pub lines_cut : Breaks (Reaches p outside) m here out c → Breaks (Reaches p outside) a before out c
    lines_cut y = breaks_then a m c before here out (LinesSo t p outside ns enters bs n old mid) (Reaches p outside) x (Reaches p outside)
        (λ s ls v ks u f k. reaches_both p outside s ls v ks u (reaches_lines t p outside ns enters bs old s n mid ls v f) k) y

    pub one_line_more : (new : List CodeLocation) (far : Progress) → far ≡ progress m.core → (l : LineScope) → ((s : State) → RefinesWithNatives m s → l ≡ scope_at p ns enters s) →
        (g : DispatchGoal) → g ≡ line_goal far (AtLine l) → Sends (InDispatch p outside (dispatch_goal_of t p outside.refused bs g) mid new) m here out c →
        Sends (LinesSo t p outside ns enters bs (suc n) old new) a before out c
    one_line_more new far at l scopes g goal y s stands =
        let f = x s stands in
        let h = y f.1 f.4 in
        let same : g ≡ line_goal (progress_of f.1) (AtLine (scope_at p ns enters f.1)) =
        goal ∙ ap (λ q. line_goal q (AtLine l)) (at ∙ is_as_far m.core f.1 f.4.stands) ∙ ap (λ k. line_goal (progress_of f.1) (AtLine k)) (scopes f.1 f.4) in (
          f.0 ++ h.0,
          h.1,
          goes_line f.2 (subst (λ k. InDispatch p outside (dispatch_goal_of t p outside.refused bs k) mid new f.1 h.0 h.1) same h.2),
          sent_both before here out f.0 h.0 f.3 h.3,
          h.4,
        )

  pub all_lines : (count n : ℕ) → n ≡ count → (old new : List CodeLocation) (a c : HostedMachine X B) (before out : Option (List ℕ)) →
      Sends (LinesSo t p outside ns enters bs n old new) a before out c → Sends (LinesSo t p outside ns enters bs count old new) a before out c
  all_lines count n is old new a c before out x = subst (λ k. Sends (LinesSo t p outside ns enters bs k old new) a before out c) is x
