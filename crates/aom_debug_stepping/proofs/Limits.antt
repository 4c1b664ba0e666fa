-- The end of a run by its limit: it is a run, and a machine is cut just where its states say.
use Rattle.std.proofs.Common.{◌≡◌, ◌∙◌, ℕ, Bool, true, false, List, [], Option, Some, nat_le, refl, sym, ap, subst}
use Rattle.std.proofs.lemmas.Bool.{leb-true}
use Rattle.aom_image.specs.Image.{Image}
use Rattle.aom_semantics.specs.State.{Counters, State}
use Rattle.aom_semantics.specs.World.{Cuts, Environment, Reaches, begins as from_here}
use Rattle.aom_transcript.specs.Text.{text_of}
use Rattle.aom_transcript.specs.declared.line.Line.{Line}
use Rattle.aom_transcript.specs.declared.line.Ending.TheVariants.{Limit}
use Rattle.aom_machine_state.specs.Progress.{progress_of}
use Rattle.aom_machine_state.specs.Stands.{MachineModel as Core}
use Rattle.aom_machine_state.specs.declared.progress.Progress.{Progress}
use Rattle.aom_machine_state.specs.declared.progress.Progress.TheVariants.{Ended, Running, Turned}
use Rattle.aom_machine.specs.Steps.{progress}
use Rattle.aom_machine.specs.Turns.{TakesAll}
use Rattle.aom_debug_stepping.proofs.MachineLemmas.{is_as_far}
use Rattle.aom_run.specs.Calls.{RefinesWithNatives}
use Rattle.aom_transcript.specs.Sinks.{after}
use Rattle.aom_run.specs.Turns.{TakesTurns}
use Rattle.aom_debug_stepping.proofs.RunLemmas.{cut_so, limit_cuts, reaches_both}
use Rattle.aom_debug_stepping.specs.RunGoalLaws.{AreRuns}
use Rattle.aom_debug_stepping.specs.RunGoals.{RunGoals, ToLimit}
use Rattle.aom_debug_stepping.specs.Moves.{EndsByLimit, is_at_limit, is_cut}
use Rattle.aom_debug_stepping.specs.Runners.{IsReady, KeepsRunner, Runner, outside_of}
use Rattle.aom_debug_stepping.specs.Sends.{IfSo, Sends, Where}
use Rattle.aom_debug_stepping.proofs.Keeping.{keeps_with}
use Rattle.aom_debug_stepping.proofs.Sending.{after_none, sends_if_not, sends_if_so, sends_where}

-- ---- it is a run

reaches_cut : (b : Bool) (p : Image) (outside : Environment) (s : State) (lines : List Line) (u : State) → IfSo b (EndsByLimit p outside) s lines u →
    Reaches p outside s lines u
reaches_cut true p outside s lines u x = x.0
reaches_cut false p outside s lines u x = subst (λ ls. Reaches p outside s ls u) (sym x.0) (subst (λ v. Reaches p outside s [] v) (sym x.1) from_here)

-- so is a way to whose end it comes
pub reaches_to_limit : (p : Image) (outside : Environment) (leads : RunGoals) → AreRuns p outside leads → AreRuns p outside (ToLimit p outside leads)
reaches_to_limit p outside leads runs old new s lines u x = subst (λ ls. Reaches p outside s ls u) (sym x.5)
    (reaches_both p outside s x.1 x.0 x.2 u (runs old new s x.1 x.0 x.3) (reaches_cut (is_at_limit outside x.0) p outside x.0 x.2 u x.4))

-- ---- where it comes

pub cut_parts : (far : Progress) (reached : Bool) → is_cut far reached ≡ true → (far ≡ Turned) × (reached ≡ true)
cut_parts Turned reached is = (refl, is)
cut_parts Running reached is = absurd cc
cut_parts (Ended ending) reached is = absurd cc

module _ {X : Type 0} {B : X → Type 0} (a : Runner X B) where
  -- the machine tells it
  abbrev pub Reported : Bool → Type 0
  Reported b = b ≡ is_cut (progress a.machine.core) (nat_le a.limit a.machine.core.parts.rest.dispatches)

  -- so each state that it stands for says it
  pub reported_at : (b : Bool) → Reported b → (s : State) → RefinesWithNatives a.machine s → b ≡ is_at_limit (outside_of a) s
  reported_at b reported s stands = reported ∙ ap (λ far. is_cut far (nat_le a.limit a.machine.core.parts.rest.dispatches)) (is_as_far a.machine.core s stands.stands)
      ∙ ap (λ (r : Counters). is_cut (progress_of s) (nat_le a.limit r.dispatches)) stands.stands.agrees.rest

  abbrev pub Ends : Runner X B → Type 0
  Ends n = (out : Option (List ℕ)) → Sends (Where (is_at_limit (outside_of a)) (EndsByLimit a.machine.core.image (outside_of a))) a.machine out out n.machine

  -- it is not reached, and nothing is done
  pub not_cut : (b : Bool) → b ≡ false → Reported b → Ends a
  not_cut b is reported out =
      let ends = EndsByLimit a.machine.core.image (outside_of a) in
      sends_where b (is_at_limit (outside_of a)) ends a.machine a.machine out out (reported_at b reported) (sends_if_not b is ends a.machine out)

  -- it is, and the core is cut
  module _ (b : Bool) (is : b ≡ true) (reported : Reported b) (core : Core) (image : core.image ≡ a.machine.core.image) (all : TakesAll a.machine.core Cuts core) where
    abbrev pub cut : Runner X B
    cut = record a { machine = record a.machine { core = core } }

    takes : TakesTurns a.machine (outside_of a) (Some Limit) a.lines a.lines cut.machine
    takes = let at = leb-true a.limit a.machine.core.parts.rest.dispatches
        (cut_parts (progress a.machine.core) (nat_le a.limit a.machine.core.parts.rest.dispatches) (sym reported ∙ is)).1 in
        limit_cuts a.machine (outside_of a) at a.lines cut.machine (cut_so a.machine core image all)

    pub cut_ends : Ends cut
    cut_ends out =
        let ends = EndsByLimit a.machine.core.image (outside_of a) in
        sends_where b (is_at_limit (outside_of a)) ends a.machine cut.machine out out (reported_at b reported)
        (sends_if_so b is ends a.machine cut.machine out out (λ s stands.
        let x = takes s stands in
        (x.0, x.1, (x.2, x.4), after_none out ∙ ap (λ ls. after out (text_of ls)) (sym x.4.0), x.5)))

    pub cut_keeps : IsReady a → KeepsRunner a cut
    cut_keeps ready =
        let x = takes ready.stands.0 ready.stands.1 in
        keeps_with a ready cut.machine a.lines a.page image refl refl (x.1, x.5)
