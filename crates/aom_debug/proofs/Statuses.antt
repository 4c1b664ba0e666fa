-- What is known of a session, of a script and of the image is what the status answers.
use Rattle.std.proofs.Common.{arith, ◌≡◌, ◌∙◌, ℕ, List, [], Result, Ok, Err, IfErr, IfOk, sym, ap, subst, inl, inr}
use Rattle.std.specs.Prelude.{◌⊎◌}
use Rattle.aom_image.specs.Image.{Image}
use Rattle.aom_semantics.specs.World.{Environment, boot_state}
use Rattle.aom_natives.specs.declared.fault.BootFault.TheVariants as boots
use Rattle.aom_debug.proofs.ScriptLemmas.{IsOfText, is_of_text}
use Rattle.aom_script.specs.Script.{RefusesOrWants, Script, denoted}
use Rattle.aom_script.specs.declared.fault.ScriptFault.{ScriptFault}
use Rattle.aom_script.specs.declared.fault.ScriptFaultKind.{ScriptFaultKind}
use Rattle.aom_debug_symbols.specs.NameLists.{NameLists}
use Rattle.aom_debug.specs.Runners.{outside_of}
use Rattle.aom_debug.specs.declared.debugger.Debugger.{Debugger}
use Rattle.aom_commands.specs.Acceptable.{IsAcceptable, IsSerialized, RefusesOrWants as RefusesImage}
use Rattle.aom_commands.specs.Headline.{Accepts, HasNatives, IsSilent, RefusesBoot, Sent, Reported, outside_of as outside_by}
use Rattle.aom_commands.specs.Status.{of_script, of_script_kind, status_of}
use Rattle.aom_commands.specs.declared.faults.Fault.{Fault}
use Rattle.aom_commands.specs.declared.faults.Fault.TheVariants as faults
use Rattle.aom_commands.specs.declared.status.ExitStatus.{ExitStatus}
use Rattle.aom_commands.specs.declared.status.ExitStatus.TheVariants as statuses
use Rattle.aom_debug.proofs.CommandsLemmas.{unaccepted as not_run, unscripted as not_scripted}
use Rattle.aom_transcript.specs.Text.{line_text}
use Rattle.aom_debug.specs.Answers.{DebugAnswersBy, Debugs, start_of}
use Rattle.aom_debug.specs.Answers.DebugBreaks.{input_fails, machine_wants_memory, output_fails, script_wants_memory}
use Rattle.aom_debug.specs.Beginning.{IsBegun}
use Rattle.aom_debug.specs.SessionLoop.{BreaksDown, Broken, Given, Held, HoldsAll, IsUnread, Stopped, StopsShort}
use Rattle.aom_debug.specs.Observing.{standing}
use Rattle.aom_debug.specs.Sessions.{SessionState}

-- what is so of the status of a session, by how it was held
pub by_done : (So : Result ExitStatus Fault → Type 0) (reported : Result (Unit {0}) Fault) (result : Result ExitStatus Fault)
    {Holds : Type 0} {Fails : Fault → Type 0} → IfOk reported (λ _. result ≡ Ok statuses.Done) → IfErr reported (λ fault. result ≡ Err fault)
    → IfOk reported (λ _. Holds) → IfErr reported Fails → (Holds → So (Ok statuses.Done)) → ((fault : Fault) → Fails fault → So (Err fault)) → So result
by_done So (Ok done) result is not holds fails by or = subst So (sym is) (by holds)
by_done So (Err fault) result is not holds fails by or = subst So (sym not) (or fault fails)

-- ---- an accepted image under a script

module _ (ns : NameLists) (bytes text : List ℕ) (limit natives reads : ℕ) (p : Image)
    (script : Script) (acceptable : IsAcceptable p) (serialized : IsSerialized bytes p) (denotes : denoted text ≡ Ok script) (given : Given) (out errors : Sent) where
  abbrev Answered : ExitStatus → Type 0
  Answered = DebugAnswersBy ns bytes text limit natives reads given out errors

  debugs_of : HasNatives p natives → Debugs bytes text limit natives
  debugs_of enough = record { image = p; serialized = serialized; acceptable = acceptable; script = script; denotes = denotes; enough = enough }

  module _ {X : Type 0} {B : X → Type 0} (d : Debugger X B) (begun : IsBegun ns p script limit natives d) where
    abbrev debugs : Debugs bytes text limit natives
    debugs = record { image = p; serialized = serialized; acceptable = acceptable; script = script; denotes = denotes; enough = begun.enough }

    -- what a session comes to from where the debugger begins
    begun_so : (Q : Image → Environment → SessionState → Type 0) → Q d.runner.machine.core.image (outside_of d.runner) (standing d (boot_state p)) →
        Q p (outside_by script limit natives) (start_of ns p)
    begun_so Q x = subst (λ q. Q q (outside_by script limit natives) (start_of ns p)) begun.image
        (subst (λ o. Q d.runner.machine.core.image o (start_of ns p)) begun.outside
        (subst (λ ss. Q d.runner.machine.core.image (outside_of d.runner) (record { state = boot_state p; spots = ss; recent = []; names = ns })) begun.spots
        (subst (λ rs. Q d.runner.machine.core.image (outside_of d.runner) (record { state = boot_state p; spots = d.breakpoints; recent = rs; names = ns })) begun.recent
        (subst (λ names. Q d.runner.machine.core.image (outside_of d.runner) (record { state = boot_state p; spots = d.breakpoints; recent = d.runner.recent; names = names })) begun.names x))))

    -- it was held whole
    pub held_of : HoldsAll d given out.before out.now → IsSilent errors → Answered statuses.Done
    held_of holds silent = let h = holds (boot_state p) begun.stands in (debugs, (h.0, h.1.0, begun_so (λ q o s. Held q o s h.0 out.before out.now) h.1.1), silent)

    -- or not, and that is told
    pub broken_of : (fault : Fault) (status : ExitStatus) → ((fault ≡ faults.File) × StopsShort reads d given out.before out.now) ⊎
        ((fault ≡ faults.Write) × BreaksDown d given out.before out.now out.failed) → Reported fault status errors → Answered status
    broken_of fault status (inl stops) reported =
        let t : Reported faults.File status errors = subst (λ f. Reported f status errors) stops.0 reported in
        let h = stops.1 (boot_state p) begun.stands in
        subst Answered (sym t.0) (inr (input_fails debugs (h.0, h.1.0, begun_so (λ q o s. Stopped q o s h.0 out.before out.now) h.1.1) t.1))
    broken_of fault status (inr breaks) reported =
        let t : Reported faults.Write status errors = subst (λ f. Reported f status errors) breaks.0 reported in
        let h = breaks.1 (boot_state p) begun.stands in
        subst Answered (sym t.0) (inr (output_fails debugs (h.0, h.1.0, begun_so (λ q o s. Broken q o s h.0 out.before out.now out.failed) h.1.1) t.1))

  -- its machine did not boot, and that is told
  pub unbegun : (fault : Fault) (status : ExitStatus) → RefusesBoot p natives fault → IsUnread given → IsSilent out → Reported fault status errors → Answered status
  unbegun (faults.Boot boots.TooFewNatives) status few unread silent reported =
      let accepts : Accepts bytes = record { image = p; serialized = serialized; acceptable = acceptable } in
      subst Answered (sym reported.0) (inr (record { silent = silent; accepts = accepts; script = script; denotes = denotes; few = few; reports = reported.1 }), unread)
  unbegun faults.Memory status enough unread silent reported = subst Answered (sym reported.0) (inr (machine_wants_memory unread silent (debugs_of enough) reported.1))
  unbegun _ status refused unread silent reported = absurd refused

-- ---- a text that is no script

-- a fault of the text is one of the call
called : (fault : ScriptFault) (kind : ScriptFaultKind) → IsOfText kind → status_of (of_script_kind fault kind) ≡ statuses.CallRefused
called fault kind h = grind arith

module _ (ns : NameLists) (bytes text : List ℕ) (limit natives reads : ℕ) (given : Given) (out errors : Sent) (status : ExitStatus) (unread : IsUnread given)
    (silent : IsSilent out) where
  abbrev So : ExitStatus → Type 0
  So = DebugAnswersBy ns bytes text limit natives reads given out errors

  pub unscripted : (fault : ScriptFault) (line : Fault) → Accepts bytes → RefusesOrWants text fault → line ≡ of_script fault → Reported line status errors → So status
  unscripted fault line accepts (inl denotes) is reported =
      let call : status_of line ≡ statuses.CallRefused = ap status_of is ∙ called fault fault.kind (is_of_text text fault denotes) in
      subst So (sym (reported.0 ∙ call))
      (not_scripted line_text bytes text limit natives fault line out errors statuses.CallRefused accepts (inl denotes) silent is (sym call, reported.1), unread)
  unscripted fault line accepts (inr wants) is reported =
      let memory : Reported faults.Memory status errors = subst (λ f. Reported f status errors) (is ∙ ap (of_script_kind fault) wants.lines.kind) reported in
      subst So (sym memory.0) (inr (script_wants_memory unread silent accepts fault wants memory.1))

  -- ---- bytes that are no accepted image

  -- they have a fault that is told with the status of a refused image
  refused_by : (fault : Fault) → RefusesImage bytes fault → ((p : Image) → IsSerialized bytes p → IsAcceptable p → fault ≡ faults.Memory) →
      status_of fault ≡ statuses.ImageRefused → Reported fault status errors → So status
  refused_by fault refuses complete image reported = subst So (sym (reported.0 ∙ image))
      (not_run line_text bytes text limit natives fault out errors statuses.ImageRefused refuses complete silent (sym image, reported.1), unread)

  pub unaccepted : (fault : Fault) → RefusesImage bytes fault → ((p : Image) → IsSerialized bytes p → IsAcceptable p → fault ≡ faults.Memory) →
      Reported fault status errors → So status
  unaccepted fault refuses complete reported = grind arith
