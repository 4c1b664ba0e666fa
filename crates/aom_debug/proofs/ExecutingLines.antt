-- What a line does to a debugger is what a session says of it: nothing, a fault, or a command with what it answers.
use Rattle.std.proofs.Common.{◌≡◌, ◌≢◌, ◌∙◌, ℕ, Bool, false, List, [], Option, Some, None, Ok, Err, take, refl, sym, ap, subst, inl, inr}
use Rattle.aom_run.specs.Calls.{RefinesWithNatives}
use Rattle.aom_run.specs.declared.machine.HostedMachine.{HostedMachine}
use Rattle.aom_transcript.specs.Sinks.{after}
use Rattle.aom_debug.proofs.DebugSteppingLemmas.{after_none}
use Rattle.aom_debug_protocol.specs.declared.command.Command.{Command}
use Rattle.aom_debug_protocol.specs.declared.fault.DebugFault.{DebugFault}
use Rattle.aom_debug_protocol.specs.declared.fault.DebugFault.TheVariants.{WriteFault}
use Rattle.aom_debug.specs.Reporting.{IsCut}
use Rattle.aom_debug.specs.Executing.{Executes}
use Rattle.aom_debug.specs.declared.debugger.Debugger.{Debugger}
use Rattle.aom_debug.specs.Observing.{Observed, ObservedPart, standing}
use Rattle.aom_debug.specs.Sessions.{fault_text}
use Rattle.aom_debug.proofs.Executing.{is_cut, is_done, is_refused, still_well}

module _ {X : Type 0} {B : X → Type 0} where
  -- a line without words
  pub observed_nothing : (d : Debugger X B) (before : Option (List ℕ)) (failed : Bool) → d.has_failed ≡ false →
      Observed (Ok None) d d (record { before = before; now = before; failed = failed })
  observed_nothing d before failed well = record { goes = λ s stands. ([], s, (refl, refl), after_none before, stands); well = well }

  -- a line that is bad
  pub observed_fault : (d : Debugger X B) (fault : DebugFault) (before now : Option (List ℕ)) (failed : Bool) →
      d.has_failed ≡ false → now ≡ after before (fault_text d.names fault) → Observed (Err fault) d d (record { before = before; now = now; failed = failed })
  observed_fault d fault before now failed well out = record { goes = λ s stands. (fault_text d.names fault, s, (refl, refl), out, stands); well = well }

  pub observed_fault_part : (d : Debugger X B) (fault : DebugFault) (before now : Option (List ℕ)) (failed : Bool) →
      IsCut (fault_text d.names fault) WriteFault failed before now → ObservedPart (Err fault) d (record { before = before; now = now; failed = failed })
  observed_fault_part d fault before now failed cut =
      record { goes = λ s stands. (fault_text d.names fault, inl (standing d s, (refl, refl)), (cut.sent, cut.out)); failed = cut.fails }

  module _ (old new : Debugger X B) (command : Command) (well : old.has_failed ≡ false) (before mid : Option (List ℕ)) (failed : Bool) where
    -- a command that is done
    pub observed_done : Executes command old new (record { before = before; now = mid; failed = failed }) (Ok tt) →
        Observed (Ok (Some command)) old new (record { before = before; now = mid; failed = failed })
    observed_done executes = record {
      goes = λ s stands.
          let f = is_done old new (record { before = before; now = mid; failed = failed }) well command executes s stands in
          (f.0, f.1, inl f.2, f.3, f.4);
      well = still_well old new (record { before = before; now = mid; failed = failed }) well command executes;
    }

    pub observed_cut : Executes command old new (record { before = before; now = mid; failed = failed }) (Err WriteFault) →
        ObservedPart (Ok (Some command)) old (record { before = before; now = mid; failed = failed })
    observed_cut executes = let x = is_cut old new (record { before = before; now = mid; failed = failed }) well command executes in record { goes = x.1; failed = x.0 }

    -- one that is refused
    module _ (fault : DebugFault) (other : fault ≢ WriteFault)
        (executes : Executes command old new (record { before = before; now = mid; failed = failed }) (Err fault)) (now : Option (List ℕ)) (then : Bool) where
      pub observed_refused : now ≡ after mid (fault_text new.names fault) → Observed (Ok (Some command)) old new (record { before = before; now = now; failed = then })
      observed_refused out =
          let r = is_refused old new (record { before = before; now = mid; failed = failed }) well command fault other executes in
          let same = r.0.same in
          record {
            goes = λ s stands. (
              fault_text old.names fault,
              s,
              inr (fault, r.1 s stands, (ap (λ (d : Debugger X B). standing d s) same, refl)),
              subst (λ (d : Debugger X B). now ≡ after mid (fault_text d.names fault)) same out ∙ ap (λ o. after o (fault_text old.names fault)) r.0.silent,
              subst (λ (m : HostedMachine X B). RefinesWithNatives m s) (sym (ap (λ (d : Debugger X B). d.runner.machine) same)) stands,
            );
            well = ap (λ (d : Debugger X B). d.has_failed) same ∙ well;
          }

      pub observed_refused_part : IsCut (fault_text new.names fault) WriteFault then mid now →
          ObservedPart (Ok (Some command)) old (record { before = before; now = now; failed = then })
      observed_refused_part part =
          let r = is_refused old new (record { before = before; now = mid; failed = failed }) well command fault other executes in
          let cut = subst (λ (d : Debugger X B). IsCut (fault_text d.names fault) WriteFault then mid now) r.0.same part in
          record {
            goes = λ s stands. (
              fault_text old.names fault,
              inl (standing old s, inr (fault, r.1 s stands, (refl, refl))),
              (cut.sent, cut.out ∙ ap (λ o. after o (take cut.sent (fault_text old.names fault))) r.0.silent),
            );
            failed = cut.fails;
          }
