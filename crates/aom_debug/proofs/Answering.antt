-- What a call of a debugger answers, by what was told.
use Rattle.std.proofs.Common.{◌≡◌, ◌∙◌, ℕ, Bool, true, false, List, Option, Ok, Err, IfErr}
use Rattle.std.proofs.Common.{IfNone, IfOk, IfSome, Some, None, sym, ap, subst}
use Rattle.aom_semantics.specs.State.{State}
use Rattle.aom_semantics.specs.World.{Reaches}
use Rattle.aom_transcript.specs.declared.line.Line.{Line}
use Rattle.aom_debug_stepping.specs.Calls.{RefinesWithNatives}
use Rattle.aom_debug_stepping.specs.Runners.{Went, outside_of}
use Rattle.aom_debug_protocol.specs.declared.fault.DebugFault.TheVariants.{WriteFault}
use Rattle.aom_debug_views.specs.Reporting.{Reports, ReportsPart}
use Rattle.aom_debug.specs.Commands.{place_text}
use Rattle.aom_debug_stepping.specs.Sends.{Breaks, HostedMachine, Sends}
use Rattle.aom_debug_stepping.specs.RunGoals.{RunGoals}
use Rattle.aom_machine_state.specs.declared.progress.Progress.{Progress}
use Rattle.aom_debug.specs.Debugging.{Answer, Cut, Goes, GivesUp, Looks, MayGo, Outgoing, Seen, SeenPart, Shows}
use Rattle.aom_debug.proofs.Moving.{all_out, cut_out, part_out}
use Rattle.aom_debug.specs.declared.debugger.Debugger.{Debugger}

module _ {X : Type 0} {B : X → Type 0} where
  -- where moves have led
  pub shown : (old new : Debugger X B) (out : Outgoing) (reported result : Answer) →
      result ≡ reported → IfOk reported (λ _. new ≡ old) → IfErr reported (λ _. new ≡ record old { has_failed = true }) → IfOk reported
      (λ _. Reports old.runner.machine.core (λ s. place_text old.names old.runner.machine.core.image s) out.before out.now) → IfErr reported (λ fault. ReportsPart
      old.runner.machine.core (λ s. place_text old.names old.runner.machine.core.image s) fault out.failed out.before out.now) → Shows old new out result
  shown old new out (Ok done) result is same changed reports part = subst (λ r. Shows old new out r) (sym is) (same, reports)
  shown old new out (Err fault) result is same changed reports part = subst (λ r. Shows old new out r) (sym is) (changed, part)

  -- a course, and then where it has led; or it was cut
  module _ (leads : Debugger X B → RunGoals) (old mid new : Debugger X B) (may : MayGo old) (image : mid.runner.machine.core.image ≡ old.runner.machine.core.image)
      (spots : mid.breakpoints ≡ old.breakpoints) (names : mid.names ≡ old.names) (well : mid.has_failed ≡ old.has_failed)
      (before here now : Option (List ℕ)) (failed : Bool) where
    stands_so : (machine : new.runner.machine ≡ mid.runner.machine) (u : State) → RefinesWithNatives mid.runner.machine u → RefinesWithNatives new.runner.machine u
    stands_so machine u stands = subst (λ (m : HostedMachine X B). RefinesWithNatives m u) (sym machine) stands

    gone : ((s : State) (lines : List Line) (u : State) →
        leads old old.runner.recent mid.runner.recent s lines u → Reaches old.runner.machine.core.image (outside_of old.runner) s lines u) →
        (result : Answer) → Sends (leads old old.runner.recent mid.runner.recent) old.runner.machine before here mid.runner.machine → Shows mid new
        (record { before = here; now = now; failed = failed }) result → Goes leads old new (record { before = before; now = now; failed = failed }) result
    gone reaches (Ok done) sends shows =
        let same = shows.0 in
        let machine = ap (λ (d : Debugger X B). d.runner.machine) same in
        let recent = ap (λ (d : Debugger X B). d.runner.recent) same in (
          may,
          record {
            goes = λ s st. let f = all_out old.names old.runner.machine.core.image old.runner.machine mid.runner.machine image before here now
                (leads old old.runner.recent mid.runner.recent) sends
                (subst (λ ns. Reports mid.runner.machine.core (λ u. place_text ns mid.runner.machine.core.image u) here now) names shows.1) s st in
                (f.0, f.1, subst (λ places. leads old old.runner.recent places s f.0 f.1) (sym recent) f.2, f.3, stands_so machine f.1 f.4);
            spots = ap (λ (d : Debugger X B). d.breakpoints) same ∙ spots;
            names = ap (λ (d : Debugger X B). d.names) same ∙ names;
            well = ap (λ (d : Debugger X B). d.has_failed) same ∙ well ∙ may.0;
          },
        )
    gone reaches (Err fault) sends shows =
        let same = shows.0 in
        let machine = ap (λ (d : Debugger X B). d.runner.machine) same in
        let cut : Cut old new (record { before = before; now = now; failed = failed }) = record {
          goes = λ s st. let f = part_out old.names old.runner.machine.core.image old.runner.machine mid.runner.machine image before here now
              (leads old old.runner.recent mid.runner.recent) (Reaches old.runner.machine.core.image (outside_of old.runner)) reaches fault failed sends
              (subst (λ ns. ReportsPart mid.runner.machine.core (λ u. place_text ns mid.runner.machine.core.image u) fault failed here now) names shows.1) s st in
              (f.0, f.1, f.2, f.3, stands_so machine f.1 f.4);
          spots = ap (λ (d : Debugger X B). d.breakpoints) same ∙ spots;
          names = ap (λ (d : Debugger X B). d.names) same ∙ names;
          fails = shows.1.fails;
          has_write_failed = ap (λ (d : Debugger X B). d.has_failed) same;
        } in
        subst (λ f. Goes leads old new (record { before = before; now = now; failed = failed }) (Err f)) (sym shows.1.reported) (may, cut)

    gave_up : (result : Answer) → failed ≡ true → Breaks (Reaches old.runner.machine.core.image
        (outside_of old.runner)) old.runner.machine before here mid.runner.machine → GivesUp mid new (record { before = here; now = now; failed = failed }) result
        → Goes leads old new (record { before = before; now = now; failed = failed }) result
    gave_up (Err WriteFault) fails breaks up =
        let same = up.0 in
        let machine = ap (λ (d : Debugger X B). d.runner.machine) same in (
          may,
          record {
            goes = λ s st. let f = cut_out old.names old.runner.machine.core.image old.runner.machine mid.runner.machine image before here here
                (Reaches old.runner.machine.core.image (outside_of old.runner)) breaks s st in
                (f.0, f.1, f.2, (f.3.0, up.1 ∙ f.3.1), stands_so machine f.1 f.4);
            spots = ap (λ (d : Debugger X B). d.breakpoints) same ∙ spots;
            names = ap (λ (d : Debugger X B). d.names) same ∙ names;
            fails = fails;
            has_write_failed = ap (λ (d : Debugger X B). d.has_failed) same;
          },
        )
    gave_up _ fails breaks up = absurd up

  -- either of the two, by how it went
  module _ (leads : Debugger X B → RunGoals) (old mid new : Debugger X B) (may : MayGo old) (image : mid.runner.machine.core.image ≡ old.runner.machine.core.image)
      (before here now : Option (List ℕ)) (failed : Bool) where
    pub answered : ((s : State) (lines : List Line) (u : State) → leads old old.runner.recent mid.runner.recent s lines u →
        Reaches old.runner.machine.core.image (outside_of old.runner) s lines u) → (spots : mid.breakpoints ≡ old.breakpoints) → (names : mid.names ≡ old.names) →
        (well : mid.has_failed ≡ old.has_failed) → (went : Option Progress) (off : Bool) (result : Answer) → Went
        (leads old old.runner.recent mid.runner.recent) (Reaches old.runner.machine.core.image (outside_of old.runner)) old.runner before here off went mid.runner →
        IfNone went (GivesUp mid new (record { before = here; now = now; failed = failed }) result) → IfNone went (failed ≡ off) → IfSome went (λ far. Shows mid
        new (record { before = here; now = now; failed = failed }) result) → Goes leads old new (record { before = before; now = now; failed = failed }) result
    answered reaches spots names well None off result x up same shows =
        gave_up leads old mid new may image spots names well before here now failed result (same ∙ x.0) x.1 up
    answered reaches spots names well (Some far) off result x up same shows =
        gone leads old mid new may image spots names well before here now failed reaches result x.0 shows

-- a look
pub looked : {X : Type 0} {B : X → Type 0} (shows : Debugger X B → State → List ℕ → Type 0)
    (old new : Debugger X B) (before now : Option (List ℕ)) (failed : Bool) (reported result : Answer) → old.has_failed ≡ false → result ≡ reported
    → IfOk reported (λ _. new ≡ old) → IfErr reported (λ _. new ≡ record old { has_failed = true }) → IfOk reported (λ _. Seen shows old before now) →
    IfErr reported (λ fault. SeenPart shows old fault failed before now) → Looks shows old new (record { before = before; now = now; failed = failed }) result
looked shows old new before now failed (Ok done) result well is same changed sees part =
    subst (λ r. Looks shows old new (record { before = before; now = now; failed = failed }) r) (sym is) (well, same, sees)
looked shows old new before now failed (Err fault) result well is same changed sees part = subst (λ r. Looks shows old new
    (record { before = before; now = now; failed = failed }) r) (sym (is ∙ ap (λ f. Err f) part.0)) (well, changed, part.1, part.2)
