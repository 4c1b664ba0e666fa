-- What is known of an outcome, of a script and of the image is what the status answers.
use Rattle.std.proofs.lemmas.Bool.Decides.{nat_tests}
use Rattle.std.proofs.Common.{◌≡◌, ◌<◌, ◌∙◌, Bool, List, None, Option, ℕ, Result, Ok, Err, true, false, zero, suc, ap, arith, pos, refl, sym, subst, inl, inr}
use Rattle.aom_transcript.specs.declared.line.Line.{Line}
use Rattle.aom_semantics.specs.State.{State}
use Rattle.aom_semantics.specs.World.{Environment, Reaches, Run_of, boot_state}
use Rattle.std.specs.Prelude.{◌⊎◌, IfErr, IfOk}
use Rattle.aom_image.specs.Image.{Image}
use Rattle.aom_link_conditions.specs.Linked.{IsLinked}
use Rattle.aom_typing_rules.specs.Typing.{Typing}
use Rattle.aom_static_bounds.specs.Strongest.{IsStrongest}
use Rattle.aom_budget.specs.Budgets.{CostsWithin}
use Rattle.aom_static_bounds.specs.Dispatches.{IsAffordable}
use Rattle.aom_static_bounds.specs.Prices.{Prices}
use Rattle.aom_safety.specs.Laws.{LinkedIsWired}
use Rattle.aom_transcript.specs.declared.line.Ending.{Ending}
use Rattle.aom_commands.proofs.DeterminismLemmas.{alike_counted, each_run_follows, nothing_is_observed}
use Rattle.aom_determinism.specs.Observing.{Follows, Oracle}
use Rattle.aom_determinism.specs.Determined.{TextIsDetermined}
use Rattle.aom_termination.specs.Runs.{TypedRunsWell}
use Rattle.aom_termination.specs.Laws.{StepsWithin}
use Rattle.aom_run.specs.declared.outcome.Outcome.{Outcome}
use Rattle.aom_run.specs.declared.outcome.Outcome.TheVariants.{Stopped, WriteFault}
use Rattle.aom_commands.proofs.ScriptLemmas.{IsOfText, is_of_text}
use Rattle.aom_run.specs.Runs.{Ran}
use Rattle.aom_run.specs.declared.machine.HostedMachine.{HostedMachine}
use Rattle.aom_script.specs.Script.{Script, denoted, RefusesOrWants, WantsMemory}
use Rattle.aom_script.specs.declared.fault.ScriptFault.{ScriptFault}
use Rattle.aom_script.specs.declared.fault.ScriptFaultKind.{ScriptFaultKind}
use Rattle.aom_commands.specs.declared.status.ExitStatus.{ExitStatus}
use Rattle.aom_commands.specs.declared.status.ExitStatus.TheVariants as statuses
use Rattle.aom_commands.specs.declared.faults.Fault.{Fault}
use Rattle.aom_commands.specs.declared.faults.Fault.TheVariants as faults
use Rattle.aom_natives.specs.declared.fault.BootFault.TheVariants as boots
use Rattle.aom_commands.specs.Status.{of_script, of_script_kind, status_of}
use Rattle.aom_commands.specs.Acceptable.{IsSerialized, IsAcceptable, Refuses, RefusesOrWants as RefusesImage}
use Rattle.aom_commands.specs.Headline.{Sent, outside_of, IsSilent, Reported, Shows, Accepts, AcceptedAnswers, AllRunWell, CheckAnswers, Ends, EndsAs}
use Rattle.aom_commands.specs.Headline.{EndsOrFails, HasNatives, ImageWantsMemory, IsNoScript, IsOnly, IsRefused, RefusesBoot, RunAnswersBy, RunsSafely, Shown}
use Rattle.aom_commands.specs.Headline.{ReportsFault, Transcribed}
use Rattle.aom_commands.proofs.MachineLemmas.{affords}
use Rattle.aom_commands.specs.Explored.{AcceptedExplores, Begun, BreaksOff, ExploreAnswersOf, Explored, ExploresAll, Finished, Plans, RefusesTry, told_runs}
use Rattle.aom_commands.specs.Explored.ExploreBreaks.{script_wants_memory as wants_for_script, machine_wants_memory as wants_for_machine, output_fails as fails}
use Rattle.aom_fault_injection.specs.declared.injection.Injection.{Injection}
use Rattle.aom_fault_injection.specs.Expected.{Exploration, is_judged}
use Rattle.aom_commands.specs.declared.exploring.RunEnd.{RunEnd}
use Rattle.aom_commands.proofs.Tries.{judges}
use Rattle.aom_commands.specs.Unreported.{Unreported}
use Rattle.aom_commands.specs.Headline.RunBreaks.{machine_wants_memory, output_fails, script_wants_memory}

-- ---- a run

-- what the laws of runs say of an accepted image
pub all_run_well : (p : Image) → IsLinked p → (t : Typing) × IsStrongest p t × (c : Prices) × IsAffordable p t c × CostsWithin p c →
    TypedRunsWell → StepsWithin → LinkedIsWired → TextIsDetermined → AllRunWell p
all_run_well p linked table law steps wired determined = record {
  each = λ bytes serialized outside. law.each p table.0 outside serialized.formed linked table.1.typed;
  within = λ bytes serialized outside. steps.each p table.0 table.2 outside serialized.formed linked table.1.typed table.3 (affords p table.2 table.4);
  one = λ bytes serialized outside. determined p table.0 outside (wired p serialized.formed linked) table.1.typed;
}

-- a run of a linked image that has a typing
abbrev runs_of : (bytes text : List ℕ) (limit natives : ℕ) (p : Image) (script : Script) → IsAcceptable p → AllRunWell p → IsSerialized bytes p →
    denoted text ≡ Ok script → RunsSafely bytes text limit natives
runs_of bytes text limit natives p script acceptable well serialized denotes = record {
  image = p;
  serialized = serialized;
  acceptable = acceptable;
  script = script;
  denotes = denotes;
  well = well.each bytes serialized (outside_of script limit natives);
  within = well.within bytes serialized (outside_of script limit natives);
  determined = well.one bytes serialized (outside_of script limit natives);
}

-- natives of which nothing is heard
silence : Oracle
silence = record { answers = λ n. pos 0; completes = λ n. None }

module _ (reads : Line → List ℕ) (bytes text : List ℕ) (limit natives : ℕ) (r : RunsSafely bytes text limit natives) where
  abbrev around : Environment
  around = outside_of r.script limit natives

  -- of an image that names no native nothing is heard, whatever natives there are
  unobserved : r.image.header.natives ≡ 0 → (lines : List Line) (s : State) (reached : Reaches r.image around (boot_state r.image) lines s) → Follows silence reached
  unfolding silence
  unobserved none lines s reached =
      nothing_is_observed.idle r.image around (nothing_is_observed.unnamed r.image r.serialized.formed none) silence (λ n. refl) (boot_state r.image) lines s reached

  -- two runs that hear the same end alike
  ends_as : (oracle : Oracle) (ending : Ending) (out : Sent)
      (shown : Transcribed reads r.image around ending out) (lines : List Line) (last : State) (other : Ending) (run : Run_of r.image around lines last other)
      → Follows oracle shown.run.reaches → Follows oracle run.reaches → EndsAs reads ending out lines last other
  ends_as oracle ending out shown lines last other run one another =
      let same = r.determined.ended oracle shown.lines lines shown.last last ending other shown.run run one another in (
        sym same.1,
        grind (arith, nat_tests, alike_counted shown.last last same.2),
      )

  -- what went out is what each run that ends and hears the same has written
  only : (ending : Ending) (out : Sent) (shown : Transcribed reads r.image around ending out) → IsOnly reads r.image around ending out shown
  only ending out shown =
      let observed = each_run_follows r.image around (boot_state r.image) shown.lines shown.last shown.run.reaches in record {
        oracle = observed.0;
        follows = observed.1;
        observing_same = λ lines last other run same. ends_as observed.0 ending out shown lines last other run observed.1 same;
        observing_none = λ none lines last other run.
            ends_as silence ending out shown lines last other run (unobserved none shown.lines shown.last shown.run.reaches) (unobserved none lines last run.reaches);
      }

  so : (ending : Ending) (out : Sent) → HasNatives r.image natives → Transcribed reads r.image around ending out → Shown reads bytes text limit natives ending out
  so ending out enough shown = record { runs = r; enough = enough; transcribed = shown; only = only ending out shown }

  ran : (out errors : Sent) (outcome : Outcome) (status : ExitStatus) → HasNatives r.image natives →
      Shows reads r.image around outcome out → Ends outcome status errors → AcceptedAnswers reads bytes text limit natives out errors status
  ran out errors Stopped status enough shows ends = grind (arith, nat_tests, so)
  ran out errors WriteFault status enough shows ends =
      subst (AcceptedAnswers reads bytes text limit natives out errors) (sym ends.0) (output_fails r enough shows ends.1)
  ran out errors _ status enough shows ends = subst (AcceptedAnswers reads bytes text limit natives out errors) (sym ends.0) (_, tt, so _ out enough shows, ends.1)

-- what a run of a machine sends is what its outcome shows
pub shown_by : {X : Type 0} {B : X → Type 0} (reads : Line → List ℕ) (p : Image) (m new : HostedMachine X B) (outside : Environment)
    (outcome : Outcome) (failed : Bool) (before now : Option (List ℕ)) → m.core.image ≡ p → Ran reads m outside outcome failed before now new
    → Shows reads p outside outcome (record { before = before; now = now; failed = failed })
shown_by reads p m new outside x failed before now image ran = grind arith

module _ (reads : Line → List ℕ) (bytes text : List ℕ) (limit natives : ℕ) (p : Image) (script : Script)
    (acceptable : IsAcceptable p) (well : AllRunWell p) (serialized : IsSerialized bytes p) (denotes : denoted text ≡ Ok script) (out errors : Sent) where
  abbrev of_it : RunsSafely bytes text limit natives
  of_it = runs_of bytes text limit natives p script acceptable well serialized denotes

  -- a run of an accepted image under a script ended so
  ran_of : (outcome : Outcome) (status : ExitStatus) → HasNatives p natives → Shows reads p (outside_of script limit natives) outcome out →
      Ends outcome status errors → AcceptedAnswers reads bytes text limit natives out errors status
  ran_of outcome status enough shows ends = ran reads bytes text limit natives of_it out errors outcome status enough shows ends

  -- its machine did not boot, and that is told
  unbooted : (fault : Fault) (status : ExitStatus) → RefusesBoot p natives fault → IsSilent out → Reported fault status errors →
      AcceptedAnswers reads bytes text limit natives out errors status
  unbooted (faults.Boot boots.TooFewNatives) status few silent reported =
      let accepts : Accepts bytes = record { image = p; serialized = serialized; acceptable = acceptable } in
      subst (AcceptedAnswers reads bytes text limit natives out errors)
      (sym reported.0) (inr (record { silent = silent; accepts = accepts; script = script; denotes = denotes; few = few; reports = reported.1 }))
  unbooted faults.Memory status enough silent reported =
      subst (AcceptedAnswers reads bytes text limit natives out errors) (sym reported.0) (machine_wants_memory silent of_it enough reported.1)
  unbooted _ status refused silent reported = absurd refused

  -- a run that may not have been made
  pub ended_so : (found : Result Outcome Fault) (status : ExitStatus) →
      IfOk found (λ _. HasNatives p natives) → IfOk found (λ outcome. Shows reads p (outside_of script limit natives) outcome out) → IfErr found
      (λ fault. RefusesBoot p natives fault × IsSilent out) → EndsOrFails found status errors → AcceptedAnswers reads bytes text limit natives out errors status
  ended_so (Ok outcome) status enough shows refused ends = ran_of outcome status enough shows ends
  ended_so (Err fault) status enough shows refused reported = unbooted fault status refused.0 refused.1 reported

-- ---- a text that is no script

-- a fault of the text is told as one
reported_so : (fault : ScriptFault) (kind : ScriptFaultKind) → IsOfText kind → of_script_kind fault kind ≡ faults.Script fault
reported_so fault kind h = grind arith

-- what is told of a text that is no script, or that there was no memory for, is what each status answers which is one of that
unread : (answers : ExitStatus → Type 0) (bytes text : List ℕ) (fault : ScriptFault) (line : Fault) (out errors : Sent) (status : ExitStatus) →
    Accepts bytes → RefusesOrWants text fault → IsSilent out → line ≡ of_script fault → Reported line status errors → (IsNoScript bytes text out errors →
    answers statuses.CallRefused) → (WantsMemory text fault → ReportsFault faults.Memory errors → answers statuses.Fault) → answers status
unread answers bytes text fault line out errors status accepts (inl denotes) silent is reported refused wanting = let script : Reported
    (faults.Script fault) status errors = subst (λ f. Reported f status errors) (is ∙ reported_so fault fault.kind (is_of_text text fault denotes)) reported in
    subst answers (sym script.0) (refused (record { silent = silent; accepts = accepts; fault = fault; denotes = denotes; reports = script.1 }))
unread answers bytes text fault line out errors status accepts (inr wants) silent is reported refused wanting =
    let memory : Reported faults.Memory status errors = subst (λ f. Reported f status errors) (is ∙ ap (of_script_kind fault) wants.lines.kind) reported in
    subst answers (sym memory.0) (wanting wants memory.1)

pub unscripted : (reads : Line → List ℕ) (bytes text : List ℕ) (limit natives : ℕ)
    (fault : ScriptFault) (line : Fault) (out errors : Sent) (status : ExitStatus) → Accepts bytes → RefusesOrWants text fault → IsSilent out
    → line ≡ of_script fault → Reported line status errors → AcceptedAnswers reads bytes text limit natives out errors status
unscripted reads bytes text limit natives fault line out errors status accepts refuses silent is reported = unread (AcceptedAnswers reads
    bytes text limit natives out errors) bytes text fault line out errors status accepts refuses silent is reported inl (script_wants_memory silent accepts fault)

-- ---- runs into which faults are injected

-- nothing was tried yet
pub begin_refused : (p : Image) (script : Script) (limit natives : ℕ) (asked : Exploration) (sent : Sent) (fault : Fault) →
    IsSilent sent → RefusesTry p natives fault → BreaksOff p script limit natives asked sent fault
begin_refused p script limit natives asked sent x silent few = grind arith

-- nothing went out, or some of what is planned was tried
pub stopped_there : (p : Image) (script : Script) (limit natives : ℕ) (asked : Exploration) (plain : RunEnd)
    (injections given : List Injection) (left : Option Injection) (sent : Sent) (fault other : Fault) →
    Plans p script limit natives asked.tries plain injections left → given ≡ injections → fault ≡ other → other ≡ faults.Memory →
    IsSilent sent ⊎ Begun p script limit natives asked plain given sent → BreaksOff p script limit natives asked sent fault
stopped_there p script limit natives asked plain injections given left sent fault other plans same is memory (inl silent) =
    subst (BreaksOff p script limit natives asked sent) (sym (is ∙ memory)) (inl silent)
stopped_there p script limit natives asked plain injections given left sent fault other plans same is memory (inr begun) =
    let there : Begun p script limit natives asked plain injections sent = subst (λ xs. Begun p script limit natives asked plain xs sent) same begun in
    subst (BreaksOff p script limit natives asked sent) (sym (is ∙ memory)) (inr (plain, injections, left, plans, there))

-- where a run that is told has not ended as expected, ends are judged
judged_so : (p : Image) (script : Script) (limit natives : ℕ) (asked : Exploration) (unexpected : ℕ) (sent : Sent) →
    Explored p script limit natives asked unexpected sent → sent.failed ≡ false → 0 < unexpected → is_judged asked.expected ≡ true
judged_so p script limit natives asked unexpected sent explored lives some = go explored.ends
  where
    go : Finished p script limit natives asked explored.plain explored.injections explored.left unexpected sent
        ⊎ ((sent.failed ≡ true) × Begun p script limit natives asked explored.plain explored.injections sent) → is_judged asked.expected ≡ true
    go (inl finished) = judges asked.expected (told_runs asked explored.plain finished.lasts) (subst (λ n. 0 < n) finished.judged some)
    go (inr cut) = let failed = cut.0 in absurd cc

module _ (bytes text : List ℕ) (limit natives : ℕ) (p : Image) (script : Script) (acceptable : IsAcceptable p)
    (well : AllRunWell p) (serialized : IsSerialized bytes p) (denotes : denoted text ≡ Ok script) (asked : Exploration) (out errors : Sent) where
  abbrev of_them : RunsSafely bytes text limit natives
  of_them = runs_of bytes text limit natives p script acceptable well serialized denotes

  -- one of them was not made, and that is told
  pub broken_off : (fault : Fault) (status : ExitStatus) →
      BreaksOff p script limit natives asked out fault → Reported fault status errors → AcceptedExplores bytes text limit natives asked out errors status
  broken_off (faults.Boot boots.TooFewNatives) status off reported =
      let accepts : Accepts bytes = record { image = p; serialized = serialized; acceptable = acceptable } in
      subst (AcceptedExplores bytes text limit natives asked out errors)
      (sym reported.0) (inr (record { silent = off.1; accepts = accepts; script = script; denotes = denotes; few = off.0; reports = reported.1 }))
  broken_off faults.Memory status off reported = subst (AcceptedExplores bytes text limit natives asked out errors) (sym reported.0) (wants_for_machine of_them off reported.1)
  broken_off _ status off reported = absurd off

  -- the output failed
  pub cut_off : (status : ExitStatus) (unexpected : ℕ) → HasNatives p natives → Explored p script limit natives asked unexpected out →
      out.failed ≡ true → Reported faults.Write status errors → AcceptedExplores bytes text limit natives asked out errors status
  cut_off status unexpected enough explored failed reported =
      subst (AcceptedExplores bytes text limit natives asked out errors) (sym reported.0) (fails of_them enough unexpected explored failed reported.1)

  explores_all : (unexpected : ℕ) → HasNatives p natives → Explored p script limit natives asked unexpected out → out.failed ≡ false → IsSilent errors →
      ExploresAll bytes text limit natives asked out errors unexpected
  explores_all unexpected enough all lives silent = record { runs = of_them; enough = enough; explored = all; lives = lives; silent = silent }

  pub explored : (unexpected : ℕ) → HasNatives p natives → Explored p script limit natives asked unexpected out → out.failed ≡ false → unexpected ≡ 0 →
      IsSilent errors → AcceptedExplores bytes text limit natives asked out errors statuses.Done
  explored unexpected enough all lives none silent =
      explores_all 0 enough (subst (λ n. Explored p script limit natives asked n out) none all) lives silent

  pub explored_otherwise : (unexpected : ℕ) → HasNatives p natives → Explored p script limit natives asked unexpected out → out.failed ≡ false →
      0 < unexpected → IsSilent errors → AcceptedExplores bytes text limit natives asked out errors statuses.Unfinished
  explored_otherwise unexpected enough all lives some silent =
      (judged_so p script limit natives asked unexpected out all lives some, (unexpected, some, explores_all unexpected enough all lives silent))

-- what a call has come to whose runs were told, or whose output failed
pub told_so : (bytes text : List ℕ) (limit natives : ℕ) (p : Image) (script : Script) → IsAcceptable p → AllRunWell p → IsSerialized bytes p →
    denoted text ≡ Ok script → (asked : Exploration) (out : Sent) (unexpected : ℕ) (found : Result ExitStatus Fault) → HasNatives p natives →
    Explored p script limit natives asked unexpected out → (out.failed ≡ true → found ≡ Err faults.Write) →
    (out.failed ≡ false → unexpected ≡ 0 → found ≡ Ok statuses.Done) → (out.failed ≡ false → 0 < unexpected → found ≡ Ok statuses.Unfinished) →
    Unreported (AcceptedExplores bytes text limit natives asked out) found
told_so bytes text limit natives p script acceptable well serialized denotes asked out unexpected found enough all failing none some =
    go out.failed unexpected refl refl
  where
    go : (failed : Bool) (n : ℕ) → out.failed ≡ failed → unexpected ≡ n → Unreported (AcceptedExplores bytes text limit natives asked out) found
    go true n is same = subst (Unreported (AcceptedExplores bytes text limit natives asked out)) (sym (failing is))
        (λ errors status reported. cut_off bytes text limit natives p script acceptable well serialized denotes asked out errors status unexpected enough all is reported)
    go false zero is same = subst (Unreported (AcceptedExplores bytes text limit natives asked out)) (sym (none is same))
        (λ errors silent. explored bytes text limit natives p script acceptable well serialized denotes asked out errors unexpected enough all is same silent)
    go false (suc n) is same =
        let more : 0 < unexpected = omega (arith, same) in
        subst (Unreported (AcceptedExplores bytes text limit natives asked out)) (sym (some is more))
        (λ errors silent. explored_otherwise bytes text limit natives p script acceptable well serialized denotes asked out errors unexpected enough all is more silent)

pub untried : (bytes text : List ℕ) (limit natives : ℕ) (asked : Exploration) (fault : ScriptFault) (line : Fault) (out errors : Sent) (status : ExitStatus) →
    Accepts bytes → RefusesOrWants text fault → IsSilent out
    → line ≡ of_script fault → Reported line status errors → AcceptedExplores bytes text limit natives asked out errors status
untried bytes text limit natives asked fault line out errors status accepts refuses silent is reported = unread (AcceptedExplores bytes
    text limit natives asked out errors) bytes text fault line out errors status accepts refuses silent is reported inl (wants_for_script silent accepts fault)

pub explores : (bytes text : List ℕ) (limit natives : ℕ) (asked : Exploration) (out errors : Sent) (status : ExitStatus) →
    AcceptedExplores bytes text limit natives asked out errors status → ExploreAnswersOf bytes text limit natives asked out errors status
explores bytes text limit natives asked out errors statuses.ImageRefused a = absurd a
explores bytes text limit natives asked out errors statuses.Fault a = inr a
explores bytes text limit natives asked out errors _ a = a

-- ---- bytes that are no accepted image

-- what is told of them is want of memory or why they are none
no_image : (bytes : List ℕ) (fault : Fault) → RefusesImage bytes fault →
    (fault ≡ faults.Memory) ⊎ (Refuses bytes fault × (status_of fault ≡ statuses.ImageRefused) × (fault ≡ faults.Memory → ⊥))
no_image bytes fault refuses = grind arith

-- so each status answers which is one of a refused image and of want of memory
pub turned : (answers : ExitStatus → Type 0) (bytes : List ℕ) (fault : Fault) (out errors : Sent) (status : ExitStatus) → RefusesImage bytes fault →
    ((p : Image) → IsSerialized bytes p → IsAcceptable p → fault ≡ faults.Memory) → IsSilent out → Reported fault status errors → ((refused : IsRefused bytes out
    errors) → refused.fault ≡ fault → answers statuses.ImageRefused) → (ImageWantsMemory out errors → answers statuses.Fault) → answers status
turned answers bytes fault out errors status refuses complete silent reported refused wants = go (no_image bytes fault refuses)
  where
    go : (fault ≡ faults.Memory) ⊎ (Refuses bytes fault × (status_of fault ≡ statuses.ImageRefused) × (fault ≡ faults.Memory → ⊥)) → answers status
    go (inl memory) = let is : Reported faults.Memory status errors = subst (λ f. Reported f status errors) memory reported in
        subst answers (sym is.0) (wants (record { silent = silent; reports = is.1 }))
    go (inr (why, is, other)) = subst answers (sym (reported.0 ∙ is))
        (refused (record { silent = silent; fault = fault; refuses = why; none = λ p serialized acceptable. other (complete p serialized acceptable); status = is; reports = reported.1 }) refl)

pub unaccepted : (reads : Line → List ℕ) (bytes text : List ℕ) (limit natives : ℕ) (fault : Fault) (out errors : Sent) (status : ExitStatus) →
    RefusesImage bytes fault → ((p : Image) → IsSerialized bytes p → IsAcceptable p → fault ≡ faults.Memory) → IsSilent out → Reported fault status errors →
    RunAnswersBy reads bytes text limit natives out errors status
unaccepted reads bytes text limit natives fault out errors status refuses complete silent reported = grind arith

pub unchecked : (bytes : List ℕ) (fault : Fault) (out errors : Sent) (status : ExitStatus) → RefusesImage bytes fault →
    ((p : Image) → IsSerialized bytes p → IsAcceptable p → fault ≡ faults.Memory) → IsSilent out → Reported fault status errors → CheckAnswers bytes out errors status
unchecked bytes fault out errors status refuses complete silent reported = grind (arith, nat_tests, turned)

-- ---- an accepted image

-- what is answered of an accepted image is an answer
pub accepted : (reads : Line → List ℕ) (bytes text : List ℕ) (limit natives : ℕ) (out errors : Sent) (status : ExitStatus) →
    AcceptedAnswers reads bytes text limit natives out errors status → RunAnswersBy reads bytes text limit natives out errors status
accepted reads bytes text limit natives out errors statuses.ImageRefused answers = absurd answers
accepted reads bytes text limit natives out errors statuses.Fault answers = inr answers
accepted reads bytes text limit natives out errors _ answers = answers
