-- Lines of runs into which faults are injected, one after the other.
use Rattle.std.proofs.lemmas.Bool.Decides.{nat_tests}
use Rattle.std.proofs.Common.{◌≡◌, ◌<◌, ◌≤◌, ℕ, suc, ◌+◌, ◌-◌, ◌||◌, Bool, false, true, List, [], ◌∷◌, ◌++◌, Option, Some, length, map, option_map, take, get_or}
use Rattle.std.proofs.Common.{refl, sym, ap, subst, ◌∙◌, arith, inl, inr, cond}
use Rattle.std.specs.Prelude.{◌⊎◌, IfOk, Result, codes, if◌then◌else◌}
use Rattle.std.proofs.Math.Seq.{take-append_seam, take-suc}
use Rattle.std.proofs.lemmas.List.{append-nil, append_assoc, length-append, length-map, map-append, take_all}
use Rattle.std.proofs.lemmas.List.Sums.{count_by-le-length, sum_by_push}
use Rattle.std.proofs.lemmas.Grind.{fold-append}
use Rattle.aom_image.specs.Image.{Image}
use Rattle.aom_semantics.specs.Places.{count_cells}
use Rattle.aom_semantics.specs.State.{State}
use Rattle.aom_semantics.specs.World.{Environment, Run_of, boot_state}
use Rattle.aom_transcript.specs.declared.line.Ending.{Ending}
use Rattle.aom_transcript.specs.declared.line.Line.{Line}
use Rattle.aom_transcript.specs.Text.{line_text}
use Rattle.aom_run.specs.Calls.{RefinesWithNatives, natives_of}
use Rattle.aom_run.specs.declared.machine.HostedMachine.{HostedMachine}
use Rattle.aom_run.specs.Outcomes.{outcome_of}
use Rattle.aom_transcript.specs.declared.event.TimedEvent.{TimedEvent}
use Rattle.aom_run.specs.Runs.{IsFresh, Ran, Reported}
use Rattle.aom_transcript.specs.Sinks.{after}
use Rattle.aom_run.specs.declared.outcome.Outcome.{Outcome}
use Rattle.aom_script.specs.Script.{Script}
use Rattle.aom_commands.proofs.TranscriptLemmas.{after_both, after_none, cut_next}
use Rattle.aom_transcript.specs.Text.{ended, transcript}
use Rattle.aom_fault_injection.specs.Expected.{Exploration, is_judged, is_unexpected}
use Rattle.aom_fault_injection.specs.Planned.{clients_among, deaths_of, marks_times, natives_among, pairs_of, part_of, planned, some_pairs, unplanned}
use Rattle.aom_fault_injection.specs.declared.expected.ExpectedEnding.{ExpectedEnding}
use Rattle.aom_fault_injection.specs.OutcomeTables.{OutcomeCounts, counted, nothing_counted, outcome_counts_of}
use Rattle.aom_fault_injection.specs.declared.injection.Injection.{Injection}
use Rattle.aom_fault_injection.specs.declared.injection.Injection.TheVariants.{Refusal}
use Rattle.aom_fault_injection.specs.declared.tries.Tries.{Tries}
use Rattle.aom_commands.specs.Explored.{Begun, EachTried, Explored, Finished, HasPlain, IsLast, Plans, Tried, TriesAll}
use Rattle.aom_commands.specs.Explored.{base_line, closing, kept_text, outcomes_of, run_line, told_runs, unexpected_among}
use Rattle.aom_commands.specs.Explored.EachTried.{and_one, none}
use Rattle.aom_commands.specs.Headline.{HasNatives, RefusesBoot, Says, Sent, outside_of}
use Rattle.aom_commands.specs.declared.exploring.RunEnd.{RunEnd}
use Rattle.aom_commands.specs.declared.exploring.Told.{Told}
use Rattle.aom_commands.specs.declared.faults.Fault.{Fault}
use Rattle.aom_commands.specs.declared.faults.Fault.TheVariants as faults

-- ---- texts, one behind the other

-- a text more went out behind one
pub says_on : (text more : List ℕ) (mid sent : Sent) → Says text mid →
    mid.failed ≡ false → mid.before ≡ sent.before → Says more (record { before = mid.now; now = sent.now; failed = sent.failed }) → Says (text ++ more) sent
says_on text more mid sent said lives same says =
    let out : mid.now ≡ after sent.before text = said.whole lives ∙ ap (λ o. after o text) same in
    record {
      count = length text + says.count;
      part = says.part ∙ ap (λ o. after o (take says.count more)) out ∙ cut_next sent.before text more says.count;
      whole = λ well. says.whole well ∙ ap (λ o. after o more) out ∙ after_both sent.before text more;
    }

-- nothing more did
pub says_still : (text : List ℕ) (mid sent : Sent) → Says text mid → mid.before ≡ sent.before → mid.now ≡ sent.now → mid.failed ≡ sent.failed → Says text sent
says_still text mid sent said before now failed = record {
  count = said.count;
  part = sym now ∙ said.part ∙ ap (λ o. after o (take said.count text)) before;
  whole = λ well. sym now ∙ said.whole (failed ∙ well) ∙ ap (λ o. after o text) before;
}

pub says_nothing : (sent : Sent) → sent.now ≡ sent.before → Says [] sent
says_nothing sent same = record { count = 0; part = same ∙ after_none sent.before; whole = λ lives. same ∙ after_none sent.before }

-- a line without its line feed
pub without_feed : (text : List ℕ) → take (length (ended text) - 1) (ended text) ≡ text
without_feed text =
    let long : length (text ++ 10 ∷ []) ≡ length text + 1 = length-append text (10 ∷ []) in
    let cut : length (text ++ 10 ∷ []) - 1 ≡ length text = omega (arith, long) in
    ap (λ n. take n (ended text)) cut ∙ take-append_seam text (10 ∷ [])

pub has_feed : (line text : List ℕ) → line ≡ ended text → 1 ≤ length line
has_feed line text is =
    let long : length (text ++ 10 ∷ []) ≡ length text + 1 = length-append text (10 ∷ []) in
    let one : 1 ≤ length (text ++ 10 ∷ []) = omega (arith, long) in
    subst (λ (t : List ℕ). 1 ≤ length t) (sym is) one

-- ---- runs that are told, one after the other

-- that of the script as it is, where it is told
pub base_told : {A E : Type 0} (asked : Exploration) (plain : RunEnd) (sent : Sent) (result : Result A E) → asked.base ≡ true →
    IfOk result (λ _. Says (run_line asked.expected (codes "as it is") plain) sent) → IfOk result (λ _. Says (base_line asked plain) sent)
base_told asked plain sent result is says =
    subst (λ (b : Bool). IfOk result (λ _. Says (if b then run_line asked.expected (codes "as it is") plain else []) sent)) (sym is) says

pub base_counted : {E : Type 0} (asked : Exploration) (plain : RunEnd) (result : Result Told E) → asked.base ≡ true →
    IfOk result (λ told. told.outcome_counts ≡ outcomes_of (plain ∷ [])) → IfOk result (λ told. told.outcome_counts ≡ outcomes_of (told_runs asked plain []))
base_counted asked plain result is counts =
    subst (λ (b : Bool). IfOk result (λ told. told.outcome_counts ≡ outcomes_of (if b then plain ∷ [] else []))) (sym is) counts

pub base_judged : {E : Type 0} (asked : Exploration) (plain : RunEnd) (result : Result Told E) → asked.base ≡ true →
    IfOk result (λ told. told.unexpected ≡ unexpected_among asked.expected (plain ∷ [])) →
    IfOk result (λ told. told.unexpected ≡ unexpected_among asked.expected (told_runs asked plain []))
base_judged asked plain result is judged =
    subst (λ (b : Bool). IfOk result (λ told. told.unexpected ≡ unexpected_among asked.expected (if b then plain ∷ [] else []))) (sym is) judged

-- and where it is not
pub untold_base : (asked : Exploration) (plain : RunEnd) (sent : Sent) → asked.base ≡ false → sent.now ≡ sent.before → Says (base_line asked plain) sent
untold_base asked plain sent is same =
    subst (λ (b : Bool). Says (if b then run_line asked.expected (codes "as it is") plain else []) sent) (sym is) (says_nothing sent same)

pub unbased_counts : (asked : Exploration) (plain : RunEnd) (outcome_counts : OutcomeCounts) → asked.base ≡ false → outcome_counts ≡ nothing_counted →
    outcome_counts ≡ outcomes_of (told_runs asked plain [])
unbased_counts asked plain outcome_counts is nothing =
    subst (λ (b : Bool). outcome_counts ≡ outcomes_of (if b then plain ∷ [] else [])) (sym is) nothing

pub unbased_judged : (asked : Exploration) (plain : RunEnd) (unexpected : ℕ) → asked.base ≡ false → unexpected ≡ 0 →
    unexpected ≡ unexpected_among asked.expected (told_runs asked plain [])
unbased_judged asked plain unexpected is nothing =
    subst (λ (b : Bool). unexpected ≡ unexpected_among asked.expected (if b then plain ∷ [] else [])) (sym is) nothing

-- where no end is expected all are
none_unexpected : (lasts : List RunEnd) → unexpected_among [] lasts ≡ 0
none_unexpected [] = refl
none_unexpected (last ∷ lasts) = none_unexpected lasts

-- one that is not is one of a run that is judged
pub judges : (expected : List ExpectedEnding) (lasts : List RunEnd) → 0 < unexpected_among expected lasts → is_judged expected ≡ true
judges [] lasts some = let nothing = none_unexpected lasts in absurd (omega (arith, some, nothing))
judges (one ∷ others) lasts some = grind (arith, nat_tests)

counts_one : (outcome_counts : OutcomeCounts) (ending : Ending) → (counted outcome_counts ending).tries ≡ outcome_counts.tries + 1
counts_one outcome_counts x = grind arith

outcomes_more : (lasts : List RunEnd) (last : RunEnd) → outcomes_of (lasts ++ last ∷ []) ≡ counted (outcomes_of lasts) last.ending
outcomes_more lasts last =
    let ending : RunEnd → Ending = λ l. l.ending in
    ap outcome_counts_of (map-append ending lasts (last ∷ [])) ∙ fold-append counted nothing_counted (map ending lasts) (last.ending ∷ [])

unexpected_more : (expected : List ExpectedEnding) (lasts : List RunEnd) (last : RunEnd) →
    unexpected_among expected (lasts ++ last ∷ []) ≡ unexpected_among expected lasts + cond (is_unexpected expected last.ending last.cells) 1 0
unexpected_more expected lasts last = sum_by_push (λ (l : RunEnd). cond (is_unexpected expected l.ending l.cells) 1 0) lasts last

at_most_one : (b : Bool) → cond {A = ℕ} b 1 0 ≤ 1
at_most_one true = omega arith
at_most_one false = omega arith

module _ (p : Image) (script : Script) (limit natives : ℕ) (asked : Exploration) (plain : RunEnd) (injections : List Injection) where
  -- the first so many were tried, and how the runs that are told ended is counted
  pub record SoFar (place : ℕ) (outcome_counts : OutcomeCounts) (unexpected : ℕ) (sent : Sent) : Type 0 where
    pub lasts : List RunEnd
    pub text : List ℕ
    pub tried : EachTried p script limit natives asked.expected (take place injections) lasts text
    pub says : Says (base_line asked plain ++ text) sent
    pub counts : outcome_counts ≡ outcomes_of (told_runs asked plain lasts)
    pub judged : unexpected ≡ unexpected_among asked.expected (told_runs asked plain lasts)
    pub many : outcome_counts.tries ≤ place + 1
    pub few : unexpected ≤ outcome_counts.tries

  -- before the tries there is the run as it is, or none
  one_told : (outcomes_of (plain ∷ [])).tries ≡ 1
  one_told = counts_one nothing_counted plain.ending

  tries_first : (b : Bool) → (outcomes_of (if b then plain ∷ [] else [])).tries ≤ 1
  tries_first true = subst (λ n. n ≤ 1) (sym one_told) (omega arith)
  tries_first false = let least : 0 ≤ 1 = omega arith in least

  few_first : (b : Bool) → unexpected_among asked.expected (if b then plain ∷ [] else []) ≤ (outcomes_of (if b then plain ∷ [] else [])).tries
  few_first true = subst (λ n. unexpected_among asked.expected (plain ∷ []) ≤ n) (sym one_told)
      (count_by-le-length (λ (l : RunEnd). is_unexpected asked.expected l.ending l.cells) (plain ∷ []))
  few_first false = let least : 0 ≤ 0 = omega arith in least

  pub start : (outcome_counts : OutcomeCounts) (unexpected : ℕ) (sent : Sent) → outcome_counts ≡ outcomes_of (told_runs asked plain []) →
      unexpected ≡ unexpected_among asked.expected (told_runs asked plain []) → Says (base_line asked plain) sent → SoFar 0 outcome_counts unexpected sent
  start outcome_counts unexpected sent counts judged says = record {
    lasts = [];
    text = [];
    tried = none;
    says = subst (λ t. Says t sent) (sym (append-nil (base_line asked plain))) says;
    counts = counts;
    judged = judged;
    many = subst (λ (t : OutcomeCounts). t.tries ≤ 1) (sym counts) (tries_first asked.base);
    few = subst (λ n. n ≤ outcome_counts.tries) (sym judged)
        (subst (λ (t : OutcomeCounts). unexpected_among asked.expected (told_runs asked plain []) ≤ t.tries) (sym counts) (few_first asked.base));
  }

  -- the runs that are told, with one try more
  told_more : (b : Bool) (lasts : List RunEnd) (last : RunEnd) →
      (if b then plain ∷ (lasts ++ last ∷ []) else lasts ++ last ∷ []) ≡ (if b then plain ∷ lasts else lasts) ++ last ∷ []
  told_more true lasts last = refl
  told_more false lasts last = refl

  -- one more was
  pub one_more : (place : ℕ) (old new : OutcomeCounts) (before after : ℕ) (mid sent : Sent) (injection other : Injection) (last : RunEnd) (line : List ℕ) →
      place < length injections → injection ≡ get_or injections place other → SoFar place old before mid → mid.failed ≡ false → mid.before ≡ sent.before →
      Tried p script limit natives asked.expected injection last line → Says line (record { before = mid.now; now = sent.now; failed = sent.failed }) →
      new ≡ counted old last.ending → after ≡ before + cond (is_unexpected asked.expected last.ending last.cells) 1 0 → SoFar (place + 1) new after sent
  one_more place old new before after mid sent injection other last line within is far lives same tried says counts judged =
      let more : place + 1 ≡ suc place = omega arith in
      let next : take (place + 1) injections ≡ take place injections ++ injection ∷ [] =
      ap (λ n. take n injections) more ∙ take-suc injections place other within ∙ ap (λ x. take place injections ++ x ∷ []) (sym is) in
      let told = told_runs asked plain far.lasts in
      let grown = told_more asked.base far.lasts last in
      let tries : new.tries ≡ old.tries + 1 = ap (λ (t : OutcomeCounts). t.tries) counts ∙ counts_one old last.ending in
      let most = at_most_one (is_unexpected asked.expected last.ending last.cells) in
      let many = far.many in
      let few = far.few in
      record {
        lasts = far.lasts ++ last ∷ [];
        text = far.text ++ line;
        tried = subst (λ xs. EachTried p script limit natives asked.expected xs (far.lasts ++ last ∷ []) (far.text ++ line)) (sym next)
            (and_one injection last line far.tried tried);
        says = subst (λ t. Says t sent) (append_assoc (base_line asked plain) far.text line)
            (says_on (base_line asked plain ++ far.text) line mid sent far.says lives same says);
        counts = counts ∙ ap (λ t. counted t last.ending) far.counts ∙ sym (outcomes_more told last) ∙ ap outcomes_of (sym grown);
        judged = judged ∙ ap (λ n. n + cond (is_unexpected asked.expected last.ending last.cells) 1 0) far.judged ∙ sym (unexpected_more asked.expected told last)
            ∙ ap (unexpected_among asked.expected) (sym grown);
        many = omega (arith, tries, many);
        few = omega (arith, tries, few, most, judged);
      }

  abbrev pub begun : (place : ℕ) (outcome_counts : OutcomeCounts) (unexpected : ℕ) (sent : Sent) → SoFar place outcome_counts unexpected sent →
      Begun p script limit natives asked plain injections sent
  begun place outcome_counts unexpected sent far = record { count = place; lasts = far.lasts; text = far.text; tried = far.tried; says = far.says }

  -- nothing more went out
  pub begun_still : (place : ℕ) (outcome_counts : OutcomeCounts) (unexpected : ℕ) (mid sent : Sent) → SoFar place outcome_counts unexpected mid →
      mid.before ≡ sent.before → sent.now ≡ mid.now → sent.failed ≡ mid.failed → Begun p script limit natives asked plain injections sent
  begun_still place outcome_counts unexpected mid sent far same now failed = record {
    count = place;
    lasts = far.lasts;
    text = far.text;
    tried = far.tried;
    says = says_still (base_line asked plain ++ far.text) mid sent far.says same (sym now) (sym failed);
  }

  pub all_tried : (place : ℕ) (outcome_counts : OutcomeCounts) (unexpected : ℕ) (sent : Sent) → SoFar place outcome_counts unexpected sent →
      (sent.failed ≡ false → length injections ≤ place) → TriesAll p script limit natives asked plain injections outcome_counts unexpected sent
  all_tried place outcome_counts unexpected sent far all = record {
    begun = begun place outcome_counts unexpected sent far;
    counts = far.counts;
    judged = far.judged;
    all = λ lives. take_all place injections (all lives);
  }

-- ---- what is tried, by the run as it is

none_die : (times : List ℕ) → deaths_of times [] ≡ []
none_die [] = refl
none_die (time ∷ times) = none_die times

-- where nobody dies the times do not matter
same_deaths : (kills deaths : Bool) (natives : ℕ) (timed : List TimedEvent) (times others : List ℕ) → (kills || deaths ≡ true → times ≡ others)
    → deaths_of times (natives_among kills natives ++ clients_among deaths timed) ≡ deaths_of others (natives_among kills natives ++ clients_among deaths timed)
same_deaths x deaths natives timed times others same = grind (arith, none_die times, none_die others)

pub plans : (p : Image) (script : Script) (limit natives : ℕ) (tries : Tries) (plain : RunEnd) (times : List ℕ)
    (injections : List Injection) (left : Option Injection) → HasPlain p (outside_of script limit natives) (marks_times tries) plain times →
    injections ≡ planned tries natives script.timed plain.requests times → left ≡ unplanned tries plain.requests →
    Plans p script limit natives tries plain injections left
plans p script limit natives tries plain times injections left has is left_is =
    let refusals = λ (n : ℕ). map Refusal (part_of tries.part n) in
    let pairs = λ (n : ℕ). some_pairs tries.pairs (pairs_of tries.part n) in
    record {
      text = has.text;
      is = has.is;
      injections_are = grind (arith, same_deaths tries.kills tries.deaths natives script.timed times);
      left_is = left_is;
    }

-- ---- all of it

-- the closing lines went out behind the others, unless the sink had failed
pub explored_so : (p : Image) (script : Script) (limit natives : ℕ) (asked : Exploration) (plain : RunEnd) (injections : List Injection) (left : Option Injection)
    (outcome_counts : OutcomeCounts) (unexpected : ℕ) (mid sent : Sent) → Plans p script limit natives asked.tries plain injections left →
    TriesAll p script limit natives asked plain injections outcome_counts unexpected mid → mid.before ≡ sent.before →
    (mid.failed ≡ false → Says (closing asked left outcome_counts unexpected) (record { before = mid.now; now = sent.now; failed = sent.failed })) →
    (mid.failed ≡ true → (sent.now ≡ mid.now) × (sent.failed ≡ true)) → Explored p script limit natives asked unexpected sent
explored_so p script limit natives asked plain injections left outcome_counts unexpected mid sent plans all same says stays =
    record { plain = plain; injections = injections; left = left; plans = plans; ends = go mid.failed refl }
  where
    go : (failed : Bool) → mid.failed ≡ failed →
        Finished p script limit natives asked plain injections left unexpected sent ⊎ ((sent.failed ≡ true) × Begun p script limit natives asked plain injections sent)
    go false lives =
        let b = all.begun in
        let lines = base_line asked plain ++ b.text in
        inl (record {
          lasts = b.lasts;
          text = b.text;
          tried = subst (λ xs. EachTried p script limit natives asked.expected xs b.lasts b.text) (all.all lives) b.tried;
          judged = all.judged;
          says = subst (λ (c : OutcomeCounts). Says (lines ++ closing asked left c unexpected) sent) all.counts
              (says_on lines (closing asked left outcome_counts unexpected) mid sent b.says lives same (says lives));
        })
    go true fails =
        let b = all.begun in
        let still = stays fails in
        inr (
          still.1,
          record {
            count = b.count;
            lasts = b.lasts;
            text = b.text;
            tried = b.tried;
            says = says_still (base_line asked plain ++ b.text) mid sent b.says same (sym still.0) (fails ∙ sym still.1);
          },
        )

-- ---- a run to its end

module _ {X : Type 0} {B : X → Type 0} where
  reported_of : {reads : Line → List ℕ} (m new : HostedMachine X B) (outside : Environment) (ending : Ending) (failed : Bool) (before now : Option (List ℕ)) →
      Ran reads m outside (outcome_of ending) failed before now new → Reported reads m.core.image outside ending before now new
  reported_of m new outside x failed before now ran = grind arith

  -- how it ended, with how many cells and after how many requests, the machine tells; its transcript went out
  pub last_so : (p : Image) (m new : HostedMachine X B) (outside : Environment) (outcome : Outcome)
      (ending : Ending) (failed : Bool) (before now : Option (List ℕ)) (cells requests : ℕ) → m.core.image ≡ p → outcome ≡ outcome_of ending →
      Ran line_text m outside outcome failed before now new → ((s : State) → RefinesWithNatives new s → (cells ≡ count_cells s.cells) × (requests ≡ s.rest.requests)) →
      (text : List ℕ) × IsLast p outside (record { ending = ending; cells = cells; requests = requests }) text × (now ≡ after before text)
  last_so p m new outside outcome ending failed before now cells requests image is ran reports =
      let reported = reported_of m new outside ending failed before now (subst (λ o. Ran line_text m outside o failed before now new) is ran) in (
        transcript reported.lines ending (count_cells reported.state.cells),
        record {
          lines = reported.lines;
          state = reported.state;
          run = subst (λ q. Run_of q outside reported.lines reported.state ending) image reported.run;
          cells = (reports reported.state reported.stands).0;
          requests = (reports reported.state reported.stands).1;
          text_is = refl;
        },
        reported.out,
      )

-- what is kept, where it is
pub kept_so : (keeps : Bool) (text other : List ℕ) → kept_text keeps text ≡ Some other → text ≡ other
kept_so x text other is = grind arith

-- ---- a machine that has booted

-- it has as many natives as boxes were given to it
pub given_all : {L B : Type 0} (native : L → B) (slots : List (Option L)) (boxes : List B) → map (option_map native) slots ≡ map (λ b. Some b) boxes →
    length slots ≡ length boxes
given_all {L} {B} native slots boxes same = grind (arith, nat_tests, length-map)

-- a machine that has not run is fresh
pub fresh_so : {X : Type 0} {B : X → Type 0} (p : Image) (m : HostedMachine X B) → m.core.image ≡ p → RefinesWithNatives m (boot_state p) → IsFresh m
fresh_so p m image stands = subst (λ q. RefinesWithNatives m (boot_state q)) (sym image) stands

-- and has as many natives as its image names
pub has_enough : {X : Type 0} {B : X → Type 0} (p : Image) (m : HostedMachine X B) (natives : ℕ) → m.core.image ≡ p → natives_of m ≡ natives →
    RefinesWithNatives m (boot_state p) → HasNatives p natives
has_enough p m natives image count stands = grind (arith, nat_tests)

-- want of memory is told of a machine that has them
pub wants_memory : (p : Image) (natives : ℕ) (fault : Fault) → fault ≡ faults.Memory → HasNatives p natives → RefusesBoot p natives fault
wants_memory p natives fault is enough = rw is enough

-- why a machine does not boot beside as many
pub refuses_same : (p : Image) (natives same : ℕ) (fault : Fault) → natives ≡ same → RefusesBoot p natives fault → RefusesBoot p same fault
refuses_same p natives same fault is refuses = subst (λ n. RefusesBoot p n fault) is refuses
