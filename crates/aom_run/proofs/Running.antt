-- A run, some steps of the machine after others.
use Rattle.std.proofs.lemmas.Bool.Decides.{nat_tests}
use Rattle.std.proofs.Common.{◌≡◌, ◌≢◌, ◌≤◌, ◌-◌, ◌^◌, ℕ, min, ◌+◌, append-nil, Bool, true, List, [], ◌++◌, Option, Some, None, length, take, refl, sym, ap}
use Rattle.std.proofs.Common.{subst, suc, ◌<◌, ◌∷◌, ◌∙◌, inl, inr, append_assoc, arith, IfNone}
use Rattle.std.proofs.Math.Nat.{mul-le-mul_right, suc-mul}
use Rattle.std.specs.Prelude.{◌⊎◌, ◌*◌, is_some}
use Rattle.aom_image.specs.Image.{Image}
use Rattle.aom_semantics.specs.Places.{count_cells}
use Rattle.aom_semantics.specs.State.{State, Task}
use Rattle.aom_semantics.specs.World.{boot_state, IsBetween, Reaches, begins, Environment}
use Rattle.aom_transcript.specs.declared.event.TimedEvent.{TimedEvent}
use Rattle.aom_transcript.specs.declared.line.Line.{Line}
use Rattle.aom_transcript.specs.declared.line.Ending.{Ending}
use Rattle.aom_machine_state.specs.LineBuffer.{LineBuffer}
use Rattle.aom_transcript.specs.Text.{ended, end_text, line_text}
use Rattle.aom_transcript.specs.Naming.{text_by, transcript_by}
use Rattle.aom_run.specs.declared.outcome.Outcome.{Outcome}
use Rattle.aom_run.specs.declared.outcome.Outcome.TheVariants.{WriteFault}
use Rattle.aom_machine_state.specs.declared.progress.Progress.{Progress}
use Rattle.aom_machine_state.specs.declared.progress.Progress.TheVariants as progresses
use Rattle.aom_machine.specs.Steps.{progress as reached}
use Rattle.aom_run.specs.Calls.{Stands, RefinesWithNatives, natives_of}
use Rattle.aom_run.specs.declared.machine.HostedMachine.{HostedMachine}
use Rattle.aom_frames.specs.declared.task.Task.{Task as Machine_task}
use Rattle.aom_termination.specs.BudgetOwners.{budget_owner}
use Rattle.aom_machine_state.specs.Progress.{progress_by, progress_of}
use Rattle.aom_run.specs.Outcomes.{outcome_of}
use Rattle.aom_run.proofs.MachineLemmas.{is_as_far}
use Rattle.aom_run.specs.Runs.{CutOff, Ended, Moving, Sent, Reported, CutShort, Ran}
use Rattle.aom_transcript.specs.Sinks.{after}
use Rattle.aom_run.proofs.DeterminismLemmas.{runs_can_end}
use Rattle.aom_determinism.specs.Endings.{CanEnd, one_where}
use Rattle.aom_run.specs.Turns.{TakesTurns, observing, to_come}
use Rattle.aom_run.proofs.Spared.{idle_stays, moving_spares}
use Rattle.aom_run.proofs.Reaching.{reaches_both, reaches_then}
use Rattle.aom_run.proofs.TranscriptLemmas.{cut_short, after_both, after_none, text_by_both, cut_next}

-- the beginning of the lines of a run is one of its transcript
cut_of : (reads : Line → List ℕ) (p : Image) (outside : Environment) (before now : Option (List ℕ)) (lines : List Line) →
    CanEnd p outside lines → (n : ℕ) → now ≡ after before (take n (text_by reads lines)) → CutShort reads p outside before now
cut_of reads p outside before now lines all n out =
    let rest = text_by reads all.more ++ ended (end_text all.ending (count_cells all.last.cells)) in
    let whole : transcript_by reads (lines ++ all.more) all.ending (count_cells all.last.cells) ≡ text_by reads lines ++ rest =
    ap (λ t. t ++ ended (end_text all.ending (count_cells all.last.cells))) (text_by_both _ lines all.more) ∙ append_assoc _ (text_by reads all.more) _ in
    let short = cut_short n (text_by reads lines) rest in
    record {
      lines = lines ++ all.more;
      state = all.last;
      ending = all.ending;
      run = all.run;
      sent = min n (length (text_by reads lines));
      out = out ∙ ap (after before) (short ∙ ap (take (min n (length (text_by reads lines)))) (sym whole));
    }

ended_by : (ended : Option Ending) (tasks : List Task) (ending : Ending) → progress_by ended tasks ≡ progresses.Ended ending → ended ≡ Some ending
ended_by x tasks ending is = grind arith

pub turned_now : (progress : Progress) → progress ≢ progresses.Running → ((ending : Ending) → progress ≡ progresses.Ended ending → ⊥) → progress ≡ progresses.Turned
turned_now x not_running not_ended = grind arith

-- ---- how often an object may be dispatched yet

abbrev rounds_by : ℕ → Option Ending → ℕ
rounds_by spare None = suc spare
rounds_by spare (Some ending) = 0

still_open : (ended : Option Ending) (tasks : List Machine_task) → progress_by ended tasks ≡ progresses.Turned → ended ≡ None
still_open ended tasks is = grind arith

nothing_left : (tasks : List Task) → progress_by None tasks ≢ progresses.Running → tasks ≡ []
nothing_left [] rests = refl
nothing_left (t ∷ ts) rests = absurd (rests refl)

-- one less of the first is less, whatever there is of the second
pub lower : (a b c d k : ℕ) → a < b → c ≤ k → a * suc k + c < b * suc k + d
lower a b c d k less most = grind (arith, nat_tests, mul-le-mul_right, suc-mul a)

-- what is said of a run that was given up
pub given_up : {A : Type 0} {X : Type 0} (r : Option A) → X → IfNone r X
given_up x y = grind arith

same_outcome : (d e : Ending) → outcome_of d ≡ outcome_of e → d ≡ e
same_outcome d e is = grind arith

module _ {X : Type 0} {B : X → Type 0} where
  -- the machine stands for a state that a run comes to; all its lines are out but the last, which are told and not out yet
  pub record SoFar (reads : Line → List ℕ) (p : Image) (outside : Environment) (before now : Option (List ℕ)) (reported : List Line) (m : HostedMachine X B) : Type 0 where
    pub lines : List Line
    pub state : State
    pub reaches : Reaches p outside (boot_state p) (lines ++ reported) state
    pub stands : RefinesWithNatives m state
    pub out : now ≡ after before (text_by reads lines)

  pub starts : {reads : Line → List ℕ} (outside : Environment) (out : Option (List ℕ)) (m : HostedMachine X B) (reported : List Line) →
      reported ≡ [] → RefinesWithNatives m (boot_state m.core.image) → SoFar reads m.core.image outside out out reported m
  starts {reads} outside out m reported none fresh = record {
    lines = [];
    state = boot_state _;
    reaches = subst (λ ls. Reaches m.core.image outside (boot_state m.core.image) ls (boot_state m.core.image)) (sym none) begins;
    stands = fresh;
    out = after_none out;
  }

  -- a run that has come to a state that the machine stands for can be brought to an end
  completed : (p : Image) (outside : Environment) → outside.limit ≤ 2 ^ 64 - 1 →
      (lines : List Line) (s : State) (m : HostedMachine X B) → m.core.image ≡ p → Reaches p outside (boot_state p) lines s → RefinesWithNatives m s → CanEnd p outside lines
  completed p outside few lines s m image r stands = grind (arith, nat_tests, lines, runs_can_end)

  -- ---- a run goes on

  module _ {reads : Line → List ℕ} (p : Image) (outside : Environment) (before mid now : Option (List ℕ))
      (m new : HostedMachine X B) (reported buffer : LineBuffer) (far : SoFar reads p outside before mid reported.lines m) (image : m.core.image ≡ p) where
    module _ (same : reported.refused ≡ outside.refused) where
      more : (lines : List Line) (u : State) → Moving m.core.image reported.refused far.state lines u →
          Reaches p outside (boot_state p) ((far.lines ++ reported.lines) ++ lines) u
      more lines u moving = grind (arith, nat_tests, reaches_then, lines)

      text : (lines : List Line) → text_by reads far.lines ++ text_by reads (reported.lines ++ lines) ≡ text_by reads ((far.lines ++ reported.lines) ++ lines)
      text lines = sym (text_by_both reads far.lines (reported.lines ++ lines)) ∙ ap (text_by reads) (sym (append_assoc far.lines reported.lines lines))

      -- all that was told is out, and more
      pub sent_on : (progress : Progress) → Sent reads m progress reported buffer mid now new → SoFar reads p outside before now buffer.lines new
      sent_on progress sent =
          let x = sent far.state far.stands in
          let none : buffer.lines ≡ [] = ap (λ (t : LineBuffer). t.lines) x.3 in
          let lines = (far.lines ++ reported.lines) ++ x.0 in
          record {
            lines = lines;
            state = x.1;
            reaches = subst (λ ls. Reaches p outside (boot_state p) (lines ++ ls) x.1) (sym none)
                (subst (λ ls. Reaches p outside (boot_state p) ls x.1) (sym (append-nil lines)) (more x.0 x.1 x.2));
            stands = x.7;
            out = grind (arith, nat_tests, after_both before, text x.0);
          }

      -- the sink failed
      pub cut : outside.limit ≤ 2 ^ 64 - 1 → new.core.image ≡ p → CutOff reads m reported mid now new → CutShort reads p outside before now
      cut few again cut_off =
          let x = cut_off far.state far.stands in
          let b = text_by reads (reported.lines ++ x.0) in
          let all = completed p outside few ((far.lines ++ reported.lines) ++ x.0) x.1 new again (more x.0 x.1 x.2) x.4 in
          cut_of reads p outside before now ((far.lines ++ reported.lines) ++ x.0) all (length (text_by reads far.lines) + x.3.0)
          (x.3.1 ∙ ap (λ o. after o (take x.3.0 b)) far.out ∙ cut_next before (text_by reads far.lines) b x.3.0
          ∙ ap (λ t. after before (take (length (text_by reads far.lines) + x.3.0) t)) (text x.0))

    -- turns
    module _ (none : reported.lines ≡ []) where
      bare : (lines : List Line) (u : State) → Reaches m.core.image outside far.state lines u → Reaches p outside (boot_state p) (far.lines ++ lines) u
      bare lines u turns = reaches_both p outside (boot_state p) far.lines far.state lines u
          (subst (λ ls. Reaches p outside (boot_state p) ls far.state) (append-nil far.lines) (grind arith))
          (subst (λ q. Reaches q outside far.state lines u) image turns)

      pub turned_on : TakesTurns m outside None reported buffer new → SoFar reads p outside before mid buffer.lines new
      turned_on takes =
          let x = takes far.state far.stands in
          let is : buffer.lines ≡ x.0 = ap (λ (t : LineBuffer). t.lines) x.3 ∙ ap (λ ls. ls ++ x.0) none in
          record { lines = far.lines; state = x.1; reaches = grind (arith, nat_tests, bare x.0 x.1 x.2); stands = x.5; out = far.out }

      pub turned_end : (ending : Ending) → TakesTurns m outside (Some ending) reported buffer new → Ended reads p outside ending before mid new
      turned_end ending takes =
          let x = takes far.state far.stands in
          let silent : far.lines ++ x.0 ≡ far.lines = ap (λ ls. far.lines ++ ls) x.4.0 ∙ append-nil far.lines in
          record { lines = far.lines; state = x.1; run = record { reaches = grind (arith, bare); ended = x.4.1 }; stands = x.5; out = far.out }

      -- the run is over
      pub ends : (ending : Ending) → progresses.Ended ending ≡ reached m.core → Ended reads p outside ending before mid m
      ends ending is = record {
        lines = far.lines;
        state = far.state;
        run = record {
          reaches = subst (λ ls. Reaches p outside (boot_state p) ls far.state) (append-nil far.lines) (grind arith);
          ended = ended_by far.state.rest.ended far.state.tasks ending (sym (is_as_far m.core far.state far.stands.stands) ∙ sym is);
        };
        stands = far.stands;
        out = far.out;
      }

  -- what a dispatch leaves
  module _ (reads : Line → List ℕ) (m new : HostedMachine X B) (reported now : LineBuffer)
      (progress : Progress) (before out : Option (List ℕ)) (stands : Stands m) (sent : Sent reads m progress reported now before out new) where
    pub sent_buffer : now ≡ record reported { lines = [] }
    sent_buffer = (sent stands.0 stands.1).3

    pub sent_far : progress ≡ reached new.core
    sent_far = let x = sent stands.0 stands.1 in x.5 ∙ sym (is_as_far new.core x.1 x.7.stands)

    pub sent_rests : progress ≢ progresses.Running
    sent_rests = (sent stands.0 stands.1).6

  -- and turns
  module _ (m new : HostedMachine X B) (outside : Environment) (reported now : LineBuffer) (stands : Stands m) (takes : TakesTurns m outside None reported now new) where
    pub turned_stands : Stands new
    turned_stands = let x = takes stands.0 stands.1 in (x.1, x.5)

    pub turned_few : reported.lines ≡ [] → length now.lines ≤ 1
    turned_few none = grind (arith, nat_tests)

    pub turned_same : now ≡ record reported { lines = now.lines }
    turned_same = let is = (takes stands.0 stands.1).3 in is ∙ ap (λ ls. record reported { lines = ls }) (sym (ap (λ (t : LineBuffer). t.lines) is))

  abbrev pub rounds : ℕ → HostedMachine X B → ℕ
  rounds limit m = rounds_by (limit - m.core.parts.rest.dispatches) m.core.parts.rest.ended

  -- each dispatch of an object is one of them
  fewer_by : (p : Image) (refused : List ℕ) (limit : ℕ) → limit ≤ 2 ^ 64 - 1 → (m new : HostedMachine X B) (s u v : State) (lines : List Line) (progress : Progress) →
      RefinesWithNatives m s → RefinesWithNatives new v → reached m.core ≡ progresses.Turned → s.rest.dispatches < limit → u.rest.dispatches ≡ s.rest.dispatches →
      is_some (budget_owner u.tasks) ≡ true → Moving p refused u lines v → progress ≡ progress_of v → progress ≢ progresses.Running → rounds limit new < rounds limit m
  fewer_by p refused limit few m new s u v lines progress stands then_stands between below same paid moving far rests = go v.rest.ended refl
    where
      was : rounds limit m ≡ suc (limit - s.rest.dispatches)
      was = grind (arith, nat_tests, still_open)

      is : (e : Option Ending) → v.rest.ended ≡ e → rounds limit new ≡ rounds_by (limit - v.rest.dispatches) e
      is e ended = grind (arith, nat_tests)

      go : (e : Option Ending) → v.rest.ended ≡ e → rounds limit new < rounds limit m
      go (Some ending) ended = omega (arith, was, is (Some ending) ended)
      go None going =
          let none : v.tasks ≡ [] = nothing_left v.tasks (λ running. rests (far ∙ ap (λ e. progress_by e v.tasks) going ∙ running)) in
          let bare = ap (λ ts. one_where (is_some (budget_owner ts))) none in
          let one = ap one_where paid in
          let kept = moving_spares p limit few refused u lines v moving in
          omega (arith, was, is None going, bare, one, kept, same, below)

  -- how many dispatches there may be yet, and then how many events are to come
  abbrev pub left : List TimedEvent → ℕ → HostedMachine X B → ℕ
  left events limit m = rounds limit m * suc (length events) + to_come events m

  -- an event that is told by a line leaves as many dispatches, and fewer events
  fewer_to_come : (events : List TimedEvent) (limit : ℕ) (m new : HostedMachine X B) (s u v : State) →
      RefinesWithNatives m s → RefinesWithNatives new v → v ≡ u → reached m.core ≡ progresses.Turned → u.rest.dispatches ≡ s.rest.dispatches
      → u.rest.ended ≡ None → length events - u.rest.delivered < length events - s.rest.delivered → left events limit new < left events limit m
  fewer_to_come events limit m new s u v stands then_stands none between same going fewer =
      grind (arith, nat_tests, still_open m.core.parts.rest.ended m.core.parts.stack.tasks between)

  pub fewer_left_by : (reads : Line → List ℕ) (outside : Environment) → outside.limit ≤ 2 ^ 64 - 1 → (m mid new : HostedMachine X B) (reported buffer now : LineBuffer)
      (progress : Progress) (before out : Option (List ℕ)) → Stands m → reached m.core ≡ progresses.Turned → TakesTurns m outside None reported buffer mid →
      Sent reads mid progress buffer now before out new → left outside.events outside.limit new < left outside.events outside.limit m
  fewer_left_by reads outside few m mid new reported buffer now progress before out stands between takes sent =
      let x = takes stands.0 stands.1 in
      let y = sent x.1 x.5 in
      go x.1 x.4.2 x.4.1 x.4.3 y.0 y.1 y.2 y.5 y.6 y.7
    where
      go : (u : State) → u.rest.dispatches ≡ stands.0.rest.dispatches → stands.0.rest.dispatches < outside.limit →
          (is_some (budget_owner u.tasks) ≡ true) ⊎ (IsBetween u × (length outside.events - u.rest.delivered < length outside.events - stands.0.rest.delivered))
          → (lines : List Line) (v : State) → Moving mid.core.image buffer.refused u lines v → progress ≡ progress_of v →
          progress ≢ progresses.Running → RefinesWithNatives new v → left outside.events outside.limit new < left outside.events outside.limit m
      go u same below (inl paid) lines v moving far rests then_stands =
          lower (rounds outside.limit new) (rounds outside.limit m) (to_come outside.events new) (to_come outside.events m) (length outside.events)
          (fewer_by _ buffer.refused _ few m new stands.0 u v lines progress stands.1 then_stands between below same paid moving far rests) (omega arith)
      go u same below (inr reported) lines v moving far rests then_stands = grind (arith, idle_stays)

  pub fewer_left : (outside : Environment) → outside.limit ≤ 2 ^ 64 - 1 → (m mid new : HostedMachine X B) (reported buffer now : LineBuffer)
      (progress : Progress) (before out : Option (List ℕ)) → Stands m → reached m.core ≡ progresses.Turned → TakesTurns m outside None reported buffer mid →
      Sent line_text mid progress buffer now before out new → left outside.events outside.limit new < left outside.events outside.limit m
  fewer_left outside = fewer_left_by line_text outside

  -- what the machine in the run has of natives and refused requests is what it had at first
  pub turns_as : (m new : HostedMachine X B) (limit : ℕ) (events : List TimedEvent)
      (result : Option Ending) (reported now : LineBuffer) {refused : List ℕ} {natives : ℕ} → reported.refused ≡ refused → natives_of m ≡ natives → TakesTurns m
      (observing reported.refused limit (natives_of m) events) result reported now new → TakesTurns m (observing refused limit natives events) result reported now new
  turns_as m new limit events result reported now {refused} {natives} same count takes = subst (λ n. TakesTurns m (observing refused limit n events)
      result reported now new) count (subst (λ r. TakesTurns m (observing r limit (natives_of m) events) result reported now new) same takes)

  -- once turns have dispatched: how far the run has come, with what buffer, and that the machine stands for a state
  pub after_turns : {reads : Line → List ℕ}
      (p : Image) (events : List TimedEvent) (limit : ℕ) (before mid : Option (List ℕ)) (old m : HostedMachine X B) (reported buffer first : LineBuffer) {natives : ℕ} →
      (far : SoFar reads p (observing first.refused limit natives events) before mid reported.lines old) → old.core.image ≡ p →
      reported ≡ record first { lines = [] } → natives_of old ≡ natives → TakesTurns old (observing reported.refused limit (natives_of old) events) None reported buffer m →
      SoFar reads p (observing first.refused limit natives events) before mid buffer.lines m × (buffer ≡ record first { lines = buffer.lines }) × Stands m
  after_turns {reads} p events limit before mid old m reported buffer first {natives} far image is count takes =
      let outside = observing first.refused limit natives events in
      let stands : Stands old = (far.state, far.stands) in
      let turns = turns_as old m limit events None reported buffer (ap (λ (t : LineBuffer). t.refused) is) count takes in (
        turned_on p outside before mid mid old m reported buffer far image (ap (λ (t : LineBuffer). t.lines) is) turns,
        turned_same old m outside reported buffer stands turns ∙ ap (λ (t : LineBuffer). record t { lines = buffer.lines }) is,
        turned_stands old m outside reported buffer stands turns,
      )

  -- the last line after the others
  module _ {reads : Line → List ℕ} (m new : HostedMachine X B) (outside : Environment)
      (ending : Ending) (before mid now : Option (List ℕ)) (failed : Bool) (run : Ended reads m.core.image outside ending before mid new) where
    last : List ℕ
    last = ended (end_text ending (count_cells run.state.cells))

    reported : now ≡ after mid last → Reported reads m.core.image outside ending before now new
    unfolding last
    reported out = record { lines = run.lines; state = run.state; run = run.run; stands = run.stands; out = out ∙ ap (λ o. after o last) run.out ∙ after_both before (text_by reads run.lines) last }

    cut_last : (n : ℕ) → now ≡ after mid (take n last) → CutShort reads m.core.image outside before now
    unfolding last
    cut_last n out = record {
      lines = run.lines;
      state = run.state;
      ending = ending;
      run = run.run;
      sent = length (text_by reads run.lines) + n;
      out = out ∙ ap (λ o. after o (take n last)) run.out ∙ cut_next before (text_by reads run.lines) last n;
    }

    pub ran : (outcome : Outcome) → (outcome ≡ WriteFault → failed ≡ true) → ((outcome ≡ WriteFault → ⊥) → outcome ≡ outcome_of ending)
        → ((s : State) → RefinesWithNatives new s → (n : ℕ) × (now ≡ after mid (take n (ended (end_text ending (count_cells s.cells))))))
        → ((outcome ≡ WriteFault → ⊥) → (s : State) → RefinesWithNatives new s → now ≡ after mid (ended (end_text ending (count_cells s.cells))))
        → Ran reads m outside outcome failed before now new
    unfolding last
    ran WriteFault fault is part whole = grind (arith, nat_tests, cut_last)
    ran _ fault is part whole = grind (arith, nat_tests, same_outcome, reported)
