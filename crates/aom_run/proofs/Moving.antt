-- What is outstanding after a step is told by what the step asks of a native, and by the answer.
use Rattle.std.proofs.lemmas.Bool.Decides.{nat_tests}
use Rattle.std.proofs.Common.{◌≡◌, ◌⊎◌, ℤ, ℕ, arith, false, pos, List, Option, None, refl, sym, ap, subst, ◌∙◌, inl, inr}
use Rattle.aom_image.specs.Image.{Image}
use Rattle.aom_typing_rules.specs.Typing.{Typing}
use Rattle.aom_determinism.specs.Owed.{FindsWell, SessionsHold, owes, owes_after}
use Rattle.aom_run.proofs.DeterminismLemmas.{above, moves_follow_calls, top}
use Rattle.aom_semantics.specs.Places.{named}
use Rattle.aom_semantics.specs.Moves.{IsOpen, step}
use Rattle.aom_semantics.specs.State.{Choice, Goes, IsStuck, Outcome, State, Task}
use Rattle.aom_semantics.specs.NativeCall.{NativeCall, wanted, wanted_task}
use Rattle.aom_safety.specs.WellTyped.{PreservesTyping, WellTyped}
use Rattle.aom_transcript.specs.declared.line.Line.{Line}
use Rattle.aom_machine_state.specs.Progress.{progress_by}
use Rattle.aom_machine.specs.Steps.{Observes, HasTask, IsDone, IsUncounted, Quiet, Quietly, Settles, Steps}
use Rattle.aom_machine_state.specs.Stands.{Sound}
use Rattle.aom_machine.specs.Steps as steps
use Rattle.aom_run.specs.Answers.{asked_by, asked_of}

-- what is outstanding in a state that is come to by way of such a call
pub record Went (p : Image) (t : Typing) (s : State) (asked : Option NativeCall) (answer : ℤ) (u : State) : Type 0 where
  pub typed : WellTyped p t u
  pub owes : (n m : ℕ) → owes p u.cells n m ≡ owes_after asked answer n m (owes p s.cells n m)
  pub killed : u.killed ≡ s.killed
  pub sessions : SessionsHold p u

uncounted_asks_none : (p : Image) (s : State) (ts : List Task) → IsUncounted ts → wanted_task s p ts ≡ None
uncounted_asks_none p s ts uncounted = grind arith

-- what is at hand is asked
has_task : (p : Image) (s : State) → HasTask s → asked_of p s ≡ wanted p s
has_task p s hand = ap (λ x. asked_by x (wanted p s)) (ap (λ e. progress_by e s.tasks) hand.going ∙ ap (λ ts. progress_by {T = Task} None ts) hand.busy.2)

-- where nothing is, nothing is asked
at_rest : (p : Image) (s : State) → IsDone s → asked_of p s ≡ None
at_rest p s x = grind arith

module _ (p : Image) (t : Typing) (sound : Sound p t) where
  -- a move is never stuck
  moved_well : (c : Choice) (s u : State) → WellTyped p t s → named s.cells c.name ≡ None → step p c s ≡ Goes u → WellTyped p t u
  moved_well c s u w opened e = subst (PreservesTyping p t) e (sound.keeps c s w opened)

  -- so what it asks fits, whatever its answer
  pub asks_well : (s : State) → WellTyped p t s → SessionsHold p s → FindsWell p s (wanted p s)
  asks_well s w holds = go (step p choice s) refl (sound.keeps choice s w unused)
    where
      choice : Choice
      choice = record { name = top s.cells; refused = false; answer = pos 0 }

      unused : named s.cells (top s.cells) ≡ None
      unused = above s.cells (top s.cells) (omega arith)

      go : (o : Outcome) → step p choice s ≡ o → PreservesTyping p t o → FindsWell p s (wanted p s)
      go (Goes u) e kept = (moves_follow_calls p t choice s u w unused holds e).finds
      go (IsStuck kind) e kept = absurd kept

  follows : (c : Choice) (s u : State) (refused : List ℕ) → WellTyped p t s → SessionsHold p s → IsOpen p refused c s → step p c s ≡ Goes u →
      Went p t s (wanted p s) c.answer u
  follows c s u refused w holds opened e =
      let call = moves_follow_calls p t c s u w opened.name holds e in
      record { typed = moved_well c s u w opened.name e; owes = call.owes; killed = call.killed; sessions = call.sessions }

  stays : (s : State) (answer : ℤ) → WellTyped p t s → SessionsHold p s → Went p t s None answer s
  stays s answer w holds = record { typed = w; owes = λ n m. refl; killed = refl; sessions = holds }

  -- one after another, of which the second asks nothing
  along : (s v u : State) (asked : Option NativeCall) (answer other : ℤ) → Went p t s asked answer v → Went p t v None other u → Went p t s asked answer u
  along s v u asked answer other one two =
      record { typed = two.typed; owes = λ n m. two.owes n m ∙ one.owes n m; killed = two.killed ∙ one.killed; sessions = two.sessions }

  observed_so : (s : State) (observed : ℤ) (c : Choice) (u : State) → Observes p s observed c → Went p t s (wanted p s) c.answer u → Went p t s (wanted p s) observed u
  observed_so s observed c u (inl same) went = subst (λ a. Went p t s (wanted p s) a u) same went
  observed_so s observed c u (inr none) went = subst (λ w. Went p t s w observed u) (sym none) (any_answer (subst (λ w. Went p t s w c.answer u) none went))
    where
      any_answer : Went p t s None c.answer u → Went p t s None observed u
      any_answer w = record { typed = w.typed; owes = w.owes; killed = w.killed; sessions = w.sessions }

  settled_so : (refused : List ℕ) (u v : State) (lines : List Line) (answer : ℤ) → WellTyped p t u → SessionsHold p u → Settles p refused u lines v →
      Went p t u None answer v
  settled_so refused u v lines answer w holds (steps.settled end) = stays u answer w holds
  settled_so refused u v lines answer w holds (steps.settles {u = x} c uncounted going opened e rest) =
      let one = subst (λ a. Went p t u a c.answer x) (uncounted_asks_none p u u.tasks uncounted) (follows c u x refused w holds opened e) in
      let two = settled_so refused x v _ answer one.typed one.sessions rest in
      record { typed = two.typed; owes = λ n m. two.owes n m ∙ one.owes n m; killed = two.killed ∙ one.killed; sessions = two.sessions }

  -- a step
  pub stepped_so : (refused : List ℕ) (observed : ℤ) (s u : State) (lines : List Line) → WellTyped p t s → SessionsHold p s → Steps p refused observed s lines u →
      Went p t s (asked_of p s) observed u
  stepped_so refused observed s u lines w holds (steps.rests done) = grind (arith, nat_tests, at_rest, stays)
  stepped_so refused observed s u lines w holds (steps.moves {u = x} c hand opened observes e rest) =
      let one = observed_so s observed c x observes (follows c s x refused w holds opened e) in
      subst (λ a. Went p t s a observed u) (sym (has_task p s hand)) (along s x u _ observed observed one (settled_so refused x u _ observed one.typed one.sessions rest))

  -- so far there was no step, or the next asks nothing
  abbrev SoFar : (s v : State) (observed : ℤ) → Type 0
  SoFar s v observed = (v ≡ s) ⊎ ((wanted p v ≡ None) × HasTask v × Went p t s (asked_of p s) observed v)

  quietly : (refused : List ℕ) (observed : ℤ) (s v u : State) (lines : List Line) →
      WellTyped p t s → SessionsHold p s → SoFar s v observed → Steps p refused observed v lines u → Went p t s (asked_of p s) observed u
  quietly refused observed s v u lines w holds (inl same) next = grind (arith, nat_tests, stepped_so)
  quietly refused observed s v u lines w holds (inr so) next =
      grind (arith, nat_tests, has_task p v so.1, stepped_so refused observed v u lines so.2.typed so.2.sessions next, along s v u)

  so_far : (refused : List ℕ) (observed : ℤ) (s : State) (ls : List Line) (v : State) → WellTyped p t s → SessionsHold p s →
      Quiet p refused observed s ls v → SoFar s v observed
  so_far refused observed s _ v w holds steps.begins = inl refl
  so_far refused observed s _ v w holds (steps.goes_on {v = x} {before = ls} {lines = ks} before next hand none) =
      inr (none, hand, quietly refused observed s x v ks w holds (so_far refused observed s ls x w holds before) next)

  -- several steps
  pub went_on : (refused : List ℕ) (observed : ℤ) (s v u : State) (lines : List Line) →
      WellTyped p t s → SessionsHold p s → Quietly p refused observed s v → Steps p refused observed v lines u → Went p t s (asked_of p s) observed u
  went_on refused observed s v u lines w holds quiet last = quietly refused observed s v u lines w holds (so_far refused observed s quiet.0 v w holds quiet.1) last
