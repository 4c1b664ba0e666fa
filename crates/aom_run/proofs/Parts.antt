-- What a part of a turn leaves as it was, and how a run goes on by it.
use Rattle.std.proofs.lemmas.Bool.Decides.{nat_tests}
use Rattle.std.proofs.Common.{◌≡◌, ◌≤◌, ℕ, suc, List, [], ◌++◌, Option, None, length, ap, arith, subst, sym, ◌∙◌}
use Rattle.aom_run.proofs.DeterminismLemmas.{above, top}
use Rattle.aom_image.specs.Image.{Image}
use Rattle.aom_machine_state.specs.LineBuffer.{LineBuffer}
use Rattle.aom_run.proofs.SafetyLemmas.{commanded_kept, goes_same}
use Rattle.aom_semantics.specs.Places.{Object, named}
use Rattle.aom_semantics.specs.State.{Goes, State}
use Rattle.aom_semantics.specs.World.{AnswersWell, Completes, Completion, Observed, IsBetween, Environment, Polls, Reaches, Turning, delivers, nothing_observed}
use Rattle.aom_semantics.specs.World.{turned, turning, turns, written_by}
use Rattle.aom_transcript.specs.declared.event.Event.{Event}
use Rattle.aom_transcript.specs.declared.line.Line.{Line}

pub no_lines : LineBuffer
no_lines = record { lines = []; refused = []; room = 0 }

pub still_between : (s u : State) → u.tasks ≡ s.tasks → u.rest.ended ≡ s.rest.ended → IsBetween s → IsBetween u
still_between s u tasks ended between = record { idle = tasks ∙ between.idle; going = ended ∙ between.going }

-- a timer completes a request
pub completed_same : (p : Image) (s u : State) (o : Object) → turned p s (Completes o) ≡ Goes u → (u.tasks ≡ s.tasks) × (u.rest ≡ s.rest)
completed_same p s u o goes = let same = sym (goes_same _ u goes) in (ap (λ (v : State). v.tasks) same, ap (λ (v : State). v.rest) same)

-- an event is delivered
pub delivered_same : (p : Image) (outside : Environment) (name : ℕ) (s u : State) (event : Event) →
    turned p s (delivers outside name s event) ≡ Goes u → (u.tasks ≡ s.tasks) × (u.rest ≡ record s.rest { delivered = suc s.rest.delivered })
delivered_same p outside name s u x goes = grind (arith, nat_tests, goes_same, commanded_kept p)

-- by the number of natives alone
pub delivers_alike : (one other : Environment) → one.natives ≡ other.natives → (name : ℕ) (s : State) (event : Event) →
    delivers one name s event ≡ delivers other name s event
delivers_alike one other same name s x = grind arith

-- no answer is heard by that, and one line is written at most
pub delivers_well : (p : Image) (outside : Environment) (name : ℕ) (s : State) (event : Event) →
    AnswersWell p s (delivers outside name s event) × (length (written_by p s (delivers outside name s event)) ≤ 1)
delivers_well p outside name s x = grind arith

-- the line is not by the name
lines_alike : (p : Image) (outside : Environment) (one other : ℕ) (s : State) (event : Event) →
    written_by p s (delivers outside one s event) ≡ written_by p s (delivers outside other s event)
lines_alike p outside one other s x = grind (arith, nat_tests)

-- a native is polled
pub polled_same : (p : Image) (s u : State) (n : ℕ) (answer : Option Completion) → turned p s (Polls n answer) ≡ Goes u →
    (u.tasks ≡ s.tasks) × (u.rest ≡ record s.rest { polled = suc n })
polled_same p s u n x goes = grind (arith, nat_tests, goes_same)

-- ---- a run goes on

-- what it hears, with a free name where a part makes nothing
abbrev observed_of : Option Completion → State → Observed
observed_of answer s = record { completion = answer; name = top s.cells }

-- by a part that is the same whatever is heard
pub turns_by : (p : Image) (outside : Environment) (from : State) (lines : List Line) (s u : State) (x : Turning) → Reaches p outside from lines s → IsBetween
    s → ((observed : Observed) → turning outside observed s ≡ x) → AnswersWell p s x → turned p s x ≡ Goes u → Reaches p outside from (lines ++ written_by p s x) u
turns_by p outside from lines s u x r between is owed goes =
    let observed = observed_of None s in
    subst (λ k. Reaches p outside from (lines ++ written_by p s k) u) (is nothing_observed)
    (turns observed r between (record { completion = subst (λ k. AnswersWell p s k) (sym (is observed)) owed; name = above s.cells (top s.cells) (omega arith) })
    (ap (turned p s) (is observed) ∙ goes))

-- by an event, with that name for what is sent
pub delivers_by : (p : Image) (outside : Environment) (from : State) (lines : List Line) (s u : State) (event : Event) (name : ℕ)
    → Reaches p outside from lines s → IsBetween s → ((observed : Observed) → turning outside observed s ≡ delivers outside observed.name s event) → named s.cells name
    ≡ None → turned p s (delivers outside name s event) ≡ Goes u → Reaches p outside from (lines ++ written_by p s (delivers outside name s event)) u
delivers_by p outside from lines s u event name r between is free goes =
    let observed : Observed = record { completion = None; name = name } in
    subst (λ ls. Reaches p outside from (lines ++ ls) u) (ap (written_by p s) (is nothing_observed) ∙ lines_alike p outside 0 name s event)
    (turns observed r between (record { completion = grind (arith, nat_tests); name = free }) (ap (turned p s) (is observed) ∙ goes))

-- by a poll, which writes nothing
pub polls_by : (p : Image) (outside : Environment) (from s u : State) (n : ℕ) (answer : Option Completion)
    → Reaches p outside from [] s → IsBetween s → ((observed : Observed) → turning outside observed s ≡ Polls n observed.completion) →
    AnswersWell p s (Polls n answer) → turned p s (Polls n answer) ≡ Goes u → Reaches p outside from [] u
polls_by p outside from s u n answer r between is owed goes =
    let observed = observed_of answer s in
    subst (λ k. Reaches p outside from (written_by p s k) u) (is nothing_observed)
    (turns observed r between (record { completion = subst (λ k. AnswersWell p s k) (sym (is observed)) owed; name = above s.cells (top s.cells) (omega arith) })
    (ap (turned p s) (is observed) ∙ goes))
