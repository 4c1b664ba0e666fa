-- What a native completes counts only where one is polled, and where no native serves a class of the image it completes nothing.
use Rattle.std.proofs.lemmas.Bool.Decides.{nat_tests}
use Rattle.std.proofs.Common.{arith, Bool, List, None, Option, cond, false, sym, true, ℕ, ◌∙◌, ◌≡◌}
use Rattle.std.proofs.lemmas.Bool.{true≢false}
use Rattle.aom_image.specs.Image.{Image}
use Rattle.aom_semantics.specs.State.{Choice, State}
use Rattle.aom_semantics.specs.World.{AnswersWell, Completion, Observed, Environment, Polls, Reaches, Timed, Turning, begins}
use Rattle.aom_semantics.specs.World.{by_timer, moves, next_native, nothing_observed, polls, turn, turning, turns}
use Rattle.aom_transcript.specs.declared.line.Line.{Line}
use Rattle.aom_determinism.proofs.NamedCells.{cond_applied}
use Rattle.aom_determinism.proofs.Naming.{polling_named}
use Rattle.aom_determinism.proofs.Observing.{none_observed, unnamed_unserved}
use Rattle.aom_determinism.specs.Observing.{Follows, HasNoNative, Oracle, is_observed, is_polling, stages}
use Rattle.aom_determinism.specs.Determined.{NothingIsObserved}

-- the same turn, where the native that is polled completes that
abbrev reported : Option Completion → Turning → Turning
reported answer (Polls n other) = Polls n answer
reported answer t = t

module _ (observed : Observed) where
  reported_polls : (n : Option ℕ) (after : Turning) → after ≡ reported observed.completion after → polls n observed.completion after ≡ reported observed.completion (polls n None after)
  reported_polls x after same = grind arith

  reported_by_timer : (s : State) (x : Option Timed) (after : Turning) → by_timer s x (reported observed.completion after) ≡ reported observed.completion (by_timer s x after)
  reported_by_timer s x after = grind (arith, nat_tests, cond_applied)

  reported_turning : (outside : Environment) (s : State) →
      turning outside observed s ≡ reported observed.completion (turning outside (record nothing_observed { name = observed.name }) s)
  reported_turning outside s = grind (arith, nat_tests, reported_polls, reported_by_timer s, cond_applied)

  pub turn_unpolled : (p : Image) (outside : Environment) (s : State) → is_polling (turning outside nothing_observed s) ≡ false →
      turn p outside observed s ≡ turn p outside (record nothing_observed { name = observed.name }) s
  turn_unpolled p outside s e = grind (arith, nat_tests, reported_turning outside s, polling_named outside)

-- ---- where there is no native none is polled

-- one turn or the other
unpolled_cond : (b : Bool) (x y : Turning) → is_polling x ≡ false → is_polling y ≡ false → is_polling (cond b x y) ≡ false
unpolled_cond x y z e f = grind arith

unpolled_timer : (s : State) (x : Option Timed) (after : Turning) → is_polling after ≡ false → is_polling (by_timer s x after) ≡ false
unpolled_timer s x after h = grind (arith, nat_tests, unpolled_cond)

none_living : (outside : Environment) (s : State) → outside.natives ≡ 0 → next_native outside s ≡ None
none_living outside s none = grind (arith, nat_tests)

none_polled : (outside : Environment) (s : State) → outside.natives ≡ 0 → is_polling (turning outside nothing_observed s) ≡ false
none_polled outside s none = grind (arith, nat_tests, none_living outside s none, unpolled_cond, unpolled_timer s)

-- ---- and where there is one that serves no class it completes nothing

-- objects that no native serves
module _ (p : Image) (natives : HasNoNative p) where
  nothing_completed : (s : State) (answer : Option Completion) (t : Turning) → is_polling t ≡ true → AnswersWell p s (reported answer t) → answer ≡ None
  nothing_completed s answer t polled well = grind arith

  module _ (outside : Environment) (oracle : Oracle) where
    unobserved_moves : (c : Choice) (s : State) (n : ℕ) → is_observed p s.tasks ≡ true → c.answer ≡ oracle.answers n
    unobserved_moves c s n observed = absurd (true≢false (sym observed ∙ none_observed p natives s.tasks))

    pub without : outside.natives ≡ 0 → {from : State} {lines : List Line} {s : State} (reached : Reaches p outside from lines s) → Follows oracle reached
    without none begins = tt
    without none (moves {s = s} c reached busy opened goes) = (without none reached, unobserved_moves c s (stages reached))
    without none (turns {s = s} observed reached between well goes) = (without none reached, grind (arith, nat_tests, none_polled))

    pub idle : ((n : ℕ) → oracle.completes n ≡ None) →
        {from : State} {lines : List Line} {s : State} (reached : Reaches p outside from lines s) → Follows oracle reached
    idle nothing begins = tt
    idle nothing (moves {s = s} c reached busy opened goes) = (idle nothing reached, unobserved_moves c s (stages reached))
    idle nothing (turns {s = s} observed reached between well goes) =
        (idle nothing reached, grind (arith, nat_tests, nothing_completed s observed.completion, polling_named outside, reported_turning observed outside s))

pub nothing_is_observed : NothingIsObserved
nothing_is_observed = search (arith, nat_tests, unnamed_unserved, without, idle)
