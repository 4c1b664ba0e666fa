-- Each run of a linked image that has a typing runs well: its states are well typed, so the laws of moves and ranks are laws of it.
use Rattle.std.proofs.lemmas.Bool.Decides.{nat_tests}
use Rattle.std.proofs.Common.{List, [], arith, refl, suc, zero, ℕ, ◌<◌, ◌∷◌, ◌≡◌}
use Rattle.aom_image.specs.Image.{Image}
use Rattle.aom_image.specs.WellFormed.{WellFormed}
use Rattle.aom_link_conditions.specs.Linked.{IsLinked}
use Rattle.aom_typing_rules.specs.Typing.{IsTyped, Typing}
use Rattle.aom_termination.proofs.SafetyLemmas.{boot_keeps, quiet_preserved, clients_keep, leaves_arrive, leaves_move, linked_is_wired, loops_keep, step_keeps}
use Rattle.aom_termination.proofs.SafetyLemmas.{traps_keep, typed_is_sound, well_on}
use Rattle.aom_safety.specs.Laws.{IsWired}
use Rattle.aom_safety.specs.Loops.{RoundsLeft}
use Rattle.aom_semantics.specs.Moves.{step}
use Rattle.aom_safety.specs.Quiet.{OnlyQuietRun}
use Rattle.aom_semantics.specs.State.{Choice, Goes, State, Task}
use Rattle.aom_safety.specs.WellTyped.{WellTyped}
use Rattle.aom_semantics.specs.World.{Reaches, begins, boot_state, moves, turns, Environment}
use Rattle.aom_transcript.specs.declared.line.Line.{Line}
use Rattle.aom_termination.proofs.Arriving.{leads_on, leaves_come}
use Rattle.aom_termination.proofs.Ranking.{moves_lower_ranks, ranks_bound_moves}
use Rattle.aom_termination.specs.Leaves.{goes, stays}
use Rattle.aom_termination.specs.Ranks.{rank}
use Rattle.aom_termination.specs.Runs.{ComesToRest, IsFree, RunsWell, TypedRunsWell}

module _ (p : Image) (t : Typing) (outside : Environment) (formed : WellFormed p) (linked : IsLinked p) (typed : IsTyped p t) where
  wired : IsWired p
  wired = linked_is_wired p formed linked

  well : (lines : List Line) (s : State) → Reaches p outside (boot_state p) lines s → WellTyped p t s
  well lines s reached = (well_on p t outside wired typed (boot_state p) (boot_keeps p t wired typed, clients_keep.boot p) lines s reached).0

  module _ (choose : State → Choice) (unused : IsFree choose) where
    -- one move earlier
    sooner : (s u : State) → step p (choose s) s ≡ Goes u → rank p u < rank p s → ComesToRest p choose u → ComesToRest p choose s
    sooner s u e lower r = record { count = suc r.count; last = r.last; follows = goes e r.follows; idle = r.idle; few = omega (arith, r.few, lower) }

    -- from each state of such a rank
    abbrev Rests : ℕ → Type 0
    Rests k = (s : State) → rank p s < k → WellTyped p t s → ComesToRest p choose s

    higher : (k : ℕ) → Rests k → Rests (suc k)
    higher k rests s lt w = go s.tasks refl
      where
        go : (ts : List Task) → s.tasks ≡ ts → ComesToRest p choose s
        go [] at = record { count = zero; last = s; follows = stays; idle = at; few = omega arith }
        go (task ∷ ts) at =
            let next = leads_on p t (step p (choose s) s) (step_keeps p t wired typed (choose s) s w (unused s)) in
            let lower = moves_lower_ranks p t linked typed (choose s) s next.0 w (task, ts, at) next.1 in
            sooner s next.0 next.1 lower (rests next.0 (omega (arith, lower, lt)) next.2)

    each : (k : ℕ) → Rests k
    each zero = λ s lt w. absurd (omega (arith, lt))
    each (suc k) = higher k (each k)

  rounds : (lines : List Line) (s : State) → Reaches p outside (boot_state p) lines s → RoundsLeft p s.tasks
  rounds _ _ begins = loops_keep.boot p
  rounds _ _ (moves {lines = lines} {s = s} {u = u} c before busy choice e) = loops_keep.moves p (loops_keep.linked p formed linked) c s u (rounds lines s before) e
  rounds _ _ (turns {lines = lines} {s = s} {u = u} observed before between owed e) =
      loops_keep.turns p (loops_keep.linked p formed linked) outside observed s u (rounds lines s before) e

  only_quiet : (lines : List Line) (s : State) → Reaches p outside (boot_state p) lines s → OnlyQuietRun p s.tasks
  only_quiet _ _ begins = quiet_preserved.boot p
  only_quiet _ _ (moves {lines = lines} {s = s} {u = u} c before busy choice e) = quiet_preserved.moves p t wired typed c s u (well lines s before) (only_quiet lines s before) e
  only_quiet _ _ (turns {lines = lines} {s = s} {u = u} observed before between owed e) = quiet_preserved.turns p wired outside observed s u (only_quiet lines s before) e

  runs_well : RunsWell p outside
  runs_well = record {
    sound = typed_is_sound p t outside wired typed;
    ends = λ lines s reached choose unused. each choose unused (suc (rank p s)) s (omega arith) (well lines s reached);
    falls = λ lines s reached n u more. ranks_bound_moves p t wired linked typed n s u (well lines s reached) more;
    begins = λ lines s reached c u unused fr ts i code at stands leaves e. leaves_move.begins p t wired typed c s u
        (well lines s reached) unused fr ts i code at stands leaves e;
    arrives = leaves_arrive p t outside wired typed;
    comes = grind (arith, nat_tests, leaves_come, wired, well);
    stands = traps_keep.stand p outside;
    holds = traps_keep.runs p t outside wired typed;
    rounds = rounds;
    only_quiet = only_quiet;
  }

pub typed_runs_well : TypedRunsWell
typed_runs_well = record { each = runs_well }
