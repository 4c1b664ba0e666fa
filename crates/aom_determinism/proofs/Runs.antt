-- All along a run sessions hold: as it begins, after each move, and after each turn.
use Rattle.std.proofs.lemmas.Bool.Decides.{nat_tests}
use Rattle.std.proofs.Common.{arith, List}
use Rattle.aom_image.specs.Image.{Image}
use Rattle.aom_determinism.proofs.Cells.{boot_owes_nothing}
use Rattle.aom_determinism.proofs.Moves.{moves_follow_calls}
use Rattle.aom_determinism.proofs.Turns.{turns_kill_or_complete}
use Rattle.aom_determinism.specs.Laws.{RunsKeepSessions}
use Rattle.aom_determinism.specs.Owed.{SessionsHold}
use Rattle.aom_typing_rules.specs.Typing.{IsTyped, Typing}
use Rattle.aom_determinism.proofs.SafetyLemmas.{boot_keeps, clients_keep, step_keeps, turn_goes_on}
use Rattle.aom_safety.specs.Kept.{StateInvariant}
use Rattle.aom_safety.specs.Laws.{IsWired}
use Rattle.aom_semantics.specs.State.{State}
use Rattle.aom_safety.specs.WellTyped.{WellTyped}
use Rattle.aom_semantics.specs.World.{Environment, Reaches, begins, boot_state, moves, turns}
use Rattle.aom_transcript.specs.declared.line.Line.{Line}

module _ (p : Image) (t : Typing) (outside : Environment) (wired : IsWired p) (typed : IsTyped p t) where
  stays : (lines : List Line) (s : State) → Reaches p outside (boot_state p) lines s → WellTyped p t s × SessionsHold p s × StateInvariant p s
  stays _ _ begins = (boot_keeps p t wired typed, boot_owes_nothing.sessions p, clients_keep.boot p)
  stays _ _ (moves {lines = lines} {s = s} {u = u} c before busy choice e) =
      let h = stays lines s before in
      (grind (arith, nat_tests, step_keeps), (moves_follow_calls p t c s u h.0 choice.name h.1 e).sessions, clients_keep.moves p t wired typed c s u h.0 choice.name h.2 e)
  stays _ _ (turns {lines = lines} {s = s} {u = u} observed before between owed e) =
      let h = stays lines s before in (
        grind (arith, nat_tests, turn_goes_on),
        (turns_kill_or_complete p t outside observed s u h.0 owed h.2.fit h.1 e).sessions,
        clients_keep.turns p t outside wired typed observed s u h.0 between owed h.2 e,
      )

pub runs_keep_sessions : RunsKeepSessions
runs_keep_sessions p t outside wired typed lines s reached = (stays p t outside wired typed lines s reached).1
