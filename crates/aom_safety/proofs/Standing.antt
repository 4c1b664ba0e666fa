-- A method that waits under a trap stands at the instruction that set it: no move but that one sets a trap, and none changes a task under one.
use Rattle.std.proofs.Common.{arith, List, Option, ◌≡◌, ℕ}
use Rattle.aom_link_conditions.specs.Roles.{main_of}
use Rattle.aom_image.specs.Image.{Image}
use Rattle.aom_safety.proofs.Preserving.{keeps, turn_keeps_it}
use Rattle.aom_semantics.specs.Moves.{step}
use Rattle.aom_semantics.specs.State.{Choice, Goes, State}
use Rattle.aom_safety.specs.Traps.{AllAtTraps, at_traps}
use Rattle.aom_semantics.specs.World.{Reaches, begins, boot_state, main_tasks, moves, turns, Environment}
use Rattle.aom_transcript.specs.declared.line.Line.{Line}

-- of each move
pub stays : (p : Image) (c : Choice) (s u : State) → AllAtTraps p s.tasks → step p c s ≡ Goes u → AllAtTraps p u.tasks
stays p c s u h e = keeps p c (at_traps p) s u (grind arith) h e

-- and at the boot
pub boot : (p : Image) (m : Option ℕ) → AllAtTraps p (main_tasks m)
boot p x = grind arith

pub stand : (p : Image) (outside : Environment) (lines : List Line) (s : State) → Reaches p outside (boot_state p) lines s → AllAtTraps p s.tasks
stand p outside _ _ begins = boot p (main_of p)
stand p outside _ _ (moves {lines = lines} {s = s} {u = u} c before busy choice e) = stays p c s u (stand p outside lines s before) e
stand p outside _ _ (turns {lines = lines} {s = s} {u = u} observed before between well e) =
    turn_keeps_it p outside observed (at_traps p) s u (λ m height receiver words d. tt) (λ d. tt) (λ o x m height ts e. tt) (stand p outside lines s before) e
