-- Moves one after another: they make no more dispatches of objects, and there are none where nothing is at hand.
use Rattle.std.proofs.lemmas.Bool.Decides.{nat_tests}
use Rattle.std.proofs.Common.{◌≡◌, ℕ, ◌≤◌, ◌^◌, ◌-◌, List, [], arith, refl}
use Rattle.aom_image.specs.Image.{Image}
use Rattle.aom_semantics.specs.State.{State}
use Rattle.aom_transcript.specs.declared.line.Line.{Line}
use Rattle.aom_run.proofs.DeterminismLemmas.{moved_spares}
use Rattle.aom_determinism.specs.Endings.{spare}
use Rattle.aom_run.specs.Runs.{Moving, begins, goes_on}

pub moving_spares : (p : Image) (limit : ℕ) → limit ≤ 2 ^ 64 - 1 → (refused : List ℕ) (s : State) (lines : List Line) (u : State) → Moving p refused s lines u →
    spare limit u ≤ spare limit s
moving_spares p limit most refused s _ _ begins = omega arith
moving_spares p limit most refused s _ _ (goes_on {lines} {s = v} {u = u} c before busy free goes) =
    grind (arith, nat_tests, moving_spares p limit most refused s lines v before, moved_spares p limit most c v u goes)

pub idle_stays : (p : Image) (refused : List ℕ) (s : State) (lines : List Line) (u : State) → s.tasks ≡ [] → Moving p refused s lines u → u ≡ s
idle_stays p refused s _ _ idle begins = refl
idle_stays p refused s _ _ idle (goes_on {lines} {s = v} {u = u} c before busy free goes) = grind (arith, nat_tests, idle_stays p refused s lines v idle before)
