-- What is owned at the branches so far is held.
use Rattle.std.specs.List.{fold}
use Rattle.std.specs.Prelude.{take}
use Rattle.aom_machine_state.specs.Stands.{Refines}
use Rattle.aom_semantics.specs.State.{State}
use Rattle.aom_debug_paths.specs.Paths.{IsAlive, IsHeld, held_in, follow_branch, outer_place}
use Rattle.aom_debug_paths.proofs.following.owned_at.Given as goal

abbrev pub invariant-loop-branch : goal.invariant-loop-branch
invariant-loop-branch l = record {
  alive : IsAlive l.parts l.holding;
  held : (s : State) → Refines (record { image = l.accepted; parts = l.parts }) s →
      IsHeld s (fold (follow_branch s.cells) (held_in s.cells (outer_place s l.path.outer)) (take l.branch-index l.path.branches)) l.holding;
}
