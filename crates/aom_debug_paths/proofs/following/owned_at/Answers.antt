-- One branch after another.
use Rattle.std.proofs.Common.{subst}
use Rattle.aom_debug_paths.specs.Paths.{IsHeld, held_in, outer_place}
use Rattle.aom_debug_paths.proofs.Onward.{all_branches, held_same, one_more}
use Rattle.aom_debug_paths.proofs.following.owned_at.Goals as goal

pub loop-branch-init : goal.loop-branch-init
loop-branch-init c = record {
  alive = c.outer_holding-holding.ensures.alive;
  held = λ s st. subst (λ o. IsHeld s (held_in s.cells (outer_place s o)) c.outer_holding-holding.result) c.outer.ensures
      (c.outer_holding-holding.ensures.held s st);
}

pub loop-branch-preserved : goal.loop-branch-preserved
loop-branch-preserved c =
    let w = c.args.path.now in
    record {
      alive = c.follow_branch-holding.ensures.alive;
      held = λ s st. held_same s _ _ c.follow_branch-holding.result (one_more s (held_in s.cells (outer_place s w.outer)) w.branches c.branches-branch-items.result.now
          c.branches-branch-items.ensures c.loop-branch.branch-index c.branch-item.result c.loop-branch-test.true c.branch-item.is)
          (c.follow_branch-holding.ensures.held s _ st (c.loop-branch.invariant.held s st));
    }

pub returns-clause-alive : goal.returns-clause-alive
returns-clause-alive c = c.loop-branch.invariant.alive

pub returns-clause-held : goal.returns-clause-held
returns-clause-held c = λ s st.
    let w = c.args.path.now in
    held_same s _ _ c.loop-branch.holding (all_branches s (held_in s.cells (outer_place s w.outer)) w.branches c.branches-branch-items.result.now
    c.branches-branch-items.ensures c.loop-branch.branch-index c.loop-branch-test.false) (c.loop-branch.invariant.held s st)
