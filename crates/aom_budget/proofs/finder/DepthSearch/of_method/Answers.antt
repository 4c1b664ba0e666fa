-- One place more, and all of them.
use Rattle.std.proofs.Common.{rules, ◌≡◌, length}
use Rattle.aom_budget.proofs.FieldState.{most_frames, most_entries}
use Rattle.aom_budget.proofs.Most.{before_first, before_more}
use Rattle.aom_budget.proofs.finder.DepthSearch.of_method.Goals as goal

pub loop-place-init : goal.loop-place-init
loop-place-init c = record { deep = rw c.none-most.ensures.depth (before_first 257 _); high = rw c.none-most.ensures.height (before_first 1025 _) }

pub loop-place-preserved : goal.loop-place-preserved
loop-place-preserved c = record {
  deep = rw c.larger-most.ensures.depth (before_more 257 _ _ _ _ c.loop-place.invariant.deep c.of_place.ensures.depth);
  high = rw c.larger-most.ensures.height (before_more 1025 _ _ _ _ c.loop-place.invariant.high c.of_place.ensures.height);
}

pub returns-clause-depth : goal.returns-clause-depth
returns-clause-depth c =
    let count : c.loop-place.place ≡ length c.args.state_table.now = search rules in
    most_frames _ c.facts.ensures.linked _ _ c.requires.strongest _ (rw count at c.loop-place.invariant.deep)

pub returns-clause-height : goal.returns-clause-height
returns-clause-height c =
    let count : c.loop-place.place ≡ length c.args.state_table.now = search rules in
    most_entries _ c.facts.ensures.linked _ _ c.requires.strongest _ (rw count at c.loop-place.invariant.high)
