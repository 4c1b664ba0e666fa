-- Piles of two heights differ, and those of one height are gone through.
use Rattle.std.proofs.Common.{sym, ◌∙◌}
use Rattle.aom_abstract_state.proofs.Ordering.{entries_differ, entries_tested}
use Rattle.aom_abstract_state.proofs.Piling.{length_listed}
use Rattle.aom_abstract_state.proofs.entry_stacks.are_same.Goals as goal

pub returns-then-one-other : goal.returns-then-one-other
returns-then-one-other c =
    let one = length_listed c.args.one.height c.args.a.now c.args.one.top in
    let other = length_listed c.args.other.height c.args.b.now c.args.other.top in
    entries_tested _ _ _ (sym (entries_differ _ _ (λ e. c.if-one-other.true (sym one ∙ e ∙ other))))

pub returns : goal.returns
returns c = entries_tested _ _ _ c.are_same_down.ensures
