-- There are as many entries as the height of the pile says.
use Rattle.std.proofs.Common.{sym, ◌∙◌}
use Rattle.aom_verify.proofs.AbstractStateLemmas.{length_listed}
use Rattle.aom_verify.proofs.view.AbstractStateView.height.Goals as goal

pub returns : goal.returns
returns c =
    let entry_stack = c.self.inside.kept.now.entry_stack in
    rw (← c.self.view_is) (c.height.ensures ∙ sym (length_listed entry_stack.height c.self.inside.entry_stacks.now entry_stack.top))
