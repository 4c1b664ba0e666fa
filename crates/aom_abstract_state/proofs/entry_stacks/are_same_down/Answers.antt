-- One entry more is the same, or all that are left stand from one node on.
use Rattle.std.proofs.Common.{◌≡◌, true, refl, sym, ◌∙◌, rules}
use Rattle.aom_abstract_state.specs.Tests.{same_entry}
use Rattle.aom_abstract_state.proofs.Piling.{same_below, same_from}
use Rattle.aom_abstract_state.proofs.entry_stacks.are_same_down.Goals as goal

pub loop-left-preserved : goal.loop-left-preserved
loop-left-preserved c =
    let alike : same_entry c.node_at-upper.result.entry c.node_at-lower.result.entry ≡ true = search rules in
    c.loop-left.invariant ∙ same_below _ _ _ _ _ c.loop-left-test.true ∙ rw (← c.node_at-upper.ensures, ← c.node_at-lower.ensures, alike) refl

pub returns-then-first-second : goal.returns-then-first-second
returns-then-first-second c = sym (c.loop-left.invariant ∙ same_from _ _ _ _ _ (c.requires.shared c.if-is_shared.true) c.if-first-second.true)
