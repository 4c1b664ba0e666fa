use Rattle.std.proofs.Common.{sym, ◌∙◌, arith}
use Rattle.aom_abstract_state.specs.EntryStacks.{default_node}
use Rattle.aom_abstract_state.proofs.Lists.{at_past, at_within}
use Rattle.aom_abstract_state.proofs.entry_stacks.node_at.Goals as goal

pub returns-in-Some : goal.returns-in-Some
returns-in-Some c =
    let found = c.in-Some.ensures.lookup in
    found.1 ∙ at_within default_node _ c.args.nodes.now c.args.index (grind (arith, found.0))

pub returns-in-None : goal.returns-in-None
returns-in-None c = sym (at_past default_node c.args.nodes.now c.args.index (omega (arith, c.in-None.ensures.lookup)))
