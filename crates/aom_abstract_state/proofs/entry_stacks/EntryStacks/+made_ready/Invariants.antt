-- The number falls.
use Rattle.aom_abstract_state.proofs.entry_stacks.EntryStacks.+made_ready.Given as goal

abbrev pub decreases-made_ready : goal.decreases-made_ready
decreases-made_ready l = l.number
