-- The number falls.
use Rattle.aom_abstract_state.proofs.entry_stacks.+entry_at.Given as goal

abbrev pub decreases-entry_at : goal.decreases-entry_at
decreases-entry_at l = l.number
