-- How cleanup entries are kept, so that the states of a method share what they have in common.
use Rattle.std.specs.Prelude.{ℕ, zero, suc, ◌≡◌, ◌<◌, List, [], ◌∷◌, length}
use Rattle.aom_roles.specs.Tables.{at}
use Rattle.aom_abstract_state.specs.declared.kind.CleanupEntry.{CleanupEntry}
use Rattle.aom_abstract_state.specs.declared.kind.CleanupEntry.TheVariants.{Operation}
use Rattle.aom_abstract_state.specs.declared.entry_stacks.Node.{Node}
use Rattle.aom_abstract_state.specs.declared.entry_stacks.EntryStack.{EntryStack}

-- what a read past the end finds
abbrev pub default_node : Node
default_node = record { entry = Operation; below = 0 }

abbrev pub node_at : List Node → ℕ → Node
node_at nodes i = at default_node nodes i

-- so many entries, from that node on downwards
abbrev pub listed : ℕ → List Node → ℕ → List CleanupEntry
listed zero nodes top = []
listed (suc n) nodes top = (node_at nodes top).entry ∷ listed n nodes (node_at nodes top).below

abbrev pub entries_of : List Node → EntryStack → List CleanupEntry
entries_of nodes entry_stack = listed entry_stack.height nodes entry_stack.top

-- each of these nodes is there
abbrev pub AllThere : ℕ → List Node → ℕ → Type 0
AllThere zero nodes top = Unit {0}
AllThere (suc n) nodes top = (top < length nodes) × AllThere n nodes (node_at nodes top).below

abbrev pub Stands : List Node → EntryStack → Type 0
Stands nodes entry_stack = AllThere entry_stack.height nodes entry_stack.top

-- the piles that stood stand, with the same entries
pub record Extends (old new : List Node) : Type 0 where
  pub stands : (entry_stack : EntryStack) → Stands old entry_stack → Stands new entry_stack
  pub same : (entry_stack : EntryStack) → Stands old entry_stack → entries_of new entry_stack ≡ entries_of old entry_stack
