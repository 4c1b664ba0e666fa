-- How the states of a method are kept.
use Rattle.std.specs.Prelude.{ℕ, ◌≡◌, List, [], ◌∷◌, Option, Some, None, ◌<◌}
use Rattle.aom_abstract_state.specs.Changes.{kept_shape, known_with}
use Rattle.aom_abstract_state.specs.Meet.{IsMeet}
use Rattle.aom_abstract_state.specs.Order.{IsImpliedBy}
use Rattle.aom_abstract_state.specs.EntryStacks.{Stands, entries_of}
use Rattle.aom_abstract_state.specs.AbstractState.{Known, AbstractState}
use Rattle.aom_roles.specs.Tables.{at}
use Rattle.aom_abstract_state.specs.declared.entry_stacks.Node.{Node}
use Rattle.aom_abstract_state.specs.declared.shape.Kept.{Kept}
use Rattle.aom_static_bounds.specs.Shapes.{Shapes}
use Rattle.aom_verify.specs.Entries.{HasFewEntries}

pub record States : Type 0 where
  -- none where a place is not reached
  pub places : List (Option Kept)
  -- the cleanup entries of all of them
  pub nodes : List Node

abbrev pub shape_of : List Node → Option Kept → Option AbstractState
shape_of nodes None = None
shape_of nodes (Some kept) = Some (kept_shape nodes kept)

abbrev pub shapes_of : List Node → List (Option Kept) → Shapes
shapes_of nodes [] = []
shapes_of nodes (kept ∷ others) = shape_of nodes kept ∷ shapes_of nodes others

abbrev pub shapes : States → Shapes
shapes s = shapes_of s.nodes s.places

-- the entries of each place are there, and they are few
pub record AreKept (nodes : List Node) (places : List (Option Kept)) : Type 0 where
  pub stand : (pc : ℕ) (kept : Kept) → at None places pc ≡ Some kept → Stands nodes kept.entry_stack
  pub few : HasFewEntries (shapes_of nodes places)

-- what is known at a place once it is joined with something new: no less than before, or the meet of both
abbrev pub Lowers : List Node → Kept → Kept → Option Known → Type 0
Lowers nodes there new None = IsImpliedBy (kept_shape nodes there) (kept_shape nodes new)
Lowers nodes there new (Some known) =
    (¬ IsImpliedBy (kept_shape nodes there) (kept_shape nodes new)) × (IsMeet (known_with known (entries_of nodes there.entry_stack)) (kept_shape nodes there) (kept_shape nodes new) × (known.states < 256))
