-- What a place holds, by the number that a machine shows there.
use Rattle.std.proofs.lemmas.Bool.Decides.{nat_tests}
use Rattle.std.proofs.Common.{◌≡◌, ◌≤◌, ℕ, Bool, cond, List, [], ◌∷◌, length, Option, None, IsSome, ap, arith, refl, sym}
use Rattle.std.proofs.lemmas.Bool.{ne_eqb}
use Rattle.aom_cells.specs.Heap.{cell_at, class_of, null}
use Rattle.aom_cells.specs.declared.cell.Cell.{Cell as Machine_cell}
use Rattle.aom_frames.specs.Items.{entry_in}
use Rattle.aom_frames.specs.declared.item.Item.{Item as Machine_item}
use Rattle.aom_image.specs.Image.{Image}
use Rattle.aom_semantics.specs.Places.{Place}
use Rattle.aom_semantics.specs.State.{State}
use Rattle.aom_machine_state.specs.Agrees.{number}
use Rattle.aom_machine_state.specs.declared.parts.Parts.{Parts}
use Rattle.aom_machine_state.specs.Stands.{MachineModel, Refines}
use Rattle.aom_debug_views.specs.Holdings.{HasNumber, HoldsSo}
use Rattle.aom_debug_views.specs.Owners.{Shows, ShowsIf, ShowsNone}
use Rattle.aom_debug_views.specs.declared.holding.Holding.{Holding}
use Rattle.aom_debug_views.specs.declared.holding.Holding.TheVariants as holds
use Rattle.aom_debug_views.proofs.Trees.{found, message_found, none_sends}

-- past the last item there is no entry
pub entry_past : (is : List Machine_item) (k : ℕ) → length is ≤ k → null ≡ entry_in is k
entry_past [] k le = refl
entry_past (i ∷ is) k le = grind (arith, nat_tests, entry_past is k, ne_eqb)

-- a place that owns nothing shows null
pub shows_null : (m : MachineModel) (r : Place) → ShowsNone m r → Shows m null r
shows_null m r none = record { each = λ s st. sym (ap number (none.each s st)) }

-- and so does a register that may own nothing
pub shown_if : (b : Bool) (m : MachineModel) (n : ℕ) (r : Place) → ShowsIf b m n r → Shows m (cond b n null) r
shown_if x m n r shows = grind (arith, nat_tests, shows_null)

-- what lives has a class
classless : (o : Option Machine_cell) → class_of o ≡ None → IsSome o → ⊥
classless x is lives = grind arith

-- what the machine has by the number of a place is what the place holds
pub holds_so : (p : Image) (m : Parts) (n : ℕ) (r : Place) (h : Holding) →
    Shows (record { image = p; parts = m }) n r → HasNumber m n h → (s : State) → Refines (record { image = p; parts = m }) s → HoldsSo s r h
holds_so p m n r holds.Nothing shows has s st = (none_sends p m n r (classless (cell_at m.cells n) has.0) has.1 shows).each s st
holds_so p m n r (holds.Object cell class) shows has s st = grind (arith, found p m n class r s st shows has.1)
holds_so p m n r (holds.Message source) shows has s st = message_found p m n source r s st shows has.0 has.1
