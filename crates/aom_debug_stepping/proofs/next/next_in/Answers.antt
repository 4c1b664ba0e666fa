-- A cell that is to go lives, and what goes next is told by its class.
use Rattle.std.proofs.Common.{subst, sym}
use Rattle.aom_cells.specs.Heap.{Lives}
use Rattle.aom_debug_stepping.proofs.MachineInstructionsLemmas.{cell_lives, class_fits, goes_on_top, number_on_top}
use Rattle.aom_debug_stepping.proofs.NextPlaces.{goes_reported}
use Rattle.aom_debug_stepping.proofs.next.next_in.Goals as goal

pub class-requires-clause-lives : goal.class-requires-clause-lives
class-requires-clause-lives c =
    let top = c.in-Some-Destroy.ensures.some in
    subst (Lives c.args.parts.now.cells) (sym (number_on_top _ _ top c.in-Some-Destroy.field-0-is))
    (cell_lives c.args.linked.now c.args.parts.now c.requires.stands (goes_on_top _ _ top c.in-Some-Destroy.field-0-is))

pub returns-in-Some-Destroy : goal.returns-in-Some-Destroy
returns-in-Some-Destroy c = λ s st.
    let top = c.in-Some-Destroy.ensures.some in
    let going = goes_on_top _ _ top c.in-Some-Destroy.field-0-is in
    let lives = cell_lives c.args.linked.now c.args.parts.now c.requires.stands going in
    rw c.number.ensures.value (goes_reported _ _ s st _ c.class.result going (number_on_top _ _ top c.in-Some-Destroy.field-0-is) lives c.class.ensures)

pub class-requires-clause-small : goal.class-requires-clause-small
class-requires-clause-small c = class_fits c.args.linked.now c.args.parts.now c.requires.stands.0 c.requires.stands.1.agrees c.in-Some-Destroy.number
