-- The needs of instructions on the cleanup stack and of leaves.
use Rattle.std.specs.Prelude.{pos, negsuc, List, [], ◌∷◌, true, Some}
use Rattle.aom_instructions.specs.declared.instr.Instr.TheVariants.{NewOrLeave, Push, PushOperation, Pop, PopOperation, PopDelete, Leave, LeaveIf}
use Rattle.aom_image.specs.declared.method.Thing.TheVariants.{Message}
use Rattle.aom_semantics.specs.Places.{Register, Entry}
use Rattle.aom_semantics.specs.State.{Static, frame_of, Task, Run, Trapped, Destroy, Unwind, Dispatched, Of_main, An_object, An_operation, A_mark, PopUnder, PushNoTrap, LeaveNoTrap, Orphan, NullOrDead, WrongKind}
use Rattle.aom_semantics.specs.Cases.Building.{leaf, seven, a_cell, at_bottom, mine, Case, fails, AllComeOut}

-- one more method over the trap
abbrev pub under_caller : List Task
under_caller = Run (frame_of 0 Static 1) ∷ at_bottom

-- a method that leaves: the case is one in which it may, and register 0 does not own
abbrev pub leaving_cases : Case → List Case
leaving_cases good =
    good
    -- no trap is at hand with methods alone over it
    ∷ record good { below = Dispatched Of_main ∷ []; unmet = LeaveNoTrap ∷ [] }
    ∷ record good { below = Destroy ∷ at_bottom; unmet = LeaveNoTrap ∷ [] }
    ∷ record good { below = Unwind (pos 7) ∷ at_bottom; unmet = LeaveNoTrap ∷ [] }
    -- a register of the method owns, or of one below it, but not of one under the trap
    ∷ record good { cells = a_cell 2 leaf (mine 3) ∷ []; unmet = Orphan ∷ [] }
    ∷ record good { below = under_caller; cells = a_cell 2 leaf (mine 3) ∷ []; unmet = Orphan ∷ [] }
    ∷ record good { below = Trapped ∷ under_caller; cells = a_cell 2 leaf (mine 3) ∷ [] }
    ∷ record good { below = Dispatched Of_main ∷ []; cells = a_cell 2 leaf (Register 1 3) ∷ []; unmet = LeaveNoTrap ∷ Orphan ∷ [] }
    ∷ []

abbrev pub leave_cases : List Case
leave_cases =
    fails (Leave 0) (WrongKind ∷ [])
    ∷ fails (LeaveIf 0) (WrongKind ∷ [])
    ∷ record (fails (Leave 0) (WrongKind ∷ LeaveNoTrap ∷ [])) { below = Dispatched Of_main ∷ [] }
    -- a word that is not negative does not leave
    ∷ record (fails (LeaveIf 0) []) { words = seven ∷ []; below = Dispatched Of_main ∷ []; cells = a_cell 2 leaf (Register 1 3) ∷ [] }
    ∷ []

abbrev pub new_cases : List Case
new_cases =
    fails (NewOrLeave 0 0) []
    ∷ record (fails (NewOrLeave 0 0) (Orphan ∷ [])) { cells = a_cell 1 leaf (mine 0) ∷ [] }
    -- a request that is not refused may not leave
    ∷ record (fails (NewOrLeave 0 0) []) { below = Dispatched Of_main ∷ []; cells = a_cell 1 leaf (Register 1 3) ∷ [] }
    ∷ record (fails (NewOrLeave 0 0) (Orphan ∷ LeaveNoTrap ∷ Orphan ∷ [])) { refused = true; below = Dispatched Of_main ∷ []; cells = a_cell 1 leaf (Register 1 0) ∷ [] }
    ∷ []

abbrev pub push_cases : List Case
push_cases =
    record (fails (Push 0) []) { cells = a_cell 1 leaf (mine 0) ∷ [] }
    ∷ record (fails (Push 0) (WrongKind ∷ [])) { words = seven ∷ []; cells = a_cell 1 leaf (mine 0) ∷ [] }
    ∷ fails (Push 0) (NullOrDead ∷ [])
    ∷ record (fails (Push 0) (WrongKind ∷ [])) { cells = a_cell 1 Message (mine 0) ∷ [] }
    ∷ record (fails (Push 0) (PushNoTrap ∷ [])) { below = Dispatched Of_main ∷ []; cells = a_cell 1 leaf (Register 1 0) ∷ [] }
    ∷ record (fails (Push 0) (PushNoTrap ∷ [])) { below = Destroy ∷ at_bottom; cells = a_cell 1 leaf (Register 3 0) ∷ [] }
    ∷ record (fails (Push 0) (WrongKind ∷ NullOrDead ∷ PushNoTrap ∷ [])) { below = Dispatched Of_main ∷ []; words = seven ∷ [] }
    ∷ record (fails (Push 0) (WrongKind ∷ PushNoTrap ∷ [])) { below = Dispatched Of_main ∷ []; cells = a_cell 1 Message (Register 1 0) ∷ [] }
    -- where it is refused the object has moved, and the method may leave
    ∷ record (fails (Push 0) []) { refused = true; cells = a_cell 1 leaf (mine 0) ∷ [] }
    ∷ record (fails (Push 0) (Orphan ∷ [])) { refused = true; cells = a_cell 1 leaf (mine 0) ∷ a_cell 2 leaf (mine 3) ∷ [] }
    ∷ record (fails (Push 0) (Orphan ∷ [])) { refused = true; below = under_caller; cells = a_cell 1 leaf (Register 3 0) ∷ a_cell 2 leaf (mine 3) ∷ [] }
    ∷ record (fails (Push 0) []) { cells = a_cell 1 leaf (mine 0) ∷ a_cell 2 leaf (mine 3) ∷ [] }
    ∷ record (fails (Push 0) (PushNoTrap ∷ LeaveNoTrap ∷ [])) { refused = true; below = Dispatched Of_main ∷ []; cells = a_cell 1 leaf (Register 1 0) ∷ [] }
    ∷ []

abbrev pub push_operation_cases : List Case
push_operation_cases =
    record (fails (PushOperation 0 1) []) { words = seven ∷ [] }
    ∷ fails (PushOperation 0 1) (WrongKind ∷ [])
    ∷ record (fails (PushOperation 0 1) (PushNoTrap ∷ [])) { words = seven ∷ []; below = Dispatched Of_main ∷ [] }
    ∷ record (fails (PushOperation 0 1) (WrongKind ∷ PushNoTrap ∷ [])) { below = Dispatched Of_main ∷ [] }
    ∷ record (fails (PushOperation 0 1) []) { refused = true; words = seven ∷ [] }
    ∷ record (fails (PushOperation 0 1) (Orphan ∷ [])) { refused = true; words = seven ∷ []; cells = a_cell 2 leaf (mine 3) ∷ [] }
    ∷ record (fails (PushOperation 0 1) (Orphan ∷ [])) { refused = true; words = seven ∷ []; below = under_caller; cells = a_cell 2 leaf (mine 3) ∷ [] }
    ∷ record (fails (PushOperation 0 1) (PushNoTrap ∷ LeaveNoTrap ∷ [])) { refused = true; words = seven ∷ []; below = Dispatched Of_main ∷ [] }
    ∷ []

abbrev pub pop_cases : List Case
pop_cases =
    record (fails (Pop 0) []) { items = An_object ∷ A_mark ∷ []; cells = a_cell 1 leaf (Entry 1) ∷ [] }
    ∷ record (fails (Pop 0) (Orphan ∷ [])) { items = An_object ∷ A_mark ∷ []; cells = a_cell 1 leaf (Entry 1) ∷ a_cell 2 leaf (mine 0) ∷ [] }
    -- an item is there over the mark, and it is an object's
    ∷ fails (Pop 0) (PopUnder ∷ WrongKind ∷ [])
    ∷ record (fails (Pop 0) (PopUnder ∷ WrongKind ∷ [])) { items = [] }
    ∷ record (fails (Pop 0) (WrongKind ∷ [])) { items = An_operation 1 (pos 7) ∷ A_mark ∷ [] }
    ∷ record (fails (Pop 0) (Orphan ∷ PopUnder ∷ WrongKind ∷ [])) { cells = a_cell 2 leaf (mine 0) ∷ [] }
    -- or an operation's
    ∷ record (fails PopOperation []) { items = An_operation 1 (pos 7) ∷ A_mark ∷ [] }
    ∷ fails PopOperation (PopUnder ∷ WrongKind ∷ [])
    ∷ record (fails PopOperation (PopUnder ∷ WrongKind ∷ [])) { items = [] }
    ∷ record (fails PopOperation (WrongKind ∷ [])) { items = An_object ∷ A_mark ∷ []; cells = a_cell 1 leaf (Entry 1) ∷ [] }
    -- or any, and an object's item owns one
    ∷ record (fails PopDelete []) { items = An_object ∷ A_mark ∷ []; cells = a_cell 1 leaf (Entry 1) ∷ [] }
    ∷ record (fails PopDelete []) { items = An_operation 1 (pos 7) ∷ A_mark ∷ [] }
    ∷ fails PopDelete (PopUnder ∷ [])
    ∷ record (fails PopDelete (PopUnder ∷ [])) { items = [] }
    ∷ record (fails PopDelete (NullOrDead ∷ [])) { items = An_object ∷ A_mark ∷ [] }
    ∷ []

-- each need of an instruction on the cleanup stack, and of a leave, can fail
pub record CleanupNeedsFail : Type 0 where
  pub leaves : AllComeOut leave_cases
  pub leave : AllComeOut (leaving_cases (record (fails (Leave 0) []) { words = seven ∷ [] }))
  pub leave_if : AllComeOut (leaving_cases (record (fails (LeaveIf 0) []) { words = Some (negsuc 3) ∷ [] }))
  pub news : AllComeOut new_cases
  pub refused_new : AllComeOut (leaving_cases (record (fails (NewOrLeave 0 0) []) { refused = true }))
  pub pushes : AllComeOut push_cases
  pub operations : AllComeOut push_operation_cases
  pub pops : AllComeOut pop_cases
