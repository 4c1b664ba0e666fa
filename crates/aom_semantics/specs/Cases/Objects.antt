-- The needs of instructions on objects.
use Rattle.std.specs.Prelude.{List, [], ◌∷◌, true, Some, None}
use Rattle.aom_instructions.specs.declared.instr.Instr.TheVariants.{Move, JumpNull, JumpEmpty, Take, Put, New, Delete}
use Rattle.aom_image.specs.declared.method.Thing.TheVariants.{Message}
use Rattle.aom_semantics.specs.Places.{Field, Elsewhere, Root}
use Rattle.aom_semantics.specs.State.{AtRoot, Orphan, WrongKind}
use Rattle.aom_semantics.specs.Cases.Building.{child, leaf, pair, seven, a_cell, mine, inside, Case, fails, AllComeOut}

abbrev pub move_cases : List Case
move_cases =
    record (fails (Move 0 1) []) { cells = a_cell 1 leaf (mine 1) ∷ [] }
    ∷ record (fails (Move 0 1) (WrongKind ∷ [])) { words = None ∷ seven ∷ [] }
    ∷ record (fails (Move 0 1) (Orphan ∷ [])) { cells = a_cell 1 leaf (mine 0) ∷ [] }
    ∷ record (fails (Move 0 1) (WrongKind ∷ Orphan ∷ [])) { words = None ∷ seven ∷ []; cells = a_cell 1 leaf (mine 0) ∷ [] }
    ∷ fails (JumpNull 0 0) []
    ∷ record (fails (JumpNull 0 0) (WrongKind ∷ [])) { words = seven ∷ [] }
    ∷ []

abbrev pub field_cases : List Case
field_cases =
    -- the object has such a field, as main has the root
    record (fails (JumpEmpty 1 0) []) { receiver = inside pair }
    ∷ record (fails (JumpEmpty 0 0) []) { receiver = AtRoot }
    ∷ fails (JumpEmpty 0 0) (WrongKind ∷ [])
    ∷ record (fails (JumpEmpty 1 0) (WrongKind ∷ [])) { receiver = AtRoot }
    ∷ record (fails (JumpEmpty 2 0) (WrongKind ∷ [])) { receiver = inside pair }
    -- a method of an ancestor reaches the fields of its own class, and none that the child declares
    ∷ record (fails (JumpEmpty 2 0) []) { receiver = inside child }
    ∷ record (fails (JumpEmpty 1 0) []) { receiver = inside child; class = Some 1 }
    ∷ record (fails (JumpEmpty 2 0) (WrongKind ∷ [])) { receiver = inside child; class = Some 1 }
    ∷ record (fails (Take 0 2) (WrongKind ∷ [])) { receiver = inside child; class = Some 1; cells = a_cell 1 leaf (Field 9 2) ∷ [] }
    ∷ record (fails (Put 2 0) (WrongKind ∷ [])) { receiver = inside child; class = Some 1; cells = a_cell 1 leaf (mine 0) ∷ [] }
    ∷ record (fails (Put 2 0) []) { receiver = inside child; cells = a_cell 1 leaf (mine 0) ∷ [] }
    ∷ record (fails (Take 0 1) []) { receiver = inside pair }
    ∷ record (fails (Take 0 2) (WrongKind ∷ [])) { receiver = inside pair }
    ∷ fails (Take 0 0) (WrongKind ∷ [])
    ∷ record (fails (Take 0 1) (Orphan ∷ [])) { receiver = inside pair; cells = a_cell 1 leaf (mine 0) ∷ [] }
    -- what is written is asked for first
    ∷ record (fails (Take 0 2) (Orphan ∷ WrongKind ∷ [])) { receiver = inside pair; cells = a_cell 1 leaf (mine 0) ∷ [] }
    -- what is put is what the field is declared for, or null, and the field is null
    ∷ record (fails (Put 0 0) []) { receiver = inside pair; cells = a_cell 1 leaf (mine 0) ∷ [] }
    ∷ record (fails (Put 0 0) []) { receiver = inside pair }
    ∷ record (fails (Put 0 0) []) { receiver = AtRoot; cells = a_cell 1 pair (mine 0) ∷ [] }
    ∷ record (fails (Put 0 0) (WrongKind ∷ [])) { receiver = inside pair; words = seven ∷ [] }
    ∷ record (fails (Put 0 0) (WrongKind ∷ [])) { receiver = inside pair; cells = a_cell 1 pair (mine 0) ∷ [] }
    ∷ record (fails (Put 0 0) (WrongKind ∷ [])) { receiver = inside pair; cells = a_cell 1 Message (mine 0) ∷ [] }
    ∷ record (fails (Put 2 0) (WrongKind ∷ [])) { receiver = inside pair; cells = a_cell 1 leaf (mine 0) ∷ [] }
    ∷ fails (Put 0 0) (WrongKind ∷ [])
    ∷ record (fails (Put 0 0) (Orphan ∷ [])) { receiver = inside pair; cells = a_cell 1 leaf (mine 0) ∷ a_cell 2 leaf (Field 9 0) ∷ [] }
    ∷ record (fails (Put 0 0) (Orphan ∷ [])) { receiver = inside pair; cells = a_cell 2 leaf (Field 9 0) ∷ [] }
    ∷ record (fails (Put 0 0) (Orphan ∷ [])) { receiver = AtRoot; cells = a_cell 1 pair (mine 0) ∷ a_cell 2 pair (Elsewhere Root) ∷ [] }
    ∷ record (fails (Put 0 0) (WrongKind ∷ WrongKind ∷ Orphan ∷ [])) { receiver = inside pair; words = seven ∷ []; cells = a_cell 1 pair (mine 0) ∷ a_cell 2 leaf (Field 9 0) ∷ [] }
    ∷ []

abbrev pub cell_cases : List Case
cell_cases =
    fails (New 0 0) []
    ∷ record (fails (New 0 0) (Orphan ∷ [])) { cells = a_cell 1 leaf (mine 0) ∷ [] }
    ∷ record (fails (New 0 0) (Orphan ∷ [])) { cells = a_cell 1 leaf (mine 0) ∷ []; refused = true }
    ∷ fails (Delete 0) []
    ∷ record (fails (Delete 0) []) { cells = a_cell 1 leaf (mine 0) ∷ [] }
    ∷ record (fails (Delete 0) (WrongKind ∷ [])) { words = seven ∷ [] }
    ∷ record (fails (Delete 0) (WrongKind ∷ [])) { cells = a_cell 1 Message (mine 0) ∷ [] }
    ∷ []

-- each need of an instruction on objects can fail
pub record ObjectNeedsFail : Type 0 where
  pub moves : AllComeOut move_cases
  pub fields : AllComeOut field_cases
  pub cells : AllComeOut cell_cases
