-- The needs of instructions on words.
use Rattle.std.specs.Prelude.{ℕ, pos, List, [], ◌∷◌, ◌++◌, Some, None}
use Rattle.aom_instructions.specs.declared.instr.Instr.{Instr}
use Rattle.aom_instructions.specs.declared.instr.Instr.TheVariants.{Const, Copy, Add, Sub, Mul, And, Or, Xor, Jump, JumpEqual, JumpLess, Loop, Next, Load, Store, Print, Stop}
use Rattle.aom_semantics.specs.State.{AtRoot, Orphan, WrongKind}
use Rattle.aom_semantics.specs.Cases.Building.{child, leaf, pair, seven, a_cell, mine, inside, Case, fails, AllComeOut}

-- two words give a third, in the first register
abbrev pub binary_cases : (ℕ → ℕ → ℕ → Instr) → List Case
binary_cases i =
    record (fails (i 0 1 2) []) { words = None ∷ seven ∷ seven ∷ [] }
    -- the one that is read first has no word, or the other
    ∷ record (fails (i 0 1 2) (WrongKind ∷ [])) { words = None ∷ None ∷ seven ∷ [] }
    ∷ record (fails (i 0 1 2) (WrongKind ∷ [])) { words = None ∷ seven ∷ [] }
    -- what is written owns
    ∷ record (fails (i 0 1 2) (Orphan ∷ [])) { words = None ∷ seven ∷ seven ∷ []; cells = a_cell 1 leaf (mine 0) ∷ [] }
    -- words are asked for first
    ∷ record (fails (i 0 1 2) (WrongKind ∷ WrongKind ∷ Orphan ∷ [])) { cells = a_cell 1 leaf (mine 0) ∷ [] }
    ∷ []

-- two words are compared
abbrev pub compare_cases : (ℕ → ℕ → ℕ → Instr) → List Case
compare_cases i =
    record (fails (i 0 1 0) []) { words = seven ∷ seven ∷ [] }
    ∷ record (fails (i 0 1 0) (WrongKind ∷ [])) { words = None ∷ seven ∷ [] }
    ∷ record (fails (i 0 1 0) (WrongKind ∷ [])) { words = seven ∷ [] }
    ∷ []

abbrev pub word_cases : List Case
word_cases =
    fails (Const 0 (pos 7)) []
    ∷ record (fails (Const 0 (pos 7)) (Orphan ∷ [])) { cells = a_cell 1 leaf (mine 0) ∷ [] }
    -- another method's register, or another of its own, may own
    ∷ record (fails (Const 0 (pos 7)) []) { cells = a_cell 1 leaf (mine 1) ∷ [] }
    ∷ record (fails (Copy 0 1) []) { words = None ∷ seven ∷ [] }
    ∷ fails (Copy 0 1) (WrongKind ∷ [])
    ∷ record (fails (Copy 0 1) (Orphan ∷ [])) { words = None ∷ seven ∷ []; cells = a_cell 1 leaf (mine 0) ∷ [] }
    ∷ record (fails (Copy 0 1) (WrongKind ∷ Orphan ∷ [])) { cells = a_cell 1 leaf (mine 0) ∷ [] }
    ∷ record (fails (Print 0) []) { words = seven ∷ [] }
    ∷ fails (Print 0) (WrongKind ∷ [])
    -- nothing is asked
    ∷ fails (Jump 0) []
    ∷ fails (Loop 0 3) []
    ∷ fails (Next 0 0) []
    ∷ fails Stop []
    ∷ []

-- a word of the object: a static method and main have none, and each class so many
abbrev pub cell_word_cases : List Case
cell_word_cases =
    record (fails (Load 0 0) []) { receiver = inside pair }
    ∷ fails (Load 0 0) (WrongKind ∷ [])
    ∷ record (fails (Load 0 0) (WrongKind ∷ [])) { receiver = AtRoot }
    ∷ record (fails (Load 0 0) (WrongKind ∷ [])) { receiver = inside leaf }
    ∷ record (fails (Load 0 1) (WrongKind ∷ [])) { receiver = inside pair }
    ∷ record (fails (Load 0 0) (Orphan ∷ [])) { receiver = inside pair; cells = a_cell 1 leaf (mine 0) ∷ [] }
    -- what is written is asked for first
    ∷ record (fails (Load 0 1) (Orphan ∷ WrongKind ∷ [])) { receiver = inside pair; cells = a_cell 1 leaf (mine 0) ∷ [] }
    -- a method of an ancestor reaches the words of its own class alone
    ∷ record (fails (Load 0 1) []) { receiver = inside child }
    ∷ record (fails (Load 0 0) []) { receiver = inside child; class = Some 1 }
    ∷ record (fails (Load 0 1) (WrongKind ∷ [])) { receiver = inside child; class = Some 1 }
    ∷ record (fails (Store 1 0) (WrongKind ∷ [])) { receiver = inside child; class = Some 1; words = seven ∷ [] }
    ∷ record (fails (Store 0 0) []) { receiver = inside pair; words = seven ∷ [] }
    ∷ record (fails (Store 0 0) (WrongKind ∷ [])) { words = seven ∷ [] }
    ∷ record (fails (Store 0 0) (WrongKind ∷ [])) { receiver = AtRoot; words = seven ∷ [] }
    ∷ record (fails (Store 1 0) (WrongKind ∷ [])) { receiver = inside pair; words = seven ∷ [] }
    ∷ record (fails (Store 0 0) (WrongKind ∷ [])) { receiver = inside pair }
    ∷ []

-- each need of an instruction on words can fail
pub record WordNeedsFail : Type 0 where
  pub words : AllComeOut word_cases
  pub of_cells : AllComeOut cell_word_cases
  pub binary : AllComeOut (binary_cases Add ++ (binary_cases Sub ++ (binary_cases Mul ++ (binary_cases And ++ (binary_cases Or ++ binary_cases Xor)))))
  pub compared : AllComeOut (compare_cases JumpEqual ++ compare_cases JumpLess)
