-- The needs of calls: of the target, of the arguments, and of the registers that the result and a trap's code come to.
use Rattle.std.specs.Prelude.{ℕ, pos, List, [], ◌∷◌, replicate, Some, None}
use Rattle.aom_instructions.specs.declared.instr.Instr.{Instr}
use Rattle.aom_instructions.specs.declared.instr.Instr.TheVariants.{Call, Trap}
use Rattle.aom_instructions.specs.declared.instr.Target.{Target}
use Rattle.aom_instructions.specs.declared.instr.Target.TheVariants.{This, Register as On_register, Field as On_field, Entry as On_entry}
use Rattle.aom_image.specs.declared.method.Argument.{Argument}
use Rattle.aom_image.specs.declared.method.Argument.TheVariants.{Word as Takes_word, Own as Takes_own}
use Rattle.aom_image.specs.declared.method.Gives.{Gives}
use Rattle.aom_image.specs.declared.method.Gives.TheVariants.{Nothing, Word as A_word, Own as An_own, Maybe as A_maybe, Left}
use Rattle.aom_image.specs.declared.method.Method.{Method}
use Rattle.aom_image.specs.declared.method.Role.TheVariants.{Construct}
use Rattle.aom_image.specs.declared.method.Thing.TheVariants.{Message}
use Rattle.aom_semantics.specs.Places.{Entry, Field}
use Rattle.aom_semantics.specs.State.{AtRoot, An_object, An_operation, A_mark, PopUnder, Orphan, NullOrDead, WrongKind}
use Rattle.aom_semantics.specs.Cases.Building.{child, leaf, pair, seven, a_method, a_cell, mine, inside, Case, fails, AllComeOut}

-- a call or a trap: the target, the method called, the first argument's register and the result's
abbrev pub Calling : Type 0
Calling = Target → ℕ → ℕ → ℕ → Instr

-- a method of pairs, that takes these and gives that
abbrev pub of_pair : List Argument → Gives → Method
of_pair arguments gives = a_method (Some 1) arguments gives []

-- one of leaves
abbrev pub of_leaf : Method
of_leaf = a_method (Some 0) [] Nothing []

-- one that constructs pairs
abbrev pub construct_of_pair : Method
construct_of_pair = record (of_pair [] Nothing) { role = Construct }

-- a static method
abbrev pub static : List Argument → Gives → Method
static arguments gives = a_method None arguments gives []

-- on the object at hand: any method calls a static one, and one of the same class
abbrev pub this_cases : Calling → List Case
this_cases call =
    fails (call This 1 0 0) []
    ∷ record (fails (call This 1 0 0) []) { receiver = inside pair; called = of_pair [] Nothing }
    ∷ record (fails (call This 1 0 0) (WrongKind ∷ [])) { called = of_pair [] Nothing }
    ∷ record (fails (call This 1 0 0) (WrongKind ∷ [])) { receiver = AtRoot; called = of_pair [] Nothing }
    ∷ record (fails (call This 1 0 0) (WrongKind ∷ [])) { receiver = inside leaf; called = of_pair [] Nothing }
    ∷ record (fails (call This 1 0 0) []) { receiver = inside child; called = of_pair [] Nothing; cells = a_cell 1 leaf (Field 9 0) ∷ [] }
    -- where it constructs, no field that the parent of the caller's class declares owns; the caller's own may
    ∷ record (fails (call This 1 0 0) []) { receiver = inside child; called = construct_of_pair; cells = a_cell 1 leaf (Field 9 2) ∷ [] }
    ∷ record (fails (call This 1 0 0) (Orphan ∷ [])) { receiver = inside child; called = construct_of_pair; cells = a_cell 1 leaf (Field 9 0) ∷ [] }
    ∷ record (fails (call This 1 0 0) (Orphan ∷ [])) { receiver = inside child; called = construct_of_pair; cells = a_cell 1 Message (Field 9 1) ∷ [] }
    ∷ record (fails (call This 1 0 0) (WrongKind ∷ [])) { receiver = inside leaf; called = construct_of_pair }
    ∷ []

-- on what a register owns
abbrev pub register_cases : Calling → List Case
register_cases call =
    record (fails (call (On_register 3) 1 0 0) []) { called = of_pair [] Nothing; cells = a_cell 1 pair (mine 3) ∷ [] }
    -- it has a word
    ∷ record (fails (call (On_register 3) 1 0 0) (WrongKind ∷ [])) { called = of_pair [] Nothing; cells = a_cell 1 pair (mine 3) ∷ []; words = replicate 4 seven }
    -- it is null, or owns another thing, or the method is static
    ∷ record (fails (call (On_register 3) 1 0 0) (NullOrDead ∷ [])) { called = of_pair [] Nothing }
    ∷ record (fails (call (On_register 3) 1 0 0) (WrongKind ∷ [])) { called = of_pair [] Nothing; cells = a_cell 1 leaf (mine 3) ∷ [] }
    ∷ record (fails (call (On_register 3) 1 0 0) (WrongKind ∷ [])) { called = of_pair [] Nothing; cells = a_cell 1 Message (mine 3) ∷ [] }
    ∷ record (fails (call (On_register 3) 1 0 0) (WrongKind ∷ [])) { cells = a_cell 1 pair (mine 3) ∷ [] }
    -- it is an argument's
    ∷ record (fails (call (On_register 3) 1 3 0) (WrongKind ∷ [])) { called = of_pair (Takes_own pair ∷ []) Nothing; cells = a_cell 1 pair (mine 3) ∷ [] }
    ∷ record (fails (call (On_register 3) 1 2 0) (WrongKind ∷ [])) { called = of_pair (Takes_own leaf ∷ Takes_own pair ∷ []) Nothing; cells = a_cell 1 pair (mine 3) ∷ a_cell 2 leaf (mine 2) ∷ [] }
    -- what is owned is asked for before its class, and the word before both
    ∷ record (fails (call (On_register 3) 1 0 0) (WrongKind ∷ NullOrDead ∷ [])) { called = of_pair [] Nothing; words = replicate 4 seven }
    ∷ fails (call (On_register 3) 1 0 0) (NullOrDead ∷ WrongKind ∷ [])
    ∷ []

-- on what a field owns
abbrev pub on_field_cases : Calling → List Case
on_field_cases call =
    record (fails (call (On_field 0) 1 0 0) []) { receiver = inside pair; called = of_pair [] Nothing; cells = a_cell 1 pair (Field 9 0) ∷ [] }
    -- there is no such field
    ∷ record (fails (call (On_field 2) 1 0 0) (WrongKind ∷ [])) { receiver = inside pair; called = of_pair [] Nothing; cells = a_cell 1 pair (Field 9 2) ∷ [] }
    ∷ record (fails (call (On_field 2) 1 0 0) (WrongKind ∷ [])) { receiver = inside child; class = Some 1; called = of_leaf; cells = a_cell 1 leaf (Field 9 2) ∷ [] }
    ∷ record (fails (call (On_field 2) 1 0 0) []) { receiver = inside child; called = of_leaf; cells = a_cell 1 leaf (Field 9 2) ∷ [] }
    -- it is null, or owns another thing
    ∷ record (fails (call (On_field 0) 1 0 0) (NullOrDead ∷ [])) { receiver = inside pair; called = of_pair [] Nothing }
    ∷ record (fails (call (On_field 0) 1 0 0) (WrongKind ∷ [])) { receiver = inside pair; called = of_pair [] Nothing; cells = a_cell 1 leaf (Field 9 0) ∷ [] }
    ∷ record (fails (call (On_field 2) 1 0 0) (WrongKind ∷ NullOrDead ∷ [])) { receiver = inside pair; called = of_pair [] Nothing }
    ∷ []

-- on what an entry of the cleanup stack owns, counted from the last
abbrev pub entry_cases : Calling → List Case
entry_cases call =
    record (fails (call (On_entry 0) 1 0 0) []) { called = of_pair [] Nothing; items = An_object ∷ A_mark ∷ []; cells = a_cell 1 pair (Entry 1) ∷ [] }
    ∷ record (fails (call (On_entry 1) 1 0 0) []) { called = of_pair [] Nothing; items = An_operation 1 (pos 7) ∷ An_object ∷ A_mark ∷ []; cells = a_cell 1 pair (Entry 1) ∷ [] }
    -- there are not so many entries, or a mark lies over it
    ∷ record (fails (call (On_entry 0) 1 0 0) (PopUnder ∷ [])) { called = of_pair [] Nothing; items = []; cells = a_cell 1 pair (Entry 0) ∷ [] }
    ∷ record (fails (call (On_entry 1) 1 0 0) (PopUnder ∷ [])) { called = of_pair [] Nothing; items = A_mark ∷ An_object ∷ []; cells = a_cell 1 pair (Entry 0) ∷ [] }
    ∷ record (fails (call (On_entry 0) 1 0 0) (PopUnder ∷ [])) { called = of_pair [] Nothing; items = A_mark ∷ []; cells = a_cell 1 pair (Entry 0) ∷ [] }
    -- it is an operation, which owns nothing
    ∷ record (fails (call (On_entry 0) 1 0 0) (WrongKind ∷ NullOrDead ∷ [])) { called = of_pair [] Nothing; items = An_operation 1 (pos 7) ∷ A_mark ∷ [] }
    -- it is null, or owns another thing
    ∷ record (fails (call (On_entry 0) 1 0 0) (NullOrDead ∷ [])) { called = of_pair [] Nothing; items = An_object ∷ A_mark ∷ [] }
    ∷ record (fails (call (On_entry 0) 1 0 0) (WrongKind ∷ [])) { called = of_pair [] Nothing; items = An_object ∷ A_mark ∷ []; cells = a_cell 1 leaf (Entry 1) ∷ [] }
    ∷ record (fails (call (On_entry 0) 1 0 0) (PopUnder ∷ NullOrDead ∷ [])) { called = of_pair [] Nothing }
    ∷ []

-- the arguments lie within the registers, and each is what the method takes
abbrev pub argument_cases : Calling → List Case
argument_cases call =
    record (fails (call This 1 2 0) []) { called = static (Takes_word ∷ Takes_own leaf ∷ []) Nothing; words = replicate 3 seven; cells = a_cell 1 leaf (mine 3) ∷ [] }
    ∷ record (fails (call This 1 15 0) (WrongKind ∷ [])) { called = static (Takes_word ∷ Takes_word ∷ []) Nothing; words = replicate 17 seven }
    -- no word where one is taken
    ∷ record (fails (call This 1 2 0) (WrongKind ∷ [])) { called = static (Takes_word ∷ []) Nothing }
    -- a word where an object is taken, null, or another thing
    ∷ record (fails (call This 1 2 0) (WrongKind ∷ [])) { called = static (Takes_own leaf ∷ []) Nothing; words = replicate 3 seven; cells = a_cell 1 leaf (mine 2) ∷ [] }
    ∷ record (fails (call This 1 2 0) (NullOrDead ∷ [])) { called = static (Takes_own leaf ∷ []) Nothing }
    ∷ record (fails (call This 1 2 0) (WrongKind ∷ [])) { called = static (Takes_own leaf ∷ []) Nothing; cells = a_cell 1 pair (mine 2) ∷ [] }
    ∷ record (fails (call This 1 2 0) (WrongKind ∷ [])) { called = static (Takes_own Message ∷ []) Nothing; cells = a_cell 1 leaf (mine 2) ∷ [] }
    ∷ record (fails (call This 1 2 0) (WrongKind ∷ NullOrDead ∷ [])) { called = static (Takes_own leaf ∷ []) Nothing; words = replicate 3 seven }
    -- of the second argument
    ∷ record (fails (call This 1 2 0) (WrongKind ∷ [])) { called = static (Takes_word ∷ Takes_word ∷ []) Nothing; words = replicate 3 seven }
    ∷ record (fails (call This 1 2 0) (NullOrDead ∷ [])) { called = static (Takes_own leaf ∷ Takes_own leaf ∷ []) Nothing; cells = a_cell 1 leaf (mine 2) ∷ [] }
    -- the target is asked for first, and the first argument before the second
    ∷ record (fails (call (On_field 0) 1 2 0) (NullOrDead ∷ WrongKind ∷ [])) { receiver = inside pair; called = of_pair (Takes_word ∷ []) Nothing }
    ∷ record (fails (call This 1 2 0) (WrongKind ∷ NullOrDead ∷ [])) { called = static (Takes_word ∷ Takes_own leaf ∷ []) Nothing }
    ∷ []

-- the register of a result that comes owns nothing once the arguments have left
abbrev pub result_cases : Calling → List Case
result_cases call =
    record (fails (call This 1 2 4) (Orphan ∷ [])) { called = static [] A_word; cells = a_cell 1 leaf (mine 4) ∷ [] }
    ∷ record (fails (call This 1 2 4) (Orphan ∷ [])) { called = static [] (An_own leaf); cells = a_cell 1 leaf (mine 4) ∷ [] }
    ∷ record (fails (call This 1 2 4) (Orphan ∷ [])) { called = static [] (A_maybe leaf); cells = a_cell 1 leaf (mine 4) ∷ [] }
    ∷ record (fails (call This 1 2 2) []) { called = static (Takes_own leaf ∷ []) (An_own leaf); cells = a_cell 1 leaf (mine 2) ∷ [] }
    -- no register is asked for where nothing comes to one
    ∷ record (fails (call This 1 2 4) []) { called = static [] Nothing; cells = a_cell 1 leaf (mine 4) ∷ [] }
    ∷ record (fails (call This 1 2 4) []) { called = static [] (Left 0); cells = a_cell 1 leaf (mine 4) ∷ [] }
    -- arguments are asked for first
    ∷ record (fails (call This 1 2 4) (WrongKind ∷ Orphan ∷ [])) { called = static (Takes_word ∷ []) A_word; cells = a_cell 1 leaf (mine 4) ∷ [] }
    ∷ []

-- nor does the register of a trap's code
abbrev pub code_cases : List Case
code_cases =
    record (fails (Trap This 1 2 4) []) { cells = a_cell 1 leaf (mine 4) ∷ [] }
    ∷ record (fails (Trap This 1 2 4) (Orphan ∷ [])) { cells = a_cell 1 leaf (mine 5) ∷ [] }
    ∷ record (fails (Trap This 1 2 4) (Orphan ∷ [])) { called = static [] A_word; cells = a_cell 1 leaf (mine 5) ∷ [] }
    ∷ record (fails (Trap This 1 5 4) []) { called = static (Takes_own leaf ∷ []) Nothing; cells = a_cell 1 leaf (mine 5) ∷ [] }
    ∷ record (fails (Call This 1 2 4) []) { called = static [] A_word; cells = a_cell 1 leaf (mine 5) ∷ [] }
    ∷ []

-- each need of a call, or of a trap, can fail
pub record CallingNeedsFail (call : Calling) : Type 0 where
  pub this : AllComeOut (this_cases call)
  pub registers : AllComeOut (register_cases call)
  pub fields : AllComeOut (on_field_cases call)
  pub entries : AllComeOut (entry_cases call)
  pub arguments : AllComeOut (argument_cases call)
  pub results : AllComeOut (result_cases call)

pub record CallNeedsFail : Type 0 where
  pub calls : CallingNeedsFail Call
  pub traps : CallingNeedsFail Trap
  pub codes : AllComeOut code_cases
