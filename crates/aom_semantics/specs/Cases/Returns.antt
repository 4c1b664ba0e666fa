-- The needs of a return: of the result, of the cleanup stack, of the registers, and of what waits for it.
use Rattle.std.specs.Prelude.{ℕ, ℤ, pos, List, [], ◌∷◌, ◌++◌, None, Some}
use Rattle.aom_instructions.specs.declared.instr.Instr.TheVariants.{Return}
use Rattle.aom_image.specs.declared.method.Gives.{Gives}
use Rattle.aom_image.specs.declared.method.Gives.TheVariants.{Nothing, Word as A_word, Own as An_own, Maybe as A_maybe, Left}
use Rattle.aom_image.specs.declared.method.Thing.TheVariants.{Message}
use Rattle.aom_image.specs.declared.method.Role.{Role}
use Rattle.aom_image.specs.declared.method.Role.TheVariants.{Cancel, Destruct, Do}
use Rattle.aom_semantics.specs.Requests.{cancelled_code, pending}
use Rattle.aom_semantics.specs.Places.{Aborted, Active, Cancelling, Elsewhere, Entry, Field, Idle, Issued, Phase, Place, Register, Root}
use Rattle.aom_semantics.specs.State.{Static, frame_of, Task, Run, Trapped, Destroy, Unwind, Dispatched, Of_main, An_object, An_operation, A_mark, Stuck, ActiveDestroyed, CancelHang, Unbalanced, MessageLost, Orphan, NullOrDead, WrongKind}
use Rattle.aom_semantics.specs.Cases.Building.{child, leaf, pair, waiter, seven, a_cell, at_bottom, mine, inside, Case, fails, AllComeOut}

-- a method that waits for another
abbrev pub waits : Task
waits = Run (frame_of 0 Static 1)

-- a method that gives this returns to it
abbrev pub return_case : Gives → List Stuck → Case
return_case gives kinds = record (fails (Return 0) kinds) { gives = gives; below = waits ∷ at_bottom }

-- a register of the method that returns
abbrev pub its : ℕ → Place
its r = Register 3 r

abbrev pub given_cases : List Case
given_cases =
    return_case Nothing []
    -- a word
    ∷ record (return_case A_word []) { words = seven ∷ [] }
    ∷ return_case A_word (WrongKind ∷ [])
    -- an object: the register has a word, is null, or owns another thing
    ∷ record (return_case (An_own leaf) []) { cells = a_cell 1 leaf (its 0) ∷ [] }
    ∷ record (return_case (An_own leaf) (WrongKind ∷ [])) { words = seven ∷ []; cells = a_cell 1 leaf (its 0) ∷ [] }
    ∷ return_case (An_own leaf) (NullOrDead ∷ [])
    ∷ record (return_case (An_own leaf) (WrongKind ∷ [])) { cells = a_cell 1 pair (its 0) ∷ [] }
    ∷ record (return_case (An_own leaf) (WrongKind ∷ NullOrDead ∷ [])) { words = seven ∷ [] }
    -- an object or null
    ∷ return_case (A_maybe leaf) []
    ∷ record (return_case (A_maybe leaf) []) { cells = a_cell 1 leaf (its 0) ∷ [] }
    ∷ record (return_case (A_maybe leaf) (WrongKind ∷ [])) { words = seven ∷ [] }
    ∷ record (return_case (A_maybe leaf) (WrongKind ∷ [])) { cells = a_cell 1 Message (its 0) ∷ [] }
    ∷ []

-- the cleanup stack is as high as at first: it has an item less, or one more
abbrev pub level_cases : Case → List Case
level_cases good =
    good
    ∷ record good { items = []; unmet = Unbalanced ∷ [] }
    ∷ record good { items = An_object ∷ A_mark ∷ []; unmet = Unbalanced ∷ [] }
    ∷ []

-- where an object is left, just one more item lies there, and it owns an object of that class
abbrev pub left_cases : List Case
left_cases =
    record (return_case (Left 0) []) { items = An_object ∷ A_mark ∷ []; cells = a_cell 1 leaf (Entry 1) ∷ [] }
    ∷ return_case (Left 0) (Unbalanced ∷ [])
    ∷ record (return_case (Left 0) (Unbalanced ∷ [])) { items = [] }
    ∷ record (return_case (Left 0) (Unbalanced ∷ [])) { items = A_mark ∷ A_mark ∷ []; cells = a_cell 1 leaf (Entry 1) ∷ [] }
    ∷ record (return_case (Left 0) (Unbalanced ∷ [])) { items = An_operation 1 (pos 7) ∷ A_mark ∷ []; cells = a_cell 1 leaf (Entry 1) ∷ [] }
    ∷ record (return_case (Left 0) (Unbalanced ∷ [])) { items = An_object ∷ An_object ∷ A_mark ∷ []; cells = a_cell 1 leaf (Entry 2) ∷ [] }
    ∷ record (return_case (Left 0) (Unbalanced ∷ [])) { items = An_object ∷ A_mark ∷ [] }
    ∷ record (return_case (Left 0) (Unbalanced ∷ [])) { items = An_object ∷ A_mark ∷ []; cells = a_cell 1 pair (Entry 1) ∷ [] }
    ∷ []

-- no register is left that owns, but for the result's
abbrev pub owner_cases : List Case
owner_cases =
    record (return_case Nothing (Orphan ∷ [])) { cells = a_cell 1 leaf (its 0) ∷ [] }
    ∷ record (return_case Nothing (Orphan ∷ [])) { cells = a_cell 1 leaf (its 3) ∷ [] }
    -- one of the method that waits may
    ∷ record (return_case Nothing []) { cells = a_cell 1 leaf (mine 3) ∷ [] }
    ∷ record (return_case A_word (Orphan ∷ [])) { words = seven ∷ []; cells = a_cell 1 leaf (its 0) ∷ [] }
    ∷ record (return_case (An_own leaf) (Orphan ∷ [])) { cells = a_cell 1 leaf (its 0) ∷ a_cell 2 leaf (its 3) ∷ [] }
    ∷ record (return_case (A_maybe leaf) (Orphan ∷ [])) { cells = a_cell 2 leaf (its 3) ∷ [] }
    ∷ record (return_case (Left 0) (Orphan ∷ [])) { items = An_object ∷ A_mark ∷ []; cells = a_cell 1 leaf (Entry 1) ∷ a_cell 2 leaf (its 3) ∷ [] }
    -- the result is asked for first, then the cleanup stack
    ∷ record (return_case A_word (WrongKind ∷ Unbalanced ∷ Orphan ∷ [])) { items = []; cells = a_cell 1 leaf (its 0) ∷ [] }
    ∷ []

-- a method that gives nothing ends over these tasks
abbrev pub ends_over : List Task → List Stuck → Case
ends_over below kinds = record (fails (Return 0) kinds) { below = below }

-- what waits for the end of the method: a method, its trap or that of a dispatch, a destruction or a leave
abbrev pub waiting_cases : List Case
waiting_cases =
    ends_over (waits ∷ at_bottom) []
    ∷ ends_over (Trapped ∷ waits ∷ at_bottom) []
    ∷ ends_over at_bottom []
    ∷ record (ends_over (Destroy ∷ at_bottom) []) { receiver = inside pair }
    ∷ ends_over (Unwind (pos 7) ∷ at_bottom) []
    -- nothing waits for it, or what stands below waits for no method
    ∷ ends_over [] (Unbalanced ∷ [])
    ∷ ends_over (Dispatched Of_main ∷ []) (Unbalanced ∷ [])
    ∷ ends_over (Trapped ∷ []) (Unbalanced ∷ [])
    ∷ ends_over (Trapped ∷ at_bottom) (Unbalanced ∷ [])
    ∷ ends_over (Trapped ∷ Destroy ∷ at_bottom) (Unbalanced ∷ [])
    ∷ ends_over (Trapped ∷ Unwind (pos 7) ∷ at_bottom) (Unbalanced ∷ [])
    -- a trap's mark is not the last item
    ∷ record (ends_over (Trapped ∷ waits ∷ at_bottom) (Unbalanced ∷ [])) { items = An_object ∷ []; cells = a_cell 1 leaf (Entry 0) ∷ [] }
    ∷ record (ends_over at_bottom (Unbalanced ∷ [])) { items = An_operation 1 (pos 7) ∷ [] }
    ∷ record (ends_over at_bottom (Unbalanced ∷ Unbalanced ∷ [])) { items = [] }
    -- a destructor works on a cell, and leaves no field that owns: an object there is an orphan, and a message is lost
    ∷ ends_over (Destroy ∷ at_bottom) (Orphan ∷ [])
    ∷ record (ends_over (Destroy ∷ at_bottom) (Orphan ∷ [])) { receiver = inside pair; cells = a_cell 1 leaf (Field 9 0) ∷ [] }
    ∷ record (ends_over (Destroy ∷ at_bottom) (MessageLost ∷ [])) { receiver = inside pair; cells = a_cell 1 Message (Field 9 1) ∷ [] }
    ∷ record (ends_over (Destroy ∷ at_bottom) (Orphan ∷ MessageLost ∷ [])) { receiver = inside pair; cells = a_cell 1 Message (Field 9 1) ∷ a_cell 2 leaf (Field 9 0) ∷ [] }
    ∷ record (ends_over (Destroy ∷ at_bottom) []) { receiver = inside pair; cells = a_cell 1 leaf (Field 5 0) ∷ a_cell 2 Message (Field 5 1) ∷ [] }
    -- a child's leaves none past its parent's, whose destructor leaves none
    ∷ record (ends_over (Destroy ∷ at_bottom) []) { receiver = inside child; cells = a_cell 1 Message (Field 9 1) ∷ a_cell 2 leaf (Field 9 0) ∷ [] }
    ∷ record (ends_over (Destroy ∷ at_bottom) (Orphan ∷ [])) { receiver = inside child; cells = a_cell 1 leaf (Field 9 2) ∷ [] }
    ∷ record (ends_over (Destroy ∷ at_bottom) (Orphan ∷ [])) { receiver = inside child; class = Some 1; cells = a_cell 1 leaf (Field 9 0) ∷ [] }
    ∷ record (ends_over (Destroy ∷ at_bottom) (Orphan ∷ [])) { receiver = inside child; class = Some 1; cells = a_cell 1 leaf (Field 9 2) ∷ [] }
    ∷ []

-- a method of that role returns, and the request of what it works on is so far, with that status
abbrev pub asked : Role → Phase → ℤ → List Stuck → Case
asked role phase status kinds =
    record (return_case Nothing kinds) {
      role = role;
      receiver = inside waiter;
      cells = record (a_cell 9 waiter (Elsewhere Root)) { request = Some (record { order = 0; priority = pos 0; phase = phase; status = status; timer = None; token = None }) } ∷ [];
    }

-- a method that cancels has its request completed
abbrev pub hanging_cases : List Case
hanging_cases =
    asked Cancel Cancelling pending (CancelHang ∷ [])
    ∷ asked Cancel Active pending (CancelHang ∷ [])
    ∷ asked Cancel Aborted cancelled_code []
    ∷ asked Cancel Cancelling (pos 0) []
    ∷ asked Do Cancelling pending []
    ∷ record (asked Cancel Cancelling pending []) { cells = a_cell 9 waiter (Elsewhere Root) ∷ [] }
    -- the cleanup stack is asked for first, and what waits for it last
    ∷ record (asked Cancel Cancelling pending (Unbalanced ∷ CancelHang ∷ [])) { items = [] }
    ∷ record (asked Cancel Cancelling pending (CancelHang ∷ Unbalanced ∷ [])) { below = [] }
    ∷ []

-- a destructor leaves no request that is issued, waited for or being cancelled, which is asked once the fields are
abbrev pub resting_case : Phase → List Stuck → Case
resting_case phase kinds = record (asked Destruct phase (pos 0) kinds) { below = Destroy ∷ at_bottom }

abbrev pub resting_cases : List Case
resting_cases =
    resting_case Idle []
    ∷ resting_case Issued (ActiveDestroyed ∷ [])
    ∷ resting_case Active (ActiveDestroyed ∷ [])
    ∷ resting_case Cancelling (ActiveDestroyed ∷ [])
    ∷ resting_case Aborted (ActiveDestroyed ∷ [])
    ∷ record (resting_case Active []) { cells = a_cell 9 waiter (Elsewhere Root) ∷ [] }
    ∷ record (resting_case Active (Orphan ∷ ActiveDestroyed ∷ [])) { cells = a_cell 1 leaf (Field 9 0) ∷ (resting_case Active []).cells }
    -- no other method is asked so
    ∷ asked Destruct Active (pos 0) []
    ∷ []

-- each need of a return can fail
pub record ReturnNeedsFail : Type 0 where
  pub given : AllComeOut given_cases
  pub level :
      AllComeOut (
      level_cases (return_case Nothing [])
      ++ (level_cases (record (return_case A_word []) { words = seven ∷ [] })
      ++ (level_cases (record (return_case (An_own leaf) []) { cells = a_cell 1 leaf (its 0) ∷ [] })
      ++ level_cases (return_case (A_maybe leaf) [])))
      )
  pub left : AllComeOut left_cases
  pub owners : AllComeOut owner_cases
  pub waiting : AllComeOut waiting_cases
  pub hanging : AllComeOut hanging_cases
  pub resting : AllComeOut resting_cases
