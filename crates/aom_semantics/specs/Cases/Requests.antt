-- The needs of instructions on the request of what a method works on.
use Rattle.std.specs.Prelude.{pos, List, [], ◌∷◌, ◌++◌, None, Some}
use Rattle.aom_instructions.specs.declared.instr.Instr.{Instr}
use Rattle.aom_instructions.specs.declared.instr.Instr.TheVariants.{JumpActive, JumpAdded, Enlist, Issue, SetActive, Cancel, Abort, Status}
use Rattle.aom_semantics.specs.Places.{Cell, Phase, Idle, Issued, Active, Cancelling, Aborted, Elsewhere, Root}
use Rattle.aom_semantics.specs.State.{AtRoot, Stuck, AddedWrong, AlreadyActive, Orphan, RequestOverlap, WrongKind}
use Rattle.aom_semantics.specs.Cases.Building.{leaf, pair, waiter, keeper, seven, a_cell, mine, inside, Case, fails, AllComeOut}

-- the object that a method works on, enlisted with its request so far
abbrev pub listed : Phase → List Cell
listed phase = record (a_cell 9 waiter (Elsewhere Root)) { request = Some (record { order = 0; priority = pos 0; phase = phase; status = pos 0; timer = None; token = None }) } ∷ []

-- a method of an active object that is not enlisted, and of one whose request is so far
abbrev pub unlisted_case : Instr → List Stuck → Case
unlisted_case i kinds = record (fails i kinds) { receiver = inside waiter; words = seven ∷ seven ∷ []; cells = a_cell 9 waiter (Elsewhere Root) ∷ [] }

abbrev pub listed_case : Instr → Phase → List Stuck → Case
listed_case i phase kinds = record (unlisted_case i kinds) { cells = listed phase }

-- in a static method, in main, and on objects of other classes
abbrev pub elsewhere_cases : Instr → List Stuck → List Case
elsewhere_cases i kinds =
    record (fails i kinds) { words = seven ∷ seven ∷ [] }
    ∷ record (fails i kinds) { receiver = AtRoot; words = seven ∷ seven ∷ [] }
    ∷ record (fails i kinds) { receiver = inside pair; words = seven ∷ seven ∷ [] }
    ∷ []

-- what reads the request alone
abbrev pub reading_cases : List Case
reading_cases =
    unlisted_case (JumpActive 0) []
    ∷ listed_case (JumpActive 0) Active []
    ∷ record (unlisted_case (JumpActive 0) (WrongKind ∷ [])) { receiver = inside keeper }
    ∷ unlisted_case (JumpAdded 0) []
    ∷ record (unlisted_case (JumpAdded 0) []) { receiver = inside keeper }
    ∷ record (unlisted_case (Status 0) []) { words = [] }
    ∷ record (unlisted_case (Status 0) (WrongKind ∷ [])) { receiver = inside keeper }
    -- what is written owns
    ∷ record (unlisted_case (Status 0) (Orphan ∷ [])) { cells = a_cell 1 leaf (mine 0) ∷ [] }
    -- which is asked for before the class
    ∷ record (unlisted_case (Status 0) (Orphan ∷ WrongKind ∷ [])) { receiver = inside pair; cells = a_cell 1 leaf (mine 0) ∷ [] }
    ∷ (elsewhere_cases (JumpActive 0) (WrongKind ∷ []) ++ (elsewhere_cases (JumpAdded 0) (WrongKind ∷ []) ++ elsewhere_cases (Status 0) (WrongKind ∷ [])))

abbrev pub enlist_cases : List Case
enlist_cases =
    unlisted_case (Enlist (pos 0)) []
    ∷ record (unlisted_case (Enlist (pos 0)) []) { receiver = inside keeper }
    ∷ listed_case (Enlist (pos 0)) Idle (AddedWrong ∷ [])
    ∷ elsewhere_cases (Enlist (pos 0)) (WrongKind ∷ [])

abbrev pub issue_cases : List Case
issue_cases =
    listed_case (Issue 0 1) Idle []
    ∷ unlisted_case (Issue 0 1) (AddedWrong ∷ RequestOverlap ∷ [])
    ∷ listed_case (Issue 0 1) Issued (RequestOverlap ∷ [])
    ∷ listed_case (Issue 0 1) Active (RequestOverlap ∷ [])
    ∷ listed_case (Issue 0 1) Cancelling (RequestOverlap ∷ [])
    ∷ listed_case (Issue 0 1) Aborted (RequestOverlap ∷ [])
    -- the words are asked for first
    ∷ record (listed_case (Issue 0 1) Idle (WrongKind ∷ [])) { words = seven ∷ [] }
    ∷ record (listed_case (Issue 0 1) Active (WrongKind ∷ WrongKind ∷ RequestOverlap ∷ [])) { words = [] }
    ∷ elsewhere_cases (Issue 0 1) (WrongKind ∷ AddedWrong ∷ RequestOverlap ∷ [])

abbrev pub set_active_cases : List Case
set_active_cases =
    listed_case SetActive Issued []
    ∷ unlisted_case SetActive (AddedWrong ∷ RequestOverlap ∷ [])
    ∷ listed_case SetActive Idle (RequestOverlap ∷ [])
    ∷ listed_case SetActive Active (AlreadyActive ∷ RequestOverlap ∷ [])
    ∷ listed_case SetActive Cancelling (RequestOverlap ∷ [])
    ∷ listed_case SetActive Aborted (RequestOverlap ∷ [])
    ∷ elsewhere_cases SetActive (WrongKind ∷ AddedWrong ∷ RequestOverlap ∷ [])

-- what is idle, or not enlisted, is left alone
abbrev pub cancel_cases : List Case
cancel_cases =
    unlisted_case Cancel []
    -- what cancels works on an object
    ∷ fails Cancel (WrongKind ∷ [])
    ∷ listed_case Cancel Idle []
    ∷ listed_case Cancel Active []
    ∷ listed_case Cancel Issued (RequestOverlap ∷ [])
    ∷ listed_case Cancel Cancelling (RequestOverlap ∷ [])
    ∷ listed_case Cancel Aborted (RequestOverlap ∷ [])
    ∷ elsewhere_cases Cancel (WrongKind ∷ [])

abbrev pub abort_cases : List Case
abort_cases =
    listed_case Abort Cancelling []
    ∷ listed_case Abort Aborted []
    ∷ unlisted_case Abort (WrongKind ∷ [])
    ∷ listed_case Abort Idle (WrongKind ∷ [])
    ∷ listed_case Abort Issued (WrongKind ∷ [])
    ∷ listed_case Abort Active (WrongKind ∷ [])
    ∷ elsewhere_cases Abort (WrongKind ∷ WrongKind ∷ [])

-- each need of an instruction on requests can fail
pub record RequestNeedsFail : Type 0 where
  pub reading : AllComeOut reading_cases
  pub enlisting : AllComeOut enlist_cases
  pub issuing : AllComeOut issue_cases
  pub waiting : AllComeOut set_active_cases
  pub cancelling : AllComeOut cancel_cases
  pub aborting : AllComeOut abort_cases
