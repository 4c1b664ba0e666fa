-- The needs of the moves that are no instruction, and of the place where a method stands.
use Rattle.std.specs.Prelude.{pos, Bool, false, List, [], ◌∷◌, ◌≡◌, map, None, Some}
use Rattle.aom_image.specs.Image.{Image}
use Rattle.aom_instructions.specs.declared.instr.Instr.TheVariants.{Stop}
use Rattle.aom_image.specs.declared.method.Gives.TheVariants.{Nothing}
use Rattle.aom_image.specs.declared.method.Thing.TheVariants.{Message}
use Rattle.aom_semantics.specs.Places.{Cell, Entry, Field, Going, Phase, Idle, Issued, Active, Cancelling, Aborted}
use Rattle.aom_semantics.specs.State.{Static, frame_of, Task, Run, Trapped, Destroy, Unwind, Dispatched, Of_main, An_object, An_operation, A_mark, Outcome, State, Stuck, Unbalanced, ActiveDestroyed, MessageLost, Orphan, NullOrDead, WrongKind}
use Rattle.aom_semantics.specs.Moves.{step}
use Rattle.aom_semantics.specs.Cases.Building.{leaf, pair, waiter, a_method, a_cell, at_bottom, small_image, state_of, is_stuck_by, missed}

-- a state, and the kind in which the machine is stuck there, if it is
pub record Turning : Type 0 where
  pub kinds : List Stuck
  pub state : State

abbrev pub at : List Stuck → State → Turning
at kinds state = record { kinds = kinds; state = state }

-- two methods of one instruction each
abbrev pub an_image : Image
an_image = small_image (a_method None [] Nothing (Stop ∷ [])) (a_method None [] Nothing (Stop ∷ []))

-- after one move of small methods
abbrev pub moved_on : Image → State → Outcome
moved_on p s = step p (record { name = 99; refused = false; answer = pos 0 }) s

abbrev pub turns : Turning → Bool
turns c = is_stuck_by c.kinds (moved_on an_image c.state)

abbrev pub AllTurn : List Turning → Type 0
AllTurn cases = missed 0 (map turns cases) ≡ []

abbrev pub runs : Task
runs = Run (frame_of 0 Static 1)

-- a cell goes beside these
abbrev pub goes_beside : Cell → List Cell → List Stuck → Turning
goes_beside c others kinds = at kinds (state_of (Destroy ∷ at_bottom) (c ∷ others) (A_mark ∷ []))

-- an object that is enlisted, with its request in that phase
abbrev pub requesting : Phase → Cell
requesting phase = record (a_cell 1 waiter (Going 2)) { request = Some (record { order = 0; priority = pos 0; phase = phase; status = pos 0; timer = None; token = None }) }

abbrev pub goes_in : Phase → List Stuck → Turning
goes_in phase kinds = goes_beside (requesting phase) [] kinds

-- a pair goes while these are owned
abbrev pub goes_with : List Cell → List Stuck → Turning
goes_with others kinds = goes_beside (a_cell 1 pair (Going 2)) others kinds

-- a cell goes: it is there, no field of it owns an object or a message, in this order, and then it has no request
abbrev pub going_cases : List Turning
going_cases =
    goes_with [] []
    ∷ goes_with (a_cell 2 leaf (Field 3 0) ∷ []) []
    ∷ goes_with (a_cell 2 Message (Field 3 1) ∷ []) []
    ∷ at (NullOrDead ∷ []) (state_of (Destroy ∷ at_bottom) [] (A_mark ∷ []))
    ∷ at (NullOrDead ∷ []) (state_of (Destroy ∷ at_bottom) (a_cell 1 pair (Going 3) ∷ []) (A_mark ∷ []))
    ∷ goes_with (a_cell 2 leaf (Field 1 0) ∷ []) (Orphan ∷ [])
    ∷ goes_with (a_cell 2 Message (Field 1 1) ∷ []) (MessageLost ∷ [])
    ∷ at (MessageLost ∷ []) (state_of (Destroy ∷ at_bottom) (a_cell 2 Message (Field 1 1) ∷ a_cell 1 pair (Going 2) ∷ []) (A_mark ∷ []))
    ∷ goes_with (a_cell 2 Message (Field 1 1) ∷ a_cell 3 leaf (Field 1 0) ∷ []) (Orphan ∷ [])
    ∷ goes_beside (requesting Active) (a_cell 2 leaf (Field 1 0) ∷ []) (Orphan ∷ [])
    ∷ goes_beside (requesting Active) (a_cell 2 Message (Field 1 0) ∷ []) (MessageLost ∷ [])
    ∷ goes_in Idle []
    ∷ goes_in Issued (ActiveDestroyed ∷ [])
    ∷ goes_in Active (ActiveDestroyed ∷ [])
    ∷ goes_in Cancelling (ActiveDestroyed ∷ [])
    ∷ goes_in Aborted (ActiveDestroyed ∷ [])
    ∷ []

-- a leave unwinds: an object's item owns one, and under the entries lies a mark
abbrev pub unwinding_cases : List Turning
unwinding_cases =
    at [] (state_of (Unwind (pos 7) ∷ at_bottom) (a_cell 1 leaf (Entry 1) ∷ []) (An_object ∷ A_mark ∷ []))
    ∷ at [] (state_of (Unwind (pos 7) ∷ at_bottom) [] (An_operation 1 (pos 7) ∷ A_mark ∷ []))
    ∷ at (NullOrDead ∷ []) (state_of (Unwind (pos 7) ∷ at_bottom) [] (An_object ∷ A_mark ∷ []))
    ∷ at (NullOrDead ∷ []) (state_of (Unwind (pos 7) ∷ at_bottom) (a_cell 1 leaf (Entry 0) ∷ []) (An_object ∷ A_mark ∷ []))
    ∷ at (Unbalanced ∷ []) (state_of (Unwind (pos 7) ∷ at_bottom) [] [])
    ∷ []

abbrev pub arriving : List Task → State
arriving below = state_of (Unwind (pos 7) ∷ below) [] (A_mark ∷ [])

-- its code arrives at a method's trap or a dispatch's, and nowhere else
abbrev pub arrival_cases : List Turning
arrival_cases =
    at [] (arriving at_bottom)
    ∷ at [] (arriving (Trapped ∷ runs ∷ at_bottom))
    ∷ at (Unbalanced ∷ []) (arriving [])
    ∷ at (Unbalanced ∷ []) (arriving (runs ∷ at_bottom))
    ∷ at (Unbalanced ∷ []) (arriving (Destroy ∷ at_bottom))
    ∷ at (Unbalanced ∷ []) (arriving (Unwind (pos 7) ∷ at_bottom))
    ∷ at (Unbalanced ∷ []) (arriving (Dispatched Of_main ∷ []))
    ∷ at (Unbalanced ∷ []) (arriving (Trapped ∷ []))
    ∷ at (Unbalanced ∷ []) (arriving (Trapped ∷ at_bottom))
    ∷ at (Unbalanced ∷ []) (arriving (Trapped ∷ Destroy ∷ at_bottom))
    ∷ at (Unbalanced ∷ []) (arriving (Trapped ∷ Unwind (pos 7) ∷ at_bottom))
    ∷ []

-- a trap alone waits for nothing
abbrev pub trap_cases : List Turning
trap_cases =
    at (Unbalanced ∷ []) (state_of at_bottom [] (A_mark ∷ []))
    ∷ at (Unbalanced ∷ []) (state_of (Trapped ∷ runs ∷ at_bottom) [] (A_mark ∷ A_mark ∷ []))
    ∷ []

-- a method stands at an instruction
abbrev pub standing_cases : List Turning
standing_cases =
    at [] (state_of (runs ∷ at_bottom) [] (A_mark ∷ []))
    ∷ at (WrongKind ∷ []) (state_of (Run (record (frame_of 0 Static 1) { place = 1 }) ∷ at_bottom) [] (A_mark ∷ []))
    ∷ at (WrongKind ∷ []) (state_of (Run (frame_of 2 Static 1) ∷ at_bottom) [] (A_mark ∷ []))
    ∷ []

-- each need of a move can fail
pub record MoveNeedsFail : Type 0 where
  pub going : AllTurn going_cases
  pub unwinding : AllTurn unwinding_cases
  pub arrival : AllTurn arrival_cases
  pub traps : AllTurn trap_cases
  pub standing : AllTurn standing_cases
