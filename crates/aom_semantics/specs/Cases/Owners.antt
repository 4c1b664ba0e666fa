-- Who is a living owner, by closed states: at a caught leave, and at a dispatch's end.
use Rattle.std.specs.Prelude.{pos, List, [], ◌∷◌, None}
use Rattle.aom_image.specs.Image.{Image}
use Rattle.aom_image.specs.declared.method.Gives.TheVariants.{Nothing}
use Rattle.aom_image.specs.declared.method.Thing.TheVariants.{Message}
use Rattle.aom_semantics.specs.Places.{Place, Register, Entry, Field, Going, Elsewhere, Root, Cell, Session, In_service, Queued, Message_of, Service, unserved}
use Rattle.aom_semantics.specs.State.{Static, frame_of, Task, Run, Trapped, Destroy, Closing, Unwind, Dispatched, Of_main, Of_object, Of_server, Stage, Accepts, Serves, Service_left, Disconnects, Item, An_object, An_operation, A_mark}
use Rattle.aom_semantics.specs.Owned.{Owned}
use Rattle.aom_semantics.specs.Cases.Building.{leaf, pair, a_method, a_cell, at_bottom, small_image, state_of}
use Rattle.aom_semantics.specs.Cases.Servers.{a_server, a_session, asked, its_session, owned_object}

abbrev pub an_image : Image
an_image = small_image (a_method None [] Nothing []) (a_method None [] Nothing [])

-- the same without a root
abbrev pub rootless_image : Image
rootless_image = record an_image { header = record an_image.header { root = None } }

-- a leave is caught over a method that set its trap, over an operation and an object on the cleanup stack
abbrev pub caught_tasks : List Task
caught_tasks = Unwind (pos 7) ∷ Trapped ∷ Run (frame_of 0 Static 1) ∷ at_bottom

abbrev pub caught_items : List Item
caught_items = A_mark ∷ An_operation 1 (pos 7) ∷ An_object ∷ A_mark ∷ []

-- a cell is owned so, beside a pair that the root owns
abbrev pub OwnedAt : Place → Type 0
OwnedAt place = Owned an_image (state_of caught_tasks (a_cell 1 leaf place ∷ a_cell 5 pair (Elsewhere Root) ∷ []) caught_items)

abbrev pub OwnedBy : Image → List Task → List Cell → Type 0
OwnedBy p tasks cells = Owned p (state_of tasks cells (A_mark ∷ []))

-- client 0 has a session with it
abbrev pub one_session : Service
one_session = record unserved { sessions = 0 ∷ [] }

-- a cell is owned so, beside a server of which clients have that
abbrev pub OwnedBeside : Service → Place → Type 0
OwnedBeside v place = OwnedBy an_image caught_tasks (a_cell 1 leaf place ∷ a_server v ∷ [])

-- a message is owned so at that stage of the server's dispatch, beside the session that serves
abbrev pub OwnedAtStage : Stage → Place → Type 0
OwnedAtStage stage place = OwnedBy an_image (Dispatched (Of_server owned_object 0 stage) ∷ []) (a_cell 1 Message place ∷ a_session ∷ a_server one_session ∷ [])

pub record OwnerNeedsFail : Type 0 where
  -- these own: a register of the method that waits, the object's item, a field of the pair, and the root
  pub register : OwnedAt (Register 2 15)
  pub item : OwnedAt (Entry 1)
  pub field : OwnedAt (Field 5 1)
  pub root : OwnedBy an_image caught_tasks (a_cell 5 pair (Elsewhere Root) ∷ [])
  -- no register of a frame that ended by the leave, and none where no frame stood
  pub dead_frame : OwnedAt (Register 4 0) → ⊥
  pub trap : OwnedAt (Register 3 0) → ⊥
  pub dispatch : OwnedAt (Register 0 5) → ⊥
  pub no_frame : OwnedAt (Register 9 0) → ⊥
  pub ended : OwnedBy an_image (Dispatched Of_main ∷ []) (a_cell 1 leaf (Register 0 5) ∷ []) → ⊥
  -- no register past those that a method has
  pub past_registers : OwnedAt (Register 2 16) → ⊥
  -- no mark, no operation, and nothing where no item lies
  pub mark : OwnedAt (Entry 3) → ⊥
  pub operation : OwnedAt (Entry 2) → ⊥
  pub no_item : OwnedAt (Entry 4) → ⊥
  -- no field past those of the class, and none of a cell that is gone
  pub past_fields : OwnedAt (Field 5 2) → ⊥
  pub gone : OwnedAt (Field 6 0) → ⊥
  -- no root where the image has none
  pub no_root : OwnedBy rootless_image caught_tasks (a_cell 5 pair (Elsewhere Root) ∷ []) → ⊥
  -- a server with a session of a client that is listed, and with a message in its queue; and the dispatch that serves a message
  pub of_session : OwnedBeside one_session (Elsewhere (Session 5 0))
  pub in_queue : OwnedBeside (asked (Message_of 0 1 ∷ [])) (Elsewhere (Queued 5 1))
  pub served : OwnedAtStage (Serves its_session) (Elsewhere In_service)
  pub left : OwnedAtStage (Service_left (pos 7)) (Elsewhere In_service)
  -- no session of a client that is not listed, nothing that does not wait, and nothing at a server that is gone
  pub unlisted : OwnedBeside one_session (Elsewhere (Session 5 1)) → ⊥
  pub not_queued : OwnedBeside (asked (Message_of 0 1 ∷ [])) (Elsewhere (Queued 5 2)) → ⊥
  pub of_none : OwnedBeside one_session (Elsewhere (Session 6 0)) → ⊥
  pub queue_of_none : OwnedBeside (asked (Message_of 0 1 ∷ [])) (Elsewhere (Queued 6 1)) → ⊥
  -- nothing in service where a connect or a close is served, or all is served
  pub accepting : OwnedAtStage Accepts (Elsewhere In_service) → ⊥
  pub parting : OwnedAtStage Disconnects (Elsewhere In_service) → ⊥
  pub all_served : OwnedBy an_image (Dispatched (Of_object owned_object) ∷ []) (a_cell 1 Message (Elsewhere In_service) ∷ a_server unserved ∷ []) → ⊥
  -- and where nobody is served no session, nothing in service and no queue
  pub session : OwnedAt (Elsewhere (Session 5 0)) → ⊥
  pub service : OwnedAt (Elsewhere In_service) → ⊥
  pub queue : OwnedAt (Elsewhere (Queued 5 1)) → ⊥
  -- no destruction, and while one is at hand nothing is as it must be
  pub going : OwnedBy an_image (Destroy ∷ at_bottom) (a_cell 1 leaf (Going 2) ∷ []) → ⊥
  pub destruction : OwnedBy an_image (Destroy ∷ at_bottom) [] → ⊥
  -- nor is one while sessions go before a server
  pub closing : OwnedBy an_image (Closing ∷ at_bottom) [] → ⊥
  -- no place owns two cells, whatever is owned beside them, and no two cells have one name
  pub side_by_side : OwnedBy an_image caught_tasks (a_cell 1 leaf (Field 5 0) ∷ a_cell 2 Message (Field 5 1) ∷ a_cell 5 pair (Elsewhere Root) ∷ [])
  pub together : OwnedBy an_image caught_tasks (a_cell 1 leaf (Field 5 0) ∷ a_cell 2 leaf (Field 5 0) ∷ a_cell 5 pair (Elsewhere Root) ∷ []) → ⊥
  pub at_the_root : OwnedBy an_image caught_tasks (a_cell 1 pair (Elsewhere Root) ∷ a_cell 2 pair (Elsewhere Root) ∷ []) → ⊥
  pub namesakes : OwnedBy an_image caught_tasks (a_cell 1 leaf (Field 5 0) ∷ a_cell 1 Message (Field 5 1) ∷ a_cell 5 pair (Elsewhere Root) ∷ []) → ⊥
  -- two cells that own each other have no end
  pub round : OwnedBy an_image caught_tasks (a_cell 1 pair (Field 2 0) ∷ a_cell 2 pair (Field 1 0) ∷ []) → ⊥
