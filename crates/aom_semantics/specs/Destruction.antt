-- Destruction: a cell is at hand from here on, its destructor runs first, and then the cell goes.
use Rattle.std.specs.Prelude.{ℕ, nat_le, Bool, true, false, not, ◌&&◌, ◌==◌, List, [], ◌∷◌, ◌++◌, Option, Some, None, length, cond}
use Rattle.aom_image.specs.Image.{Image}
use Rattle.aom_image.specs.Views.{method_class}
use Rattle.aom_image.specs.declared.method.Role.TheVariants.{Destruct}
use Rattle.aom_image.specs.declared.method.Thing.{Thing}
use Rattle.aom_roles.specs.Things.{is_object}
use Rattle.aom_roles.specs.Families.{parent_above}
use Rattle.aom_link_conditions.specs.Roles.{destructor_of, role_of}
use Rattle.aom_semantics.specs.Clients.{each_slot_released, queue_ended, sessions_ended}
use Rattle.aom_semantics.specs.Servers.{is_server, without_queue}
use Rattle.aom_semantics.specs.Requests.{is_idle}
use Rattle.aom_semantics.specs.Places.{Place, Register, Entry, Field, Going, Elsewhere, Object, Cell, Request, requested, without, Session, other_cell, service_of, held, moved}
use Rattle.aom_semantics.specs.State.{AtRoot, Receiver, Inside, Static, Task, Frame, Run, Destroy, frame_as, State, Outcome, Need, IsStuck, MessageLost, Orphan, NullOrDead, ActiveDestroyed, guarded, resumed, Closing, OwnedObject, Goes, Unbalanced}

abbrev pub class_destructor : Image → Option ℕ → Option ℕ
class_destructor p None = None
class_destructor p (Some c) = role_of p c Destruct

-- the destructor that runs after this one: that of the nearest class above its own which has one
abbrev pub next_destructor : Image → ℕ → Option ℕ
next_destructor p m = class_destructor p (parent_above p m)

-- a destructor on an object that is at hand over so many tasks: while it runs the object counts as the destructor's class
abbrev pub destructor_frame : Image → ℕ → Object → ℕ → ℕ → Frame
destructor_frame p m o depth height = frame_as m (Inside o (Going depth)) (method_class p m) height

abbrev pub begun_by : Image → Option ℕ → Object → ℕ → List Task → List Task
begun_by p None o height below = Destroy ∷ below
begun_by p (Some m) o height below = Run (destructor_frame p m o (length below) height) ∷ Destroy ∷ below

-- its destructor begins over these tasks, at that height of the cleanup stack
abbrev pub destructed : Image → Object → ℕ → List Task → List Task
destructed p o height below = begun_by p (destructor_of p o.thing) o height below

-- the destruction of an object begins, of a server with its sessions
abbrev pub begun : Image → Object → ℕ → List Task → List Task
begun p o height below = cond (is_server p o.thing) (Closing ∷ Destroy ∷ below) (destructed p o height below)

abbrev pub is_of_cell : ℕ → Option ℕ → Bool
is_of_cell n None = false
is_of_cell n (Some m) = n == m

abbrev pub is_field_of : ℕ → Place → Bool
is_field_of n (Register f r) = false
is_field_of n (Entry k) = false
is_field_of n (Field m f) = n == m
is_field_of n (Going k) = false
is_field_of n (Elsewhere o) = is_of_cell n (other_cell o)

-- no field of that cell owns
abbrev pub owns_nothing : List Cell → ℕ → Bool
owns_nothing [] n = true
owns_nothing (c ∷ cs) n = not (is_field_of n c.owner) && owns_nothing cs n

-- no field of that cell owns such a thing
abbrev pub owns_none : (Thing → Bool) → List Cell → ℕ → Bool
owns_none such [] n = true
owns_none such (c ∷ cs) n = not (is_field_of n c.owner && such c.object.thing) && owns_none such cs n

abbrev pub owns_no_object : List Cell → ℕ → Bool
owns_no_object cs n = owns_none is_object cs n

abbrev pub owns_no_message : List Cell → ℕ → Bool
owns_no_message cs n = owns_none (λ t. not (is_object t)) cs n

-- an object that is left in a field is an orphan, and then a message there is lost
abbrev pub needs_emptied : List Cell → ℕ → List Need
needs_emptied cs n = (owns_no_object cs n, Orphan) ∷ (owns_no_message cs n, MessageLost) ∷ []

-- the object has no request that is issued, waited for or being cancelled
abbrev pub is_at_rest : Option Request → Bool
is_at_rest None = true
is_at_rest (Some r) = is_idle r.phase

-- as a destructor of an object ends, and as its cell goes, its request is at rest
abbrev pub needs_rest : List Cell → ℕ → Need
needs_rest cs n = (is_at_rest (requested cs n), ActiveDestroyed)

-- what the going of a cell needs: first of its fields, then of its request
abbrev pub needs_gone : List Cell → Object → List Need
needs_gone cs o = needs_emptied cs o.name ++ (needs_rest cs o.name ∷ [])

-- a cell is gone, with what waits in its queue where it is a server
abbrev pub reclaimed : Object → List Task → State → State
reclaimed o ts s =
    let left = without_queue o.name s.cells in
    let service = service_of s.cells o.name in
    record s {
      cells = each_slot_released service.sessions (without (Going (length ts)) left);
      tasks = resumed ts;
      clients = sessions_ended service.sessions (queue_ended service.queue s.clients);
    }

abbrev pub gone : Option Object → List Task → State → Outcome
gone None ts s = IsStuck NullOrDead
gone (Some o) ts s = guarded (needs_gone (without_queue o.name s.cells) o) (reclaimed o ts s)

-- a destructor is over: the next of the line begins on the same object, or the cell goes next
abbrev pub line_on : Image → ℕ → Receiver → ℕ → List Task → List Task
line_on p m Static height below = Destroy ∷ below
line_on p m AtRoot height below = Destroy ∷ below
line_on p m (Inside o from) height below = begun_by p (next_destructor p m) o height below

-- ---- what a destructor leaves

-- that place is a field of that cell past so many, or another place of the cell's
abbrev pub is_past : ℕ → ℕ → Place → Bool
is_past k n (Register f r) = false
is_past k n (Entry j) = false
is_past k n (Field m f) = (n == m) && nat_le k f
is_past k n (Going j) = false
is_past k n (Elsewhere o) = is_of_cell n (other_cell o)

-- no field of that cell past so many owns such a thing
abbrev pub owns_none_past : ℕ → (Thing → Bool) → List Cell → ℕ → Bool
owns_none_past k such [] n = true
owns_none_past k such (c ∷ cs) n = not (is_past k n c.owner && such c.object.thing) && owns_none_past k such cs n

-- an object that is left there is an orphan, and then a message there is lost
abbrev pub needs_past : ℕ → List Cell → ℕ → List Need
needs_past k cs n = (owns_none_past k is_object cs n, Orphan) ∷ (owns_none_past k (λ t. not (is_object t)) cs n, MessageLost) ∷ []

-- ---- the sessions of a server

abbrev pub owned_object_or : Option Object → Place → Option OwnedObject → Option OwnedObject
owned_object_or None place others = others
owned_object_or (Some o) place others = Some (record { object = o; place = place })

-- the first of these clients' sessions that is there
abbrev pub first_session : List Cell → ℕ → List ℕ → Option OwnedObject
first_session cs n [] = None
first_session cs n (c ∷ clients) = owned_object_or (held cs (Elsewhere (Session n c))) (Elsewhere (Session n c)) (first_session cs n clients)

-- it goes before its server, in order of connection; where none is left the destructor begins
abbrev pub parting : Image → Object → Option OwnedObject → List Task → State → State
parting p o None below s = record s { tasks = destructed p o (length s.items) below }
parting p o (Some x) below s =
    record s {
      cells = moved x.place (Going (length (Closing ∷ Destroy ∷ below))) s.cells;
      tasks = begun p x.object (length s.items) (Closing ∷ Destroy ∷ below);
    }

abbrev pub parting_from : Image → Option Object → List Task → State → Outcome
parting_from p None below s = IsStuck NullOrDead
parting_from p (Some o) below s = Goes (parting p o (first_session s.cells o.name (service_of s.cells o.name).sessions) below s)

-- right over the going of a server
abbrev pub closing : Image → List Task → State → Outcome
closing p (Destroy ∷ below) s = parting_from p (held s.cells (Going (length below))) below s
closing p _ s = IsStuck Unbalanced
