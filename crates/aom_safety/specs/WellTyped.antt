-- The well-typed states: what the typing says of the methods at hand holds of the cells and their owners.
use Rattle.aom_image.specs.declared.method.Thing.TheVariants.{Object as An_object_of}
use Rattle.std.specs.Prelude.{IsSome, is_some, cond, IsTrue, List, None, Option, Some, [], false, length, suc, true, ℕ, ℤ, ◌<◌, ◌≤◌, ◌==◌, ◌∷◌, ◌≡◌, ◌⊎◌}
use Rattle.aom_image.specs.Image.{Image}
use Rattle.aom_image.specs.Views.{has, instr_at, method_at, method_role, method_class, arguments_of, is_quiet, leaves, gives_of}
use Rattle.aom_image.specs.declared.method.Argument.TheVariants.{Word as Takes_word}
use Rattle.aom_image.specs.declared.method.Role.TheVariants.{Undo}
use Rattle.aom_image.specs.declared.method.Gives.{Gives}
use Rattle.aom_image.specs.declared.method.Gives.TheVariants.{Nothing, Word as A_word, Own as An_own, Maybe as A_maybe, Left}
use Rattle.aom_roles.specs.Things.{Program, Holder, Member, is_subtype, field_thing, holder_of, word_count}
use Rattle.aom_roles.specs.Families.{descends}
use Rattle.aom_roles.specs.Shapes.{kind_of}
use Rattle.aom_abstract_state.specs.AbstractState.{AbstractState}
use Rattle.aom_abstract_state.specs.Kinds.{register, filled, is_unowning, is_ready_kind, none_owns}
use Rattle.aom_typing_rules.specs.Typing.{Typing, shape_at, Leads}
use Rattle.aom_typing_rules.specs.Calls.{brought, caught, is_destructor}
use Rattle.aom_typing_rules.specs.Requests.{unissued}
use Rattle.aom_abstract_state.specs.Arguments.{after_of}
use Rattle.aom_roles.specs.States.{idle, last_of}
use Rattle.aom_abstract_state.specs.declared.kind.InitState.{InitState}
use Rattle.aom_abstract_state.specs.declared.kind.InitState.TheVariants.{Fresh, Ready}
use Rattle.aom_abstract_state.specs.declared.kind.FieldState.TheVariants.{Perhaps}
use Rattle.aom_abstract_state.specs.declared.kind.Kind.{Kind}
use Rattle.aom_abstract_state.specs.declared.kind.Kind.TheVariants.{Unset, Word, Null, Own, Maybe}
use Rattle.aom_image.specs.declared.method.Thing.{Thing}
use Rattle.aom_roles.specs.Roles.{is_cancel}
use Rattle.aom_abstract_state.specs.declared.kind.MessageState.TheVariants.{Here}
use Rattle.aom_semantics.specs.Servers.{has_session, is_server, session_thing, is_among}
use Rattle.aom_semantics.specs.Places.{Cell, Elsewhere, Entry, Field, Going, Object, Other, Place, Register, Root, Session, CellView, NoDuplicates, held, named, other_cell, requested, same_place, seen, service_of}
use Rattle.aom_semantics.specs.State.{Receiver, Static, AtRoot, Inside, Frame, Dispatch, Of_main, Main_left, Of_root, Of_object, Object_left, Asks, Answered, OwnedObject, Item, An_object, An_operation, A_mark, word, State, Outcome, Goes, IsStuck, receiver_holder, thing_holder, Of_server, Stage, Accepts, Accepted, Accept_left, Serves, Service_left, Disconnects}
use Rattle.aom_semantics.specs.Calls.{result_register, called}
use Rattle.aom_safety.specs.Requests.{AllConformTo, Joins, states_claim, thing_kind, works_at}
use Rattle.aom_safety.specs.Claims.{is_of_root, Layer, Method, Mark, Dying, Unwinding, Dispatching, tasks_of, forms, items_of, claim, declared, Ending, serves}

-- fresh: all fields are null, and the object is not enlisted
abbrev pub HasAge : CellView → Object → InitState → Type 0
HasAge h o Fresh = ((f : ℕ) → h.holds (Field o.name f) ≡ None) × (h.requests o.name ≡ None)
HasAge h o Ready = Unit {0}

-- a kind holds of what a place holds
abbrev pub Fits : Image → CellView → Option Object → Kind → Type 0
Fits p h None Unset = Unit {0}
Fits p h None Word = Unit {0}
Fits p h None Null = Unit {0}
Fits p h None (Own t a) = ⊥
Fits p h None (Maybe t a) = Unit {0}
Fits p h (Some o) Unset = ⊥
Fits p h (Some o) Word = ⊥
Fits p h (Some o) Null = ⊥
Fits p h (Some o) (Own t a) = (is_subtype p o.thing t ≡ true) × HasAge h o a
Fits p h (Some o) (Maybe t a) = (is_subtype p o.thing t ≡ true) × HasAge h o a

-- a kind holds of a register's word
abbrev pub WordFits : Option ℤ → Kind → Type 0
WordFits w Unset = Unit {0}
WordFits None Word = ⊥
WordFits (Some w) Word = Unit {0}
WordFits w Null = w ≡ None
WordFits w (Own t a) = w ≡ None
WordFits w (Maybe t a) = w ≡ None

-- what the task above a method brings back to it
pub data Back : Type 0 where
  Now : Back
  Returns : (method : ℕ) (receiver : Receiver) → Back
  Caught : (gives : Gives) → Back
  Gone : Back
  Leaves : Back

-- below a method that cancels none cancels the same object
abbrev pub IsAlone : Image → Receiver → List Layer → Type 0
IsAlone p Static ls = Unit {0}
IsAlone p AtRoot ls = Unit {0}
IsAlone p (Inside o from) ls = (states_claim p o ls).cancelled ≡ false

-- right below stands the dispatch of a server that serves a message, with its trap
abbrev pub IsServed : List Layer → Type 0
IsServed (Mark gv ∷ Dispatching (Of_server x client (Serves o)) owned_chain ∷ ls) = Unit {0}
IsServed ls = ⊥

-- a method that serves stands right over its dispatch, and no other does
abbrev pub HasMessage : Image → Frame → List Layer → Type 0
HasMessage p fr ls = (serves p fr.method ≡ true → IsServed ls) × (IsServed ls → serves p fr.method ≡ true)

-- what is worked on has all that the method's class declares: it is of that class, or descends from it; and what works on an object is of a class
pub record ReceiverConforms (p : Image) (h k : Holder) : Type 0 where
  pub fields : (f : ℕ) (t : Thing) → field_thing p k f ≡ Some t → field_thing p h f ≡ Some t
  pub words : word_count p k ≤ word_count p h
  pub member : (d : ℕ) → k ≡ Member d → (c : ℕ) × (h ≡ Member c) × (descends p c d ≡ true) × (kind_of p (Some c) ≡ kind_of p (Some d))
  pub works : (c : ℕ) → h ≡ Member c → (d : ℕ) × (k ≡ Member d)

-- whose fields an object has that counts so; what counts as nothing has the program's
abbrev pub view_holder : Option ℕ → Holder
view_holder None = Program
view_holder (Some c) = Member c

-- an object counts as its class, or as one that it descends from, which is the method's or descends from that; and nothing counts as nothing
pub record CountsAs (p : Image) (h : Holder) (view : Option ℕ) (k : Holder) : Type 0 where
  pub some : (c : ℕ) → h ≡ Member c → (v : ℕ) × (view ≡ Some v)
  pub between : (v : ℕ) → view ≡ Some v → (c : ℕ) × (h ≡ Member c) × (descends p c v ≡ true) × (d : ℕ) × (k ≡ Member d) × (descends p v d ≡ true)
  pub fields : (f : ℕ) (t : Thing) → field_thing p k f ≡ Some t → field_thing p (view_holder view) f ≡ Some t

-- a method of a class, or of one that the class descends from
pub record IsOfFamily (p : Image) (c m : ℕ) : Type 0 where
  pub class : ℕ
  pub of : method_class p m ≡ Some class
  pub above : descends p c class ≡ true

-- the frame's registers are as the state says, and its home and its height are its own
pub record Frames (p : Image) (ls : List Layer) (fr : Frame) (sh : AbstractState) : Type 0 where
  pub words : (i : ℕ) → WordFits (word fr i) (register sh i)
  pub holder : ReceiverConforms p (receiver_holder fr.receiver) (holder_of p fr.method)
  pub view : CountsAs p (receiver_holder fr.receiver) fr.view (holder_of p fr.method)
  pub height : fr.height ≡ length (items_of ls)
  pub alone : is_cancel (method_role p fr.method) ≡ true → IsAlone p fr.receiver ls
  pub message : HasMessage p fr ls

-- what the result goes to owns nothing while the call lasts
abbrev pub Awaits : Gives → ℕ → AbstractState → Type 0
Awaits Nothing c sh = Unit {0}
Awaits A_word c sh = is_unowning (register sh c) ≡ true
Awaits (An_own t) c sh = is_unowning (register sh c) ≡ true
Awaits (A_maybe t) c sh = is_unowning (register sh c) ≡ true
Awaits (Left x) c sh = Unit {0}

-- the states in which a method leaves its object: one that cancels leaves it idle
abbrev pub left_in : Image → ℕ → ℕ
left_in p m = cond (is_cancel (method_role p m)) idle (after_of p m)

-- where the method works on what the caller works on, the caller finds it in one of the states in which the method leaves it
abbrev pub EndsWell : Image → ℕ → Receiver → Frame → AbstractState → Type 0
EndsWell p m Static fr sh = Unit {0}
EndsWell p m AtRoot fr sh = Unit {0}
EndsWell p m (Inside o from) fr sh = works_at o.name fr.receiver ≡ true → IsTrue (has sh.states (left_in p m))

-- the typing has that state where the frame stands, or where it goes on once the task above is over
abbrev pub Stands : Image → Typing → Back → Frame → AbstractState → Type 0
Stands p t Now fr sh = shape_at t fr.method fr.place ≡ Some sh
Stands p t (Returns m receiver) fr sh =
    (leaves p m ≡ true → (leaves p fr.method ≡ true) × (none_owns sh.registers ≡ true) × (unissued sh.states ≡ true) × (serves p fr.method ≡ true → sh.message_state ≡ Here))
    × Awaits (gives_of p m) (result_register (instr_at p fr.method fr.place)) sh
    × Leads t fr.method (suc fr.place) (brought (gives_of p m) (result_register (instr_at p fr.method fr.place)) sh)
    × EndsWell p m receiver fr sh
    × (is_quiet p fr.method ≡ true → is_quiet p m ≡ true)
Stands p t (Caught g) fr sh =
    (called p (instr_at p fr.method fr.place) ≡ g)
    × (is_unowning (register sh (suc (result_register (instr_at p fr.method fr.place)))) ≡ true)
    × Awaits g (result_register (instr_at p fr.method fr.place)) sh
    × Leads t fr.method (suc fr.place) (caught g (result_register (instr_at p fr.method fr.place)) sh)
    × (is_quiet p fr.method ≡ false)
Stands p t Gone fr sh = Leads t fr.method (suc fr.place) sh
Stands p t Leaves fr sh = ⊥

-- it is another cell, or none
abbrev pub IsOther : ℕ → Option ℕ → Type 0
IsOther n None = Unit {0}
IsOther n (Some m) = (n == m) ≡ false

-- that place is no field of that cell, and none of its others
abbrev pub IsNoFieldOf : ℕ → Place → Type 0
IsNoFieldOf n (Register f r) = Unit {0}
IsNoFieldOf n (Entry k) = Unit {0}
IsNoFieldOf n (Field m f) = (n == m) ≡ false
IsNoFieldOf n (Going k) = Unit {0}
IsNoFieldOf n (Elsewhere o) = IsOther n (other_cell o)

abbrev pub NotIn : ℕ → Receiver → Type 0
NotIn n Static = Unit {0}
NotIn n AtRoot = Unit {0}
NotIn n (Inside o from) = IsNoFieldOf n from

-- ---- seats: from the object that is dispatched up to the root, each in a field of the next

-- the object of some seat has that name
abbrev pub SomeOwned : ℕ → List OwnedObject → Type 0
SomeOwned n [] = ⊥
SomeOwned n (x ∷ xs) = (x.object.name ≡ n) ⊎ SomeOwned n xs

-- none is in a field of that cell
abbrev pub NoOwnedObjectIn : ℕ → List OwnedObject → Type 0
NoOwnedObjectIn n [] = Unit {0}
NoOwnedObjectIn n (x ∷ xs) = IsNoFieldOf n x.place × NoOwnedObjectIn n xs

-- none is that place
abbrev pub NoOwnedObjectAt : Place → List OwnedObject → Type 0
NoOwnedObjectAt q [] = Unit {0}
NoOwnedObjectAt q (x ∷ xs) = (same_place q x.place ≡ false) × NoOwnedObjectAt q xs

-- it is the root, or a session at a server of which that holds
abbrev pub IsRootOr : (ℕ → Type 0) → Other → Type 0
IsRootOr At Root = Unit {0}
IsRootOr At (Session s c) = At s
IsRootOr At _ = ⊥

-- the place is that, or a field of an object that sits
abbrev pub OwnedWithin : Place → List OwnedObject → Type 0
OwnedWithin (Register f r) xs = ⊥
OwnedWithin (Entry k) xs = ⊥
OwnedWithin (Field n f) xs = SomeOwned n xs
OwnedWithin (Going k) xs = ⊥
OwnedWithin (Elsewhere o) xs = IsRootOr (λ s. SomeOwned s xs) o

-- each object is at its place, and lives, and none sits twice
abbrev pub IsOwnedChain : List Cell → List OwnedObject → Type 0
IsOwnedChain cs [] = Unit {0}
IsOwnedChain cs (x ∷ xs) = ((held cs x.place ≡ Some x.object) × (named cs x.object.name ≡ Some x.object) × OwnedWithin x.place xs × (SomeOwned x.object.name xs → ⊥)) × IsOwnedChain cs xs

abbrev pub owned_object_of : Dispatch → Option OwnedObject
owned_object_of Of_main = None
owned_object_of (Main_left code) = None
owned_object_of Of_root = None
owned_object_of (Of_object x) = Some x
owned_object_of (Object_left x code) = Some x
owned_object_of (Asks x) = Some x
owned_object_of (Answered x answer) = Some x
owned_object_of (Of_server x c stage) = Some x

-- the object that is dispatched is the first, and is enlisted; with none there are no seats
abbrev pub OwnedFirst : List Cell → Option OwnedObject → List OwnedObject → Type 0
OwnedFirst cs None owned_chain = owned_chain ≡ []
OwnedFirst cs (Some x) owned_chain = (is_some (requested cs x.object.name) ≡ true) × (above : List OwnedObject) × (owned_chain ≡ x ∷ above)

-- no layer's method was called on a field of that cell
abbrev pub NoneIn : ℕ → List Layer → Type 0
NoneIn n [] = Unit {0}
NoneIn n (Method fr sh ∷ ls) = NotIn n fr.receiver × NoneIn n ls
NoneIn n (Dispatching d owned_chain ∷ ls) = NoOwnedObjectIn n owned_chain × NoneIn n ls
NoneIn n (_ ∷ ls) = NoneIn n ls

-- the layers claim nothing of that cell's fields beyond what its class declares
abbrev pub by_field : (ℕ → Kind) → Place → Kind
by_field d (Register f r) = Null
by_field d (Entry k) = Null
by_field d (Field m f) = d f
by_field d (Going k) = Null
by_field d (Elsewhere o) = Null

abbrev pub Unclaimed : Image → (ℕ → Kind) → ℕ → List Layer → Type 0
Unclaimed p d n ls = (f : ℕ) → claim p (by_field d) ls (Field n f) ≡ d f

-- below the going of a cell its fields are claimed to be null
abbrev pub past_going : List Layer → List Layer
past_going [] = []
past_going (Dying o ∷ ls) = ls
past_going (Ending o left ∷ ls) = Ending o left ∷ ls
past_going (Method fr sh ∷ ls) = Method fr sh ∷ ls
past_going (Mark gv ∷ ls) = Mark gv ∷ ls
past_going (Unwinding code es ∷ ls) = Unwinding code es ∷ ls
past_going (Dispatching d owned_chain ∷ ls) = Dispatching d owned_chain ∷ ls

abbrev pub NotAtRoot : Receiver → Type 0
NotAtRoot Static = Unit {0}
NotAtRoot AtRoot = ⊥
NotAtRoot (Inside o from) = Unit {0}

-- no layer claims the root
abbrev pub RootUnclaimed : List Layer → Type 0
RootUnclaimed [] = Unit {0}
RootUnclaimed (Method fr sh ∷ ls) = NotAtRoot fr.receiver × RootUnclaimed ls
RootUnclaimed (Mark gv ∷ ls) = RootUnclaimed ls
RootUnclaimed (Dying o ∷ ls) = RootUnclaimed ls
RootUnclaimed (Ending o left ∷ ls) = RootUnclaimed ls
RootUnclaimed (Unwinding code es ∷ ls) = RootUnclaimed ls
RootUnclaimed (Dispatching d owned_chain ∷ ls) = (is_of_root d ≡ false) × RootUnclaimed ls

abbrev pub NotFrom : Place → Receiver → Type 0
NotFrom q Static = Unit {0}
NotFrom q AtRoot = Unit {0}
NotFrom q (Inside o from) = same_place q from ≡ false

-- no layer's method was called on what that place held
abbrev pub NoneFrom : Place → List Layer → Type 0
NoneFrom q [] = Unit {0}
NoneFrom q (Method fr sh ∷ ls) = NotFrom q fr.receiver × NoneFrom q ls
NoneFrom q (Dispatching d owned_chain ∷ ls) = NoOwnedObjectAt q owned_chain × NoneFrom q ls
NoneFrom q (_ ∷ ls) = NoneFrom q ls

-- what is claimed of the fields that a cell has as what it counts as is what that says
abbrev pub InView : Image → Option ℕ → (ℕ → Kind) → ℕ → List Layer → Type 0
InView p view d n ls = (f : ℕ) → is_some (field_thing p (view_holder view) f) ≡ true → claim p (by_field d) ls (Field n f) ≡ d f

-- right over a cell that goes, a method works on all that the cell counts as
abbrev pub IsWhole : Image → Option ℕ → ℕ → List Layer → Type 0
IsWhole p view m (Dying o ∷ ls) = view_holder view ≡ holder_of p m
IsWhole p view m _ = Unit {0}

-- the layers below claim of the fields that a method's object has, as what it counts as, no more than what is declared
abbrev pub IsApart : Image → Option ℕ → ℕ → Receiver → List Layer → Type 0
IsApart p view m Static ls = Unit {0}
IsApart p view m AtRoot ls = RootUnclaimed ls × NoneFrom (Elsewhere Root) ls
IsApart p view m (Inside o from) ls =
    IsNoFieldOf o.name from
    × NoneIn o.name ls
    × (InView p view (λ f. filled (field_thing p (thing_holder o.thing) f) Perhaps) o.name (past_going ls) × IsWhole p view m ls)
    × Joins p o ls

-- some layer's method works on that cell, or it sits
abbrev pub WorksOn : ℕ → Receiver → Type 0
WorksOn n Static = ⊥
WorksOn n AtRoot = ⊥
WorksOn n (Inside o from) = o.name ≡ n

abbrev pub SomeIn : ℕ → List Layer → Type 0
SomeIn n [] = ⊥
SomeIn n (Method fr sh ∷ ls) = WorksOn n fr.receiver ⊎ SomeIn n ls
SomeIn n (Dispatching d owned_chain ∷ ls) = SomeOwned n owned_chain ⊎ SomeIn n ls
SomeIn n (_ ∷ ls) = SomeIn n ls

-- the place belongs to the layers
abbrev pub IsBelow : Place → List Layer → Type 0
IsBelow (Register f r) ls = f < length (tasks_of ls)
IsBelow (Entry k) ls = k < length (items_of ls)
IsBelow (Field n f) ls = SomeIn n ls
IsBelow (Going k) ls = k < length (tasks_of ls)
IsBelow (Elsewhere o) ls = IsRootOr (λ s. SomeIn s ls) o

-- what holds this is below the frame, and is claimed to be ready
pub record Holds (p : Image) (cs : List Cell) (ls : List Layer) (o : Object) (from : Place) : Type 0 where
  pub there : held cs from ≡ Some o
  pub lives : named cs o.name ≡ Some o
  pub below : IsBelow from ls
  pub ready : is_ready_kind (claim p (λ r. Null) ls from) ≡ true

abbrev pub ReceiverIsHeld : Image → List Cell → List Layer → Receiver → Type 0
ReceiverIsHeld p cs ls Static = Unit {0}
ReceiverIsHeld p cs ls AtRoot = Unit {0}
ReceiverIsHeld p cs ls (Inside o from) = Holds p cs ls o from

-- a trap knows what the method that it was set for gives, and no object is left under it; or a leave has come to it
abbrev pub LeavesNone : Gives → Type 0
LeavesNone Nothing = Unit {0}
LeavesNone A_word = Unit {0}
LeavesNone (An_own t) = Unit {0}
LeavesNone (A_maybe t) = Unit {0}
LeavesNone (Left x) = ⊥

abbrev pub Catches : Image → Back → Gives → Type 0
Catches p Now g = ⊥
Catches p (Returns m receiver) g = (gives_of p m ≡ g) × LeavesNone g × (is_cancel (method_role p m) ≡ false)
Catches p (Caught g') g = ⊥
Catches p Gone g = ⊥
Catches p Leaves g = Unit {0}

-- right above a cell that goes stands a destructor of its line: of its class, or of one above it
abbrev pub IsDestructorOf : Image → ℕ → Object → Back → Type 0
IsDestructorOf p depth o Now = Unit {0}
IsDestructorOf p depth o (Returns m receiver) =
    (leaves p m ≡ false) × (receiver ≡ Inside o (Going depth)) × (is_destructor p m ≡ true) × (gives_of p m ≡ Nothing) × (after_of p m ≡ last_of (thing_kind p o.thing)) × (is_quiet p m ≡ true)
    × (c : ℕ) × (o.thing ≡ An_object_of c) × IsOfFamily p c m
IsDestructorOf p depth o (Caught g) = ⊥
IsDestructorOf p depth o Gone = ⊥
IsDestructorOf p depth o Leaves = ⊥

-- over an unwinding a cell goes, or an operation runs
abbrev pub IsUnwound : Image → Back → Type 0
IsUnwound p Now = Unit {0}
IsUnwound p (Returns m receiver) = (leaves p m ≡ false) × (gives_of p m ≡ Nothing) × (is_cancel (method_role p m) ≡ false) × (is_quiet p m ≡ true)
IsUnwound p (Caught g) = ⊥
IsUnwound p Gone = Unit {0}
IsUnwound p Leaves = ⊥

-- it is over
abbrev pub IsAtEnd : Back → Type 0
IsAtEnd Now = Unit {0}
IsAtEnd (Returns m receiver) = ⊥
IsAtEnd (Caught g) = ⊥
IsAtEnd Gone = ⊥
IsAtEnd Leaves = ⊥

-- or its method runs under its trap
abbrev pub IsTrapping : Back → Type 0
IsTrapping Now = Unit {0}
IsTrapping (Returns m receiver) = ⊥
IsTrapping (Caught g) = g ≡ Nothing
IsTrapping Gone = ⊥
IsTrapping Leaves = ⊥

-- the root goes
abbrev pub IsRemovingRoot : Back → Type 0
IsRemovingRoot Now = Unit {0}
IsRemovingRoot (Returns m receiver) = ⊥
IsRemovingRoot (Caught g) = ⊥
IsRemovingRoot Gone = Unit {0}
IsRemovingRoot Leaves = ⊥

-- a method that does not leave gives its answer
abbrev pub IsAsking : Image → Back → Type 0
IsAsking p Now = ⊥
IsAsking p (Returns m receiver) = (leaves p m ≡ false) × (gives_of p m ≡ A_word) × (is_cancel (method_role p m) ≡ false)
IsAsking p (Caught g) = ⊥
IsAsking p Gone = ⊥
IsAsking p Leaves = ⊥

-- `accept` runs under its trap, and gives a session
abbrev pub IsAccepting : Image → OwnedObject → Back → Type 0
IsAccepting p x Now = ⊥
IsAccepting p x (Returns m receiver) = ⊥
IsAccepting p x (Caught g) = (t : Thing) × (g ≡ An_own t) × (session_thing p (Some x.object) ≡ Some t)
IsAccepting p x Gone = ⊥
IsAccepting p x Leaves = ⊥

-- `service` runs under its trap, and gives nothing
abbrev pub IsServing : Back → Type 0
IsServing Now = ⊥
IsServing (Returns m receiver) = ⊥
IsServing (Caught g) = g ≡ Nothing
IsServing Gone = ⊥
IsServing Leaves = ⊥

abbrev pub EndsStage : Image → OwnedObject → Stage → Back → Type 0
EndsStage p x Accepts back = IsAccepting p x back
EndsStage p x Accepted back = IsAtEnd back
EndsStage p x (Accept_left code) back = IsAtEnd back
EndsStage p x (Serves o) back = IsServing back
EndsStage p x (Service_left code) back = IsAtEnd back
EndsStage p x Disconnects back = IsRemovingRoot back

abbrev pub EndsDispatch : Image → Dispatch → Back → Type 0
EndsDispatch p Of_main back = IsTrapping back
EndsDispatch p (Main_left code) back = IsAtEnd back
EndsDispatch p Of_root back = IsRemovingRoot back
EndsDispatch p (Of_object x) back = IsTrapping back
EndsDispatch p (Object_left x code) back = IsAtEnd back
EndsDispatch p (Asks x) back = IsAsking p back
EndsDispatch p (Answered x answer) back = IsAtEnd back
EndsDispatch p (Of_server x c stage) back = EndsStage p x stage back

-- it is a server, and these clients have sessions with it
pub record EndsSessions (p : Image) (cs : List Cell) (o : Object) (left : List ℕ) : Type 0 where
  pub server : is_server p o.thing ≡ true
  pub lives : named cs o.name ≡ Some o
  pub listed : (c : ℕ) → is_among c left ≡ true → has_session (service_of cs o.name) c ≡ true

-- right below stands the going of that server
abbrev pub IsOverDying : Object → List Layer → Type 0
IsOverDying o (Dying x ∷ ls) = x ≡ o
IsOverDying o _ = ⊥

-- the client of a connect has no session with the server yet, and that of a message or a close has one
abbrev pub StageFits : List Cell → OwnedObject → ℕ → Stage → Type 0
StageFits cs x c Accepts = has_session (service_of cs x.object.name) c ≡ false
StageFits cs x c Accepted = has_session (service_of cs x.object.name) c ≡ true
StageFits cs x c (Accept_left code) = has_session (service_of cs x.object.name) c ≡ false
StageFits cs x c (Serves o) = has_session (service_of cs x.object.name) c ≡ true
StageFits cs x c (Service_left code) = has_session (service_of cs x.object.name) c ≡ true
StageFits cs x c Disconnects = has_session (service_of cs x.object.name) c ≡ true

abbrev pub IsAttended : Image → List Cell → Dispatch → Type 0
IsAttended p cs (Of_server x c stage) = (is_server p x.object.thing ≡ true) × StageFits cs x c stage
IsAttended p cs _ = Unit {0}

abbrev pub Stack : Image → Typing → List Cell → Back → List Layer → Type 0
Stack p t cs back [] = back ≡ Now
Stack p t cs back (Method fr sh ∷ ls) =
    Stands p t back fr sh
    × Frames p ls fr sh
    × ReceiverIsHeld p cs ls fr.receiver
    × IsApart p fr.view fr.method fr.receiver ls
    × Stack p t cs (Returns fr.method fr.receiver) ls
Stack p t cs back (Mark gv ∷ ls) = Catches p back gv × Stack p t cs (Caught gv) ls
Stack p t cs back (Dying o ∷ ls) =
    ((named cs o.name ≡ Some o) × (held cs (Going (length (tasks_of ls))) ≡ Some o))
    × IsDestructorOf p (length (tasks_of ls)) o back
    × Stack p t cs Gone ls
Stack p t cs back (Ending o left ∷ ls) = EndsSessions p cs o left × IsRemovingRoot back × IsOverDying o ls × Stack p t cs Now ls
Stack p t cs back (Unwinding code es ∷ ls) = IsUnwound p back × Stack p t cs Leaves ls
Stack p t cs back (Dispatching d owned_chain ∷ ls) = EndsDispatch p d back × (ls ≡ []) × IsOwnedChain cs owned_chain × OwnedFirst cs (owned_object_of d) owned_chain × IsAttended p cs d

-- a well-typed state, by its layers
pub record Good (p : Image) (t : Typing) (cs : List Cell) (ls : List Layer) : Type 0 where
  pub stack : Stack p t cs Now ls
  pub fits : (r : Place) → Fits p (seen cs) (held cs r) (claim p (declared p cs) ls r)
  pub conforms_to : AllConformTo p cs ls
  pub no_duplicates : NoDuplicates cs

-- what an operation runs: a static method of that role, which takes a word
pub record IsUndo (p : Image) (m : ℕ) : Type 0 where
  pub there : IsSome (method_at p m)
  pub role : method_role p m ≡ Some Undo
  pub class : method_class p m ≡ None
  pub leaves : leaves p m ≡ false
  pub quiet : is_quiet p m ≡ true
  pub gives : gives_of p m ≡ Nothing
  pub arguments : arguments_of p m ≡ Takes_word ∷ []

-- each operation on the cleanup stack is one
abbrev pub AllUndo : Image → List Item → Type 0
AllUndo p [] = Unit {0}
AllUndo p (An_object ∷ items) = AllUndo p items
AllUndo p (An_operation m w ∷ items) = IsUndo p m × AllUndo p items
AllUndo p (A_mark ∷ items) = AllUndo p items

pub record WellTyped (p : Image) (t : Typing) (s : State) : Type 0 where
  pub layers : List Layer
  pub tasks : s.tasks ≡ tasks_of layers
  pub items : forms s.items ≡ items_of layers
  pub undo_operations : AllUndo p s.items
  pub good : Good p t s.cells layers

-- not stuck, and on to a well-typed state
abbrev pub PreservesTyping : Image → Typing → Outcome → Type 0
PreservesTyping p t (Goes s) = WellTyped p t s
PreservesTyping p t (IsStuck kind) = ⊥
