-- Each move of a well-typed state keeps the room that a run needs.
use Rattle.std.proofs.lemmas.Bool.Decides.{nat_tests}
use Rattle.std.proofs.lemmas.Option.{none-some, same_Some}
use Rattle.std.proofs.Common.{Bool, List, None, Option, Some, [], ap, arith, cond, false, inl, length, refl, subst, sym, true, ℕ, ℤ, ◌++◌, ◌∙◌, ◌∷◌, ◌≡◌, ◌≤◌}
use Rattle.std.proofs.lemmas.Bool.{eq-eqb, true≢false}
use Rattle.std.proofs.lemmas.List.{append-nil}
use Rattle.std.specs.Prelude.{is_some}
use Rattle.aom_image.specs.Image.{Image}
use Rattle.aom_machine_instructions.proofs.ImageLemmas.{some_given}
use Rattle.aom_image.specs.Views.{gives_of, instr_at}
use Rattle.aom_instructions.specs.declared.instr.Instr.{Instr}
use Rattle.aom_image.specs.declared.method.Gives.{Gives}
use Rattle.aom_image.specs.declared.method.Gives.TheVariants.{Nothing}
use Rattle.aom_typing_rules.specs.Rules.{flows, rule_needs}
use Rattle.aom_abstract_state.specs.AbstractState.{AbstractState}
use Rattle.aom_roles.specs.Tables.{at}
use Rattle.aom_typing_rules.specs.Typing.{AllLead, IsTyped, Typing}
use Rattle.aom_static_bounds.specs.Strongest.{IsStrongest}
use Rattle.aom_static_bounds.specs.Depths.{HasDepths}
use Rattle.aom_static_bounds.specs.Heights.{HasHeights}
use Rattle.aom_static_bounds.specs.Calls.{Among, destructors, lines_of, thing_class}
use Rattle.aom_machine_instructions.proofs.StaticBoundsLemmas.{among_right, below_from, below_lists, gone_with, kept_in_line, runs_among}
use Rattle.aom_machine_instructions.proofs.RolesLemmas.{child, itself, through}
use Rattle.aom_roles.specs.Families.{parent_of, parent_above, parent_by}
use Rattle.aom_machine_instructions.proofs.SafetyLemmas.{claim_going_above, closing_layer, destroys_by, dispatch_layer, dropped, each_slot_released_alike}
use Rattle.aom_machine_instructions.proofs.SafetyLemmas.{fits_unowning, held_dropped, method_layer, queue_dropped, stands_session_of, steps_are_moves}
use Rattle.aom_semantics.specs.Effects.{Effect, applied}
use Rattle.aom_roles.specs.Classes.{sessions_at, sessions_in}
use Rattle.aom_roles.specs.Shapes.{kind_of}
use Rattle.aom_image.specs.declared.method.Thing.{Thing}
use Rattle.aom_image.specs.declared.method.Thing.TheVariants.{Object as An_object_of, Message}
use Rattle.aom_roles.specs.Tests.{AllTrue}
use Rattle.aom_abstract_state.specs.Kinds.{filled}
use Rattle.aom_abstract_state.specs.declared.kind.FieldState.TheVariants.{Full}
use Rattle.aom_abstract_state.specs.declared.kind.Kind.TheVariants.{Null}
use Rattle.aom_semantics.specs.Destruction.{class_destructor, first_session, parting, owned_object_or}
use Rattle.aom_safety.specs.Steps.{Empties, Acts, Arrives, Clears, Comes_out, Ends, Fits, Move, Rests, Undoes, Reclaims}
use Rattle.aom_machine_instructions.proofs.SemanticsLemmas.{held_without}
use Rattle.aom_semantics.specs.Calls.{called, result_register}
use Rattle.aom_semantics.specs.Cleanup.{code_reported}
use Rattle.aom_safety.specs.Laws.{IsWired}
use Rattle.aom_safety.specs.Claims.{Dispatching, Dying, Ending, Layer, Method, claim, declared, forms, items_of, tasks_of}
use Rattle.aom_semantics.specs.Moves.{answered, asking, counted, dispatch_ends, main_ends, step}
use Rattle.aom_semantics.specs.Places.{service_of, Entry, Cell, Elsewhere, Going, Object, Place, Root, Session, held, moved, same_place, seen, without}
use Rattle.aom_semantics.specs.State.{Closing, Destroy, A_mark, An_object, An_operation, Choice, Dispatch, Dispatched, Frame}
use Rattle.aom_semantics.specs.State.{Goes, Receiver, Item, Counters, Run, OwnedObject, State, Task, Trapped, Unwind, frame_of, next}
use Rattle.aom_safety.specs.WellTyped.{AllUndo, Fits as Fits_kind, Good, IsOfFamily, IsOverDying, WellTyped}
use Rattle.aom_semantics.specs.World.{boot_state}
use Rattle.aom_machine_state.specs.Room.{Destructs, HasRoom, entries_in}
use Rattle.aom_machine_instructions.proofs.MachineStateLemmas.{Roomy, Stands_here, going_ends, held_apart, low_unwinding, on_again, popped, recelled}
use Rattle.aom_machine_instructions.proofs.MachineStateLemmas.{stands_here}
use Rattle.aom_machine_instructions.proofs.RoomActs.{IsDealt, LineGoes, NextGoes, Tables, acts_room, begins_over, clears}
use Rattle.aom_machine_instructions.proofs.RoomActs.{destructed_over, goes_there_now, going_apart, session_apart, undoes}
use Rattle.aom_clients.specs.declared.client.Client.{Client}
use Rattle.aom_semantics.specs.Clients.{each_slot_released}
use Rattle.aom_semantics.specs.Servers.{is_among, is_queue_of, is_server, of_class, session_class, without_queue}

-- ---- sessions

-- what runs as a session goes runs as its server does, and a session is no server
pub record SessionOf (p : Image) (o so : Object) : Type 0 where
  pub destructs : (m : ℕ) → Destructs p (Some so) m → Destructs p (Some o) m
  pub plain : is_server p so.thing ≡ false

session_so : (p : Image) → IsWired p → (o so : Object) (class : ℕ) → session_class p o.thing ≡ Some class → so.thing ≡ An_object_of class → SessionOf p o so
unfolding kind_of sessions_in
session_so p wired o so class has is = go o.thing has
  where
    none : (k : ℕ) → sessions_at p k ≡ Some class → sessions_at p class ≡ None
    none k e = wired.sessions k class e

    go : (x : Thing) → session_class p x ≡ Some class → SessionOf p (record { name = o.name; thing = x }) so
    go (An_object_of k) has = record {
      destructs = λ m d.
          let w = below_from p (gone_with p) class m (subst (λ y. Among m (destructors p (thing_class y))) is d) in
          let same : w.0 ≡ class = wired.family.alone k class w.0 has w.1 in
          let own : Among m (lines_of p (Some class) ++ []) =
          subst (λ j. Among m (lines_of p (Some class) ++ lines_of p j)) (none k has) (subst (λ y. Among m (gone_with p y)) same w.2) in
          below_lists p (gone_with p) k k m (itself p k) (among_right m (lines_of p (Some k)) (lines_of p (sessions_at p k))
          (subst (λ j. Among m (lines_of p j)) (sym has) (subst (Among m) (append-nil (lines_of p (Some class))) own)));
      plain = ap (is_server p) is ∙ ap is_some (none k has);
    }
    go Message has = absurd (none-some class has)

-- the first of a server's sessions stands at its client's place
pub first_held : (cs : List Cell) (n : ℕ) (clients : List ℕ) (x : OwnedObject) →
    first_session cs n clients ≡ Some x → (c : ℕ) × (x.place ≡ Elsewhere (Session n c)) × (held cs (Elsewhere (Session n c)) ≡ Some x.object)
first_held cs n [] x e = cc
first_held cs n (d ∷ clients) x e = go (held cs (Elsewhere (Session n d))) refl e (λ e. first_held cs n clients x e)
  where
    go : (o : Option Object) → held cs (Elsewhere (Session n d)) ≡ o → owned_object_or o (Elsewhere (Session n d)) (first_session cs n clients) ≡ Some x →
        (first_session cs n clients ≡ Some x → (c : ℕ) × (x.place ≡ Elsewhere (Session n c)) × (held cs (Elsewhere (Session n c)) ≡ Some x.object)) →
        (c : ℕ) × (x.place ≡ Elsewhere (Session n c)) × (held cs (Elsewhere (Session n c)) ≡ Some x.object)
    go None there e later = later e
    go (Some o) there e later =
        let same : record { object = o; place = Elsewhere (Session n d) } ≡ x = cc in
        (d, sym (ap (λ (y : OwnedObject). y.place) same), there ∙ ap (λ (y : OwnedObject). Some y.object) same)

-- of what lets go of its sessions
pub session_reported : (p : Image) (t : Typing) → IsWired p → (s : State) → WellTyped p t s → (ts : List Task) (o : Object) → s.tasks ≡ Closing ∷ Destroy ∷ ts →
    held s.cells (Going (length ts)) ≡ Some o → (c : ℕ) (so : Object) → held s.cells (Elsewhere (Session o.name c)) ≡ Some so → SessionOf p o so
session_reported p t wired s w ts o at there c so holds = closing_layer (λ ls. Good p t s.cells ls) (Destroy ∷ ts) w.layers (sym w.tasks ∙ at) w.good over
  where
    its_thing : (x : Option ℕ) → session_class p o.thing ≡ x → (b : Bool) →
        Fits_kind p (seen s.cells) (Some so) (cond b (filled (of_class x) Full) Null) → SessionOf p o so
    its_thing (Some class) e true f = session_so p wired o so class e (stands_session_of p wired.family o.thing class e so.thing f.0)
    its_thing None e true f = absurd f
    its_thing x e false f = absurd f

    of_server : (left : List ℕ) (ls : List Layer) → Good p t s.cells (Ending o left ∷ ls) → SessionOf p o so
    of_server left ls good = its_thing (session_class p o.thing) refl (is_among c left)
        (subst (λ b. Fits_kind p (seen s.cells) (Some so) (cond b (cond (is_among c left) (filled (of_class (session_class p o.thing)) Full) Null)
        (claim p (declared p s.cells) ls (Elsewhere (Session o.name c))))) (eq-eqb o.name o.name refl) (subst (λ y. Fits_kind p (seen s.cells) y
        (claim p (declared p s.cells) (Ending o left ∷ ls) (Elsewhere (Session o.name c)))) holds (good.fits (Elsewhere (Session o.name c)))))

    right_under : (x : Object) (left : List ℕ) (ls : List Layer) → tasks_of ls ≡ Destroy ∷ ts → Good p t s.cells (Ending x left ∷ ls) →
        IsOverDying x ls → SessionOf p o so
    right_under x left (Dying y ∷ ls) under good same =
        let below : tasks_of ls ≡ ts = cc in
        let held_there : held s.cells (Going (length ts)) ≡ Some y = ap (λ us. held s.cells (Going (length us))) (sym below) ∙ good.stack.3.0.1 in
        let is : x ≡ o = sym same ∙ same_Some y o (sym held_there ∙ there) in
        of_server left (Dying y ∷ ls) (subst (λ z. Good p t s.cells (Ending z left ∷ Dying y ∷ ls)) is good)
    right_under x left _ under good same = absurd same

    over : (x : Object) (left : List ℕ) (ls : List Layer) → tasks_of ls ≡ Destroy ∷ ts → Good p t s.cells (Ending x left ∷ ls) → SessionOf p o so
    over x left ls under good = right_under x left ls under good good.stack.2

-- ---- lines

-- what follows a destructor in the line of a cell that goes is a destructor of the cell's line too
next_goes : (p : Image) → IsWired p → (cs : List Cell) (m c : ℕ) (below : List Task) (o : Object) → held cs (Going (length below)) ≡ Some o →
    o.thing ≡ An_object_of c → gives_of p m ≡ Nothing → IsOfFamily p c m → NextGoes p cs m below
next_goes p wired cs m c below o there is nothing family = record {
  gives = nothing;
  next = λ k e. some_given (λ q. class_destructor p q ≡ Some k) (parent_above p m) e (λ none. cc) (λ up at role.
      let parent : parent_of p family.class ≡ Some up = ap (parent_by p) (sym family.of) ∙ at in
      let above = through p c family.class up family.above (child p family.class up up parent (itself p up)) in
      let its = destroys_by p wired c up k above role in
      let line = kept_in_line p up k role in
      let runs = runs_among p (An_object_of c) k (An_object_of c, itself p c, inl (line.0, through p c up line.0 above line.1, line.2)) in
      let here = subst (λ x. Among k (destructors p (thing_class x))) (sym is) runs in
      (subst (λ x. Destructs p x k) (sym there) here, its.quiet, its.stays));
}

pub line_goes : (p : Image) (t : Typing) → IsWired p → (s : State) → WellTyped p t s → (fr : Frame) (ts : List Task) → s.tasks ≡ Run fr ∷ ts →
    LineGoes p s.cells fr.method ts
line_goes p t wired s w fr ts at = method_layer (λ ls. Good p t s.cells ls) fr ts w.layers (sym w.tasks ∙ at) w.good
    (λ sh ls under good. subst (LineGoes p s.cells fr.method) under (go sh ls good))
  where
    go : (sh : AbstractState) (ls : List Layer) → Good p t s.cells (Method fr sh ∷ ls) → LineGoes p s.cells fr.method (tasks_of ls)
    go sh (Dying o ∷ ls) good =
        let d = good.stack.4 in
        next_goes p wired s.cells fr.method d.1.6 (tasks_of ls) o d.0.1 d.1.7 d.1.3 d.1.8
    go sh _ good = tt

-- ---- ends

-- where a dispatch is at its end nothing is on the cleanup stack
pub none_formed : (items : List Item) → forms items ≡ [] → items ≡ []
none_formed [] e = refl
none_formed (i ∷ items) e = cc

pub bare_end : (p : Image) (t : Typing) (s : State) (d : Dispatch) (ts : List Task) → WellTyped p t s → s.tasks ≡ Dispatched d ∷ ts → s.items ≡ []
bare_end p t s d ts typed at = dispatch_layer (λ ls. (forms s.items ≡ items_of ls) × Good p t s.cells ls) d ts typed.layers (sym typed.tasks ∙ at)
    (typed.items, typed.good) (λ owned_chain ls _ h. none_formed s.items (h.0 ∙ ap (λ b. items_of (Dispatching d owned_chain ∷ b)) h.1.stack.1))

pub lone_end : (p : Image) (t : Typing) (s : State) (d : Dispatch) (ts : List Task) → WellTyped p t s → s.tasks ≡ Dispatched d ∷ ts → length s.tasks ≡ 1
lone_end p t s d ts typed at = dispatch_layer (λ ls. (length s.tasks ≡ length (tasks_of ls)) × Good p t s.cells ls) d ts typed.layers (sym typed.tasks ∙ at)
    (ap length typed.tasks, typed.good) (λ owned_chain ls _ h. h.0 ∙ ap (λ b. length (tasks_of (Dispatching d owned_chain ∷ b))) h.1.stack.1)

-- nothing is at hand to go past the tasks
pub none_going_there : (p : Image) (t : Typing) (s : State) → WellTyped p t s → (k : ℕ) → length s.tasks ≡ k → held s.cells (Going k) ≡ None
none_going_there p t s w k is = grind (arith, nat_tests, fits_unowning p, claim_going_above p s.cells w.layers k)

module _ (p : Image) (t : Typing) (depth heights : ℕ → ℕ) (tables : Tables p t depth heights) where
  abbrev RoomyState : State → Type 0
  RoomyState u = Roomy p depth heights u.cells u.items u.tasks

  -- nothing is on the cleanup stack
  few : (v : State) → v.items ≡ [] → entries_in v.items ≤ 1024
  few v bare = subst (λ items. entries_in items ≤ 1024) (sym bare) (omega arith)

  -- the method that goes on is the one that waited
  reported : (s : State) (g : Gives) (x : ℕ) (code : ℤ) (fr : Frame) (items : List Item) (ts : List Task) →
      Roomy p depth heights s.cells items (Run fr ∷ ts) → Roomy p depth heights s.cells items (Run (next (code_reported g x code fr)) ∷ ts)
  reported s x y code fr items ts w = grind arith

  -- a dispatch ends, and its method that answers finds all the room that there is
  module _ (within : (m : ℕ) → heights m ≤ 1024) (s : State) (bare : s.items ≡ []) (free : held s.cells (Going 1) ≡ None) where
    root_roomy : (v : State) → v.cells ≡ s.cells → v.items ≡ s.items → (b : Bool) (root : Option Object) → held s.cells (Elsewhere Root) ≡ root →
        RoomyState (main_ends p b root v)
    root_roomy v cells items x root holds =
        grind (arith, nat_tests, begins_over p t depth heights tables, goes_there_now v.cells (Elsewhere Root) 1, few v (items ∙ bare))

    answer_roomy : (answer : ℤ) → RoomyState (answered p answer s)
    answer_roomy answer = grind (arith, nat_tests, root_roomy, few s bare)

    asking_roomy : (m : Option ℕ) (x : OwnedObject) (code : ℤ) → RoomyState (asking p m x code s)
    asking_roomy x y code = grind (arith, nat_tests, answer_roomy code, Roomy p depth heights s.cells)

    ends : (d : Dispatch) → RoomyState (dispatch_ends p d s)
    ends x = grind (arith, nat_tests, few s bare, root_roomy s, asking_roomy, answer_roomy)

  -- a method's move
  acts : IsTyped p t → (c : Choice) (s : State) → WellTyped p t s → RoomyState s → (fr : Frame) (ts : List Task) (i : Instr) (e : Effect) →
      s.tasks ≡ Run fr ∷ ts → instr_at p fr.method fr.place ≡ Some i → Fits p c fr ts (counted p s) i e → RoomyState (applied p fr ts (counted p s) e)
  acts typed c s w room fr ts i e at there fits =
      let h = stands_here p t s fr ts w at in
      let x = typed.each fr.method fr.place h.shape h.there in
      let is : x.instr ≡ i = same_Some x.instr i (sym x.stands ∙ there) in
      acts_room p t depth heights tables c fr ts (counted p s) w.undo_operations at (again h) (none_going_there p t s w (length (Run fr ∷ ts)) (ap length at))
      (subst (λ us. Roomy p depth heights s.cells s.items us) at room) (line_goes p t tables.wired s w fr ts at) i there (subst (λ j. AllTrue
      (rule_needs p fr.method fr.place h.shape j)) is x.needs) (subst (λ j. AllLead t fr.method (flows p fr.method fr.place h.shape j)) is x.flows) e fits
    where
      -- what a move counts is no part of it
      again : Stands_here p t s fr ts → Stands_here p t (counted p s) fr ts
      again h = record {
        shape = h.shape;
        below = h.below;
        there = h.there;
        items = h.items;
        height = h.height;
        holder = h.holder;
        view = h.view;
        low = h.low;
        low_under = h.low_under;
        fits = h.fits;
        free = h.free;
      }

  -- under a leave, with its last item
  with_top : (code : ℤ) (ts : List Task) (i : Item) (items : List Item) (s : State) → RoomyState s → s.tasks ≡ Unwind code ∷ ts → s.items ≡ i ∷ items →
      Roomy p depth heights s.cells (i ∷ items) (Unwind code ∷ ts)
  with_top code ts i items s room at top =
      subst (λ is. Roomy p depth heights s.cells is (Unwind code ∷ ts)) top (subst (λ us. Roomy p depth heights s.cells s.items us) at room)

  -- a server lets go of a session, or its destructor begins
  emptied : (c : Choice) (s : State) → WellTyped p t s → (ts : List Task) (o : Object) →
      s.tasks ≡ Closing ∷ Destroy ∷ ts → held s.cells (Going (length ts)) ≡ Some o → Roomy p depth heights s.cells s.items (Closing ∷ Destroy ∷ ts) →
      (x : Option OwnedObject) → first_session s.cells o.name (service_of s.cells o.name).sessions ≡ x → RoomyState (parting p o x ts (counted p s))
  emptied c s w ts o at there room None e = grind (arith, nat_tests, destructed_over p t depth heights tables s.cells s.items o ts)
  emptied c s w ts o at there room (Some x) e =
      let f = first_held s.cells o.name (service_of s.cells o.name).sessions x e in
      let k = length (Closing ∷ Destroy ∷ ts) in
      let its = session_reported p t tables.wired s w ts o at there f.0 x.object f.2 in
      let from : held s.cells x.place ≡ Some x.object = ap (held s.cells) f.1 ∙ f.2 in
      let apart : (e : Place) → IsDealt e → same_place x.place e ≡ false = λ e dealt. ap (λ q. same_place q e) f.1 ∙ session_apart o.name f.0 e dealt in
      let cells' = moved x.place (Going k) s.cells in
      begins_over p t depth heights tables cells' s.items x.object (Closing ∷ Destroy ∷ ts)
      (goes_there_now s.cells x.place k (none_going_there p t s w k (ap length at)) (apart (Going k) tt) ∙ from)
      (λ m d. room.1.1.0 m (subst (λ y. Destructs p y m) (sym there) (its.destructs m d))) (λ server. absurd (true≢false (sym server ∙ its.plain)))
      (recelled p depth heights s.cells cells' s.items (Closing ∷ Destroy ∷ ts) (
        λ j lt. held_apart s.cells x.place (Going k) (Entry j) (apart (Entry j) tt) refl,
        λ j lt. held_apart s.cells x.place (Going k) (Going j) (apart (Going j) tt) (going_apart k j lt),
      ) room)

  roomy_moves : ((m : ℕ) → heights m ≤ 1024) → IsTyped p t → (c : Choice) (s u : State) → WellTyped p t s → RoomyState s → Move p c s u → RoomyState u
  roomy_moves within typed c s u w room (Rests still same) = subst RoomyState (sym same) room
  roomy_moves within typed c s u w room (Acts fr ts i e at there met fits same) = subst RoomyState (sym same) (acts typed c s w room fr ts i e at there fits)
  roomy_moves within typed c s u w room (Reclaims ts o at there owns same) =
      let left = without_queue o.name s.cells in
      let cells' = each_slot_released (service_of s.cells o.name).sessions (without (Going (length ts)) left) in
      let still : (e : Place) → held cells' e ≡ held (without (Going (length ts)) left) e =
      λ e. (each_slot_released_alike (service_of s.cells o.name).sessions (without (Going (length ts)) left)).held_so e in
      let before : (e : Place) → held left e ≡ held (dropped (is_queue_of o.name) s.cells) e = λ e. ap (λ cs. held cs e) (queue_dropped o.name s.cells) in
      subst RoomyState (sym same) (on_again p depth heights cells' s.items ts (recelled p depth heights s.cells cells' s.items ts (
        λ k lt. still (Entry k) ∙ held_without left (Going (length ts)) (Entry k) ∙ before (Entry k) ∙ held_dropped (is_queue_of o.name) s.cells (Entry k),
        grind (arith, nat_tests, held_without left, going_apart, held_dropped),
      ) (going_ends p depth heights s.cells s.items ts (subst (λ us. Roomy p depth heights s.cells s.items us) at room))))
  roomy_moves within typed c s u w room (Empties ts o at there same) =
      grind (arith, nat_tests, emptied c s w ts o at there, Roomy p depth heights s.cells s.items)
  roomy_moves within typed c s u w room (Clears code ts items o at top there same) =
      subst RoomyState (sym same) (clears p t depth heights tables s.cells items o (Unwind code ∷ ts) there (none_going_there p t s w (length
      (Unwind code ∷ ts)) (ap length at)) tt (low_unwinding p t s code ts An_object items w at top) (with_top code ts An_object items s room at top))
  roomy_moves within typed c s u w room (Undoes code ts items m x at top same) =
      subst RoomyState (sym same) (undoes p t depth heights tables s.cells items m x (Unwind code ∷ ts) (subst (λ is. AllUndo p is) top w.undo_operations).0
      (low_unwinding p t s code ts (An_operation m x) items w at top) (with_top code ts (An_operation m x) items s room at top))
  roomy_moves within typed c s u w room (Arrives code fr ts items at top same) =
      let i = instr_at p fr.method fr.place in
      let low = low_unwinding p t s code (Trapped ∷ Run fr ∷ ts) A_mark items w at top in
      subst RoomyState (sym same) (reported s (called p i) (result_register i) code fr items ts
      (popped p depth heights s.cells A_mark items (Run fr ∷ ts) low (with_top code (Trapped ∷ Run fr ∷ ts) A_mark items s room at top)))
  roomy_moves within typed c s u w room (Comes_out code d ts items at top same) =
      subst RoomyState (sym same) (popped p depth heights s.cells A_mark items (Dispatched d ∷ ts) (low_unwinding p t s code
      (Trapped ∷ Dispatched d ∷ ts) A_mark items w at top) (with_top code (Trapped ∷ Dispatched d ∷ ts) A_mark items s room at top))
  roomy_moves within typed c s u w room (Ends d ts at same) =
      subst RoomyState (sym same) (ends within (counted p s) (bare_end p t s d ts w at) (none_going_there p t s w 1 (lone_end p t s d ts w at)) d)

-- the tables of an accepted image
pub tables_of : (p : Image) (t : Typing) → IsWired p → IsStrongest p t → (depths : HasDepths p) (heights : HasHeights p) →
    Tables p t (at 0 depths.depths) (at 0 heights.heights)
tables_of p t wired strongest depths heights =
    record { wired = wired; strongest = strongest; less = depths.are.less; own = heights.are.own; under = heights.are.under }

-- each move keeps it
pub keeps_room : (p : Image) (t : Typing) →
    IsWired p → IsTyped p t → IsStrongest p t → (depths : HasDepths p) (heights : HasHeights p) (c : Choice) (s u : State) →
    WellTyped p t s → HasRoom p (at 0 depths.depths) (at 0 heights.heights) s → step p c s ≡ Goes u → HasRoom p (at 0 depths.depths) (at 0 heights.heights) u
keeps_room p t wired typed strongest depths heights c s u w room e = let after = roomy_moves p t (at 0 depths.depths) (at 0 heights.heights) (tables_of
    p t wired strongest depths heights) (λ m. heights.are.within m) typed c s u w (room.under, room.runs, room.fit, room.entries) (steps_are_moves p c s u e) in
    record { under = after.0; runs = after.1; fit = after.2; entries = after.3 }

-- the boot state has it
pub boots_with_room : (p : Image) (depth : ℕ → ℕ) (heights : HasHeights p) → HasRoom p depth (at 0 heights.heights) (boot_state p)
boots_with_room p depth heights = grind (arith, nat_tests)

-- and so has a dispatch that begins
pub dispatches_with_room : (p : Image) (depth : ℕ → ℕ) (heights : HasHeights p) (cs : List Cell) (m : ℕ) (receiver : Receiver)
    (d : Dispatch) (items : List Item) (r : Counters) (dead : List ℕ) (clients : List Client) → items ≡ [] → HasRoom p depth (at 0 heights.heights)
    (record { cells = cs; tasks = Run (frame_of m receiver (length (A_mark ∷ items))) ∷ Trapped ∷ Dispatched d ∷ []; items = A_mark ∷ items; rest = r; killed = dead; clients = clients })
dispatches_with_room p depth heights cs m receiver d items r dead clients bare = subst (λ is. HasRoom p depth (at 0 heights.heights)
    (record { cells = cs; tasks = Run (frame_of m receiver (length (A_mark ∷ is))) ∷ Trapped ∷ Dispatched d ∷ []; items = A_mark ∷ is; rest = r; killed = dead; clients = clients })) (sym bare) (record {
      under = (tt, tt);
      runs = ((λ le k e. absurd e, tt), tt);
      fit = (λ may. let most = heights.are.within m in omega (arith, most), tt);
      entries = omega arith;
    })
