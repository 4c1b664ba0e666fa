-- How a destruction begins, and the going of a cell.
use Rattle.std.proofs.lemmas.Bool.Decides.{nat_tests}
use Rattle.aom_machine_instructions.proofs.InheritanceLemmas.{families_inherit}
use Rattle.aom_image.specs.declared.method.Role.TheVariants.{Destruct}
use Rattle.aom_image.specs.Views.{method_class, class_in}
use Rattle.aom_frames.specs.declared.view.View.{View}
use Rattle.aom_frames.specs.Views.{own}
use Rattle.std.proofs.Common.{Bool, suc, ◌≡◌, ℕ, ℤ, ◌<◌, true, cond, length, List, [], ◌∷◌, Option, Some}
use Rattle.std.proofs.Common.{None, slice_set, slice_index_or, refl, sym, ap, ◌∙◌, subst, arith, false}
use Rattle.aom_machine_instructions.proofs.ImageLemmas.{some_given}
use Rattle.std.proofs.lemmas.Option.{same_Some}
use Rattle.std.proofs.lemmas.Bool.{eqb-true, eq-eqb}
use Rattle.std.proofs.lemmas.List.{length-set}
use Rattle.aom_image.specs.Image.{Image}
use Rattle.aom_instructions.specs.Table.{action_of}
use Rattle.aom_instructions.specs.declared.action.Action.TheVariants as action
use Rattle.aom_instructions.specs.declared.instr.Instr.{Instr}
use Rattle.aom_image.specs.declared.method.Thing.{Thing}
use Rattle.aom_image.specs.declared.method.Thing.TheVariants.{Message, Object as An_object_of}
use Rattle.aom_cells.specs.Heap.{Heap, null, cell_at, class_at, class_of, field_at, Changes}
use Rattle.aom_cells.specs.declared.cell.Cell.{Cell as Machine_cell}
use Rattle.aom_typing_rules.specs.Typing.{Typing}
use Rattle.aom_semantics.specs.Places.{Place, Register, Field, Going, Elsewhere, Root, same_place, Object, Cell, held, named, moved, changed}
use Rattle.aom_semantics.specs.Effects.{applied, deletes}
use Rattle.aom_semantics.specs.State.{Receiver, frame_as, frame_of, receiver_view, word, set_word, Dispatch, Of_root, Task}
use Rattle.aom_semantics.specs.State.{Run, Closing, Destroy, Dispatched, resumed, Counters, State, raised}
use Rattle.aom_link_conditions.specs.Roles.{destructor_of}
use Rattle.aom_semantics.specs.Destruction as checked
use Rattle.aom_semantics.specs.Destruction.{begun_by, is_field_of, owns_nothing}
use Rattle.aom_semantics.specs.Objects.{is_no_message}
use Rattle.aom_semantics.specs.Servers.{is_server}
use Rattle.aom_image.specs.WellFormed.{WellFormed}
use Rattle.aom_roles.specs.Things.{is_object}
use Rattle.aom_machine_instructions.proofs.MachineStateLemmas.{Alike, alike, at_depth, both_go, by_task, by_tasks, destroys_value, destroys_word, going_past}
use Rattle.aom_machine_instructions.proofs.MachineStateLemmas.{kept, moves, register_past, root_written, same_length, unowned, value_here, value_kept}
use Rattle.aom_machine_instructions.proofs.MachineStateLemmas.{value_written, word_next, word_past, word_written}
use Rattle.aom_machine_instructions.proofs.SafetyLemmas.{root_object}
use Rattle.aom_semantics.specs.Moves.{goes_line}
use Rattle.aom_safety.specs.WellTyped.{WellTyped}
use Rattle.aom_transcript.specs.declared.line.Line.TheVariants.{Gone}
use Rattle.aom_machine_instructions.proofs.SemanticsLemmas.{held_lives, held_moved, same_place-true}
use Rattle.aom_frames.specs.Tasks.{with_view, fresh, on_top, with_place, with_register, place_here, register_here, below_first}
use Rattle.aom_frames.specs.declared.frame.Frame.{Frame as Machine_frame}
use Rattle.aom_frames.specs.declared.task.Task.{Task as Machine_task}
use Rattle.aom_frames.specs.declared.task.Task.TheVariants.{Run as Runs_frame, Destroy as Destroys, Closing as Closes, Dispatched as Ends}
use Rattle.aom_frames.specs.declared.dispatch.Dispatch.{Dispatch as Machine_dispatch}
use Rattle.aom_frames.specs.declared.dispatch.Dispatch.TheVariants.{Root as End_of_run}
use Rattle.aom_machine_state.specs.declared.parts.Parts.{Parts}
use Rattle.aom_machine_state.specs.Places.{others, Others, value_in, going_in, with_tasks}
use Rattle.aom_machine_instructions.specs.Going.{begun, destructed, destructor_in, destructor_at, dying, is_server_class, root_removed}
use Rattle.aom_machine_state.specs.Agrees.{word_at, Represents, SameTasks, thing_in, number, Agrees}
use Rattle.aom_machine_instructions.specs.Acts.{CurrentFrame, In_going, DoesIn}
use Rattle.aom_machine_instructions.proofs.Running.{begun_as, Aside, agrees_with, aside_moved, object_class, object_small, object_there, Top}
use Rattle.aom_machine_instructions.proofs.Running.{by_top, reframed, moved_on, begun_registers, word_here, no_word, nothing_held, some_held}
use Rattle.aom_machine_instructions.proofs.ObjectActs.{destroy_does, shown}
use Rattle.aom_frames.specs.declared.item.Item.{Item}

-- a method at its first place shows nothing, and has no word
pub fresh_with : (method this : ℕ) (view : View) (us : List Machine_task) (h : Heap) (es : List Item) (rest : Others) (r : Place) →
    value_in (Runs_frame (with_view view (fresh method this)) ∷ us) h es rest r ≡ value_in us h es rest r
fresh_with method this view us h es rest x = grind (arith, nat_tests, at_depth, register_past us, begun_registers method this, going_past us)

pub fresh_value : (method this : ℕ) (us : List Machine_task) (h : Heap) (es : List Item) (rest : Others) (r : Place) →
    value_in (Runs_frame (fresh method this) ∷ us) h es rest r ≡ value_in us h es rest r
fresh_value method this us h es rest r = fresh_with method this own us h es rest r

pub fresh_as : (method : ℕ) (receiver : Receiver) (view : Option ℕ) (height : ℕ) (ts : List Task) (r : Place) →
    word_at (Run (frame_as method receiver view height) ∷ ts) r ≡ word_at ts r
fresh_as method receiver view height ts x = grind (arith, nat_tests, at_depth, word_past ts)

pub fresh_word : (method : ℕ) (receiver : Receiver) (height : ℕ) (ts : List Task) (r : Place) → word_at (Run (frame_of method receiver height) ∷ ts) r ≡ word_at ts r
fresh_word method receiver height ts r = fresh_as method receiver (receiver_view receiver) height ts r

-- nor does what lets go of sessions
pub closes_value : (us : List Machine_task) (h : Heap) (es : List Item) (rest : Others) (r : Place) → value_in (Closes ∷ us) h es rest r ≡ value_in us h es rest r
closes_value us h es rest x = grind (arith, nat_tests, at_depth, register_past us, going_past us)

pub closes_word : (ts : List Task) (r : Place) → word_at (Closing ∷ ts) r ≡ word_at ts r
closes_word ts x = grind (arith, nat_tests, at_depth, word_past ts)

-- the destructor that the machine finds is the one that the checked machine runs, and the class is one of servers for both
unfold_class : (p : Image) (t : Thing) (c : Option Machine_cell) → thing_in c ≡ Some t →
    (destructor_in p (class_of c) ≡ destructor_of p t) × (is_server_class p (class_of c) ≡ is_server p t)
unfold_class p t c e = grind (arith, nat_tests, some_given, same_Some)

module _ (p : Image) (m : Parts) (s : State) (agrees : Agrees p m s) (o : Object) (lives : named s.cells o.name ≡ Some o) (object : is_object o.thing ≡ true) where
  pub destructor_same : destructor_at p m.cells o.name ≡ destructor_of p o.thing
  destructor_same = (unfold_class p o.thing (cell_at m.cells o.name) (object_class p m s agrees o lives object)).0

  pub server_same : is_server_class p (class_at m.cells o.name) ≡ is_server p o.thing
  server_same = (unfold_class p o.thing (cell_at m.cells o.name) (object_class p m s agrees o lives object)).1

-- a destructor is of a class
pub destructor_class : (p : Image) (x : Thing) (k : ℕ) → destructor_of p x ≡ Some k → (c : ℕ) × (method_class p k ≡ Some c)
unfolding class_in
destructor_class p (An_object_of c) k e = let w = families_inherit.roles p c k Destruct e in (w.class, ap class_in w.there ∙ w.of)
destructor_class p Message k e = cc

-- what a place owned is at hand to go, and the place is null
module _ (p : Image) (m : Parts) (v : State) (us : List Machine_task) (ts : List Task) (n : ℕ) where
  abbrev pub DyingShows : Type 0
  DyingShows = (q : Place) → Represents (value_in (Destroys n ∷ us) m.cells m.entries.items (others m) q) (word_at (Destroy ∷ ts) q) (held v.cells q)

  -- its destructor runs, if there is one
  pub destructs : (d : Option ℕ) (o : Object) (height : ℕ) → ((k : ℕ) → d ≡ Some k → (c : ℕ) × (method_class p k ≡ Some c)) → n ≡ o.name → n < 4096 →
      SameTasks us ts → Aside p m v → DyingShows → Agrees p (with_tasks (destructed p d n (Destroys n ∷ us)) m) (record v { tasks = begun_by p d o height ts })
  destructs None o height of name small same aside values = agrees_with p m v (Destroys n ∷ us) (Destroy ∷ ts) aside (small, same) values
  destructs (Some k) o height of name small same aside values = grind (arith, nat_tests, begun_as k n, agrees_with p m v, fresh_with k n, fresh_as k)

  -- or the sessions with it go first, where it is a server
  pub begins : (class : Option ℕ) (o : Object) (height : ℕ) → n ≡ o.name →
      n < 4096 → is_server_class p class ≡ is_server p o.thing → destructor_in p class ≡ destructor_of p o.thing → SameTasks us ts → Aside p m v → DyingShows
      → Agrees p (with_tasks (begun p class n us) m) (record v { tasks = checked.begun p o height ts })
  begins class o height name small serves destructor same aside values = subst (λ b. Agrees p (with_tasks (cond b (Closes ∷ Destroys n ∷ us)
      (destructed p (destructor_in p class) n (Destroys n ∷ us))) m) (record v { tasks = checked.begun p o height ts })) (sym serves) (go (is_server p o.thing))
    where
      go : (b : Bool) → Agrees p (with_tasks (cond b (Closes ∷ Destroys n ∷ us) (destructed p (destructor_in p class) n (Destroys n ∷ us))) m)
          (record v { tasks = cond b (Closing ∷ Destroy ∷ ts) (checked.destructed p o height ts) })
      go true = agrees_with p m v (Closes ∷ Destroys n ∷ us) (Closing ∷ Destroy ∷ ts) aside (tt, (small, same)) (λ q. subst (λ x. Represents x
          (word_at (Closing ∷ Destroy ∷ ts) q) (held v.cells q)) (sym (closes_value (Destroys n ∷ us) m.cells m.entries.items (others m) q)) (subst (λ w.
          Represents (value_in (Destroys n ∷ us) m.cells m.entries.items (others m) q) w (held v.cells q)) (sym (closes_word (Destroy ∷ ts) q)) (values q)))
      go false = subst (λ d. Agrees p (with_tasks (destructed p d n (Destroys n ∷ us)) m) (record v { tasks = checked.destructed p o height ts }))
          (sym destructor) (destructs (destructor_of p o.thing) o height (destructor_class p o.thing) name small same aside values)

  pub dying_shows : (cs : List Cell) (from : Place) (u : Place → ℕ) (w : Place → Option ℤ) → v.cells ≡ moved from (Going (length ts)) cs →
      ((q : Place) → Represents (u q) (w q) (held cs q)) → length us ≡ length ts → w from ≡ None → u from ≡ n → held cs (Going (length ts)) ≡ None
      → ((q : Place) → value_in us m.cells m.entries.items (others m) q ≡ changed u from null q) → ((q : Place) → word_at ts q ≡ w q) → DyingShows
  dying_shows cs from u w moves_so old deep no_word is empty ev ew =
      let there = Going (length ts) in
      moves u _ w _ (held cs) _ from there old no_word (λ q. destroys_value us m.cells m.entries.items (others m) n (length ts) deep q
      ∙ ap (λ x. cond (same_place there q) n x) (ev q) ∙ ap (λ x. changed (changed u from null) there x q) (sym is)) (λ q. destroys_word ts (length ts) q
      ∙ ap (λ x. cond (same_place there q) None x) (ew q)) (λ q. ap (λ l. held l q) moves_so ∙ held_moved cs from there q empty)

module _ (p : Image) (m : Parts) (refused : List ℕ) where
  -- the destruction of what a register has
  pub destroy_object_does : (i : Instr) (a : ℕ) → action_of i ≡ action.Destroy a → a < 16 → (register_here m.stack.tasks a ≡ null → ⊥)
      → DoesIn p refused i m (with_tasks (dying p m.cells (register_here m.stack.tasks a) (on_top (with_register a null) m.stack.tasks)) m)
  destroy_object_does i a is small some = destroy_does m refused p _ i a is (λ h c needs. by_top p m h
      (λ us. (register_here us a ≡ null → ⊥) → Agrees p (with_tasks (dying p m.cells (register_here us a) (on_top (with_register a null) us)) m)
      (applied p h.frame h.below h.state (deletes h.frame (held h.state.cells (Register (length h.below) a)) a)))
      (λ f ms top some. let x = some_held (held h.state.cells (Register (length h.below) a)) (λ n. some (shown p m h f ms top a (no_word _ needs.0) ∙ n)) in
      subst (λ o. Agrees p (deleted f ms) (applied p h.frame h.below h.state (deletes h.frame o a))) (sym x.1)
      (object h f ms top (no_word _ needs.0) x.0 x.1 (sym (ap is_no_message x.1) ∙ needs.1.0))) some)
    where
      deleted : Machine_frame → List Machine_task → Parts
      deleted f ms =
          with_tasks (dying p m.cells (slice_index_or f.registers a null) (Runs_frame (record f { registers = slice_set f.registers a null }) ∷ ms)) m

      object : (h : CurrentFrame p m) (f : Machine_frame) (ms : List Machine_task) → Top m h.state h.frame h.below f ms →
          word h.frame a ≡ None → (o : Object) → held h.state.cells (Register (length h.below) a) ≡ Some o → is_object o.thing ≡ true
          → Agrees p (deleted f ms) (applied p h.frame h.below h.state (deletes h.frame (Some o) a))
      object h f ms top none o e cell =
          let s = h.state in
          let fr = h.frame in
          let ts = h.below in
          let here = Register (length ts) a in
          let k = slice_index_or f.registers a null in
          let wide = top.frame.wide in
          let us = Runs_frame (record f { registers = slice_set f.registers a null }) ∷ ms in
          let vs = Run (set_word fr a None) ∷ ts in
          let was = word_here fr ts a ∙ none in
          let name : k ≡ o.name = shown p m h f ms top a none ∙ ap number e in
          let lives = held_lives s.cells here o h.typed.good.no_duplicates e in
          let below = object_small p m s h.formed h.agrees o lives cell in
          let v : State = record s { cells = moved here (Going (suc (length ts))) s.cells } in
          let empty : held s.cells (Going (suc (length ts))) ≡ None = nothing_held p m h.typing s h.typed h.agrees (Going (suc (length ts)))
          (sym (going_past (Runs_frame f ∷ ms) (suc (length ts)) (let d = top.deep in omega arith)) ∙ top.values (Going (suc (length ts)))) in
          begins p m v us vs k (class_at m.cells k) o (length s.items) name (subst (λ i. i < 4096) (sym name) below)
          (ap (λ i. is_server_class p (class_at m.cells i)) name ∙ server_same p m s h.agrees o lives cell)
          (ap (λ i. destructor_at p m.cells i) name ∙ destructor_same p m s h.agrees o lives cell)
          (reframed f fr (slice_set f.registers a null) _ f.place fr.place top.frame (length-set f.registers a null ∙ wide) top.frame.place, top.below)
          (aside_moved p m s here (Going (suc (length ts))) h.agrees refl refl)
          (dying_shows p m v us vs k s.cells here (value_in (Runs_frame f ∷ ms) m.cells m.entries.items (others m))
          (word_at (Run fr ∷ ts)) refl top.values (ap suc top.deep) was (value_here f ms m.cells m.entries.items (others m) (length ts) a top.deep) empty
          (value_written f ms m.cells m.entries.items (others m) (length ts) a null f.place top.deep (omega arith))
          (λ q. word_written fr ts a fr.place None q ∙ sym (kept (word_at (Run fr ∷ ts)) here q ∙ ap (λ x. changed (word_at (Run fr ∷ ts)) here x q) was)))

-- the end of a dispatch shows nothing
pub end_value : (x y : Machine_dispatch) (h : Heap) (es : List Item) (rest : Others) (q : Place) →
    value_in (Ends x ∷ []) h es rest q ≡ value_in (Ends y ∷ []) h es rest q
end_value x y h es rest q = grind arith

-- and has no word
pub end_word : (d e : Dispatch) (q : Place) → word_at (Dispatched d ∷ []) q ≡ word_at (Dispatched e ∷ []) q
end_word d e _ = refl

-- where a dispatch is at its end, the root is at hand to go, with these counts
pub removes_root : (p : Image) → WellFormed p → (m : Parts) (t : Typing) (s : State) (x : Machine_dispatch) (d : Dispatch) (o : Object) (rest r : Counters) →
    WellTyped p t s → Agrees p m s → m.stack.tasks ≡ Ends x ∷ [] → s.tasks ≡ Dispatched d ∷ [] →
    held s.cells (Elsewhere Root) ≡ Some o → record rest { clock = raised rest.clock } ≡ r → Agrees p (root_removed p (record m { rest = rest }))
    (record s { cells = moved (Elsewhere Root) (Going 1) s.cells; tasks = checked.begun p o (length s.items) (Dispatched Of_root ∷ []); rest = r })
removes_root p formed m t s x d o rest r typed agrees held_top top e same =
    let old = value_in (Ends x ∷ []) m.cells m.entries.items (others m) in
    let w = word_at (Dispatched d ∷ []) in
    let mid = record m { root = null; rest = record rest { clock = raised rest.clock } } in
    let v : State = record s { cells = moved (Elsewhere Root) (Going 1) s.cells; rest = r } in
    let values : (q : Place) → Represents (old q) (w q) (held s.cells q) = grind (arith, nat_tests) in
    let name : m.root ≡ o.name = values (Elsewhere Root) ∙ ap number e in
    let lives = held_lives s.cells (Elsewhere Root) o typed.good.no_duplicates e in
    let cell = root_object p t s typed o e in
    let aside = aside_moved p m s (Elsewhere Root) (Going 1) agrees refl refl in
    subst (λ ms. Agrees p (with_tasks (dying p m.cells m.root (Ends End_of_run ∷ ms)) mid)
    (record v { tasks = checked.begun p o (length s.items) (Dispatched Of_root ∷ []) })) (sym (ap below_first held_top))
    (begins p mid v (Ends End_of_run ∷ []) (Dispatched Of_root ∷ []) m.root (class_at m.cells m.root) o (length s.items) name (subst (λ i. i < 4096)
    (sym name) (object_small p m s formed agrees o lives cell)) (ap (λ i. is_server_class p (class_at m.cells i)) name ∙ server_same p m s agrees o lives cell)
    (ap (λ i. destructor_at p m.cells i) name ∙ destructor_same p m s agrees o lives cell) ((Elsewhere Root, refl), tt) (record {
      cells = aside.cells;
      entries = aside.entries;
      requests = aside.requests;
      natives = aside.natives;
      services = aside.services;
      rest = same;
      room = aside.room;
      entry_room = aside.entry_room;
    })
    (dying_shows p mid v (Ends End_of_run ∷ []) (Dispatched Of_root ∷ []) m.root s.cells (Elsewhere Root) old w refl values refl refl refl
    (nothing_held p m t s typed agrees (Going 1) (values (Going 1)))
    (λ q. root_written (Ends End_of_run ∷ []) m.cells m.entries.items (others m) null q
    ∙ ap (λ k. changed (λ z. k) (Elsewhere Root) null q) (end_value End_of_run x m.cells m.entries.items (others m) q)) (end_word Of_root d)))

-- what is known of the machine, taken apart
pub record Ends_cell (m : Parts) (s : State) (x : ℕ) (ms : List Machine_task) (ts : List Task) : Type 0 where
  pub small : x < 4096
  pub below : SameTasks ms ts
  pub deep : length ms ≡ length ts
  pub values : (r : Place) → Represents (value_in (Destroys x ∷ ms) m.cells m.entries.items (others m) r) (word_at (Destroy ∷ ts) r) (held s.cells r)

pub by_going : (p : Image) (m : Parts) (h : In_going p m) (G : List Machine_task → Type 0)
    → ((x : ℕ) (ms : List Machine_task) → Ends_cell m h.state x ms h.below → G (Destroys x ∷ ms)) → G m.stack.tasks
by_going p m h G show = go (alike m.stack.tasks (Destroy ∷ h.below) (subst (λ us. SameTasks m.stack.tasks us) h.top h.agrees.tasks)) (λ r.
    subst (λ us. Represents (value_in m.stack.tasks m.cells m.entries.items (others m) r) (word_at us r) (held h.state.cells r)) h.top (h.agrees.values r))
  where
    go : {ms : List Machine_task} → Alike ms (Destroy ∷ h.below) →
        ((r : Place) → Represents (value_in ms m.cells m.entries.items (others m) r) (word_at (Destroy ∷ h.below) r) (held h.state.cells r)) → G ms
    go (both_go x ms _ small below _) values = show x ms (record { small = small; below = below; deep = same_length ms h.below below; values = values })

-- the method below goes on, if there is one
abbrev pub going_on : List Machine_task → List Machine_task
going_on ms = on_top (with_place (suc (place_here ms))) ms

pub same_resumed : (ms : List Machine_task) (ts : List Task) → SameTasks ms ts → SameTasks (going_on ms) (resumed ts)
same_resumed = by_tasks (λ ms ts. SameTasks (going_on ms) (resumed ts)) tt (λ m t ms ts same rest _.
    by_task (λ m t. SameTasks (going_on (m ∷ ms)) (resumed (t ∷ ts))) (record {
      runs = λ f fr e. (moved_on f fr f.registers fr.words e e.wide, rest);
      trapped = (tt, rest);
      destroys = λ x small. (small, rest);
      closes = (tt, rest);
      unwinds = λ code c e. (e, rest);
      ends = λ d x e. (e, rest);
    }) m t same)

pub value_resumed : (ms : List Machine_task) (h : Heap) (es : List Item) (rest : Others) (r : Place) → value_in (going_on ms) h es rest r ≡ value_in ms h es rest r
value_resumed x h es rest r = grind (arith, nat_tests, value_kept)

pub word_resumed : (ts : List Task) (r : Place) → word_at (resumed ts) r ≡ word_at ts r
word_resumed x r = grind (arith, nat_tests, word_next)

-- no field of that cell owns
pub nothing_owned : (cs : List Cell) (n f : ℕ) → owns_nothing cs n ≡ true → held cs (Field n f) ≡ None
nothing_owned [] n f e = refl
nothing_owned (c ∷ cs) n f e = grind (arith, nat_tests, unowned c cs (Field n f), eq-eqb n n, nothing_owned cs n f)

-- a place is written twice
pub over : {A : Type 0} (f g : Place → A) (q : Place) (x y : A) → ((r : Place) → f r ≡ changed g q x r) → g q ≡ y → (r : Place) → changed f q y r ≡ g r
over f g q x y ef e r = grind (arith, nat_tests, same_place-true q r)

-- the fields of a cell that owned nothing were null, and so they are where it is gone
pub fields_gone : (us : List Machine_task) (h h' : Heap) (es : List Item) (rest : Others) (n : ℕ) →
    ((f : ℕ) → field_at h n f ≡ null) → Changes h h' n None → (r : Place) → value_in us h' es rest r ≡ value_in us h es rest r
fields_gone us h h' es rest n nulls ch x = grind (arith, nat_tests, eqb-true n, eq-eqb n)

-- its class, as its line shows it
pub line_of : (o : Object) (class : ℕ) → o.thing ≡ An_object_of class → goes_line (Some o) ≡ Gone class ∷ []
line_of o class e = ap (λ (t : Thing). goes_line (Some (record o { thing = t }))) e

pub thing_is : (t : Thing) (class : ℕ) (c : Option Machine_cell) → class_of c ≡ Some class → thing_in c ≡ Some t → t ≡ An_object_of class
thing_is t class c e f = grind (arith, nat_tests, some_given, same_Some)

module _ (p : Image) (m : Parts) (h : In_going p m) (o : Object) where
  -- the number that goes is the object's
  pub number_of : (x : ℕ) (ms : List Machine_task) → Ends_cell m h.state x ms h.below → held h.state.cells (Going (length h.below)) ≡ Some o → x ≡ o.name
  number_of x ms top holds =
      let d = length h.below in
      let at : value_in (Destroys x ∷ ms) m.cells m.entries.items (others m) (Going d) ≡ x = ap (λ b. cond b x (going_in ms d)) (eq-eqb (length ms) d top.deep) in
      sym at ∙ top.values (Going d) ∙ ap number holds

  pub thing_of_it : (n class : ℕ) → class_at m.cells n ≡ Some class → n ≡ o.name → named h.state.cells o.name ≡ Some o → is_object o.thing ≡ true →
      o.thing ≡ An_object_of class
  thing_of_it n class is name lives object =
      thing_is o.thing class (cell_at m.cells n) is (ap (λ k. thing_in (cell_at m.cells k)) name ∙ object_class p m h.state h.agrees o lives object)

  -- and of an object
  pub going_small : (x : ℕ) (ms : List Machine_task) → Ends_cell m h.state x ms h.below → held h.state.cells (Going (length h.below)) ≡ Some o → o.name < 4096
  going_small x ms top holds = subst (λ n. n < 4096) (number_of x ms top holds) top.small

  pub going_object : (x : ℕ) (ms : List Machine_task) → Ends_cell m h.state x ms h.below → held h.state.cells (Going (length h.below)) ≡ Some o →
      is_object o.thing ≡ true
  going_object x ms top holds = object_there p m h.state h.agrees o (held_lives h.state.cells _ o h.typed.good.no_duplicates holds) (going_small x ms top holds)
