-- Instructions on the cleanup stack.
use Rattle.std.proofs.lemmas.Bool.Decides.{nat_tests}
use Rattle.std.proofs.Common.{inl, inr, ◌≡◌, ◌≤◌, ℕ, ℤ, ◌<◌, Bool, true, false, cond, length, List}
use Rattle.std.proofs.Common.{[], ◌∷◌, Option, None, negsuc, refl, sym, ap, ◌∙◌, subst, arith}
use Rattle.std.specs.Int.{w32, cast_signed}
use Rattle.std.proofs.lemmas.Bool.{true≢false}
use Rattle.aom_image.specs.Image.{Image}
use Rattle.aom_instructions.specs.declared.instr.Instr.TheVariants.{Push, PushOperation, Pop, PopOperation, NewOrLeave}
use Rattle.aom_roles.specs.Tests.{AllTrue}
use Rattle.aom_cells.specs.Heap.{Heap, null}
use Rattle.aom_frames.specs.Items.{Stack as Machine_items, owned_by}
use Rattle.aom_frames.specs.declared.item.Item.{Item as Machine_item}
use Rattle.aom_frames.specs.declared.item.Item.TheVariants.{Object as Holds_object, Operation as Holds_operation}
use Rattle.aom_roles.specs.Tables.{set_extending}
use Rattle.aom_semantics.specs.Calls.{below_top}
use Rattle.aom_semantics.specs.Cleanup.{leave_needs, no_memory, top_matches_operation, to_trap}
use Rattle.aom_semantics.specs.Places.{Place, Register, Entry, changed, held, moved}
use Rattle.aom_semantics.specs.Effects.{Effect, Leaves, Pushed, Pushed_operation, Update, applied, sets, unless_refused, updates}
use Rattle.aom_semantics.specs.State.{Task, Run, Item, An_object, Counters, State, Choice, raised, word, Frame, Unwind, An_operation}
use Rattle.aom_semantics.specs.Words.{read}
use Rattle.aom_machine_instructions.proofs.SemanticsLemmas.{held_moved}
use Rattle.aom_machine_state.specs.LineBuffer.{LineBuffer}
use Rattle.aom_frames.specs.Tasks.{on_top, with_register, register_here}
use Rattle.aom_frames.specs.declared.frame.Frame.{Frame as Machine_frame}
use Rattle.aom_frames.specs.declared.task.Task.{Task as Machine_task}
use Rattle.aom_frames.specs.declared.task.Task.TheVariants.{Run as Runs_frame}
use Rattle.aom_machine_instructions.proofs.MachineStateLemmas.{and_true, below_same, cells_moved, entry_past, kept, moves, natives_moved, owns_none}
use Rattle.aom_machine_instructions.proofs.MachineStateLemmas.{requests_moved, same_items_length, services_moved, top_value, value_alike, value_here}
use Rattle.aom_machine_instructions.proofs.MachineStateLemmas.{value_popped, value_pushed, value_written, word_written}
use Rattle.aom_machine_state.specs.declared.parts.Parts.{Parts}
use Rattle.aom_machine_instructions.specs.Acts.{CurrentFrame, requested, leaving, Does, DoesIn}
use Rattle.aom_machine_state.specs.Places.{others, set_register, value_in, with_items}
use Rattle.aom_machine_state.specs.Cells.{refuses, refuses_entry, Made}
use Rattle.aom_machine_state.specs.Places as places
use Rattle.aom_machine_state.specs.Agrees.{Represents, SameItems, word_at, Agrees, observed_by}
use Rattle.aom_machine_instructions.proofs.LeavingActs.{leaves, leaves_at}
use Rattle.aom_machine_instructions.proofs.ObjectActs.{asks_one, made_agrees, new_small, same_entry_refusal, same_refusal}
use Rattle.aom_machine_instructions.proofs.Running.{Top, word_here, no_word, free, nothing_held, null_unnamed, unnamed, observed_fits}
use Rattle.aom_machine_instructions.proofs.Stepping.{agrees_rest}
use Rattle.aom_machine_instructions.proofs.WordActs.{plain_does, word_read}
use Rattle.aom_machine_instructions.proofs.GoingOn.{framed, goes_on_as, goes_on_with}

same_cond : {A : Type 0} (b : Bool) (x : A) → x ≡ cond b x x
same_cond x y = grind arith

-- entries have no words
entry_words : (us : List Task) (k : ℕ) (r : Place) → word_at us r ≡ changed (word_at us) (Entry k) None r
entry_words us k x = grind (arith, nat_tests, same_cond {A = Option ℤ}, and_true {A = Option ℤ})

-- the machine whose request is counted
abbrev asked : Parts → Parts
asked m = record m { rest = record m.rest { requests = raised m.rest.requests } }

module _ (p : Image) (m : Parts) (h : CurrentFrame p m) where
  -- over the items there is nothing
  none_over : (f : Machine_frame) (ms : List Machine_task) → Top m h.state h.frame h.below f ms → held h.state.cells (Entry (length h.state.items)) ≡ None
  none_over f ms top = grind (
    arith,
    nat_tests,
    same_items_length m.entries.items h.state.items h.agrees.entries,
    nothing_held p m h.typing h.state h.typed h.agrees,
    entry_past m.entries.items,
  )

-- the machine once an object is pushed, and an operation
abbrev pub held_pushed : ℕ → Parts → Parts
held_pushed a m = places.next (with_items (Holds_object (register_here m.stack.tasks a) ∷ m.entries.items) (set_register a null (asked m)))

abbrev pub held_operation : ℕ → ℕ → Parts → Parts
held_operation a k m = places.next (with_items (Holds_operation k (register_here m.stack.tasks a) ∷ m.entries.items) (asked m))

module _ (p : Image) (m : Parts) (h : CurrentFrame p m) (r : Counters) (rest : record m.rest { requests = raised m.rest.requests } ≡ r) where
  object_pushed : (a : ℕ) → a < 16 → word h.frame a ≡ None →
      Agrees p (held_pushed a m) (applied p h.frame h.below (record h.state { rest = r }) (sets h.frame a None (Pushed a)))
  object_pushed a small wordless =
      let s = h.state in
      let fr = h.frame in
      let ts = h.below in
      let n = register_here m.stack.tasks a in
      let here = Register (length ts) a in
      let there = Entry (length s.items) in
      let was = word_here fr ts a ∙ wordless in
      goes_on_with p m h (with_items (Holds_object n ∷ m.entries.items) (asked m)) (moved here there s.cells) (An_object ∷ s.items) r
      (set_extending None fr.words a None) (on_top (with_register a null)) (with_register a null) (λ f ms. refl) (record {
        stack = refl;
        cells = cells_moved p m.cells s.cells here there h.agrees.cells;
        entries = (tt, h.agrees.entries);
        requests = requests_moved p m.active s.cells here there h.agrees.requests;
        natives = natives_moved p m.sessions s.killed s.cells here there h.agrees.natives;
        services = services_moved p s.cells here there refl refl h.agrees.services;
        rest = rest;
        room = h.agrees.entry_room;
      }) (λ f ms e top.
      let wide = top.frame.wide in
      let v = value_in (Runs_frame f ∷ ms) m.cells m.entries.items (others m) in
      record {
        frame = framed p m h f ms _ a null top;
        values = moves v _ _ _ (held s.cells) _ here there top.values was (λ q. value_pushed (Runs_frame (with_register a null f) ∷ ms) m.cells m.entries.items
            (others m) n (length s.items) (same_items_length m.entries.items s.items h.agrees.entries) q ∙ ap (λ x. changed (λ z. x) there n q) (value_written
            f ms m.cells m.entries.items (others m) (length ts) a null f.place top.deep (omega arith) q) ∙ ap (λ x. changed (changed v here null) there x q)
            (ap (λ us. register_here us a) e ∙ sym (value_here f ms m.cells m.entries.items (others m) (length ts) a top.deep)))
            (λ q. word_written fr ts a fr.place None q ∙ sym (kept (word_at (Run fr ∷ ts)) here q ∙ ap (λ x. changed (word_at (Run fr ∷ ts)) here x q) was)
            ∙ entry_words (Run fr ∷ ts) (length s.items) q) (λ q. held_moved s.cells here there q (none_over p m h f ms top));
      })

  operation_comes : (a k : ℕ) → cast_signed w32 (register_here m.stack.tasks a) ≡ read h.frame h.below h.state a → Agrees p (held_operation a k m)
      (applied p h.frame h.below (record h.state { rest = r }) (updates h.frame (Pushed_operation k (read h.frame h.below h.state a))))
  operation_comes a k is =
      let s = h.state in
      let i = Holds_operation k (register_here m.stack.tasks a) in
      goes_on_as p m h (with_items (i ∷ m.entries.items) (asked m)) s.cells (An_operation k (read h.frame h.below s a) ∷ s.items) r (record {
        stack = refl;
        cells = h.agrees.cells;
        entries = ((refl, is), h.agrees.entries);
        requests = h.agrees.requests;
        natives = h.agrees.natives;
        services = h.agrees.services;
        rest = rest;
        room = h.agrees.entry_room;
      })
      (λ f ms e top q. subst (λ n. Represents n (word_at (Run h.frame ∷ h.below) q) (held s.cells q)) (sym (value_alike
      (Runs_frame f ∷ ms) m.cells (i ∷ m.entries.items) m.entries.items (others m) (λ d. owns_none i m.entries.items d refl) q)) (top.values q))

-- where the request is refused the machine leaves
leaves_if : (p : Image) (m : Parts) (fr : Frame) (ts : List Task) (s : State) (b : Bool) (off : Update) (on : Effect) → Agrees p m (applied p fr ts s on) →
    record (applied p fr ts s on) { tasks = Unwind no_memory ∷ to_trap (applied p fr ts s on).tasks } ≡ applied p fr ts s (Leaves no_memory off) →
    AllTrue (cond b (leave_needs (applied p fr ts s on).cells (applied p fr ts s on).tasks) []) →
    Agrees p (cond b (leaving (negsuc 3) m) m) (applied p fr ts s (unless_refused b off on))
leaves_if p m fr ts s true off on agrees same needs = subst (Agrees p (leaving (negsuc 3) m)) same (leaves p m (applied p fr ts s on) no_memory agrees needs.1.0)
leaves_if p m fr ts s false off on agrees same needs = agrees

module _ (m : Parts) (lines : LineBuffer) where
  pub push_does : (a : ℕ) (refused : Bool) → a < 16 → refused ≡ refuses_entry lines m →
      Does lines.refused (Push a) m (cond refused (leaving (negsuc 3) (held_pushed a m)) (held_pushed a m))
  unfolding DoesIn
  push_does a refused small same p h here =
      let s = h.state in
      let c : Choice = record { name = null; refused = refused; answer = observed_by m } in (
        c,
        record { name = null_unnamed p m s h.agrees; refusal = same ∙ same_entry_refusal p lines m h (Push a) here refl; answer = observed_fits m },
        refl,
        λ needs typed.
            let was = no_word _ needs.0 in
            let object = object_pushed p m h _ (asks_one m lines s.rest h.agrees.rest) a small was in
            leaves_if p (held_pushed a m) h.frame h.below (requested (Push a) s) refused (Pushed a) (sets h.frame a None (Pushed a)) object refl needs.1.1.1.1,
      )

  pub push_operation_does : (a k : ℕ) (refused : Bool) → refused ≡ refuses_entry lines m →
      Does lines.refused (PushOperation a k) m (cond refused (leaving (negsuc 3) (held_operation a k m)) (held_operation a k m))
  unfolding DoesIn
  push_operation_does a k refused same p h here =
      let s = h.state in
      let c : Choice = record { name = null; refused = refused; answer = observed_by m } in (
        c,
        record { name = null_unnamed p m s h.agrees; refusal = same ∙ same_entry_refusal p lines m h (PushOperation a k) here refl; answer = observed_fits m },
        refl,
        λ needs typed.
            let is = word_read p m h a needs.0 in
            let operation = operation_comes p m h _ (asks_one m lines s.rest h.agrees.rest) a k is in
            leaves_if p (held_operation a k m) h.frame h.below (requested (PushOperation a k) s) refused
            (Pushed_operation k (read h.frame h.below s a)) (updates h.frame (Pushed_operation k (read h.frame h.below s a))) operation refl needs.1.1,
      )

  -- `newl` leaves where it is refused
  pub newl_refused : (a class : ℕ) → true ≡ refuses lines m → Does lines.refused (NewOrLeave a class) m (leaving (negsuc 3) (asked m))
  unfolding DoesIn
  newl_refused a class full p h here = (
    record { name = null; refused = true; answer = observed_by m },
    record { name = null_unnamed p m h.state h.agrees; refusal = full ∙ same_refusal p lines m h (NewOrLeave a class) here refl; answer = observed_fits m },
    refl,
    λ needs typed. leaves_at p (asked m) (requested (NewOrLeave a class) h.state) h.frame h.below no_memory h.top
        (agrees_rest p m h.state _ _ (asks_one m lines h.state.rest h.agrees.rest) h.agrees) needs.1.1.0,
  )

  pub newl_made : (a class n : ℕ) (heap : Heap) → a < 16 → false ≡ refuses lines m →
      Made class false n m.cells heap → Does lines.refused (NewOrLeave a class) m (places.next (set_register a n (record (asked m) { cells = heap })))
  unfolding DoesIn
  newl_made a class n heap small granted made p h here = elim made [
    | inl none ↦ absurd (true≢false (sym none.0))
    | inr it ↦ (
      record { name = n; refused = false; answer = observed_by m },
      record {
        name = unnamed p m h.state n h.agrees (new_small p m h heap n class it.4 it.6) it.2;
        refusal = granted ∙ same_refusal p lines m h (NewOrLeave a class) here refl;
        answer = observed_fits m;
      },
      refl,
      λ needs typed. made_agrees m lines p h a class n heap _ small (asks_one m lines h.state.rest h.agrees.rest) needs.0 it.1 it.2 it.3 it.4 it.5 it.6,
    )
  ]

-- ---- what is on top goes

deep_enough : (e es : Machine_items) (is : List Machine_item) → 1024 ≤ e.depth → e ≡ record es { items = is } → 1024 ≤ es.depth
deep_enough e es is deep same = subst (λ d. 1024 ≤ d) (ap (λ (x : Machine_items). x.depth) same) deep

module _ (m : Parts) (refused : List ℕ) (es : Machine_items) where
  pub pop_does : (a n : ℕ) → a < 16 → m.entries ≡ record es { items = Holds_object n ∷ es.items } →
      Does refused (Pop a) m (places.next (set_register a n (record m { entries = es })))
  pop_does a n small popped = plain_does m (places.next (set_register a n (record m { entries = es }))) refused (Pop a) refl (λ p h c met.
      let s = h.state in
      let fr = h.frame in
      let ts = h.below in
      let items = below_top s.items in
      let here = Register (length ts) a in
      let from = Entry (length items) in
      let was : m.entries.items ≡ Holds_object n ∷ es.items = ap (λ (e : Machine_items). e.items) popped in
      let same = subst (λ is. SameItems is s.items) was h.agrees.entries in
      let deep = same_items_length es.items items (below_same (Holds_object n) es.items s.items same) in
      goes_on_with p m h (record m { entries = es }) (moved from here s.cells) items s.rest (set_extending None fr.words a None) (on_top (with_register a n))
      (with_register a n) (λ f ms. refl) (record {
        stack = refl;
        cells = cells_moved p m.cells s.cells from here h.agrees.cells;
        entries = below_same (Holds_object n) es.items s.items same;
        requests = requests_moved p m.active s.cells from here h.agrees.requests;
        natives = natives_moved p m.sessions s.killed s.cells from here h.agrees.natives;
        services = services_moved p s.cells from here refl refl h.agrees.services;
        rest = h.agrees.rest;
        room = deep_enough m.entries es _ h.agrees.entry_room popped;
      }) (λ f ms e top.
      let wide = top.frame.wide in
      let v = value_in (Runs_frame f ∷ ms) m.cells (Holds_object n ∷ es.items) (others m) in
      let old : (q : Place) → Represents (v q) (word_at (Run fr ∷ ts) q) (held s.cells q) =
      λ q. subst (λ is. Represents (value_in (Runs_frame f ∷ ms) m.cells is (others m) q) (word_at (Run fr ∷ ts) q) (held s.cells q)) was (top.values q) in
      record {
        frame = framed p m h f ms _ a n top;
        values = moves v _ _ _ (held s.cells) _ from here old refl
            (λ q. value_written f ms m.cells es.items (others m) (length ts) a n f.place top.deep (omega arith) q
            ∙ ap (λ x. changed (λ z. x) here n q) (value_popped (Runs_frame f ∷ ms) m.cells es.items (others m) n (length items) deep q)
            ∙ ap (λ x. changed (changed v from null) here x q) (sym (top_value (Runs_frame f ∷ ms) m.cells es.items (others m) n (length items) deep)))
            (word_written fr ts a fr.place None) (λ q. held_moved s.cells from here q (free _ met.0));
      }))

  pub pop_operation_does : (i : Machine_item) → m.entries ≡ record es { items = i ∷ es.items } →
      Does refused PopOperation m (places.next (record m { entries = es }))
  pop_operation_does i popped = plain_does m (places.next (record m { entries = es })) refused PopOperation refl (λ p h c met.
      let s = h.state in
      let fr = h.frame in
      let ts = h.below in
      let was : m.entries.items ≡ i ∷ es.items = ap (λ (e : Machine_items). e.items) popped in
      let same = subst (λ is. SameItems is s.items) was h.agrees.entries in
      goes_on_as p m h (record m { entries = es }) s.cells (below_top s.items) s.rest (record {
        stack = refl;
        cells = h.agrees.cells;
        entries = below_same i es.items s.items same;
        requests = h.agrees.requests;
        natives = h.agrees.natives;
        services = h.agrees.services;
        rest = h.agrees.rest;
        room = deep_enough m.entries es _ h.agrees.entry_room popped;
      }) (λ f ms e top q. subst (λ k. Represents k (word_at (Run fr ∷ ts) q) (held s.cells q)) (value_alike (Runs_frame f ∷ ms) m.cells (i ∷ es.items) es.items
      (others m) (λ d. owns_none i es.items d (operation_owns i es.items s.items same met.1.0)) q)
      (subst (λ is. Represents (value_in (Runs_frame f ∷ ms) m.cells is (others m) q) (word_at (Run fr ∷ ts) q) (held s.cells q)) was (top.values q))))
    where
      operation_owns : (i : Machine_item) (is : List Machine_item) (js : List Item) → SameItems (i ∷ is) js → top_matches_operation js ≡ true → owned_by i ≡ null
      operation_owns x is js same e = grind arith
