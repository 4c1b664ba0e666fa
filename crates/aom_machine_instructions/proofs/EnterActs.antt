-- A method is called: it begins over the one that runs, with its arguments in its first registers.
use Rattle.std.proofs.lemmas.Bool.Decides.{nat_tests}
use Rattle.aom_image.specs.declared.method.Thing.TheVariants.{Message as A_message, Object as An_object_of}
use Rattle.aom_cells.specs.declared.cell.Cell.{Cell as Machine_cell}
use Rattle.aom_machine_instructions.proofs.MachineStateLemmas.{cells_moved, entry_number, held_over, higher, kept, mark_shows_none, moves, natives_passed}
use Rattle.aom_machine_instructions.proofs.MachineStateLemmas.{over_deep, over_register, over_value, over_word, over_words, requests_passed, services_passed}
use Rattle.aom_machine_instructions.proofs.MachineStateLemmas.{stands_here, tasks_over, value_here, value_written, word_written, writes}
use Rattle.aom_machine_instructions.proofs.Stepping.{at_step}
use Rattle.aom_machine_instructions.proofs.Finding.{class_fits}
use Rattle.aom_frames.specs.declared.view.View.{View}
use Rattle.aom_frames.specs.Views.{class_above}
use Rattle.aom_link_conditions.specs.Roles.{or_else}
use Rattle.aom_link_conditions.specs.Overriding.{body_of}
use Rattle.aom_roles.specs.Things.{Member, is_object}
use Rattle.aom_image.specs.declared.method.Thing.{Thing}
use Rattle.std.proofs.Common.{zero, suc, ◌≢◌, ◌≡◌, ◌==◌, ◌&&◌, ℕ, ℤ, ◌<◌, ◌≤◌, ◌+◌, Bool, true, false, cond, length, List, [], ◌∷◌, ◌++◌}
use Rattle.std.proofs.Common.{Option, Some, None, slice_index_or, slice_set, refl, sym, ap, ◌∙◌, subst, arith, append-nil, append_assoc}
use Rattle.std.specs.Prelude.{IfSome, IsSome, is_some}
use Rattle.std.proofs.lemmas.Bool.{eq-eqb, eqb-true, false≢true, ne_eqb}
use Rattle.std.proofs.lemmas.Bool.Decides.{leb_tells}
use Rattle.std.proofs.lemmas.List.{length-set}
use Rattle.aom_image.specs.Image.{Image}
use Rattle.aom_image.specs.Views.{action_in, arguments_of, method_at, method_class}
use Rattle.aom_instructions.specs.declared.instr.Instr.TheVariants.{Call, Trap}
use Rattle.aom_instructions.specs.declared.instr.Target.{Target}
use Rattle.aom_instructions.specs.declared.instr.Target.TheVariants.{This, Register as On_register, Field as On_field, Entry as On_entry}
use Rattle.aom_image.specs.declared.method.Argument.{Argument}
use Rattle.aom_image.specs.declared.method.Argument.TheVariants.{Word as Takes_word, Own as Takes_own}
use Rattle.aom_roles.specs.Tests.{AllTrue}
use Rattle.aom_cells.specs.Heap.{cell_at, class_of, class_at, Lives, Heap, null}
use Rattle.aom_roles.specs.Tables.{set_extending}
use Rattle.aom_semantics.specs.Calls.{run_by, is_worked_on, entered, entry_place, receiver_at, needs_each, needs_entering}
use Rattle.aom_semantics.specs.Calls.{needs_target, passed_cells, passed_words, target_receiver, target_view}
use Rattle.aom_semantics.specs.Places.{named, Place, Register, Elsewhere, Entry, Field, Going, Object, Cell, changed, held, moved, same_place}
use Rattle.aom_semantics.specs.State.{thing_holder, thing_view, receiver_view, receiver_holder, Counters, Inside, AtRoot, Static}
use Rattle.aom_semantics.specs.State.{Receiver, Frame, Need, Task, Run, Trapped, A_mark, State, field_place, frame_as, word}
use Rattle.aom_machine_instructions.proofs.SafetyLemmas.{all_parts, object_for}
use Rattle.aom_machine_instructions.proofs.SemanticsLemmas.{held_lives, held_moved}
use Rattle.aom_frames.specs.Tasks.{given, given_here, on_top, passed_on, passing, register_here, this_here, with_register, method_here, place_here}
use Rattle.aom_frames.specs.declared.frame.Frame.{Frame as Machine_frame}
use Rattle.aom_frames.specs.declared.task.Task.{Task as Machine_task}
use Rattle.aom_frames.specs.declared.task.Task.TheVariants.{Run as Runs_frame}
use Rattle.aom_frames.specs.declared.item.Item.TheVariants.{Mark as Is_mark}
use Rattle.aom_frames.specs.declared.item.Item.{Item}
use Rattle.aom_machine_state.specs.declared.parts.Parts.{Parts}
use Rattle.aom_machine_instructions.specs.Next.{counting, IsNext}
use Rattle.aom_machine_state.specs.Places.{others, Others, value_in, register_in, going_in, with_items, with_tasks}
use Rattle.aom_machine_state.specs.Agrees.{viewed, thing_in, word_at, Represents, SameCells, SameFrame, SameTasks, receiver_number, number, Agrees}
use Rattle.aom_machine_instructions.specs.Acts.{CurrentFrame, DoesIn}
use Rattle.aom_machine_instructions.specs.Calls.{is_this, view_of, callee_here, body_on, target_here}
use Rattle.aom_machine_instructions.proofs.FieldActs.{inside_object, receiver_held, field_shown}
use Rattle.aom_machine_instructions.proofs.GoingActs.{fresh_with, fresh_as}
use Rattle.aom_machine_instructions.proofs.ReceiverHolding.{needs_met, has_task, needs_say}
use Rattle.aom_machine_instructions.proofs.ObjectActs.{shown}
use Rattle.aom_machine_instructions.proofs.ReturnActs.{none_above}
use Rattle.aom_machine_instructions.proofs.WordActs.{plain_in}
use Rattle.aom_machine_instructions.proofs.FieldActs.{this_is}
use Rattle.aom_machine_instructions.proofs.Running.{object_lives_at, object_class, null_unnamed, Aside, Top, agrees_with, aside_of}
use Rattle.aom_machine_instructions.proofs.Running.{aside_with, by_top, begun_as, object_small, reframed, no_word}
use Rattle.aom_machine_instructions.proofs.RolesLemmas.{put_at_end}

length_more : {A : Type 0} (xs : List A) (v : A) → length (xs ++ v ∷ []) ≡ suc (length xs)
length_more [] v = refl
length_more (x ∷ xs) v = ap suc (length_more xs v)

-- ---- a method is called over another one, or over a trap on it

-- a method's registers hold nothing that goes
going_kept : (b : Bool) (f f' g : Machine_frame) (ms : List Machine_task) (k : ℕ) →
    going_in (Runs_frame g ∷ held_over b (Runs_frame f' ∷ ms)) k ≡ going_in (Runs_frame g ∷ held_over b (Runs_frame f ∷ ms)) k
going_kept x f f' g ms k = grind arith

-- ---- the arguments go over one after the other

module _ (p : Image) (trapped : Bool) (heap : Heap) (es : List Item) (rest : Others) (ms : List Machine_task) (ts : List Task) (fr cal : Frame) (s : State)
    (deep : length ms ≡ length ts) where
  abbrev pub lower : ℕ → Place
  lower i = Register (length ts) i

  abbrev pub top_matches : List Task
  top_matches = tasks_over trapped (Run fr ∷ ts)

  abbrev pub held_top_matches : Machine_frame → List Machine_task
  held_top_matches f = held_over trapped (Runs_frame f ∷ ms)

  abbrev pub upper : ℕ → Place
  upper i = Register (length top_matches) i

  high : length ts < length top_matches
  high = higher trapped (Run fr ∷ ts) (omega arith)

  even_top_matches : (f : Machine_frame) → length (held_top_matches f) ≡ length top_matches
  even_top_matches f = over_deep trapped (Runs_frame f ∷ ms) (Run fr ∷ ts) (ap suc deep)

  same_top_matches : (f f' : Machine_frame) → length (held_top_matches f) ≡ length (held_top_matches f')
  same_top_matches f f' = even_top_matches f ∙ sym (even_top_matches f')

  abbrev pub with_words : List (Option ℤ) → Frame
  with_words ws = record cal { words = ws }

  -- so many have gone
  pub record Passing (f g : Machine_frame) (cs : List Cell) (ws : List (Option ℤ)) (to : ℕ) : Type 0 where
    pub values : (r : Place) → Represents (value_in (Runs_frame g ∷ held_top_matches f) heap es rest r) (word_at (Run (with_words ws) ∷ top_matches) r) (held cs r)
    pub cells : SameCells p heap cs
    pub free : (i : ℕ) → to ≤ i → held cs (upper i) ≡ None
    pub even : length ws ≡ to
    pub caller : SameFrame f fr
    pub called : SameFrame g (with_words ws)

  -- what a register at that depth holds, past the method that is called
  past_called : (f g : Machine_frame) (e j : ℕ) → value_in (Runs_frame g ∷ held_top_matches f) heap es rest
      (Register e j) ≡ cond (length (held_top_matches f) == e) (slice_index_or g.registers j null) (register_in (Runs_frame f ∷ ms) e j)
  past_called f g e j = ap (λ x. cond (length (held_top_matches f) == e) (slice_index_or g.registers j null) x) (over_register trapped (Runs_frame f ∷ ms) e j)

  lower_value : (f g : Machine_frame) (i : ℕ) → value_in (Runs_frame g ∷ held_top_matches f) heap es rest (lower i) ≡ slice_index_or f.registers i null
  lower_value f g i =
      let above = high in
      let even = even_top_matches f in
      past_called f g (length ts) i ∙ ap (λ b. cond b (slice_index_or g.registers i null) (register_in (Runs_frame f ∷ ms) (length ts) i))
      (ne_eqb (length (held_top_matches f)) (length ts) (λ e. absurd (omega arith))) ∙ value_here f ms heap es rest (length ts) i deep

  lower_word : (c : Frame) (i : ℕ) → word_at (Run c ∷ top_matches) (lower i) ≡ word fr i
  lower_word c i = grind (arith, nat_tests, high, ne_eqb, over_word trapped (Run fr ∷ ts), eq-eqb)

  -- the register of the caller is null from then on
  lower_written : (f g : Machine_frame) (i : ℕ) → i < length f.registers → (r : Place) → value_in (Runs_frame g ∷ held_top_matches
      (record f { registers = slice_set f.registers i null })) heap es rest r ≡ changed (value_in (Runs_frame g ∷ held_top_matches f) heap es rest) (lower i) null r
  lower_written f g i small (Going k) = going_kept trapped f (record f { registers = slice_set f.registers i null }) g ms k
  lower_written f g i small (Register e j) =
      let f' = record f { registers = slice_set f.registers i null } in
      past_called f' g e j ∙ ap (λ n. cond (n == e) (slice_index_or g.registers j null) (register_in (Runs_frame f' ∷ ms) e j)) (same_top_matches f' f) ∙ ap (λ n. cond
      (length (held_top_matches f) == e) (slice_index_or g.registers j null) n) (value_written f ms heap es rest (length ts) i null f.place deep small (Register e j))
      ∙ go (length (held_top_matches f) == e) refl ∙ ap (λ x. cond ((length ts == e) && (i == j)) null x) (sym (past_called f g e j))
    where
      go : (b : Bool) → (length (held_top_matches f) == e) ≡ b
          → cond b (slice_index_or g.registers j null) (cond ((length ts == e) && (i == j)) null (register_in (Runs_frame f ∷ ms) e j)) ≡ cond
          ((length ts == e) && (i == j)) null (cond b (slice_index_or g.registers j null) (register_in (Runs_frame f ∷ ms) e j))
      go false is = refl
      go true is =
          let at = eqb-true (length (held_top_matches f)) e is in
          let above = high in
          let even = even_top_matches f in
          ap (λ b. cond (b && (i == j)) null (slice_index_or g.registers j null)) (sym (ne_eqb (length ts) e (λ d. absurd (omega arith))))
  lower_written f g i small _ = refl

  words_put : (ws : List (Option ℤ)) (to : ℕ) (w : Option ℤ) →
      length ws ≡ to → (r : Place) → word_at (Run (with_words (ws ++ w ∷ [])) ∷ top_matches) r ≡ changed (word_at (Run (with_words ws) ∷ top_matches)) (upper to) w r
  words_put ws to w even r = ap (λ vs. word_at (Run (with_words vs) ∷ top_matches) r) (sym (put_at_end None ws w) ∙ ap (λ n. set_extending None ws n w) even)
      ∙ word_written (with_words ws) top_matches to cal.place w r

  upper_written : (f g : Machine_frame) (to n : ℕ) → to < length g.registers → (r : Place)
      → value_in (Runs_frame (with_register to n g) ∷ held_top_matches f) heap es rest r ≡ changed (value_in (Runs_frame g ∷ held_top_matches f) heap es rest) (upper to) n r
  upper_written f g to n small = value_written g (held_top_matches f) heap es rest (length top_matches) to n g.place (even_top_matches f) small

  called_on : (g : Machine_frame) (ws : List (Option ℤ)) (to n : ℕ) (w : Option ℤ) → SameFrame g (with_words ws) →
      SameFrame (with_register to n g) (with_words (ws ++ w ∷ []))
  called_on g ws to n w same = let wide = same.wide in
      reframed g (with_words ws) (slice_set g.registers to n) (ws ++ w ∷ []) g.place cal.place same (length-set g.registers to n ∙ wide) same.place

  -- a word, which owns nothing
  word_alone : (n : ℕ) (w : Option ℤ) (o : Option Object) → is_some w ≡ true → Represents n w o → Represents n w None
  word_alone n w o e shows = grind arith

  word_goes : (f g : Machine_frame) (cs : List Cell) (ws : List (Option ℤ)) (first to : ℕ) → to < 16 → is_some (word fr first) ≡ true →
      Passing f g cs ws to → Passing f (with_register to (slice_index_or f.registers first null) g) cs (ws ++ word fr first ∷ []) (suc to)
  word_goes f g cs ws first to small some passing =
      let wide = passing.called.wide in
      let n = slice_index_or f.registers first null in
      let shows = subst (λ k. Represents k (word fr first) (held cs (lower first))) (lower_value f g first) (subst (λ w. Represents (value_in (Runs_frame g
      ∷ held_top_matches f) heap es rest (lower first)) w (held cs (lower first))) (lower_word (with_words ws) first) (passing.values (lower first))) in
      record {
        values = grind (arith, nat_tests, writes, word_alone n, upper_written f g to n, words_put ws to, kept);
        cells = passing.cells;
        free = λ i le. passing.free i (omega arith);
        even = length_more ws (word fr first) ∙ ap suc passing.even;
        caller = passing.caller;
        called = called_on g ws to n (word fr first) passing.called;
      }

  -- an object, which leaves null
  object_goes : (f g : Machine_frame) (cs : List Cell) (ws : List (Option ℤ)) (first to : ℕ) → to < 16 → first < 16 →
      word fr first ≡ None → Passing f g cs ws to → Passing (with_register first null f) (with_register to (slice_index_or f.registers first null) g)
      (moved (lower first) (upper to) cs) (ws ++ None ∷ []) (suc to)
  object_goes f g cs ws first to small low none passing =
      let wide = passing.called.wide in
      let broad = passing.caller.wide in
      let n = slice_index_or f.registers first null in
      let v = value_in (Runs_frame g ∷ held_top_matches f) heap es rest in
      let there = passing.free to (omega arith) in
      let above = high in
      record {
        values = moves v _ (word_at (Run (with_words ws) ∷ top_matches)) _ (held cs) _ (lower first) (upper to) passing.values (lower_word (with_words ws) first
            ∙ none) (λ r. upper_written (with_register first null f) g to n (omega arith) r ∙ ap (λ x. cond (same_place (upper to) r) n x)
            (lower_written f g first (omega arith) r) ∙ ap (λ x. changed (changed v (lower first) null) (upper to) x r) (sym (lower_value f g first)))
            (words_put ws to None passing.even) (λ r. held_moved cs (lower first) (upper to) r there);
        cells = cells_moved p heap cs (lower first) (upper to) passing.cells;
        free = grind (arith, nat_tests, held_moved cs, ne_eqb to);
        even = length_more {A = Option ℤ} ws None ∙ ap suc passing.even;
        caller = reframed f fr (slice_set f.registers first null) fr.words f.place fr.place passing.caller
            (length-set f.registers first null ∙ broad) passing.caller.place;
        called = called_on g ws to n None passing.called;
      }
    where
      aside : (b : Bool) (x y : Option Object) → cond (b && false) x y ≡ y
      aside x y z = grind arith

  all_go : (xs : List Argument) (first to : ℕ) (f g : Machine_frame) (cs : List Cell) (ws : List (Option ℤ)) →
      (first + length xs) ≤ 16 → (to + length xs) ≤ 16 → AllTrue (needs_each p fr ts s xs first) → Passing f g cs ws to → Passing (passed_on xs first f)
      (given xs first to f g) (passed_cells p fr ts s (length top_matches) xs first to cs) (ws ++ passed_words p fr ts s xs first) (to + length xs)
  all_go [] first to f g cs ws low small needs passing =
      subst (λ n. Passing f g cs (ws ++ []) n) (let n = zero in omega arith) (subst (λ vs. Passing f g cs vs to) (sym (append-nil ws)) passing)
  all_go (Takes_word ∷ xs) first to f g cs ws low small needs passing =
      let n = slice_index_or f.registers first null in
      let rest = all_go xs (suc first) (suc to) f (with_register to n g) cs
      (ws ++ word fr first ∷ []) (omega arith) (omega arith) needs.1 (word_goes f g cs ws first to (omega arith) needs.0 passing) in
      subst (λ k. Passing (passed_on xs (suc first) f) (given xs (suc first) (suc to) f (with_register to n g))
      (passed_cells p fr ts s (length top_matches) xs (suc first) (suc to) cs) (ws ++ word fr first ∷ passed_words p fr ts s xs (suc first)) k) (omega arith)
      (subst (λ vs. Passing (passed_on xs (suc first) f) (given xs (suc first) (suc to) f (with_register to n g)) (passed_cells p fr ts s (length top_matches) xs
      (suc first) (suc to) cs) vs (suc to + length xs)) (append_assoc ws (word fr first ∷ []) (passed_words p fr ts s xs (suc first))) rest)
  all_go (Takes_own t ∷ xs) first to f g cs ws low small needs passing =
      let n = slice_index_or f.registers first null in
      let f' = with_register first null f in
      let g' = with_register to n g in
      let cs' = moved (lower first) (upper to) cs in
      let rest = all_go xs (suc first) (suc to) f' g' cs'
      (ws ++ None ∷ []) (omega arith) (omega arith) needs.1.1.1 (object_goes f g cs ws first to (omega arith) (omega arith) (no_word _ needs.0) passing) in
      subst (λ k. Passing (passed_on xs (suc first) f') (given xs (suc first) (suc to) f' g')
      (passed_cells p fr ts s (length top_matches) xs (suc first) (suc to) cs') (ws ++ None ∷ passed_words p fr ts s xs (suc first)) k) (omega arith)
      (subst (λ vs. Passing (passed_on xs (suc first) f') (given xs (suc first) (suc to) f' g') (passed_cells p fr ts s
      (length top_matches) xs (suc first) (suc to) cs') vs (suc to + length xs)) (append_assoc ws (None ∷ []) (passed_words p fr ts s xs (suc first))) rest)

-- ---- the call

-- its arguments lie in registers that a method has
pub entering_fits : (p : Image) (fr : Frame) (ts : List Task) (s : State) (target : Target) (k first : ℕ) (more : List Need) →
    AllTrue (needs_entering p fr ts s target k first more) → (first + length (arguments_of p k)) ≤ 16
entering_fits p fr ts s target k first more needs = grind (arith, nat_tests, all_parts, leb_tells)

-- what the method works on
receiver_of : (p : Image) (m : Parts) (h : CurrentFrame p m) (target : Target) (k : ℕ) (class : Option ℕ) (first count : ℕ) →
    AllTrue (needs_target p h.frame h.below h.state target k class first count) →
    target_here target class m ≡ receiver_number (target_receiver p h.frame h.below h.state target class)
receiver_of p m h This k None first count needs = refl
receiver_of p m h This k (Some c) first count needs = by_top p m h (λ us. this_here us ≡ receiver_number h.frame.receiver) (λ f ms top. top.frame.this)
receiver_of p m h (On_register r) k class first count needs =
    by_top p m h (λ us. register_here us r ≡ receiver_number (receiver_at (held h.state.cells (Register (length h.below) r)) (Register (length h.below) r)))
    (λ f ms top. shown p m h f ms top r (no_word _ needs.0) ∙ owner (held h.state.cells (Register (length h.below) r)) (Register (length h.below) r))
  where
    owner : (o : Option Object) (q : Place) → number o ≡ receiver_number (receiver_at o q)
    owner None q = refl
    owner (Some o) q = refl
receiver_of p m h (On_field g) k class first count needs = grind (arith, nat_tests, field_shown p m h g needs.0)
receiver_of p m h (On_entry e) k class first count needs = grind (arith, nat_tests, entry_number m.entries.items h.state.items e)

-- and it is no message
module _ (p : Image) (m : Parts) (h : CurrentFrame p m) (class : Option ℕ) where
  worked_small : (class : Option ℕ) (o : Option Object) (q : Place) → held h.state.cells q ≡ o → is_worked_on p class o ≡ true →
      receiver_number (receiver_at o q) ≢ null → receiver_number (receiver_at o q) < 4096
  worked_small x y q e worked there = grind (arith, nat_tests, object_small p m h.state h.formed h.agrees, held_lives h.state.cells q, object_for p)

  receiver_small : (target : Target) (k first count : ℕ) → AllTrue (needs_target p h.frame h.below h.state target k class first count) →
      receiver_number (target_receiver p h.frame h.below h.state target class) ≢ null → receiver_number (target_receiver p h.frame h.below h.state target class) < 4096
  receiver_small x k first count needs = grind (arith, nat_tests, this_is p m h, by_top p m h, worked_small class)

receiver_held_by : (p : Image) (m : Parts) (h : CurrentFrame p m) (target : Target) (k : ℕ) (class : Option ℕ) (first count : ℕ) →
    AllTrue (needs_target p h.frame h.below h.state target k class first count) → target_here target class m ≡ receiver_number
    (target_receiver p h.frame h.below h.state target class) → target_here target class m ≢ null → target_here target class m < 4096
receiver_held_by p m h target k class first count needs receiver there =
    subst (λ n. n < 4096) (sym receiver) (receiver_small p m h class target k first count needs (λ none. there (receiver ∙ none)))

-- ---- what the call runs

pub not_this : (target : Target) → (target ≡ This → ⊥) → is_this target ≡ false
not_this x other = grind arith

-- the class of a living cell is what its object counts as
class_viewed : (c : Option Machine_cell) (t : Thing) → thing_in c ≡ Some t → class_of c ≡ thing_view t
class_viewed x t e = grind arith

module _ (p : Image) (m : Parts) (h : CurrentFrame p m) where
  -- the frame's view is what the target counts as
  view_reported : (target : Target) (class : Option ℕ) →
      viewed (view_of target class m.stack.tasks) (target_receiver p h.frame h.below h.state target class) ≡ target_view p h.frame h.below h.state target class
  view_reported x class = grind (arith, nat_tests, by_top p m h)

  -- what it works on is there, and is no message
  owned_there : (class : Option ℕ) (x : Option Object) (q : Place) → held h.state.cells q ≡ x → is_worked_on p class x ≡ true → (o : Object) (from : Place) →
      receiver_at x q ≡ Inside o from → (named h.state.cells o.name ≡ Some o) × (is_object o.thing ≡ true)
  owned_there class None q at worked o from e = cc
  owned_there None (Some x) q at worked o from e = absurd (false≢true worked)
  owned_there (Some c) (Some x) q at worked o from e =
      grind (arith, nat_tests, held_lives h.state.cells q x h.typed.good.no_duplicates at, object_for p x.thing c worked)

  target_there : (target : Target) (k : ℕ) (class : Option ℕ) (first count : ℕ) → AllTrue (needs_target p h.frame h.below h.state target k class first count) →
      (o : Object) (from : Place) →
      target_receiver p h.frame h.below h.state target class ≡ Inside o from → (named h.state.cells o.name ≡ Some o) × (is_object o.thing ≡ true)
  target_there This k None first count needs o from e = cc
  target_there This k (Some c) first count needs o from e = (receiver_held p m h o from e, inside_object p m h o from e)
  target_there (On_register r) k class first count needs o from is =
      owned_there class (held h.state.cells (Register (length h.below) r)) (Register (length h.below) r) refl needs.1.1.0 o from is
  target_there (On_field g) k class first count needs o from is =
      owned_there class (held h.state.cells (field_place h.frame.receiver g)) (field_place h.frame.receiver g) refl needs.1.1.0 o from is
  target_there (On_entry e) k class first count needs o from is =
      owned_there class (held h.state.cells (entry_place h.state.items e)) (entry_place h.state.items e) refl needs.1.1.1.0 o from is

  -- what counts as a class is an object
  of_receiver : (receiver : Receiver) (v : ℕ) → receiver_view receiver ≡ Some v → (c : ℕ) × (receiver_holder receiver ≡ Member c)
  of_receiver Static v e = cc
  of_receiver AtRoot v e = cc
  of_receiver (Inside o from) v e = of_thing o.thing e
    where
      of_thing : (t : Thing) → thing_view t ≡ Some v → (c : ℕ) × (thing_holder t ≡ Member c)
      of_thing (An_object_of c) e = (c, refl)
      of_thing A_message e = cc

  target_counts : (target : Target) (class : Option ℕ) (v : ℕ) →
      target_view p h.frame h.below h.state target class ≡ Some v → (c : ℕ) × (receiver_holder (target_receiver p h.frame h.below h.state target class) ≡ Member c)
  target_counts This None v e = cc
  target_counts This (Some c) v e = let between = (stands_here p h.typing h.state h.frame h.below h.typed h.top).view.between v e in (between.0, between.1)
  target_counts (On_register r) class v e = of_receiver (target_receiver p h.frame h.below h.state (On_register r) class) v e
  target_counts (On_field g) class v e = of_receiver (target_receiver p h.frame h.below h.state (On_field g) class) v e
  target_counts (On_entry x) class v e = of_receiver (target_receiver p h.frame h.below h.state (On_entry x) class) v e

  -- the table tells the same of the cell
  unviewed : (k : ℕ) (receiver : Receiver) → ((c : ℕ) → receiver_holder receiver ≡ Member c → ⊥) → (view : Option ℕ) →
      ((v : ℕ) → view ≡ Some v → (c : ℕ) × (receiver_holder receiver ≡ Member c)) → k ≡ body_of p k view
  unfolding body_of
  unviewed k receiver none x counts = grind arith

  body_by_receiver : (k : ℕ) (receiver : Receiver) (v : View) (view : Option ℕ) →
      viewed v receiver ≡ view → ((v : ℕ) → view ≡ Some v → (c : ℕ) × (receiver_holder receiver ≡ Member c)) → ((o : Object) (from : Place) → receiver ≡ Inside o from →
      (named h.state.cells o.name ≡ Some o) × (is_object o.thing ≡ true)) → body_on p k (receiver_number receiver) v m.cells ≡ body_of p k view
  body_by_receiver k Static v view same counts there = grind (arith, nat_tests, eq-eqb, unviewed k Static)
  body_by_receiver k AtRoot v view same counts there = grind (arith, nat_tests, eq-eqb, unviewed k AtRoot)
  body_by_receiver k (Inside o from) v view same counts there =
      let x = there o from refl in
      let some : o.name ≡ null → ⊥ = λ n. let clash : Some o ≡ None = sym x.0 ∙ ap (named h.state.cells) n ∙ null_unnamed p m h.state h.agrees in cc in
      ap (λ b. cond b k (body_of p k (or_else (class_above v) (class_at m.cells o.name)))) (ne_eqb o.name null some)
      ∙ ap (λ y. body_of p k (or_else (class_above v) y)) (class_viewed (cell_at m.cells o.name) o.thing (object_class p m h.state h.agrees o x.0 x.1))
      ∙ ap (body_of p k) same

  body_reported : (target : Target) (k first count : ℕ) → AllTrue (needs_target p h.frame h.below h.state target k (method_class p k) first count) → body_on p k
      (target_here target (method_class p k) m) (view_of target (method_class p k) m.stack.tasks) m.cells ≡ run_by p h.frame h.below h.state target k
  body_reported target k first count needs =
      let class = method_class p k in
      ap (λ n. body_on p k n (view_of target class m.stack.tasks) m.cells) (receiver_of p m h target k class first count needs)
      ∙ body_by_receiver k (target_receiver p h.frame h.below h.state target class) (view_of target class m.stack.tasks) (target_view
      p h.frame h.below h.state target class) (view_reported target class) (target_counts target class) (target_there target k class first count needs)

  -- so it lives, where it is a cell
  receiver_lives : (receiver : Receiver) → ((o : Object) (from : Place) → receiver ≡ Inside o from → (named h.state.cells o.name ≡ Some o) × (is_object o.thing ≡ true)) →
      receiver_number receiver ≢ null → Lives m.cells (receiver_number receiver)
  receiver_lives (Inside o from) there some = let x = there o from refl in object_lives_at p m h.state h.agrees o x.0 x.1
  receiver_lives _ there some = absurd (some refl)

  target_lives : (target : Target) (k first count : ℕ) → AllTrue (needs_target p h.frame h.below h.state target k (method_class p k) first count) →
      target_here target (method_class p k) m ≢ null → Lives m.cells (target_here target (method_class p k) m)
  target_lives target k first count needs =
      let class = method_class p k in
      subst (λ n. n ≢ null → Lives m.cells n) (sym (receiver_of p m h target k class first count needs))
      (receiver_lives (target_receiver p h.frame h.below h.state target class) (target_there target k class first count needs))

-- what a method that is called finds, over the caller or over a trap on it
module _ (p : Image) (m : Parts) (h : CurrentFrame p m) (trapped : Bool) (target : Target) (k first height : ℕ) where
  abbrev xs : List Argument
  xs = arguments_of p k

  abbrev this : ℕ
  this = target_here target (method_class p k) m

  abbrev view : View
  view = view_of target (method_class p k) m.stack.tasks

  abbrev body : ℕ
  body = body_on p k this view m.cells

  abbrev called : Frame
  called = frame_as body (target_receiver p h.frame h.below h.state target (method_class p k))
      (viewed view (target_receiver p h.frame h.below h.state target (method_class p k))) height

  -- the table tells what runs
  runs : AllTrue (needs_target p h.frame h.below h.state target k (method_class p k) first (length xs)) →
      record called { words = passed_words p h.frame h.below h.state xs first } ≡ entered p h.frame h.below h.state target k first height
  runs needs = grind (arith, nat_tests, body_reported p m h target k first, view_reported p m h target)

  abbrev over : List Task
  over = tasks_over trapped (Run h.frame ∷ h.below)

  abbrev passed : List Cell
  passed = passed_cells p h.frame h.below h.state (length over) xs first 0 h.state.cells

  enters : (more : List Need) → AllTrue (needs_entering p h.frame h.below h.state target k first more) → (f : Machine_frame) (ms : List Machine_task)
      (top : Top m h.state h.frame h.below f ms) → Passing p trapped m.cells m.entries.items (others m) ms h.below h.frame called h.state top.deep
      (passed_on xs first f) (given xs first 0 f (callee_here p target k m)) passed (passed_words p h.frame h.below h.state xs first) (0 + length xs)
  enters more needs f ms top =
      let parts = all_parts (needs_target p h.frame h.below h.state target k (method_class p k) first (length xs)) _ needs in
      let fits = entering_fits p h.frame h.below h.state target k first more needs in
      let each = (all_parts (needs_each p h.frame h.below h.state xs first) _ parts.1.1).0 in
      let receiver = receiver_of p m h target k (method_class p k) first (length xs) parts.0 in
      let receiver_held = receiver_held_by p m h target k (method_class p k) first (length xs) parts.0 receiver in
      let s = h.state in
      let fr = h.frame in
      let ts = h.below in
      let us = held_over trapped (Runs_frame f ∷ ms) in
      let layers = ap length h.top in
      let above = higher trapped (Run fr ∷ ts) {n = length ts} (omega arith) in
      let begun : Passing p trapped m.cells m.entries.items (others m) ms ts fr called s top.deep f (callee_here p target k m) s.cells [] 0 = record {
        values = λ r. subst (λ n. Represents n (word_at (Run called ∷ over) r) (held s.cells r)) (sym (fresh_with body this view us m.cells m.entries.items
            (others m) r ∙ over_value trapped (Runs_frame f ∷ ms) m.cells m.entries.items (others m) r)) (subst (λ w. Represents (value_in
            (Runs_frame f ∷ ms) m.cells m.entries.items (others m) r) w (held s.cells r)) (sym (fresh_as body (target_receiver p fr ts s target (method_class p k))
            (viewed view (target_receiver p fr ts s target (method_class p k))) height over r ∙ over_words trapped (Run fr ∷ ts) r)) (top.values r));
        cells = h.agrees.cells;
        free = λ i le. none_above p h.typing s (length over) i h.typed (omega arith);
        even = refl;
        caller = top.frame;
        called = begun_as body this (target_receiver p fr ts s target (method_class p k)) view height receiver receiver_held;
      } in
      all_go p trapped m.cells m.entries.items (others m) ms ts fr called s top.deep xs first 0 f (callee_here p target k m) s.cells [] fits (omega arith) each begun

  -- all but the tasks, once the arguments have gone
  aside_passed : SameCells p m.cells passed → Aside p m (record h.state { cells = passed })
  aside_passed cells =
      let requests = requests_passed p h.frame h.below h.state m.active (length over) xs first 0 h.state.cells h.agrees.requests in
      let natives = natives_passed p h.frame h.below h.state m.sessions (length over) xs first 0 h.state.cells h.agrees.natives in
      let services = services_passed p h.frame h.below h.state (length over) xs first 0 h.state.cells h.agrees.services in
      record { cells = cells; entries = h.agrees.entries; requests = requests; natives = natives; services = services; rest = h.agrees.rest; room = h.agrees.room; entry_room = h.agrees.entry_room }

  -- so it begins there
  agrees_entered : (more : List Need) → AllTrue (needs_entering p h.frame h.below h.state target k first more) →
      (f : Machine_frame) (ms : List Machine_task) → Top m h.state h.frame h.below f ms →
      Agrees p (with_tasks (Runs_frame (given xs first 0 f (callee_here p target k m)) ∷ held_over trapped (Runs_frame (passed_on xs first f) ∷ ms)) m)
      (record h.state { cells = passed; tasks = Run (entered p h.frame h.below h.state target k first height) ∷ over })
  agrees_entered more needs f ms top =
      let done = enters more needs f ms top in
      let us = Runs_frame (given xs first 0 f (callee_here p target k m)) ∷ held_over trapped (Runs_frame (passed_on xs first f) ∷ ms) in
      let parts = all_parts (needs_target p h.frame h.below h.state target k (method_class p k) first (length xs)) _ needs in
      subst (λ fr. Agrees p (with_tasks us m) (record h.state { cells = passed; tasks = Run fr ∷ over })) (runs parts.0)
      (agrees_with p m (record h.state { cells = passed }) us (Run (record called { words = passed_words p h.frame h.below h.state xs first }) ∷ over)
      (aside_passed done.cells) (done.called, over_same trapped _ _ done.caller top.below) done.values)
    where
      over_same : (b : Bool) (g : Machine_frame) (gs : List Machine_task) →
          SameFrame g h.frame → SameTasks gs h.below → SameTasks (held_over b (Runs_frame g ∷ gs)) (tasks_over b (Run h.frame ∷ h.below))
      over_same true g gs frame below = (tt, (frame, below))
      over_same false g gs frame below = (frame, below)

-- the tasks once a method is called by the one on top, over it or over a trap on it
abbrev pub calling : Image → Parts → Target → ℕ → ℕ → Bool → List Machine_task → List Machine_task
calling p m target k first trapped us =
    Runs_frame (given_here (arguments_of p k) first us (callee_here p target k m)) ∷ held_over trapped (on_top (passed_on (arguments_of p k) first) us)

pub call_does : (p : Image) (m : Parts) (refused : List ℕ) (target : Target) (k first x : ℕ) →
    DoesIn p refused (Call target k first x) m (with_tasks (calling p m target k first false m.stack.tasks) m)
call_does p m refused target k first x = plain_in p m _ refused (Call target k first x) refl (λ h c needs typed.
    let cs = passed p m h false target k first (length h.state.items) in
    let vs = Run (entered p h.frame h.below h.state target k first (length h.state.items)) ∷ Run h.frame ∷ h.below in
    by_top p m h (λ us. Agrees p (with_tasks (calling p m target k first false us) m) (record h.state { cells = cs; tasks = vs }))
    (agrees_entered p m h false target k first (length h.state.items) _ needs))

-- a mark owns nothing
marked : (p : Image) (m : Parts) (s : State) → Agrees p m s → Agrees p (with_items (Is_mark ∷ m.entries.items) m) (record s { items = A_mark ∷ s.items })
marked p m s agrees =
    let mid = with_items (Is_mark ∷ m.entries.items) m in
    agrees_with p mid (record s { items = A_mark ∷ s.items }) m.stack.tasks s.tasks
    (aside_with p m s mid.entries (A_mark ∷ s.items) (aside_of p m s agrees) (tt, agrees.entries) agrees.entry_room) agrees.tasks values
  where
    values : (r : Place) → Represents (value_in m.stack.tasks m.cells (Is_mark ∷ m.entries.items) (others m) r) (word_at s.tasks r) (held s.cells r)
    values (Entry k) = subst (λ n. Represents n (word_at s.tasks (Entry k)) (held s.cells (Entry k))) (sym (mark_shows_none m.entries.items k))
        (agrees.values (Entry k))
    values (Register d i) = agrees.values (Register d i)
    values (Field n f) = agrees.values (Field n f)
    values (Going k) = agrees.values (Going k)
    values (Elsewhere o) = agrees.values (Elsewhere o)

-- under a trap
pub trap_does : (p : Image) (m : Parts) (refused : List ℕ) (target : Target) (k first x : ℕ)
    → DoesIn p refused (Trap target k first x) m (with_items (Is_mark ∷ m.entries.items) (with_tasks (calling p m target k first true m.stack.tasks) m))
trap_does p m refused target k first x = plain_in p m _ refused (Trap target k first x) refl (λ h c needs typed.
    let height = suc (length h.state.items) in
    let v : State = record h.state { cells = passed p m h true target k first height; tasks = Run (entered p h.frame h.below h.state target k first height) ∷ Trapped ∷ Run h.frame ∷ h.below } in
    marked p (with_tasks (calling p m target k first true m.stack.tasks) m) v
    (by_top p m h (λ us. Agrees p (with_tasks (calling p m target k first true us) m) v) (agrees_entered p m h true target k first height _ needs)))

-- ---- what the code needs to know of one that is next: its method is there, and its arguments lie in registers that a method has

pub calls_well : (p : Image) (m : Parts) (target : Target) (k first x : ℕ) → IsNext p (Call target k first x) m →
    IsSome (method_at p k) × ((first + length (arguments_of p k)) ≤ 16)
calls_well p m target k first x next = (
  (next.stands.1.sound.wired.called (method_here m.stack.tasks) (place_here m.stack.tasks) target k first x (ap action_in next.here)).there,
  needs_say p m (Call target k first x) _ (λ c fr ts s n. entering_fits p fr ts s target k first _ n) next,
)

pub traps_well : (p : Image) (m : Parts) (target : Target) (k first x : ℕ) → IsNext p (Trap target k first x) m →
    IsSome (method_at p k) × ((first + length (arguments_of p k)) ≤ 16)
traps_well p m target k first x next = (
  (next.stands.1.sound.wired.trapped (method_here m.stack.tasks) (place_here m.stack.tasks) target k first x (ap action_in next.here)).there,
  needs_say p m (Trap target k first x) _ (λ c fr ts s n. entering_fits p fr ts s target k first _ n) next,
)

-- what a target asks hangs on cells and items alone
needs_kept : (p : Image) (fr : Frame) (ts : List Task) (s : State) (r : Counters) (target : Target) (k : ℕ) (class : Option ℕ) (first count : ℕ) →
    AllTrue (needs_target p fr ts (record s { rest = r }) target k class first count) → AllTrue (needs_target p fr ts s target k class first count)
needs_kept p fr ts s r x k class first count n = grind arith

target_kept : (m : Parts) (r : Counters) (target : Target) (class : Option ℕ) → target_here target class (counting r m) ≡ target_here target class m
target_kept m r x class = grind arith

-- and what it works on lives, and is of a class
abbrev TargetLives : Image → Parts → Target → ℕ → Type 0
TargetLives p m target k =
    let n = target_here target (method_class p k) m in
    (n ≢ null → Lives m.cells n) × IfSome (class_at m.cells n) (λ class. class < 256)

lives_on : (p : Image) (m : Parts) (r : Counters) (h : CurrentFrame p (counting r m)) (q : Counters) (target : Target) (k first : ℕ) → AllTrue
    (needs_target p h.frame h.below (record h.state { rest = q }) target k (method_class p k) first (length (arguments_of p k))) → TargetLives p m target k
lives_on p m r h q target k first needs = (
  subst (λ n. n ≢ null → Lives m.cells n) (target_kept m r target (method_class p k)) (target_lives p (counting r m) h target k first
      (length (arguments_of p k)) (needs_kept p h.frame h.below h.state q target k (method_class p k) first (length (arguments_of p k)) needs)),
  class_fits p (counting r m) h.state h.agrees (target_here target (method_class p k) m),
)

pub call_lives : (p : Image) (m : Parts) (target : Target) (k first x : ℕ) → IsNext p (Call target k first x) m → TargetLives p m target k
call_lives p m target k first x next =
    grind (arith, nat_tests, has_task p, at_step, needs_met p m (Call target k first x) next, lives_on p m next.counts, all_parts)

pub trap_lives : (p : Image) (m : Parts) (target : Target) (k first x : ℕ) → IsNext p (Trap target k first x) m → TargetLives p m target k
trap_lives p m target k first x next =
    grind (arith, nat_tests, has_task p, at_step, needs_met p m (Trap target k first x) next, lives_on p m next.counts, all_parts)
