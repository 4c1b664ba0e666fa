-- What a write does to the places, on the machine's side and on the checked machine's.
use Rattle.std.proofs.lemmas.Bool.Decides.{nat_tests}
use Rattle.std.proofs.Common.{suc, ◌≡◌, ℕ, ℤ, ◌<◌, ◌≤◌, Bool, true, false, cond, ◌==◌, length, List, [], ◌∷◌}
use Rattle.std.proofs.Common.{Option, None, slice_set, slice_index_or, refl, sym, ap, ◌∙◌, subst, arith}
use Rattle.std.proofs.lemmas.Bool.{eqb-true, eq-eqb, ne_eqb}
use Rattle.std.proofs.lemmas.List.{get_or-set_same, get_or-set_other}
use Rattle.aom_cells.specs.Heap.{Heap, null}
use Rattle.aom_roles.specs.Tables.{set_extending}
use Rattle.aom_semantics.specs.Places.{Place, Register, Going, same_place, Object, changed}
use Rattle.aom_semantics.specs.State.{Frame, Task, Run, Destroy}
use Rattle.aom_machine_state.proofs.SemanticsLemmas.{at-set_extending, same_place-true, transfer}
use Rattle.aom_frames.specs.declared.frame.Frame.{Frame as Machine_frame}
use Rattle.aom_frames.specs.declared.task.Task.{Task as Machine_task}
use Rattle.aom_frames.specs.declared.task.Task.TheVariants.{Run as Runs_frame, Destroy as Destroys}
use Rattle.aom_machine_state.specs.Places.{Others, register_in, going_in, value_in}
use Rattle.aom_machine_state.specs.Agrees.{word_in, word_at, Represents, SameTasks}
use Rattle.aom_frames.specs.declared.item.Item.{Item}
use Rattle.std.proofs.lemmas.List.{nil_from_length}
use Rattle.aom_machine_state.proofs.Alike.{by_tasks}

pub cases : (b : Bool) {P : Type 0} → (b ≡ true → P) → (b ≡ false → P) → P
cases true y n = y refl
cases false y n = n refl

-- an array written at one number
pub slot_set : (none : ℕ) (xs : List ℕ) (i j x : ℕ) → i < length xs → slice_index_or (slice_set xs i x) j none ≡ cond (i == j) x (slice_index_or xs j none)
slot_set none xs i j x small = grind (arith, nat_tests, eqb-true i j, get_or-set_same xs i x none small, get_or-set_other xs i j x none, eq-eqb i j)

pub same_length : (ms : List Machine_task) (ts : List Task) → SameTasks ms ts → length ms ≡ length ts
same_length = by_tasks (λ ms ts. length ms ≡ length ts) refl (λ m t ms ts _ _ e. ap suc e)

pub none_alike : (ms : List Machine_task) (ts : List Task) → SameTasks ms ts → ts ≡ [] → ms ≡ []
none_alike ms ts same e = nil_from_length ms (same_length ms ts same ∙ ap length e)

-- past the tasks at hand there is nothing
pub register_past : (us : List Machine_task) (d i : ℕ) → length us ≤ d → register_in us d i ≡ null
register_past [] d i e = refl
register_past (u ∷ us) d i e = grind (arith, nat_tests, ne_eqb, register_past us d i)

pub going_past : (us : List Machine_task) (d : ℕ) → length us ≤ d → going_in us d ≡ null
going_past [] d e = refl
going_past (u ∷ us) d e = grind (arith, nat_tests, ne_eqb, going_past us d)

pub word_past : (us : List Task) (d i : ℕ) → length us ≤ d → word_in us d i ≡ None
word_past [] d i e = refl
word_past (u ∷ us) d i e = grind (arith, nat_tests, ne_eqb, word_past us d i)

pub at_depth : {A : Type 0} (n d : ℕ) (x y : A) → ((d ≡ n) → y ≡ x) → cond (n == d) x y ≡ y
at_depth n d x y h = grind (arith, nat_tests, eqb-true n d)

-- a register of the frame that runs is read, and written
pub value_here : (f : Machine_frame) (ms : List Machine_task) (h : Heap) (es : List Item) (others : Others) (d i : ℕ) →
    length ms ≡ d → value_in (Runs_frame f ∷ ms) h es others (Register d i) ≡ slice_index_or f.registers i null
value_here f ms h es others d i e = ap (λ b. cond b (slice_index_or f.registers i null) (register_in ms d i)) (eq-eqb (length ms) d e)

pub value_written : (f : Machine_frame) (ms : List Machine_task) (h : Heap) (es : List Item) (others : Others) (d i x place : ℕ) → length ms ≡ d →
    i < length f.registers → (r : Place) → value_in (Runs_frame (record f { registers = slice_set f.registers i x; place = place }) ∷ ms) h es others r
    ≡ changed (value_in (Runs_frame f ∷ ms) h es others) (Register d i) x r
value_written f ms h es others d i x place deep small y = grind (arith, nat_tests, slot_set)

-- counters and the method's place are no places of values
pub value_counted : (f : Machine_frame) (ms : List Machine_task) (h : Heap) (es : List Item) (others : Others) (counters : List ℕ) (place : ℕ) (r : Place) →
    value_in (Runs_frame (record f { counters = counters; place = place }) ∷ ms) h es others r ≡ value_in (Runs_frame f ∷ ms) h es others r
value_counted f ms h es others counters place _ = refl

pub value_kept : (f : Machine_frame) (ms : List Machine_task) (h : Heap) (es : List Item) (others : Others) (place : ℕ) (r : Place) →
    value_in (Runs_frame (record f { place = place }) ∷ ms) h es others r ≡ value_in (Runs_frame f ∷ ms) h es others r
value_kept f ms h es others place r = value_counted f ms h es others f.counters place r

-- a word is written in the checked machine
pub word_written : (fr : Frame) (ts : List Task) (i place : ℕ) (w : Option ℤ) (r : Place)
    → word_at (Run (record fr { words = set_extending None fr.words i w; place = place }) ∷ ts) r ≡ changed (word_at (Run fr ∷ ts)) (Register (length ts) i) w r
word_written fr ts i place w x = grind (arith, nat_tests, at-set_extending None fr.words i)

pub word_counted : (fr : Frame) (ts : List Task) (counters : List ℕ) (place : ℕ) (r : Place) →
    word_at (Run (record fr { counters = counters; place = place }) ∷ ts) r ≡ word_at (Run fr ∷ ts) r
word_counted fr ts counters place _ = refl

pub word_next : (fr : Frame) (ts : List Task) (place : ℕ) (r : Place) → word_at (Run (record fr { place = place }) ∷ ts) r ≡ word_at (Run fr ∷ ts) r
word_next fr ts place r = word_counted fr ts fr.counters place r

-- a destruction is at hand
pub destroys_value : (us : List Machine_task) (h : Heap) (es : List Item) (others : Others) (n d : ℕ) →
    length us ≡ d → (r : Place) → value_in (Destroys n ∷ us) h es others r ≡ changed (value_in us h es others) (Going d) n r
destroys_value us h es others n d deep x = grind (arith, nat_tests, at_depth, register_past us)

pub destroys_word : (us : List Task) (d : ℕ) (r : Place) → word_at (Destroy ∷ us) r ≡ changed (word_at us) (Going d) None r
destroys_word us d x = grind (arith, nat_tests, at_depth, word_past us)

-- whatever a place has goes to another place, and null takes its place
pub moves : (v v' : Place → ℕ) (w w' : Place → Option ℤ) (h h' : Place → Option Object) (p q : Place) → ((r : Place) → Represents (v r) (w r) (h r))
    → w p ≡ None → ((r : Place) → v' r ≡ changed (changed v p null) q (v p) r) → ((r : Place) → w' r ≡ changed w q None r)
    → ((r : Place) → h' r ≡ transfer p q h r) → (r : Place) → Represents (v' r) (w' r) (h' r)
moves v v' w w' h h' p q old no_word ev ew eh r =
    subst (λ n. Represents n (w' r) (h' r)) (sym (ev r)) (subst (λ x. Represents (changed (changed v p null) q (v p) r) x (h' r)) (sym (ew r))
    (subst (λ o. Represents (changed (changed v p null) q (v p) r) (changed w q None r) o) (sym (eh r)) (go (same_place q r) (same_place p r) refl)))
  where
    go : (b c : Bool) → same_place p r ≡ c → Represents (cond b (v p) (cond c null (v r))) (cond b None (w r)) (cond b (h p) (cond c None (h r)))
    go true c e = subst (λ x. Represents (v p) x (h p)) no_word (old p)
    go false false e = old r
    go false true e = subst (λ x. Represents null x None) (sym (ap w (sym (same_place-true p r e)) ∙ no_word)) refl

-- one place is written
pub writes : (v v' : Place → ℕ) (w w' : Place → Option ℤ) (h h' : Place → Option Object) (q : Place) (n : ℕ) (x : Option ℤ) (o : Option Object)
    → ((r : Place) → Represents (v r) (w r) (h r)) → Represents n x o → ((r : Place) → v' r ≡ changed v q n r) → ((r : Place) → w' r ≡ changed w q x r)
    → ((r : Place) → h' r ≡ changed h q o r) → (r : Place) → Represents (v' r) (w' r) (h' r)
writes v v' w w' h h' q n x o old new ev ew eh r = grind (arith, nat_tests)

pub kept : {A : Type 0} (f : Place → A) (q r : Place) → f r ≡ changed f q (f q) r
kept f q r = grind (arith, nat_tests, same_place-true q r)
