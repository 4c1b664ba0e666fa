-- What stands at a depth of the machine is what stands there in each state that it stands for.
use Rattle.std.proofs.lemmas.Bool.Decides.{nat_tests}
use Rattle.std.proofs.Common.{◌≡◌, ◌∙◌, ℕ, ℤ, zero, suc, Bool, true, false, cond, ◌==◌, List, [], ◌∷◌, ◌++◌, length, Option, Some, None, slice_get}
use Rattle.std.proofs.Common.{slice_index_or, refl, sym, ap, subst, arith}
use Rattle.std.specs.Prelude.{is_some, reverse}
use Rattle.std.proofs.lemmas.Bool.{eq-eqb, eqb-false, eqb-true, ne_eqb}
use Rattle.std.proofs.lemmas.List.{length-reverse, reverse-append}
use Rattle.std.proofs.lemmas.Option.{none-some, same_Some}
use Rattle.aom_image.specs.Image.{Image}
use Rattle.aom_cells.specs.Heap.{null}
use Rattle.aom_frames.specs.Tasks.{register_of}
use Rattle.aom_frames.specs.declared.frame.Frame.{Frame as Machine_frame}
use Rattle.aom_frames.specs.declared.task.Task.{Task as Machine_task}
use Rattle.aom_frames.specs.declared.task.Task.TheVariants.{Run as Runs_frame}
use Rattle.aom_semantics.specs.Owned.{over}
use Rattle.aom_semantics.specs.Places.{Elsewhere, Entry, Going, In_service, Object, Register, Root, held}
use Rattle.aom_semantics.specs.State.{Frame, Run, State, Task}
use Rattle.aom_machine_state.specs.declared.parts.Parts.{Parts}
use Rattle.aom_frames.specs.Items.{entry_in}
use Rattle.aom_machine_state.specs.Agrees.{SameFrame, SameTask, SameTasks, number, word_in, word_of}
use Rattle.aom_machine_state.specs.Agrees.{Represents}
use Rattle.aom_machine_state.specs.Places.{going_in, going_of, register_in, value}
use Rattle.aom_machine_state.specs.Stands.{MachineModel, Refines}
use Rattle.aom_debug_views.proofs.MachineStateLemmas.{by_tasks, same_length}
use Rattle.aom_debug_views.proofs.MachineInstructionsLemmas.{not_null}
use Rattle.aom_debug_views.proofs.Over.{BothOver, one_over, read_over, read_there}
use Rattle.aom_debug_views.specs.Owners.{Shows, ShowsNone, frame_over, goings_in, is_frame, is_going}

-- ---- lists

suc_same : (n k : ℕ) {B : Type 0} (x y : B) → cond (suc n == suc k) x y ≡ cond (n == k) x y
suc_same n k x y = grind (arith, nat_tests, eq-eqb, eqb-true n k, ne_eqb, eqb-false n k)

module _ {A : Type 0} where
  last_read : (ys : List A) (x : A) (k : ℕ) → slice_get (ys ++ x ∷ []) k ≡ cond (length ys == k) (Some x) (slice_get ys k)
  last_read [] x zero = refl
  last_read [] x (suc k) = ap (λ c. cond c (Some x) None) (sym (ne_eqb 0 (suc k) (λ e. omega (arith, e))))
  last_read (y ∷ ys) x zero = ap (λ c. cond c (Some x) (Some y)) (sym (ne_eqb (suc (length ys)) 0 (λ e. omega (arith, e))))
  last_read (y ∷ ys) x (suc k) = last_read ys x k ∙ sym (suc_same (length ys) k (Some x) (slice_get ys k))

  -- by how many lie below it
  pub over_from_bottom : (xs : List A) (k : ℕ) → slice_get (reverse xs) k ≡ over xs k
  over_from_bottom [] k = refl
  over_from_bottom (x ∷ xs) k = grind (arith, reverse-append (x ∷ []) xs, last_read, length-reverse xs, over_from_bottom xs k)

  -- what lies above it, and what below
  pub parted : (xs : List A) (k : ℕ) (x : A) → over xs k ≡ Some x → (above below : List A) × (xs ≡ above ++ x ∷ below) × (length below ≡ k)
  parted [] k x is = absurd (none-some x is)
  parted (y ∷ ys) k x is = go (parted ys k x) (length ys == k) refl is
    where
      go : (over ys k ≡ Some x → (above below : List A) × (ys ≡ above ++ x ∷ below) × (length below ≡ k)) → (b : Bool) →
          (length ys == k) ≡ b → cond b (Some y) (over ys k) ≡ Some x → (above below : List A) × ((y ∷ ys) ≡ above ++ x ∷ below) × (length below ≡ k)
      go rest true at is = ([], ys, ap (λ z. z ∷ ys) (same_Some y x is), eqb-true (length ys) k at)
      go rest false at is = let more = rest is in (y ∷ more.0, more.1, ap (λ (zs : List A). y ∷ zs) more.2, more.3)

-- ---- tasks

abbrev pub SameOver : Option Machine_task → Option Task → Type 0
SameOver m u = BothOver SameTask m u

both_over : (k : ℕ) (ms : List Machine_task) (us : List Task) → SameTasks ms us → SameOver (over ms k) (over us k)
both_over k = by_tasks (λ ms us. SameOver (over ms k) (over us k)) tt
    (λ m u ms us same rest below. one_over SameTask m u k ms us same (same_length ms us rest) below)

-- a frame
frame_by : (f : Machine_frame) (u : Option Task) → SameOver (Some (Runs_frame f)) u → (fr : Frame) × (u ≡ Some (Run fr)) × SameFrame f fr
frame_by f u same = grind arith

frame_found : (o : Option Machine_task) (f : Machine_frame) → frame_over o ≡ Some f → o ≡ Some (Runs_frame f)
frame_found x f is = grind (arith, nat_tests, same_Some)

-- how many frames and destructions that is
abbrev goings_over : Option Machine_task → ℕ
goings_over None = 0
goings_over (Some t) = goings_in t

counted : (o : Option Machine_task) (u : Option Task) → SameOver o u → (is_some (frame_over o) ≡ is_frame u) × (goings_over o ≡ cond (is_going u) 1 0)
counted o u same = grind arith

-- ---- the numbers in the places of a task

abbrev pub register_over : Option Machine_task → ℕ → ℕ
register_over o i = read_over (λ t. register_of t i) null o

pub register_there : (ms : List Machine_task) (k i : ℕ) → register_in ms k i ≡ register_over (over ms k) i
register_there ms k i = read_there (λ t. register_of t i) null (λ ts. register_in ts k i) k refl (λ t ts. refl) ms

abbrev pub word_over : Option Task → ℕ → Option ℤ
word_over o i = read_over (λ u. word_of u i) None o

pub word_there : (us : List Task) (k i : ℕ) → word_in us k i ≡ word_over (over us k) i
word_there us k i = read_there (λ u. word_of u i) None (λ ts. word_in ts k i) k refl (λ u ts. refl) us

abbrev pub going_over : Option Machine_task → ℕ
going_over o = read_over going_of null o

pub going_there : (ms : List Machine_task) (k : ℕ) → going_in ms k ≡ going_over (over ms k)
going_there ms k = read_there going_of null (λ ts. going_in ts k) k refl (λ t ts. refl) ms

-- what is no frame has neither numbers nor words
no_frame : (o : Option Machine_task) (u : Option Task) (i : ℕ) → SameOver o u → frame_over o ≡ None → (register_over o i ≡ null) × (word_over u i ≡ None)
no_frame o u i same is = grind arith

pub number_reported : (m : Parts) (k : ℕ) (o : Option Machine_task) → o ≡ slice_get (reverse m.stack.tasks) k → going_over o ≡ going_in m.stack.tasks k
number_reported m k o is = ap going_over (is ∙ over_from_bottom m.stack.tasks k) ∙ sym (going_there m.stack.tasks k)

module _ (p : Image) (m : Parts) where
  abbrev tasks : List Machine_task
  tasks = m.stack.tasks

  abbrev M : MachineModel
  M = record { image = p; parts = m }

  pub same_over : (s : State) → Refines M s → (k : ℕ) → SameOver (over tasks k) (over s.tasks k)
  same_over s st k = both_over k tasks s.tasks st.agrees.tasks

  pub as_many_tasks : (s : State) → Refines M s → length tasks ≡ length s.tasks
  as_many_tasks s st = same_length tasks s.tasks st.agrees.tasks

  -- the frame at a depth
  pub frame_there : (s : State) → Refines M s → (k : ℕ) (f : Machine_frame) → over tasks k ≡ Some (Runs_frame f) →
      (fr : Frame) × (over s.tasks k ≡ Some (Run fr)) × SameFrame f fr
  frame_there s st k f there = frame_by f (over s.tasks k) (subst (λ o. SameOver o (over s.tasks k)) there (same_over s st k))

  pub frame_stands : (k : ℕ) (f : Machine_frame) → Some f ≡ frame_over (over tasks k) → over tasks k ≡ Some (Runs_frame f)
  frame_stands k f is = frame_found (over tasks k) f (sym is)

  pub frames_reported : (s : State) → Refines M s → (k : ℕ) → is_some (frame_over (over tasks k)) ≡ is_frame (over s.tasks k)
  frames_reported s st k = (counted (over tasks k) (over s.tasks k) (same_over s st k)).0

  pub goings_reported : (s : State) → Refines M s → (k : ℕ) (o : Option Machine_task) → o ≡ slice_get (reverse tasks) k →
      goings_over o ≡ cond (is_going (over s.tasks k)) 1 0
  goings_reported s st k o is = ap goings_over (is ∙ over_from_bottom tasks k) ∙ (counted (over tasks k) (over s.tasks k) (same_over s st k)).1

  -- the number in a register, and that of what goes
  pub register_value : (k i : ℕ) (f : Machine_frame) → over tasks k ≡ Some (Runs_frame f) → value m (Register k i) ≡ slice_index_or f.registers i null
  register_value k i f there = register_there tasks k i ∙ ap (λ o. register_over o i) there

  pub going_shows : (k n : ℕ) → n ≡ going_in tasks k → Shows M n (Going k)
  going_shows k n is = record { each = λ s st. is ∙ st.agrees.values (Going k) }

  pub entry_shows : (k n : ℕ) → n ≡ entry_in m.entries.items k → Shows M n (Entry k)
  entry_shows k n is = record { each = λ s st. is ∙ st.agrees.values (Entry k) }

  pub root_shows : Shows M m.root (Elsewhere Root)
  root_shows = record { each = λ s st. st.agrees.values (Elsewhere Root) }

  -- and so is the message that is served
  pub service_shows : Shows M m.served (Elsewhere In_service)
  service_shows = record { each = λ s st. st.agrees.values (Elsewhere In_service) }

  -- what is no frame owns nothing in registers
  pub no_registers : (k : ℕ) → None ≡ frame_over (over tasks k) → (i : ℕ) → ShowsNone M (Register k i)
  no_registers k none i = record { each = λ s st. by_null s st (held s.cells (Register k i)) refl (number_of s st) }
    where
      number_of : (s : State) → Refines M s → null ≡ number (held s.cells (Register k i))
      number_of s st =
          let both = no_frame (over tasks k) (over s.tasks k) i (same_over s st k) (sym none) in
          let word = word_there s.tasks k i ∙ both.1 in
          sym (register_there tasks k i ∙ both.0)
          ∙ subst (λ w. Represents (value m (Register k i)) w (held s.cells (Register k i))) word (st.agrees.values (Register k i))

      by_null : (s : State) → Refines M s → (o : Option Object) → held s.cells (Register k i) ≡ o → null ≡ number (held s.cells (Register k i)) → o ≡ None
      by_null s st x holds is = grind (arith, not_null p m st.typing s st.typed st.agrees (Register k i))
