-- What the code needs to know of the state that it stands for: where it may read, and what lives.
use Rattle.std.proofs.lemmas.Bool.Decides.{nat_tests}
use Rattle.std.proofs.Common.{true, suc, ◌≡◌, ℕ, ℤ, ◌<◌, ◌≤◌, ◌+◌, ◌^◌, length, List, [], ◌∷◌, Option}
use Rattle.std.proofs.Common.{Some, None, IsSome, slice_get, refl, sym, ap, ◌∙◌, subst, arith}
use Rattle.aom_machine_instructions.proofs.ImageLemmas.{some_given}
use Rattle.std.specs.Prelude.{is_some, IfSome}
use Rattle.std.proofs.lemmas.Option.{slice_get_within, slice_get-get_or}
use Rattle.aom_image.specs.Image.{Image}
use Rattle.aom_image.specs.Views.{method_at, instr_at, instr_in}
use Rattle.aom_image.specs.WellFormed.{WellFormed, MethodFits}
use Rattle.aom_instructions.specs.Table.{action_of}
use Rattle.aom_instructions.specs.declared.action.Action.TheVariants as action
use Rattle.aom_instructions.specs.declared.instr.Instr.{Instr}
use Rattle.aom_image.specs.declared.method.Method.{Method}
use Rattle.aom_machine_instructions.proofs.LinkConditionsLemmas.{all_there, of_method}
use Rattle.aom_cells.specs.Heap.{Lives, null, class_at}
use Rattle.aom_typing_rules.specs.Typing.{Typing}
use Rattle.aom_semantics.specs.Places.{Place, Register, Going, Elsewhere, Root, Object, held}
use Rattle.aom_semantics.specs.State.{Asks, Frame, OwnedObject, Task, Run, Trapped, Destroy, Unwind, Dispatched, State}
use Rattle.aom_safety.specs.Claims.{Layer, Method as A_method, Mark, Dying, Unwinding, Dispatching, tasks_of}
use Rattle.aom_safety.specs.WellTyped.{WellTyped, Good, Stack, Back, Now, Returns, Caught, Leaves}
use Rattle.aom_safety.specs.Tasks.{Below}
use Rattle.aom_safety.specs.Traps.{at_traps}
use Rattle.aom_machine_instructions.proofs.SemanticsLemmas.{held_lives}
use Rattle.aom_machine_instructions.proofs.SafetyLemmas.{going_layer, leave_layer, method_layer, root_cell}
use Rattle.aom_frames.specs.Tasks.{TopFrameIs, method_here, place_here, register_here, below_first}
use Rattle.aom_frames.specs.declared.frame.Frame.{Frame as Machine_frame}
use Rattle.aom_frames.specs.declared.task.Task.{Task as Machine_task}
use Rattle.aom_frames.specs.declared.task.Task.TheVariants.{Trapped as Is_trap}
use Rattle.aom_machine_state.specs.declared.parts.Parts.{Parts}
use Rattle.aom_machine_state.specs.Places.{IsDestroying, going_here}
use Rattle.aom_machine_state.specs.Agrees.{SameFrame, SameTasks, number, Agrees}
use Rattle.aom_machine_instructions.specs.Acts.{In_going}
use Rattle.aom_machine_instructions.specs.Next.{IsNext, counting}
use Rattle.aom_machine_state.specs.Room.{ReturnsTo}
use Rattle.aom_machine_state.specs.Stands.{Sound, Stands}
use Rattle.std.proofs.lemmas.Bool.{false≢true}
use Rattle.aom_roles.specs.Things.{is_object}
use Rattle.aom_abstract_state.specs.AbstractState.{AbstractState}
use Rattle.aom_typing_rules.specs.Typing.{shape_at}
use Rattle.aom_semantics.specs.State.{Dispatch}
use Rattle.aom_safety.specs.WellTyped.{Gone}
use Rattle.aom_machine_instructions.proofs.MachineStateLemmas.{Alike, alike, both_end, both_go, both_run, both_trapped, both_unwind, same_below}
use Rattle.aom_machine_instructions.proofs.Traps.{code_register}
use Rattle.aom_machine_instructions.proofs.ReceiverHolding.{has_task, destroy_needs}
use Rattle.aom_machine_instructions.proofs.Running.{by_top, no_word, object_lives_at}
use Rattle.aom_machine_instructions.proofs.ObjectActs.{shown}
use Rattle.aom_machine_instructions.proofs.Stepping.{frame_of, going_of, cell_found}
use Rattle.aom_machine_instructions.proofs.GoingActs.{by_going, going_object, number_of}
use Rattle.aom_semantics.specs.Objects.{is_no_message}

abbrev pub length_in : Option Method → ℕ
length_in None = 0
length_in (Some m) = length m.code

-- a method has at most 1,024 places
pub short : (p : Image) → WellFormed p → (m : ℕ) → length_in (method_at p m) ≤ 1024
unfolding method_at
short p formed m = go (slice_get p.methods m) refl
  where
    go : (o : Option Method) → slice_get p.methods m ≡ o → length_in o ≤ 1024
    go None e = omega arith
    go (Some d) e = let fits = all_there (MethodFits p.header.version (length p.classes) (length p.methods)) p.methods m d formed.methods.each e in fits.code_length

-- an instruction stands within its method
pub within_code : (p : Image) (m k : ℕ) → IsSome (instr_at p m k) → k < length_in (method_at p m)
within_code p m k some = grind (arith, nat_tests, some_given, of_method p m k, slice_get_within)

module _ (p : Image) (t : Typing) (s : State) (sound : Sound p t) (typed : WellTyped p t s) where
  -- where a method runs there is an instruction
  pub runs_there : (fr : Frame) (ts : List Task) → s.tasks ≡ Run fr ∷ ts → IsSome (instr_at p fr.method fr.place)
  runs_there fr ts top = method_layer (λ ls. Good p t s.cells ls) fr ts typed.layers (sym typed.tasks ∙ top) typed.good (λ sh ls _ good.
      ap is_some (sound.typed.each fr.method fr.place sh good.stack.0).stands)

  -- where a method goes on after the going of a cell, there is one too
  pub goes_there : (fr : Frame) (ts : List Task) → s.tasks ≡ Destroy ∷ Run fr ∷ ts → IsSome (instr_at p fr.method (suc fr.place))
  goes_there fr ts top = going_layer (Good p t s.cells) (Run fr ∷ ts) typed.layers (sym typed.tasks ∙ top) typed.good (λ o ls under good.
      method_layer (λ ls. Good p t s.cells (Dying o ∷ ls)) fr ts ls under good (λ sh ls _ good.
      let leads = good.stack.2.0 in
      ap is_some (sound.typed.each fr.method (suc fr.place) leads.0 leads.1).stands))

pub finds_instr : (p : Image) (m : Parts) → Stands (record { image = p; parts = m }) → TopFrameIs m.stack.tasks →
    IsSome (instr_at p (method_here m.stack.tasks) (place_here m.stack.tasks))
finds_instr p m st runs =
    grind (arith, nat_tests, frame_of m.stack.tasks st.0.tasks runs st.1.agrees.tasks, runs_there p st.1.typing st.0 st.1.sound st.1.typed)

-- the next place is no overflow
pub runs_within : (p : Image) (m : Parts) → Stands (record { image = p; parts = m }) → TopFrameIs m.stack.tasks → place_here m.stack.tasks + 1 < 2 ^ 64
runs_within p m st runs = grind (arith, nat_tests, within_code p, finds_instr p m st runs, short p st.1.sound.formed)

-- the number of an object that a place owns is that of a living cell, where it is not null
module _ (p : Image) (m : Parts) (t : Typing) (s : State) (typed : WellTyped p t s) (agrees : Agrees p m s) where
  pub object_lives : (r : Place) (o : Object) (n : ℕ) → held s.cells r ≡ Some o → is_object o.thing ≡ true → n ≡ o.name → Lives m.cells n
  object_lives r o n holds object name = subst (Lives m.cells) (sym name) (object_lives_at p m s agrees o (held_lives s.cells r o typed.good.no_duplicates holds) object)

  pub number_lives : (r : Place) (n : ℕ) → is_no_message (held s.cells r) ≡ true → n ≡ number (held s.cells r) → (n ≡ null → ⊥) → Lives m.cells n
  number_lives r n object is some = grind (arith, nat_tests, some_given, object_lives r)

-- and its class is a class's number
pub class_fits : (p : Image) (m : Parts) (s : State) → Agrees p m s → (n : ℕ) → IfSome (class_at m.cells n) (λ class. class < 256)
class_fits p m s agrees n = grind (arith, nat_tests)

-- what a destruction finds in its register is null or lives
pub destroys_living : (p : Image) (m : Parts) (i : Instr) (a : ℕ) → IsNext p i m → action_of i ≡ action.Destroy a →
    (register_here m.stack.tasks a ≡ null → ⊥) → Lives m.cells (register_here m.stack.tasks a)
destroys_living p counted i a next is some =
    let m = counting next.counts counted in
    let h = has_task p m next.stands next.runs in
    let n = destroy_needs p counted i a next is in
    by_top p m h (λ us. (register_here us a ≡ null → ⊥) → Lives m.cells (register_here us a)) (λ f ms top some. number_lives p m h.typing h.state h.typed
    h.agrees (Register (length h.below) a) _ n.1.1.0 (shown p m h f ms top a (no_word _ n.1.0)) some) some

pub root_lives : (p : Image) (m : Parts) → Stands (record { image = p; parts = m }) → (m.root ≡ null → ⊥) → Lives m.cells m.root
root_lives p m st some = number_lives p m st.1.typing st.0 st.1.typed st.1.agrees (Elsewhere Root) m.root (root_cell p st.1.typing st.0 st.1.typed)
    (st.1.agrees.values (Elsewhere Root)) some

-- a trap is at hand only under a method
pub not_trapped : (p : Image) (m : Parts) (ms : List Machine_task) → Stands (record { image = p; parts = m }) → m.stack.tasks ≡ Is_trap ∷ ms → ⊥
not_trapped p m ms st e = go st.1.typed.layers st.1.typed.good
    (subst (λ us. SameTasks us (tasks_of st.1.typed.layers)) e (subst (SameTasks m.stack.tasks) st.1.typed.tasks st.1.agrees.tasks))
  where
    go : (ls : List Layer) → Good p st.1.typing st.0.cells ls → SameTasks (Is_trap ∷ ms) (tasks_of ls) → ⊥
    go [] good same = same
    go (Mark g ∷ ls) good same = good.stack.0
    go (_ ∷ ls) good same = same.0

-- a typed place lies before another that has an instruction
before : (p : Image) (m place : ℕ) → IsSome (instr_at p m (suc place)) → IsSome (instr_at p m place)
unfolding instr_in
before p m place some = elim (method_at p m) as (λ o. IsSome (instr_in o (suc place)) → IsSome (instr_in o place)) [
  | None ↦ λ e. cc
  | Some d ↦ λ e. earlier d.code place e
] some
  where
    earlier : (xs : List Instr) (k : ℕ) → IsSome (slice_get xs (suc k)) → IsSome (slice_get xs k)
    earlier xs k e = some_given (λ o. IsSome o) (slice_get xs (suc k)) e (λ none. false≢true none) (λ x is _.
        let within = slice_get_within xs (suc k) x is in
        ap is_some (slice_get-get_or xs k x (omega arith)))

-- the innermost task is a trap
abbrev pub IsTrapOnTop : List Task → Type 0
IsTrapOnTop [] = ⊥
IsTrapOnTop (Trapped ∷ ts) = Unit {0}
IsTrapOnTop (_ ∷ ts) = ⊥

-- what stands below a method that runs
pub data Beneath (p : Image) : List Task → Type 0 where
  a_method : (g : Frame) (ts : List Task) → IsSome (instr_at p g.method (suc g.place)) → Beneath p (Run g ∷ ts)
  a_catcher : (g : Frame) (ts : List Task) → IsSome (instr_at p g.method (suc g.place)) → Beneath p (Trapped ∷ Run g ∷ ts)
  a_dispatch : (d : Dispatch) (ts : List Task) → Beneath p (Trapped ∷ Dispatched d ∷ ts)
  a_going : (ts : List Task) → Beneath p (Destroy ∷ ts)
  a_leave : (code : ℤ) (ts : List Task) → Beneath p (Unwind code ∷ ts)
  -- an object's dispatch that asks
  an_asker : (x : OwnedObject) (ts : List Task) → Beneath p (Dispatched (Asks x) ∷ ts)

-- so it is, by what the task above brings back
abbrev BeneathBy : Image → Back → List Task → Type 0
BeneathBy p (Returns m receiver) ts = Beneath p ts
BeneathBy p (Caught g) ts = Beneath p (Trapped ∷ ts)
BeneathBy p Leaves ts = Beneath p ts × IsTrapOnTop ts
BeneathBy p _ ts = Unit {0}

module _ (p : Image) (t : Typing) (s : State) (sound : Sound p t) where
  leads_on : (fr : Frame) (sh : AbstractState) → shape_at t fr.method (suc fr.place) ≡ Some sh → IsSome (instr_at p fr.method (suc fr.place))
  leads_on fr sh there = ap is_some (sound.typed.each fr.method (suc fr.place) sh there).stands

  beneath : (back : Back) (ls : List Layer) → Stack p t s.cells back ls → BeneathBy p back (tasks_of ls)
  beneath Now ls stack = tt
  beneath (Returns m receiver) (A_method g sh ∷ ls) stack = a_method g (tasks_of ls) (let leads = stack.0.2 in leads_on g leads.0 leads.1)
  beneath (Returns m receiver) (Mark g ∷ ls) stack = beneath (Caught g) ls stack.1
  beneath (Returns m receiver) (Dying o ∷ ls) stack = a_going (tasks_of ls)
  beneath (Returns m receiver) (Unwinding code es ∷ ls) stack = a_leave code (tasks_of ls)
  beneath (Returns m receiver) (Dispatching (Asks x) owned_chain ∷ ls) stack = an_asker x (tasks_of ls)
  beneath (Caught g) (A_method fr sh ∷ ls) stack = a_catcher fr (tasks_of ls) (let leads = stack.0.3 in leads_on fr leads.0 leads.1)
  beneath (Caught g) (Dispatching d owned_chain ∷ ls) stack = a_dispatch d (tasks_of ls)
  beneath Gone ls stack = tt
  beneath Leaves (Mark g ∷ ls) stack = (beneath (Caught g) ls stack.1, tt)
  beneath _ _ stack = absurd (grind arith)

  pub stands_beneath : (fr : Frame) (ts : List Task) → WellTyped p t s → s.tasks ≡ Run fr ∷ ts → Beneath p ts
  stands_beneath fr ts typed top = method_layer (λ ls. Good p t s.cells ls) fr ts typed.layers
      (sym typed.tasks ∙ top) typed.good (λ sh ls rest good. subst (Beneath p) rest (beneath (Returns fr.method fr.receiver) ls good.stack.4))

  -- below a leave that unwinds stands a trap
  pub unwinds_over : (code : ℤ) (ts : List Task) → WellTyped p t s → s.tasks ≡ Unwind code ∷ ts → Beneath p ts × IsTrapOnTop ts
  unwinds_over code ts typed top = leave_layer (λ ls. Good p t s.cells ls) code ts typed.layers
      (sym typed.tasks ∙ top) typed.good (λ es ls rest good. subst (λ us. Beneath p us × IsTrapOnTop us) rest (beneath Leaves ls good.stack.1))

-- what the machine has there
module _ (p : Image) (formed : WellFormed p) where
  goes_on_there : (f : Machine_frame) (g : Frame) → SameFrame f g → IsSome (instr_at p g.method (suc g.place)) →
      IsSome (instr_at p f.method f.place) × ((f.place + 1) < 2 ^ 64)
  goes_on_there f g same some = grind (arith, nat_tests, before p g.method g.place some, within_code p f.method f.place, short p formed f.method)

  pub held_beneath : {ms : List Machine_task} {ts : List Task} → Beneath p ts → Alike ms ts → Below (at_traps p) ts → ReturnsTo p ms
  held_beneath (a_method g _ some) (both_run f _ _ _ same _ _) fits = goes_on_there f g same some
  held_beneath (a_catcher g ts some) (both_trapped _ _ _ (both_run f _ _ _ same _ _)) fits =
      grind (arith, nat_tests, goes_on_there f g same some, code_register p formed g ts fits.0)
  held_beneath (a_dispatch d _) (both_trapped _ _ _ (both_end x _ _ _ _ _ _)) fits = tt
  held_beneath (a_going _) (both_go x _ _ _ _ _) fits = tt
  held_beneath (a_leave code _) (both_unwind _ _ _ _ _ _ _) fits = tt
  held_beneath (an_asker x _) (both_end held _ _ _ same _ _) fits = tt

-- a method that returns has something to return to
pub returns_to : (p : Image) (m : Parts) → Stands (record { image = p; parts = m }) → TopFrameIs m.stack.tasks → ReturnsTo p (below_first m.stack.tasks)
returns_to p m st runs = grind (
  arith,
  nat_tests,
  frame_of m.stack.tasks st.0.tasks runs st.1.agrees.tasks,
  held_beneath p st.1.sound.formed,
  stands_beneath p st.1.typing st.0 st.1.sound,
  alike,
  same_below m.stack.tasks,
)

-- the method that runs is one of the image
pub finds_method : (p : Image) (m : Parts) → Stands (record { image = p; parts = m }) → TopFrameIs m.stack.tasks → IsSome (method_at p (method_here m.stack.tasks))
finds_method p m st runs = some_given (λ o. IsSome o) (instr_at p (method_here m.stack.tasks) (place_here m.stack.tasks))
    (finds_instr p m st runs) (λ some. cc) (λ i e some. ap is_some (of_method p (method_here m.stack.tasks) (place_here m.stack.tasks) i e).1)

-- of a machine in which a cell goes
module _ (p : Image) (m : Parts) (st : Stands (record { image = p; parts = m })) (destroying : IsDestroying m.stack.tasks) where
  abbrev at_going : (ts : List Task) → st.0.tasks ≡ Destroy ∷ ts → In_going p m
  at_going ts top =
      record { typing = st.1.typing; state = st.0; below = ts; top = top; formed = st.1.sound.formed; wired = st.1.sound.wired; typed = st.1.typed; kept = st.1.kept; agrees = st.1.agrees }

  -- the cell lives
  pub cell_lives : Lives m.cells (going_here m.stack.tasks)
  cell_lives =
      let f = going_of m.stack.tasks st.0.tasks destroying st.1.agrees.tasks in
      let h = at_going f.0 f.1 in
      let k = cell_found p m st.1.typing st.0 f.0 st.1.sound st.1.typed st.1.agrees f.1 in
      by_going p m h (λ us. Lives m.cells (going_here us)) (λ x ms top. object_lives p m st.1.typing st.0 st.1.typed st.1.agrees
      (Going (length f.0)) k.0 x k.1 (going_object p m h k.0 x ms top k.1) (number_of p m h k.0 x ms top k.1))

  -- the method below may go on
  pub going_within : place_here (below_first m.stack.tasks) + 1 < 2 ^ 64
  going_within =
      let f = going_of m.stack.tasks st.0.tasks destroying st.1.agrees.tasks in
      by_going p m (at_going f.0 f.1) (λ us. place_here (below_first us) + 1 < 2 ^ 64) (λ x ms top. within (alike ms f.0 top.below) f.1)
    where
      within : {ms : List Machine_task} {ts : List Task} → Alike ms ts → st.0.tasks ≡ Destroy ∷ ts → place_here ms + 1 < 2 ^ 64
      within (both_run f fr _ ts same _ _) e =
          let some = within_code p _ _ (goes_there p st.1.typing st.0 st.1.sound st.1.typed fr ts e) in
          let few = short p st.1.sound.formed fr.method in
          let is = same.place in
          omega arith
      within _ e = omega arith
