-- What the strongest typing says is a word is one in each state, also while its method waits: no argument that moves stood there.
use Rattle.std.proofs.lemmas.Bool.Decides.{nat_tests}
use Rattle.std.proofs.Common.{arith, ◌≡◌, ◌∙◌, ℕ, suc, ℤ, List, [], ◌∷◌, ◌++◌, Option, Some, None, IsSome, slice_index_or}
use Rattle.std.proofs.Common.{refl, sym, ap, subst}
use Rattle.std.specs.Int.{w32, cast_signed}
use Rattle.std.proofs.lemmas.Bool.{eqb-true}
use Rattle.std.proofs.lemmas.Option.{same_Some}
use Rattle.aom_image.specs.Image.{Image}
use Rattle.aom_image.specs.Views.{arguments_of, instr_at, method_at, method_class}
use Rattle.aom_image.specs.declared.method.Argument.{Argument}
use Rattle.aom_image.specs.declared.method.Argument.TheVariants.{Word as A_word, Own as An_own}
use Rattle.aom_instructions.specs.declared.instr.Instr.{Instr}
use Rattle.aom_instructions.specs.declared.instr.Target.{Target}
use Rattle.aom_roles.specs.Tests.{AllTrue}
use Rattle.aom_cells.specs.Heap.{null}
use Rattle.aom_frames.specs.declared.frame.Frame.{Frame as Machine_frame}
use Rattle.aom_frames.specs.declared.task.Task.TheVariants.{Run as Runs_frame}
use Rattle.aom_typing_rules.specs.Calls.{each_argument, while_called}
use Rattle.aom_typing_rules.specs.Rules.{rule_needs, ways_of}
use Rattle.aom_typing_rules.specs.Typing.{Typing, shape_at}
use Rattle.aom_typing_rules.specs.Ways.{Called, Caught, Goes_on, Holding, Ways}
use Rattle.aom_abstract_state.specs.Arguments.{arguments_moved}
use Rattle.aom_abstract_state.specs.Kinds.{register, set_register}
use Rattle.aom_abstract_state.specs.Order.{Weaker}
use Rattle.aom_abstract_state.specs.AbstractState.{AbstractState}
use Rattle.aom_roles.specs.Tables.{at}
use Rattle.aom_abstract_state.specs.declared.kind.Kind.{Kind}
use Rattle.aom_abstract_state.specs.declared.kind.Kind.TheVariants.{Null, Unset, Word}
use Rattle.aom_semantics.specs.Owned.{over}
use Rattle.aom_semantics.specs.Places.{Object, Register, held}
use Rattle.aom_semantics.specs.State.{Frame, Run, State, Task, word}
use Rattle.aom_debug_views.proofs.SafetyLemmas.{all_parts}
use Rattle.aom_debug_views.proofs.SemanticsLemmas.{at-set_extending}
use Rattle.aom_static_bounds.specs.Shapes.{Shapes}
use Rattle.aom_static_bounds.specs.Strongest.{IsMethodStrongest, IsShapeAt, IsStrongest}
use Rattle.aom_machine_state.specs.declared.parts.Parts.{Parts}
use Rattle.aom_machine_state.specs.Agrees.{Represents, SameFrame}
use Rattle.aom_machine_state.specs.Places.{value}
use Rattle.aom_machine_state.specs.Stands.{MachineModel, Refines}
use Rattle.aom_machine_state.specs.Waits.{KindSays, waiting_by, while_waiting}
use Rattle.aom_debug_views.proofs.MachineLemmas.{runs_typed, waits_under}
use Rattle.aom_debug_views.proofs.StaticBoundsLemmas.{kind_is}
use Rattle.aom_debug_views.specs.Frames.{ShowsWord}
use Rattle.aom_debug_views.proofs.Tasks.{frame_there, parted, register_value, word_over, word_there}

-- ---- two strongest typings of a method say the same of each register

same_shapes : (p : Image) (m : ℕ) (a b : Shapes) → IsMethodStrongest p m a → IsMethodStrongest p m b →
    (pc : ℕ) (sh : AbstractState) → at None a pc ≡ Some sh → (next : AbstractState) × (at None b pc ≡ Some next) × ((i : ℕ) → register next i ≡ register sh i)
same_shapes p m a b x y pc sh there =
    let down = (x.least b y.typed).each pc sh there in
    let up = (y.least a x.typed).each pc down.next down.there in
    let same = same_Some up.next sh (sym up.there ∙ there) in (
      down.next,
      down.there,
      λ i. kind_is (register down.next i)
          (register sh i) (down.implied.registers i) (subst (λ (z : AbstractState). Weaker (register z i) (register down.next i)) same (up.implied.registers i)),
    )

pub kind_there : (p : Image) (t : Typing) → IsStrongest p t → (m pc : ℕ) → IsSome (method_at p m) →
    (sh : AbstractState) → IsShapeAt p m pc (Some sh) → (shape : AbstractState) × (shape_at t m pc ≡ Some shape) × ((i : ℕ) → register shape i ≡ register sh i)
kind_there p t strongest m pc method sh shape = same_shapes p m shape.states (at [] t m) shape.strongest (strongest.each m method) pc sh (sym shape.there)

-- ---- a register that is a word stays one while a call is at hand

argument_words : (p : Image) (xs : List Argument) (first : ℕ) (sh now : AbstractState) (i : ℕ) →
    AllTrue (each_argument p sh xs first) → register sh i ≡ Word → register now i ≡ Word → register (arguments_moved xs first now) i ≡ Word
argument_words p [] first sh now i met is here = here
argument_words p (A_word ∷ xs) first sh now i met is here = argument_words p xs (suc first) sh now i met.1 is here
argument_words p (An_own t ∷ xs) first sh now i met is here = grind (arith, argument_words p xs, at-set_extending Unset now.registers first i Null)

called_words : (target : Target) (class : Option ℕ) (ended i : ℕ) (sh : AbstractState) → register sh i ≡ Word → register (while_called target class ended sh) i ≡ Word
called_words x class ended i sh is = grind (arith, nat_tests, at-set_extending Unset sh.registers, eqb-true)

-- where what goes was no word
emptied_words : (sh : AbstractState) (a i : ℕ) → (register sh a ≡ Word → ⊥) → register sh i ≡ Word → register (set_register sh a Null) i ≡ Word
emptied_words sh a i none is = grind (arith, at-set_extending Unset sh.registers a i Null)

module _ (p : Image) (m pc : ℕ) (sh : AbstractState) (i : ℕ) (is : register sh i ≡ Word) where
  call_words : (target : Target) (m' first ended : ℕ) → AllTrue (each_argument p sh (arguments_of p m') first) →
      register (while_called target (method_class p m') ended (arguments_moved (arguments_of p m') first sh)) i ≡ Word
  call_words target m' first ended met = grind (arith, nat_tests, called_words target, argument_words p)

  -- by the ways on from it: a call has its arguments, with a trap or without, and what is null from then on was no word
  called_arguments : (x : Instr) (target : Target) (m' first c : ℕ) → ways_of p x ≡ Goes_on (Called target m' first c) →
      AllTrue (rule_needs p m pc sh x) → AllTrue (each_argument p sh (arguments_of p m') first)
  called_arguments x target m' first c ways met = grind (arith, all_parts)

  caught_arguments : (x : Instr) (target : Target) (m' first c : ℕ) → ways_of p x ≡ Goes_on (Caught target m' first c) →
      AllTrue (rule_needs p m pc sh x) → AllTrue (each_argument p sh (arguments_of p m') first)
  caught_arguments x target m' first c ways met = grind (arith, all_parts)

  nulled_owns : (x : Instr) (a : ℕ) → ways_of p x ≡ Goes_on (Holding a Null) → AllTrue (rule_needs p m pc sh x) → register sh a ≡ Word → ⊥
  nulled_owns x a ways met word = grind arith

  waiting_words : (x : Instr) → AllTrue (rule_needs p m pc sh x) → register (waiting_by p (ways_of p x) sh) i ≡ Word
  waiting_words x met = go (ways_of p x) refl
    where
      go : (ways : Ways) → ways_of p x ≡ ways → register (waiting_by p ways sh) i ≡ Word
      go (Goes_on (Called target m' first c)) ways = call_words target m' first _ (called_arguments x target m' first c ways met)
      go (Goes_on (Caught target m' first c)) ways = call_words target m' first _ (caught_arguments x target m' first c ways met)
      go (Goes_on (Holding a Null)) ways = emptied_words sh a i (nulled_owns x a ways met) is
      go _ ways = is

-- ---- so it has a word

word_said : (p : Image) (k : Kind) (w : Option ℤ) (o : Option Object) → k ≡ Word → KindSays p k w o → IsSome w
word_said p k w o is says = (subst (λ x. KindSays p x w o) is says).0

word_of_number : (n : ℕ) (w : Option ℤ) (o : Option Object) → IsSome w → Represents n w o → w ≡ Some (cast_signed w32 n)
word_of_number n x o some shows = grind arith

module _ (p : Image) (m : Parts) where
  abbrev M : MachineModel
  M = record { image = p; parts = m }

  module _ (s : State) (st : Refines M s) (k i : ℕ) (fr : Frame) (shape : AbstractState) (typed : shape_at st.typing fr.method fr.place ≡ Some shape)
      (is : register shape i ≡ Word) where
    word_is : (other : AbstractState) → shape_at st.typing fr.method fr.place ≡ Some other → register other i ≡ Word
    word_is other there = ap (λ (x : AbstractState). register x i) (same_Some other shape (sym there ∙ typed)) ∙ is

    while_words : (other : AbstractState) → shape_at st.typing fr.method fr.place ≡ Some other → register (while_waiting p (instr_at p fr.method fr.place) other) i ≡ Word
    while_words other there =
        let passes = st.sound.typed.each fr.method fr.place other there in
        ap (λ x. register (while_waiting p x other) i) passes.stands ∙ waiting_words p fr.method fr.place other i (word_is other there) passes.instr passes.needs

    has_word : (above below : List Task) → s.tasks ≡ above ++ Run fr ∷ below → IsSome (word fr i)
    has_word [] below split = grind (arith, runs_typed p st.typing s fr below st.typed split)
    has_word (task ∷ above) below split = grind (arith, waits_under p st.typing s.cells above fr below, while_words)

  -- the number in the register is that word
  pub word_shown : (k i : ℕ) (f : Machine_frame) (sh : AbstractState) → over m.stack.tasks k ≡ Some (Runs_frame f) →
      IsSome (method_at p f.method) → IsShapeAt p f.method f.place (Some sh) → register sh i ≡ Word → ShowsWord M (slice_index_or f.registers i null) k i
  word_shown k i f sh held_there method shape is = record { each = λ s st fr there. by s st fr there (frame_there p m s st k f held_there) }
    where
      by : (s : State) → Refines M s → (fr : Frame) → over s.tasks k ≡ Some (Run fr) →
          ((g : Frame) × (over s.tasks k ≡ Some (Run g)) × SameFrame f g) → word fr i ≡ Some (cast_signed w32 (slice_index_or f.registers i null))
      by s st fr there found =
          let run : Run found.0 ≡ Run fr = same_Some (Run found.0) (Run fr) (sym found.1 ∙ there) in
          let same : SameFrame f fr = subst (λ (o : Option Task). by_frame o) there (subst (λ (o : Option Task). by_frame o) (sym found.1) found.2) in
          let kind = kind_there p st.typing st.sound.strongest f.method f.place method sh shape in
          let typed : shape_at st.typing fr.method fr.place ≡ Some kind.0 =
          ap (λ n. shape_at st.typing n fr.place) (sym same.method) ∙ ap (λ n. shape_at st.typing f.method n) (sym same.place) ∙ kind.1 in
          let parts = parted s.tasks k (Run fr) there in
          let some = has_word s st k i fr kind.0 typed (kind.2 i ∙ is) parts.0 parts.1 parts.2 in
          let word_here = word_there s.tasks k i ∙ ap (λ o. word_over o i) there in
          let shows = subst (λ w. Represents (value m (Register k i)) w (held s.cells (Register k i))) word_here (st.agrees.values (Register k i)) in
          word_of_number _ (word fr i) (held s.cells (Register k i)) some (grind (arith, register_value p m k i f held_there))
        where
          by_frame : Option Task → Type 0
          by_frame (Some (Run g)) = SameFrame f g
          by_frame _ = Unit {0}
