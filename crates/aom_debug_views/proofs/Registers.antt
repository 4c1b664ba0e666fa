-- What the strongest abstract state of a frame says of its registers is what they own, also while the frame waits for what stands over it.
use Rattle.std.proofs.lemmas.Bool.Decides.{nat_tests}
use Rattle.std.proofs.Common.{arith, ◌≡◌, ◌∙◌, ℕ, suc, Bool, true, false, List, [], ◌∷◌, Option, Some, None, IsSome, inr, slice_index_or}
use Rattle.std.proofs.Common.{refl, sym, ap}
use Rattle.std.specs.Prelude.{◌⊎◌, is_some}
use Rattle.std.proofs.lemmas.Bool.{eqb-true}
use Rattle.std.proofs.lemmas.Option.{none-some}
use Rattle.aom_image.specs.Image.{Image}
use Rattle.aom_image.specs.Views.{arguments_of, instr_at, method_at, method_class}
use Rattle.aom_image.specs.declared.method.Argument.{Argument}
use Rattle.aom_image.specs.declared.method.Argument.TheVariants.{Word as A_word, Own as An_own}
use Rattle.aom_instructions.specs.declared.instr.Instr.{Instr}
use Rattle.aom_instructions.specs.declared.instr.Target.{Target}
use Rattle.aom_cells.specs.Heap.{null}
use Rattle.aom_debug_views.proofs.LinkConditionsLemmas.{of_method}
use Rattle.aom_frames.specs.declared.frame.Frame.{Frame as Machine_frame}
use Rattle.aom_frames.specs.declared.task.Task.TheVariants.{Run as Runs_frame}
use Rattle.aom_typing_rules.specs.Calls.{while_called}
use Rattle.aom_typing_rules.specs.Ways.{News}
use Rattle.aom_typing_rules.specs.Ways.{Ways}
use Rattle.aom_abstract_state.specs.Arguments.{arguments_moved}
use Rattle.aom_abstract_state.specs.Kinds.{is_object_or_null, is_unowning, made_ready, register, set_register}
use Rattle.aom_abstract_state.specs.Order.{IsImpliedBy, Weaker, alike, maybe_null, maybe_own, unset_null, unset_word}
use Rattle.aom_abstract_state.specs.AbstractState.{AbstractState}
use Rattle.aom_abstract_state.specs.declared.kind.Kind.{Kind}
use Rattle.aom_abstract_state.specs.declared.kind.Kind.TheVariants.{Maybe, Null, Own, Unset}
use Rattle.aom_semantics.specs.Owned.{over}
use Rattle.aom_semantics.specs.Places.{Object, Register, held}
use Rattle.aom_semantics.specs.State.{Frame, Run, State, Task}
use Rattle.aom_debug_views.proofs.SemanticsLemmas.{at-set_extending}
use Rattle.aom_static_bounds.specs.Strongest.{IsShapeAt}
use Rattle.aom_machine_state.specs.declared.parts.Parts.{Parts}
use Rattle.aom_machine_state.specs.Agrees.{SameFrame, number}
use Rattle.aom_machine_state.specs.Places.{value}
use Rattle.aom_machine_state.specs.Stands.{MachineModel, Stands, Refines}
use Rattle.aom_machine_state.specs.Waits.{waiting_by, waiting_for, while_waiting}
use Rattle.aom_machine.specs.Agreement.{AgreesInAll, NumberSays, RegistersAgree, state_under}
use Rattle.aom_debug_views.specs.Owners.{ShowsAll, ShowsIf, may_own}
use Rattle.aom_debug_views.proofs.Tasks.{frame_there, parted, register_value}

-- ---- a frame that waits: what a register may own is what it may own at its place, or gone

abbrev Keeps : Kind → Kind → Type 0
Keeps k k' = (k' ≡ Null) ⊎ (made_ready k' ≡ made_ready k)

made_ready_null : (k : Kind) → made_ready k ≡ Null → k ≡ Null
made_ready_null k is = grind arith

made_ready_twice : (k : Kind) → made_ready (made_ready k) ≡ made_ready k
made_ready_twice x = grind arith

keeps_on : (a b c : Kind) → Keeps a b → Keeps b c → Keeps a c
keeps_on a b c first x = grind (arith, nat_tests, made_ready_null c)

keeps_set : (sh : AbstractState) (r j : ℕ) (k : Kind) → Keeps (register sh r) k → Keeps (register sh j) (register (set_register sh r k) j)
keeps_set sh r j k keeps = grind (arith, nat_tests, at-set_extending Unset sh.registers r j k, eqb-true r j)

moved_keeps : (xs : List Argument) (first j : ℕ) (sh : AbstractState) → Keeps (register sh j) (register (arguments_moved xs first sh) j)
moved_keeps [] first j sh = inr refl
moved_keeps (A_word ∷ xs) first j sh = moved_keeps xs (suc first) j sh
moved_keeps (An_own t ∷ xs) first j sh = grind (arith, keeps_set sh first j Null, moved_keeps xs)

called_keeps : (target : Target) (class : Option ℕ) (ended j : ℕ) (sh : AbstractState) → Keeps (register sh j) (register (while_called target class ended sh) j)
called_keeps x class ended j sh = grind (arith, nat_tests, keeps_set sh, made_ready_twice)

module _ (p : Image) (j : ℕ) (sh : AbstractState) where
  call_keeps : (target : Target) (m first ended : ℕ) →
      Keeps (register sh j) (register (while_called target (method_class p m) ended (arguments_moved (arguments_of p m) first sh)) j)
  call_keeps target m first ended = grind (arith, nat_tests, keeps_on, moved_keeps, called_keeps target)

  news_keep : (news : News) → Keeps (register sh j) (register (waiting_for p news sh) j)
  news_keep x = grind (arith, nat_tests, call_keeps, keeps_set sh)

  ways_keep : (ways : Ways) → Keeps (register sh j) (register (waiting_by p ways sh) j)
  ways_keep x = grind (arith, nat_tests, news_keep)

  waiting_keeps : (i : Option Instr) → Keeps (register sh j) (register (while_waiting p i sh) j)
  waiting_keeps x = grind (arith, nat_tests, ways_keep)

state_keeps : (p : Image) (above : List Task) (fr : Frame) (sh : AbstractState) (j : ℕ) → Keeps (register sh j) (register (state_under p above fr sh) j)
state_keeps p [] fr sh j = inr refl
state_keeps p (task ∷ above) fr sh j = waiting_keeps p j sh (instr_at p fr.method fr.place)

-- ---- what a kind says of a register's number

made_ready_object : (k : Kind) → is_object_or_null (made_ready k) ≡ is_object_or_null k
made_ready_object x = grind arith

made_ready_none : (k : Kind) → is_unowning (made_ready k) ≡ is_unowning k
made_ready_none x = grind arith

keeps_object : (a b : Kind) → Keeps a b → is_object_or_null a ≡ true → is_object_or_null b ≡ true
keeps_object a b x is = grind (arith, nat_tests, made_ready_object b, made_ready_object a)

keeps_none : (a b : Kind) → Keeps a b → is_unowning a ≡ true → is_unowning b ≡ true
keeps_none a b x is = grind (arith, nat_tests, made_ready_none b, made_ready_none a)

-- the state that says no more says of each register whether it may own
weaker_owns : (a b : Kind) → Weaker a b → (may_own a ≡ true → is_object_or_null b ≡ true) × (may_own a ≡ false → is_unowning b ≡ true)
weaker_owns (Own t x) _ alike = (λ is. refl, λ is. cc)
weaker_owns (Maybe t x) _ alike = (λ is. refl, λ is. cc)
weaker_owns _ _ alike = (λ is. cc, λ is. refl)
weaker_owns _ _ unset_word = (λ is. cc, λ is. refl)
weaker_owns _ _ unset_null = (λ is. refl, λ is. refl)
weaker_owns _ _ maybe_null = (λ is. refl, λ is. cc)
weaker_owns _ _ maybe_own = (λ is. refl, λ is. cc)

number_shown : (p : Image) (k : Kind) (n : ℕ) (o : Option Object) → is_object_or_null k ≡ true → NumberSays p k n o → n ≡ number o
number_shown p x n o is says = grind arith

none_shown : (p : Image) (k : Kind) (n : ℕ) (o : Option Object) → is_unowning k ≡ true → NumberSays p k n o → o ≡ None
none_shown p x n o is says = grind arith

-- ---- the registers of a frame

module _ (p : Image) (m : Parts) (agrees : AgreesInAll (record { image = p; parts = m })) where
  abbrev M : MachineModel
  M = record { image = p; parts = m }

  -- the agreement of a frame that stands at a depth
  agreed : (s : State) (st : Refines M s) (k : ℕ) (fr : Frame) → over s.tasks k ≡ Some (Run fr) →
      (above : List Task) × RegistersAgree p (agrees s st).typing m s above fr k
  agreed s st k fr there = grind (arith, nat_tests, parted s.tasks k (Run fr) there)

  -- its method is there
  pub frame_method : Stands M → (k : ℕ) (f : Machine_frame) → over m.stack.tasks k ≡ Some (Runs_frame f) → IsSome (method_at p f.method)
  frame_method stands k f there =
      let fr = frame_there p m stands.0 stands.1 k f there in
      method_there stands.0 stands.1 k f fr.0 fr.1 fr.2
    where
      method_there : (s : State) → Refines M s → (k : ℕ) (f : Machine_frame) (fr : Frame) → over s.tasks k ≡ Some (Run fr) → SameFrame f fr →
          IsSome (method_at p f.method)
      method_there s st k f fr there same =
          let a = agreed s st k fr there in
          let passes = (agrees s st).strongest.typed.each fr.method fr.place a.1.shape a.1.typed in
          let found = of_method p fr.method fr.place passes.instr passes.stands in
          ap (λ n. is_some (method_at p n)) same.method ∙ ap is_some found.1

  -- the strongest state of its place says no more than the state that agrees
  reached : (s : State) (st : Refines M s) (k : ℕ) (f : Machine_frame) (fr : Frame) (found : Option AbstractState) →
      over s.tasks k ≡ Some (Run fr) → SameFrame f fr → IsShapeAt p f.method f.place found →
      (above : List Task) × (agree : RegistersAgree p (agrees s st).typing m s above fr k) × (next : AbstractState) × (found ≡ Some next) × IsImpliedBy next agree.shape
  reached s st k f fr found there same shape =
      let a = agreed s st k fr there in
      let passes = (agrees s st).strongest.typed.each fr.method fr.place a.1.shape a.1.typed in
      let method = of_method p fr.method fr.place passes.instr passes.stands in
      let here = (agrees s st).strongest.each fr.method (ap is_some method.1) in
      let at_frame : IsShapeAt p fr.method fr.place found = grind (arith, nat_tests) in
      let meets = (here.least at_frame.states at_frame.strongest.typed).each fr.place a.1.shape a.1.typed in
      (a.0, a.1, meets.next, at_frame.there ∙ meets.there, meets.implied)

  -- no frame stands where none is reached
  pub is_reached : (s : State) → Refines M s → (k : ℕ) (f : Machine_frame) → over m.stack.tasks k ≡ Some (Runs_frame f) → IsShapeAt p f.method f.place None → ⊥
  is_reached s st k f there shape =
      let fr = frame_there p m s st k f there in
      let r = reached s st k f fr.0 None fr.1 fr.2 shape in
      none-some r.2 r.3

  register_kind : (s : State) (st : Refines M s) (k i : ℕ) (f : Machine_frame) (sh : AbstractState) → over m.stack.tasks k ≡ Some (Runs_frame f) →
      IsShapeAt p f.method f.place (Some sh) → (kept : Kind) × ((may_own (register sh i) ≡ true → is_object_or_null kept ≡ true) ×
      (may_own (register sh i) ≡ false → is_unowning kept ≡ true)) × NumberSays p kept (value m (Register k i)) (held s.cells (Register k i))
  register_kind s st k i f sh there shape =
      let fr = frame_there p m s st k f there in
      let r = reached s st k f fr.0 (Some sh) fr.1 fr.2 shape in
      let weaker : Weaker (register sh i) (register r.1.shape i) = grind arith in
      let keeps = state_keeps p r.0 fr.0 r.1.shape i in
      let owns = weaker_owns (register sh i) (register r.1.shape i) weaker in (
        register (state_under p r.0 fr.0 r.1.shape) i,
        (λ is. keeps_object (register r.1.shape i) _ keeps (owns.0 is), λ is. keeps_none (register r.1.shape i) _ keeps (owns.1 is)),
        r.1.registers i,
      )

  -- so each register is shown, or owns nothing
  pub frame_shown : (k : ℕ) (f : Machine_frame) (sh : AbstractState) → over m.stack.tasks k ≡ Some (Runs_frame f) → IsShapeAt p f.method f.place (Some sh) →
      ShowsAll M sh f.registers k
  frame_shown k f sh there shape = record { each = λ i. by_kind i (may_own (register sh i)) refl }
    where
      by_kind : (i : ℕ) (b : Bool) → may_own (register sh i) ≡ b → ShowsIf b M (slice_index_or f.registers i null) (Register k i)
      by_kind i true is = record {
        each = λ s st.
            let kind = register_kind s st k i f sh there shape in
            sym (register_value p m k i f there) ∙ number_shown p kind.0 (value m (Register k i)) (held s.cells (Register k i)) (kind.1.0 is) kind.2;
      }
      by_kind i false is = record {
        each = λ s st.
            let kind = register_kind s st k i f sh there shape in
            none_shown p kind.0 (value m (Register k i)) (held s.cells (Register k i)) (kind.1.1 is) kind.2;
      }
