-- What the price of each instruction's place covers: that of the place at which its method goes on, and what begins or is pushed.
use Rattle.std.proofs.lemmas.Bool.Decides.{nat_tests}
use Rattle.std.proofs.lemmas.Option.{slice_get_within}
use Rattle.std.proofs.Common.{inr, inl, ◌≡◌, ◌≤◌, ◌+◌, ◌-◌, ℕ, ℤ, suc, Bool, true, false, cond, List}
use Rattle.std.proofs.Common.{[], ◌∷◌, ◌++◌, ◌==◌, Option, Some, None, refl, sym, ap, subst, arith}
use Rattle.std.specs.Prelude.{bit_and, is_some}
use Rattle.aom_image.specs.Image.{Image}
use Rattle.aom_instructions.specs.declared.instr.Instr.{Instr}
use Rattle.aom_instructions.specs.declared.instr.Instr.TheVariants.{Mul}
use Rattle.aom_image.specs.Views.{method_at, method_class, method_role}
use Rattle.aom_image.specs.declared.method.Role.TheVariants.{Main}
use Rattle.aom_image.specs.declared.method.Thing.{Thing}
use Rattle.aom_roles.specs.Tests.{AllTrue}
use Rattle.aom_link_conditions.specs.Loops.{loop_in, next_in}
use Rattle.aom_roles.specs.Things.{field_thing, holder_of}
use Rattle.aom_abstract_state.specs.Kinds.{field, filled, is_object_or_null, register}
use Rattle.aom_termination.proofs.InstructionsLemmas.{loop_is, next_is}
use Rattle.aom_termination.proofs.StaticBoundsLemmas.{by_kind, call_paid, cancel_paid, run_has}
use Rattle.aom_link_conditions.specs.Overriding.{body_of}
use Rattle.aom_termination.proofs.InheritanceLemmas.{body_runs, overrides_there}
use Rattle.aom_roles.specs.Kinds.{is_active_kind, is_listed_kind}
use Rattle.aom_roles.specs.States.{unlisted}
use Rattle.aom_abstract_state.specs.Needs.{Flow}
use Rattle.aom_typing_rules.specs.Objects.{flow_jump_empty, flow_jump_null}
use Rattle.aom_typing_rules.specs.Requests.{enlisted, flow_narrowed, inactive, outstanding, own_kind}
use Rattle.aom_typing_rules.specs.Rules.{flows, rule_needs}
use Rattle.aom_abstract_state.specs.AbstractState.{AbstractState}
use Rattle.aom_typing_rules.specs.Typing.{Typing}
use Rattle.aom_abstract_state.specs.declared.kind.FieldState.{FieldState}
use Rattle.aom_abstract_state.specs.declared.kind.Kind.{Kind}
use Rattle.aom_termination.proofs.SafetyLemmas.{At, active_listed, busy_in, cancel_family, field_fits, free_in, receiver_conforms_field, kind_fits, listed_in, not_empty}
use Rattle.aom_termination.proofs.SafetyLemmas.{not_full, some_left, unlisted_in}
use Rattle.aom_safety.specs.Claims.{Layer, tasks_of}
use Rattle.aom_semantics.specs.Effects.{Calls, Cancels, Destroys, Destroys_last, Effect, Goes_on, Jumps, Leaves, Operates, Pushed, Pushed_operation}
use Rattle.aom_semantics.specs.Effects.{Returns, Sets_trap, Update, cancels_if, deals, deletes, effect, jumps_if, jumps_unless, round}
use Rattle.aom_semantics.specs.Requests.{cancel_method, in_phase, is_active, is_busy, own_request}
use Rattle.aom_semantics.specs.Places.{Object, held, seen}
use Rattle.aom_semantics.specs.State.{Choice, Frame, Item, State, Task, counter, field_place}
use Rattle.aom_safety.specs.WellTyped.{Fits}
use Rattle.aom_semantics.specs.Words.{here}
use Rattle.aom_static_bounds.specs.Prices.{AllPaid, IsPriced, Prices, Stands, call_price, cancel_price, kind_price, own, price}

-- what a call runs costs no more than the call pays
pub body_paid : (p : Image) (c : Prices) (m : ℕ) (view : Option ℕ) → price c (body_of p m view) ≤ call_price p c m
unfolding method_at
body_paid p c m view = elim (body_runs p m view) [
  | inl same ↦ let e = ap (price c) same in omega (arith, e, call_paid p c m)
  | inr over ↦ let k = overrides_there p (body_of p m view) m over in
      run_has p (price c) m (body_of p m view) (inr over) (slice_get_within p.methods (body_of p m view) k.0 k.1)
]

module _ (p : Image) (c : Prices) (fr : Frame) (sh : AbstractState) where
  -- at its place the method has so much for what comes at once, and the price of the place at which it goes on
  abbrev pub Affords : ℕ → ℕ → Type 0
  Affords n to = n + c.from fr.method to ≤ c.from fr.method fr.place

  -- what an update pushes
  abbrev pub pushes : Update → ℕ
  pushes (Pushed a) = kind_price c (register sh a)
  pushes (Pushed_operation m w) = price c m
  pushes _ = 0

  -- what an effect asks of the place's price; loops are paid for by their own rule
  abbrev pub Covers : Effect → Type 0
  Covers (Goes_on change) = Affords (1 + pushes change.update) (suc fr.place)
  Covers (Jumps to) = Affords 1 to
  Covers (Calls target m first) = Affords (1 + call_price p c m) (suc fr.place)
  Covers (Cancels m) = Affords (1 + price c m) (suc fr.place)
  Covers (Sets_trap target m first) = Affords (1 + call_price p c m) (suc fr.place)
  Covers (Returns g a) = 1 ≤ c.from fr.method fr.place
  Covers (Leaves code u) = 1 + pushes u ≤ c.from fr.method fr.place
  Covers (Destroys o a words) = Affords (1 + kind_price c (register sh a)) (suc fr.place)
  Covers (Destroys_last o) = Affords 1 (suc fr.place)
  Covers (Operates m w) = Affords 1 (suc fr.place)
  Covers _ = Unit {0}

  branches : (b : Bool) (to : ℕ) → Affords 1 (suc fr.place) → Affords 1 to → Covers (jumps_if fr b to)
  branches x to on away = grind arith

  either : (b : Bool) (code : ℤ) (off : Update) (on : Effect) → Covers (Leaves code off) → Covers on → Covers (cond b (Leaves code off) on)
  either x code off on y z = grind arith

  rounding : (n depth to : ℕ) → Covers (round n depth to)
  rounding x depth to = grind arith

  deleting : (o : Option Object) (a : ℕ) → Affords (1 + kind_price c (register sh a)) (suc fr.place) → Covers (deletes fr o a)
  deleting x a pays = grind arith

  dealing : (items : List Item) (o : Option Object) → Affords 1 (suc fr.place) → Covers (deals fr items o)
  dealing x o pays = grind arith

module _ (p : Image) (t : Typing) (c : Prices) (main_none : (m : ℕ) → method_role p m ≡ Some Main → own_kind p m ≡ None)
    (priced : IsPriced p t c) (ch : Choice) (s : State) (fr : Frame) (sh : AbstractState) (ls : List Layer) (has_task : At p t s fr sh ls) where
  abbrev ts : List Task
  ts = tasks_of ls

  -- ---- jumps on what a register or a field holds: the flow that is taken is one of the typing's

  on_null : (a to : ℕ) (k : Kind) (o : Option Object) → is_object_or_null k ≡ true → AllPaid c fr.method 1
      (c.from fr.method fr.place) (flow_jump_null p fr.method fr.place sh k a to) → Fits p (seen s.cells) o k → Covers p c fr sh (jumps_unless fr o to)
  on_null a to x o need pays fits = grind arith

  on_empty : (f to : ℕ) (x : Option Thing) → is_some x ≡ true → (y : FieldState) (o : Option Object) → AllPaid c fr.method 1 (c.from fr.method fr.place)
      (flow_jump_empty p fr.method fr.place sh y f to) → Fits p (seen s.cells) o (filled x y) → Covers p c fr sh (jumps_unless fr o to)
  on_empty f to x some y z pays fits = grind (arith, nat_tests, not_empty, not_full)

  -- ---- jumps on the state of a request

  paid_first : (n here : ℕ) (xs ys : List Flow) → AllPaid c fr.method n here (xs ++ ys) → AllPaid c fr.method n here xs
  paid_first n here [] ys pays = tt
  paid_first n here (x ∷ xs) ys pays = (pays.0, paid_first n here xs ys pays.1)

  paid_rest : (n here : ℕ) (xs ys : List Flow) → AllPaid c fr.method n here (xs ++ ys) → AllPaid c fr.method n here ys
  paid_rest n here [] ys pays = pays
  paid_rest n here (x ∷ xs) ys pays = paid_rest n here xs ys pays.1

  on_states : (there here to : ℕ) (b : Bool) → (b ≡ true → (bit_and sh.states there == 0) ≡ false) → (b ≡ false → (bit_and sh.states here == 0) ≡ false) →
      AllPaid c fr.method 1 (c.from fr.method fr.place) (flow_narrowed sh (suc fr.place) here ++ flow_narrowed sh to there) →
      Covers p c fr sh (jumps_if fr b to)
  on_states there here to x some_there some_here pays = grind (arith, nat_tests, paid_rest, paid_first)

  -- ---- a cancel

  -- the method that cancels is one that the price counts
  cancel_counted : (m : ℕ) → cancel_method p fr ≡ Some m → price c m ≤ cancel_price p c (method_class p fr.method)
  cancel_counted m e = grind (arith, nat_tests, cancel_family p fr m has_task.good.stack.1.view e, cancel_paid p c)

  on_cancel : (b : Bool) (x : Option ℕ) → cancel_method p fr ≡ x →
      1 + cancel_price p c (method_class p fr.method) + c.from fr.method (suc fr.place) ≤ c.from fr.method fr.place → Covers p c fr sh (cancels_if fr b x)
  on_cancel x y e pays = grind (arith, nat_tests, cancel_counted)

  -- ---- every instruction

  abbrev StandsHere : Instr → Type 0
  StandsHere i = Stands p t fr.method fr.place sh i

  paid : (i : Instr) → StandsHere i → loop_in (Some i) ≡ None → next_in (Some i) ≡ None →
      AllPaid c fr.method (own p fr.method c sh i) (c.from fr.method fr.place) (flows p fr.method fr.place sh i)
  paid i it straight no_next = priced.flows fr.method fr.place sh i it straight no_next

  some : (i : Instr) → StandsHere i → own p fr.method c sh i ≤ c.from fr.method fr.place
  some i it = priced.ends fr.method fr.place sh i it

  -- a jump by whether its request is active, or is there
  on_busy : (to : ℕ) → is_active_kind (own_kind p fr.method) ≡ true →
      AllPaid c fr.method 1 (c.from fr.method fr.place) (flow_narrowed sh (suc fr.place) inactive ++ flow_narrowed sh to outstanding) →
      Covers p c fr sh (jumps_if fr (in_phase is_busy (own_request s.cells fr.receiver)) to)
  on_busy to active pays =
      let r = own_request s.cells fr.receiver in
      let left = some_left p t main_none ch s fr sh ls has_task (active_listed (own_kind p fr.method) active) in
      on_states outstanding inactive to (in_phase is_busy r) (λ e. left outstanding (busy_in r e)) (λ e. left inactive (free_in r e)) pays

  on_listed : (to : ℕ) → is_listed_kind (own_kind p fr.method) ≡ true → AllPaid c fr.method 1 (c.from fr.method fr.place)
      (flow_narrowed sh (suc fr.place) unlisted ++ flow_narrowed sh to enlisted) → Covers p c fr sh (jumps_if fr (is_some (own_request s.cells fr.receiver)) to)
  on_listed to listed pays =
      let r = own_request s.cells fr.receiver in
      let left = some_left p t main_none ch s fr sh ls has_task listed in
      on_states enlisted unlisted to (is_some r) (λ e. left enlisted (listed_in r e)) (λ e. left unlisted (unlisted_in r e)) pays

  -- a jump by what a field has
  on_field : (f to : ℕ) → is_some (field_thing p (holder_of p fr.method) f) ≡ true → AllPaid c fr.method 1 (c.from fr.method fr.place)
      (flow_jump_empty p fr.method fr.place sh (field sh f) f to) → Covers p c fr sh (jumps_unless fr (held s.cells (field_place fr.receiver f)) to)
  on_field f to some pays = grind (arith, nat_tests, receiver_conforms_field p, on_empty f to, field_fits p t ch s fr sh ls has_task f some)

  cancelled : 1 + cancel_price p c (method_class p fr.method) + c.from fr.method (suc fr.place) ≤ c.from fr.method fr.place →
      Covers p c fr sh (cancels_if fr (in_phase is_active (own_request s.cells fr.receiver)) (cancel_method p fr))
  cancelled = on_cancel (in_phase is_active (own_request s.cells fr.receiver)) (cancel_method p fr) refl

  -- one that begins no loop and ends no round
  covers_plain : (i : Instr) → StandsHere i → AllTrue (rule_needs p fr.method fr.place sh i) → loop_in (Some i) ≡ None → next_in (Some i) ≡ None →
      Covers p c fr sh (effect p ch fr ts s i)
  unfolding loop_in next_in
  covers_plain (Mul a b x) it rule none no_next = grind (arith, nat_tests, paid (Mul a b x) it)
  covers_plain i it rule none no_next = first_of (
    grind (arith, nat_tests, paid i it, either p c fr sh, some i it, deleting p c fr sh, dealing p c fr sh, branches p c fr sh),
    grind (arith, nat_tests, paid i it, on_busy, on_listed, cancelled),
    grind (arith, nat_tests, paid i it, on_null, kind_fits p t ch s fr sh ls has_task),
    grind (arith, nat_tests, paid i it, on_field),
  )

  abbrev Covered : Instr → Type 0
  Covered j = Covers p c fr sh (effect p ch fr ts s j)

  pub covers : (i : Instr) → StandsHere i → AllTrue (rule_needs p fr.method fr.place sh i) → Covers p c fr sh (effect p ch fr ts s i)
  covers i it rule = by_kind (Covered i) i (covers_plain i it rule) (λ d n is. subst Covered (sym (loop_is i d n is)) tt)
      (λ d to is. subst Covered (sym (next_is i d to is)) (rounding p c fr sh (counter fr d - 1) d to))
