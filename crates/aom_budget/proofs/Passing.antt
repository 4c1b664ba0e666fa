-- One place more of a pass: tables that agree with what is found there too are swept there too.
use Rattle.std.proofs.lemmas.Bool.Decides.{nat_tests}
use Rattle.std.proofs.Common.{◌≡◌, ◌≢◌, ℕ, suc, ◌<◌, ◌≤◌, ◌+◌, List, [], ◌∷◌, ◌++◌, map, Option, Some, None, IsSome, inl, inr, refl, sym, ap, ◌∙◌, subst, arith}
use Rattle.std.proofs.lemmas.Bool.Decides.{eqb_tells}
use Rattle.std.specs.Prelude.{bit_and}
use Rattle.aom_image.specs.Image.{Image}
use Rattle.aom_image.specs.Views.{method_class}
use Rattle.aom_instructions.specs.declared.instr.Instr.{Instr}
use Rattle.aom_image.specs.declared.method.Thing.{Thing}
use Rattle.aom_link_conditions.specs.Bodies.{Body, IsLooped}
use Rattle.aom_abstract_state.specs.Kinds.{register}
use Rattle.aom_abstract_state.specs.Needs.{Flow}
use Rattle.aom_typing_rules.specs.Objects.{flow_jump_null, flow_jump_empty}
use Rattle.aom_typing_rules.specs.Requests.{flow_narrowed}
use Rattle.aom_typing_rules.specs.Rules.{rule_needs, flows}
use Rattle.aom_abstract_state.specs.AbstractState.{AbstractState}
use Rattle.aom_roles.specs.Tables.{at}
use Rattle.aom_typing_rules.specs.Typing.{Typing, shape_at}
use Rattle.aom_abstract_state.specs.declared.kind.FieldState.{FieldState}
use Rattle.aom_abstract_state.specs.declared.kind.Kind.{Kind}
use Rattle.aom_abstract_state.specs.declared.kind.Kind.TheVariants.{Unset, Word, Null, Own, Maybe}
use Rattle.aom_static_bounds.specs.Shapes.{Shapes}
use Rattle.aom_static_bounds.specs.Calls.{Among, bodies, cancels, listed, thing_class, object_class, destructors, called_for, callees}
use Rattle.aom_static_bounds.specs.Most.{most_run}
use Rattle.aom_budget.proofs.StaticBoundsLemmas.{IsSweptAt, at_each, below_lists, below_related, by_flow, ends_before, from_each, going_same, innermost_of_body}
use Rattle.aom_budget.proofs.StaticBoundsLemmas.{max_same, run_among, run_related, runs_among}
use Rattle.aom_image.specs.declared.method.Role.TheVariants as roles
use Rattle.aom_link_conditions.specs.Roles.{role_of}
use Rattle.aom_static_bounds.specs.Charges.{Charge, No_charge, A_call, An_operation, A_destruction, A_cancel, charge_of}
use Rattle.aom_static_bounds.specs.Prices.{Prices, charge_price, call_price, cancel_price, price, kind_price, own, perhaps_price}
use Rattle.aom_static_bounds.specs.Costs.{AmongFlows, Region, Whole, Round, destructor_price}
use Rattle.aom_static_bounds.specs.Sweeping.{LoopExits, IsInnermost, IsSweptFrom, all_going, most_within}
use Rattle.aom_budget.specs.Pricing.{kept, charge_by, cancel_by, price_by, destruction_by, kind_by, own_by, null_targets, empty_targets, states_targets}
use Rattle.aom_budget.specs.Pricing.{targets_of, most_to, after_in, Found, Agrees, IsPassed}
use Rattle.aom_budget.proofs.ImageLemmas.{some_given}
use Rattle.aom_roles.specs.Tests.{AllTrue}

-- ---- targets

abbrev pub targets : List Flow → List ℕ
targets ways = map (λ way. way.0) ways

null_same : (p : Image) (m place : ℕ) (sh : AbstractState) (k : Kind) (a to : ℕ) → null_targets (suc place) k to ≡ targets (flow_jump_null p m place sh k a to)
null_same p m place sh x a to = grind arith

empty_same : (p : Image) (m place : ℕ) (sh : AbstractState) (x : FieldState) (f to : ℕ) → empty_targets (suc place) x to ≡ targets (flow_jump_empty p m place sh x f to)
empty_same p m place sh x f to = grind arith

states_same : (sh : AbstractState) (next here to there : ℕ) →
    states_targets next (bit_and sh.states here) to (bit_and sh.states there) ≡ targets (flow_narrowed sh next here ++ flow_narrowed sh to there)
states_same sh next here to there = grind (arith, nat_tests)

pub targets_same : (p : Image) (m place : ℕ) (sh : AbstractState) (i : Instr) → AllTrue (rule_needs p m place sh i) →
    targets_of p place sh i ≡ targets (flows p m place sh i)
targets_same p m place sh x needs = grind (arith, nat_tests, null_same p m place sh, empty_same p m place sh, states_same sh)

pub among_flows : (to : ℕ) (fs : List Flow) → Among to (targets fs) → AmongFlows to fs
among_flows to [] h = absurd h
among_flows to (f ∷ fs) (inl e) = inl (sym e)
among_flows to (f ∷ fs) (inr h) = inr (among_flows to fs h)

pub flows_among : (to : ℕ) (fs : List Flow) → AmongFlows to fs → Among to (targets fs)
flows_among to fs h = by_flow to (λ gs. Among to (targets gs)) (λ f gs e. inl (sym e)) (λ f gs rest. inr rest) fs h

pub most_same : (c : Prices) (m : ℕ) (r : Region) (from : List ℕ) (fs : List Flow) → ((to : ℕ) → AmongFlows to fs → c.from m to ≡ at 0 from to) →
    most_within c m r fs ≡ most_to from r (targets fs)
most_same c m r from [] same = refl
most_same c m r from (f ∷ fs) same = rw (same f.0 (inl refl), most_same c m r from fs (λ to h. same to (inr h))) refl

-- ---- what an instruction costs

below_first : (o : Option ℕ) (j : ℕ) (rest : List ℕ) → o ≡ Some j → Among j (listed o ++ rest)
below_first o j rest e = subst (λ x. Among j (listed x ++ rest)) (sym e) (inl refl)

below_second : (o : Option ℕ) (j : ℕ) (rest : List ℕ) → Among j rest → Among j (listed o ++ rest)
below_second x j rest h = grind arith

module _ (p : Image) (prices : List ℕ) (m : ℕ) (c : Prices) (lower : (k : ℕ) → k < m → price c k ≡ at 0 prices k) where
  module _ (classes : (x : Thing) → c.destruction x ≡ kept (all_going p (destructor_price c) x)) where
    destruction_same : (x : Thing) → ((j : ℕ) → Among j (destructors p (thing_class x)) → j < m) → c.destruction x ≡ destruction_by p prices x
    destruction_same x below = classes x ∙ ap kept (going_same p (destructor_price c) (price_by prices) refl x (λ j runs. lower j (below j (runs_among p x j runs))))

    kind_same : (k : Kind) → ((j : ℕ) → Among j (destructors p (object_class k)) → j < m) → kind_price c k ≡ kind_by p prices k
    kind_same Unset below = refl
    kind_same Word below = refl
    kind_same Null below = refl
    kind_same (Own t a) below = destruction_same t below
    kind_same (Maybe t a) below = destruction_same t below

    perhaps_same : (o : Option ℕ) → ((j : ℕ) → Among j (listed o) → j < m) → perhaps_price c o ≡ price_by prices o
    perhaps_same None below = refl
    perhaps_same (Some k) below = lower k (below k (inl refl))

    call_same : (k : ℕ) → ((j : ℕ) → Among j (bodies p k) → j < m) → call_price p c k ≡ most_run p (at 0 prices) k
    call_same k below = run_related (λ x y. x ≡ y) refl max_same p (price c) (at 0 prices) k (λ j may. lower j (below j (run_among p k j may)))

    cancel_same : (class : Option ℕ) → ((j : ℕ) → Among j (cancels p class) → j < m) → cancel_price p c class ≡ cancel_by p prices class
    cancel_same None below = refl
    cancel_same (Some x) below =
        below_related (λ a b. a ≡ b) refl max_same p (λ y. perhaps_price c (role_of p y roles.Cancel)) (λ y. price_by prices (role_of p y roles.Cancel)) x
        (λ y h. perhaps_same (role_of p y roles.Cancel) (λ j among. below j (below_lists p (λ z. listed (role_of p z roles.Cancel)) x y j h among)))

    charge_same : (sh : AbstractState) (x : Charge) → ((j : ℕ) → Among j (called_for p m sh x) → j < m) → charge_price p m c sh x ≡ charge_by p m prices sh x
    charge_same sh No_charge below = refl
    charge_same sh (A_call k) below = call_same k below
    charge_same sh (An_operation k) below = lower k (below k (inl refl))
    charge_same sh (A_destruction a) below = kind_same (register sh a) below
    charge_same sh A_cancel below = cancel_same (method_class p m) below

    pub own_same : (sh : AbstractState) (i : Instr) → ((j : ℕ) → Among j (callees p m sh i) → j < m) → own p m c sh i ≡ own_by p m prices sh i
    own_same sh i below = ap (λ n. 1 + n) (charge_same sh (charge_of i) below)

-- ---- tables that agree down to a place agree down to the one after it

pub record Extends (p : Image) (m x : ℕ) (old new : Found) : Type 0 where
  pub from_costs : (y : ℕ) → x < y → at 0 new.from y ≡ at 0 old.from y
  pub loop_exits : (f to d n : ℕ) → x < to → Body p m f to d n → at 0 new.after f ≡ at 0 old.after f

agrees_before : (p : Image) (prices : List ℕ) (m : ℕ) (s : Shapes) (x : ℕ) (old new : Found) (t : Typing) (c : Prices) (a : LoopExits) → Extends p m x old new →
    Agrees p prices m s x new t c a → Agrees p prices m s (suc x) old t c a
agrees_before p prices m s x old new t c a e h = record {
  states = h.states;
  from_costs = λ y after. h.from_costs y (omega (arith, after)) ∙ e.from_costs y after;
  loop_exits = λ f to d n after b. h.loop_exits f to d n (omega (arith, after)) b ∙ e.loop_exits f to d n after b;
  rounds = h.rounds;
  lower = h.lower;
  classes = h.classes;
}

later : (x y : ℕ) → x ≤ y → y ≢ x → suc x ≤ y
later x y le differs = omega (arith, le, differs)

swept_more : (p : Image) (t : Typing) (c : Prices) (a : LoopExits) (m x : ℕ) → IsSweptFrom kept p t c a m (suc x) → IsSweptAt kept p t c a m x →
    IsSweptFrom kept p t c a m x
swept_more p t c a m x h here = from_each kept p t c a m x (λ y le. elim (eqb_tells y x) [
  | inl w ↦ rw w.1 here
  | inr w ↦ at_each kept p t c a m (suc x) h y (later x y le w.1)
])

-- ---- one place more

module _ (p : Image) (prices : List ℕ) (m : ℕ) (s : Shapes) (looped : IsLooped p) (x : ℕ) (old new : Found) (extends : Extends p m x old new)
    (h : IsPassed p prices m s (suc x) old) where
  -- of a region that ends later
  after_same : (r : Region) (y : ℕ) → IsInnermost p m y r → x < y → after_in new.after r ≡ after_in old.after r
  after_same Whole y inner le = refl
  after_same (Round f e) y inner le = extends.loop_exits f e inner.body.0 inner.body.1 (omega (arith, le, inner.inside.1)) inner.body.2

  after_around : (r : Region) (f to d n : ℕ) → IsInnermost p m f r → Body p m f to d n → x < to → after_in new.after r ≡ after_in old.after r
  after_around Whole f to d n inner b le = refl
  after_around (Round g e) f to d n inner b le =
      let ends = ends_before p looped m g e inner.body.0 inner.body.1 f to d n inner.body.2 b inner.inside in
      extends.loop_exits g e inner.body.0 inner.body.1 (omega (arith, le, ends)) inner.body.2

  -- a round is what is found at the body's first place, less what follows
  pub round_found : (t : Typing) (c : Prices) (a : LoopExits) → Agrees p prices m s x new t c a → (to d n : ℕ) → Body p m x to d n →
      IsSome (shape_at t m (suc x)) → c.from m (suc x) ≡ c.round m x + a m x
  round_found t c a agrees to d n b some =
      let inner = innermost_of_body p looped m x to d n b in
      let there : IsSome (at None s (suc x)) = subst (λ y. IsSome (at None y (suc x))) agrees.states some in
      let covered : at 0 old.after x ≤ at 0 old.from (suc x) =
      some_given (λ o. IsSome o) (at None s (suc x)) there (λ none. cc) (λ sh e some_shape. h.covers (suc x) sh (Round x to) (omega arith) e inner) in
      let follows : a m x ≡ at 0 old.after x = agrees.loop_exits x to d n (omega (arith, b.later)) b ∙ extends.loop_exits x to d n b.later b in
      let first : c.from m (suc x) ≡ at 0 old.from (suc x) = agrees.from_costs (suc x) (omega arith) ∙ extends.from_costs (suc x) (omega arith) in
      omega (arith, covered, agrees.rounds x, follows, first)

  pub passed_more : ((t : Typing) (c : Prices) (a : LoopExits) → Agrees p prices m s x new t c a → IsSweptAt kept p t c a m x) →
      ((f d n : ℕ) (r : Region) → Body p m f x d n → IsInnermost p m f r → after_in new.after r ≤ at 0 new.after f) →
      ((sh : AbstractState) (r : Region) → at None s x ≡ Some sh → IsInnermost p m x r → after_in new.after r ≤ at 0 new.from x) → IsPassed p prices m s x new
  passed_more here around covers = record {
    around = λ f to d n r le b inner. elim (eqb_tells to x) [
      | inl w ↦ around f d n r (rw w.1 at b) inner
      | inr w ↦
          let past = later x to le w.1 in
          rw (after_around r f to d n inner b past, extends.loop_exits f to d n past b) (h.around f to d n r past b inner)
    ];
    covers = λ y sh r le there inner. elim (eqb_tells y x) [
      | inl w ↦ rw w.1 (covers sh r (rw w.1 at there) (rw w.1 at inner))
      | inr w ↦
          let past = later x y le w.1 in
          rw (after_same r y inner past, extends.from_costs y past) (h.covers y sh r past there inner)
    ];
    swept = λ t c a agrees. swept_more p t c a m x (h.swept t c a (agrees_before p prices m s x old new t c a extends agrees)) (here t c a agrees);
  }
