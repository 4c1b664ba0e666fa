-- What two tables say of instructions and of flows is related as what they say of methods and of places.
use Rattle.std.proofs.Common.{◌≡◌, ◌+◌, ℕ, Bool, true, false, cond, List, [], ◌∷◌, Option, Some, None, inl, inr, refl}
use Rattle.std.specs.Prelude.{max}
use Rattle.aom_image.specs.Image.{Image}
use Rattle.aom_image.specs.Views.{method_class}
use Rattle.aom_instructions.specs.declared.instr.Instr.{Instr}
use Rattle.aom_image.specs.declared.method.Thing.{Thing}
use Rattle.aom_abstract_state.specs.Kinds.{register}
use Rattle.aom_abstract_state.specs.Needs.{Flow}
use Rattle.aom_abstract_state.specs.AbstractState.{AbstractState}
use Rattle.aom_abstract_state.specs.declared.kind.Kind.{Kind}
use Rattle.aom_abstract_state.specs.declared.kind.Kind.TheVariants.{Maybe, Null, Own, Unset, Word}
use Rattle.aom_static_bounds.specs.Charges.{Charge, No_charge, A_call, An_operation, A_destruction, A_cancel, charge_of}
use Rattle.aom_static_bounds.specs.Prices.{Prices, charge_price, call_price, cancel_price, kind_price, own, perhaps_price, price}
use Rattle.aom_static_bounds.specs.Costs.{AmongFlows, Region}
use Rattle.aom_static_bounds.specs.Layers.{Cancelled, Destructs, KindDestructs, MayRun, Pays, PaysFor}
use Rattle.aom_image.specs.declared.method.Role.TheVariants.{Cancel as Cancels}
use Rattle.aom_link_conditions.specs.Roles.{role_of}
use Rattle.aom_static_bounds.proofs.Maxima.{below_related, run_related}
use Rattle.aom_static_bounds.specs.Sweeping.{is_past, most_within}

module _ (R : ℕ → ℕ → Type 0) (none : R 0 0) (p : Image) (c d : Prices) where
  -- where sums with 1 are related, and destructions as the prices of the destructors that run
  module _ (more : (x y : ℕ) → R x y → R (1 + x) (1 + y)) (maxima : (x y z w : ℕ) → R x y → R z w → R (max x z) (max y w))
      (things : (x : Thing) → ((k : ℕ) → Destructs p x k → R (price c k) (price d k)) → R (c.destruction x) (d.destruction x)) where
    kind_related : (k : Kind) → ((j : ℕ) → KindDestructs p k j → R (price c j) (price d j)) → R (kind_price c k) (kind_price d k)
    kind_related Unset h = none
    kind_related Word h = none
    kind_related Null h = none
    kind_related (Own x g) h = things x h
    kind_related (Maybe x g) h = things x h

    perhaps_related : (o : Option ℕ) → ((k : ℕ) → o ≡ Some k → R (price c k) (price d k)) → R (perhaps_price c o) (perhaps_price d o)
    perhaps_related None h = none
    perhaps_related (Some k) h = h k refl

    cancel_related : (o : Option ℕ) → ((k : ℕ) → Cancelled p o k → R (price c k) (price d k)) → R (cancel_price p c o) (cancel_price p d o)
    cancel_related None h = none
    cancel_related (Some x) h = below_related R none maxima p (λ y. perhaps_price c (role_of p y Cancels)) (λ y. perhaps_price d (role_of p y Cancels)) x
        (λ y descends. perhaps_related (role_of p y Cancels) (λ k is. h k (y, descends, is)))

    call_related : (j : ℕ) → ((k : ℕ) → MayRun p j k → R (price c k) (price d k)) → R (call_price p c j) (call_price p d j)
    call_related j h = run_related R none maxima p (price c) (price d) j h

    -- what it costs that an instruction sets going, and what the instruction costs itself
    charge_related : (m : ℕ) (sh : AbstractState) (x : Charge) → ((k : ℕ) → PaysFor p m sh x k → R (price c k) (price d k)) →
        R (charge_price p m c sh x) (charge_price p m d sh x)
    charge_related m sh No_charge h = none
    charge_related m sh (A_call k) h = call_related k h
    charge_related m sh (An_operation k) h = h k refl
    charge_related m sh (A_destruction r) h = kind_related (register sh r) h
    charge_related m sh A_cancel h = cancel_related (method_class p m) h

    pub own_related : (m : ℕ) (sh : AbstractState) (i : Instr) → ((k : ℕ) → Pays p m sh i k → R (price c k) (price d k)) → R (own p m c sh i) (own p m d sh i)
    own_related m sh i h = more (charge_price p m c sh (charge_of i)) (charge_price p m d sh (charge_of i)) (charge_related m sh (charge_of i) h)

  -- the most over flows, where maxima are related
  module _ (maxima : (x y z w : ℕ) → R x y → R z w → R (max x z) (max y w)) (m : ℕ) (r : Region) where
    pub most_related : (fs : List Flow) → ((to : ℕ) → AmongFlows to fs → R (c.from m to) (d.from m to)) → R (most_within c m r fs) (most_within d m r fs)
    most_related [] h = none
    most_related (f ∷ fs) h = maxima (cond (is_past r f.0) 0 (c.from m f.0)) (cond (is_past r f.0) 0 (d.from m f.0)) (most_within c m r fs)
        (most_within d m r fs) (this (is_past r f.0)) (most_related fs (λ to among. h to (inr among)))
      where
        this : (past : Bool) → R (cond past 0 (c.from m f.0)) (cond past 0 (d.from m f.0))
        this true = none
        this false = h f.0 (inl refl)
