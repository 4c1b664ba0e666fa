-- What was found of each method makes one table, and it says the prices.
use Rattle.std.proofs.lemmas.Bool.Decides.{nat_tests}
use Rattle.std.proofs.Common.{◌≡◌, ℕ, zero, suc, ◌<◌, ◌≤◌, ◌+◌, ◌-◌, ◌⊎◌, ⊎_elim, List, [], ◌∷◌, length, Option, Some, None, IsSome, slice_set, replicate, inl}
use Rattle.std.proofs.Common.{inr, refl, sym, ap, ◌∙◌, subst, arith}
use Rattle.std.proofs.lemmas.Bool.{cases_lt}
use Rattle.std.proofs.lemmas.Bool.Decides.{eqb_tells}
use Rattle.std.proofs.lemmas.List.{length-set, length-replicate}
use Rattle.aom_image.specs.Image.{Image}
use Rattle.aom_image.specs.Views.{instr_at, method_at, method_class}
use Rattle.aom_image.specs.WellFormed.{WellFormed}
use Rattle.aom_instructions.specs.declared.instr.Instr.{Instr}
use Rattle.aom_image.specs.declared.method.Thing.{Thing}
use Rattle.aom_link_conditions.specs.Linked.{IsLinked}
use Rattle.aom_abstract_state.specs.Kinds.{register}
use Rattle.aom_abstract_state.specs.AbstractState.{AbstractState}
use Rattle.aom_roles.specs.Tables.{at}
use Rattle.aom_typing_rules.specs.Typing.{Typing}
use Rattle.aom_abstract_state.specs.declared.kind.Kind.{Kind}
use Rattle.aom_abstract_state.specs.declared.kind.Kind.TheVariants.{Maybe, Own}
use Rattle.aom_budget.proofs.AbstractStateLemmas.{at_set_here, at_set_other}
use Rattle.aom_static_bounds.specs.Shapes.{Shapes}
use Rattle.aom_static_bounds.specs.Strongest.{IsMethodStrongest, IsStrongest}
use Rattle.aom_static_bounds.specs.Charges.{Charge, No_charge, A_call, An_operation, A_destruction, A_cancel, charge_of}
use Rattle.aom_static_bounds.specs.Calls.{Among, object_class, destructors, called_for, callees, CallsAt}
use Rattle.aom_budget.proofs.StaticBoundsLemmas.{cancel_among, from_each, going_same, image_strongest, law_up_to, method_within, nothing_there, run_among}
use Rattle.aom_budget.proofs.StaticBoundsLemmas.{runs_among, standing}
use Rattle.aom_static_bounds.specs.Prices.{Prices}
use Rattle.aom_static_bounds.specs.Costs.{destructor_price}
use Rattle.aom_static_bounds.specs.Layers.{KindDestructs, Pays, PaysFor, PaysBefore}
use Rattle.aom_static_bounds.specs.Sweeping.{LoopExits, IsSweptFrom, IsSweptUpTo, all_going}
use Rattle.aom_budget.specs.Pricing.{kept, Found, Agrees, IsMethodPriced, ArePricedBelow, ArePriced, IsPriceUpTo}
use Rattle.aom_budget.proofs.Keeping.{at_zeros_only}
use Rattle.aom_budget.proofs.Mentioned.{called_lower}
use Rattle.aom_budget.proofs.ImageLemmas.{none_given}

-- ---- a method pays for lower ones

kind_called : (p : Image) (k : Kind) (m : ℕ) → KindDestructs p k m → Among m (destructors p (object_class k))
kind_called p (Own t a) m runs = runs_among p t m runs
kind_called p (Maybe t a) m runs = runs_among p t m runs
kind_called p _ m runs = absurd runs

charge_called : (p : Image) (m : ℕ) (sh : AbstractState) (x : Charge) (k : ℕ) → PaysFor p m sh x k → Among k (called_for p m sh x)
charge_called p m sh No_charge k e = absurd e
charge_called p m sh (A_call called) k e = run_among p called k e
charge_called p m sh (An_operation called) k e = inl (sym e)
charge_called p m sh (A_destruction a) k e = kind_called p (register sh a) k e
charge_called p m sh A_cancel k e = cancel_among p (method_class p m) k e

paid_called : (p : Image) (m : ℕ) (sh : AbstractState) (i : Instr) (k : ℕ) → Pays p m sh i k → Among k (callees p m sh i)
paid_called p m sh i k e = charge_called p m sh (charge_of i) k e

pub pays_before : (p : Image) (t : Typing) → IsLinked p → IsStrongest p t → PaysBefore p t
pays_before p t linked strongest = record {
  each = λ m place k sh i stands e.
      let states = strongest.each m (standing p m place i stands.instr) in
      let calls = paid_called p m sh i k e in
      let call : CallsAt p m (at [] t m) place k = record { shape = sh; there = stands.shape; instr = i; stands = stands.instr; calls = calls } in
      called_lower p m k linked (record { states = at [] t m; strongest = states; place = place; calls = call });
}

-- ---- one table

tabulated : ℕ → (ℕ → Shapes) → Typing
tabulated zero f = []
tabulated (suc n) f = f 0 ∷ tabulated n (λ k. f (suc k))

at_tabulated : (n : ℕ) (f : ℕ → Shapes) (k : ℕ) → k < n → at [] (tabulated n f) k ≡ f k
unfolding tabulated
at_tabulated zero f k below = absurd (omega (arith, below))
at_tabulated (suc n) f zero below = refl
at_tabulated (suc n) f (suc k) below = at_tabulated n (λ j. f (suc j)) k (omega (arith, below))

tabulated_size : (n : ℕ) (f : ℕ → Shapes) → length (tabulated n f) ≡ n
unfolding tabulated
tabulated_size zero f = refl
tabulated_size (suc n) f = ap suc (tabulated_size n (λ k. f (suc k)))

-- what was found of each method, chosen once
record Chosen (p : Image) (prices : List ℕ) (n : ℕ) : Type 0 where
  states : ℕ → Shapes
  found : ℕ → Found
  strongest : (k : ℕ) → k < n → IsMethodStrongest p k (states k)
  is : (k : ℕ) → k < n → at 0 (found k).from 0 ≡ at 0 prices k
  swept : (k : ℕ) → k < n → (t : Typing) (c : Prices) (a : LoopExits) → Agrees p prices k (states k) 0 (found k) t c a → IsSweptFrom kept p t c a k 0

module _ (p : Image) (prices : List ℕ) (n : ℕ) (h : ArePricedBelow p n prices) where
  abbrev states_in : (k : ℕ) → (k < n) ⊎ (n ≤ k) → Shapes
  states_in k (inl w) = (h.each k w).states
  states_in k (inr w) = []

  abbrev found_in : (k : ℕ) → (k < n) ⊎ (n ≤ k) → Found
  found_in k (inl w) = (h.each k w).found
  found_in k (inr w) = record { from = []; after = [] }

  -- what holds as it is found below the number holds
  inside : (k : ℕ) → k < n → (P : (k < n) ⊎ (n ≤ k) → Type 0) → ((w : k < n) → P (inl w)) → P (cases_lt k n)
  inside k below P holds = go (cases_lt k n)
    where
      go : (o : (k < n) ⊎ (n ≤ k)) → P o
      go (inl w) = holds w
      go (inr w) = absurd (omega (arith, below, w))

  chosen : Chosen p prices n
  chosen = record {
    states = λ k. states_in k (cases_lt k n);
    found = λ k. found_in k (cases_lt k n);
    strongest = λ k below. inside k below (λ o. IsMethodStrongest p k (states_in k o)) (λ w. (h.each k w).strongest);
    is = λ k below. inside k below (λ o. at 0 (found_in k o).from 0 ≡ at 0 prices k) (λ w. (h.each k w).is);
    swept = λ k below. inside k below (λ o. (t : Typing) (c : Prices) (a : LoopExits) → Agrees p prices k (states_in k o) 0 (found_in k o) t c a →
        IsSweptFrom kept p t c a k 0) (λ w. (h.each k w).swept);
  }

module _ (p : Image) (prices : List ℕ) (h : Chosen p prices (length p.methods)) (linked : IsLinked p) where
  abbrev typing : Typing
  typing = tabulated (length p.methods) h.states

  typing_strongest : IsStrongest p typing
  typing_strongest = image_strongest p typing (record {
    size = tabulated_size (length p.methods) h.states;
    each = λ m below. subst (λ s. IsMethodStrongest p m s) (sym (at_tabulated (length p.methods) h.states m below)) (h.strongest m below);
  })

  abbrev price_in : Option ℕ → ℕ
  price_in None = 0
  price_in (Some k) = at 0 (h.found k).from 0

  abbrev table : Prices
  table = record {
    from = λ m place. at 0 (h.found m).from place;
    round = λ m from. at 0 (h.found m).from (suc from) - at 0 (h.found m).after from;
    destruction = λ x. kept (all_going p price_in x);
  }

  abbrev loop_exits : LoopExits
  loop_exits = λ m from. at 0 (h.found m).after from

  destructions : (x : Thing) → table.destruction x ≡ kept (all_going p (destructor_price table) x)
  destructions x = ap kept (going_same p price_in (destructor_price table) refl x (λ k runs. refl))

  agrees : (m : ℕ) → m < length p.methods → Agrees p prices m (h.states m) 0 (h.found m) typing table loop_exits
  agrees m below = record {
    states = at_tabulated (length p.methods) h.states m below;
    from_costs = λ place le. refl;
    loop_exits = λ from to d n le b. refl;
    rounds = λ from. refl;
    lower = λ k lt. h.is k (omega (arith, lt, below));
    classes = destructions;
  }

  nothing_past : (m place : ℕ) → length p.methods ≤ m → instr_at p m place ≡ None
  nothing_past m place past = grind (arith, nat_tests, none_given, method_within p m, standing p m place)

  table_swept : IsSweptUpTo 4294967296 p typing table loop_exits
  table_swept = record {
    methods = λ m. ⊎_elim
        (λ (below : m < length p.methods). h.swept m below typing table loop_exits (agrees m below))
        (λ (past : length p.methods ≤ m). from_each kept p typing table loop_exits m 0 (λ place le. nothing_there kept p typing table loop_exits m place (nothing_past m place past)))
        (cases_lt m (length p.methods));
    classes = destructions;
  }

  priced : WellFormed p → ArePriced p prices
  priced formed = record {
    typing = typing;
    strongest = typing_strongest;
    table = table;
    reported = law_up_to 4294967296 p typing table loop_exits formed linked typing_strongest.typed (pays_before p typing linked typing_strongest) table_swept;
    is = λ m some. h.is m (method_within p m some);
  }

pub are_priced : (p : Image) (prices : List ℕ) → WellFormed p → IsLinked p → ArePricedBelow p (length p.methods) prices → ArePriced p prices
are_priced p prices formed linked h = priced p prices (chosen p prices (length p.methods) h) linked formed

-- ---- the walk

pub priced_first : (p : Image) (n : ℕ) → n ≡ length p.methods → ArePricedBelow p 0 (replicate n 0)
priced_first p n e = record { size = length-replicate {A = ℕ} n 0 ∙ e; each = λ m below. absurd (omega (arith, below)); others = λ m past. at_zeros_only n m }

-- a later number is no matter
still_priced : (p : Image) (prices : List ℕ) (m k n v : ℕ) → m ≤ k → IsMethodPriced p prices m n → IsMethodPriced p (slice_set prices k v) m n
still_priced p prices m k n v le h = record {
  states = h.states;
  strongest = h.strongest;
  found = h.found;
  is = h.is;
  swept = λ t c a agrees. h.swept t c a (record {
    states = agrees.states;
    from_costs = agrees.from_costs;
    loop_exits = agrees.loop_exits;
    rounds = agrees.rounds;
    lower = λ j lt. agrees.lower j lt ∙ at_set_other 0 prices k j v (λ e. omega (arith, lt, le, e));
    classes = agrees.classes;
  });
}

pub priced_more : (p : Image) (prices : List ℕ) (m n : ℕ) → ArePricedBelow p m prices → m < length p.methods → IsMethodPriced p prices m n →
    ArePricedBelow p (m + 1) (slice_set prices m n)
priced_more p prices m n h within here =
    let inside : m < length prices = omega (arith, within, h.size) in
    record {
      size = length-set prices m n ∙ h.size;
      each = λ k below. elim (eqb_tells k m) [
        | inl w ↦ rw (w.1, at_set_here 0 prices m n inside) (still_priced p prices m m n n (omega arith) here)
        | inr w ↦ rw (at_set_other 0 prices m k n w.1) (still_priced p prices k m _ n (omega (arith, below)) (h.each k (omega (arith, below, w.1))))
      ];
      others = λ k past. at_set_other 0 prices m k n (λ same. omega (arith, past, same)) ∙ h.others k (omega (arith, past));
    }

pub price_up_to : (p : Image) (prices : List ℕ) (m : ℕ) → ArePriced p prices → IsSome (method_at p m) → IsPriceUpTo p m (at 0 prices m)
price_up_to p prices m h some = record {
  typing = h.typing;
  strongest = h.strongest;
  prices = h.reported.whole.prices;
  are = h.reported.whole.are;
  is = sym (h.is m some) ∙ h.reported.methods m some;
}
