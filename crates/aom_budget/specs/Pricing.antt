-- What the pass over a method says of its places while it is made, the last place first, and what the walk says of prices.
use Rattle.std.specs.Prelude.{ℕ, suc, ◌+◌, ◌-◌, ◌≡◌, ◌==◌, ◌≤◌, ◌<◌, min, max, nat_lt, cond, List, [], ◌∷◌, ◌++◌, bit_and, Option, Some, None, IsSome, length}
use Rattle.aom_image.specs.Image.{Image}
use Rattle.aom_image.specs.Views.{instr_at, method_at, method_class}
use Rattle.aom_instructions.specs.declared.instr.Instr.{Instr}
use Rattle.aom_image.specs.declared.method.Role.TheVariants as roles
use Rattle.aom_image.specs.declared.method.Thing.{Thing}
use Rattle.aom_link_conditions.specs.Roles.{role_of}
use Rattle.aom_link_conditions.specs.Bodies.{Body, IsIn}
use Rattle.aom_typing_rules.specs.Rules.{ways_of}
use Rattle.aom_typing_rules.specs.Ways.{Ways, Ends, Goes_on, Goes_to, Branches, Goes_back, Branches_on_null, Branches_on_empty, Branches_in}
use Rattle.aom_abstract_state.specs.Kinds.{register, field}
use Rattle.aom_abstract_state.specs.AbstractState.{AbstractState}
use Rattle.aom_roles.specs.Tables.{at}
use Rattle.aom_typing_rules.specs.Typing.{Typing}
use Rattle.aom_abstract_state.specs.declared.kind.FieldState.{FieldState}
use Rattle.aom_abstract_state.specs.declared.kind.FieldState.TheVariants.{Empty, Full, Perhaps}
use Rattle.aom_abstract_state.specs.declared.kind.Kind.{Kind}
use Rattle.aom_abstract_state.specs.declared.kind.Kind.TheVariants.{Unset, Word, Null, Own, Maybe}
use Rattle.aom_static_bounds.specs.Shapes.{Shapes}
use Rattle.aom_static_bounds.specs.Strongest.{IsMethodStrongest, IsStrongest}
use Rattle.aom_static_bounds.specs.Charges.{Charge, No_charge, A_call, An_operation, A_destruction, A_cancel, charge_of}
use Rattle.aom_static_bounds.specs.Calls.{Among}
use Rattle.aom_static_bounds.specs.Most.{most_below, most_run}
use Rattle.aom_verify.specs.Sweep.{HasPlaces}
use Rattle.aom_static_bounds.specs.Prices.{Prices, price}
use Rattle.aom_static_bounds.specs.Costs.{Region, Whole, Round, ArePrices, destructor_price}
use Rattle.aom_static_bounds.specs.Layers.{ArePricesUpTo}
use Rattle.aom_static_bounds.specs.Sweeping.{LoopExits, IsInnermost, IsSweptFrom, all_going, is_past}
use Rattle.aom_budget.specs.StackDepths.{IsMost, Before}
use Rattle.aom_budget.specs.declared.pass.Round as rounds

-- all that is more counts for 2^32
abbrev pub kept : ℕ → ℕ
kept n = min 4294967296 n

pub record AreKept (sums : List ℕ) : Type 0 where
  pub each : (i : ℕ) → at 0 sums i ≤ 4294967296

-- ---- by the prices of the lower methods

abbrev pub price_by : List ℕ → Option ℕ → ℕ
price_by prices None = 0
price_by prices (Some k) = at 0 prices k

-- the destruction of a thing, and of its sessions
abbrev pub destruction_by : Image → List ℕ → Thing → ℕ
destruction_by p prices x = kept (all_going p (price_by prices) x)

-- that of what a register may have
abbrev pub kind_by : Image → List ℕ → Kind → ℕ
kind_by p prices Unset = 0
kind_by p prices Word = 0
kind_by p prices Null = 0
kind_by p prices (Own t a) = destruction_by p prices t
kind_by p prices (Maybe t a) = destruction_by p prices t

-- what a cancel costs, by the cancel methods of a class and of all that descend from it
abbrev pub cancel_by : Image → List ℕ → Option ℕ → ℕ
cancel_by p prices None = 0
cancel_by p prices (Some x) = most_below p (λ y. price_by prices (role_of p y roles.Cancel)) x

-- what it costs that an instruction of a method sets going
abbrev pub charge_by : Image → (m : ℕ) → List ℕ → AbstractState → Charge → ℕ
charge_by p m prices sh No_charge = 0
charge_by p m prices sh (A_call k) = most_run p (at 0 prices) k
charge_by p m prices sh (An_operation k) = at 0 prices k
charge_by p m prices sh (A_destruction a) = kind_by p prices (register sh a)
charge_by p m prices sh A_cancel = cancel_by p prices (method_class p m)

-- what the instruction costs itself
abbrev pub own_by : Image → (m : ℕ) → List ℕ → AbstractState → Instr → ℕ
own_by p m prices sh i = 1 + charge_by p m prices sh (charge_of i)

-- ---- places

abbrev pub null_targets : ℕ → Kind → ℕ → List ℕ
null_targets next Unset to = []
null_targets next Word to = []
null_targets next Null to = to ∷ []
null_targets next (Own t a) to = next ∷ []
null_targets next (Maybe t a) to = next ∷ to ∷ []

abbrev pub empty_targets : ℕ → FieldState → ℕ → List ℕ
empty_targets next Empty to = to ∷ []
empty_targets next Full to = next ∷ []
empty_targets next Perhaps to = next ∷ to ∷ []

-- at the next place in the first states, at that place in the others, and nowhere where there are none
abbrev pub states_targets : (next here to there : ℕ) → List ℕ
states_targets next here to there = cond (here == 0) [] (next ∷ []) ++ cond (there == 0) [] (to ∷ [])

-- where an instruction goes on that has those ways and whose rule applies
abbrev pub targets_by : ℕ → AbstractState → Ways → List ℕ
targets_by place sh Ends = []
targets_by place sh (Goes_on news) = suc place ∷ []
targets_by place sh (Goes_to to) = to ∷ []
targets_by place sh (Branches to) = suc place ∷ to ∷ []
targets_by place sh (Goes_back to) = to ∷ suc place ∷ []
targets_by place sh (Branches_on_null a to) = null_targets (suc place) (register sh a) to
targets_by place sh (Branches_on_empty f to) = empty_targets (suc place) (field sh f) to
targets_by place sh (Branches_in there here to) = states_targets (suc place) (bit_and sh.states here) to (bit_and sh.states there)

abbrev pub targets_of : Image → ℕ → AbstractState → Instr → List ℕ
targets_of p place sh i = targets_by place sh (ways_of p i)

-- the most over the places that are not past the region
abbrev pub most_to : List ℕ → Region → List ℕ → ℕ
most_to from r [] = 0
most_to from r (to ∷ rest) = max (cond (is_past r to) 0 (at 0 from to)) (most_to from r rest)

-- and over those past a place
abbrev pub most_past : List ℕ → ℕ → List ℕ → ℕ
most_past from last [] = 0
most_past from last (to ∷ rest) = max (cond (nat_lt last to) (at 0 from to) 0) (most_past from last rest)

-- the most that follows the region
abbrev pub after_in : List ℕ → Region → ℕ
after_in after Whole = 0
after_in after (Round first last) = at 0 after first

-- a reached place of a body goes out to a place from which the method costs so much
pub record ExitsAt (p : Image) (m : ℕ) (s : Shapes) (from : List ℕ) (first last place n : ℕ) : Type 0 where
  pub inside : IsIn first last place
  pub shape : AbstractState
  pub there : at None s place ≡ Some shape
  pub instr : Instr
  pub stands : instr_at p m place ≡ Some instr
  pub out : ℕ
  pub flow : Among out (targets_of p place shape instr)
  pub outside : last < out
  pub is : at 0 from out ≡ n

-- the lists of a pass: by place what the method costs from there, and by a loop's place what follows it
pub record Found : Type 0 where
  pub from : List ℕ
  pub after : List ℕ

abbrev pub found_by : List ℕ → List ℕ → Found
found_by from after = record { from = from; after = after }

-- what a method costs from a plain instruction on, with the dearest way
abbrev pub plain_cost : Image → (m : ℕ) → List ℕ → Found → Region → ℕ → AbstractState → Instr → ℕ
plain_cost p m prices found r place sh i = kept (own_by p m prices sh i + max (after_in found.after r) (most_to found.from r (targets_of p place sh i)))

-- the most that follows a loop: so much after the one round it, or what its body goes out to
pub record Follows (p : Image) (m : ℕ) (s : Shapes) (from : List ℕ) (outside first last n : ℕ) : Type 0 where
  pub most : ℕ
  pub exits : IsMost 4294967296 (Before (ExitsAt p m s from first last) (suc last)) most
  pub is : n ≡ max outside most

-- ---- the pass

-- tables that say what the pass has found down to a place, and what was found of the lower methods
pub record Agrees (p : Image) (prices : List ℕ) (m : ℕ) (s : Shapes) (down : ℕ) (found : Found) (t : Typing) (c : Prices) (a : LoopExits) : Type 0 where
  pub states : at [] t m ≡ s
  pub from_costs : (place : ℕ) → down ≤ place → c.from m place ≡ at 0 found.from place
  pub loop_exits : (from to d n : ℕ) → down ≤ to → Body p m from to d n → a m from ≡ at 0 found.after from
  pub rounds : (from : ℕ) → c.round m from ≡ c.from m (suc from) - a m from
  pub lower : (k : ℕ) → k < m → price c k ≡ at 0 prices k
  pub classes : (x : Thing) → c.destruction x ≡ kept (all_going p (destructor_price c) x)

-- each table that agrees is swept, down to that place
pub record IsPassed (p : Image) (prices : List ℕ) (m : ℕ) (s : Shapes) (down : ℕ) (found : Found) : Type 0 where
  -- what follows a region is found at each reached place of it too
  pub around : (from to d n : ℕ) (r : Region) → down ≤ to → Body p m from to d n → IsInnermost p m from r → after_in found.after r ≤ at 0 found.after from
  pub covers : (place : ℕ) (sh : AbstractState) (r : Region) → down ≤ place → at None s place ≡ Some sh → IsInnermost p m place r → after_in found.after r ≤ at 0 found.from place
  pub swept : (t : Typing) (c : Prices) (a : LoopExits) → Agrees p prices m s down found t c a → IsSweptFrom kept p t c a m down

-- the innermost loop round a place, as the pass keeps it
abbrev pub region_of : Option rounds.Round → Region
region_of None = Whole
region_of (Some b) = Round b.first b.last

-- the loops that the pass is in: the innermost one, and by its place the one round each
pub record IsWithin (p : Image) (m down : ℕ) (innermost : Option rounds.Round) (around : List (Option rounds.Round)) : Type 0 where
  pub here : IsInnermost p m down (region_of innermost)
  pub loops : (from to d n : ℕ) → from < down → down ≤ to → Body p m from to d n → IsInnermost p m from (region_of (at None around from))

-- the pass stands at a place
pub record IsPassing (p : Image) (prices : List ℕ) (m : ℕ) (s : Shapes) (down : ℕ) (from after : List ℕ) (innermost : Option rounds.Round) (around : List (Option rounds.Round)) : Type 0 where
  pub passed : IsPassed p prices m s down (record { from = from; after = after })
  pub within : IsWithin p m down innermost around
  pub places : HasPlaces p m (length from)
  pub after_size : length after ≡ length from
  pub around_size : length around ≡ length from

-- ---- the walk

-- what was found of a method, and the number that came of it
pub record IsMethodPriced (p : Image) (prices : List ℕ) (m n : ℕ) : Type 0 where
  pub states : Shapes
  pub strongest : IsMethodStrongest p m states
  pub found : Found
  pub is : at 0 found.from 0 ≡ n
  pub swept : (t : Typing) (c : Prices) (a : LoopExits) → Agrees p prices m states 0 found t c a → IsSweptFrom kept p t c a m 0

pub record ArePricedBelow (p : Image) (count : ℕ) (prices : List ℕ) : Type 0 where
  pub size : length prices ≡ length p.methods
  pub each : (m : ℕ) → m < count → IsMethodPriced p prices m (at 0 prices m)
  pub others : (m : ℕ) → count ≤ m → at 0 prices m ≡ 0

-- the prices of the methods by number, of which none counts for more than 2^32
pub record ArePriced (p : Image) (prices : List ℕ) : Type 0 where
  pub typing : Typing
  pub strongest : IsStrongest p typing
  pub table : Prices
  pub reported : ArePricesUpTo 4294967296 p typing table
  pub is : (m : ℕ) → IsSome (method_at p m) → price table m ≡ at 0 prices m

-- the number is a method's price by the strongest typing, or 2^32 where that is more
pub record IsPriceUpTo (p : Image) (m n : ℕ) : Type 0 where
  pub typing : Typing
  pub strongest : IsStrongest p typing
  pub prices : Prices
  pub are : ArePrices p typing prices
  pub is : n ≡ min 4294967296 (price prices m)
