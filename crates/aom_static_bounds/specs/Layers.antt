-- That what is paid for comes before: the condition under which a table of prices is found method by method.
use Rattle.std.specs.Prelude.{ℕ, true, ◌≡◌, ◌<◌, ◌⊎◌, min, Option, Some, None, IsSome}
use Rattle.aom_image.specs.Image.{Image}
use Rattle.aom_image.specs.Views.{method_at, method_class}
use Rattle.aom_instructions.specs.declared.instr.Instr.{Instr}
use Rattle.aom_image.specs.declared.method.Thing.{Thing}
use Rattle.aom_image.specs.declared.method.Thing.TheVariants.{Object, Message}
use Rattle.aom_roles.specs.Classes.{sessions_at}
use Rattle.aom_link_conditions.specs.Roles.{own_role, role_of}
use Rattle.aom_roles.specs.Families.{descends}
use Rattle.aom_image.specs.declared.method.Role.TheVariants.{Destruct, Cancel as Cancels}
use Rattle.aom_roles.specs.Things.{is_subtype}
use Rattle.aom_link_conditions.specs.Overriding.{overrides}
use Rattle.aom_abstract_state.specs.Kinds.{register}
use Rattle.aom_abstract_state.specs.AbstractState.{AbstractState}
use Rattle.aom_typing_rules.specs.Typing.{Typing}
use Rattle.aom_abstract_state.specs.declared.kind.Kind.{Kind}
use Rattle.aom_abstract_state.specs.declared.kind.Kind.TheVariants.{Unset, Word, Null, Own, Maybe}
use Rattle.aom_static_bounds.specs.Charges.{Charge, No_charge, A_call, An_operation, A_destruction, A_cancel, charge_of}
use Rattle.aom_static_bounds.specs.Prices.{Prices, Stands, IsPriced, price}
use Rattle.aom_static_bounds.specs.Costs.{ArePrices}

-- the class of a thing's sessions
abbrev pub thing_sessions : Image → Thing → Option ℕ
thing_sessions p (Object c) = sessions_at p c
thing_sessions p Message = None

-- a destructor of a thing's class, or of one above it
abbrev pub InLine : Image → Thing → ℕ → Type 0
InLine p (Object c) k = (d : ℕ) × (descends p c d ≡ true) × (own_role p d Destruct ≡ Some k)
InLine p Message k = ⊥

-- one that runs as a thing is destroyed: its own, or that of its sessions
abbrev pub Runs : Image → Thing → ℕ → Type 0
Runs p x k = InLine p x k ⊎ ((s : ℕ) × (thing_sessions p x ≡ Some s) × InLine p (Object s) k)

-- or as one is that stands there
abbrev pub Destructs : Image → Thing → ℕ → Type 0
Destructs p x k = (y : Thing) × (is_subtype p y x ≡ true) × Runs p y k

-- a call of a method may run it
abbrev pub MayRun : Image → ℕ → ℕ → Type 0
MayRun p j k = (j ≡ k) ⊎ (overrides p k j ≡ true)

-- it cancels the request of what counts as an object of a class
abbrev pub Cancelled : Image → Option ℕ → ℕ → Type 0
Cancelled p None k = ⊥
Cancelled p (Some x) k = (y : ℕ) × (descends p y x ≡ true) × (role_of p y Cancels ≡ Some k)

-- or as a register of that kind is
abbrev pub KindDestructs : Image → Kind → ℕ → Type 0
KindDestructs p Unset k = ⊥
KindDestructs p Word k = ⊥
KindDestructs p Null k = ⊥
KindDestructs p (Own t a) k = Destructs p t k
KindDestructs p (Maybe t a) k = Destructs p t k

-- what an instruction of a method sets going pays the price of a method
abbrev pub PaysFor : Image → (m : ℕ) → AbstractState → Charge → ℕ → Type 0
PaysFor p m sh No_charge k = ⊥
PaysFor p m sh (A_call j) k = MayRun p j k
PaysFor p m sh (An_operation j) k = j ≡ k
PaysFor p m sh (A_destruction a) k = KindDestructs p (register sh a) k
PaysFor p m sh A_cancel k = Cancelled p (method_class p m) k

-- and so the instruction does
abbrev pub Pays : Image → (m : ℕ) → AbstractState → Instr → ℕ → Type 0
Pays p m sh i k = PaysFor p m sh (charge_of i) k

-- a method pays for methods before it alone
pub record PaysBefore (p : Image) (t : Typing) : Type 0 where
  pub each : (m place k : ℕ) (sh : AbstractState) (i : Instr) → Stands p t m place sh i → Pays p m sh i k → k < m

-- there is a table of prices, and it pays for each move
pub record HasPrices (p : Image) (t : Typing) : Type 0 where
  pub prices : Prices
  pub are : ArePrices p t prices
  pub pays : IsPriced p t prices

-- the table says the prices up to a limit
pub record ArePricesUpTo (limit : ℕ) (p : Image) (t : Typing) (c : Prices) : Type 0 where
  pub whole : HasPrices p t
  pub methods : (m : ℕ) → IsSome (method_at p m) → price c m ≡ min limit (price whole.prices m)
  pub classes : (x : Thing) → c.destruction x ≡ min limit (whole.prices.destruction x)

-- two tables say the same of each method and each destruction
pub record SayTheSame (p : Image) (c d : Prices) : Type 0 where
  pub methods : (m : ℕ) → IsSome (method_at p m) → price c m ≡ price d m
  pub classes : (x : Thing) → c.destruction x ≡ d.destruction x
