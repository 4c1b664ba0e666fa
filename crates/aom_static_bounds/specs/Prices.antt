-- Tables of prices, and when a table pays for each move of a typing.
use Rattle.std.specs.Prelude.{ℕ, suc, ◌+◌, ◌-◌, ◌*◌, ◌≡◌, ◌≤◌, true, List, [], ◌∷◌, Option, Some, None}
use Rattle.aom_image.specs.Image.{Image}
use Rattle.aom_image.specs.Views.{instr_at, method_class, transfer_at}
use Rattle.aom_instructions.specs.declared.instr.Instr.{Instr}
use Rattle.aom_instructions.specs.declared.transfer.Transfer.{Transfer}
use Rattle.aom_instructions.specs.declared.transfer.Transfer.TheVariants.{Begin, Repeat}
use Rattle.aom_image.specs.declared.class.ClassKind.{ClassKind}
use Rattle.aom_image.specs.declared.class.ClassKind.TheVariants.{Server}
use Rattle.aom_image.specs.declared.method.Role.TheVariants as roles
use Rattle.aom_image.specs.declared.method.Thing.{Thing}
use Rattle.aom_image.specs.declared.method.Thing.TheVariants.{Object, Message}
use Rattle.aom_roles.specs.Classes.{kind_at}
use Rattle.aom_link_conditions.specs.Loops.{loop_in, next_in}
use Rattle.aom_link_conditions.specs.Roles.{role_of}
use Rattle.aom_static_bounds.specs.Charges.{Charge, No_charge, A_call, An_operation, A_destruction, A_cancel, charge_of}
use Rattle.aom_static_bounds.specs.Most.{line, most_below, most_run}
use Rattle.aom_roles.specs.Things.{is_subtype}
use Rattle.aom_abstract_state.specs.AbstractState.{AbstractState}
use Rattle.aom_abstract_state.specs.Kinds.{register}
use Rattle.aom_abstract_state.specs.Needs.{Flow}
use Rattle.aom_typing_rules.specs.Rules.{flows}
use Rattle.aom_typing_rules.specs.Typing.{Typing, shape_at}
use Rattle.aom_abstract_state.specs.declared.kind.Kind.{Kind}
use Rattle.aom_abstract_state.specs.declared.kind.Kind.TheVariants.{Unset, Word, Null, Own, Maybe}

pub record Prices : Type 0 where
  -- by method and place: what the method costs from there on, where the round at hand is the last of each loop round that place
  pub from : ℕ → ℕ → ℕ
  -- by method and a loop's place: a round of that loop
  pub round : ℕ → ℕ → ℕ
  -- of what is destroyed
  pub destruction : Thing → ℕ

abbrev pub price : Prices → ℕ → ℕ
price c m = c.from m 0

-- what the destruction of a register of that kind costs
abbrev pub kind_price : Prices → Kind → ℕ
kind_price c Unset = 0
kind_price c Word = 0
kind_price c Null = 0
kind_price c (Own t a) = c.destruction t
kind_price c (Maybe t a) = c.destruction t

-- a method, if there is one
abbrev pub perhaps_price : Prices → Option ℕ → ℕ
perhaps_price c None = 0
perhaps_price c (Some m) = price c m

-- a call, whatever it runs
abbrev pub call_price : Image → Prices → ℕ → ℕ
call_price p c k = most_run p (price c) k

-- cancelling the request of what counts as an object of a class
abbrev pub cancel_price : Image → Prices → Option ℕ → ℕ
cancel_price p c None = 0
cancel_price p c (Some x) = most_below p (λ y. perhaps_price c (role_of p y roles.Cancel)) x

-- the most sessions of a server, where one of each class costs so much; objects of other classes have none
abbrev pub kind_sessions : (ℕ → ℕ) → ClassKind → ℕ
kind_sessions cost (Server most session) = most * cost session
kind_sessions cost _ = 0

abbrev pub perhaps_sessions : (ℕ → ℕ) → Option ClassKind → ℕ
perhaps_sessions cost None = 0
perhaps_sessions cost (Some kind) = kind_sessions cost kind

-- those of a thing
abbrev pub sessions_cost : Image → (ℕ → ℕ) → Thing → ℕ
sessions_cost p cost (Object k) = perhaps_sessions cost (kind_at p k)
sessions_cost p cost Message = 0

-- what it costs that an instruction of a method sets going; what is pushed is paid for then, and costs nothing where it leaves the cleanup stack
abbrev pub charge_price : Image → (m : ℕ) → Prices → AbstractState → Charge → ℕ
charge_price p m c sh No_charge = 0
charge_price p m c sh (A_call k) = call_price p c k
charge_price p m c sh (An_operation k) = price c k
charge_price p m c sh (A_destruction a) = kind_price c (register sh a)
charge_price p m c sh A_cancel = cancel_price p c (method_class p m)

-- what the instruction costs itself
abbrev pub own : Image → (m : ℕ) → Prices → AbstractState → Instr → ℕ
own p m c sh i = 1 + charge_price p m c sh (charge_of i)

-- it pays for going on at each of these places
abbrev pub AllPaid : Prices → (m pays here : ℕ) → List Flow → Type 0
AllPaid c m pays here [] = Unit {0}
AllPaid c m pays here (f ∷ fs) = (pays + c.from m f.0 ≤ here) × AllPaid c m pays here fs

-- an instruction at a place that the typing reaches
pub record Stands (p : Image) (t : Typing) (m place : ℕ) (sh : AbstractState) (i : Instr) : Type 0 where
  pub shape : shape_at t m place ≡ Some sh
  pub instr : instr_at p m place ≡ Some i

-- or one of that transfer
pub record StandsAs (p : Image) (t : Typing) (m place : ℕ) (sh : AbstractState) (transfer : Transfer) : Type 0 where
  pub shape : shape_at t m place ≡ Some sh
  pub goes : transfer_at p m place ≡ Some transfer

-- so a loop of that number and so many rounds stands there, or a next of that number that goes back there
abbrev pub LoopStands : Image → Typing → (m place : ℕ) → AbstractState → (number rounds : ℕ) → Type 0
LoopStands p t m place sh d n = StandsAs p t m place sh (Begin d n)

abbrev pub NextStands : Image → Typing → (m place : ℕ) → AbstractState → (number back : ℕ) → Type 0
NextStands p t m place sh d to = StandsAs p t m place sh (Repeat d to)

-- each reached place pays for what may follow it
pub record IsPriced (p : Image) (t : Typing) (c : Prices) : Type 0 where
  pub ends : (m place : ℕ) (sh : AbstractState) (i : Instr) → Stands p t m place sh i → own p m c sh i ≤ c.from m place
  pub flows : (m place : ℕ) (sh : AbstractState) (i : Instr) → Stands p t m place sh i → loop_in (Some i) ≡ None → next_in (Some i) ≡ None → AllPaid c m (own p m c sh i) (c.from m place) (flows p m place sh i)
  -- a loop pays for all its rounds, the last of which is part of what follows
  pub loops : (m place d n : ℕ) (sh : AbstractState) → LoopStands p t m place sh d n → 1 + (n - 1) * c.round m place + c.from m (suc place) ≤ c.from m place
  -- the last round goes on, and another begins for the price of a round
  pub next_places : (m place d to : ℕ) (sh : AbstractState) → NextStands p t m place sh d to → 1 + c.from m (suc place) ≤ c.from m place
  pub rounds : (m place d from : ℕ) (sh : AbstractState) → NextStands p t m place sh d (suc from) → 1 + c.from m (suc from) ≤ c.from m place + c.round m from
  -- a cell pays for its going, for its line of destructors, and a server for each session that it may have
  pub lines : (x : Thing) → 1 + line p (perhaps_price c) x + sessions_cost p (λ k. c.destruction (Object k)) x ≤ c.destruction x
  -- and where it is declared all that may stand there is paid for
  pub may_override : (x y : Thing) → is_subtype p x y ≡ true → c.destruction x ≤ c.destruction y
