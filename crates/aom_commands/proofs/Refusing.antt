-- Faults on the way to an accepted image. An acceptable one is refused for want of memory alone.
use Rattle.std.proofs.lemmas.Bool.Decides.{nat_tests}
use Rattle.std.proofs.Common.{arith, ◌≡◌, ◌≢◌, ℕ, List, Result, Some, subst}
use Rattle.std.specs.Prelude.{IfOk, IsErrAnd}
use Rattle.std.proofs.lemmas.Result.{err_from_is_err_and}
use Rattle.aom_codec.specs.Format.{first_fault}
use Rattle.aom_codec.specs.declared.fault.LoadFault.{LoadFault}
use Rattle.aom_codec.specs.declared.fault.LoadFault.TheVariants as loads
use Rattle.aom_image.specs.Image.{Image}
use Rattle.aom_link_conditions.specs.Faults.{Fails, RefusesOrWants as RefusesOrWantsLink}
use Rattle.aom_link_conditions.specs.declared.fault.LinkFault.{LinkFault}
use Rattle.aom_link_conditions.specs.Linked.{IsLinked}
use Rattle.aom_typing_rules.specs.Typing.{Typing, IsTyped}
use Rattle.aom_static_bounds.specs.Strongest.{IsStrongest}
use Rattle.aom_budget.specs.Faults.{RefusesOrWants as RefusesBudget}
use Rattle.aom_budget.specs.declared.fault.BudgetFault.{BudgetFault}
use Rattle.aom_verify.specs.Refusals.{RefusesOrWants as RefusesOrWantsTyping}
use Rattle.aom_verify.specs.declared.refusal.Refusal.{Refusal}
use Rattle.aom_verify.specs.declared.refusal.Refusal.TheVariants as refusals
use Rattle.aom_commands.specs.declared.faults.Fault.TheVariants.{Memory}
use Rattle.aom_commands.specs.Status.{of_load, of_link, of_refusal, of_budget}
use Rattle.aom_commands.specs.Acceptable.{IsSerialized, IsAcceptable, RefusesOrWants}
use Rattle.aom_commands.specs.Prices.{IsEarly, StopsEarly}

-- what the exit of a `?` returns has no value
pub no_value : {T E : Type 0} (result : Result T E) (P : T → Type 0) (Q : E → Type 0) → IsErrAnd result Q → IfOk result P
no_value result P Q exits = let error = err_from_is_err_and result exits in rw error.1 tt

-- ---- faults of each kind

load_early : (fault : LoadFault) → IsEarly (of_load fault)
load_early x = grind arith

link_early : (fault : LinkFault) → IsEarly (of_link fault)
link_early x = grind arith

refusal_early : (refusal : Refusal) → IsEarly (of_refusal refusal)
refusal_early x = grind arith

-- bytes that are no image have a fault, unless it is that memory was wanting
load_refused : (bytes : List ℕ) (fault : LoadFault) → (fault ≢ loads.OutOfMemory → first_fault bytes ≡ Some fault) → RefusesOrWants bytes (of_load fault)
load_refused bytes fault is = grind arith

linked_memory : (p : Image) (fault : LinkFault) → RefusesOrWantsLink p fault → IsAcceptable p → of_link fault ≡ Memory
unfolding RefusesOrWantsLink Fails
linked_memory p x refused a = grind arith

-- a fault of linking is one on the way
link_refused : (bytes : List ℕ) (p : Image) (fault : LinkFault) → IsSerialized bytes p → RefusesOrWantsLink p fault → RefusesOrWants bytes (of_link fault)
unfolding RefusesOrWantsLink
link_refused bytes p fault serialized refused = grind arith

-- and so is one of the typing
typing_refused : (bytes : List ℕ) (p : Image) (refusal : Refusal) → IsSerialized bytes p → IsLinked p → RefusesOrWantsTyping p refusal →
    RefusesOrWants bytes (of_refusal refusal)
typing_refused bytes p x serialized linked refused = grind arith

-- ---- faults before budgets

pub load_stops : (bytes : List ℕ) (fault : LoadFault) → (fault ≢ loads.OutOfMemory → first_fault bytes ≡ Some fault) →
    ((p : Image) → IsSerialized bytes p → fault ≡ loads.OutOfMemory) → StopsEarly bytes (of_load fault)
load_stops bytes fault is only = search (arith, nat_tests, load_refused bytes fault is, load_early fault)

pub link_stops : (bytes : List ℕ) (p : Image) (fault : LinkFault) → IsSerialized bytes p → ((q : Image) → IsSerialized bytes q → p ≡ q) → RefusesOrWantsLink p fault →
    StopsEarly bytes (of_link fault)
link_stops bytes p fault serialized only refused =
    search (arith, nat_tests, link_refused bytes p fault serialized refused, link_early fault, linked_memory p fault refused)

pub refusal_stops : (bytes : List ℕ) (p : Image) (refusal : Refusal) → IsSerialized bytes p → IsLinked p → ((q : Image) → IsSerialized bytes q → p ≡ q) →
    RefusesOrWantsTyping p refusal → ((t : Typing) → IsTyped p t → refusal ≡ refusals.OutOfMemory) → StopsEarly bytes (of_refusal refusal)
refusal_stops bytes p refusal serialized linked only refused typed =
    search (arith, nat_tests, typing_refused bytes p refusal serialized linked refused, refusal_early refusal)

-- ---- budgets

-- a checked image that costs more than it declares, or whose methods may come to too many frames or cleanup entries
has_typing : (p q : Image) → q ≡ p → (t : Typing) × IsStrongest q t → (t : Typing) × IsTyped p t
has_typing p q same typing = subst (λ (r : Image). (t : Typing) × IsTyped r t) same (typing.0, typing.1.typed)

pub budget_refused : (bytes : List ℕ) (p q : Image) (fault : BudgetFault) →
    IsSerialized bytes p → IsLinked p → q ≡ p → (t : Typing) × IsStrongest q t → RefusesBudget q fault → RefusesOrWants bytes (of_budget fault)
budget_refused bytes p q fault serialized linked same typing h = grind arith
