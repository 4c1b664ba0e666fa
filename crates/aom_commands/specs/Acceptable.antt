-- Which bytes are an accepted image, and why others are not.
use Rattle.std.specs.Prelude.{ℕ, ◌≡◌, List, Some}
use Rattle.aom_image.specs.Image.{Image}
use Rattle.aom_codec.specs.Serialization.{serialize}
use Rattle.aom_image.specs.WellFormed.{WellFormed}
use Rattle.aom_codec.specs.Format.{first_fault}
use Rattle.aom_link_conditions.specs.Linked.{IsLinked}
use Rattle.aom_link_conditions.specs.Faults.{Fails}
use Rattle.aom_typing_rules.specs.Typing.{Typing, IsTyped}
use Rattle.aom_static_bounds.specs.Depths.{DepthsWithin}
use Rattle.aom_static_bounds.specs.Heights.{HeightsWithin}
use Rattle.aom_verify.specs.Refusals.{Refuses as RefusesTyping}
use Rattle.aom_budget.specs.Budgets.{BudgetsWithin}
use Rattle.aom_budget.specs.Faults.{Refuses as RefusesBudget}
use Rattle.aom_commands.specs.declared.faults.Fault.{Fault}
use Rattle.aom_commands.specs.declared.faults.Fault.TheVariants.{Load, Link, Verify, Budget, Memory}

-- the bytes are the spelling of that well-formed image
pub record IsSerialized (bytes : List ℕ) (p : Image) : Type 0 where
  pub formed : WellFormed p
  pub serialization : bytes ≡ serialize p

-- the image keeps the link conditions, has a typing, declares of each dispatch at least its price, and comes to no more than 256 frames and 1,024 cleanup entries
pub record IsAcceptable (p : Image) : Type 0 where
  pub linked : IsLinked p
  pub typing : Typing
  pub typed : IsTyped p typing
  pub budgets : BudgetsWithin p
  pub depths : DepthsWithin p
  pub heights : HeightsWithin p

-- why the bytes are no accepted image: the first fault of the way from them to one. Want of memory is no reason
abbrev pub Refuses : List ℕ → Fault → Type 0
Refuses bytes (Load fault) = first_fault bytes ≡ Some fault
Refuses bytes (Link fault) = (p : Image) × IsSerialized bytes p × Fails p fault
Refuses bytes (Verify refusal) = (p : Image) × IsSerialized bytes p × IsLinked p × RefusesTyping p refusal
Refuses bytes (Budget fault) = (p : Image) × IsSerialized bytes p × IsLinked p × ((t : Typing) × IsTyped p t) × RefusesBudget p fault
Refuses bytes _ = ⊥

-- what a fault on that way says of the bytes: why they are none, or nothing, where memory was wanting
abbrev pub RefusesOrWants : List ℕ → Fault → Type 0
RefusesOrWants bytes Memory = Unit {0}
RefusesOrWants bytes fault = Refuses bytes fault
