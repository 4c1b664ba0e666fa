-- What the faults say.
use Rattle.std.specs.Prelude.{ℕ}
use Rattle.aom_image.specs.Image.{Image}
use Rattle.aom_link_conditions.specs.Calls.{AllCallsOrdered}
use Rattle.aom_roles.specs.Classes.{ClassesOrdered}
use Rattle.aom_link_conditions.specs.Families.{AllContinue}
use Rattle.aom_link_conditions.specs.Linked.{AllJumpsValid, AllLoopsNest, HasMain, IsLinked}
use Rattle.aom_link_conditions.specs.Overriding.{OverridersFit}
use Rattle.aom_link_conditions.specs.Needs.{AllNeedsMet, RolesSingle}
use Rattle.aom_roles.specs.Shapes.{AllShaped}
use Rattle.aom_link_conditions.specs.declared.fault.LinkFault.{LinkFault}
use Rattle.aom_link_conditions.specs.declared.fault.LinkFault.TheVariants.{ClassOrder, CallOrder, MissingRole, DoubleRole, RoleShape, BadJump, BadLoop, NoMain, OutOfMemory, BadParent, BadOverride}

-- the number of a fault
unfoldable pub number_of : LinkFault → ℕ
number_of = elim
    [ ClassOrder ↦ 1 | CallOrder ↦ 2 | MissingRole ↦ 3 | DoubleRole ↦ 4 | RoleShape ↦ 5 | BadJump ↦ 6 | BadLoop ↦ 7 | NoMain ↦ 8 | OutOfMemory ↦ 9 | BadParent ↦ 10 | BadOverride ↦ 11 ]

-- the image fails the fault's condition, and keeps all that come before it. Want of memory is no reason to refuse one
unfoldable pub Fails : Image → LinkFault → Type 0
Fails p ClassOrder = ¬ ClassesOrdered p
Fails p CallOrder = ClassesOrdered p × ¬ AllCallsOrdered p
Fails p MissingRole = ClassesOrdered p × AllCallsOrdered p × ¬ AllNeedsMet p
Fails p DoubleRole = ClassesOrdered p × AllCallsOrdered p × AllNeedsMet p × ¬ RolesSingle p
Fails p RoleShape = ClassesOrdered p × AllCallsOrdered p × AllNeedsMet p × RolesSingle p × ¬ AllShaped p
Fails p BadJump = ClassesOrdered p × AllCallsOrdered p × AllNeedsMet p × RolesSingle p × AllShaped p × ¬ AllJumpsValid p
Fails p BadLoop = ClassesOrdered p × AllCallsOrdered p × AllNeedsMet p × RolesSingle p × AllShaped p × AllJumpsValid p × ¬ AllLoopsNest p
Fails p NoMain = ClassesOrdered p × AllCallsOrdered p × AllNeedsMet p × RolesSingle p × AllShaped p × AllJumpsValid p × AllLoopsNest p × ¬ HasMain p
Fails p BadParent =
    ClassesOrdered p × AllCallsOrdered p × AllNeedsMet p × RolesSingle p × AllShaped p × AllJumpsValid p × AllLoopsNest p × HasMain p × ¬ AllContinue p
Fails p BadOverride =
    ClassesOrdered p × AllCallsOrdered p × AllNeedsMet p × RolesSingle p × AllShaped p × AllJumpsValid p × AllLoopsNest p × HasMain p × AllContinue p × ¬ OverridersFit p
Fails p _ = ⊥

-- what a fault says of the image: the condition that it fails, or that memory was wanting once it was found linked
unfoldable pub RefusesOrWants : Image → LinkFault → Type 0
RefusesOrWants p OutOfMemory = IsLinked p
RefusesOrWants p fault = Fails p fault
