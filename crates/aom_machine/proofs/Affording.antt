-- An image whose dispatches cost at most what it declares of them affords those of the objects and servers of each of its classes.
use Rattle.std.specs.Prelude.{if◌then◌else◌}
use Rattle.std.proofs.Common.{Option, None, Some, arith, refl, ◌≡◌, ◌≤◌, ℕ}
use Rattle.aom_image.specs.Image.{Image}
use Rattle.aom_image.specs.Views.{class_at}
use Rattle.aom_image.specs.WellFormed.{is_dispatched}
use Rattle.aom_image.specs.declared.class.ClassDecl.{ClassDecl}
use Rattle.aom_image.specs.declared.class.ClassKind.{ClassKind}
use Rattle.aom_image.specs.declared.class.ClassKind.TheVariants.{Active, Server}
use Rattle.aom_image.specs.declared.method.Role.TheVariants.{Accept, Error, Run as Handles, Service}
use Rattle.aom_link_conditions.specs.Roles.{role_of}
use Rattle.aom_roles.specs.Classes.{kind_in}
use Rattle.aom_roles.specs.Shapes.{kind_of}
use Rattle.aom_static_bounds.specs.Costs.{destructor_price}
use Rattle.aom_static_bounds.specs.Prices.{Prices, perhaps_price}
use Rattle.aom_budget.specs.Budgets.{CostsWithin, class_declares, class_price, kind_price}
use Rattle.aom_budget.specs.declared.fault.BudgetOwner.TheVariants.{Class}
use Rattle.aom_termination.specs.BudgetOwners.{AffordsObjects, class_budget, dispatch_price}

-- the price of a method that may not be there
same_price : (c : Prices) (m : Option ℕ) → perhaps_price c m ≡ destructor_price c m
same_price c x = grind arith

module _ (p : Image) (c : Prices) (x : ℕ) where
  of_kind : (k : ClassKind) (budget : ℕ) → ((most : ℕ) → (if is_dispatched k then Some budget else None) ≡ Some most → kind_price p c x k ≤ most)
      → dispatch_price p c x (Some k) ≤ budget
  of_kind (Active provider) budget within = omega (arith, same_price c (role_of p x Handles), same_price c (role_of p x Error), within budget refl)
  of_kind (Server most session) budget within = omega (arith, same_price c (role_of p x Accept), same_price c (role_of p session Service), within budget refl)
  of_kind _ budget within = omega arith

  of_class : (d : Option ClassDecl) → ((most : ℕ) → class_declares d ≡ Some most → class_price p c x d ≤ most) → dispatch_price p c x (kind_in d) ≤ class_budget d
  unfolding kind_in
  of_class None within = omega arith
  of_class (Some d) within = of_kind d.kind d.budget within

pub affords : (p : Image) (c : Prices) → CostsWithin p c → AffordsObjects p c
unfolding kind_of
affords p c within = record { each = λ x. of_class p c x (class_at p x) (λ most e. within (Class x) most e) }
