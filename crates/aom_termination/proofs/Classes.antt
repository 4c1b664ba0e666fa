-- What a class costs by the methods that it has: one that runs is of active objects, and one that accepts of servers.
use Rattle.std.proofs.lemmas.Bool.Decides.{nat_tests}
use Rattle.std.proofs.Common.{◌≡◌, ◌≤◌, ◌+◌, ◌∙◌, ℕ, true, false, Option, Some, refl, ap, arith}
use Rattle.std.specs.Prelude.{is_some, max}
use Rattle.std.proofs.Math.Nat.{le-max_left, le-max_right}
use Rattle.aom_image.specs.Image.{Image}
use Rattle.aom_image.specs.Views.{method_at, class_at}
use Rattle.aom_image.specs.declared.class.ClassKind.{ClassKind}
use Rattle.aom_image.specs.declared.class.ClassKind.TheVariants.{Server}
use Rattle.aom_image.specs.declared.method.Method.{Method as Method_declared}
use Rattle.aom_image.specs.declared.method.Role.{Role}
use Rattle.aom_image.specs.declared.method.Role.TheVariants.{Accept, Error, Run as Handles, Service}
use Rattle.aom_image.specs.declared.method.Thing.TheVariants.{Object as An_object_of}
use Rattle.aom_termination.proofs.LinkConditionsLemmas.{all_there, role_inherits}
use Rattle.aom_link_conditions.specs.Linked.{IsLinked}
use Rattle.aom_link_conditions.specs.Roles.{role_of}
use Rattle.aom_roles.specs.Classes.{sessions_in, sessions_of, is_session_in, is_session_kind, kind_in}
use Rattle.aom_roles.specs.Shapes.{HasShape, IsShaped, is_active_in, kind_of}
use Rattle.aom_static_bounds.specs.Prices.{Prices, perhaps_price, price}
use Rattle.aom_termination.specs.BudgetOwners.{dispatch_price, object_price}
use Rattle.aom_termination.proofs.SafetyLemmas.{family_kinds}
use Rattle.aom_semantics.specs.Servers.{is_server}

module _ (p : Image) (linked : IsLinked p) (x : ℕ) where
  shaped : (role : Role) (m : ℕ) → role_of p x role ≡ Some m → (d : Method_declared) × HasShape role (kind_of p (Some x)) d
  unfolding method_at
  shaped role m e = grind (arith, nat_tests, role_inherits p x m role e, all_there (IsShaped p) p.methods m, family_kinds p linked x)

  -- the sessions of a server are no servers
  pub plain_session : (session : ℕ) → sessions_in (kind_of p (Some x)) ≡ Some session → is_server p (An_object_of session) ≡ false
  unfolding kind_of kind_in class_at is_session_in is_session_kind sessions_in sessions_of
  plain_session session e = grind (arith, nat_tests)

  module _ (c : Prices) where
    -- an object that runs is paid for with its `error` method
    pub run_price : (m : ℕ) → role_of p x Handles ≡ Some m → price c m + perhaps_price c (role_of p x Error) ≤ object_price p c x
    unfolding is_active_in
    run_price m e = grind (arith, nat_tests, shaped Handles m e)

    -- no server has one
    no_answer : (k : Option ClassKind) → kind_of p (Some x) ≡ k → is_some (sessions_in k) ≡ true → perhaps_price c (role_of p x Error) ≡ 0
    unfolding is_active_in sessions_in sessions_of
    no_answer k at server = grind (arith, nat_tests, shaped Error)

    -- each dispatch of a server is within its price
    pub record ServerPrice (session : ℕ) : Type 0 where
      pub accepts : perhaps_price c (role_of p x Accept) + perhaps_price c (role_of p x Error) ≤ object_price p c x
      pub attends : perhaps_price c (role_of p session Service) + perhaps_price c (role_of p x Error) ≤ object_price p c x
      pub parts : c.destruction (An_object_of session) + perhaps_price c (role_of p x Error) ≤ object_price p c x

    pub server_price : (session : ℕ) → sessions_in (kind_of p (Some x)) ≡ Some session → ServerPrice session
    unfolding sessions_in sessions_of
    server_price session e = go (kind_of p (Some x)) refl e
      where
        go : (k : Option ClassKind) → kind_of p (Some x) ≡ k → sessions_in k ≡ Some session → ServerPrice session
        go (Some (Server most y)) at e =
            let same : y ≡ session = cc in
            let a = perhaps_price c (role_of p x Accept) in
            let b = perhaps_price c (role_of p session Service) in
            let d = c.destruction (An_object_of session) in
            let none = no_answer (Some (Server most y)) at refl in
            let is : object_price p c x ≡ max a (max b d) =
            ap (λ k. dispatch_price p c x k) at ∙ ap (λ i. max a (max (perhaps_price c (role_of p i Service)) (c.destruction (An_object_of i)))) same in
            record {
              accepts = omega (arith, none, is, le-max_left a (max b d));
              attends = omega (arith, none, is, le-max_left b d, le-max_right a (max b d));
              parts = omega (arith, none, is, le-max_right b d, le-max_right a (max b d));
            }
        go _ at e = cc

    -- one that accepts is of servers
    pub acceptor_serves : (m : ℕ) → role_of p x Accept ≡ Some m → is_some (sessions_in (kind_of p (Some x))) ≡ true
    acceptor_serves m e = (shaped Accept m e).1.of
