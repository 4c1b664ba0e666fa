-- What a call runs takes and gives what the method called does, asks no more of its object and promises no less: by what is said of overriders.
use Rattle.std.proofs.lemmas.Bool.Decides.{nat_tests}
use Rattle.std.proofs.Common.{arith, Bool, IsTrue, None, Option, Some, ap, false, inl, inr, map, refl, subst, suc, sym, true, zero, ℕ, ◌==◌, ◌∙◌, ◌≡◌}
use Rattle.std.proofs.lemmas.Bool.{eqb-true}
use Rattle.std.specs.Prelude.{IsSome, is_some}
use Rattle.aom_safety.proofs.ImageLemmas.{some_given}
use Rattle.aom_image.specs.Image.{Image}
use Rattle.aom_image.specs.Views.{arguments_in, arguments_of, class_in, gives_in, gives_of, has, is_quiet, leaves}
use Rattle.aom_image.specs.Views.{leaves_in, method_at, method_class, method_role, quiet_in, role_in}
use Rattle.aom_image.specs.declared.method.Method.{Method}
use Rattle.aom_image.specs.declared.method.Role.TheVariants.{Construct, Do}
use Rattle.aom_safety.proofs.LinkConditionsLemmas.{all_there, same_roles}
use Rattle.aom_link_conditions.specs.Overriding.{AllMayOverride, MayOverrideNamed, body_of, leads_in, over_in, overrides}
use Rattle.aom_safety.proofs.InheritanceLemmas.{bodies_are_alike}
use Rattle.aom_inheritance.specs.Laws.{RunsAlike}
use Rattle.aom_safety.proofs.RolesLemmas.{through}
use Rattle.aom_roles.specs.Families.{descends}
use Rattle.aom_safety.proofs.AbstractStateLemmas.{has_along, has_itself}
use Rattle.aom_abstract_state.specs.Arguments.{after_in, after_of, argument_kind, before_in, before_of, entry_fields, entry_shape}
use Rattle.aom_abstract_state.specs.Kinds.{field}
use Rattle.aom_abstract_state.specs.Order.{IsImpliedBy, Weaker, WeakerFilling}
use Rattle.aom_abstract_state.specs.AbstractState.{AbstractState}
use Rattle.aom_roles.specs.Tables.{at}
use Rattle.aom_roles.specs.Things.{field_thing, Holder, Member, holder_of}
use Rattle.aom_abstract_state.specs.declared.kind.FieldState.TheVariants.{Perhaps}
use Rattle.aom_abstract_state.specs.declared.kind.Kind.TheVariants.{Unset}
use Rattle.aom_abstract_state.specs.Kinds.{register}
use Rattle.aom_safety.proofs.Callees.{holder_called}
use Rattle.aom_safety.proofs.ReceiverHolding.{receiver_conforms_family}
use Rattle.aom_safety.specs.Laws.{IsCalled, IsWired}
use Rattle.aom_safety.specs.WellTyped.{CountsAs, ReceiverConforms}

-- k runs in the place of m on what counts as that
pub record RunsFor (p : Image) (m k : ℕ) (h : Holder) (view : Option ℕ) : Type 0 where
  pub there : IsSome (method_at p k)
  pub role : method_role p k ≡ method_role p m
  pub arguments : arguments_of p k ≡ arguments_of p m
  pub gives : gives_of p k ≡ gives_of p m
  pub leaves : leaves p k ≡ true → leaves p m ≡ true
  pub quiet : is_quiet p m ≡ true → is_quiet p k ≡ true
  pub before : IsTrue (has (before_of p k) (before_of p m))
  pub after : IsTrue (has (after_of p m) (after_of p k))
  pub holder : ReceiverConforms p h (holder_of p k)
  pub counts : CountsAs p h view (holder_of p k)
  -- nothing runs in the place of a construct
  pub only : method_role p m ≡ Some Construct → k ≡ m

-- where nothing overrides the method
itself_runs : (p : Image) (m : ℕ) (h : Holder) (view : Option ℕ) → IsSome (method_at p m) → ReceiverConforms p h (holder_of p m) →
    CountsAs p h view (holder_of p m) → RunsFor p m m h view
itself_runs p m h view there receiver_conforms counts = record {
  there = there;
  role = refl;
  arguments = refl;
  gives = refl;
  leaves = λ l. l;
  quiet = λ q. q;
  before = has_itself (before_of p m);
  after = has_itself (after_of p m);
  holder = receiver_conforms;
  counts = counts;
  only = λ r. refl;
}

-- what leads to a method that is there is there
leads_there : (p : Image) (m : ℕ) (d : Method) → method_at p m ≡ Some d → (n z : ℕ) → leads_in p n (Some z) m ≡ true → (e : Method) × (method_at p z ≡ Some e)
unfolding leads_in over_in
leads_there p m d named n z leads = go (method_at p z) refl n leads
  where
    itself : (b : Bool) → (z == m) ≡ b → method_at p z ≡ None → b ≡ true → ⊥
    itself true same none e = let clash : Some d ≡ None = sym named ∙ ap (method_at p) (sym (eqb-true z m same)) ∙ none in cc
    itself false same none e = cc

    go : (o : Option Method) → method_at p z ≡ o → (n : ℕ) → leads_in p n (Some z) m ≡ true → (e : Method) × (method_at p z ≡ Some e)
    go (Some e) at n leads = (e, at)
    go None at zero leads = absurd (itself (z == m) refl at leads)
    go None at (suc n) leads = absurd (grind (arith, nat_tests, itself))

-- what overrides a method is a plain one
overrides_plainly : (p : Image) → AllMayOverride p → (m k : ℕ) (d e : Method) → method_at p m ≡ Some e → method_at p k ≡ Some d → overrides p k m ≡ true → d.role ≡ Do
unfolding leads_in over_in method_at
overrides_plainly p fit m k d e there at over =
    grind (arith, nat_tests, leads_there p m e there, there, all_there (MayOverrideNamed p) p.methods k d fit at, same_roles d.role Do)

-- and where something does
overrider_runs : (p : Image) → IsWired p → (m v k : ℕ) (h : Holder) (e : Method) → IsCalled p m → RunsAlike p m v k e → CountsAs p h (Some v) (holder_of p m) →
    RunsFor p m k h (Some v)
unfolding arguments_in gives_in leaves_in quiet_in role_in class_in before_in after_in
overrider_runs p wired m v k h e called x counts = record {
  there = ap is_some x.alike.there;
  role = role;
  arguments = ap arguments_in x.alike.there ∙ x.alike.arguments ∙ sym (ap arguments_in x.alike.named);
  gives = ap gives_in x.alike.there ∙ x.alike.gives ∙ sym (ap gives_in x.alike.named);
  leaves = λ l. ap leaves_in x.alike.named ∙ x.alike.asks.leaves (sym (ap leaves_in x.alike.there) ∙ l);
  quiet = λ q. ap quiet_in x.alike.there ∙ x.alike.asks.quiet (sym (ap quiet_in x.alike.named) ∙ q);
  before = grind (arith, nat_tests);
  after = grind (arith, nat_tests);
  holder = subst (λ y. ReceiverConforms p h y) (sym works) (subst
      (λ y. ReceiverConforms p y (Member x.class)) (sym object.1) (receiver_conforms_family p wired.family object.0 x.class (through p object.0 v x.class object.2 x.family)));
  only = grind (arith, nat_tests, overrides_plainly p wired.overriders m k x.method e x.alike.named x.alike.there x.overrides, role);
  counts = record {
    some = λ c is. (v, refl);
    between = grind (arith, nat_tests);
    fields = λ f t is. wired.family.inherits v x.class f t x.family (ap (λ y. field_thing p y f) (sym works) ∙ is);
  };
}
  where
    role : method_role p k ≡ method_role p m
    role = ap role_in x.alike.there ∙ ap (λ r. Some r) x.alike.role ∙ sym (ap role_in x.alike.named)

    class : method_class p k ≡ Some x.class
    class = ap class_in x.alike.there ∙ x.of

    works : holder_of p k ≡ Member x.class
    works = grind (arith, nat_tests, class, role, holder_called)

    object : (c : ℕ) × (h ≡ Member c) × (descends p c v ≡ true) × (d : ℕ) × (holder_of p m ≡ Member d) × (descends p v d ≡ true)
    object = counts.between v refl

    same : (w : ℕ) → Some v ≡ Some w → v ≡ w
    same w is = cc

pub runs_for : (p : Image) → IsWired p → (m : ℕ) (view : Option ℕ) (h : Holder) → IsCalled p m → ReceiverConforms p h (holder_of p m) →
    CountsAs p h view (holder_of p m) → RunsFor p m (body_of p m view) h view
unfolding body_of
runs_for p wired m None h called receiver_conforms counts = itself_runs p m h None called.there receiver_conforms counts
runs_for p wired m (Some v) h called receiver_conforms counts = some_given (λ o. IsSome o) (method_at p m) called.there (λ none. cc) (λ e at there.
    elim (bodies_are_alike p wired.overriders m v (body_of p m (Some v)) e at refl) [
      | inl same ↦ subst (λ k. RunsFor p m k h (Some v)) (sym same) (itself_runs p m h (Some v) called.there receiver_conforms counts)
      | inr x ↦ overrider_runs p wired m v (body_of p m (Some v)) h e called x counts
    ])

-- what says no more than its first state says no more than that of the method called
pub begins_as : (p : Image) (m k : ℕ) (h : Holder) (view : Option ℕ) → RunsFor p m k h view → (after : AbstractState) → IsImpliedBy after (entry_shape p k) →
    IsImpliedBy after (entry_shape p m)
begins_as p m k h view runs after w = record {
  registers = λ i. subst (λ xs. Weaker (register after i) (at Unset (map argument_kind xs) i)) runs.arguments (w.registers i);
  fields = λ i. subst (λ r. WeakerFilling (field after i) (at Perhaps (entry_fields r) i)) runs.role (w.fields i);
  entries = w.entries;
  states = has_along after.states (before_of p k) (before_of p m) w.states runs.before;
  message_state = w.message_state;
}

-- what runs in the place of a quiet method is quiet
pub body_quiet : (p : Image) → AllMayOverride p → (m : ℕ) (view : Option ℕ) → is_quiet p m ≡ true → is_quiet p (body_of p m view) ≡ true
unfolding body_of quiet_in
body_quiet p fit m None q = q
body_quiet p fit m (Some v) q = some_given (λ o. quiet_in o ≡ true) (method_at p m) q (λ none. cc) (λ e at nonquiet.
    elim (bodies_are_alike p fit m v (body_of p m (Some v)) e at refl) [
      | inl same ↦ ap (is_quiet p) same ∙ q
      | inr x ↦ ap quiet_in x.alike.there ∙ x.alike.asks.quiet nonquiet
    ])

-- and leaves only where the method may
pub body_leaves : (p : Image) → AllMayOverride p → (m : ℕ) (view : Option ℕ) → IsSome (method_at p m) → leaves p (body_of p m view) ≡ true → leaves p m ≡ true
unfolding body_of leaves_in
body_leaves p fit m None there l = l
body_leaves p fit m (Some v) there l = some_given (λ o. IsSome o) (method_at p m) there (λ none. cc) (λ e at some.
    elim (bodies_are_alike p fit m v (body_of p m (Some v)) e at refl) [
      | inl same ↦ sym (ap (leaves p) same) ∙ l
      | inr x ↦ ap leaves_in x.alike.named ∙ x.alike.asks.leaves (sym (ap leaves_in x.alike.there) ∙ l)
    ])
