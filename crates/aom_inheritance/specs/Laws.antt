-- The laws of families.
use Rattle.std.specs.Prelude.{ℕ, ◌≡◌, ◌≤◌, ◌<◌, ◌⊎◌, ◌==◌, true, length, slice_get, Option, Some, None}
use Rattle.aom_image.specs.Image.{Image}
use Rattle.aom_image.specs.Views.{class_at, fields_of, method_at}
use Rattle.aom_image.specs.declared.class.ClassDecl.{ClassDecl}
use Rattle.aom_image.specs.declared.method.Method.{Method}
use Rattle.aom_image.specs.declared.method.Role.{Role}
use Rattle.aom_image.specs.declared.method.Thing.{Thing}
use Rattle.aom_image.specs.declared.method.Thing.TheVariants.{Object}
use Rattle.aom_roles.specs.Classes.{kind_at, sessions_at}
use Rattle.aom_roles.specs.Families.{HasNoParents, descends}
use Rattle.aom_link_conditions.specs.Calls.{AllCallsOrdered}
use Rattle.aom_link_conditions.specs.Families.{AllContinue}
use Rattle.aom_link_conditions.specs.Needs.{AllNeedsMet}
use Rattle.aom_link_conditions.specs.Overriding.{AllMayOverride, RequiresNoMore, OverridesNothing, body_of, overrides}
use Rattle.aom_link_conditions.specs.Roles.{own_role, role_of}
use Rattle.aom_inheritance.specs.Weights.{generation, weight}

-- on any image
pub record DescendingIsAnOrder : Type 0 where
  pub itself : (p : Image) (c : ℕ) → descends p c c ≡ true
  pub through : (p : Image) (x y z : ℕ) → descends p x y ≡ true → descends p y z ≡ true → descends p x z ≡ true
  -- a descendant has no lower number
  pub lower : (p : Image) (c d : ℕ) → descends p c d ≡ true → d ≤ c

-- the method is there, of the class or of one above it, in that role
pub record IsInherited (p : Image) (c m : ℕ) (r : Role) : Type 0 where
  pub method : Method
  pub there : method_at p m ≡ Some method
  pub class : ℕ
  pub of : method.class ≡ Some class
  pub role : method.role ≡ r
  pub family : descends p c class ≡ true

pub record FamiliesInherit : Type 0 where
  pub kinds : (p : Image) → AllContinue p → (c d : ℕ) → descends p c d ≡ true → kind_at p c ≡ kind_at p d
  pub words : (p : Image) → AllContinue p → (c d : ℕ) → descends p c d ≡ true → (f e : ClassDecl) → class_at p c ≡ Some f → class_at p d ≡ Some e → e.words ≤ f.words
  pub fields : (p : Image) → AllContinue p → (c d : ℕ) → descends p c d ≡ true → (f : ℕ) (t : Thing) → slice_get (fields_of p d) f ≡ Some t → slice_get (fields_of p c) f ≡ Some t
  pub roles : (p : Image) (c m : ℕ) (r : Role) → role_of p c r ≡ Some m → IsInherited p c m r

-- what the laws of calls use of a method that runs in the place of another
pub record IsAlike (p : Image) (m k : ℕ) (d e : Method) : Type 0 where
  pub there : method_at p k ≡ Some d
  pub named : method_at p m ≡ Some e
  pub role : d.role ≡ e.role
  pub arguments : d.arguments ≡ e.arguments
  pub gives : d.gives ≡ e.gives
  pub asks : RequiresNoMore d e

-- it is one of that class or of one above it, which overrides the named method and is alike
pub record RunsAlike (p : Image) (m c k : ℕ) (e : Method) : Type 0 where
  pub class : ℕ
  pub method : Method
  pub of : method.class ≡ Some class
  pub family : descends p c class ≡ true
  pub overrides : overrides p k m ≡ true
  pub alike : IsAlike p m k method e

abbrev pub BodiesAreAlike : Type 0
BodiesAreAlike = (p : Image) → AllMayOverride p → (m c k : ℕ) (e : Method) → method_at p m ≡ Some e → body_of p m (Some c) ≡ k → (k ≡ m) ⊎ RunsAlike p m c k e

pub record WeightsFall : Type 0 where
  pub fields :
      (p : Image) → AllContinue p → AllCallsOrdered p → AllNeedsMet p →
      (c d f x : ℕ) → slice_get (fields_of p c) f ≡ Some (Object d) → descends p x d ≡ true → weight p x < weight p c
  pub sessions : (p : Image) (c s : ℕ) → sessions_at p c ≡ Some s → sessions_at p s ≡ None → weight p s < weight p c
  pub generations : (p : Image) (x c : ℕ) → x < length p.classes → weight p x < weight p c → generation p x < generation p c
  pub few : (p : Image) (c : ℕ) → c < length p.classes → generation p c < length p.classes

pub record PlainImagesStay : Type 0 where
  pub descending : (p : Image) → HasNoParents p → (c d : ℕ) → descends p c d ≡ (c == d)
  pub roles : (p : Image) → HasNoParents p → (c : ℕ) (r : Role) → role_of p c r ≡ own_role p c r
  pub bodies : (p : Image) → OverridesNothing p → (m : ℕ) (c : Option ℕ) → body_of p m c ≡ m
