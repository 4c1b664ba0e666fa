-- Which methods a class needs, and which it may have once.
use Rattle.std.specs.Prelude.{◌≡◌, ◌≤◌, ◌<◌, ◌↔◌, ℕ, Bool, List, length, Option, Some, None, IfSome, IsSome, IsTrue, slice_get, take, count_by}
use Rattle.aom_image.specs.Image.{Image}
use Rattle.aom_image.specs.Views.{class_at}
use Rattle.aom_image.specs.declared.class.ClassDecl.{ClassDecl}
use Rattle.aom_image.specs.declared.class.ClassKind.{ClassKind}
use Rattle.aom_image.specs.declared.class.ClassKind.TheVariants as kinds
use Rattle.aom_image.specs.declared.method.Method.{Method}
use Rattle.aom_image.specs.declared.method.Role.{Role}
use Rattle.aom_image.specs.declared.method.Role.TheVariants.{Construct, Destruct, Run, Cancel, Error, Accept, Service}
use Rattle.aom_link_conditions.specs.declared.kept.Kept.{Kept}
use Rattle.aom_link_conditions.specs.Roles.{own_role, role_of, fills_role, is_main}

-- a class has a method with that role
abbrev pub Has : Image → ℕ → Role → Type 0
Has p c r = IsSome (role_of p c r)

-- which classes have a method with that role, in a table
pub record AreKept (p : Image) (r : Role) (flags : List Bool) : Type 0 where
  pub size : length flags ≡ 256
  pub each : (c : ℕ) → IfSome (slice_get flags c) (λ b. IsTrue b ↔ Has p c r)

-- the tables of an image
pub record IsKept (p : Image) (k : Kept) : Type 0 where
  pub runs : AreKept p Run k.runs.items
  pub cancels : AreKept p Cancel k.cancels.items
  pub destructs : AreKept p Destruct k.destructs.items

-- the methods of an active class
pub record HasActive (p : Image) (c : ℕ) : Type 0 where
  pub run : Has p c Run
  pub cancel : Has p c Cancel
  pub destruct : Has p c Destruct

-- what the kind of a class needs
abbrev pub KindNeeds : Image → ℕ → ClassKind → Type 0
KindNeeds p c kinds.Plain = Unit {0}
KindNeeds p c (kinds.Active provider) = HasActive p c
KindNeeds p c (kinds.Server most session) = Has p c Accept
KindNeeds p c kinds.Session = Has p c Service

-- a class that owns more than its parent needs a destructor of its own
abbrev pub EmptiesMore : Image → ℕ → ClassDecl → Type 0
EmptiesMore p c d = IfSome d.parent (λ e. IfSome (class_at p e) (λ f. length f.fields < length d.fields → IsSome (own_role p c Destruct)))

-- and a class that owns needs a destructor
pub record NeedsMet (p : Image) (c : ℕ) (d : ClassDecl) : Type 0 where
  pub kind : KindNeeds p c d.kind
  pub owner : 0 < length d.fields → Has p c Destruct
  pub more : EmptiesMore p c d

abbrev pub EachNeedsMet : Image → List ClassDecl → Type 0
EachNeedsMet p classes = (c : ℕ) → IfSome (slice_get classes c) (NeedsMet p c)

-- each class has the methods that it needs
abbrev pub AllNeedsMet : Image → Type 0
AllNeedsMet p = EachNeedsMet p p.classes

-- a class has one method at most with that role
abbrev pub AtMostOne : List Method → ℕ → Role → Type 0
AtMostOne methods c r = count_by (fills_role c r) methods ≤ 1

-- a class has each role but do once
pub record ClassSingle (methods : List Method) (c : ℕ) : Type 0 where
  pub construct : AtMostOne methods c Construct
  pub destruct : AtMostOne methods c Destruct
  pub run : AtMostOne methods c Run
  pub cancel : AtMostOne methods c Cancel
  pub error : AtMostOne methods c Error
  pub accept : AtMostOne methods c Accept
  pub service : AtMostOne methods c Service

abbrev pub EachSingle : List Method → List ClassDecl → Type 0
EachSingle methods classes = (c : ℕ) → IfSome (slice_get classes c) (λ d. ClassSingle methods c)

-- the second main; none where there are no two
abbrev pub SecondMain : List Method → Option ℕ → Type 0
SecondMain methods None = count_by is_main methods ≤ 1
SecondMain methods (Some k) = (k < length methods) × IfSome (slice_get methods k) (λ d. IsTrue (is_main d)) × (count_by is_main (take k methods) ≡ 1)

-- no class has two methods of one such role, and there are no two mains
pub record RolesSingle (p : Image) : Type 0 where
  pub classes : EachSingle p.methods p.classes
  pub main : count_by is_main p.methods ≤ 1
