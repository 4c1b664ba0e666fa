-- Methods that run in the place of others.
use Rattle.std.specs.Prelude.{◌≡◌, ◌<◌, ℕ, zero, suc, Bool, false, ◌==◌, ◌&&◌, ◌||◌, not, IsTrue, length, position, slice_get, All, Option, Some, None, IfSome}
use Rattle.aom_image.specs.Image.{Image}
use Rattle.aom_image.specs.Views.{has, method_at}
use Rattle.aom_image.specs.declared.method.Method.{Method}
use Rattle.aom_image.specs.declared.method.Role.TheVariants.{Do}
use Rattle.aom_roles.specs.Families.{descends, parent_of}
use Rattle.aom_roles.specs.Firsts.{FirstNot}
use Rattle.aom_roles.specs.Roles.{same_role}
use Rattle.aom_roles.specs.Shapes.{may_leave, is_quiet}
use Rattle.aom_link_conditions.specs.Roles.{is_class, or_else}

-- ---- what a call runs

unfoldable pub over_in : Option Method → Option ℕ
over_in None = None
over_in (Some d) = d.over

-- what a method overrides
abbrev pub overridden_method : Image → ℕ → Option ℕ
overridden_method p k = over_in (method_at p k)

-- that method is among these so many steps of overriding
unfoldable pub leads_in : Image → ℕ → Option ℕ → ℕ → Bool
leads_in p n None m = false
leads_in p zero (Some x) m = x == m
leads_in p (suc n) (Some x) m = (x == m) || leads_in p n (overridden_method p x) m

-- what overrides that one overrides m, itself or through others, of which there are no more than methods
abbrev pub leads_to : Image → Option ℕ → ℕ → Bool
leads_to p over m = leads_in p (length p.methods) over m

abbrev pub overrides : Image → ℕ → ℕ → Bool
overrides p k m = leads_to p (overridden_method p k) m

-- a method of that class overrides m
unfoldable pub replaces : Image → ℕ → ℕ → Method → Bool
replaces p c m d = is_class c d.class && leads_to p d.over m

-- what a class has in the place of m
unfoldable pub overrider_of : Image → ℕ → ℕ → Option ℕ
overrider_of p c m = position (replaces p c m) p.methods

-- what the class has, or the nearest of so many generations above it
unfoldable pub found_in : Image → ℕ → Option ℕ → ℕ → Option ℕ
found_in p n None m = None
found_in p zero (Some c) m = overrider_of p c m
found_in p (suc n) (Some c) m = or_else (overrider_of p c m) (found_in p n (parent_of p c) m)

abbrev pub body_by : ℕ → Option ℕ → ℕ
body_by m None = m
body_by m (Some k) = k

-- the method that a call of m runs on what counts as that class; a call on nothing runs m
unfoldable pub body_of : Image → ℕ → Option ℕ → ℕ
body_of p m None = m
body_of p m (Some c) = body_by m (found_in p c (Some c) m)

-- ---- what is asked of what overrides

-- of a class, and of another that descends from it
unfoldable pub is_below : Image → Option ℕ → Option ℕ → Bool
is_below p (Some c) (Some d) = not (c == d) && descends p c d
is_below p _ _ = false

-- what is asked of a method, and what it promises
pub record RequiresNoMore (d e : Method) : Type 0 where
  -- it leaves only where the other may, and is quiet where the other is
  pub leaves : IsTrue (may_leave d) → IsTrue (may_leave e)
  pub quiet : IsTrue (is_quiet e) → IsTrue (is_quiet d)
  -- it begins in each state in which the other may, and ends in no other one
  pub before : IsTrue (has d.before.0 e.before.0)
  pub after : IsTrue (has e.after.0 d.after.0)

-- of one that stands in the place of another
pub record MayOverride (p : Image) (d e : Method) : Type 0 where
  pub family : IsTrue (is_below p d.class e.class)
  pub role : IsTrue (same_role d.role Do)
  pub same : IsTrue (same_role e.role Do)
  pub arguments : d.arguments ≡ e.arguments
  pub gives : d.gives ≡ e.gives
  pub asks : RequiresNoMore d e

abbrev pub MayOverrideNamed : Image → Method → Type 0
MayOverrideNamed p d = IfSome d.over (λ m. IfSome (method_at p m) (MayOverride p d))

-- each method that overrides another may stand in its place
abbrev pub AllMayOverride : Image → Type 0
AllMayOverride p = All (MayOverrideNamed p) p.methods

-- what overrides m in a class is the first there that does, so there is one at most
abbrev pub IsOnly : Image → ℕ → ℕ → Method → Type 0
IsOnly p m k d = IsTrue (leads_to p d.over m) → IfSome d.class (λ c. overrider_of p c m ≡ Some k)

abbrev pub OverriddenOnce : Image → ℕ → Type 0
OverriddenOnce p m = (k : ℕ) → IfSome (slice_get p.methods k) (IsOnly p m k)

-- no two methods of a class override the same one, themselves or through others
abbrev pub AllOverriddenOnce : Image → Type 0
AllOverriddenOnce p = (m : ℕ) → IfSome (slice_get p.methods m) (λ e. OverriddenOnce p m)

-- a method that overrides one that another of its class overrides before it; none where there is no such
abbrev pub OtherOverrider : Image → Option ℕ → Type 0
OtherOverrider p None = AllOverriddenOnce p
OtherOverrider p (Some k) = (m : ℕ) × (m < length p.methods) × FirstNot (IsOnly p m) p.methods k

-- no method overrides another
abbrev pub OverridesNothing : Image → Type 0
OverridesNothing p = All (λ d. d.over ≡ None) p.methods

-- what overriders ask
pub record OverridersFit (p : Image) : Type 0 where
  pub each : AllMayOverride p
  pub once : AllOverriddenOnce p
