-- What a look into the lists of an image answers, and past their ends.
use Rattle.std.proofs.Common.{◌≡◌, ◌<◌, ◌≤◌, ℕ, false, List, Some, None, length, slice_index_or, refl}
use Rattle.std.proofs.lemmas.Option.{slice_get_read, slice_get_past}
use Rattle.aom_image.specs.Views.{class_at, gives_in, gives_of, method_at, role_in}
use Rattle.aom_image.specs.declared.class.ClassDecl.{ClassDecl}
use Rattle.aom_image.specs.declared.image.Image.{Image}
use Rattle.aom_image.specs.declared.method.Gives.TheVariants.{Nothing}
use Rattle.aom_image.specs.declared.method.Method.{Method}
use Rattle.aom_image.specs.declared.method.Role.{Role}
use Rattle.aom_roles.specs.Classes.{kind_at, kind_in}
use Rattle.aom_roles.specs.Roles.{same_role}
use Rattle.aom_roles.specs.Shapes.{has_role, is_role}

pub gives_found : (p : Image) (ms : List Method) (m i : ℕ) (d : Method) → ms ≡ p.methods → i ≡ m → i < length ms → d ≡ slice_index_or ms i d → d.gives ≡ gives_of p m
unfolding gives_in method_at
gives_found p ms m i d e f lt at = rw (← e, ← f, slice_get_read ms (length ms) i d refl lt at) refl

pub gives_past : (p : Image) (ms : List Method) (m i : ℕ) → ms ≡ p.methods → i ≡ m → length ms ≤ i → Nothing ≡ gives_of p m
unfolding gives_in method_at
gives_past p ms m i e f past = rw (← e, ← f, slice_get_past ms i past) refl

pub role_found : (p : Image) (ms : List Method) (m i : ℕ) (r : Role) (d : Method) → ms ≡ p.methods → i ≡ m → i < length ms → d ≡ slice_index_or ms i d
    → same_role d.role r ≡ has_role p m r
unfolding is_role role_in method_at
role_found p ms m i r d e f lt at = rw (← e, ← f, slice_get_read ms (length ms) i d refl lt at) refl

pub role_past : (p : Image) (ms : List Method) (m i : ℕ) (r : Role) → ms ≡ p.methods → i ≡ m → length ms ≤ i → false ≡ has_role p m r
unfolding is_role role_in method_at
role_past p ms m i r e f past = rw (← e, ← f, slice_get_past ms i past) refl

pub kind_found : (p : Image) (cs : List ClassDecl) (c i : ℕ) (d : ClassDecl) → cs ≡ p.classes → i ≡ c → i < length cs → d ≡ slice_index_or cs i d →
    Some d.kind ≡ kind_at p c
unfolding kind_in class_at
kind_found p cs c i d e f lt at = rw (← e, ← f, slice_get_read cs (length cs) i d refl lt at) refl

pub kind_past : (p : Image) (cs : List ClassDecl) (c i : ℕ) → cs ≡ p.classes → i ≡ c → length cs ≤ i → None ≡ kind_at p c
unfolding kind_in class_at
kind_past p cs c i e f past = rw (← e, ← f, slice_get_past cs i past) refl
