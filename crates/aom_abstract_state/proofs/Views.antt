-- What a method or a class says, from what the lists of an image have.
use Rattle.std.proofs.Common.{◌≡◌, ℕ, ◌<◌, ◌≤◌, List, [], length, Some, None, slice_get, slice_index_or, refl, ap, subst, sym}
use Rattle.std.proofs.lemmas.Option.{slice_get_past, slice_get_read}
use Rattle.aom_image.specs.Image.{Image}
use Rattle.aom_image.specs.Views.{method_at, gives_of, gives_in, is_quiet, quiet_in, leaves, leaves_in, has, method_role, role_in}
use Rattle.aom_image.specs.Views.{method_class, class_in, arguments_of, arguments_in, class_at, fields_of, fields_in}
use Rattle.aom_image.specs.declared.class.ClassDecl.{ClassDecl}
use Rattle.aom_image.specs.declared.method.Method.{Method}
use Rattle.aom_abstract_state.specs.Arguments.{after_in, after_of, before_in, before_of}
use Rattle.aom_roles.specs.Things.{holder_of, holder_by, words_of, words_in}

pub gives_there : (p : Image) (m : ℕ) (d : Method) → method_at p m ≡ Some d → gives_of p m ≡ d.gives
unfolding gives_in
gives_there p m d e = ap gives_in e

pub quiet_there : (p : Image) (m : ℕ) (d : Method) → method_at p m ≡ Some d → is_quiet p m ≡ has d.flags.0 2
unfolding quiet_in
quiet_there p m d e = ap quiet_in e

pub leaves_there : (p : Image) (m : ℕ) (d : Method) → method_at p m ≡ Some d → leaves p m ≡ has d.flags.0 1
unfolding leaves_in
leaves_there p m d e = ap leaves_in e

pub role_there : (p : Image) (m : ℕ) (d : Method) → method_at p m ≡ Some d → method_role p m ≡ Some d.role
unfolding role_in
role_there p m d e = ap role_in e

pub class_there : (p : Image) (m : ℕ) (d : Method) → method_at p m ≡ Some d → method_class p m ≡ d.class
unfolding class_in
class_there p m d e = ap class_in e

pub holder_there : (p : Image) (m : ℕ) (d : Method) → method_at p m ≡ Some d → holder_of p m ≡ holder_by (Some d.role) d.class
unfolding role_in class_in
holder_there p m d e = ap (λ o. holder_by (role_in o) (class_in o)) e

pub arguments_there : (p : Image) (m : ℕ) (d : Method) → method_at p m ≡ Some d → arguments_of p m ≡ d.arguments
unfolding arguments_in
arguments_there p m d e = ap arguments_in e

pub before_there : (p : Image) (m : ℕ) (d : Method) → method_at p m ≡ Some d → before_of p m ≡ d.before.0
unfolding before_in
before_there p m d e = ap before_in e

pub after_there : (p : Image) (m : ℕ) (d : Method) → method_at p m ≡ Some d → after_of p m ≡ d.after.0
unfolding after_in
after_there p m d e = ap after_in e

-- a class that the list has, and one that it has not
class_none : (p : Image) (c i : ℕ) (xs : List ClassDecl) → xs ≡ p.classes → i ≡ c → length xs ≤ i → class_at p c ≡ None
unfolding class_at
class_none p c i xs e f h = slice_get_past p.classes c (subst (λ ys. length ys ≤ c) e (subst (λ j. length xs ≤ j) f h))

class_some : (p : Image) (c i : ℕ) (xs : List ClassDecl) (d : ClassDecl) → xs ≡ p.classes → i ≡ c → i < length xs → d ≡ slice_index_or xs i d → class_at p c ≡ Some d
unfolding class_at
class_some p c i xs d e f h g = subst (λ ys. slice_get ys c ≡ Some d) e (subst (λ j. slice_get xs j ≡ Some d) f (slice_get_read xs (length xs) i d refl h g))

pub fields_none : (p : Image) (c i : ℕ) (xs : List ClassDecl) → xs ≡ p.classes → i ≡ c → length xs ≤ i → [] ≡ fields_of p c
unfolding fields_in
fields_none p c i xs e f h = sym (ap fields_in (class_none p c i xs e f h))

pub fields_some : (p : Image) (c i : ℕ) (xs : List ClassDecl) (d : ClassDecl) → xs ≡ p.classes → i ≡ c → i < length xs → d ≡ slice_index_or xs i d →
    d.fields ≡ fields_of p c
unfolding fields_in
fields_some p c i xs d e f h g = sym (ap fields_in (class_some p c i xs d e f h g))

pub words_none : (p : Image) (c i : ℕ) (xs : List ClassDecl) → xs ≡ p.classes → i ≡ c → length xs ≤ i → 0 ≡ words_of p c
unfolding words_in
words_none p c i xs e f h = sym (ap words_in (class_none p c i xs e f h))

pub words_some : (p : Image) (c i : ℕ) (xs : List ClassDecl) (d : ClassDecl) → xs ≡ p.classes → i ≡ c → i < length xs →
    d ≡ slice_index_or xs i d → d.words ≡ words_of p c
unfolding words_in
words_some p c i xs d e f h g = sym (ap words_in (class_some p c i xs d e f h g))
