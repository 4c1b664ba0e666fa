-- What the views answer, from what the lists of an image have at an index.
use Rattle.std.proofs.lemmas.Bool.Decides.{nat_tests}
use Rattle.std.proofs.Common.{arith, ◌≡◌, ℕ, ◌<◌, ◌≤◌, List, [], length, IsSome, Some, slice_get, slice_index_or, refl}
use Rattle.std.proofs.lemmas.Option.{slice_get_within, slice_get_read, slice_get_past}
use Rattle.aom_image.specs.Image.{Image}
use Rattle.aom_image.specs.Views.{class_at, method_at, instr_at, instr_in, fields_of, fields_in}
use Rattle.aom_image.specs.declared.class.ClassDecl.{ClassDecl}
use Rattle.aom_image.specs.declared.method.Method.{Method}

-- an index that has an element is within the list
pub within : {X : Type 0} (xs ys : List X) (i k : ℕ) → ys ≡ xs → i ≡ k → IsSome (slice_get xs k) → i < length ys
within xs ys i k e f h = grind (arith, nat_tests, slice_get_within xs k)

-- and what is read there is that element
pub read : {X : Type 0} (xs ys : List X) (i k : ℕ) (x : X) → ys ≡ xs → i ≡ k → IsSome (slice_get xs k) → x ≡ slice_index_or ys i x → slice_get xs k ≡ Some x
read xs ys i k x e f h g = grind (arith, nat_tests, slice_get_read xs, within xs xs k k)

-- a place with an instruction is in a method
pub has_method : (p : Image) (m place : ℕ) → IsSome (instr_at p m place) → IsSome (method_at p m)
unfolding instr_in
has_method p m place h = grind (arith, nat_tests)

pub in_method : (p : Image) (m place : ℕ) (d : Method) → method_at p m ≡ Some d → instr_at p m place ≡ slice_get d.code place
unfolding instr_in
in_method p m place d e = rw e refl

-- a class with a field is a class of the image
pub has_class : (p : Image) (c field : ℕ) → IsSome (slice_get (fields_of p c) field) → IsSome (class_at p c)
unfolding fields_in
has_class p c field h = grind (arith, nat_tests)

pub in_class : (p : Image) (c field : ℕ) (d : ClassDecl) → class_at p c ≡ Some d → slice_get (fields_of p c) field ≡ slice_get d.fields field
unfolding fields_in
in_class p c field d e = rw e refl

-- the fields of a class that is read, and of none
pub fields_found : (p : Image) (cs : List ClassDecl) (c i : ℕ) (d : ClassDecl) → cs ≡ p.classes → i ≡ c → i < length cs → d ≡ slice_index_or cs i d →
    d.fields ≡ fields_of p c
unfolding fields_in class_at
fields_found p cs c i d e f lt at = rw (← e, ← f, slice_get_read cs (length cs) i d refl lt at) refl

pub fields_past : (p : Image) (cs : List ClassDecl) (c i : ℕ) → cs ≡ p.classes → i ≡ c → length cs ≤ i → [] ≡ fields_of p c
unfolding fields_in class_at
fields_past p cs c i e f past = rw (← e, ← f, slice_get_past cs i past) refl
