-- How long a spelling is, from the counts of its parts.
use Rattle.std.proofs.Common.{◌≡◌, ℕ, zero, suc, ◌+◌, ◌-◌, ◌*◌, ◌≤◌, List, [], ◌∷◌, ◌++◌, length, All, Option, sum_by, refl, arith, flat_map, length-append}
use Rattle.std.proofs.lemmas.List.Concat.{length-flat_map}
use Rattle.std.proofs.lemmas.List.Sums.{sum_by-cons}
use Rattle.aom_image.specs.Image.{Image}
use Rattle.aom_image.specs.declared.class.ClassDecl.{ClassDecl}
use Rattle.aom_image.specs.declared.method.Method.{Method}
use Rattle.aom_codec.specs.Serialization.{next_u16, next_u32, unused_pairs, thing_number, argument_number, result_number, family_bytes, class, method, instruction, serialize}
use Rattle.aom_image.specs.WellFormed.{ClassesFit, MethodsFit, serialized_size}
use Rattle.aom_instructions.specs.Versions.{family_bytes as family_size}
use Rattle.aom_instructions.specs.declared.version.Version.{Version}

pub head_of : {X : Type 0} (P : X → Type 0) (x : X) (xs : List X) → All P (x ∷ xs) → P x
head_of P x xs h = h 0 x (omega arith)

pub rest_of : {X : Type 0} (P : X → Type 0) (x : X) (xs : List X) → All P (x ∷ xs) → All P xs
rest_of P x xs h k d lt = h (suc k) d (omega arith)

-- a sum of what is the same for each
sum_by-same : {X : Type 0} (f g : X → ℕ) (xs : List X) → All (λ x. f x ≡ g x) xs → sum_by f xs ≡ sum_by g xs
sum_by-same f g [] h = refl
sum_by-same f g (x ∷ xs) h =
    omega (arith, sum_by-cons f x xs, sum_by-cons g x xs, head_of (λ x. f x ≡ g x) x xs h, sum_by-same f g xs (rest_of (λ x. f x ≡ g x) x xs h))

sum_by-constant : {X : Type 0} (n : ℕ) (xs : List X) → sum_by (λ x. n) xs ≡ length xs * n
sum_by-constant n [] = omega arith
sum_by-constant {X} n (x ∷ xs) = omega (arith, sum_by-cons (λ (x : X). n) x xs, sum_by-constant n xs)

length-unused_pairs : (n : ℕ) → length (unused_pairs n) ≡ 2 * n
length-unused_pairs zero = refl
length-unused_pairs (suc n) = omega (arith, length-append (next_u16 0) (unused_pairs n), length-unused_pairs n)

length-pairs : {X : Type 0} (f : X → ℕ) (xs : List X) → length (flat_map (λ x. next_u16 (f x)) xs) ≡ 2 * length xs
length-pairs f xs = omega (arith, length-flat_map (λ x. next_u16 (f x)) xs, sum_by-constant 2 xs)

length_family : (version : Version) (o : Option ℕ) → length (family_bytes version o) ≡ family_size version
length_family x o = grind arith

length_class : (version : Version) (c : ClassDecl) → length c.fields ≤ 8 → length (class version c) ≡ 28 + family_size version
length_class version c le =
    let fields = flat_map (λ t. next_u16 (thing_number t)) c.fields in
    let unused = unused_pairs (8 - length c.fields) in
    let last = next_u32 c.budget ++ family_bytes version c.parent in
    omega (
      arith,
      length-append fields (unused ++ last),
      length-append unused last,
      length-append (next_u32 c.budget) (family_bytes version c.parent),
      length_family version c.parent,
      length-pairs thing_number c.fields,
      length-unused_pairs (8 - length c.fields),
    )

length_method : (version : Version) (m : Method) → length m.arguments ≤ 6 → length (method version m) ≡ 24 + family_size version + 8 * length m.code
length_method version m le =
    let arguments = flat_map (λ a. next_u16 (argument_number a)) m.arguments in
    let unused = unused_pairs (6 - length m.arguments) in
    let code = flat_map instruction m.code in
    let family = family_bytes version m.over in
    let last = next_u16 (result_number m.gives) ++ (next_u16 (length m.code) ++ (family ++ code)) in
    omega (
      arith,
      length-append arguments (unused ++ last),
      length-append unused last,
      length-append family code,
      length_family version m.over,
      length-pairs argument_number m.arguments,
      length-unused_pairs (6 - length m.arguments),
      length-flat_map instruction m.code,
      sum_by-constant 8 m.code,
    )

pub length_serialize : (i : Image) → ClassesFit i.header.version i.header.natives i.classes → MethodsFit i.header.version (length i.classes) i.methods
    → length (serialize i) ≡ serialized_size i.header.version (length i.classes) i.methods
length_serialize i classes methods =
    let v = i.header.version in
    let more = family_size v in
    let each_class : All (λ c. length (class v c) ≡ 28 + more) i.classes = grind (arith, length_class v) in
    let each_method : All (λ m. length (method v m) ≡ 24 + more + 8 * length m.code) i.methods = grind (arith, length_method v) in
    omega (
      arith,
      length-append (flat_map (class v) i.classes) (flat_map (method v) i.methods),
      length-flat_map (class v) i.classes,
      length-flat_map (method v) i.methods,
      sum_by-same (λ c. length (class v c)) (λ c. 28 + more) i.classes each_class,
      sum_by-constant (28 + more) i.classes,
      sum_by-same (λ m. length (method v m)) (λ m. 24 + more + 8 * length m.code) i.methods each_method,
    )
