-- The formats spell what the spelling says.
use Rattle.std.proofs.lemmas.Bool.Decides.{nat_tests}
use Rattle.std.proofs.Common.{arith, ◌≡◌, ℕ, zero, suc, ◌+◌, ◌-◌, List, [], ◌∷◌, ◌++◌, length, Option, refl, ap, ◌∙◌, flat_map, add-one}
use Rattle.aom_image.specs.Image.{Image}
use Rattle.aom_codec.specs.Serialization as text
use Rattle.aom_codec.specs.Codec.{Codec, next_u16, always, keep, serialize_many, unused}
use Rattle.aom_codec.specs.Instructions.{instruction}
use Rattle.aom_instructions.specs.Fits.{limits}
use Rattle.aom_codec.specs.Format.{thing, argument, class, count_server, over, method, image}
use Rattle.aom_codec.specs.declared.fault.LoadFault.TheVariants.{NotZero}
use Rattle.aom_instructions.specs.declared.limits.Limits.{Limits}
use Rattle.aom_instructions.specs.declared.version.Version.{Version}
use Rattle.aom_image.specs.declared.class.ClassDecl.{ClassDecl}
use Rattle.aom_image.specs.declared.class.ClassKind.{ClassKind}
use Rattle.aom_image.specs.declared.method.Thing.{Thing}
use Rattle.aom_image.specs.declared.method.Argument.{Argument}
use Rattle.aom_image.specs.declared.method.Method.{Method}
use Rattle.aom_instructions.specs.declared.instr.Instr.{Instr}

many_serialized : {S X : Type 0} (c : S → Codec X) (add : S → X → S) (f : X → List ℕ) → ((s : S) (x : X) → (c s).serialize x ≡ f x) → (s : S) (xs : List X) →
    serialize_many c add s xs ≡ flat_map f xs
many_serialized c add f each s [] = refl
many_serialized c add f each s (x ∷ xs) = grind (arith, nat_tests, many_serialized c add f each (add s x) xs)

unused_serialized : (n : ℕ) → (unused n next_u16 NotZero).serialize tt ≡ text.unused_pairs n
unused_serialized zero = refl
unused_serialized (suc n) = ap (λ t. text.next_u16 0 ++ t) (unused_serialized n)

-- the fields of a class, and the unused ones after them
fields_serialized : (classes : ℕ) (fields : List Thing) (n : ℕ) (last : List ℕ) → serialize_many (always (thing classes)) keep tt fields
    ++ ((unused n next_u16 NotZero).serialize tt ++ last) ≡ flat_map (λ t. text.next_u16 (text.thing_number t)) fields ++ (text.unused_pairs n ++ last)
fields_serialized classes fields n last = grind (arith, nat_tests, many_serialized, unused_serialized n)

over_serialized : (version : Version) (methods : ℕ) (o : Option ℕ) → (over version methods).serialize o ≡ text.family_bytes version o
over_serialized x methods o = grind arith

class_serialized : (version : Version) (classes natives servers : ℕ) (kind : ClassKind) (above : Option ℕ) (words : ℕ) (fields : List Thing) (budget : ℕ) →
    let c : ClassDecl = record { kind = kind; parent = above; words = words; fields = fields; budget = budget } in
    (class version classes natives servers).serialize c ≡ text.class version c
class_serialized version classes natives servers kind above words fields budget = grind (arith, fields_serialized classes fields)

code_serialized : (l : Limits) (code : List Instr) → serialize_many (always (instruction l)) keep tt code ≡ flat_map text.instruction code
code_serialized l code = many_serialized (always (instruction l)) keep text.instruction (λ s x. refl) tt code

arguments_serialized : (classes : ℕ) (arguments : List Argument) →
    serialize_many (always (argument classes)) keep tt arguments ≡ flat_map (λ a. text.next_u16 (text.argument_number a)) arguments
arguments_serialized classes arguments = many_serialized (always (argument classes)) keep (λ a. text.next_u16 (text.argument_number a)) (λ s x. refl) tt arguments

method_serialized : (version : Version) (classes methods : ℕ) (m : Method) → (method version classes methods).serialize m ≡ text.method version m
method_serialized version classes methods m = let front = λ (t : List ℕ). text.next_u16
    (text.class_number m.class) ++ (text.role_number m.role ∷ m.flags.0 ∷ m.before.0 ∷ m.after.0 ∷ length m.arguments ∷ text.gives_byte m.gives ∷ t) in
    let last = λ (family t : List ℕ). text.next_u16 (text.result_number m.gives) ++ (text.next_u16 (length m.code) ++ (family ++ t)) in
    let code = serialize_many (always (instruction (limits version classes methods (length m.code)))) keep tt m.code in
    let arguments = flat_map (λ a. text.next_u16 (text.argument_number a)) m.arguments in
    let family = (over version methods).serialize m.over in
    let n = 6 - length m.arguments in
    ap (λ t. front (t ++ ((unused n next_u16 NotZero).serialize tt ++ last family code))) (arguments_serialized classes m.arguments)
    ∙ ap (λ t. front (arguments ++ (t ++ last family code))) (unused_serialized n) ∙ ap (λ t. front (arguments ++ (text.unused_pairs n ++ last t code)))
    (over_serialized version methods m.over) ∙ ap (λ t. front (arguments ++ (text.unused_pairs n ++ last (text.family_bytes version m.over) t)))
    (code_serialized (limits version classes methods (length m.code)) m.code)

pub image_serialized : (i : Image) → image.serialize i ≡ text.serialize i
image_serialized i =
    let v = i.header.version in
    let classes = length i.classes in
    let methods = length i.methods in
    let first = text.header classes methods i.header in
    ap (λ t. first ++ (t ++ serialize_many (always (method v classes methods)) keep tt i.methods)) (many_serialized (class v classes i.header.natives) count_server
    (text.class v) (λ s c. class_serialized v classes i.header.natives s c.kind c.parent c.words c.fields c.budget) 0 i.classes)
    ∙ ap (λ t. first ++ (flat_map (text.class v) i.classes ++ t))
    (many_serialized (always (method v classes methods)) keep (text.method v) (λ s m. method_serialized v classes methods m) tt i.methods)

-- one more unused pair at the end
unused_pairs-suc : (n : ℕ) → text.unused_pairs (suc n) ≡ text.unused_pairs n ++ text.next_u16 0
unused_pairs-suc zero = refl
unused_pairs-suc (suc n) = ap (λ t. text.next_u16 0 ++ t) (unused_pairs-suc n)

pub unused_pairs-more : (n : ℕ) → text.unused_pairs (n + 1) ≡ text.unused_pairs n ++ text.next_u16 0
unused_pairs-more n = ap text.unused_pairs (add-one n) ∙ unused_pairs-suc n
