-- The two laws of each format of an image, from those of its parts.
use Rattle.std.proofs.lemmas.Bool.Decides.{nat_tests}
use Rattle.std.proofs.lemmas.Option.{same_Some}
use Rattle.std.proofs.Common.{◌≡◌, ℕ, ◌-◌, ◌<◌, ◌≤◌, Bool, true, cond, eqb, ltb, leb, List, [], ◌∷◌, length, Option, Some, None, Result, Ok, refl, sym, ap}
use Rattle.std.proofs.Common.{◌∙◌, arith, eqb-true, lit<, ◌&&◌}
use Rattle.std.proofs.lemmas.Bool.{leb-true, le-leb, and_parts}
use Rattle.aom_image.specs.Image.{Image}
use Rattle.std.specs.List.{find}
use Rattle.aom_codec.proofs.InstructionsLemmas.{making_parts_again}
use Rattle.aom_instructions.specs.Mnemonics.{is_in, with_opcode}
use Rattle.aom_instructions.specs.Table.{mnemonic, operands, mnemonics, row}
use Rattle.aom_instructions.specs.declared.kinds.Kinds.{Kinds}
use Rattle.aom_instructions.specs.declared.kinds.LargeKind.{LargeKind}
use Rattle.aom_instructions.specs.declared.kinds.SmallKind.{SmallKind}
use Rattle.aom_instructions.specs.declared.mnemonic.Mnemonic.{Mnemonic}
use Rattle.aom_instructions.specs.declared.operand.Operands.{Operands}
use Rattle.aom_codec.specs.Serialization.{class_number, result_number, kind_byte}
use Rattle.aom_codec.specs.Codec.{Codec, byte, next_u16, next_u32, nothing, fixed, always, keep, FitMany, unused, is_between_dispatches, limited}
use Rattle.aom_codec.specs.Instructions.{all_operands, instruction, known, large_operand, opcode, small_operand}
use Rattle.aom_codec.specs.Serialization.{provider_sort, native_number}
use Rattle.aom_instructions.specs.Fits.{limits}
use Rattle.aom_codec.specs.Format.{class_from, class_or_none, version, unreported, of_family, parent_from, parent, over, thing, argument, opening_fields, opening}
use Rattle.aom_codec.specs.Format.{last_provider, provider_from, provider, no_session, bare, session_class, active_part, active_provider, server_part}
use Rattle.aom_codec.specs.Format.{server_numbers, kind, budget, kind_sort, class_parts, class, count_server, role, flags, states, result_sort, gives_from}
use Rattle.aom_codec.specs.Format.{result, method_parts, method, image_parts, opening_of, image}
use Rattle.aom_codec.specs.declared.fault.LoadFault.{LoadFault}
use Rattle.aom_codec.specs.declared.fault.LoadFault.TheVariants.{BadMagic, BadOpcode, LimitPassed, NotZero}
use Rattle.aom_instructions.specs.declared.limits.Limits.{Limits}
use Rattle.aom_codec.specs.declared.header.Opening.{Opening}
use Rattle.aom_instructions.specs.declared.version.Version.{Version}
use Rattle.aom_instructions.specs.declared.version.Version.TheVariants as versions
use Rattle.aom_image.specs.declared.class.ClassDecl.{ClassDecl}
use Rattle.aom_image.specs.declared.class.ClassKind.{ClassKind}
use Rattle.aom_image.specs.declared.class.ClassKind.TheVariants as kinds
use Rattle.aom_image.specs.declared.class.Provider.{Provider}
use Rattle.aom_image.specs.declared.method.Gives.{Gives}
use Rattle.aom_instructions.specs.declared.instr.Instr.{Instr}
use Rattle.aom_codec.proofs.Laws.{IsCodec, guard_ok, ok_is, of_byte, of_pair, next_u32_of, of_nothing, of_fixed, of_checked, of_next, of_after, of_seen}
use Rattle.aom_codec.proofs.Laws.{of_choose, of_many_from, of_many, of_unused, unused_fits, FitEach, fit_each, implied, one_more}
use Rattle.aom_codec.proofs.Returning.{version_returns, parent_returns, index_returns, class_returns, thing_returns, argument_returns, role_returns}
use Rattle.aom_codec.proofs.Returning.{flags_returns, states_returns, gives_returns, result_number_returns}
use Rattle.aom_codec.proofs.InstructionFits.{operands_in_range}
use Rattle.aom_codec.proofs.OperandLaws.{large_reads, small_reads}
use Rattle.aom_codec.proofs.ImageLemmas.{some_given}

-- ---- numbers that name things

class_or_none_laws : (classes : ℕ) → IsCodec (class_or_none classes)
class_or_none_laws classes = of_seen _ _ next_u16 (record { at = λ x y fits e. class_returns classes x y e }) of_pair

thing_laws : (classes : ℕ) → IsCodec (thing classes)
thing_laws classes = of_seen _ _ next_u16 (record { at = λ x y fits e. thing_returns classes x y e }) of_pair

argument_laws : (classes : ℕ) → IsCodec (argument classes)
argument_laws classes = of_seen _ _ next_u16 (record { at = λ x y fits e. argument_returns classes x y e }) of_pair

limited_laws : (c : Codec ℕ) (low high : ℕ) → IsCodec c → IsCodec (limited c low high)
limited_laws c low high laws = of_checked c (is_between_dispatches low high) LimitPassed laws

fixed_byte_laws : (n : ℕ) (fault : LoadFault) → n < 256 → IsCodec (fixed byte n fault)
fixed_byte_laws n fault lt = of_fixed byte n fault of_byte lt

fixed_pair_laws : (n : ℕ) (fault : LoadFault) → n < 65536 → IsCodec (fixed next_u16 n fault)
fixed_pair_laws n fault lt = of_fixed next_u16 n fault of_pair lt

expect_u32_laws : (n : ℕ) (fault : LoadFault) → n < 4294967296 → IsCodec (fixed next_u32 n fault)
expect_u32_laws n fault lt = of_fixed next_u32 n fault next_u32_of lt

-- ---- header

version_laws : IsCodec version
version_laws = of_seen _ _ next_u16 (record { at = λ x y fits e. version_returns x y e }) of_pair

opening_laws : IsCodec opening
opening_laws = of_seen _ _ opening_fields (record {
  at = λ x y fits e.
      ap (λ (o : Opening). (o.header.version, (o.classes, (o.methods, (o.header.cells, (o.header.messages, (o.header.natives, (o.header.root, o.header.budget)))))))) (sym (ok_is _ y e));
})
    (of_after (fixed next_u32 0x414f494d BadMagic) _ tt (expect_u32_laws _ _ (lit< tt))
    (of_next _ _ version_laws (λ _.
    of_next _ _ (limited_laws next_u16 0 256 of_pair) (λ classes.
    of_next _ _ (limited_laws next_u16 1 1024 of_pair) (λ _.
    of_next _ _ (limited_laws next_u16 0 4096 of_pair) (λ _.
    of_next _ _ (limited_laws next_u16 0 1024 of_pair) (λ _.
    of_next _ _ (limited_laws byte 0 16 of_byte) (λ _.
    of_after (fixed byte 0 NotZero) _ tt (fixed_byte_laws _ _ (lit< tt))
    (of_next _ _ (class_or_none_laws classes) (λ _.
    of_after (fixed next_u16 0 NotZero) _ tt (fixed_pair_laws _ _ (lit< tt)) next_u32_of))))))))))

-- ---- classes

pair_is : {A B : Type 0} {a a1 : A} {b b1 : B} → a ≡ a1 → b ≡ b1 → ◌≡◌ {A = A × B} (a, b) (a1, b1)
pair_is p q = cc

provider_back : (natives sort n : ℕ) → sort ≤ 3 → cond (eqb sort 2) (ltb n natives) (eqb n 0) ≡ true
    → ◌≡◌ {A = ℕ × ℕ} (provider_sort (provider_from sort n), native_number (provider_from sort n)) (sort, n)
provider_back natives x n low h = grind (arith, nat_tests, pair_is)

-- each version has four sorts at most
few_providers : (version : Version) → last_provider version ≤ 3
few_providers x = grind arith

pub between_true : (low high n : ℕ) → is_between_dispatches low high n ≡ true → (low ≤ n) × (n ≤ high)
between_true low high n h = let p = and_parts (leb low n) (leb n high) h in (leb-true _ _ p.0, leb-true _ _ p.1)

pub between_is : (low high n : ℕ) → low ≤ n → n ≤ high → is_between_dispatches low high n ≡ true
between_is low high n p q = ap (λ b. b && leb n high) (le-leb low n p) ∙ le-leb n high q

provider_laws : (version : Version) (natives : ℕ) → IsCodec (provider version natives)
provider_laws version natives = of_seen _ _ _ (record {
  at = λ x y fits e. ap (λ (p : Provider). (provider_sort p, native_number p)) (sym (ok_is _ y e))
      ∙ provider_back natives x.0 x.1 (omega (arith, (between_true 0 (last_provider version) x.0 fits.0.1).1, few_providers version)) fits.1.1;
}) (of_next _ _ (of_checked _ _ _ of_byte) (λ sort. of_checked _ _ _ of_byte))

no_session_laws : IsCodec no_session
no_session_laws = fixed_pair_laws _ _ (lit< tt)

bare_laws : IsCodec bare
bare_laws = of_after (unused 3 byte NotZero) _ (unused_fits 3 byte NotZero) (of_unused 3 byte NotZero of_byte (lit< tt)) no_session_laws

session_class_laws : (classes : ℕ) → IsCodec (session_class classes)
session_class_laws classes = of_seen _ _ next_u16 (record { at = λ x y fits e. (index_returns classes x y e).0 }) of_pair

active_part_laws : (version : Version) (natives : ℕ) → IsCodec (active_part version natives)
active_part_laws version natives =
    of_next _ _ (provider_laws version natives) (λ _. of_after (fixed byte 0 NotZero) _ tt (fixed_byte_laws _ _ (lit< tt)) no_session_laws)

server_part_laws : (classes : ℕ) → IsCodec (server_part classes)
server_part_laws classes = of_after (fixed byte 0 NotZero) _ tt (fixed_byte_laws _ _ (lit< tt))
    (of_next _ _ (limited_laws byte 1 64 of_byte) (λ _. of_after (fixed byte 0 NotZero) _ tt (fixed_byte_laws _ _ (lit< tt)) (session_class_laws classes)))

abbrev active_only : ClassKind → Provider × Unit {0}
active_only k = (active_provider k, tt)

kind_laws : (version : Version) (classes natives sort : ℕ) → IsCodec (kind version classes natives sort)
kind_laws version classes natives sort =
    of_choose (eqb sort 0) _ _ (of_seen (λ _. Ok kinds.Plain) (λ _. tt) bare (record { at = λ x y fits e. refl }) bare_laws)
    (of_choose (eqb sort 1) _ _ (of_seen (λ p. Ok (kinds.Active p.0)) (λ k. (active_provider k, tt)) (active_part version natives)
    (record { at = λ x y fits e. ap active_only (sym (ok_is (kinds.Active x.0) y e)) }) (active_part_laws version natives))
    (of_choose (eqb sort 2) _ _ (of_seen (λ p. Ok (kinds.Server p.0 p.1)) server_numbers (server_part classes)
    (record { at = λ x y fits e. ap server_numbers (sym (ok_is (kinds.Server x.0 x.1) y e)) }) (server_part_laws classes))
    (of_seen (λ _. Ok kinds.Session) (λ _. tt) bare (record { at = λ x y fits e. refl }) bare_laws)))

budget_laws : (k : ClassKind) → IsCodec (budget k)
budget_laws k = of_checked _ _ _ next_u32_of

unreported_laws : IsCodec unreported
unreported_laws = of_seen (λ _. Ok None) (λ _. tt) nothing (record { at = λ x y fits e. refl }) of_nothing

-- what a number stands for is spelled as that number
of_family_laws : (from : ℕ → Result (Option ℕ) LoadFault) → ((n : ℕ) (y : Option ℕ) → from n ≡ Ok y → class_number y ≡ n) → IsCodec (of_family from)
of_family_laws from returns = of_seen _ _ _ (record { at = λ x y fits e. ap (λ (o : Option ℕ). (o, tt)) (sym (ok_is _ y e)) })
    (of_next _ _ (of_seen from class_number next_u16 (record { at = λ x y fits e. returns x y e }) of_pair) (λ _. fixed_pair_laws 0 NotZero (lit< tt)))

parent_laws : (version : Version) (k : ClassKind) (classes : ℕ) → IsCodec (parent version k classes)
parent_laws versions.One k classes = unreported_laws
parent_laws versions.Two k classes = of_family_laws (parent_from k classes) (parent_returns k classes)

over_laws : (version : Version) (methods : ℕ) → IsCodec (over version methods)
over_laws versions.One methods = unreported_laws
over_laws versions.Two methods = of_family_laws (class_from methods) (class_returns methods)

kind_sort_laws : (servers : ℕ) → IsCodec (kind_sort servers)
kind_sort_laws servers = of_checked _ _ _ (of_checked _ _ _ of_byte)

class_parts_laws : (version : Version) (classes natives servers : ℕ) → IsCodec (class_parts version classes natives servers)
class_parts_laws version classes natives servers =
    of_next _ _ (kind_sort_laws servers) (λ sort.
    of_next _ _ (limited_laws byte 0 8 of_byte) (λ _.
    of_next _ _ (limited_laws byte 0 8 of_byte) (λ count.
    of_next _ _ (kind_laws version classes natives sort) (λ k.
    of_next _ _ (of_many count (thing classes) (thing_laws classes)) (λ _.
    of_after (unused (8 - count) next_u16 NotZero) _ (unused_fits (8 - count) next_u16 NotZero) (of_unused (8 - count) next_u16 NotZero of_pair (lit< tt))
    (of_next _ _ (budget_laws k) (λ _. parent_laws version k classes)))))))

-- the kind that was read is of the byte before it
kind_of_byte : (version : Version) (classes natives sort : ℕ) (k : ClassKind) → sort ≤ 3 → (kind version classes natives sort).Fits k → kind_byte k ≡ sort
kind_of_byte version classes natives x k small fits = grind (arith, nat_tests, ok_is)

pub many_length : {S X : Type 0} (c : S → Codec X) (add : S → X → S) (s : S) (n : ℕ) (xs : List X) → FitMany c add s n xs → length xs ≡ n
many_length {S} {X} c add s n xs fits = by_each s n xs (fit_each c add s n xs fits)
  where
    by_each : (s : S) (n : ℕ) (xs : List X) → FitEach c add s n xs → length xs ≡ n
    by_each s _ _ implied = refl
    by_each s _ _ (one_more {n = n} x xs here more) = omega (arith, by_each (add s x) n xs more)

class_laws : (version : Version) (classes natives servers : ℕ) → IsCodec (class version classes natives servers)
class_laws version classes natives servers = of_seen _ _ (class_parts version classes natives servers) (record {
  at = λ x y fits e.
      let small : x.0 ≤ 3 = (between_true 0 3 x.0 fits.0.0.1).1 in
      let sort_is = kind_of_byte version classes natives x.0 x.1.1.1.0 small fits.1.1.1.0 in
      let count_is = many_length (always (thing classes)) keep tt x.1.1.0 x.1.1.1.1.0 fits.1.1.1.1.0 in
      ap (λ (c : ClassDecl). (kind_byte c.kind, (c.words, (length c.fields, (c.kind, (c.fields, (c.budget, c.parent))))))) (sym (ok_is _ y e))
      ∙ pair_is sort_is (pair_is refl (pair_is count_is refl));
}) (class_parts_laws version classes natives servers)

-- ---- instructions

small_laws : (k : SmallKind) → IsCodec (small_operand k)
small_laws k = of_seen _ _ byte (record { at = λ x y fits e. (small_reads k x y e).0 }) of_byte

large_laws : (l : Limits) (k : LargeKind) → IsCodec (large_operand l k)
large_laws l k = of_seen _ _ next_u32 (record { at = λ x y fits e. (large_reads l k x y fits e).0 }) next_u32_of

operands_laws : (l : Limits) (k : Kinds) → IsCodec (all_operands l k)
operands_laws l k = of_seen _ _ _ (record { at = λ x y fits e. ap (λ (o : Operands). (o.a, (o.b, (o.c, o.d)))) (sym (ok_is _ y e)) })
    (of_next _ _ (small_laws k.a) (λ _. of_next _ _ (small_laws k.b) (λ _. of_next _ _ (small_laws k.c) (λ _. large_laws l k.d))))

-- what is found passes the test
found_passes : {X : Type 0} (p : X → Bool) (xs : List X) (x : X) → find p xs ≡ Some x → p x ≡ true
found_passes p [] x e = absurd cc
found_passes {X} p (y ∷ ys) x e = grind (arith, nat_tests, same_Some y x, found_passes p ys x)

known_ok : (version : Version) (o : Option Mnemonic) (m : Mnemonic) → known version o ≡ Ok m → o ≡ Some m
known_ok version o m e = some_given (λ o. known version o ≡ Ok m) o e (λ f. cc) (λ k same f. same ∙ ap Some (guard_ok (is_in version k) BadOpcode k m f).1)

opcode_laws : (version : Version) → IsCodec (opcode version)
opcode_laws version = of_seen _ _ byte
    (record { at = λ n m fits e. eqb-true _ _ (found_passes (λ k. eqb (row k).opcode n) mnemonics m (known_ok version (with_opcode n) m e)) }) of_byte

instruction_laws : (l : Limits) → IsCodec (instruction l)
instruction_laws l = of_seen _ _ _ (record {
  at = λ x y fits e.
      let again = making_parts_again l x.0 x.1 (operands_in_range l (row x.0).kinds x.1 fits.1) in
      ap (λ (i : Instr). (mnemonic i, operands i)) (sym (ok_is _ y e)) ∙ pair_is again.0 again.1;
}) (of_next _ _ (opcode_laws l.version) (λ m. operands_laws l (row m).kinds))

-- ---- methods

role_laws : IsCodec role
role_laws = of_seen _ _ byte (record { at = λ x y fits e. role_returns x y e }) of_byte

flags_laws : IsCodec flags
flags_laws = of_seen _ _ byte (record { at = λ x y fits e. flags_returns x y e }) of_byte

states_laws : IsCodec states
states_laws = of_seen _ _ byte (record { at = λ x y fits e. states_returns x y e }) of_byte

result_sort_laws : IsCodec result_sort
result_sort_laws = of_checked _ _ _ of_byte

-- for a kind from 0 to 4
result_returns : (classes sort n : ℕ) (y : Gives) → gives_from classes sort n ≡ Ok y → result_number y ≡ n
result_returns classes sort n y e = result_number_returns classes sort n y e

result_laws : (classes sort : ℕ) → IsCodec (result classes sort)
result_laws classes sort = of_seen _ _ next_u16 (record { at = λ x y fits e. result_returns classes sort x y e }) of_pair

method_parts_laws : (version : Version) (classes methods : ℕ) → IsCodec (method_parts version classes methods)
method_parts_laws version classes methods =
    of_next _ _ (class_or_none_laws classes) (λ _.
    of_next _ _ role_laws (λ _.
    of_next _ _ flags_laws (λ _.
    of_next _ _ states_laws (λ _.
    of_next _ _ states_laws (λ _.
    of_next _ _ (limited_laws byte 0 6 of_byte) (λ count.
    of_next _ _ result_sort_laws (λ sort.
    of_next _ _ (of_many count (argument classes) (argument_laws classes)) (λ _.
    of_after (unused (6 - count) next_u16 NotZero) _ (unused_fits (6 - count) next_u16 NotZero) (of_unused (6 - count) next_u16 NotZero of_pair (lit< tt))
    (of_next _ _ (result_laws classes sort) (λ _.
    of_next _ _ (limited_laws next_u16 1 1024 of_pair) (λ places.
    of_next _ _ (over_laws version methods) (λ _.
    of_many places (instruction (limits version classes methods places)) (instruction_laws (limits version classes methods places))))))))))))))

method_laws : (version : Version) (classes methods : ℕ) → IsCodec (method version classes methods)
method_laws version classes methods =
    search (arith, nat_tests, of_seen, between_true 0 4, gives_returns classes, many_length, ok_is, pair_is, method_parts_laws version classes methods)

-- ---- the whole

image_parts_laws : IsCodec image_parts
image_parts_laws = of_next _ _ opening_laws (λ o. of_next _ _
    (of_many_from (class o.header.version o.classes o.header.natives) count_server (class_laws o.header.version o.classes o.header.natives) o.classes 0) (λ _.
    of_many o.methods (method o.header.version o.classes o.methods) (method_laws o.header.version o.classes o.methods)))

opening_again : (o : Opening) (classes methods : ℕ) → classes ≡ o.classes → methods ≡ o.methods →
    record { classes = classes; methods = methods; header = o.header } ≡ o
opening_again o classes methods p q = search (arith, nat_tests)

pub image_laws : IsCodec image
image_laws = of_seen _ _ image_parts (record {
  at = λ x y fits e.
      let classes_is = many_length (class x.0.header.version x.0.classes x.0.header.natives) count_server 0 x.0.classes x.1.0 fits.1.0 in
      let methods_is = many_length (always (method x.0.header.version x.0.classes x.0.methods)) keep tt x.0.methods x.1.1 fits.1.1 in
      ap (λ (i : Image). (opening_of i, (i.classes, i.methods))) (sym (ok_is _ y e))
      ∙ pair_is (opening_again x.0 (length x.1.0) (length x.1.1) classes_is methods_is) refl;
}) image_parts_laws
