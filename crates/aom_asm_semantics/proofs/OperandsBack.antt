-- The operands of instructions read back.
use Rattle.std.proofs.lemmas.Bool.Decides.{nat_tests}
use Rattle.std.proofs.Common.{◌≡◌, ℕ, ℤ, ◌<◌, ◌≤◌, ◌^◌, true, List, [], ◌∷◌, Some, Ok, refl, arith}
use Rattle.std.specs.Prelude.{FitsSigned, decimal}
use Rattle.std.specs.Int.{w32}
use Rattle.std.specs.Fmt.{signed_decimal}
use Rattle.std.specs.List.{list_all}
use Rattle.aom_text.specs.Words.{is_plain}
use Rattle.aom_instructions.specs.Operands.{IsDepth, IsField, IsWord, TargetFits}
use Rattle.aom_instructions.specs.declared.instr.Target.{Target}
use Rattle.aom_syntax.specs.Names.{place_of}
use Rattle.aom_syntax.specs.Operands.{class, depth, field, label, last_register, method, rounds, signed, target, target_of, word_field}
use Rattle.aom_syntax.specs.declared.scope.Scope.{Scope}
use Rattle.aom_disassembler.specs.Operands.{class_name, field_word, label_name, method_name, register_word, target_word}
use Rattle.aom_asm_semantics.specs.Naming.{HasNames}
use Rattle.aom_asm_semantics.proofs.Names.{plain_lettered, plain_signed}
use Rattle.aom_asm_semantics.proofs.Numbers.{signed_of_decimal}
use Rattle.aom_asm_semantics.proofs.Readings.{Takes, indexed_reads, sees, takes_indexed, takes_number, takes_used, takes_word}

-- ---- registers, fields and words

pub takes_last : (highest a : ℕ) → a ≤ highest → highest ≤ 15 → Takes (last_register highest) (register_word a ∷ []) a
takes_last highest a fits few = record { reads = (takes_indexed 114 highest a refl fits (omega arith)).reads }

pub takes_field : (f : ℕ) → IsField f → Takes field (field_word f ∷ []) f
takes_field f fits = takes_indexed 102 7 f refl (omega arith) (omega arith)

pub takes_word_field : (w : ℕ) → IsWord w → Takes word_field ((119 ∷ decimal w) ∷ []) w
takes_word_field w fits = takes_indexed 119 7 w refl (omega arith) (omega arith)

-- ---- targets of calls

target_reads : (t : Target) → TargetFits t → target_of (target_word t) ≡ Ok t
target_reads x fits = grind (arith, nat_tests, indexed_reads 114 15, indexed_reads 102 7, indexed_reads 99 15)

target_is_plain : (t : Target) → TargetFits t → list_all is_plain (target_word t) ≡ true
target_is_plain x fits = grind (arith, nat_tests, plain_lettered 114, plain_lettered 102, plain_lettered 99)

pub takes_target : (t : Target) → TargetFits t → Takes target (target_word t ∷ []) t
takes_target t fits = sees target_of (takes_word (target_word t) (target_is_plain t fits)) (target_reads t fits)

-- ---- numbers

pub takes_signed : (z : ℤ) → FitsSigned w32 z → Takes signed (signed_decimal z ∷ []) z
takes_signed z fits = grind (arith, nat_tests, signed_of_decimal z fits, sees, takes_word, plain_signed z fits)

pub takes_depth : (d : ℕ) → IsDepth d → Takes depth (decimal d ∷ []) d
takes_depth d fits = takes_number 0 3 d (omega arith) (omega arith) (omega arith)

pub takes_rounds : (n : ℕ) → 1 ≤ n → n < 2 ^ 16 → Takes rounds (decimal n ∷ []) n
takes_rounds n some fits = takes_number 1 65535 n some (omega arith) (omega arith)

-- ---- names

module _ {classes methods : ℕ} {scope : Scope} (names : HasNames classes methods scope) where
  pub takes_class : (c : ℕ) → c < classes → Takes (class scope) (class_name c ∷ []) c
  takes_class c there = takes_used scope.is_strict 256 99 c scope.classes refl (omega arith) (omega arith) (names.class c there)

  pub takes_method : (m : ℕ) → m < methods → Takes (method scope) (method_name m ∷ []) m
  takes_method m there = takes_used scope.is_strict 1024 109 m scope.methods refl (omega arith) (omega arith) (names.method m there)

pub takes_label : (scope : Scope) (labels : List (List ℕ)) (d : ℕ) → d < 1024 → place_of (label_name d) labels ≡ Some d →
    Takes (label scope labels) (label_name d ∷ []) d
takes_label scope labels d few there = takes_used scope.is_strict 1024 76 d labels refl few (omega arith) there
