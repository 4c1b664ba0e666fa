-- In the labels of a method's code each target of a jump has its place.
use Rattle.std.proofs.lemmas.Bool.Decides.{nat_tests}
use Rattle.std.proofs.Common.{◌≡◌, ℕ, ◌<◌, ◌≤◌, ◌⊎◌, Bool, true, List, [], length, get_or, slice_get, Some, sym, ap, subst, ◌∙◌, arith}
use Rattle.std.specs.Prelude.{IfSome}
use Rattle.std.proofs.lemmas.Bool.{eq-eqb}
use Rattle.aom_instructions.specs.declared.version.Version.{Version}
use Rattle.aom_instructions.specs.Fits.{InstrFits, limits}
use Rattle.aom_instructions.specs.Operands.{LargeFits}
use Rattle.aom_instructions.specs.Table.{mnemonic, operands, row}
use Rattle.aom_instructions.specs.declared.instr.Instr.{Instr}
use Rattle.aom_instructions.specs.declared.kinds.LargeKind.{LargeKind}
use Rattle.aom_instructions.specs.declared.limits.Limits.{Limits}
use Rattle.aom_instructions.specs.declared.operand.Large.{Large}
use Rattle.aom_syntax.specs.Names.{place_of}
use Rattle.aom_instructions.specs.Operands.{place_said}
use Rattle.aom_disassembler.specs.Jumps.{is_target, jump_of}
use Rattle.aom_disassembler.specs.Operands.{label_name}
use Rattle.aom_asm_semantics.specs.Naming.{HasLabel, code_labels, label_or_none}
use Rattle.aom_asm_semantics.proofs.Names.{place_found}
use Rattle.aom_asm_semantics.proofs.TextNames.{length_names, name_at}
use Rattle.std.proofs.lemmas.List.Folds.{list_any_at}
use Rattle.std.proofs.lemmas.Option.{slice_get_within, get_or_from_slice_get}

-- ---- the list of labels

label_at : (code : List Instr) (k : ℕ) → k < length code → get_or (code_labels code) k [] ≡ label_or_none (is_target code k) k
label_at code k within = name_at (λ n. label_or_none (is_target code n) n) code k within

-- a label or none
one_or_none : (b : Bool) (k : ℕ) → (label_or_none b k ≡ label_name k) ⊎ (label_or_none b k ≡ [])
one_or_none x k = grind arith

pub label_placed : (code : List Instr) (k : ℕ) → length code ≤ 1024 → k < length code → is_target code k ≡ true → place_of (label_name k) (code_labels code) ≡ Some k
label_placed code k few within jumped = place_found 76 k (code_labels code) (omega arith)
    (omega (arith, length_names (λ n. label_or_none (is_target code n) n) 0 code)) (label_at code k within ∙ ap (λ b. label_or_none b k) jumped)
    (λ j less. subst (λ l. (l ≡ label_name j) ⊎ (l ≡ [])) (sym (label_at code j (omega arith))) (one_or_none (is_target code j) j))

-- ---- jumps

-- a place to which an instruction of the code jumps is a target
jump_is_target : (code : List Instr) (place d : ℕ) (i : Instr) → slice_get code place ≡ Some i → jump_of i ≡ Some d → is_target code d ≡ true
jump_is_target code place d i there jumps =
    grind (arith, nat_tests, list_any_at, slice_get_within code place i there, get_or_from_slice_get code place i i there, eq-eqb d d)

-- an instruction that fits jumps into the code: an operand that is a place and fits is one of its places
place_within : (l : Limits) (k : LargeKind) (o : Large) → LargeFits l k o → IfSome (place_said o) (λ d. d < l.places)
place_within l x y fits = grind arith

jump_within : (version : Version) (classes methods places : ℕ) (i : Instr) → InstrFits (limits version classes methods places) i →
    IfSome (jump_of i) (λ d. d < places)
jump_within version classes methods places i fits =
    place_within (limits version classes methods places) (row (mnemonic i)).kinds.d (operands i).d fits.operands.d

pub has_label : (version : Version) (classes methods : ℕ) (code : List Instr) (place : ℕ) (i : Instr) →
    length code ≤ 1024 → slice_get code place ≡ Some i → InstrFits (limits version classes methods (length code)) i → HasLabel (code_labels code) i
has_label version classes methods code place i few there fits =
    grind (arith, nat_tests, jump_within version classes methods, label_placed code, jump_is_target code place)
