-- Each instruction reads back, by the kinds of its operands.
use Rattle.std.proofs.lemmas.Bool.Decides.{nat_tests}
use Rattle.std.proofs.Common.{◌≡◌, ℕ, ◌<◌, List, ◌∷◌, refl, ap, ◌∙◌, arith, Some, Ok, true}
use Rattle.std.specs.Prelude.{IfSome}
use Rattle.aom_instructions.specs.declared.version.Version.{Version}
use Rattle.aom_asm_semantics.proofs.InstructionsLemmas.{parts_make_again}
use Rattle.aom_instructions.specs.Mnemonics.{is_in, mnemonic_text}
use Rattle.aom_instructions.specs.Operands.{LargeFits, OperandsFit, SmallFits}
use Rattle.aom_instructions.specs.Table.{make, mnemonic, operands, row}
use Rattle.aom_instructions.specs.Fits.{InstrFits, limits}
use Rattle.aom_instructions.specs.declared.instr.Instr.{Instr}
use Rattle.aom_instructions.specs.declared.kinds.Kinds.{Kinds}
use Rattle.aom_instructions.specs.declared.kinds.LargeKind.{LargeKind}
use Rattle.aom_instructions.specs.declared.kinds.OperandOrder.{OperandOrder}
use Rattle.aom_instructions.specs.declared.kinds.OperandOrder.TheVariants.{LargeLast, LargeSecond}
use Rattle.aom_instructions.specs.declared.kinds.SmallKind.{SmallKind}
use Rattle.aom_instructions.specs.declared.mnemonic.Mnemonic.{Mnemonic}
use Rattle.aom_instructions.specs.declared.operand.Large.{Large}
use Rattle.aom_instructions.specs.declared.operand.Large.TheVariants as large
use Rattle.aom_instructions.specs.declared.operand.Operands.{Operands}
use Rattle.aom_instructions.specs.declared.operand.Small.{Small}
use Rattle.aom_syntax.specs.Names.{place_of}
use Rattle.aom_syntax.specs.Reading.{◌>>=◌, Reading, giving, next}
use Rattle.aom_syntax.specs.Words.{in_order, large_operand, small_operand, words_operands}
use Rattle.aom_syntax.specs.declared.scope.Scope.{Scope}
use Rattle.aom_instructions.specs.Operands.{place_said}
use Rattle.aom_disassembler.specs.Operands.{label_name}
use Rattle.aom_disassembler.specs.Words.{in_text, large_words, small_words, words_statement}
use Rattle.aom_asm_semantics.specs.Naming.{HasLabel, HasNames}
use Rattle.aom_asm_semantics.proofs.OperandsBack.{takes_class, takes_depth, takes_field, takes_label, takes_last, takes_method, takes_rounds, takes_signed}
use Rattle.aom_asm_semantics.proofs.OperandsBack.{takes_target, takes_word_field}
use Rattle.aom_asm_semantics.proofs.Readings.{Takes, gives, in_turn}

-- its words are a mnemonic that the version has and operands, which read back
pub record Says (scope : Scope) (version : Version) (labels : List (List ℕ)) (i : Instr) : Type 0 where
  pub mnemonic : Mnemonic
  pub there : is_in version mnemonic ≡ true
  pub operands : List (List ℕ)
  pub words : words_statement i ≡ mnemonic_text mnemonic ∷ operands
  pub takes : Takes (words_operands scope labels mnemonic) operands i

-- what is made of a value that is read
makes : {X Y : Type 0} {r : Reading X} (f : X → Y) {us : List (List ℕ)} {x : X} → Takes r us x → Takes (next r (λ x. giving (f x))) us (f x)
makes f takes = record { reads = λ rest. ap (λ e. e >>= λ p. giving (f p.0) p.1) (takes.reads rest) }

takes_small : (k : SmallKind) (o : Small) → SmallFits k o → Takes (small_operand k) (small_words o) o
takes_small x y fits = grind (arith, nat_tests, gives, makes, takes_last 15, takes_last 14, takes_word_field, takes_field, takes_depth, takes_target)

-- where an operand is a place, that place has its label
abbrev Labelled : List (List ℕ) → Large → Type 0
Labelled labels large.Nothing = Unit {0}
Labelled labels (large.Number z) = Unit {0}
Labelled labels (large.Rounds n) = Unit {0}
Labelled labels (large.Place d) = (d < 1024) × (place_of (label_name d) labels ≡ Some d)
Labelled labels (large.Class n) = Unit {0}
Labelled labels (large.Method n) = Unit {0}

place_labelled : (labels : List (List ℕ)) (o : Large) → IfSome (place_said o) (λ d. (d < 1024) × (place_of (label_name d) labels ≡ Some d)) → Labelled labels o
place_labelled labels (large.Place d) to = to
place_labelled labels _ to = tt

labelled : (labels : List (List ℕ)) (i : Instr) → HasLabel labels i → Labelled labels (operands i).d
labelled labels i to = place_labelled labels (operands i).d to

module _ {classes methods : ℕ} {scope : Scope} (names : HasNames classes methods scope) (version : Version) (labels : List (List ℕ)) (places : ℕ) where
  takes_large : (k : LargeKind) (o : Large) → LargeFits (limits version classes methods places) k o → Labelled labels o →
      Takes (large_operand scope labels k) (large_words o) o
  takes_large x y fits to = grind (arith, nat_tests, gives, makes, takes_signed, takes_rounds, takes_label scope labels, takes_class names, takes_method names)

  takes_in_order : (k : Kinds) (order : OperandOrder) (o : Operands) → OperandsFit (limits version classes methods places) k o → Labelled labels o.d
      → Takes (in_order order (small_operand k.a) (small_operand k.b) (small_operand k.c) (large_operand scope labels k.d)) (in_text order o) o
  takes_in_order k LargeLast o fits to = grind (
    arith,
    nat_tests,
    in_turn,
    takes_small k.a o.a fits.a,
    takes_small k.b o.b fits.b,
    takes_small k.c o.c fits.c,
    makes,
    takes_large k.d o.d fits.d to,
  )
  takes_in_order k LargeSecond o fits to = grind (
    arith,
    nat_tests,
    in_turn,
    takes_small k.a o.a fits.a,
    takes_large k.d o.d fits.d to,
    takes_small k.b o.b fits.b,
    makes,
    takes_small k.c o.c fits.c,
  )

  same_value : {X : Type 0} {r : Reading X} {us : List (List ℕ)} {x y : X} → x ≡ y → Takes r us x → Takes r us y
  same_value is takes = record { reads = λ rest. takes.reads rest ∙ ap (λ x. Ok (x, rest)) is }

  pub says : (i : Instr) → InstrFits (limits version classes methods places) i → HasLabel labels i → Says scope version labels i
  says i fits to = record {
    mnemonic = mnemonic i;
    there = fits.version;
    operands = in_text (row (mnemonic i)).kinds.order (operands i);
    words = refl;
    takes = same_value (parts_make_again i) (makes
        (λ o. make (mnemonic i) o) (takes_in_order (row (mnemonic i)).kinds (row (mnemonic i)).kinds.order (operands i) fits.operands (labelled labels i to)));
  }
