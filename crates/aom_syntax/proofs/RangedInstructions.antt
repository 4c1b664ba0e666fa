-- Whatever instruction is read has its operands in their ranges.
use Rattle.std.proofs.lemmas.Bool.Decides.{nat_tests}
use Rattle.std.proofs.Common.{arith, ◌≡◌, ℕ, ◌≤◌, ◌<◌, Ok, Option, true, false, FitsSigned, w32, List, length}
use Rattle.aom_instructions.specs.Mnemonics.{is_in, mnemonic_of}
use Rattle.aom_instructions.specs.declared.version.Version.{Version}
use Rattle.aom_instructions.specs.Operands.{IsDepth, IsField, IsRegister, IsWord, LargeFits, OperandsFit, SmallFits, TargetFits}
use Rattle.aom_instructions.specs.declared.kinds.Kinds.{Kinds}
use Rattle.aom_instructions.specs.declared.limits.Limits.{Limits}
use Rattle.aom_instructions.specs.declared.operand.Operands.{Operands}
use Rattle.aom_instructions.specs.Fits.{InstrFits, limits}
use Rattle.aom_instructions.specs.declared.instr.Instr.{Instr}
use Rattle.aom_syntax.proofs.InstructionsLemmas.{making_parts_again}
use Rattle.aom_instructions.specs.Table.{make, operands_of, row}
use Rattle.aom_instructions.specs.declared.kinds.LargeKind.{LargeKind}
use Rattle.aom_instructions.specs.declared.kinds.LargeKind.TheVariants as lk
use Rattle.aom_instructions.specs.declared.kinds.OperandOrder.{OperandOrder}
use Rattle.aom_instructions.specs.declared.kinds.OperandOrder.TheVariants.{LargeLast, LargeSecond}
use Rattle.aom_instructions.specs.declared.kinds.SmallKind.{SmallKind}
use Rattle.aom_instructions.specs.declared.kinds.SmallKind.TheVariants as sk
use Rattle.aom_instructions.specs.declared.operand.Large.TheVariants as large
use Rattle.aom_instructions.specs.declared.operand.Small.TheVariants as small
use Rattle.aom_syntax.specs.Reading.{Reading, giving, next, nothing_more, seen}
use Rattle.aom_syntax.specs.Operands.{class, depth, field, label, last_register, method, rounds, signed, target, word_field}
use Rattle.aom_syntax.specs.Words.{in_order, large_operand, operands_read, small_operand, words_operands}
use Rattle.aom_syntax.specs.Methods.{after_label, instruction, known_mnemonic, named_mnemonic}
use Rattle.aom_syntax.specs.declared.scope.Scope.{Scope}
use Rattle.aom_instructions.specs.declared.mnemonic.Mnemonic.{Mnemonic}
use Rattle.aom_syntax.proofs.Within.{Within, after, giving_within, next_within, ok_is, seen_within}
use Rattle.aom_syntax.proofs.RangedNames.{all_known, used_below}
use Rattle.aom_syntax.proofs.Numbers.{signed_within}
use Rattle.aom_syntax.proofs.RangedOperands.{AreRounds, depth_within, field_within, last_most, last_within, rounds_within, target_within, word_field_within}

module _ (scope : Scope) (version : Version) (strict : scope.is_strict ≡ true) (labels : List (List ℕ)) where
  abbrev bounds : Limits
  bounds = limits version (length scope.classes) (length scope.methods) (length labels)

  abbrev Fits : Instr → Type 0
  Fits i = InstrFits bounds i

  abbrev IsClass : ℕ → Type 0
  IsClass c = c < length scope.classes

  abbrev IsMethod : ℕ → Type 0
  IsMethod n = n < length scope.methods

  abbrev IsLabel : ℕ → Type 0
  IsLabel l = l < length labels

  class_within : Within IsClass (class scope)
  class_within = used_below scope.is_strict 256 scope.classes (all_known scope.is_strict (length scope.classes) strict)

  method_within : Within IsMethod (method scope)
  method_within = used_below scope.is_strict 1024 scope.methods (all_known scope.is_strict (length scope.methods) strict)

  label_within : Within IsLabel (label scope labels)
  label_within = used_below scope.is_strict 1024 labels (all_known scope.is_strict (length labels) strict)

  -- ---- by the kind of an operand

  said : {A X : Type 0} (P : A → Type 0) (Q : X → Type 0) (a : Reading A) (f : A → X) → Within P a → ((x : A) → P x → Q (f x)) →
      Within Q (next a (λ x. giving (f x)))
  said P Q a f wa fits = next_within P Q a (λ x. giving (f x)) wa (λ x p. giving_within Q (f x) (fits x p))

  small_within : (k : SmallKind) → Within (SmallFits k) (small_operand k)
  small_within sk.Unused = giving_within (SmallFits sk.Unused) small.Unused tt
  small_within sk.Register = said IsRegister (SmallFits sk.Register) (last_register 15) (λ r. small.Register r) last_within (λ r p. p)
  small_within sk.TrapResult = said (λ n. n ≤ 14) (SmallFits sk.TrapResult) (last_register 14) (λ r. small.Register r) (last_most 14) (λ r p. p)
  small_within sk.Word = said IsWord (SmallFits sk.Word) word_field (λ w. small.Word w) word_field_within (λ w p. p)
  small_within sk.Field = said IsField (SmallFits sk.Field) field (λ f. small.Field f) field_within (λ f p. p)
  small_within sk.Depth = said IsDepth (SmallFits sk.Depth) depth (λ d. small.Depth d) depth_within (λ d p. p)
  small_within sk.CallTarget = said TargetFits (SmallFits sk.CallTarget) target (λ t. small.CallTarget t) target_within (λ t p. p)

  large_within : (k : LargeKind) → Within (LargeFits bounds k) (large_operand scope labels k)
  large_within lk.Nothing = giving_within (LargeFits bounds lk.Nothing) large.Nothing tt
  large_within lk.Number = said (FitsSigned w32) (LargeFits bounds lk.Number) signed (λ z. large.Number z) signed_within (λ z p. p)
  large_within lk.Rounds = said AreRounds (LargeFits bounds lk.Rounds) rounds (λ n. large.Rounds n) rounds_within (λ n p. p)
  large_within lk.Place = said IsLabel (LargeFits bounds lk.Place) (label scope labels) (λ n. large.Place n) label_within (λ n p. p)
  large_within lk.Class = said IsClass (LargeFits bounds lk.Class) (class scope) (λ n. large.Class n) class_within (λ n p. p)
  large_within lk.Method = said IsMethod (LargeFits bounds lk.Method) (method scope) (λ n. large.Method n) method_within (λ n p. p)

  -- ---- behind each mnemonic

  in_order_within : (k : Kinds) (order : OperandOrder) →
      Within (OperandsFit bounds k) (in_order order (small_operand k.a) (small_operand k.b) (small_operand k.c) (large_operand scope labels k.d))
  in_order_within k LargeLast = next_within (SmallFits k.a) (OperandsFit bounds k) (small_operand k.a) _ (small_within k.a) (λ a pa.
      next_within (SmallFits k.b) (OperandsFit bounds k) (small_operand k.b) _ (small_within k.b) (λ b pb.
      next_within (SmallFits k.c) (OperandsFit bounds k) (small_operand k.c) _ (small_within k.c) (λ c pc.
      said _ (OperandsFit bounds k) _ (λ d. operands_of a b c d) (large_within k.d) (λ d pd. record { a = pa; b = pb; c = pc; d = pd }))))
  in_order_within k LargeSecond = next_within (SmallFits k.a) (OperandsFit bounds k) (small_operand k.a) _ (small_within k.a) (λ a pa.
      next_within (LargeFits bounds k.d) (OperandsFit bounds k) (large_operand scope labels k.d) _ (large_within k.d) (λ d pd.
      next_within (SmallFits k.b) (OperandsFit bounds k) (small_operand k.b) _ (small_within k.b) (λ b pb.
      said (SmallFits k.c) _ (small_operand k.c) (λ c. operands_of a b c d) (small_within k.c) (λ c pc. record { a = pa; b = pb; c = pc; d = pd }))))

  -- what is made of operands that a row asks
  made_fits : (m : Mnemonic) (o : Operands) → is_in version m ≡ true → OperandsFit bounds (row m).kinds o → Fits (make m o)
  made_fits m o known fits = search (arith, nat_tests, making_parts_again)

  operands_within : (m : Mnemonic) → is_in version m ≡ true → Within Fits (words_operands scope labels m)
  operands_within m known = said (OperandsFit bounds (row m).kinds) Fits (operands_read scope labels (row m).kinds) (λ o. make m o)
      (in_order_within (row m).kinds (row m).kinds.order) (λ o fits. made_fits m o known fits)

  -- the version has what a mnemonic says
  abbrev IsThere : Mnemonic → Type 0
  IsThere m = is_in version m ≡ true

  known_there : (w : List ℕ) (o : Option Mnemonic) (m : Mnemonic) → known_mnemonic version w o ≡ Ok m → IsThere m
  known_there w x m is = grind (arith, nat_tests, ok_is)

  mnemonic_within : (place : ℕ) → Within IsThere (seen (named_mnemonic version) (after_label place labels))
  mnemonic_within place = seen_within IsThere (named_mnemonic version) (after_label place labels) (λ w m is. known_there w (mnemonic_of w) m is)

  pub instruction_within : (place : ℕ) → Within Fits (instruction scope version labels place)
  instruction_within place = next_within IsThere Fits _ (λ m. next (words_operands scope labels m) (λ i. next (nothing_more false) (λ u. giving i)))
      (mnemonic_within place) (λ m known.
      next_within Fits Fits (words_operands scope labels m) (λ i. next (nothing_more false) (λ u. giving i)) (operands_within m known) (λ i fits.
      after Fits (nothing_more false) (λ u. giving i) (λ u. giving_within Fits i fits)))
