-- An instruction fits its format exactly where its operands are of the kinds that its row asks, each in its range.
use Rattle.std.proofs.lemmas.Bool.Decides.{nat_tests}
use Rattle.std.proofs.Common.{arith, ◌≡◌, ◌∙◌, ◌<◌, Err, Ok, cond, refl, sym, true, ap}
use Rattle.aom_codec.proofs.InstructionsLemmas.{parts_make_again, rows_are_one}
use Rattle.aom_instructions.specs.Operands.{OperandsFit}
use Rattle.aom_instructions.specs.Table.{mnemonic, operands, row}
use Rattle.aom_instructions.specs.Mnemonics.{is_in, with_opcode}
use Rattle.aom_instructions.specs.Fits.{InstrFits}
use Rattle.aom_instructions.specs.declared.instr.Instr.{Instr}
use Rattle.aom_instructions.specs.declared.kinds.Kinds.{Kinds}
use Rattle.aom_instructions.specs.declared.limits.Limits.{Limits}
use Rattle.aom_instructions.specs.declared.mnemonic.Mnemonic.{Mnemonic}
use Rattle.aom_instructions.specs.declared.operand.Operands.{Operands}
use Rattle.aom_instructions.specs.declared.version.Version.{Version}
use Rattle.aom_codec.specs.Instructions.{Bounded, all_operands, instruction, known, opcode}
use Rattle.aom_codec.specs.Serialization.{large_number, small_byte}
use Rattle.aom_codec.specs.declared.fault.LoadFault.TheVariants.{BadOpcode}
use Rattle.aom_codec.proofs.Laws.{guard_ok}
use Rattle.aom_codec.proofs.OperandLaws.{large_reads, large_takes, small_reads, small_takes}

pub operands_in_range : (l : Limits) (k : Kinds) (o : Operands) → (all_operands l k).Fits o → OperandsFit l k o
operands_in_range l k o f = record {
  a = (small_reads k.a (small_byte o.a) o.a f.0.0.1).1;
  b = (small_reads k.b (small_byte o.b) o.b f.0.1.0.1).1;
  c = (small_reads k.c (small_byte o.c) o.c f.0.1.1.0.1).1;
  d = (large_reads l k.d (large_number o.d) o.d f.0.1.1.1.0 f.0.1.1.1.1).1;
}

operands_fit : (l : Limits) (k : Kinds) (o : Operands) → Bounded l → OperandsFit l k o → (all_operands l k).Fits o
operands_fit l k o few h = ((small_takes k.a o.a h.a, (small_takes k.b o.b h.b, (small_takes k.c o.c h.c, large_takes l k.d o.d few h.d))), refl)

opcode_is_byte : (m : Mnemonic) → (row m).opcode < 256
opcode_is_byte x = grind arith

-- the opcode of a mnemonic stands for it where the version has it
known_is : (version : Version) (m : Mnemonic) → known version (with_opcode (row m).opcode) ≡ cond (is_in version m) (Ok m) (Err BadOpcode)
known_is version m = ap (known version) (rows_are_one m).0

opcode_fits : (version : Version) (m : Mnemonic) → is_in version m ≡ true → (opcode version).Fits m
opcode_fits version m h = search (arith, nat_tests, opcode_is_byte m, known_is version m)

pub in_range : (l : Limits) (i : Instr) → (instruction l).Fits i → InstrFits l i
in_range l i f = record {
  version = (guard_ok (is_in l.version (mnemonic i)) BadOpcode (mnemonic i) (mnemonic i) (sym (known_is l.version (mnemonic i)) ∙ f.0.0.1)).0;
  operands = operands_in_range l (row (mnemonic i)).kinds (operands i) f.0.1;
}

pub fits : (l : Limits) (i : Instr) → Bounded l → InstrFits l i → (instruction l).Fits i
fits l i few h = search (arith, nat_tests, opcode_fits l.version, operands_fit l, parts_make_again i)
