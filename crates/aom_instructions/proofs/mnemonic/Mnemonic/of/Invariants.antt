use Rattle.std.proofs.Common.{◌≡◌, drop}
use Rattle.std.specs.List.{find}
use Rattle.std.specs.Str.{bytes_eq}
use Rattle.aom_instructions.specs.Mnemonics.{mnemonic_text}
use Rattle.aom_instructions.specs.Table.{mnemonics}
use Rattle.aom_instructions.proofs.mnemonic.Mnemonic.of.Given as goal

abbrev pub invariant-loop-mnemonic : goal.invariant-loop-mnemonic
invariant-loop-mnemonic l = find (λ m. bytes_eq (mnemonic_text m) l.word) mnemonics ≡ find (λ m. bytes_eq (mnemonic_text m) l.word) (drop l.mnemonic-index mnemonics)
