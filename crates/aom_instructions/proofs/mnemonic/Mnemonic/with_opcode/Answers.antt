-- The mnemonic at the place of an opcode is the one that a search finds.
use Rattle.std.proofs.Common.{◌≡◌, ◌∙◌, ◌+◌, ap, arith}
use Rattle.aom_instructions.specs.Mnemonics.{with_opcode}
use Rattle.aom_instructions.specs.Table.{mnemonics}
use Rattle.aom_instructions.proofs.Opcodes.{copied_at, opcode_at}
use Rattle.aom_instructions.proofs.mnemonic.Mnemonic.with_opcode.Goals as goal

pub returns-in_err-index : goal.returns-in_err-index
returns-in_err-index c =
    let none : 0 ≡ c.args.opcode = omega (c.in_err-index.ensures, arith) in
    c.from_residual.ensures ∙ ap with_opcode none

pub returns : goal.returns
returns c =
    let next : 1 + c.in_ok-index.index ≡ c.args.opcode = omega (c.in_ok-index.ensures.0, c.in_ok-index.ensures.1, arith) in
    c.copied.ensures ∙ (copied_at mnemonics c.in_ok-index.index c.get.result c.get.ensures.lookup ∙ (opcode_at c.in_ok-index.index ∙ ap with_opcode next))
