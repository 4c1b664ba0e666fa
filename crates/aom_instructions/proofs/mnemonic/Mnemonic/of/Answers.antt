use Rattle.std.proofs.Common.{◌∙◌, ap}
use Rattle.std.specs.Str.{bytes_eq}
use Rattle.aom_instructions.specs.Mnemonics.{mnemonic_text}
use Rattle.aom_instructions.specs.Table.{mnemonics}
use Rattle.aom_instructions.proofs.Finding.{found, none_left, passed}
use Rattle.aom_instructions.proofs.mnemonic.Mnemonic.of.Goals as goal

pub returns-then-eq : goal.returns-then-eq
returns-then-eq c = found (λ m. bytes_eq (mnemonic_text m) c.args.word.now) mnemonics _ _ _ _ c.loop-mnemonic-test.true c.loop-mnemonic.invariant
    (c.eq.ensures ∙ ap (λ t. bytes_eq t c.args.word.now) c.text.ensures) c.if-eq.true

pub loop-mnemonic-preserved : goal.loop-mnemonic-preserved
loop-mnemonic-preserved c = passed (λ m. bytes_eq (mnemonic_text m) c.args.word.now) mnemonics _ _ _ _ c.loop-mnemonic-test.true c.loop-mnemonic.invariant
    (c.eq.ensures ∙ ap (λ t. bytes_eq t c.args.word.now) c.text.ensures) c.if-eq.false

pub returns : goal.returns
returns c = none_left (λ m. bytes_eq (mnemonic_text m) c.args.word.now) mnemonics _ _ c.loop-mnemonic-test.false c.loop-mnemonic.invariant
