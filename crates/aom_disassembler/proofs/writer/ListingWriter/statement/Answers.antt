use Rattle.std.proofs.Common.{◌≡◌, ◌∷◌, ◌++◌, subst, sym}
use Rattle.std.specs.Prelude.{OnOk}
use Rattle.aom_instructions.specs.declared.kinds.OperandOrder.TheVariants.{LargeLast, LargeSecond}
use Rattle.aom_instructions.specs.Mnemonics.{mnemonic_text}
use Rattle.aom_disassembler.specs.Text.{parted_by}
use Rattle.aom_disassembler.specs.Words.{in_text, large_words, small_words, words_statement}
use Rattle.aom_disassembler.proofs.Behind.{four_behind}
use Rattle.aom_disassembler.proofs.writer.ListingWriter.statement.Goals as goal

pub returns-in_ok-small-in-LargeLast-2 : goal.returns-in_ok-small-in-LargeLast-2
returns-in_ok-small-in-LargeLast-2 c =
    let o = c.operands-a.result in
    let words : words_statement c.args.instr.now ≡ mnemonic_text c.mnemonic-mnemonic.result ∷ in_text LargeLast o = cc in
    subst (λ ws. OnOk c.large.result (c.large.new.self ≡ c.args.self.now ++ parted_by 32 ws))
    (sym words) (four_behind 32 _ (small_words o.a) (small_words o.b) (small_words o.c) (large_words o.d) _ _ _ _ _
    _ c.large.result c.in_ok-mnemonic.ensures c.in_ok-small.ensures c.in_ok-small-in-LargeLast.ensures c.in_ok-small-in-LargeLast-2.ensures c.large.ensures)

pub returns-in_ok-small-in-LargeSecond : goal.returns-in_ok-small-in-LargeSecond
returns-in_ok-small-in-LargeSecond c =
    let o = c.operands-a.result in
    let words : words_statement c.args.instr.now ≡ mnemonic_text c.mnemonic-mnemonic.result ∷ in_text LargeSecond o = cc in
    subst (λ ws. OnOk c.small-in-LargeSecond-2.result (c.small-in-LargeSecond-2.new.self ≡ c.args.self.now ++ parted_by 32 ws)) (sym words) (four_behind 32 _
    (small_words o.a) (large_words o.d) (small_words o.b) (small_words o.c) _ _ _ _ _ _ c.small-in-LargeSecond-2.result c.in_ok-mnemonic.ensures
    c.in_ok-small.ensures c.in_ok-large-in-LargeSecond.ensures c.in_ok-small-in-LargeSecond.ensures c.small-in-LargeSecond-2.ensures)
