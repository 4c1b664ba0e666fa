-- A word that is neither keyword nor mnemonic is none of the language.
use Rattle.std.proofs.Common.{rules}
use Rattle.aom_syntax.specs.Keywords.{unexpected_word}
use Rattle.aom_syntax.proofs.keyword.unexpected_word.Goals as goal

pub returns-else-is_some-2 : goal.returns-else-is_some-2
unfolding unexpected_word
returns-else-is_some-2 c = search rules
