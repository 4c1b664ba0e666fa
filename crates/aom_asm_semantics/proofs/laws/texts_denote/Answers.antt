use Rattle.aom_asm_semantics.proofs.SyntaxLemmas.{ok_is}
use Rattle.std.proofs.Common.{sym, ◌∙◌}
use Rattle.aom_asm_semantics.proofs.Denoting.{denotes_read, read_denotes}
use Rattle.aom_asm_semantics.proofs.laws.texts_denote.Goals as goal

pub returns : goal.returns
returns c = record {
  read = λ text i. (read_denotes text i, denotes_read text i);
  one = λ text i j one other. ok_is i j (sym (denotes_read text i one) ∙ denotes_read text j other);
}
