use Rattle.std.proofs.Common.{codes}
use Rattle.std.proofs.lemmas.Result.{IfOk-weaker}
use Rattle.aom_needs.specs.Sentences.{set_words}
use Rattle.aom_needs.proofs.Parts.{both_out}
use Rattle.aom_needs.proofs.states.write_may_be.Goals as goal

pub returns : goal.returns
returns c = IfOk-weaker c.write_set.result _ _
    (λ done put. both_out c.args.out.now (codes "; it may be in ") (set_words c.args.states.0) c.words.new.self c.write_set.new.out c.in_ok-words.ensures put)
    c.write_set.ensures
