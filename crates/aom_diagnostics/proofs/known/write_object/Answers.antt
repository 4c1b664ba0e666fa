-- The class, and then the age.
use Rattle.std.proofs.lemmas.Result.{IfOk-weaker}
use Rattle.aom_diagnostics.proofs.Parts.{both_out}
use Rattle.aom_diagnostics.specs.Known.{age_words, class_words}
use Rattle.aom_diagnostics.proofs.known.write_object.Goals as goal

pub returns : goal.returns
returns c =
    IfOk-weaker c.write_age.result _ _
    (λ done put. both_out c.args.out.now (class_words c.args.names.now c.args.class) (age_words c.args.age) c.write_class.new.out c.write_age.new.out c.in_ok-write_class.ensures put)
    c.write_age.ensures
