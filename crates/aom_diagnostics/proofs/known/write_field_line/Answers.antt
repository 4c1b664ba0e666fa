-- The lead, the parts and the end of the line.
use Rattle.std.proofs.Common.{◌++◌, [], ◌∷◌, codes}
use Rattle.std.proofs.lemmas.Result.{IfOk-weaker}
use Rattle.aom_diagnostics.proofs.Parts.{both_out}
use Rattle.aom_diagnostics.specs.Known.{field_line, field_parts}
use Rattle.aom_diagnostics.proofs.known.write_field_line.Goals as goal

pub returns : goal.returns
unfolding field_line
returns c =
    let parts = field_parts c.args.names.now c.args.at.now.linked.now c.args.at.now.method c.args.at.now.shape.now in
    IfOk-weaker c.words-2.result _ _
    (λ done put.
    both_out c.args.out.now (codes "Known of fields:") (parts ++ 10 ∷ []) c.words.new.self c.words-2.new.self c.in_ok-words.ensures
    (both_out c.words.new.self parts (10 ∷ []) c.write_field_parts.new.out c.words-2.new.self c.in_ok-write_field_parts.ensures put))
    c.words-2.ensures
