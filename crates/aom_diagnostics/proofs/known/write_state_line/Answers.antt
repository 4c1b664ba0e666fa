-- The lead, the parts and the end of the line.
use Rattle.std.proofs.Common.{◌++◌, [], ◌∷◌, codes}
use Rattle.std.proofs.lemmas.Result.{IfOk-weaker}
use Rattle.aom_diagnostics.proofs.Parts.{both_out}
use Rattle.aom_diagnostics.specs.Known.{state_line, state_parts}
use Rattle.aom_diagnostics.proofs.known.write_state_line.Goals as goal

pub returns : goal.returns
unfolding state_line
returns c =
    let parts = state_parts c.args.set.0 in
    let end = codes " no others" ++ 10 ∷ [] in
    IfOk-weaker c.words-2.result _ _
    (λ done put.
    both_out c.args.out.now (codes "Known of request states:") (parts ++ end) c.words.new.self c.words-2.new.self c.in_ok-words.ensures
    (both_out c.words.new.self parts end c.write_state_parts.new.out c.words-2.new.self c.in_ok-write_state_parts.ensures put))
    c.words-2.ensures
