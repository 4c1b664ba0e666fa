-- The number, and then what the entry is.
use Rattle.std.proofs.Common.{◌++◌, codes, decimal}
use Rattle.std.proofs.lemmas.Result.{IfOk-weaker}
use Rattle.aom_diagnostics.proofs.Parts.{both_out}
use Rattle.aom_diagnostics.specs.Known.{pushed_words}
use Rattle.aom_diagnostics.proofs.known.write_numbered.Goals as goal

pub returns : goal.returns
returns c =
    let number = c.args.lead.now ++ decimal c.args.number in
    let pushed = pushed_words c.args.names.now c.args.entry in
    IfOk-weaker c.write_pushed.result _ _
    (λ done put.
    both_out c.args.out.now number (codes " " ++ pushed) c.write_number.new.out c.write_pushed.new.out c.in_ok-write_number.ensures
    (both_out c.write_number.new.out (codes " ") pushed c.words.new.self c.write_pushed.new.out c.in_ok-words.ensures put))
    c.write_pushed.ensures
