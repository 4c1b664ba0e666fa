-- The lines that are read are those before what is left.
use Rattle.std.proofs.Common.{subst}
use Rattle.aom_text.specs.Text.{lines_of}
use Rattle.aom_script.proofs.Lines.{SoFar, stops, goes_on, few}
use Rattle.aom_script.proofs.script.read_lines.Goals as goal

pub returns-in-Err-clause-err : goal.returns-in-Err-clause-err
returns-in-Err-clause-err c =
    let has_task = subst (λ ls. SoFar (lines_of c.args.text.now) ls c.loop-rest.count c.loop-rest.script) c.split_text_line-is_text.ensures.line c.loop-rest.invariant.so_far in
    stops _ _ _ _ _ c.add.new.self c.in-Err.kind has_task c.in-Err.ensures

pub loop-rest-preserved : goal.loop-rest-preserved
loop-rest-preserved c =
    let has_task = subst (λ ls. SoFar (lines_of c.args.text.now) ls c.loop-rest.count c.loop-rest.script) c.split_text_line-is_text.ensures.line c.loop-rest.invariant.so_far in
    record { so_far = goes_on _ _ _ _ _ _ has_task c.in-Ok.ensures; few = few _ c.split_text_line-is_text.result.0.now c.loop-rest.script c.add.new.self c.in-Ok.ensures }
