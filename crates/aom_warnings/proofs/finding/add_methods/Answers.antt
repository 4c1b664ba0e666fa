-- A method more is told.
use Rattle.std.proofs.Common.{arith}
use Rattle.aom_warnings.specs.Warnings.{OfMethod}
use Rattle.aom_warnings.proofs.Adding.{adds_more}
use Rattle.aom_warnings.proofs.Places.{method_there}
use Rattle.aom_warnings.proofs.finding.add_methods.Goals as goal

pub add_method-requires-clause-method : goal.add_method-requires-clause-method
add_method-requires-clause-method c = method_there c.args.image.now c.methods-methods.result.now _ c.loop-number.number _ c.methods-methods.ensures.value
    c.method_number.ensures (omega (arith, c.loop-number-test.true, c.len-number-end.ensures)) c.at.ensures

pub loop-number-preserved : goal.loop-number-preserved
loop-number-preserved c =
    let told = rw c.method_number.ensures at c.in_ok-add_method.ensures in
    adds_more c.args.image.now OfMethod c.loop-number.number _ _ _ c.loop-number.invariant told
