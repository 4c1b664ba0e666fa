-- Each goes behind those before it.
use Rattle.aom_codec.specs.Serialization.{method}
use Rattle.aom_codec.proofs.Putting.{one_more, all_put}
use Rattle.aom_codec.proofs.encoding.encode_methods.Goals as goal

pub loop-method-preserved : goal.loop-method-preserved
loop-method-preserved c =
    one_more (method c.args.version) _ _ _ c.method-item.result c.loop-method-test.true c.method-item.is c.loop-method.invariant c.in_ok-encode_method.ensures

pub returns : goal.returns
returns c = all_put (method c.args.version) _ _ _ c.loop-method-test.false c.loop-method.invariant
