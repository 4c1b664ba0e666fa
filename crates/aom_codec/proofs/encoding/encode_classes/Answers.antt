-- Each goes behind those before it.
use Rattle.aom_codec.specs.Serialization.{class}
use Rattle.aom_codec.proofs.Putting.{one_more, all_put}
use Rattle.aom_codec.proofs.encoding.encode_classes.Goals as goal

pub loop-class-preserved : goal.loop-class-preserved
loop-class-preserved c =
    one_more (class c.args.version) _ _ _ c.class-item.result c.loop-class-test.true c.class-item.is c.loop-class.invariant c.in_ok-encode_class.ensures

pub returns : goal.returns
returns c = all_put (class c.args.version) _ _ _ c.loop-class-test.false c.loop-class.invariant
