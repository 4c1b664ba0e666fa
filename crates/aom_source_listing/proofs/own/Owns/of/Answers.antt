-- What is kept of one class more is right.
use Rattle.aom_source_listing.proofs.Among.{one_own_more}
use Rattle.aom_source_listing.proofs.own.Owns.of.Goals as goal

pub loop-class-preserved : goal.loop-class-preserved
loop-class-preserved c =
    one_own_more c.args.names.now c.loop-class.classes.items c.push.new.self.items c.in_ok-own_of.field-0 c.in_ok-push.ensures.items c.loop-class.invariant c.in_ok-own_of.ensures
