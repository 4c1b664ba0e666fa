-- One name more is named.
use Rattle.std.proofs.Common.{rules}
use Rattle.aom_source.specs.Map.{IsNamed}
use Rattle.aom_source.proofs.Named.{one_more}
use Rattle.aom_source.proofs.scoping.are_named.Goals as goal

pub loop-named-preserved : goal.loop-named-preserved
loop-named-preserved c =
    one_more (IsNamed c.args.tokens.now c.args.written.now.origins.items) c.args.written.now.names.items c.deref-named-items.result.now c.loop-named.named-index _
    (search rules) (search rules) c.loop-named.invariant (c.is_named.ensures (search rules))
