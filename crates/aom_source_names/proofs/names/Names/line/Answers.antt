-- The next class is above the last.
use Rattle.std.proofs.Common.{◌≡◌, ◌+◌, ◌-◌, arith}
use Rattle.aom_source_names.proofs.Lines.{one_more}
use Rattle.aom_source_names.proofs.names.Names.line.Goals as goal

-- src/places.rt
pub loop-preserved : goal.loop-preserved
loop-preserved c =
    let count : 256 - c.loop.counter ≡ (256 - (c.loop.counter + 1)) + 1 = grind (arith, c.loop-test.true) in
    record { so_far = one_more _ _ _ _ _ _ _ _ _ count c.in-Some.is c.in_ok-next.ensures c.in_ok-push.ensures.items c.loop.invariant.so_far }
