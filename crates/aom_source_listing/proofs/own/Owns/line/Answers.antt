-- The next class is above the last.
use Rattle.std.proofs.Common.{◌≡◌, ◌+◌, ◌-◌, arith, rules}
use Rattle.aom_source_names.proofs.Lines.{one_more}
use Rattle.aom_source_listing.proofs.own.Owns.line.Goals as goal

pub loop-preserved : goal.loop-preserved
loop-preserved c =
    let count : 256 - c.loop.counter ≡ (256 - (c.loop.counter + 1)) + 1 = grind (arith, c.loop-test.true) in
    record { so_far = one_more _ _ _ _ _ _ _ _ _ count (search rules) (search rules) c.in_ok-push.ensures.items c.loop.invariant.so_far }
