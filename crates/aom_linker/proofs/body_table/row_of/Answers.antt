-- A class without an overrider, itself or from above, needs no row.
use Rattle.aom_linker.proofs.Unoverridden.{bare, no_overrider}
use Rattle.aom_linker.proofs.body_table.row_of.Goals as goal

pub returns-then-not-has_row_above : goal.returns-then-not-has_row_above
returns-then-not-has_row_above c = λ m.
    let p = c.args.image.now in
    bare p c.args.class m (no_overrider p c.args.class m (c.overrides_nothing_in.ensures.0 c.if-overrides_nothing_in.true)) (c.has_row_above.ensures c.if-not-has_row_above.true m)
