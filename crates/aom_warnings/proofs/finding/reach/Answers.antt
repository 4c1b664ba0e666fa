-- A place is told where it is cut off.
use Rattle.aom_warnings.proofs.Places.{cut_told, uncut_told}
use Rattle.aom_warnings.proofs.finding.reach.Goals as goal

pub returns-then-is_cut : goal.returns-then-is_cut
returns-then-is_cut c =
    let tells = rw c.as_slice.ensures at c.is_cut.ensures in
    cut_told c.args.image.now c.args.number c.args.method.now c.args.place c.requires.method _ tells c.if-is_cut.true

pub returns-else-is_cut : goal.returns-else-is_cut
returns-else-is_cut c =
    let tells = rw c.as_slice.ensures at c.is_cut.ensures in
    uncut_told c.args.image.now c.args.number c.args.method.now c.args.place c.requires.method _ tells c.if-is_cut.false
