use Rattle.std.proofs.Common.{◌≡◌, sym, ap, ◌∙◌, Some}
use Rattle.std.specs.Prelude.{slice_get}
use Rattle.std.proofs.lemmas.Bool.{eqb-true}
use Rattle.std.proofs.lemmas.Option.{get_or_from_slice_get, slice_get_within}
use Rattle.aom_scheduler.proofs.Items.{walk-ends}
use Rattle.aom_scheduler.proofs.Places.{id_of}
use Rattle.aom_scheduler.proofs.order.Order.hinted.Goals as goal

pub returns-then-eq : goal.returns-then-eq
returns-then-eq c =
    let entries = c.args.self.now.entries in
    let hint = c.from-hint.result in
    let e = c.in_ok-entry.field-0 in
    let is : slice_get entries hint ≡ Some e = sym c.entry.ensures ∙ c.in_ok-entry.was in
    let same : id_of e ≡ c.args.id = eqb-true _ _ (sym c.eq.ensures ∙ c.if-eq.true) in
    walk-ends id_of c.args.id entries hint e c.in_order.ensures.distinct (slice_get_within entries hint e is)
    (ap id_of (get_or_from_slice_get entries hint e e is) ∙ same)
