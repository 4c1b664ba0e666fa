use Rattle.std.proofs.Common.{◌≡◌, ◌<◌, ◌∙◌, ap, length, subst, sym, true, false, arith}
use Rattle.std.proofs.lemmas.Option.{slice_get-get_or}
use Rattle.aom_roles.specs.Families.{descends}
use Rattle.aom_link_conditions.proofs.Ordering.{reaches_all, reaches_first, reaches_no, reaches_yes, read_at}
use Rattle.aom_link_conditions.proofs.orders.greatest.Goals as goal
use Rattle.aom_link_conditions.proofs.orders.greatest.Goals.{then-descends, else-descends}

pub loop-other-init : goal.loop-other-init
loop-other-init c = reaches_first c.args.image.now _ c.args.class _ (read_at _ c.args.class _ c.requires c.number.ensures.value c.number.ensures.in_range)

pub loop-other-preserved : goal.loop-other-preserved
loop-other-preserved c =
    let count = c.len-other-end.ensures ∙ ap (λ cs. length cs) c.classes.ensures.value in
    let within : c.loop-other.other < length c.args.table.now =
    omega (arith, c.loop-other-test.true, count, c.classes.ensures.well_formed.classes.count, c.requires) in
    elim c.if-descends.branch [
      | then-descends w ↦
          let family = subst (λ x. descends c.args.image.now x c.args.class ≡ true) c.class_number.ensures (sym c.descends.ensures ∙ w.if-descends.true) in
          rw (w.most-is, w.max-most.ensures) (reaches_yes c.args.image.now c.args.table.now
          c.args.class c.loop-other.most _ c.loop-other.other c.loop-other.invariant (slice_get-get_or c.args.table.now c.loop-other.other 0 within) family)
      | else-descends w ↦
          let other = subst (λ x. descends c.args.image.now x c.args.class ≡ false) c.class_number.ensures (sym c.descends.ensures ∙ w.if-descends.false) in
          rw w.most-is (reaches_no c.args.image.now c.args.table.now c.args.class c.loop-other.most c.loop-other.other c.loop-other.invariant other)
    ]

pub returns : goal.returns
returns c =
    let count = c.len-other-end.ensures ∙ ap (λ cs. length cs) c.classes.ensures.value in
    reaches_all c.args.image.now c.args.table.now c.args.class c.loop-other.most _ c.loop-other.invariant (omega (arith, c.loop-other-test.false, count))
