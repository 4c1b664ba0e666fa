use Rattle.std.proofs.Common.{◌<◌, ◌+◌, length, sym, subst, ap, Some, arith}
use Rattle.std.specs.Prelude.{slice_set}
use Rattle.aom_scheduler.proofs.Items.{few}
use Rattle.aom_scheduler.proofs.Keys.{Renewed, renewed-more}
use Rattle.aom_scheduler.proofs.Places.{id_of}
use Rattle.aom_scheduler.proofs.order.next_turn.Goals as goal

pub overflow_cast-at : goal.overflow_cast-at
overflow_cast-at c =
    let ordered = c.requires.keyed.ordered in
    let many = few id_of _ c.args.entries.now.items ordered.below ordered.distinct in
    record { fits = omega (arith, many, c.requires.few, c.loop-at-test.true, c.len-at-end.ensures, c.args.entries.now.ok.0) }

pub loop-at-preserved : goal.loop-at-preserved
loop-at-preserved c =
    let entries = c.args.entries.now.items in
    let start = c.args.keys.now.items in
    let keys = c.loop-at.keys.items in
    let e = c.index.result.now in
    let ordered = c.requires.keyed.ordered in
    let within : c.loop-at.at < length entries = omega (arith, c.loop-at-test.true, c.len-at-end.ensures, c.args.entries.now.ok.0) in
    let small : e.id < length keys = omega (arith, ordered.below c.loop-at.at e within, ap id_of c.index.ensures, c.loop-at.invariant.length) in
    let more = renewed-more entries start keys c.loop-at.at e ordered.distinct within c.index.ensures small c.loop-at.invariant in
    subst (λ k. Renewed entries start (slice_set keys k (Some c.of.result)) (c.loop-at.at + 1)) (sym c.number.ensures.value)
    (subst (λ key. Renewed entries start (slice_set keys e.id (Some key)) (c.loop-at.at + 1)) (sym c.of.ensures) more)

pub overflow_cast-result : goal.overflow_cast-result
overflow_cast-result c =
    let ordered = c.requires.keyed.ordered in
    let many = few id_of _ c.args.entries.now.items ordered.below ordered.distinct in
    record { fits = omega (arith, many, c.requires.few, c.len.ensures, c.args.entries.now.ok.0) }

pub returns-clause-behind : goal.returns-clause-behind
returns-clause-behind c =
    let ordered = c.requires.keyed.ordered in
    let many = few id_of _ c.args.entries.now.items ordered.below ordered.distinct in
    omega (arith, many, c.requires.few, c.len.ensures, c.args.entries.now.ok.0)
