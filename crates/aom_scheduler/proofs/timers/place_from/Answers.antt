use Rattle.std.proofs.Common.{◌≡◌, ◌≢◌, sym, subst, ◌∙◌, arith}
use Rattle.std.proofs.lemmas.Bool.{eqb-true, eqb-false, not-true, not-false}
use Rattle.aom_scheduler.proofs.Items.{walk-within, walk-on, walk-ends}
use Rattle.aom_scheduler.proofs.Timing.{id_of}
use Rattle.aom_scheduler.proofs.timers.place_from.Goals as goal

pub index-requires : goal.index-requires
index-requires c = omega (arith, walk-within id_of c.args.id c.args.queue.now.items c.loop-id.at c.requires.set c.loop-id.invariant, c.args.queue.now.ok.0)

pub overflow_add-at : goal.overflow_add-at
overflow_add-at c = record {
  fits = omega (
    arith,
    walk-within id_of c.args.id c.args.queue.now.items c.loop-id.at c.requires.set c.loop-id.invariant,
    c.args.queue.now.ok.0,
    c.args.queue.now.small.0,
    c.args.queue.now.small.1,
  );
}

pub loop-id-smaller : goal.loop-id-smaller
loop-id-smaller c = omega (arith, walk-within id_of c.args.id c.args.queue.now.items c.loop-id.at c.requires.set c.loop-id.invariant)

pub loop-id-preserved : goal.loop-id-preserved
loop-id-preserved c =
    let t = c.index.result.now in
    let other : id_of t ≢ c.args.id = eqb-false (id_of t) c.args.id (not-true _ (sym c.ne.ensures ∙ c.loop-id-test.true)) in
    walk-on id_of c.args.id c.args.queue.now.items c.loop-id.at t c.loop-id.invariant (subst (λ u. id_of u ≢ c.args.id) c.index.ensures other)

pub returns : goal.returns
returns c =
    let t = c.index.result.now in
    let same : id_of t ≡ c.args.id = eqb-true (id_of t) c.args.id (not-false _ (sym c.ne.ensures ∙ c.loop-id-test.false)) in
    let within = walk-within id_of c.args.id c.args.queue.now.items c.loop-id.at c.requires.set c.loop-id.invariant in
    walk-ends id_of c.args.id c.args.queue.now.items c.loop-id.at t c.requires.distinct within (subst (λ u. id_of u ≡ c.args.id) c.index.ensures same)
