use Rattle.std.proofs.Common.{◌∙◌, arith, ap}
use Rattle.aom_clients.specs.Lists.{Table}
use Rattle.aom_clients.proofs.Draining.{Released, released}
use Rattle.aom_clients.proofs.withdrawal.release.Goals as goal

pub push_last-requires-clause-node : goal.push_last-requires-clause-node
push_last-requires-clause-node c = omega (arith, c.in-Some.ensures.below, ap (λ (t : Table). t.nodes) c.take_first.ensures.rest)

pub loop-place-preserved : goal.loop-place-preserved
loop-place-preserved c =
    let made : Released c.loop-place.sent c.push_last.new.self c.args.client = released c.loop-place.sent c.take_first.new.self c.push_last.new.self c.args.client c.in-Some.place
    (omega (arith, c.loop-place.invariant.lists, c.requires.client)) c.in-Some.ensures.first c.take_first.ensures.rest c.push_last.ensures in
    record {
      lists = made.long ∙ c.loop-place.invariant.lists;
      sent = made.same ∙ c.loop-place.invariant.sent;
    }
