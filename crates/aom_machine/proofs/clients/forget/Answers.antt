use Rattle.std.proofs.Common.{arith, subst, suc, sym, ◌+◌, ◌≡◌}
use Rattle.aom_machine.proofs.Forgotten.{ForgetsFirst, one_more}
use Rattle.aom_machine.proofs.clients.forget.Goals as goal

pub loop-place-preserved : goal.loop-place-preserved
loop-place-preserved c =
    let next : c.loop-place.place-index + 1 ≡ suc c.loop-place.place-index = omega arith in
    subst (λ n. ForgetsFirst c.args.places.now n c.args.messages.now c.release.new.self) (sym next)
    (one_more c.args.places.now c.loop-place.place-index c.args.messages.now c.loop-place.messages
    c.release.new.self c.loop-place-test.true c.loop-place.invariant (rw c.in-Some.ensures.value at c.release.ensures.gone) c.release.ensures.count)
