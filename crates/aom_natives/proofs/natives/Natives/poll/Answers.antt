use Rattle.std.proofs.Common.{◌≡◌}
use Rattle.std.specs.Prelude.{MatchOption}
use Rattle.aom_natives.specs.Owed.{TakesOut}
use Rattle.aom_natives.proofs.Slots.{called, living-agrees, to-slot}
use Rattle.aom_natives.proofs.natives.Natives.poll.Goals as goal

pub poll-requires : goal.poll-requires
poll-requires g c =
    record { agree = living-agrees c.args.self.now.slots.items c.args.n _ _ c.requires.alive c.index_mut.ensures.value c.in-Some.is _ _ c.requires.agree }

pub returns : goal.returns
returns g c =
    let slots = c.args.self.now.slots.items in
    let agrees = called slots c.args.n _ _ c.requires.alive c.index_mut.ensures.value c.in-Some.is _ _ c.requires.agree c.poll.new.self c.poll.ensures.agree
    (λ old new. MatchOption c.poll.result (new ≡ old) (λ p. TakesOut p.0 old new)) c.poll.ensures.ids in
    let answers = to-slot slots c.args.n _ _ c.requires.alive c.index_mut.ensures.value c.in-Some.is
    (λ l. (goal.Native-dyn g (l.native.vtable, l.native.value)).poll_may l.native.value c.args.now c.poll.result) c.poll.ensures.answer in
    assumption (agrees, answers)
