use Rattle.std.proofs.Common.{arith}
use Rattle.aom_machine_instructions.proofs.TokenActs.{hand_cells, hand_does, hand_idle, hand_lives, hand_places}
use Rattle.aom_machine_instructions.proofs.messages.hand.Goals as goal

pub living-id-requires : goal.living-id-requires
living-id-requires c = rw c.this.ensures (hand_lives c.requires.0 c.args.parts.now c.args.to c.requires.1)

pub hand_out-token-requires-clause-idle : goal.hand_out-token-requires-clause-idle
hand_out-token-requires-clause-idle c = rw (c.living-id.ensures.value, c.this.ensures) (hand_idle c.requires.0 c.args.parts.now c.args.to c.requires.1)

pub hand_out-token-requires-clause-object : goal.hand_out-token-requires-clause-object
hand_out-token-requires-clause-object c =
    let below = c.living-id.ensures.below in
    let room = hand_cells c.requires.0 c.args.parts.now c.args.to c.requires.1 in
    omega (arith, below, room)

pub hand_out-token-requires-clause-places : goal.hand_out-token-requires-clause-places
hand_out-token-requires-clause-places c = hand_places c.requires.0 c.args.parts.now c.args.to c.requires.1

pub returns : goal.returns
returns c = λ refused.
    let reported = rw (c.number.ensures.value, c.living-id.ensures.value, c.this.ensures) at c.class-class.ensures in
    let hands = rw (c.living-id.ensures.value, c.this.ensures) at c.hand_out-token.ensures in
    rw c.set_and_advance.ensures.brought
    (hand_does c.args.parts.now refused c.args.to c.class-class.result c.set_and_advance.ensures.in_range reported c.hand_out-token.result c.hand_out-token.new.parts hands)
