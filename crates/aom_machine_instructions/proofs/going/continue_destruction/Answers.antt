-- What follows in the line is a method.
use Rattle.std.proofs.Common.{◌∙◌, sym}
use Rattle.aom_machine_instructions.proofs.LineActs.{next_there}
use Rattle.aom_machine_instructions.proofs.going.continue_destruction.Goals as goal

pub destructor_frame-requires : goal.destructor_frame-requires
destructor_frame-requires c = record { there = next_there c.args.linked.now c.in-Some.next c.args.destructor (sym c.next_destructor.ensures ∙ c.in-Some.is) }
