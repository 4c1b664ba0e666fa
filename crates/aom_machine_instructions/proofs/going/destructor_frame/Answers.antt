use Rattle.aom_machine_instructions.proofs.AbstractStateLemmas.{class_there}
use Rattle.aom_machine_instructions.proofs.going.destructor_frame.Goals as goal

pub returns : goal.returns
returns c = rw (
  c.counting_as.ensures,
  c.begin.ensures,
  c.view_in-view.ensures,
  class_there c.args.linked.now c.args.destructor c.method.result.now c.method.ensures,
)
