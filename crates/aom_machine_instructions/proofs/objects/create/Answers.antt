use Rattle.aom_machine_instructions.proofs.ObjectActs.{new_does}
use Rattle.aom_machine_instructions.proofs.objects.create.Goals as goal

pub returns : goal.returns
returns c =
    let made = rw c.request_cell-refused.ensures.counted at c.new_cell-number.ensures.made in
    rw (c.set_and_advance.ensures.brought, c.new_cell-number.ensures.rest, c.request_cell-refused.ensures.counted)
    (new_does c.args.parts.now c.args.lines.now c.args.to c.args.class c.new_cell-number.result
    c.request_cell-refused.result c.new_cell-number.new.self.cells c.set_and_advance.ensures.in_range c.request_cell-refused.ensures.refused made)
