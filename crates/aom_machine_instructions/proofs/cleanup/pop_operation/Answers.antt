use Rattle.aom_machine_instructions.proofs.EntryActs.{pop_operation_does}
use Rattle.aom_machine_instructions.proofs.Topping.{comes_off, finds_entry_last}
use Rattle.aom_machine_instructions.proofs.cleanup.pop_operation.Goals as goal

pub returns : goal.returns
returns c = λ refused.
    let m = c.args.parts.now in
    let es = c.pop.new.self in
    let above = finds_entry_last c.requires.0 m _ c.requires.1 (λ ch fr ts s n. n.0) in
    let last = comes_off m.entries es c.pop.result above c.pop.ensures.none c.pop.ensures.some in
    rw c.next.ensures (pop_operation_does m refused es last.0 last.1)
