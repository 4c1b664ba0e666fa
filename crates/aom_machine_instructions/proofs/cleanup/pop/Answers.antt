use Rattle.std.proofs.Common.{rules, ap, ◌∙◌, ◌∷◌}
use Rattle.aom_machine_instructions.proofs.EntryActs.{pop_does}
use Rattle.aom_machine_instructions.proofs.Topping.{finds_object_last}
use Rattle.aom_machine_instructions.proofs.cleanup.pop.Goals as goal

pub unreachable-requires : goal.unreachable-requires
unreachable-requires c = let h = finds_object_last c.requires.0 c.args.parts.now _ c.requires.1 (λ ch fr ts s n. n.1.1.0) in search rules

pub returns : goal.returns
returns c = λ refused.
    let es = c.pop.new.self in
    let popped = c.in-Some-Object.ensures.some.1 ∙ ap (λ i. record es { items = i ∷ es.items }) c.in-Some-Object.field-0-is in
    rw c.set_and_advance.ensures.brought (pop_does c.args.parts.now refused es c.args.to c.in-Some-Object.object c.set_and_advance.ensures.in_range popped)
