-- They are the first so many.
use Rattle.std.proofs.Common.{List, ◌++◌, ◌∙◌, ap}
use Rattle.aom_fault_injection.specs.declared.injection.Injection.{Injection}
use Rattle.aom_fault_injection.proofs.Planning.{grown_is}
use Rattle.aom_fault_injection.proofs.plan.add_some_pairs.Goals as goal

pub returns-clause-pairs : goal.returns-clause-pairs
returns-clause-pairs c =
    let is = grown_is _ c.add_pairs.new.pairs.items c.args.most c.in_ok-left.left c.in_ok-left.ensures in
    c.in_ok-extend_from_slice.ensures.items ∙ ap (λ (xs : List Injection). c.args.injections.now.items ++ xs) (c.as_slice.ensures.value ∙ is.0)

pub returns-clause-left : goal.returns-clause-left
returns-clause-left c = (grown_is _ c.add_pairs.new.pairs.items c.args.most c.in_ok-left.left c.in_ok-left.ensures).1
