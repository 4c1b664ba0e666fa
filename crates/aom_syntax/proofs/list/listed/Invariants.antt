use Rattle.std.proofs.Common.{◌≡◌}
use Rattle.std.specs.Option.{option_map}
use Rattle.aom_syntax.specs.Classes.{listed, elements, parts_left}
use Rattle.aom_syntax.proofs.Lists.{left_of}
use Rattle.aom_syntax.proofs.list.listed.Given as goal

abbrev pub invariant-loop-rest : goal.invariant-loop-rest
invariant-loop-rest g l = listed l.fn.most (g.E.ReadElement.said l.fn.scope) l.fn.word ≡ elements l.fn.most (g.E.ReadElement.said l.fn.scope) l.elements.items
    (parts_left (option_map (λ r. r.now) l.rest))

abbrev pub decreases-loop-rest : goal.decreases-loop-rest
decreases-loop-rest g l = left_of (option_map (λ r. r.now) l.rest)
