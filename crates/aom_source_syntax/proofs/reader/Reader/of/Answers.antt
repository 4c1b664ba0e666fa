use Rattle.std.proofs.Common.{◌∙◌, ◌∷◌, List, ap}
use Rattle.aom_source_syntax.specs.declared.declarations.DeclarationPart.TheVariants as d
use Rattle.aom_source_syntax.specs.declared.stack.Waiting.{Waiting}
use Rattle.aom_source_syntax.specs.Grammar.{declaration}
use Rattle.aom_source_syntax.specs.Reading.{waiting}
use Rattle.aom_source_syntax.proofs.Standing.{stands_first, stands_as}
use Rattle.aom_source_syntax.proofs.reader.Reader.of.Goals as goal

pub returns-in-Ok-clause-stands : goal.returns-in-Ok-clause-stands
returns-in-Ok-clause-stands c =
    stands_as c.args.text.now _ c.new.result.items _ c.push.new.self 0 c.new.ensures.items
    (c.in-Ok.ensures ∙ ap (λ (ws : List Waiting). waiting 0 (declaration d.Program) ∷ ws) c.new-stack.ensures) (stands_first c.args.text.now)
