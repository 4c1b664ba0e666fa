-- The first statement is the one at place 0.
use Rattle.std.proofs.Common.{◌≡◌, ◌∙◌, List, [], ◌∷◌, ap, refl, slice_get}
use Rattle.aom_text.specs.Text.{first_statement}
use Rattle.aom_text.specs.declared.text.Statement.{Statement}
use Rattle.aom_diagnostics.proofs.finding.image_statement.Goals as goal

first : (ss : List Statement) → first_statement ss ≡ slice_get ss 0
first [] = refl
first (s ∷ ss) = refl

pub returns : goal.returns
returns c = c.next.ensures.statement ∙ first c.of-text.result ∙ ap (λ ss. slice_get ss 0) c.of-text.ensures
