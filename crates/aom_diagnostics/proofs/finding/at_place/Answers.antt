-- The statements end before one that begins with the keyword.
use Rattle.std.proofs.Common.{◌≡◌, ◌∙◌, ℕ, true, List, [], ◌∷◌, Some, None, refl, slice_get, sym}
use Rattle.aom_syntax.specs.declared.keyword.Keyword.{Keyword}
use Rattle.aom_text.specs.Text.{first_statement}
use Rattle.aom_text.specs.declared.text.Statement.{Statement}
use Rattle.aom_diagnostics.specs.Declarations.{begins, begins_with, part}
use Rattle.aom_diagnostics.proofs.finding.at_place.Goals as goal

ended : (key : Keyword) (ss : List Statement) (s : Statement) (place : ℕ) → Some s ≡ first_statement ss → true ≡ begins_with key s.words →
    None ≡ slice_get (part (begins key) ss 0) place
ended key [] s place there starts = refl
ended key (t ∷ ss) s place there starts = cc

pub returns-then-begins_with : goal.returns-then-begins_with
returns-then-begins_with c = ended c.args.key c.loop-statement.text c.in-Some.statement c.loop-statement.before c.in-Some.ensures.statement
    c.if-begins_with.ensures ∙ sym c.loop-statement.invariant
