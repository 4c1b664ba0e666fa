-- The statement is the first that is left.
use Rattle.std.proofs.Common.{◌≡◌, ◌∙◌, ◌==◌, ℕ, true, List, [], ◌∷◌, Some, ap, sym}
use Rattle.std.proofs.lemmas.Bool.{eq-eqb}
use Rattle.aom_instructions.specs.declared.mnemonic.Mnemonic.{Mnemonic}
use Rattle.aom_text.specs.Text.{first_statement}
use Rattle.aom_text.specs.declared.text.Statement.{Statement}
use Rattle.aom_diagnostics.specs.Malformed.{malformed, malformed_in, unlabelled}
use Rattle.aom_diagnostics.proofs.malformed.malformed_in.Goals as goal

reported : (line : ℕ) (ss : List Statement) (s : Statement) (m : Mnemonic) → Some s ≡ first_statement ss → (s.line == line) ≡ true →
    Some m ≡ malformed (unlabelled s.words) → Some m ≡ malformed_in line ss
reported line [] s m there here is = cc
reported line (t ∷ ss) s m there here is = cc

pub returns-in-Some-malformed : goal.returns-in-Some-malformed
returns-in-Some-malformed c =
    reported c.args.line c.loop-statement.text c.in-Some.statement c.in-Some-malformed.mnemonic c.in-Some.ensures.statement (eq-eqb c.in-Some.statement.line c.args.line c.if-statement-line.true)
    (sym c.in-Some-malformed.is ∙ c.malformed.ensures ∙ ap malformed c.unlabelled.ensures) ∙ sym c.loop-statement.invariant
