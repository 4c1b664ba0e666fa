use Rattle.std.proofs.Common.{◌≡◌, ◌+◌, ◌-◌, sym, ap, ◌∙◌, [], ◌∷◌, take, drop, arith}
use Rattle.aom_text.specs.Words.{words}
use Rattle.aom_text.specs.Text.{in_line}
use Rattle.aom_text.proofs.Parting.{comment_some, comment_none}
use Rattle.aom_text.proofs.text.first_of_comment.Goals as goal

pub returns-in-Some-clause-first : goal.returns-in-Some-clause-first
returns-in-Some-clause-first c =
    let one : 1 ≡ (c.in-Some.at + 1) - c.in-Some.at = omega arith in
    comment_some c.args.number c.args.comment.now c.in-Some.at (sym c.in-Some.ensures)
    ∙ ap (λ n. in_line c.args.number (words (take n (drop c.in-Some.at c.args.comment.now))) ∷ []) one
    ∙ ap (λ ws. in_line c.args.number ws ∷ []) (sym c.of-words.ensures)

pub returns-in-None-clause-first : goal.returns-in-None-clause-first
returns-in-None-clause-first c = comment_none c.args.number c.args.comment.now (sym c.in-None.ensures)
