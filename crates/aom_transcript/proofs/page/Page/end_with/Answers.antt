use Rattle.std.proofs.Common.{ap, sym, ◌∙◌, ◌+◌, ◌++◌, ◌∷◌, [], List, ℕ}
use Rattle.std.proofs.lemmas.Fmt.{decimal_digit}
use Rattle.aom_transcript.proofs.page.Page.end_with.Goals as goal

-- the digit stands for the number
pub returns : goal.returns
returns c =
    let n = c.args.digit in
    let digit : List ℕ = (48 + n) ∷ 10 ∷ [] in
    c.add.ensures.text ∙ ap (λ text. text ++ digit) c.self.view_is ∙ ap (λ ds. c.args.self.now ++ (ds ++ 10 ∷ [])) (sym (decimal_digit n c.requires.small))
