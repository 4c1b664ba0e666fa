-- What is written part by part, by associativity.
use Rattle.std.proofs.Common.{◌≡◌, ◌∙◌, ◌+◌, ◌++◌, ℕ, List, add-one, ap, append_assoc, sym}
use Rattle.aom_cost_report.specs.Text.{by_number}

pub both_out : (old a b now new : List ℕ) → now ≡ old ++ a → new ≡ now ++ b → new ≡ old ++ (a ++ b)
both_out old a b now new is put = put ∙ ap (λ (t : List ℕ). t ++ b) is ∙ append_assoc old a b

pub one_part_more : (f : ℕ → List ℕ) (n : ℕ) (old now new : List ℕ) → now ≡ old ++ by_number f n → new ≡ now ++ f n → new ≡ old ++ by_number f (n + 1)
one_part_more f n old now new is put = put ∙ ap (λ (t : List ℕ). t ++ f n) is ∙ append_assoc old (by_number f n) (f n)
    ∙ ap (λ k. old ++ by_number f k) (sym (add-one n))
