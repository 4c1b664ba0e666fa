-- What is written in two parts, by associativity.
use Rattle.std.proofs.Common.{◌≡◌, ◌∙◌, ◌++◌, ℕ, List, ap, append_assoc}

pub both_out : (old a b now new : List ℕ) → now ≡ old ++ a → new ≡ now ++ b → new ≡ old ++ (a ++ b)
both_out old a b now new is put = put ∙ ap (λ (t : List ℕ). t ++ b) is ∙ append_assoc old a b
