-- Pieces of a text, one behind the other.
use Rattle.std.proofs.Common.{◌≡◌, ◌∙◌, ◌++◌, ℕ, List, ap, append_assoc}

pub both_out : (before one other mid new : List ℕ) → mid ≡ before ++ one → new ≡ mid ++ other → new ≡ before ++ (one ++ other)
both_out before one other mid new first second = second ∙ ap (λ text. text ++ other) first ∙ append_assoc before one other
