-- What holds of whatever a reading gives of certain words, reading by reading.
use Rattle.std.proofs.Common.{◌≡◌, ℕ, List, Ok, subst}
use Rattle.aom_syntax.specs.Reading.{Reading, giving, next}
use Rattle.aom_asm_semantics.proofs.SyntaxLemmas.{ok_is, steps}

pub record Sound {X : Type 0} (r : Reading X) (ws : List (List ℕ)) (Q : X → List (List ℕ) → Type 0) : Type 0 where
  pub each : (x : X) (rest : List (List ℕ)) → r ws ≡ Ok (x, rest) → Q x rest

pub next_sound : {A B : Type 0} (Q : B → List (List ℕ) → Type 0) (a : Reading A) (b : A → Reading B) (ws : List (List ℕ))
    → ((x : A) (vs : List (List ℕ)) → a ws ≡ Ok (x, vs) → Sound (b x) vs Q) → Sound (next a b) ws Q
next_sound Q a b ws later = record {
  each = λ y rest is.
      let s = steps (a ws) (λ x. b x.0 x.1) (y, rest) is in
      (later s.first.0 s.first.1 s.read).each y rest s.second;
}

pub giving_sound : {X : Type 0} (Q : X → List (List ℕ) → Type 0) (x : X) (ws : List (List ℕ)) → Q x ws → Sound (giving x) ws Q
giving_sound Q x ws holds = record { each = λ y rest is. subst (λ p. Q p.0 p.1) (ok_is (x, ws) (y, rest) is) holds }
