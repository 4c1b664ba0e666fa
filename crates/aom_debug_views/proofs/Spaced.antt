-- Words that go out one by one, each behind a space.
use Rattle.std.proofs.Common.{◌≡◌, ◌∙◌, ℕ, List, [], ◌∷◌, ◌++◌, Option, Some, None, ap, append_assoc, refl, sym}
use Rattle.std.proofs.lemmas.Option.{none-some, same_Some}
use Rattle.aom_text.specs.Words.{first_of, others_of}
use Rattle.aom_text.specs.declared.text.Statement.{Statement}
use Rattle.aom_transcript.specs.Text.{ended}
use Rattle.aom_diagnostics.specs.Sources.{spaced}
use Rattle.aom_debug_symbols.specs.Answers.{behind, statement_text}
use Rattle.aom_debug_views.specs.Reporting.{tail_text}

spaced_next : (ws : List (List ℕ)) (w : List ℕ) → Some w ≡ first_of ws → spaced ws ≡ (32 ∷ []) ++ (w ++ spaced (others_of ws))
spaced_next [] w is = absurd (none-some w (sym is))
spaced_next (x ∷ xs) w is = ap (λ (u : List ℕ). (32 ∷ []) ++ (u ++ spaced xs)) (sym (same_Some w x is))

module _ (done : List ℕ) (ws others : List (List ℕ)) (w all : List ℕ) (is : Some w ≡ first_of ws) (rest : others ≡ others_of ws)
    (was : done ++ spaced ws ≡ all) where
  pub before_space : done ++ ((32 ∷ []) ++ (w ++ spaced others)) ≡ all
  before_space = ap (λ xs. done ++ ((32 ∷ []) ++ (w ++ spaced xs))) rest ∙ ap (λ (u : List ℕ). done ++ u) (sym (spaced_next ws w is)) ∙ was

  pub before_word : (done ++ 32 ∷ []) ++ (w ++ spaced others) ≡ all
  before_word = append_assoc done (32 ∷ []) (w ++ spaced others) ∙ before_space

  pub behind_word : ((done ++ 32 ∷ []) ++ w) ++ spaced others ≡ all
  behind_word = append_assoc (done ++ 32 ∷ []) w (spaced others) ∙ before_word

-- what ends a line that shows a statement
pub tail_ends : (head : List ℕ) (found : Option Statement) → head ++ tail_text found ≡ ended (behind head found)
tail_ends head None = refl
tail_ends head (Some s) = sym (append_assoc head (statement_text s) (10 ∷ []))
