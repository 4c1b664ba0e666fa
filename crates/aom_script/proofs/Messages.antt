-- The words of a message are five: fewer, or more, are no message.
use Rattle.std.proofs.Common.{◌≡◌, ◌∙◌, ℕ, false, true, List, [], ◌∷◌, Option, Some, None, Result, Err, refl, sym, ap}
use Rattle.std.specs.Prelude.{option_map}
use Rattle.std.specs.Borrow.{Bor}
use Rattle.aom_text.specs.Words.{first_of, others_of, is_none_left}
use Rattle.aom_text.specs.Numbers.{number_of}
use Rattle.aom_script.specs.Script.{command_numbers, message_numbers, message_says}
use Rattle.aom_script.specs.declared.fault.ScriptFaultKind.{ScriptFaultKind}
use Rattle.aom_script.specs.declared.fault.ScriptFaultKind.TheVariants.{BadLine}
use Rattle.aom_script.specs.declared.reading.Reading.{Reading}

-- no word was there
pub none_there : (found : Option (Bor (List ℕ))) (ws : List (List ℕ)) → option_map (λ w. w.now) found ≡ first_of ws → found ≡ None → first_of ws ≡ None
none_there found ws is none = sym is ∙ ap (option_map (λ w. w.now)) none

ends : (ws : List (List ℕ)) → first_of ws ≡ None → first_of (others_of ws) ≡ None
ends [] none = refl
ends (w ∷ ws) none = cc

-- and so none is behind it
pub none_behind : (ws rest : List (List ℕ)) → rest ≡ others_of ws → first_of ws ≡ None → first_of rest ≡ None
none_behind ws rest is none = ap first_of is ∙ ends ws none

short : (time client : List ℕ) (ws : List (List ℕ)) → first_of (others_of (others_of (others_of (others_of ws)))) ≡ None → Err BadLine ≡ message_says time client ws
short time client [] none = refl
short time client (a ∷ []) none = refl
short time client (a ∷ b ∷ []) none = refl
short time client (a ∷ b ∷ c ∷ []) none = refl
short time client (a ∷ b ∷ c ∷ d ∷ []) none = refl
short time client (a ∷ b ∷ c ∷ d ∷ e ∷ ws) none = cc

long : (time client : List ℕ) (ws : List (List ℕ)) → is_none_left (others_of (others_of (others_of (others_of (others_of ws))))) ≡ false →
    Err BadLine ≡ message_says time client ws
long time client [] some = cc
long time client (a ∷ []) some = cc
long time client (a ∷ b ∷ []) some = cc
long time client (a ∷ b ∷ c ∷ []) some = cc
long time client (a ∷ b ∷ c ∷ d ∷ []) some = cc
long time client (a ∷ b ∷ c ∷ d ∷ e ∷ []) some = cc
long time client (a ∷ b ∷ c ∷ d ∷ e ∷ f ∷ ws) some = refl

-- what a message of these words says
abbrev pub says_of : (time client f a b d e : List ℕ) → Result Reading ScriptFaultKind
says_of time client f a b d e =
    command_numbers (number_of time) (number_of client) (message_numbers (number_of f) (number_of a) (number_of b) (number_of d) (number_of e))

five : (time client f a b d e : List ℕ) (ws : List (List ℕ)) → Some f ≡ first_of ws → Some a ≡ first_of (others_of ws) → Some b ≡ first_of (others_of
    (others_of ws)) → Some d ≡ first_of (others_of (others_of (others_of ws))) → Some e ≡ first_of (others_of (others_of (others_of (others_of ws)))) →
    true ≡ is_none_left (others_of (others_of (others_of (others_of (others_of ws))))) → says_of time client f a b d e ≡ message_says time client ws
five time client f a b d e [] f_is a_is b_is d_is e_is none = cc
five time client f a b d e (v ∷ []) f_is a_is b_is d_is e_is none = cc
five time client f a b d e (v ∷ w ∷ []) f_is a_is b_is d_is e_is none = cc
five time client f a b d e (v ∷ w ∷ x ∷ []) f_is a_is b_is d_is e_is none = cc
five time client f a b d e (v ∷ w ∷ x ∷ y ∷ []) f_is a_is b_is d_is e_is none = cc
five time client f a b d e (v ∷ w ∷ x ∷ y ∷ z ∷ []) f_is a_is b_is d_is e_is none = cc
five time client f a b d e (v ∷ w ∷ x ∷ y ∷ z ∷ more ∷ ws) f_is a_is b_is d_is e_is none = cc

module _ (time client : List ℕ) (ws ws₁ ws₂ ws₃ ws₄ : List (List ℕ)) (one : ws₁ ≡ others_of ws) (two : ws₂ ≡ others_of ws₁) (three : ws₃ ≡ others_of ws₂)
    (four : ws₄ ≡ others_of ws₃) where
  four_on : ws₄ ≡ others_of (others_of (others_of (others_of ws)))
  four_on = four ∙ ap others_of (three ∙ ap others_of (two ∙ ap others_of one))

  pub too_few : first_of ws₄ ≡ None → Err BadLine ≡ message_says time client ws
  too_few none = short time client ws (ap first_of (sym four_on) ∙ none)

  pub too_many : (ws₅ : List (List ℕ)) → ws₅ ≡ others_of ws₄ → is_none_left ws₅ ≡ false → Err BadLine ≡ message_says time client ws
  too_many ws₅ five some = long time client ws (ap is_none_left (sym (five ∙ ap others_of four_on)) ∙ some)

  pub just_five : (f a b d e : List ℕ) → Some f ≡ first_of ws → Some a ≡ first_of ws₁ → Some b ≡ first_of ws₂ → Some d ≡ first_of ws₃ → Some e ≡ first_of ws₄ →
      (ws₅ : List (List ℕ)) → ws₅ ≡ others_of ws₄ → true ≡ is_none_left ws₅ → says_of time client f a b d e ≡ message_says time client ws
  just_five f a b d e f_is a_is b_is d_is e_is ws₅ last none =
      five time client f a b d e ws f_is (a_is ∙ ap first_of one) (b_is ∙ ap first_of (two ∙ ap others_of one)) (d_is
      ∙ ap first_of (three ∙ ap others_of (two ∙ ap others_of one))) (e_is ∙ ap first_of four_on) (none ∙ ap is_none_left (last ∙ ap others_of four_on))
