-- The value that bytes say, by what reading them gives.
use Rattle.std.proofs.Common.{◌≡◌, ◌∙◌, ℕ, Bool, true, false, cond, List, Some, None, ap, refl}
use Rattle.std.proofs.lemmas.Str.{IsUtf8-from_is_utf8, is_utf8-from_IsUtf8}
use Rattle.std.specs.Str.{IsUtf8, is_utf8}
use Rattle.serde_json.specs.Data.{Data}
use Rattle.serde_json.specs.Read.{read}
use Rattle.aom_language_answers.specs.Messages.{value_said}

pub value_read : (bytes : List ℕ) (d : Data) → IsUtf8 bytes → read bytes ≡ Some d → value_said bytes ≡ Some d
unfolding value_said
value_read bytes d text is = ap (λ (b : Bool). cond b (read bytes) None) (is_utf8-from_IsUtf8 bytes text) ∙ is

pub no_value : (bytes : List ℕ) → (IsUtf8 bytes → read bytes ≡ None) → value_said bytes ≡ None
unfolding value_said
no_value bytes none = elim (is_utf8 bytes) as (λ b. is_utf8 bytes ≡ b → cond b (read bytes) None ≡ None) [
  | true ↦ λ text. none (IsUtf8-from_is_utf8 bytes text)
  | false ↦ λ _. refl
] refl
