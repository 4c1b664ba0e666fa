-- A fault, as the protocol has it.
use Rattle.std.specs.Prelude.{ℕ, ◌==◌, ◌&&◌, ◌||◌, Bool, not, nat_le, if◌then◌else◌, List, [], ◌∷◌, codes, drop}
use Rattle.std.specs.List.{position_or_len}
use Rattle.serde_json.specs.Data.{Data, number, object, string, unsigned, member, no_members}
use Rattle.aom_language_answers.specs.Positions.{range_data, range_in}

abbrev pub is_word_byte : ℕ → Bool
is_word_byte byte = (nat_le 97 byte && nat_le byte 122) || (nat_le 65 byte && nat_le byte 90) || (nat_le 48 byte && nat_le byte 57) || byte == 95

-- how many letters, digits and underscores come first
abbrev pub word_bytes : List ℕ → ℕ
word_bytes text = position_or_len (λ byte. not (is_word_byte byte)) text

-- how many bytes the word has with which a text begins: one of another kind is a word of its own
abbrev pub word_length : List ℕ → ℕ
word_length [] = 0
word_length (byte ∷ text) = if word_bytes (byte ∷ text) == 0 then 1 else word_bytes (byte ∷ text)

-- a fault of a text, at the word that begins at a byte
abbrev pub diagnostic_data : (seen text : List ℕ) → (at : ℕ) → (fault message : List ℕ) → Data
diagnostic_data seen text at fault message =
    object (member (codes "code") (string fault) (member (codes "message") (string message) (member (codes "range") (range_data (range_in seen at (word_length (drop at text))))
    (member (codes "severity") (number (unsigned 1)) (member (codes "source") (string (codes "aom")) no_members)))))
