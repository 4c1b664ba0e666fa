-- The names that a text declares.
use Rattle.std.specs.Prelude.{ℕ, Bool, false, if◌then◌else◌, List, [], ◌∷◌, ◌++◌, Option, Some, None}
use Rattle.std.specs.Str.{bytes_eq}
use Rattle.aom_text.specs.declared.text.Statement.{Statement}
use Rattle.aom_syntax.specs.declared.keyword.Keyword.{Keyword}
use Rattle.aom_syntax.specs.declared.keyword.Keyword.TheVariants as k
use Rattle.aom_syntax.specs.Keywords.{keyword_text}
use Rattle.aom_syntax.specs.Methods.{label_of}

-- the name behind a keyword, where a statement begins with it
abbrev pub name_after : Keyword → List (List ℕ) → Option (List ℕ)
name_after key [] = None
name_after key (w ∷ []) = None
name_after key (w ∷ n ∷ ws) = if bytes_eq w (keyword_text key) then Some n else None

-- a name behind others, where there is one
abbrev pub with_name : List (List ℕ) → Option (List ℕ) → List (List ℕ)
with_name names None = names
with_name names (Some n) = names ++ n ∷ []

-- the names behind a keyword, after some
abbrev pub declared_names : Keyword → List (List ℕ) → List Statement → List (List ℕ)
declared_names key names [] = names
declared_names key names (s ∷ ss) = declared_names key (with_name names (name_after key s.words)) ss

-- the statement that ends a method
abbrev pub is_end : List (List ℕ) → Bool
is_end [] = false
is_end (w ∷ ws) = bytes_eq w (keyword_text k.End)

abbrev pub label_or_none : Option (List ℕ) → List ℕ
label_or_none None = []
label_or_none (Some l) = l

-- the label that a statement begins with, or an empty one
abbrev pub label_in : List (List ℕ) → List ℕ
label_in [] = []
label_in (w ∷ ws) = label_or_none (label_of w)

-- the labels of the statements up to the end of a method, after some
abbrev pub labels_of : List (List ℕ) → List Statement → List (List ℕ)
labels_of labels [] = labels
labels_of labels (s ∷ ss) = if is_end s.words then labels else labels_of (labels ++ label_in s.words ∷ []) ss
