-- Which statements of a text declare what its image has.
use Rattle.std.specs.Prelude.{ℕ, ◌+◌, Bool, false, List, [], ◌∷◌, Option, map, slice_get, slice_index_or}
use Rattle.std.specs.List.{filter, slice_split}
use Rattle.std.specs.Str.{bytes_eq}
use Rattle.aom_syntax.specs.Keywords.{keyword_text}
use Rattle.aom_syntax.specs.declared.keyword.Keyword.{Keyword}
use Rattle.aom_syntax.specs.declared.keyword.Keyword.TheVariants as k
use Rattle.aom_text.specs.Text.{statements}
use Rattle.aom_text.specs.declared.text.Statement.{Statement}

-- the first of the words is that keyword
abbrev pub begins_with : Keyword → List (List ℕ) → Bool
begins_with key [] = false
begins_with key (w ∷ ws) = bytes_eq w (keyword_text key)

-- a statement that begins with that keyword
abbrev pub begins : Keyword → Statement → Bool
begins key s = begins_with key s.words

-- what stands between what passes a test: number 0 before the first, number 1 behind it up to the next, and so on
abbrev pub part : {X : Type 0} → (X → Bool) → List X → ℕ → List X
part test xs number = slice_index_or (slice_split test xs) number []

-- the statement that declares the image is the first
abbrev pub image_statement : List ℕ → Option Statement
image_statement text = slice_get (statements text) 0

-- of a class: of the statements that begin with `class`, the one of its number
abbrev pub class_statement : List ℕ → ℕ → Option Statement
class_statement text number = slice_get (filter (begins k.Class) (statements text)) number

-- of a method: of the statements that begin with `method`, the one of its number
abbrev pub method_statement : List ℕ → ℕ → Option Statement
method_statement text number = slice_get (filter (begins k.Method) (statements text)) number

-- the statements behind it, up to that of the next method
abbrev pub method_body : List ℕ → ℕ → List Statement
method_body text number = part (begins k.Method) (statements text) (number + 1)

-- of the instruction at a place of a method: the one at that place of them
abbrev pub instruction_statement : List ℕ → ℕ → ℕ → Option Statement
instruction_statement text number place = slice_get (method_body text number) place

-- the name in a statement that declares one: its second word
abbrev pub name_in : List (List ℕ) → List ℕ
name_in [] = []
name_in (w ∷ []) = []
name_in (w ∷ name ∷ ws) = name

-- the names in those of the statements that begin with that keyword, in their order
abbrev pub names_in : Keyword → List Statement → List (List ℕ)
names_in key ss = map (λ s. name_in s.words) (filter (begins key) ss)

-- the names of a text's classes, that of class 0 first
abbrev pub class_names : List ℕ → List (List ℕ)
class_names text = names_in k.Class (statements text)

-- the names of a text's methods, that of method 0 first
abbrev pub method_names : List ℕ → List (List ℕ)
method_names text = names_in k.Method (statements text)
