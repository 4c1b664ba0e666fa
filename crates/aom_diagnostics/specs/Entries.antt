-- What is told of a fault by its kind and number alone.
use Prim.Native.String.{String}
use Rattle.std.specs.Prelude.{ℕ, List, [], ◌∷◌, ◌++◌, codes}

-- the texts of an entry: a fault's name, what it means, and what usually mends it
pub record Texts : Type 0 where
  pub name : List ℕ
  pub meaning : List ℕ
  pub remedy : List ℕ

abbrev pub texts : (name meaning remedy : String) → Texts
texts name meaning remedy = record { name = codes name; meaning = codes meaning; remedy = codes remedy }

-- words to the end of a line
abbrev pub sentence : List ℕ → List ℕ
sentence words = words ++ 10 ∷ []

-- what a fault is called, and what it means
abbrev pub meaning_line : Texts → List ℕ
meaning_line e = e.name ++ codes ": " ++ sentence e.meaning

abbrev pub remedy_line : Texts → List ℕ
remedy_line e = codes "To mend it: " ++ sentence e.remedy

-- an entry in two lines
abbrev pub entry_text : Texts → List ℕ
entry_text e = meaning_line e ++ remedy_line e
