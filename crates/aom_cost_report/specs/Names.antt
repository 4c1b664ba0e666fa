-- How classes and methods are told: by their names where there are some, and else by their numbers; and with their places in a text where those are known.
use Rattle.std.specs.Prelude.{ℕ, List, [], Option, Some, None, slice_get}
use Rattle.aom_cost_report.specs.Each.{numbered}
use Rattle.aom_cost_report.specs.Places.{Places}

-- names by number, that of number 0 first, and their places in a text
pub record Names : Type 0 where
  pub classes : List (List ℕ)
  pub methods : List (List ℕ)
  pub places : Option Places

-- no names
abbrev pub unnamed : Names
unnamed = record { classes = []; methods = []; places = None }

-- a name, or other words where there is none
abbrev pub name_or : List ℕ → Option (List ℕ) → List ℕ
name_or words None = words
name_or words (Some name) = name

-- the name at a number or, where there is none, words and the number
abbrev pub label : List (List ℕ) → List ℕ → ℕ → List ℕ
label names words number = name_or (numbered words number) (slice_get names number)
