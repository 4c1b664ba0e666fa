-- The way to an object, as the map of owners tells it.
use Rattle.std.specs.Prelude.{ℕ, Bool, true, false, cond, ◌==◌, List, [], ◌∷◌, ◌++◌, Option, Some, None, codes, option_map}
use Rattle.std.specs.List.{flat_map}
use Rattle.aom_transcript.specs.Text.{ended}
use Rattle.aom_semantics.specs.Places.{named}
use Rattle.aom_semantics.specs.State.{State}
use Rattle.aom_debug_protocol.specs.declared.answer.Answer.{Answer}
use Rattle.aom_debug_symbols.specs.NameLists.{NameLists, has_text}
use Rattle.aom_debug_symbols.specs.Answers.{head_by}
use Rattle.aom_debug_views.specs.CellViews.{class_of}
use Rattle.aom_debug_views.specs.Owners.{Owned, Way, owners, way_text}

-- to the first of that name
abbrev pub way_among : ℕ → List Owned → Option Way
way_among n [] = None
way_among n (x ∷ xs) = cond (x.object.name == n) (Some x.way) (way_among n xs)

-- where an object lives
abbrev pub way_if : (class : Option ℕ) → Option Way → Option Way
way_if None way = None
way_if (Some class) way = way

-- to the object of that name
abbrev pub way_in : State → ℕ → Option Way
way_in s n = way_if (class_of (named s.cells n)) (way_among n (owners s))

-- what was found, if it was
abbrev pub text_if : Bool → List ℕ → Option (List ℕ)
text_if true text = Some text
text_if false text = None

-- ---- lines behind which it stands

-- where there is a text
abbrev pub path_text : NameLists → State → ℕ → Option (List ℕ)
path_text ns s n = cond (has_text ns) (option_map way_text (way_in s n)) None

abbrev pub path_at : NameLists → State → Option ℕ → Option (List ℕ)
path_at ns s None = None
path_at ns s (Some n) = path_text ns s n

-- with a space before it
abbrev pub path_behind : Option (List ℕ) → List ℕ
path_behind None = []
path_behind (Some path) = codes " " ++ path

-- an answer that tells a class, and the path behind it
pub record Placed : Type 0 where
  pub answer : Answer
  pub path : Option (List ℕ)

abbrev pub placed_line : NameLists → Placed → List ℕ
placed_line ns x = ended (head_by ns x.answer ++ path_behind x.path)

abbrev pub placed_by : NameLists → List Placed → List ℕ
placed_by ns xs = flat_map (placed_line ns) xs

-- of an answer, if there is one
abbrev pub placed : Option Answer → Option (List ℕ) → List Placed
placed None path = []
placed (Some answer) path = record { answer = answer; path = path } ∷ []

-- a line of its own, if there is a path
abbrev pub on_text : Option (List ℕ) → List ℕ
on_text None = []
on_text (Some path) = ended (codes "on" ++ path_behind (Some path))
