-- The names in a text are those of the source of whose tokens its lines come.
use Rattle.std.specs.Prelude.{ℕ, ◌<◌, List, [], get_or, length}
use Rattle.aom_diagnostics.specs.Declarations.{class_names, method_names}
use Rattle.aom_diagnostics.specs.Lines.{class_lines, method_lines}
use Rattle.aom_source_tokens.specs.Tokens.{Source}
use Rattle.aom_source_listing.specs.Classes.{IsClassName}
use Rattle.aom_source_listing.specs.Labels.{IsLabel}
use Rattle.aom_source_listing.specs.Lines.{line_token, text_line}
use Rattle.aom_source_listing.specs.Members.{TellsMembers}

-- the token of which the line comes that declares the class of a number, or the method
abbrev pub class_token : (tokens text : List ℕ) → (number : ℕ) → ℕ
class_token tokens text number = line_token tokens (get_or (class_lines text) number 0)

abbrev pub method_token : (tokens text : List ℕ) → (number : ℕ) → ℕ
method_token tokens text number = line_token tokens (get_or (method_lines text) number 0)

-- each class has its name
pub record AreClassesNamed (s : Source) (tokens text : List ℕ) : Type 0 where
  pub each : (number : ℕ) → number < length (class_names text) → IsClassName s (class_token tokens text number) (get_or (class_names text) number [])

-- each method has its name
pub record AreMethodsNamed (s : Source) (tokens text : List ℕ) : Type 0 where
  pub each : (number : ℕ) → number < length (method_names text) → IsLabel s (method_token tokens text number) (get_or (method_names text) number [])

-- the line of each class tells its words and fields
pub record AreMembersNamed (s : Source) (tokens text : List ℕ) : Type 0 where
  pub each : (number : ℕ) → number < length (class_lines text)
      → TellsMembers s (class_token tokens text number) (text_line text (get_or (class_lines text) number 0))
