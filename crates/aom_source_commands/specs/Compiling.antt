-- What has come of a source.
use Rattle.std.specs.Prelude.{All, List, ℕ, ◌≡◌, length, Ok}
use Rattle.aom_image.specs.Image.{Image}
use Rattle.aom_asm.specs.Denoted.{denoted}
use Rattle.aom_source.specs.Listing.{HasClassNames, HasMemberNames, HasMethodNames}
use Rattle.aom_source.specs.Map.{IsNamed, line_count}
use Rattle.aom_source.specs.declared.writing.Written.{Written}
use Rattle.aom_source_tokens.specs.Tokens.{tokens_of}
use Rattle.aom_source_tokens.specs.declared.tokens.Tokens.{Tokens}
use Rattle.aom_source_commands.specs.declared.compiling.Compiled.{Compiled}
use Rattle.aom_source_commands.specs.declared.compiling.Compiled.TheVariants.{Text, Refused}
use Rattle.aom_source_commands.specs.declared.compiling.Emit.{Emit}
use Rattle.aom_source_commands.specs.declared.compiling.Emit.TheVariants as emits
use Rattle.aom_source_commands.specs.Mapping.{map_text}
use Rattle.aom_source_commands.specs.Telling.{TellsPlace}

-- the text of what was written, or its map
abbrev pub IsOutputOf : Emit → Tokens → Written → List ℕ → Type 0
IsOutputOf emits.Text tokens written text = text ≡ written.text.items
IsOutputOf emits.Map tokens written text = text ≡ map_text tokens written.origins.items written.names.items

-- it is that of a text that denotes an image, each of whose lines has a token of the source; its names are those that the source declares: of registers where
-- they hold, of classes and methods in the lines that come of their declarations, of words and fields in the comments of classes
pub record IsOutput (emit : Emit) (source text : List ℕ) : Type 0 where
  pub tokens : Tokens
  pub of_source : tokens.bytes ≡ source
  pub read : tokens_of source ≡ Ok (tokens.tokens, tokens.end)
  pub written : Written
  pub image : Image
  pub denotes : denoted written.text.items ≡ Ok image
  pub lines : line_count written.text.items ≡ length written.origins.items
  pub names : All (IsNamed tokens written.origins.items) written.names.items
  pub classes : HasClassNames tokens written
  pub methods : HasMethodNames tokens written
  pub members : HasMemberNames tokens written
  pub is : IsOutputOf emit tokens written text

-- an image is denoted by a text that may be written of it
abbrev pub IsTranslated : (source : List ℕ) → Type 0
IsTranslated source = (text : List ℕ) × IsOutput emits.Text source text

-- what was asked for; what is told of the source begins with a place of it
abbrev pub IsCompiled : Emit → (name source : List ℕ) → Compiled → Type 0
IsCompiled emit name source (Text t) = IsOutput emit source t.items
IsCompiled emit name source (Refused t) = TellsPlace name source t.items
