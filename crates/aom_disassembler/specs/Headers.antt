-- The statement that opens a listing.
use Rattle.std.specs.Prelude.{ℕ, List, [], ◌∷◌, ◌++◌, decimal}
use Rattle.aom_image.specs.declared.image.Header.{Header}
use Rattle.aom_instructions.specs.declared.version.Version.{Version}
use Rattle.aom_instructions.specs.declared.version.Version.TheVariants as versions
use Rattle.aom_syntax.specs.Keywords.{keyword_text}
use Rattle.aom_syntax.specs.declared.keyword.Keyword.TheVariants as k
use Rattle.aom_disassembler.specs.Operands.{class_after}

-- the version, where it is the second
abbrev pub version_words : Version → List (List ℕ)
version_words versions.One = []
version_words versions.Two = keyword_text k.Version ∷ decimal 2 ∷ []

-- the limits
abbrev pub limit_words : Header → List (List ℕ)
limit_words h = keyword_text k.Cells ∷ decimal h.cells ∷ keyword_text k.Messages ∷ decimal h.messages ∷ keyword_text k.Natives ∷ decimal h.natives ∷ []

abbrev pub header_words : Header → List (List ℕ)
header_words h = keyword_text k.Image ∷ (version_words h.version ++ (limit_words h ++ keyword_text k.Budget ∷ decimal h.budget ∷ class_after k.Root h.root))
