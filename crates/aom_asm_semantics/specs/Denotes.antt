-- What an assembly text denotes.
use Rattle.std.specs.Prelude.{ℕ, true, ◌≡◌, ◌≤◌, ◌+◌, ◌*◌, ◌^◌, List, map, length, count_by}
use Rattle.std.specs.List.{sum_by}
use Rattle.aom_text.specs.Text.{statements}
use Rattle.aom_image.specs.Image.{Image}
use Rattle.aom_image.specs.WellFormed.{is_server}
use Rattle.aom_instructions.specs.Versions.{family_bytes}
use Rattle.aom_asm_semantics.specs.Texts.{all_words}
use Rattle.aom_asm_semantics.specs.Source.{Source, source_statements, classes_of, methods_of}
use Rattle.aom_asm_semantics.specs.Meaning.{NameTables, DeclaredOnce, Pairwise, HeaderMeans, ClassMeans, MethodMeans}

-- what a program declares, in its order
abbrev pub names_of : Source → NameTables
names_of s = record { classes = map (λ t. t.name) (classes_of s.declarations); methods = map (λ t. t.heading.name) (methods_of s.declarations) }

-- the bytes of an image: of its header, of each class, and of each method with its instructions; what tells of families is in them
abbrev pub bytes_of : Image → ℕ
bytes_of i = 24 + (28 + family_bytes i.header.version) * length i.classes + sum_by (λ m. 24 + family_bytes i.header.version + 8 * length m.code) i.methods

-- a program is written in statements, and says what an image says: each class and each method at its place
pub record Denotes (text : List ℕ) (i : Image) : Type 0 where
  pub source : Source
  pub written : all_words (statements text) ≡ source_statements source
  pub short : length text ≤ 2 ^ 20
  pub class_names : DeclaredOnce (names_of source).classes
  pub method_names : DeclaredOnce (names_of source).methods
  pub header : HeaderMeans (names_of source) source.header i.header
  pub classes : Pairwise (ClassMeans (names_of source) i.header.version i.header.natives) (classes_of source.declarations) i.classes
  pub methods : Pairwise (MethodMeans (names_of source) i.header.version true i.classes) (methods_of source.declarations) i.methods
  pub few_classes : length i.classes ≤ 256
  pub few_servers : count_by is_server i.classes ≤ 8
  pub some_method : 1 ≤ length i.methods
  pub few_methods : length i.methods ≤ 1024
  pub small : bytes_of i ≤ 2 ^ 20
