-- The script beside a source, by the names of its classes.
use Rattle.std.specs.Prelude.{List, [], ◌∷◌, ◌++◌, ℕ, zero, suc, ◌≡◌, Option, Some, None, Ok, length, map, slice_get}
use Rattle.aom_image.specs.Image.{Image}
use Rattle.aom_image.specs.declared.class.ClassDecl.{ClassDecl}
use Rattle.aom_image.specs.declared.class.ClassKind.{ClassKind}
use Rattle.aom_image.specs.declared.class.ClassKind.TheVariants.{Active}
use Rattle.aom_image.specs.declared.class.Provider.TheVariants.{Native}
use Rattle.aom_asm.specs.Denoted.{denoted}
use Rattle.aom_diagnostics.specs.Declarations.{class_names}
use Rattle.aom_source_scripts.specs.Scripts.{plain_script}
use Rattle.aom_source_scripts.specs.declared.naming.ScriptName.{ScriptName}

-- the number of a class of that kind, or that of the native that completes the requests of its objects
abbrev pub number_by : ClassKind → ℕ → ℕ
number_by (Active (Native native)) class = native
number_by kind class = class

abbrev pub number_of_one : Option ClassDecl → ℕ → ℕ
number_of_one None class = class
number_of_one (Some declared) class = number_by declared.kind class

abbrev pub number_in : List ClassDecl → ℕ → ℕ
number_in classes class = number_of_one (slice_get classes class) class

-- the numbers of so many classes
unfoldable pub numbers_of : ℕ → List ClassDecl → List ℕ
numbers_of zero classes = []
numbers_of (suc count) classes = numbers_of count classes ++ number_in classes count ∷ []

-- each class has its name, and its number or its native's
pub record HasScriptNames (named : List ScriptName) (texts : List (List ℕ)) (classes : List ClassDecl) : Type 0 where
  pub names : map (λ n. n.name.now) named ≡ texts
  pub numbers : map (λ n. n.number) named ≡ numbers_of (length texts) classes

-- the script that a script beside that text of a source stands for
pub record StandsForScript (text script plain : List ℕ) : Type 0 where
  pub image : Image
  pub denotes : denoted text ≡ Ok image
  pub named : List ScriptName
  pub names : HasScriptNames named (class_names text) image.classes
  pub stands : plain ≡ plain_script named script
