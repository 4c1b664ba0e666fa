-- Instructions that were added, and names of registers.
use Rattle.std.specs.Prelude.{List, [], ◌∷◌, ◌++◌, ℕ, ◌≡◌, max}
use Rattle.aom_source_code.specs.declared.code.NamedRegister.{NamedRegister}
use Rattle.aom_source_code.specs.declared.line.Line.{Line}
use Rattle.aom_source_code.specs.declared.operation.Operation.{Operation}
use Rattle.aom_source_methods.specs.declared.generator.Bound.{Bound}
use Rattle.aom_source_methods.specs.declared.generator.Bound.TheVariants as bounds
use Rattle.aom_source_methods.specs.declared.generator.Local.{Local}

-- the last of the instructions is that operation, which comes of that token
pub record EndsWith (lines : List Line) (operation : Operation) (token : ℕ) : Type 0 where
  pub front : List Line
  pub last : Line
  pub ends : lines ≡ front ++ last ∷ []
  pub is_operation : last.operation ≡ operation
  pub is_of_token : last.token ≡ token

-- a local is the name of its register
abbrev pub name_of : (from to : ℕ) → Local → NamedRegister
name_of from to local = record { name = local.name; token = local.token; register = local.register; from = from; to = to }

-- the names that a block's locals give to their registers: from where they are declared, or later
abbrev pub names_of : (from to : ℕ) → List Bound → List NamedRegister
names_of from to [] = []
names_of from to (bounds.Local local declared ∷ rest) = name_of (max from declared) to local ∷ names_of from to rest
names_of from to (bounds.Deferred item ∷ rest) = names_of from to rest
