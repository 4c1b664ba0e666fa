-- A text while it is read, as contracts see it.
use Rattle.std.specs.Prelude.{ℕ, List, Option}
use Rattle.aom_image.specs.declared.image.Header.{Header}
use Rattle.aom_image.specs.declared.class.ClassDecl.{ClassDecl}
use Rattle.aom_image.specs.declared.method.Method.{Method}
use Rattle.aom_instructions.specs.declared.instr.Instr.{Instr}
use Rattle.aom_syntax.specs.declared.method.Heading.{Heading}

-- a method whose code is being read
pub record Body : Type 0 where
  pub heading : Heading
  pub labels : List (List ℕ)
  pub code : List Instr

-- what was read, and how many bytes will spell it
pub record Program : Type 0 where
  pub header : Header
  pub classes : List ClassDecl
  pub methods : List Method
  pub body : Option Body
  pub size : ℕ
