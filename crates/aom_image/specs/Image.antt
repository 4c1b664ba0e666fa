-- An image as contracts see it.
use Rattle.std.specs.Prelude.{List}
use Rattle.aom_image.specs.declared.image.Header.{Header}
use Rattle.aom_image.specs.declared.class.ClassDecl.{ClassDecl}
use Rattle.aom_image.specs.declared.method.Method.{Method}

pub record Image : Type 0 where
  pub header : Header
  pub classes : List ClassDecl
  pub methods : List Method
