-- A method of the shape that its role asks says that it is quiet, where its role is.
use Rattle.std.proofs.Common.{◌≡◌, true, Option, arith}
use Rattle.aom_image.specs.Image.{Image}
use Rattle.aom_image.specs.Views.{has}
use Rattle.aom_image.specs.declared.class.ClassKind.{ClassKind}
use Rattle.aom_image.specs.declared.method.Method.{Method}
use Rattle.aom_image.specs.declared.method.Role.{Role}
use Rattle.aom_syntax.specs.Methods.{is_quiet_role}
use Rattle.aom_roles.specs.Shapes.{AllShaped, HasShape}
use Rattle.aom_asm_semantics.specs.Texts.{AllSayQuiet}

quiet_by_shape : (role : Role) (kind : Option ClassKind) (m : Method) → HasShape role kind m → is_quiet_role role ≡ true → has m.flags.0 2 ≡ true
quiet_by_shape role kind m shape quiet = grind arith

pub shaped_say_quiet : (i : Image) → AllShaped i → AllSayQuiet i
shaped_say_quiet i shaped k d within = quiet_by_shape _ _ _ (shaped k d within).role
