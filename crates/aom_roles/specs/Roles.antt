-- The roles of methods.
use Rattle.std.specs.Prelude.{Bool, nat_eq, true, false, Option, Some}
use Rattle.aom_image.specs.declared.method.Role.{Role}
use Rattle.aom_image.specs.declared.method.Role.TheVariants.{Construct, Cancel, Service}
unfoldable pub use Rattle.aom_image.specs.Roles.{role_number}

-- whether two roles are one
abbrev pub same_role : Role → Role → Bool
same_role a b = nat_eq (role_number a) (role_number b)

abbrev pub is_construct : Option Role → Bool
is_construct (Some Construct) = true
is_construct _ = false

abbrev pub is_cancel : Option Role → Bool
is_cancel (Some Cancel) = true
is_cancel _ = false

abbrev pub is_service : Option Role → Bool
is_service (Some Service) = true
is_service _ = false
