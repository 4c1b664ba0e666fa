-- The roles of methods.
use Rattle.std.specs.Prelude.{ℕ}
use Rattle.aom_image.specs.declared.method.Role.{Role}
use Rattle.aom_image.specs.declared.method.Role.TheVariants.{Do, Main, Construct, Destruct, Run, Cancel, Error, Accept, Service, Undo}

-- the number of a role, from 0 to 9
unfoldable pub role_number : Role → ℕ
role_number = elim
    [ Do ↦ 0 | Main ↦ 1 | Construct ↦ 2 | Destruct ↦ 3 | Run ↦ 4 | Cancel ↦ 5 | Error ↦ 6 | Accept ↦ 7 | Service ↦ 8 | Undo ↦ 9 ]
