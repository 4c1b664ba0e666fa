-- What stands for a thing stands for all that the thing stands for.
use Rattle.std.proofs.lemmas.Bool.Decides.{nat_tests}
use Rattle.std.proofs.Common.{◌≡◌, true, arith}
use Rattle.aom_image.specs.Image.{Image}
use Rattle.aom_image.specs.declared.method.Thing.{Thing}
use Rattle.aom_roles.specs.Things.{is_subtype}
use Rattle.aom_roles.proofs.Descending.{itself, through}

pub stands_itself : (p : Image) (x : Thing) → is_subtype p x x ≡ true
stands_itself p x = grind (arith, nat_tests, itself p)

pub stands_along : (p : Image) (x y z : Thing) → is_subtype p x y ≡ true → is_subtype p y z ≡ true → is_subtype p x z ≡ true
stands_along p x y z a b = grind (arith, nat_tests, through p)
