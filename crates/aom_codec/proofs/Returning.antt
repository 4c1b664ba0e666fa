-- What a number stands for is spelled as that number.
use Rattle.std.proofs.Common.{◌≡◌, ℕ, ◌<◌, ◌≤◌, Bool, true, false, cond, ltb, Option, Result, Ok, sym, ap, arith, ◌⊎◌}
use Rattle.std.proofs.lemmas.Bool.{ltb-true}
use Rattle.std.proofs.lemmas.Bool.Decides.{nat_tests}
use Rattle.aom_codec.specs.declared.fault.LoadFault.{LoadFault}
use Rattle.aom_codec.specs.declared.fault.LoadFault.TheVariants.{BadIndex, BadOperand}
use Rattle.aom_image.specs.declared.class.ClassKind.{ClassKind}
use Rattle.aom_instructions.specs.declared.version.Version.{Version}
use Rattle.aom_image.specs.declared.method.Thing.{Thing}
use Rattle.aom_image.specs.declared.method.Argument.{Argument}
use Rattle.aom_image.specs.declared.method.Gives.{Gives}
use Rattle.aom_image.specs.declared.method.Role.{Role}
use Rattle.aom_image.specs.declared.method.MethodFlags.{MethodFlags}
use Rattle.aom_image.specs.declared.method.States.{States}
use Rattle.aom_codec.specs.Serialization.{version_number, class_number, thing_number, argument_number, role_number, gives_byte, result_number}
use Rattle.aom_codec.specs.Format.{version_from, parent_from, index_from, class_from, thing_from, argument_from, role_from, flags_from, states_from, gives_from}
use Rattle.aom_codec.proofs.Laws.{guard_ok, marked_or}

-- a test that answers one of two things
pub took : {A : Type 0} (b : Bool) (x y : Result A LoadFault) (z : A) → cond b x y ≡ Ok z → ((b ≡ true) × (x ≡ Ok z)) ⊎ ((b ≡ false) × (y ≡ Ok z))
took x y z w e = grind arith

pub index_returns : (classes n y : ℕ) → index_from classes n ≡ Ok y → (y ≡ n) × (n < classes)
index_returns classes n y e = let g = guard_ok (ltb n classes) BadIndex n y e in (sym g.1, ltb-true _ _ g.0)

pub class_returns : (classes n : ℕ) (y : Option ℕ) → class_from classes n ≡ Ok y → class_number y ≡ n
class_returns classes n y e = grind (arith, nat_tests, marked_or, index_returns classes n)

pub version_returns : (n : ℕ) (y : Version) → version_from n ≡ Ok y → version_number y ≡ n
version_returns n y e = grind (arith, nat_tests, e)

pub parent_returns : (k : ClassKind) (classes n : ℕ) (y : Option ℕ) → parent_from k classes n ≡ Ok y → class_number y ≡ n
parent_returns k classes n y e = grind arith

pub thing_returns : (classes n : ℕ) (y : Thing) → thing_from classes n ≡ Ok y → thing_number y ≡ n
thing_returns classes n y e = grind (arith, nat_tests, marked_or, index_returns classes n)

pub argument_returns : (classes n : ℕ) (y : Argument) → argument_from classes n ≡ Ok y → argument_number y ≡ n
argument_returns classes n y e = grind (arith, nat_tests, marked_or, thing_returns classes n)

pub role_returns : (n : ℕ) (y : Role) → role_from n ≡ Ok y → role_number y ≡ n
unfolding role_number
role_returns n y e = grind (arith, nat_tests, e)

pub flags_returns : (n : ℕ) (y : MethodFlags) → flags_from n ≡ Ok y → y.0 ≡ n
flags_returns n y e = let g = guard_ok (ltb n 4) BadOperand (record { 0 = n }) y e in ap (λ (f : MethodFlags). f.0) (sym g.1)

pub states_returns : (n : ℕ) (y : States) → states_from n ≡ Ok y → y.0 ≡ n
states_returns n y e = let g = guard_ok (ltb n 64) BadOperand (record { 0 = n }) y e in ap (λ (f : States). f.0) (sym g.1)

pub gives_returns : (classes sort n : ℕ) (y : Gives) → sort ≤ 4 → gives_from classes sort n ≡ Ok y → (result_number y ≡ n) × (gives_byte y ≡ sort)
gives_returns classes sort n y small e = grind (arith, nat_tests, e)

pub result_number_returns : (classes sort n : ℕ) (y : Gives) → gives_from classes sort n ≡ Ok y → result_number y ≡ n
result_number_returns classes sort n y e = grind (arith, nat_tests, e)
