-- What the code takes an instruction to set going.
use Rattle.aom_static_bounds.specs.Charges.{Charge, No_charge, A_call, An_operation, A_destruction, A_cancel}
use Rattle.aom_budget.specs.declared.charges.Charge.{Charge as CodeCharge}
use Rattle.aom_budget.specs.declared.charges.Charge.TheVariants as charges

-- the charge that the code says
abbrev pub charge_said : CodeCharge → Charge
charge_said charges.Nothing = No_charge
charge_said (charges.Call m) = A_call m
charge_said (charges.Operation m) = An_operation m
charge_said (charges.Destruction r) = A_destruction r
charge_said charges.Cancel = A_cancel
