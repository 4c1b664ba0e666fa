use Rattle.std.proofs.Common.{◌<◌, length, rules, arith}
use Rattle.aom_linker.proofs.Rows.{row_found}
use Rattle.aom_linker.proofs.role_table.RoleTable.role.Goals as goal

pub returns-in-Some : goal.returns-in-Some
returns-in-Some c = λ p table.
    let read = c.in-Some.ensures.lookup in
    let within : c.number.result < length c.deref.result.now = grind (arith, read.0) in
    row_found p c.args.self.now.rows.items c.deref.result.now c.args.class c.number.result c.number-in-Some.result c.args.role _ _ table
    (search rules) c.number.ensures.value within read.1 c.number-in-Some.ensures.value
