-- In a well-formed image a trap's code has a register.
use Rattle.std.proofs.Common.{◌≡◌, ℕ, Some, arith, length}
use Rattle.aom_image.specs.Image.{Image}
use Rattle.aom_image.specs.Views.{instr_at, method_at}
use Rattle.aom_image.specs.WellFormed.{MethodFits, WellFormed}
use Rattle.aom_instructions.specs.Fits.{InstrFits, limits}
use Rattle.aom_instructions.specs.Table.{action_of}
use Rattle.aom_instructions.specs.declared.instr.Instr.{Instr}
use Rattle.aom_instructions.specs.declared.limits.Limits.{Limits}
use Rattle.aom_needs.proofs.LinkConditionsLemmas.{all_there, of_method}
use Rattle.aom_typing_rules.specs.Calls.{HasCodeRegister}

code_register : (l : Limits) (i : Instr) → InstrFits l i → HasCodeRegister (action_of i)
code_register l x fits = grind arith

pub code_register_there : (p : Image) (m pc : ℕ) (i : Instr) → WellFormed p → instr_at p m pc ≡ Some i → HasCodeRegister (action_of i)
unfolding method_at
code_register_there p m pc i formed e =
    let w = of_method p m pc i e in
    let method = all_there (MethodFits p.header.version (length p.classes) (length p.methods)) p.methods m w.0 formed.methods.each w.1 in
    let l = limits p.header.version (length p.classes) (length p.methods) (length w.0.code) in
    code_register l i (all_there (InstrFits l) w.0.code pc i method.code w.2)
