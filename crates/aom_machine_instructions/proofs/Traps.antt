-- The method that sets a trap has a register for its code: the operands of an instruction are within their ranges.
use Rattle.std.proofs.lemmas.Bool.Decides.{nat_tests}
use Rattle.std.proofs.Common.{suc, ◌≡◌, ◌<◌, ℕ, length, List, ◌∷◌, Some, arith}
use Rattle.aom_machine_instructions.proofs.LinkConditionsLemmas.{all_there, of_method}
use Rattle.aom_image.specs.Image.{Image}
use Rattle.aom_image.specs.Views.{instr_at, method_at}
use Rattle.aom_instructions.specs.Fits.{InstrFits, limits}
use Rattle.aom_image.specs.WellFormed.{MethodFits, WellFormed}
use Rattle.aom_instructions.specs.declared.instr.Instr.{Instr}
use Rattle.aom_image.specs.declared.method.Method.{Method}
use Rattle.aom_semantics.specs.Calls.{result_register}
use Rattle.aom_semantics.specs.State.{Frame, Run, Task}
use Rattle.aom_safety.specs.Traps.{IsAtTrap}

instr_fits : (p : Image) → WellFormed p → (m place : ℕ) (i : Instr) →
    instr_at p m place ≡ Some i → (d : Method) × InstrFits (limits p.header.version (length p.classes) (length p.methods) (length d.code)) i
unfolding method_at
instr_fits p formed m place i e =
    let w = of_method p m place i e in
    let d = all_there (MethodFits p.header.version (length p.classes) (length p.methods)) p.methods m w.0 formed.methods.each w.1 in
    (w.0, all_there (InstrFits (limits p.header.version (length p.classes) (length p.methods) (length w.0.code))) w.0.code place i d.code w.2)

pub code_register : (p : Image) → WellFormed p → (fr : Frame) (ts : List Task) → IsAtTrap p (Run fr ∷ ts) →
    suc (result_register (instr_at p fr.method fr.place)) < 16
code_register p formed fr ts at = grind (arith, nat_tests, instr_fits p formed fr.method fr.place)
