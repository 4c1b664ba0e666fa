use Rattle.std.proofs.Common.{suc, rules, sym, ap, ◌∙◌, ◌+◌, ◌≡◌, ℕ, w32, FitsSigned, of_z, arith, subst}
use Rattle.std.proofs.lemmas.Int.{to_z-of_z}
use Rattle.aom_image.specs.Views.{instr_at}
use Rattle.aom_image.specs.declared.method.Gives.{Gives}
use Rattle.aom_semantics.specs.Calls.{called, result_register}
use Rattle.aom_frames.specs.Tasks.{method_here, place_here}
use Rattle.aom_machine_state.specs.declared.parts.Parts.{Parts}
use Rattle.aom_machine_state.specs.Places.{next, set_register}
use Rattle.aom_machine_state.specs.Room.{CalleeThere}
use Rattle.aom_machine_instructions.specs.Cleanup.{lost}
use Rattle.aom_machine_instructions.proofs.Resulting.{lost_goes_on}
use Rattle.aom_machine_instructions.proofs.leaving.receive_code.Goals as goal

pub returns : goal.returns
returns c =
    let p = c.args.linked.now in
    let m = c.args.parts.now in
    let i = instr_at p (method_here m.stack.tasks) (place_here m.stack.tasks) in
    let fits : FitsSigned w32 c.args.code = search rules in
    let one = c.fetch-instr.ensures in
    let to : c.result_of-to.result ≡ result_register i = c.result_of-to.ensures.value ∙ ap result_register (sym one) in
    let gives : c.called_gives-gives.result ≡ called p i = c.called_gives-gives.ensures ∙ ap (called p) (sym one) in
    let bits : c.cast_unsigned.result ≡ of_z w32 c.args.code = c.cast_unsigned.ensures ∙ ap (of_z w32) (to_z-of_z w32 c.args.code fits) in
    let made : Gives → ℕ → ℕ → ℕ → Parts = λ g x k n. next (set_register k n (lost g x m)) in
    let after : (result_register i + 1) ≡ suc (result_register i) = omega arith in
    rw (c.set_and_advance.ensures, c.lose_result.ensures)
    (ap (λ g. made g c.result_of-to.result (c.result_of-to.result + 1) c.cast_unsigned.result) gives
    ∙ ap (λ x. made (called p i) x (x + 1) c.cast_unsigned.result) to ∙ ap (λ k. made (called p i) (result_register i) k c.cast_unsigned.result) after
    ∙ ap (λ n. made (called p i) (result_register i) (suc (result_register i)) n) bits)

pub called_gives-gives-requires : goal.called_gives-gives-requires
called_gives-gives-requires c = subst (λ i. CalleeThere c.args.linked.now i) c.fetch-instr.ensures c.requires.calls

pub lose_result-requires-clause-runs : goal.lose_result-requires-clause-runs
lose_result-requires-clause-runs c = c.requires.runs

pub lose_result-requires-clause-within : goal.lose_result-requires-clause-within
lose_result-requires-clause-within c = c.result_of-to.ensures.in_range

pub set_and_advance-requires-clause-within : goal.set_and_advance-requires-clause-within
set_and_advance-requires-clause-within c =
    let to = c.result_of-to.ensures.value ∙ ap result_register (sym c.fetch-instr.ensures) in
    omega (arith, to, c.requires.coded)

pub set_and_advance-requires-clause-runs : goal.set_and_advance-requires-clause-runs
set_and_advance-requires-clause-runs c =
    let on = lost_goes_on c.called_gives-gives.result c.result_of-to.result c.args.parts.now (record { runs = c.requires.runs; within = c.requires.within }) in
    rw c.lose_result.ensures on.runs

pub set_and_advance-requires-clause-place : goal.set_and_advance-requires-clause-place
set_and_advance-requires-clause-place c =
    let on = lost_goes_on c.called_gives-gives.result c.result_of-to.result c.args.parts.now (record { runs = c.requires.runs; within = c.requires.within }) in
    rw c.lose_result.ensures on.within
