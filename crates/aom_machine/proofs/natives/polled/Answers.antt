use Rattle.std.proofs.Common.{rules, refl, FitsSigned}
use Rattle.std.specs.Int.{w32}
use Rattle.std.proofs.lemmas.Int.{to_z-of_z}
use Rattle.aom_machine.proofs.natives.polled.Goals as goal
use Rattle.aom_machine.proofs.natives.polled.Goals.{in-Some, in_default}

pub returns-clause-finishes : goal.returns-clause-finishes
returns-clause-finishes c = elim c.match-completion.branch [
  | in-Some w ↦
      let fits : FitsSigned w32 w.in-Some.code = search rules in
      rw (w.parts-is, w.in-Some.is) (rw (w.living-id.ensures.value, to_z-of_z w32 w.in-Some.code fits) at w.complete.ensures)
  | in_default w ↦ rw (w.parts-is, w.in_default.is) refl
]

-- the code is a word
pub returns-clause-word : goal.returns-clause-word
returns-clause-word c = elim c.match-completion.branch [
  | in-Some w ↦
      let fits : FitsSigned w32 w.in-Some.code = search rules in
      rw w.in-Some.is fits
  | in_default w ↦ rw w.in_default.is tt
]
