-- An operand of the kind that is asked fits where it is in its range.
use Rattle.std.proofs.Common.{refl}
use Rattle.std.proofs.lemmas.Bool.{ltb-true, lt-ltb}
use Rattle.aom_instructions.proofs.limits.small_fits.Goals as goal

pub returns-in-Unused-Unused : goal.returns-in-Unused-Unused
returns-in-Unused-Unused c = rw (c.in-Unused-Unused.is-0, c.in-Unused-Unused.is-1) (λ _. tt, λ _. refl)

pub returns-in-Register-Register : goal.returns-in-Register-Register
returns-in-Register-Register c = rw (c.in-Register-Register.is-0, c.in-Register-Register.is-1, ← c.number.ensures.value) (ltb-true _ _, lt-ltb _ _)

pub returns-in-Word-Word : goal.returns-in-Word-Word
returns-in-Word-Word c = rw (c.in-Word-Word.is-0, c.in-Word-Word.is-1, ← c.number-in-Word-Word.ensures.value) (ltb-true _ _, lt-ltb _ _)

pub returns-in-Field-Field : goal.returns-in-Field-Field
returns-in-Field-Field c = rw (c.in-Field-Field.is-0, c.in-Field-Field.is-1, ← c.number-in-Field-Field.ensures.value) (ltb-true _ _, lt-ltb _ _)

pub returns-in-Depth-Depth : goal.returns-in-Depth-Depth
returns-in-Depth-Depth c = rw (c.in-Depth-Depth.is-0, c.in-Depth-Depth.is-1, ← c.number-in-Depth-Depth.ensures.value) (ltb-true _ _, lt-ltb _ _)

pub returns-in-CallTarget-CallTarget : goal.returns-in-CallTarget-CallTarget
returns-in-CallTarget-CallTarget c = rw (c.in-CallTarget-CallTarget.is-0, c.in-CallTarget-CallTarget.is-1) c.target_fits.ensures
