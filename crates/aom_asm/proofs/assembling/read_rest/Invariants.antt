use Rattle.std.proofs.Common.{◌≡◌, length}
use Rattle.aom_asm.specs.Denoted.{read_rest}
use Rattle.aom_asm.proofs.assembling.read_rest.Given as goal

abbrev pub invariant-loop-statement : goal.invariant-loop-statement
invariant-loop-statement l = read_rest l.fn.last l.fn.scope l.fn.program l.fn.text ≡ read_rest l.fn.last l.fn.scope l.program l.text

abbrev pub decreases-loop-statement : goal.decreases-loop-statement
decreases-loop-statement l = length l.text
