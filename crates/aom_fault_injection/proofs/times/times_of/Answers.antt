-- Each is one that a script may have.
use Rattle.std.proofs.Common.{◌≡◌, List, ℕ, arith, subst, sym}
use Rattle.std.proofs.lemmas.Grind.{common_steps}
use Rattle.aom_fault_injection.specs.Planned.{AreTimes, times_in}
use Rattle.aom_fault_injection.proofs.Marking.{times_are}
use Rattle.aom_fault_injection.proofs.times.times_of.Goals as goal

pub returns-clause-known : goal.returns-clause-known
returns-clause-known c =
    let same : c.loop-rest.times.items ≡ times_in c.args.transcript.now = grind (arith, common_steps) in
    subst (λ (ts : List ℕ). AreTimes ts) (sym same) (times_are c.args.transcript.now)
