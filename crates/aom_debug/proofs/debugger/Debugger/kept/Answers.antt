-- A fault is kept.
use Rattle.std.proofs.Common.{refl}
use Rattle.aom_debug.proofs.Declining.{err_all, ok_all}
use Rattle.aom_debug.proofs.debugger.Debugger.kept.Goals as goal

pub returns-then-is_err-clause-err : goal.returns-then-is_err-clause-err
returns-then-is_err-clause-err g c = err_all c.args.reported _ (λ _. refl)

pub returns-else-is_err-clause-ok : goal.returns-else-is_err-clause-ok
returns-else-is_err-clause-ok g c = ok_all c.args.reported _ (λ _. refl)
