-- A place is marked, or is past the last.
use Rattle.std.proofs.Common.{arith}
use Rattle.aom_verify.proofs.Working.{past_stale, put_stale}
use Rattle.aom_verify.proofs.stale.Stale.put.Goals as goal

pub returns-then-place-len : goal.returns-then-place-len
returns-then-place-len c = rw (← c.self.view_is) (put_stale _ _ (omega (arith, c.if-place-len.true, c.len.ensures, c.self.inside.places.ok)))

pub returns-else-place-len : goal.returns-else-place-len
returns-else-place-len c = rw (← c.self.view_is) (past_stale _ _ (omega (arith, c.if-place-len.false, c.len.ensures, c.self.inside.places.ok)))
