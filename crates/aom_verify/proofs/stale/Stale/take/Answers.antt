-- The flag is read and then cleared.
use Rattle.std.proofs.Common.{arith}
use Rattle.aom_verify.proofs.Working.{flag_past, flag_read, taken_other}
use Rattle.aom_verify.proofs.stale.Stale.take.Goals as goal

pub returns-then-len-place-clause-was : goal.returns-then-len-place-clause-was
returns-then-len-place-clause-was c = rw (← c.self.view_is) (flag_past c.self.inside.places.items c.args.place (omega (arith, c.if-len-place.true, c.len.ensures, c.self.inside.places.ok)))

pub returns-clause-was : goal.returns-clause-was
returns-clause-was c =
    rw (← c.self.view_is) (flag_read c.self.inside.places.items c.args.place _ (omega (arith, c.if-len-place.false, c.len.ensures, c.self.inside.places.ok)) c.index-is_stale.ensures)

pub returns-clause-others : goal.returns-clause-others
returns-clause-others c = rw (← c.self.view_is) (taken_other _ _)
