-- All was written where the sink has not failed, and a part of it where it has.
use Rattle.std.proofs.Common.{refl, sym}
use Rattle.aom_debug_views.proofs.sending.send.Goals as goal

pub returns-clause-ok : goal.returns-clause-ok
returns-clause-ok g c = c.write_text.ensures.whole (sym c.if-has_failed.ensures)

pub returns-then-has_failed-clause-ok : goal.returns-then-has_failed-clause-ok
returns-then-has_failed-clause-ok g c = tt

pub returns-then-has_failed-clause-err : goal.returns-then-has_failed-clause-err
returns-then-has_failed-clause-err g c =
    let part = c.write_text.ensures.prefix in
    record { reported = refl; fails = sym c.if-has_failed.ensures; sent = part.0; out = part.2 }
