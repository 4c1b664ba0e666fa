use Rattle.std.proofs.lemmas.Result.{err_from_is_err_and}
use Rattle.aom_codec.specs.Codec.{always, keep, read_many}
use Rattle.aom_codec.specs.Format.{thing}
use Rattle.aom_codec.proofs.Loops.{begins, goes_on, breaks}
use Rattle.aom_codec.proofs.reader.ByteReader.things.Goals as goal

pub loop-init : goal.loop-init
loop-init c = rw c.in_ok-things.ensures.items (begins (always (thing c.args.classes)) keep tt c.args.count c.args.self.now)

pub returns-in_err-thing : goal.returns-in_err-thing
returns-in_err-thing c =
    let p = err_from_is_err_and c.from_residual-in_err-thing.result c.from_residual-in_err-thing.ensures.1 in
    rw (p.1, p.2) (λ ne. breaks (always (thing c.args.classes)) keep tt c.loop.things.items c.args.count c.loop.counter c.loop.self (read_many
    (always (thing c.args.classes)) keep tt c.args.count c.args.self.now) c.loop.invariant c.in_err-thing.field-0.0 c.loop-test.true c.in_err-thing.ensures)

pub loop-preserved : goal.loop-preserved
loop-preserved c = rw c.in_ok-push.ensures.items (goes_on (always (thing c.args.classes))
    keep tt c.loop.things.items c.args.count c.loop.counter c.loop.self _ c.loop.invariant c.in_ok-thing.thing _ c.loop-test.true c.in_ok-thing.ensures)
