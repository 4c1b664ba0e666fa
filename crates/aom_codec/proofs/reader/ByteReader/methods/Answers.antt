use Rattle.std.proofs.lemmas.Result.{err_from_is_err_and}
use Rattle.aom_codec.specs.Codec.{always, keep, read_many}
use Rattle.aom_codec.specs.Format.{method}
use Rattle.aom_codec.proofs.Loops.{begins, goes_on, breaks}
use Rattle.aom_codec.proofs.reader.ByteReader.methods.Goals as goal

pub loop-init : goal.loop-init
loop-init c = rw c.in_ok-methods.ensures.items (begins (always (method c.args.version c.args.classes c.args.count)) keep tt (c.args.count) c.args.self.now)

pub returns-in_err-method : goal.returns-in_err-method
returns-in_err-method c =
    let p = err_from_is_err_and c.from_residual-in_err-method.result c.from_residual-in_err-method.ensures.1 in
    rw (p.1, p.2) (λ ne. breaks (always (method c.args.version c.args.classes c.args.count)) keep tt c.loop.methods.items
    (c.args.count) c.loop.counter c.loop.self (read_many (always (method c.args.version c.args.classes c.args.count)) keep tt
    (c.args.count) c.args.self.now) c.loop.invariant c.in_err-method.field-0.0 c.loop-test.true (c.in_err-method.ensures ne))

pub loop-preserved : goal.loop-preserved
loop-preserved c = rw c.in_ok-push.ensures.items (goes_on (always (method c.args.version c.args.classes c.args.count)) keep tt c.loop.methods.items
    (c.args.count) c.loop.counter c.loop.self _ c.loop.invariant c.in_ok-method.method _ c.loop-test.true c.in_ok-method.ensures)
