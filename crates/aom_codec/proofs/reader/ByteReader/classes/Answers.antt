use Rattle.std.proofs.Common.{arith}
use Rattle.std.proofs.lemmas.Result.{err_from_is_err_and}
use Rattle.aom_codec.specs.Codec.{read_many}
use Rattle.aom_codec.specs.Format.{class, count_server}
use Rattle.aom_codec.proofs.Loops.{goes_on, breaks}
use Rattle.aom_codec.proofs.reader.ByteReader.classes.Goals as goal

pub returns-in_err-class : goal.returns-in_err-class
returns-in_err-class c =
    let p = err_from_is_err_and c.from_residual-in_err-class.result c.from_residual-in_err-class.ensures.1 in
    rw (p.1, p.2) (λ ne. breaks (class c.args.version c.args.count c.args.natives) count_server c.loop.servers c.loop.classes.items c.args.count
    c.loop.counter c.loop.self (read_many (class c.args.version c.args.count c.args.natives) count_server 0 c.args.count c.args.self.now)
    c.loop.invariant.reads c.in_err-class.field-0.0 c.loop-test.true (c.in_err-class.ensures ne))

pub loop-preserved : goal.loop-preserved
loop-preserved c = record {
  reads = rw (c.in_ok-push.ensures.items, c.count_server-servers.ensures.count)
      (goes_on (class c.args.version c.args.count c.args.natives) count_server c.loop.servers
      c.loop.classes.items c.args.count c.loop.counter c.loop.self _ c.loop.invariant.reads c.in_ok-class.class _ c.loop-test.true c.in_ok-class.ensures);
  few = omega (arith, c.count_server-servers.ensures.one_more, c.loop.invariant.few);
}
