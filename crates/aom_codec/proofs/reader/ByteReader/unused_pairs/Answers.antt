use Rattle.std.proofs.lemmas.Result.{err_from_is_err_and}
use Rattle.aom_codec.specs.Codec.{next_u16, unused}
use Rattle.aom_codec.specs.declared.fault.LoadFault.TheVariants.{NotZero}
use Rattle.aom_codec.proofs.Loops.{unused_on, unused_breaks}
use Rattle.aom_codec.proofs.reader.ByteReader.unused_pairs.Goals as goal

pub returns-in_err-expect_u16 : goal.returns-in_err-expect_u16
returns-in_err-expect_u16 c =
    let p = err_from_is_err_and c.from_residual.result c.from_residual.ensures.1 in
    rw (p.1, p.2) (unused_breaks next_u16 NotZero c.args.count c.loop.counter c.loop.self
    ((unused c.args.count next_u16 NotZero).read c.args.self.now) c.loop.invariant c.in_err-expect_u16.field-0.0 c.loop-test.true c.in_err-expect_u16.ensures)

pub loop-preserved : goal.loop-preserved
loop-preserved c = unused_on next_u16 NotZero c.args.count c.loop.counter c.loop.self _ c.loop.invariant _ _ c.loop-test.true c.in_ok-expect_u16.ensures
