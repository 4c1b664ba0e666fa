use Rattle.std.proofs.lemmas.Result.{err_from_is_err_and}
use Rattle.aom_codec.specs.Codec.{always, keep, read_many}
use Rattle.aom_codec.specs.Instructions.{instruction}
use Rattle.aom_codec.proofs.Loops.{begins, goes_on, breaks}
use Rattle.aom_codec.proofs.reader.ByteReader.code.Goals as goal

pub loop-init : goal.loop-init
loop-init c = rw c.in_ok-code.ensures.items (begins (always (instruction c.args.limits)) keep tt (c.args.limits.places) c.args.self.now)

pub returns-in_err-instr : goal.returns-in_err-instr
returns-in_err-instr c =
    let p = err_from_is_err_and c.from_residual-in_err-instr.result c.from_residual-in_err-instr.ensures.1 in
    rw (p.1, p.2) (λ ne. breaks (always (instruction c.args.limits)) keep tt c.loop.code.items
    (c.args.limits.places) c.loop.counter c.loop.self (read_many (always (instruction c.args.limits)) keep tt
    (c.args.limits.places) c.args.self.now) c.loop.invariant c.in_err-instr.field-0.0 c.loop-test.true c.in_err-instr.ensures)

pub loop-preserved : goal.loop-preserved
loop-preserved c = rw c.in_ok-push.ensures.items (goes_on (always (instruction c.args.limits)) keep tt c.loop.code.items
    (c.args.limits.places) c.loop.counter c.loop.self _ c.loop.invariant c.in_ok-instr.instr _ c.loop-test.true c.in_ok-instr.ensures)
