-- The methods are told of the image that the bytes spell, or the first fault of all and want of memory.
use Rattle.std.proofs.Common.{refl}
use Rattle.aom_diagnostic_commands.specs.EachMethod.MethodsToldSo.{each, wants_memory}
use Rattle.aom_diagnostic_commands.proofs.each_method.tell_methods.Goals as goal

pub returns-in-Ok : goal.returns-in-Ok
returns-in-Ok g c = each c.in-Ok.refusals.items (rw c.image.ensures at c.in-Ok.ensures) (rw c.deref.ensures.value at c.tell_each.ensures)

pub returns-in-Err : goal.returns-in-Err
returns-in-Err g c = wants_memory
    (record { before = g.E.Sink.out c.args.errors.now; now = g.E.Sink.out c.tell_refusal.new.errors; failed = g.E.Sink.failed c.tell_refusal.new.errors })
    refl c.tell_refusal.ensures c.report.ensures.1
