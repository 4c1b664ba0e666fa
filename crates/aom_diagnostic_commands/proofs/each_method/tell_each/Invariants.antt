-- Those so far are told.
use Rattle.std.proofs.Common.{take}
use Rattle.aom_diagnostic_commands.specs.EachMethod.{EachTold, RefusalToldSo}
use Rattle.aom_diagnostic_commands.proofs.each_method.tell_each.Given as goal

abbrev pub invariant-loop-refusal : goal.invariant-loop-refusal
invariant-loop-refusal g l = EachTold (RefusalToldSo l.telling l.program.image l.program.text) (take l.refusal-index l.refusals)
    (record { before = g.E.Sink.out l.initial.errors; now = g.E.Sink.out l.errors; failed = g.E.Sink.failed l.errors })
