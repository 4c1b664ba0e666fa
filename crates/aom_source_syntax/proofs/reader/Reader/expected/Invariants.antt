use Rattle.aom_source_syntax.specs.Reading.{Stands}
use Rattle.aom_source_syntax.proofs.Weights.{lead_of}
use Rattle.aom_source_syntax.proofs.reader.Reader.expected.Given as goal

abbrev pub invariant-loop-waiting : goal.invariant-loop-waiting
invariant-loop-waiting l = Stands l.text l.self.items.items l.self.stack l.fn.at

abbrev pub decreases-loop-waiting : goal.decreases-loop-waiting
decreases-loop-waiting l = lead_of l.self.stack
