-- New natives owe nothing.
use Rattle.aom.proofs.CommandsLemmas.{owe_nothing}
use Rattle.aom.proofs.Purpose.run.Goals as goal

pub run-requires-clause-owed : goal.run-requires-clause-owed
run-requires-clause-owed g c = owe_nothing _ c.args.words.now.natives.items c.args.boxes.items c.requires.new

pub debug-requires : goal.debug-requires
debug-requires g c = record { owed = owe_nothing _ c.args.words.now.natives.items c.args.boxes.items c.requires.new }
