-- Each word says one ending more, or none.
use Rattle.std.proofs.Common.{◌∙◌, ap}
use Rattle.aom_fault_injection.specs.Expected.{expected_said}
use Rattle.aom_command_line.proofs.Reading.{one_more_ending}
use Rattle.aom_command_line.proofs.words.endings_of.Goals as goal

pub loop-word-preserved : goal.loop-word-preserved
loop-word-preserved c = one_more_ending c.args.words.now c.loop-word.word-index _ c.loop-word.expected.items
    c.push.new.self.items c.in-Some.ending c.loop-word-test.true c.loop-word.invariant (c.in-Some.ensures ∙ ap expected_said c.as_bytes.ensures.value)
    c.in_ok-push-in-Some.ensures.items
