use Rattle.std.proofs.Common.{◌≡◌, ◌≤◌, ◌++◌, ◌+◌, ◌-◌, length, take, option_map, cond}
use Rattle.aom_transcript.proofs.sink.write_text.Given as goal

abbrev pub invariant-loop-at : goal.invariant-loop-at
invariant-loop-at g l = record {
  within : l.at ≤ length l.text;
  sent : g.W.Sink.out l.sink ≡ option_map (λ t. t ++ take l.at l.text) (g.W.Sink.out l.initial.sink);
}

abbrev pub decreases-loop-at : goal.decreases-loop-at
decreases-loop-at g l = (length l.text - l.at) + cond (g.W.Sink.failed l.sink) 0 1
