-- What was read so far is answered by frames.
use Rattle.std.proofs.Common.{◌≡◌, length}
use Rattle.aom_language_server.specs.Sessions.{WroteFrames}
use Rattle.aom_language_server.proofs.serving.serve.Given as goal

abbrev pub invariant-loop : goal.invariant-loop
invariant-loop g l = record { sent : WroteFrames (g.W.Sink.out l.initial.out) (g.W.Sink.out l.out); long : length l.buffer ≡ 4096 }
