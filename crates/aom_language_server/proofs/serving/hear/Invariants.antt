-- The bytes so far are answered by frames.
use Rattle.aom_language_server.specs.Sessions.{WroteFrames}
use Rattle.aom_language_server.proofs.serving.hear.Given as goal

abbrev pub invariant-loop-byte : goal.invariant-loop-byte
invariant-loop-byte g l = record { sent : WroteFrames (g.W.Sink.out l.initial.out) (g.W.Sink.out l.out) }
