use Rattle.std.proofs.Common.{◌≡◌}
use Rattle.aom_machine.specs.Servers.{AreRead, loaded_first}
use Rattle.aom_machine.proofs.servers.load_message_words.Given as goal

abbrev pub invariant-loop-word : goal.invariant-loop-word
invariant-loop-word l = record { reported : l.frame ≡ loaded_first l.messages l.message l.word l.fn.frame; read : AreRead l.messages l.message l.word }
