use Rattle.aom_machine.proofs.Forgotten.{ForgetsFirst}
use Rattle.aom_machine.proofs.clients.forget.Given as goal

abbrev pub invariant-loop-place : goal.invariant-loop-place
invariant-loop-place l = ForgetsFirst l.places l.place-index l.fn.messages l.messages
