use Rattle.aom_machine.proofs.Killing.{DetachesBelow}
use Rattle.aom_machine.proofs.natives.fail_all_requests.Given as goal

abbrev pub invariant-loop-number : goal.invariant-loop-number
invariant-loop-number l = DetachesBelow l.linked l.native l.number l.fn.parts l.parts
