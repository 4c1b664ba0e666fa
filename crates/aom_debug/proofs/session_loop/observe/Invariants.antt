use Rattle.std.proofs.Common.{◌≡◌, false, take}
use Rattle.aom_natives.specs.Slots.{AllAgree}
use Rattle.aom_debug.specs.Runners.{IsReady}
use Rattle.aom_debug.specs.SessionLoop.{GoesOn}
use Rattle.aom_debug.proofs.session_loop.observe.Given as goal

abbrev pub invariant-loop-byte : goal.invariant-loop-byte
invariant-loop-byte g l = record {
  goes : GoesOn l.fn.debugger l.fn.pending (g.W.Sink.out l.fn.out) (take l.byte-index l.bytes) l.debugger l.pending (g.W.Sink.out l.out);
  well : l.debugger.has_failed ≡ false;
  ready : IsReady l.debugger.runner;
  agree : AllAgree (λ x. x.ids) (λ x. (goal.Native-dyn g (x.native.vtable, x.native.value)).owed x.native.value) l.debugger.runner.machine.natives.slots.items;
}
