-- Each read so far gave some bytes, and what they say is done.
use Rattle.std.proofs.Common.{◌≡◌, false, length}
use Rattle.aom_natives.specs.Slots.{AllAgree}
use Rattle.aom_debug.specs.Runners.{IsReady}
use Rattle.aom_debug.proofs.Reading.{ReadInvariant}
use Rattle.aom_debug.proofs.session_loop.run_session.Given as goal

abbrev pub invariant-loop : goal.invariant-loop
invariant-loop g l = record {
  read_invariant : ReadInvariant l.fn.debugger l.debugger l.pending l.counter (g.R.Reader.given l.fn.reader) (g.R.Reader.given l.reader)
      (g.W.Sink.out l.fn.out) (g.W.Sink.out l.out);
  lives : g.R.Reader.failed l.reader ≡ g.R.Reader.failed l.fn.reader;
  long : length l.buffer ≡ 4096;
  well : l.debugger.has_failed ≡ false;
  ready : IsReady l.debugger.runner;
  agree : AllAgree (λ x. x.ids) (λ x. (goal.Native-dyn g (x.native.vtable, x.native.value)).owed x.native.value) l.debugger.runner.machine.natives.slots.items;
}
