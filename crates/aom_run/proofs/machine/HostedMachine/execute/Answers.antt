use Rattle.std.proofs.Common.{arith, refl}
use Rattle.aom_transcript.specs.declared.event.Event.TheVariants.{Client}
use Rattle.aom_run.proofs.Serving.{observed_only, executed_none, executed_so}
use Rattle.aom_run.proofs.machine.HostedMachine.execute.Goals as goal

-- a number that is no client's changes nothing
pub returns-then-client-ge-CLIENTS-clause-delivered : goal.returns-then-client-ge-CLIENTS-clause-delivered
returns-then-client-ge-CLIENTS-clause-delivered g c =
    let e = c.observe_event.ensures in
    observed_only c.args.self.now c.observe_event.new.self e.image (Client c.args.client c.args.command) c.args.lines.now
    (executed_none c.args.self.now _ e.image c.args.client c.args.command c.if-client-ge-CLIENTS.true e.observed c.args.lines.now) e.rest e.back e.timers

-- a client does what it is told
pub returns-clause-delivered : goal.returns-clause-delivered
returns-clause-delivered g c =
    let e = c.execute.ensures in
    let few = c.if-client-ge-CLIENTS.false in
    record {
      image = e.image;
      natives = record { count = refl; at = λ k apart. refl };
      delivered = executed_so c.args.self.now c.execute.new.self e.image c.args.client c.args.command c.args.lines.now c.execute.new.lines (omega (arith, few)) e.executed;
      rest = e.rest;
      timers = e.timers;
      reported = e.reported;
      quiet = e.quiet;
      none_due = λ is. e.none_due;
    }
