use Rattle.std.proofs.Common.{arith, refl, subst, sym}
use Rattle.aom_semantics.specs.World.{delivers}
use Rattle.aom_run.specs.Beside.{KeepsUnreported}
use Rattle.aom_run.specs.Calls.{EventInRange, IsDelivered, Takes}
use Rattle.aom_run.proofs.Serving.{unreported_but, with_any_name}
use Rattle.aom_run.proofs.machine.HostedMachine.deliver.Goals as goal

-- a word for a native changes nothing here, and its end is told
pub returns-in-Report-clause-delivered : goal.returns-in-Report-clause-delivered
returns-in-Report-clause-delivered g c =
    let e = c.report.ensures in
    record {
      image = e.image;
      natives = subst (λ x. KeepsUnreported x c.args.self.now.natives.slots.items c.report.new.self.natives.slots.items)
          (sym c.in-Report.is) (record { count = e.natives.count; at = unreported_but _ _ c.in-Report.native e.natives });
      delivered = λ outside same s st. with_any_name s (λ name. Takes c.args.self.now s (delivers outside name s c.args.event) c.args.lines.now c.args.lines.now
          c.report.new.self) (λ name. subst (λ x. Takes c.args.self.now s (delivers outside name s x) c.args.lines.now c.args.lines.now c.report.new.self)
          (sym c.in-Report.is) (e.observed c.args.lines.now s st));
      rest = e.rest;
      timers = e.timers;
      reported = omega arith;
      quiet = λ is. refl;
      none_due = λ is. e.none_due;
    }

pub returns-in-Kill-clause-delivered : goal.returns-in-Kill-clause-delivered
returns-in-Kill-clause-delivered g c =
    subst (λ e. IsDelivered c.args.self.now e c.kill.result c.args.lines.now c.kill.new.lines c.kill.new.self) (sym c.in-Kill.is) c.kill.ensures.delivered

-- a client does what it is told
pub returns-in-Client-clause-delivered : goal.returns-in-Client-clause-delivered
returns-in-Client-clause-delivered g c =
    subst (λ e. IsDelivered c.args.self.now e c.execute.result c.args.lines.now c.execute.new.lines c.execute.new.self) (sym c.in-Client.is) c.execute.ensures.delivered

pub execute-requires-clause-ranged : goal.execute-requires-clause-ranged
execute-requires-clause-ranged g c = subst EventInRange c.in-Client.is c.requires.ranged
