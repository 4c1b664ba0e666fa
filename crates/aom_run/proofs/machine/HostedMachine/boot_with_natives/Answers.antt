-- The natives stand beside the core, each with its box, and owe nothing.
use Rattle.std.proofs.Common.{rules, ◌<◌, length, arith}
use Rattle.aom_run.proofs.Booted.{count, serves_at_boot}
use Rattle.aom_run.proofs.machine.HostedMachine.boot_with_natives.Goals as goal

pub returns-in-Ok-clause-stands : goal.returns-in-Ok-clause-stands
returns-in-Ok-clause-stands g c =
    let p = c.args.core.image in
    let slots = c.in-Ok.natives.slots.items in
    let same = c.in-Ok.ensures.boxes in
    let few : length c.args.boxes.items < 18446744073709551616 = search rules in
    let many = count (λ l. l.ids) (λ l. l.native) p slots c.args.boxes.items same in
    record {
      stands = c.requires.stands;
      serves = serves_at_boot (λ l. l.ids) (λ l. l.native) p slots c.args.boxes.items same c.requires.enough c.in-Ok.ensures.nothing;
      countable = omega (arith, few, many);
    }
