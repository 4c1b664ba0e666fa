-- Each class has its name and its number, in turn.
use Rattle.std.proofs.Common.{◌∙◌, arith, refl, ap}
use Rattle.aom_source_commands.specs.Scripts.{number_in}
use Rattle.aom_source_commands.proofs.Numbers.{numbers_none, one_name_more, one_number_more}
use Rattle.aom_source_commands.proofs.scripts.script_names.Goals as goal

pub loop-name-init : goal.loop-name-init
loop-name-init c = rw c.new-named.ensures.items (record { names = refl; numbers = numbers_none c.args.classes.now; count = c.new-named.ensures.len })

pub loop-name-preserved : goal.loop-name-preserved
loop-name-preserved c = record {
  names = one_name_more c.loop-name.named.items c.push.new.self.items _ c.loop-name.name-index c.args.names.now _ c.loop-name-test.true c.in_ok-push.ensures.items c.loop-name.invariant.names refl;
  numbers = one_number_more c.loop-name.named.items c.push.new.self.items _ c.loop-name.name-index c.args.classes.now c.in_ok-push.ensures.items c.loop-name.invariant.numbers
      (c.number_in-number.ensures ∙ ap (number_in c.args.classes.now) (omega (arith, c.len.ensures, c.loop-name.invariant.count)));
  count = omega (arith, c.in_ok-push.ensures.len, c.loop-name.invariant.count);
}
