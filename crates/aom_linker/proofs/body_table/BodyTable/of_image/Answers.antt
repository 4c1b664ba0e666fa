-- One row after the other.
use Rattle.std.proofs.Common.{List, ap, arith, length, ◌∙◌}
use Rattle.aom_linker.proofs.Past.{runs_named}
use Rattle.aom_linker.proofs.body_table.BodyTable.of_image.Goals as goal

pub returns : goal.returns
returns c =
    let count = c.len-count.ensures ∙ ap (λ (l : List _). length l) c.classes.ensures.value in
    record {
      size = c.loop-class.invariant.size ∙ (let least = c.loop-class-test.false in let most = c.loop-class.auto.class-end in omega (arith, least, most, count));
      each = c.loop-class.invariant.each;
      others = λ m k past. runs_named c.args.image.now _ c.methods-methods.ensures.well_formed.methods.each k past m;
    }
