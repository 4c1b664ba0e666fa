-- The class at hand is the one that has that number.
use Rattle.std.proofs.Common.{◌≡◌, ◌∙◌, ◌++◌, Some, ap, slice_get, sym}
use Rattle.std.proofs.lemmas.Option.{slice_get-get_or}
use Rattle.std.proofs.lemmas.Result.{IfOk-weaker}
use Rattle.aom_diagnostics.specs.Linking.{declared_class}
use Rattle.aom_diagnostics.proofs.linking.write_class.Goals as goal

pub returns-in-Some : goal.returns-in-Some
returns-in-Some c =
    let found = rw (c.as_slice.ensures, c.classes.ensures.value, c.number.ensures.value) at c.in-Some.ensures.lookup in
    let class = c.in-Some.class.now in
    let there : slice_get c.args.image.now.classes c.args.number ≡ Some class = slice_get-get_or c.args.image.now.classes c.args.number class found.3.0
    ∙ ap (λ m. Some m) (sym found.1) in
    IfOk-weaker c.write_class_line.result _ _ (λ r written. written ∙ ap (λ o. c.args.out.now ++ declared_class c.args.number o) (sym there)) c.write_class_line.ensures
