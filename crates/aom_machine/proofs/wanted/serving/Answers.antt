use Rattle.std.proofs.Common.{ap, arith, length, sym, ◌∙◌, ◌<◌, ◌≤◌, Some}
use Rattle.std.proofs.lemmas.Option.{slice_get-get_or, slice_get_past}
use Rattle.aom_semantics.specs.Natives.{native_of}
use Rattle.aom_machine.proofs.Wanting.{kind_in_image, native_declared, native_missing}
use Rattle.aom_machine.proofs.wanted.serving.Goals as goal

pub returns-in-Some : goal.returns-in-Some
returns-in-Some c =
    let found = rw (c.as_slice-classes.ensures, c.classes.ensures.value, c.image.ensures, c.number.ensures.value) at c.in-Some.ensures.lookup in
    let within : c.class-class.result < length c.args.linked.now.classes = grind (arith, found.0) in
    let there = slice_get-get_or c.args.linked.now.classes c.class-class.result c.in-Some.declared.now within ∙ ap (λ d. Some d) (sym found.1) in
    ap native_of (kind_in_image c.args.linked.now _ c.class-class.result _ c.class-class.ensures there)
    ∙ native_declared c.in-Some.declared.now ∙ c.native_of.ensures

pub returns-in-None : goal.returns-in-None
returns-in-None c =
    let found = rw (c.as_slice-classes.ensures, c.classes.ensures.value, c.image.ensures, c.number.ensures.value) at c.in-None.ensures.lookup in
    let past : length c.args.linked.now.classes ≤ c.class-class.result = omega (arith, found) in
    ap native_of (kind_in_image c.args.linked.now _ c.class-class.result _ c.class-class.ensures
    (slice_get_past c.args.linked.now.classes c.class-class.result past)) ∙ native_missing
