use Rattle.std.proofs.Common.{◌≡◌, ◌∙◌, ap, sym, Some, None, slice_get}
use Rattle.std.proofs.lemmas.Option.{slice_get-get_or, slice_get_past}
use Rattle.aom_source_syntax.specs.declared.symbol.Class.{Class}
use Rattle.aom_source_syntax.proofs.cursor.has.Goals as goal

pub returns-in-Some : goal.returns-in-Some
returns-in-Some c =
    let l = c.in-Some.ensures.lookup in
    let e : slice_get c.args.text.now c.args.at ≡ Some c.in-Some.found.now
    = slice_get-get_or c.args.text.now c.args.at c.args.class l.3.0 ∙ ap (λ (x : Class). Some x) (sym (l.3.1 c.args.class)) in
    (λ t. e ∙ ap (λ (x : Class). Some x) (c.is.ensures.0 t), λ found. c.is.ensures.1 (cc (e, found)))

pub returns-in-None : goal.returns-in-None
returns-in-None c =
    let l = c.in-None.ensures.lookup in
    let past : slice_get c.args.text.now c.args.at ≡ None = slice_get_past c.args.text.now c.args.at l.3 in
    (λ t. cc t, λ found. let differ : None ≡ Some c.args.class = sym past ∙ found in cc differ)
