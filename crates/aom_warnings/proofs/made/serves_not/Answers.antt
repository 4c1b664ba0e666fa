-- All classes were looked at.
use Rattle.std.proofs.Common.{◌≡◌, ◌∙◌, List, ap, arith, length, refl}
use Rattle.aom_image.specs.declared.class.ClassDecl.{ClassDecl}
use Rattle.aom_warnings.proofs.Serving.{all_serve_not}
use Rattle.aom_warnings.proofs.made.serves_not.Goals as goal

pub returns : goal.returns
returns c =
    let count : c.len-number-end.result ≡ length c.args.image.now.classes = c.len-number-end.ensures ∙ ap (λ (xs : List ClassDecl). length xs) c.classes.ensures.value in
    let all = all_serve_not c.args.image.now c.args.class c.loop-number.number (omega (arith, count, c.loop-number-test.false)) c.loop-number.invariant in
    (λ _. all, λ _. refl)
