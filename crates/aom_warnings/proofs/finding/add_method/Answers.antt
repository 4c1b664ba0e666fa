-- A method is told, its places, and its registers.
use Rattle.std.proofs.Common.{◌≡◌, length}
use Rattle.aom_warnings.specs.Warnings.{OfFirst, OfMethod, OfReach, OfWriting}
use Rattle.aom_warnings.specs.declared.warning.Warning.TheVariants.{NeverCalled}
use Rattle.aom_warnings.proofs.Adding.{adds_both, adds_there}
use Rattle.aom_warnings.proofs.Places.{OfCode, of_method}
use Rattle.aom_warnings.proofs.finding.add_method.Goals as goal

pub returns : goal.returns
returns c =
    let p = c.args.image.now in
    let m = c.args.number in
    let d = c.args.method.now in
    let code = adds_both p (λ w. w ≡ NeverCalled m) (OfFirst (OfReach m) (length d.code)) (OfCode m d) _ _ _
    (adds_there p (λ w. w ≡ NeverCalled m) _ _ _ c.called.ensures c.in_ok-add.ensures) c.in_ok-add_reach.ensures (λ w of so. of) in
    adds_both p (OfCode m d) (OfFirst (OfWriting m) (length d.code)) (OfMethod m) _ _ _ code c.in_ok-add_writing.ensures (of_method p m d c.requires.method)
