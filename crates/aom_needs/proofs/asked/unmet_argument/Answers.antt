use Rattle.std.proofs.Common.{◌∙◌, ◌+◌, ◌≡◌, ℕ, [], ◌∷◌, ap, arith, sym}
use Rattle.std.specs.Prelude.{is_some}
use Rattle.aom_needs.specs.Asked.{argument_wanted, each_wanted}
use Rattle.aom_needs.specs.Wanted.{first_unmet}
use Rattle.aom_needs.specs.declared.wanted.Wanted.{Wanted}
use Rattle.aom_needs.proofs.First.{argument_met, argument_unmet, arguments_done}
use Rattle.aom_needs.proofs.asked.unmet_argument.Goals as goal

pub loop-index-init : goal.loop-index-init
loop-index-init c =
    let site = c.args.site.now in
    let none : c.number-first.result ≡ c.number-first.result + 0 = omega arith in
    ap (λ (k : ℕ). first_unmet site.image site.method site.shape (each_wanted c.args.arguments.now k)) none

pub returns-then-is_some : goal.returns-then-is_some
returns-then-is_some c =
    let site = c.args.site.now in
    let n = c.number-first.result in
    let x = c.index-arguments-index.result in
    let one = sym (c.first_unmet-unmet.ensures ∙ ap (λ (w : Wanted). first_unmet site.image site.method site.shape (w ∷ []))
    (c.argument_wanted-wanted.ensures ∙ ap (argument_wanted x) c.register_at.ensures)) in
    let some = ap is_some one ∙ sym c.is_some.ensures ∙ c.if-is_some.true in
    rw (← c.number-first.ensures.value) (sym (c.loop-index.invariant ∙ argument_unmet site.image site.method site.shape c.args.arguments.now n c.loop-index.index x
    c.loop-index-test.true c.index-arguments-index.is some ∙ one))

pub loop-index-preserved : goal.loop-index-preserved
loop-index-preserved c =
    let site = c.args.site.now in
    let n = c.number-first.result in
    let x = c.index-arguments-index.result in
    let one = sym (c.first_unmet-unmet.ensures ∙ ap (λ (w : Wanted). first_unmet site.image site.method site.shape (w ∷ []))
    (c.argument_wanted-wanted.ensures ∙ ap (argument_wanted x) c.register_at.ensures)) in
    let none = ap is_some one ∙ sym c.is_some.ensures ∙ c.if-is_some.false in
    c.loop-index.invariant ∙ argument_met site.image site.method site.shape c.args.arguments.now n c.loop-index.index x c.loop-index-test.true c.index-arguments-index.is none

pub returns : goal.returns
returns c =
    let site = c.args.site.now in
    rw (← c.number-first.ensures.value) (sym (c.loop-index.invariant
    ∙ arguments_done site.image site.method site.shape c.args.arguments.now c.loop-index.index (c.number-first.result + c.loop-index.index) c.loop-index-test.false))
