use Rattle.std.proofs.Common.{◌∙◌, ◌≡◌, [], ◌∷◌, ap, sym}
use Rattle.std.specs.Prelude.{is_some}
use Rattle.aom_image.specs.Views.{arguments_of, method_class}
use Rattle.aom_image.specs.declared.method.Argument.{Argument}
use Rattle.std.specs.Prelude.{List}
use Rattle.aom_needs.specs.Asked.{each_wanted, target_wanted}
use Rattle.aom_needs.specs.Wanted.{first_unmet}
use Rattle.aom_needs.specs.declared.wanted.Wanted.TheVariants as want
use Rattle.aom_needs.proofs.First.{absent, found, within}
use Rattle.aom_needs.proofs.asked.unmet_given.Goals as goal

pub returns-then-is_some : goal.returns-then-is_some
returns-then-is_some c =
    let site = c.args.site.now in
    let call = c.args.call.now in
    let on = target_wanted call.target (method_class site.image call.method) call.method call.first in
    let given = want.Arguments call.method call.first ∷ each_wanted (arguments_of site.image call.method) call.first in
    found site.image site.method site.shape on given c.unmet_target-target.result c.unmet_target-target.ensures (sym c.is_some.ensures ∙ c.if-is_some.true)

pub returns-then-is_some-2 : goal.returns-then-is_some-2
returns-then-is_some-2 c =
    let site = c.args.site.now in
    let call = c.args.call.now in
    let on = target_wanted call.target (method_class site.image call.method) call.method call.first in
    let each = each_wanted (arguments_of site.image call.method) call.first in
    let one = want.Arguments call.method call.first ∷ [] in
    found site.image site.method site.shape one each c.first_unmet-within.result c.first_unmet-within.ensures (sym c.is_some-2.ensures ∙ c.if-is_some-2.true)
    ∙ sym (absent site.image site.method site.shape on (want.Arguments call.method call.first ∷ each) c.unmet_target-target.result
    c.unmet_target-target.ensures (sym c.is_some.ensures ∙ c.if-is_some.false))

pub unmet_argument-requires : goal.unmet_argument-requires
unmet_argument-requires c =
    let site = c.args.site.now in
    let call = c.args.call.now in
    let same : c.arguments_of.result.now ≡ arguments_of site.image call.method = rw (← c.site.view_is) c.arguments_of.ensures in
    rw same (within site.image site.method site.shape call.method call.first
    (ap is_some (sym c.first_unmet-within.ensures) ∙ sym c.is_some-2.ensures ∙ c.if-is_some-2.false))

pub returns : goal.returns
returns c =
    let site = c.args.site.now in
    let call = c.args.call.now in
    let same : c.arguments_of.result.now ≡ arguments_of site.image call.method = rw (← c.site.view_is) c.arguments_of.ensures in
    let on = target_wanted call.target (method_class site.image call.method) call.method call.first in
    let each = each_wanted (arguments_of site.image call.method) call.first in
    let one = want.Arguments call.method call.first ∷ [] in
    c.unmet_argument.ensures
    ∙ ap (λ (xs : List Argument). first_unmet site.image site.method site.shape (each_wanted xs call.first)) same
    ∙ sym (absent site.image site.method site.shape one each c.first_unmet-within.result c.first_unmet-within.ensures (sym c.is_some-2.ensures ∙ c.if-is_some-2.false))
    ∙ sym (absent site.image site.method site.shape on (want.Arguments call.method call.first ∷ each) c.unmet_target-target.result
    c.unmet_target-target.ensures (sym c.is_some.ensures ∙ c.if-is_some.false))
