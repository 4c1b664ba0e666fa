-- What was found of the checked image is written, behind the word of an accepted one, if it is one.
use Rattle.std.proofs.Common.{◌∙◌, ◌++◌, ap}
use Rattle.std.proofs.lemmas.Result.{IfOk-weaker}
use Rattle.aom_commands.specs.Headline.{accepted_text}
use Rattle.aom_commands.proofs.Figuring.{reported_so}
use Rattle.aom_commands.proofs.pricing.price_figures.Goals as goal

pub returns-in-Ok : goal.returns-in-Ok
returns-in-Ok c = IfOk-weaker c.accepted_beside.result _ _ (λ priced is. rw is.1 (
  c.in_ok-text.text.items,
  reported_so c.args.names.now c.args.checked.now _ c.args.figures.now _ c.requires c.in_ok-text.ensures c.linked.ensures,
  c.in-Ok.ensures.budgets,
  c.in-Ok.ensures.depths,
  c.in-Ok.ensures.heights,
  is.0 ∙ ap (λ t. accepted_text ++ t) c.deref.ensures.value,
)) c.accepted_beside.ensures

pub returns-in-Err : goal.returns-in-Err
returns-in-Err c = (reported_so c.args.names.now c.args.checked.now _ c.args.figures.now _ c.requires c.in_ok-text.ensures c.linked.ensures, c.in-Err.ensures.err)
