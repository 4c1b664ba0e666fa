-- Null, a cell by its class, or a message by its sender.
use Rattle.std.proofs.Common.{◌∙◌}
use Rattle.aom_debug_views.proofs.Contents.{null_content, own_content, unclassed_content}
use Rattle.aom_debug_views.proofs.frames.owned_content.Goals as goal

pub returns-then-number-eq-NULL : goal.returns-then-number-eq-NULL
returns-then-number-eq-NULL c = λ p r shows s st. null_content p c.args.parts.now c.args.number r shows s st c.if-number-eq-NULL.true

pub returns-in-Some : goal.returns-in-Some
returns-in-Some c = λ p r shows s st. own_content p c.args.parts.now c.args.number r shows s st c.in-Some.class c.in-Some.ensures

pub returns-in-None : goal.returns-in-None
returns-in-None c = λ p r shows s st. c.message_content.ensures ∙ unclassed_content p _ c.args.number r shows s st c.if-number-eq-NULL.false c.in-None.ensures
