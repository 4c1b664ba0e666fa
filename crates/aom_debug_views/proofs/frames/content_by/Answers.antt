-- By each kind.
use Rattle.std.proofs.Common.{◌∙◌, Some, ap}
use Rattle.aom_semantics.specs.Places.{Register}
use Rattle.aom_debug_views.proofs.Contents.{null_has, owned_has, unset_has, word_has}
use Rattle.aom_debug_views.proofs.frames.content_by.Goals as goal

pub returns-in-Unset : goal.returns-in-Unset
returns-in-Unset c = λ p depth i shows s st fr there. unset_has p c.args.parts.now c.args.kind c.args.number depth i shows s st fr there c.in-Unset.is

pub returns-in-Word : goal.returns-in-Word
returns-in-Word c = λ p depth i shows s st fr there. ap (λ x. Some x) c.word_content.ensures
    ∙ word_has p c.args.parts.now c.args.kind c.args.number depth i shows s st fr there c.in-Word.is

pub returns-in-Null : goal.returns-in-Null
returns-in-Null c = λ p depth i shows s st fr there. null_has p c.args.parts.now c.args.kind c.args.number depth i shows s st fr there c.in-Null.is

pub returns-in-Own : goal.returns-in-Own
returns-in-Own c = λ p depth i shows s st fr there. owned_has p _ _ _ _ i shows s st fr there _ c.in-Own.is
    (λ own. c.owned_content.ensures p (Register depth i) own s st)
