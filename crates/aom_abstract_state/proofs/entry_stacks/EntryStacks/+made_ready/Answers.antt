-- What is below is readied first, and then the entry comes on top of it.
use Rattle.std.proofs.Common.{◌≡◌, ◌∷◌, List, ap, refl, sym, ◌∙◌, arith}
use Rattle.std.proofs.lemmas.Result.{IfOk-weaker, IfOk-from_err}
use Rattle.aom_abstract_state.specs.Entries.{made_ready_at}
use Rattle.aom_abstract_state.specs.EntryStacks.{entries_of, node_at}
use Rattle.aom_abstract_state.specs.declared.entry_stacks.Node.{Node}
use Rattle.aom_abstract_state.proofs.Piling.{extends_along, extends_self, made_ready_below}
use Rattle.aom_abstract_state.proofs.entry_stacks.EntryStacks.+made_ready.Goals as goal

pub returns-clause-value : goal.returns-clause-value
returns-clause-value t c =
    let shown : c.self.inside.nodes.items ≡ c.args.self.now = c.self.view_is in
    let node : c.node_at-entry.result ≡ node_at c.args.self.now c.args.entry_stack.top =
    c.node_at-entry.ensures ∙ ap (λ (ns : List Node). node_at ns c.args.entry_stack.top) (c.deref.ensures.value ∙ shown) in
    let below = sym (made_ready_below c.args.self.now c.args.entry_stack.top c.args.entry_stack.height c.args.number (omega (arith, c.if-entry_stack-eq0.false))
    (omega (arith, c.if-number-eq0.false))) in
    let step : c.node_at-entry.result.entry ∷ entries_of c.made_ready-2.new.self c.in_ok-rest.rest ≡ made_ready_at
    (entries_of c.args.self.now c.args.entry_stack) c.args.number = rw (c.in_ok-rest.ensures.value, c.below-below.ensures.value, node) below in
    IfOk-weaker c.push-2.result _ _ (λ p h. h ∙ step) c.push-2.ensures.value

pub returns-then-entry_stack-eq0-clause-kept : goal.returns-then-entry_stack-eq0-clause-kept
returns-then-entry_stack-eq0-clause-kept t c = extends_self _

pub returns-then-entry_stack-eq0-clause-value : goal.returns-then-entry_stack-eq0-clause-value
returns-then-entry_stack-eq0-clause-value t c = rw c.if-entry_stack-eq0.true refl

pub returns-then-number-eq0-clause-kept : goal.returns-then-number-eq0-clause-kept
returns-then-number-eq0-clause-kept t c = c.push.ensures.kept

pub returns-then-number-eq0-clause-stands : goal.returns-then-number-eq0-clause-stands
returns-then-number-eq0-clause-stands t c = c.push.ensures.stands

pub returns-then-number-eq0-clause-height : goal.returns-then-number-eq0-clause-height
returns-then-number-eq0-clause-height t c = IfOk-weaker c.push.result _ _ (λ p h. omega arith) c.push.ensures.height

pub returns-in_err-rest-clause-stands : goal.returns-in_err-rest-clause-stands
returns-in_err-rest-clause-stands t c = IfOk-from_err _ _ c.from_residual.ensures.0

pub returns-in_err-rest-clause-height : goal.returns-in_err-rest-clause-height
returns-in_err-rest-clause-height t c = IfOk-from_err _ _ c.from_residual.ensures.0

pub returns-in_err-rest-clause-value : goal.returns-in_err-rest-clause-value
returns-in_err-rest-clause-value t c = IfOk-from_err _ _ c.from_residual.ensures.0

pub returns-clause-kept : goal.returns-clause-kept
returns-clause-kept t c = extends_along _ _ _ c.made_ready-2.ensures.kept c.push-2.ensures.kept

pub returns-clause-stands : goal.returns-clause-stands
returns-clause-stands t c = c.push-2.ensures.stands

pub returns-clause-height : goal.returns-clause-height
returns-clause-height t c = IfOk-weaker c.push-2.result _ _ (λ p h. omega (arith, c.in_ok-rest.ensures.height)) c.push-2.ensures.height
