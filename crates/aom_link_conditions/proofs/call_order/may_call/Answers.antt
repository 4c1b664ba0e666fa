use Rattle.std.proofs.Common.{◌<◌, ◌∙◌, subst, sym, arith}
use Rattle.std.proofs.lemmas.Bool.{false≢true, ltb-true}
use Rattle.aom_link_conditions.specs.Calls.{MentionsResult, OverridersBelow}
use Rattle.aom_link_conditions.proofs.call_order.may_call.Goals as goal
use Rattle.aom_link_conditions.proofs.call_order.may_call.Goals.{then-number-method, else-number-method}

pub returns-then-may_call : goal.returns-then-may_call
returns-then-may_call c =
    let before : (c.args.called < c.args.method) × OverridersBelow c.args.image.now c.args.method c.args.called = elim c.if-number-method.branch [
      | then-number-method w ↦ (omega (arith, w.if-number-method.true, c.number.ensures.value), (w.may_call.ensures c.args.image.now c.requires).0 (sym w.value-is ∙ c.if-may_call.true))
      | else-number-method w ↦ absurd (let less = ltb-true c.number.result c.args.method (sym w.value-is ∙ c.if-may_call.true) in
          let past = w.if-number-method.false in omega (arith, less, past))
    ] in (
      λ passes. record { below = before.0; overriders = before.1; gives = subst (MentionsResult c.args.image.now c.args.method) c.gives_of.ensures (c.may_give.ensures.0 passes) },
      λ calls. c.may_give.ensures.1 (subst (MentionsResult c.args.image.now c.args.method) (sym c.gives_of.ensures) calls.gives),
    )

pub returns-else-may_call : goal.returns-else-may_call
returns-else-may_call c = (
  λ passes. absurd (false≢true (sym c.if-may_call.false ∙ passes)),
  λ calls. elim c.if-number-method.branch [
    | then-number-method w ↦ w.value-is ∙ (w.may_call.ensures c.args.image.now c.requires).1 calls.overriders
    | else-number-method w ↦ absurd (let below = calls.below in let past = w.if-number-method.false in omega (arith, below, past, c.number.ensures.value))
  ],
)
