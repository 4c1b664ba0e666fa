use Rattle.std.proofs.Common.{sym, ◌∙◌}
use Rattle.aom_machine_instructions.proofs.RequestActs.{cancel_does, cancel_idle_does, cancel_lives, cancel_there, waits_active}
use Rattle.aom_machine_instructions.proofs.requests.cancel.Goals as goal

pub cell-id-requires-clause-lives : goal.cell-id-requires-clause-lives
cell-id-requires-clause-lives c = cancel_lives c.args.linked.now c.args.parts.now c.requires

pub returns-then-not-is_active : goal.returns-then-not-is_active
returns-then-not-is_active c = λ refused. rw c.next.ensures
    (cancel_idle_does c.args.parts.now refused (rw c.cell-id.ensures at (sym c.is_active.ensures ∙ c.if-not-is_active.true)) c.args.linked.now)

pub cancelling-requires : goal.cancelling-requires
cancelling-requires c = waits_active _ (sym c.is_active.ensures ∙ c.if-not-is_active.false)

pub unreachable-requires : goal.unreachable-requires
unreachable-requires c =
    let class = rw (c.number.ensures.value, c.cell-id.ensures) at c.class-class.ensures in
    let counts = rw c.view-view.ensures at c.counted.ensures in
    cancel_there c.args.linked.now c.args.parts.now c.class-class.result c.counted.result c.requires class counts (sym c.role.ensures ∙ c.in_default.is)

pub returns : goal.returns
returns c = λ refused.
    let class = rw (c.number.ensures.value, c.cell-id.ensures) at c.class-class.ensures in
    let waited = rw c.cell-id.ensures at (sym c.is_active.ensures ∙ c.if-not-is_active.false) in
    let makes = rw c.cell-id.ensures at c.cancelling.ensures in
    let role = sym c.role.ensures ∙ c.in-Some.is in
    let counts = rw c.view-view.ensures at c.counted.ensures in
    rw (c.push.ensures, c.counting_as.ensures, c.view-view.ensures, c.begin.ensures, c.number-2.ensures.value, c.cell-id.ensures) (cancel_does
    c.args.linked.now c.args.parts.now refused c.cancelling.new.self c.in-Some.method c.class-class.result c.counted.result class counts role waited makes)
