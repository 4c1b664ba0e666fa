-- One node more is one entry more, over what stood.
use Rattle.std.proofs.Common.{◌≡◌, ◌+◌, ◌∙◌, suc, ℕ, List, length, ap, arith}
use Rattle.aom_abstract_state.specs.declared.entry_stacks.Node.{Node}
use Rattle.aom_abstract_state.proofs.Piling.{extends_push, pushed_entries, pushed_stands}
use Rattle.aom_abstract_state.proofs.entry_stacks.EntryStacks.push.Goals as goal

-- the new node's number and the height with it
counted : (top height : ℕ) (inside shown : List Node) → top ≡ length inside → inside ≡ shown → (top ≡ length shown) × (height + 1 ≡ suc height)
counted top height inside shown e same = (e ∙ ap (λ (ns : List Node). length ns) same, omega arith)

pub returns-clause-kept : goal.returns-clause-kept
returns-clause-kept c = rw (c.in_ok-push.ensures.items, c.self.view_is) (extends_push _ _)

pub returns-clause-stands : goal.returns-clause-stands
returns-clause-stands c =
    let to = counted c.len-top.result c.args.entry_stack.height c.self.inside.nodes.items c.args.self.now
    (omega (arith, c.len-top.ensures, c.self.inside.nodes.ok)) c.self.view_is in
    rw (c.in_ok-push.ensures.items, c.self.view_is, to.0, to.1) (pushed_stands c.args.self.now c.args.entry_stack c.args.entry c.requires.stands)

pub returns-clause-value : goal.returns-clause-value
returns-clause-value c =
    let to = counted c.len-top.result c.args.entry_stack.height c.self.inside.nodes.items c.args.self.now
    (omega (arith, c.len-top.ensures, c.self.inside.nodes.ok)) c.self.view_is in
    rw (c.in_ok-push.ensures.items, c.self.view_is, to.0, to.1) (pushed_entries c.args.self.now c.args.entry_stack c.args.entry c.requires.stands)
