-- Something waits at the server that is served, and what serves it is there still once it is taken.
use Rattle.std.proofs.Common.{rules, ap, subst, sym, ◌∙◌}
use Rattle.std.proofs.lemmas.Option.{none-some, same_Some}
use Rattle.aom_frames.specs.declared.dispatch.Subject.{Subject}
use Rattle.aom_machine.specs.Servers.{CanTake, taken_from}
use Rattle.aom_machine.proofs.Queued.{take_again}
use Rattle.aom_machine.proofs.servers.serve.Goals as goal

pub unreachable-requires : goal.unreachable-requires
unreachable-requires c =
    let first = rw c.number-server.ensures.value at c.next.ensures.taken in
    none-some c.requires.can.first (sym c.in_default.is ∙ first ∙ c.requires.can.waits)

pub begin-requires-clause-can : goal.begin-requires-clause-can
begin-requires-clause-can c =
    let m = c.args.parts.now in
    let can = c.requires.can in
    let active = c.note_queue.new.parts.active in
    let is = rw c.number.ensures.value at c.class-class.ensures in
    let same = same_Some can.class c.class-class.result (sym can.lives.is ∙ is) ∙ ap (λ (x : Subject). x.class) (sym c.new.ensures) in
    let waits = sym (rw c.number-server.ensures.value at c.next.ensures.taken) ∙ c.in-Some.is in
    rw (c.reset_counts.ensures, c.note_queue.ensures.rest, c.next.ensures.after, c.number-server.ensures.value)
    (subst (λ k. CanTake c.args.linked.now k c.in-Some.taken.client c.in-Some.taken.entry (taken_from c.args.id active m)) same
    (take_again c.args.linked.now m c.args.id active can c.in-Some.taken waits))

pub returns : goal.returns
returns c = search (rules, c.note_queue.ensures.noted)
