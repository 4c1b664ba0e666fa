use Rattle.std.proofs.Common.{ap, subst, sym, ◌<◌, ◌∙◌}
use Rattle.std.specs.Int.{w32}
use Rattle.std.proofs.lemmas.Int.{to_z-of_z}
use Rattle.aom_machine_instructions.specs.Going.{is_server_class}
use Rattle.aom_machine_instructions.proofs.EnlistActs.{enlist_free, enlist_fresh, enlist_lives, enlist_plain_does, enlist_server_does}
use Rattle.aom_machine_instructions.proofs.requests.enlist.Goals as goal
use Rattle.aom_machine_instructions.proofs.requests.enlist.Goals.{then-is_server, else-is_server}

pub living-id-requires : goal.living-id-requires
living-id-requires c = rw c.this.ensures (enlist_lives c.args.linked.now c.args.parts.now c.args.priority c.requires)

pub enlist_server-requires-clause-fresh : goal.enlist_server-requires-clause-fresh
enlist_server-requires-clause-fresh c = rw (c.living-id.ensures.value, c.this.ensures) (enlist_fresh c.args.linked.now c.args.parts.now c.args.priority c.requires)

pub push_last-requires-clause-free : goal.push_last-requires-clause-free
push_last-requires-clause-free c = rw (c.number-then-is_server-2.ensures.value, c.living-id.ensures.value, c.this.ensures)
    (enlist_free c.args.linked.now c.args.parts.now c.args.priority c.requires)

pub enlist-requires-clause-fresh : goal.enlist-requires-clause-fresh
enlist-requires-clause-fresh c = rw (c.living-id.ensures.value, c.this.ensures) (enlist_fresh c.args.linked.now c.args.parts.now c.args.priority c.requires)

pub returns : goal.returns
returns c = λ refused.
    let reported = rw (c.number.ensures.value, c.living-id.ensures.value, c.this.ensures) at c.class-class.ensures in
    elim c.if-is_server.branch [
      | then-is_server w ↦
          let enlists = rw (c.living-id.ensures.value, c.this.ensures, to_z-of_z w32 c.args.priority c.ranges.priority) at w.enlist_server.ensures in
          let small = subst (λ n. n < 256) w.number-then-is_server.ensures.value w.number-then-is_server.ensures.in_range in
          rw (c.next.ensures, w.parts-is, w.push_last.ensures, w.number-then-is_server.ensures.value, w.number-then-is_server-2.ensures.value, c.living-id.ensures.value, c.this.ensures)
          (enlist_server_does c.args.linked.now c.args.parts.now refused w.enlist_server.new.self c.args.priority c.class-class.result reported
          (sym c.is_server.ensures ∙ w.if-is_server.true) small enlists)
      | else-is_server w ↦
          let enlists = rw (c.living-id.ensures.value, c.this.ensures, to_z-of_z w32 c.args.priority c.ranges.priority) at w.enlist.ensures in
          rw (c.next.ensures, w.parts-is) (enlist_plain_does c.args.linked.now c.args.parts.now refused w.enlist.new.self c.args.priority
          (ap (is_server_class c.args.linked.now) reported ∙ sym c.is_server.ensures ∙ w.if-is_server.false) enlists)
    ]

pub next-requires-clause-runs : goal.next-requires-clause-runs
next-requires-clause-runs c = elim c.if-is_server.branch [ then-is_server w ↦ rw w.parts-is c.requires.runs | else-is_server w ↦ rw w.parts-is c.requires.runs ]

pub next-requires-clause-within : goal.next-requires-clause-within
next-requires-clause-within c =
    elim c.if-is_server.branch [ then-is_server w ↦ rw w.parts-is c.requires.within | else-is_server w ↦ rw w.parts-is c.requires.within ]
