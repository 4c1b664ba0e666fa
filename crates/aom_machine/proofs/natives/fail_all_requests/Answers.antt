-- One cell after another is bereaved.
use Rattle.std.proofs.Common.{arith}
use Rattle.aom_machine.proofs.Killing.{all_hit, hits_next, misses_next, needs_code, needs_life, none_yet}
use Rattle.aom_machine.proofs.natives.fail_all_requests.Goals as goal
use Rattle.aom_machine.proofs.natives.fail_all_requests.Goals.{then-is_engaged, else-is_engaged}

pub is_engaged-requires-clause-lives : goal.is_engaged-requires-clause-lives
is_engaged-requires-clause-lives c = rw c.new-id.ensures
    (needs_life c.args.linked.now c.args.native c.args.parts.now c.loop-number.number c.loop-number.parts c.loop-number.invariant c.requires)

pub fail_requests-requires : goal.fail_requests-requires
fail_requests-requires c =
    let hit = rw (c.new-id.ensures, c.if-is_engaged.true) at c.is_engaged.ensures in
    rw c.new-id.ensures (needs_code c.args.linked.now c.args.native c.args.parts.now c.loop-number.number c.loop-number.parts c.loop-number.invariant c.requires hit)

pub loop-number-preserved : goal.loop-number-preserved
loop-number-preserved c = elim c.if-is_engaged.branch [
  | then-is_engaged w ↦
      let hit = rw (c.new-id.ensures, w.if-is_engaged.true) at c.is_engaged.ensures in
      let made = rw c.new-id.ensures at w.fail_requests.ensures.requests in
      let sets = rw c.new-id.ensures at w.fail_requests.ensures.sessions in
      rw w.parts-is (hits_next c.args.linked.now c.args.native c.args.parts.now c.loop-number.number
      c.loop-number.parts c.loop-number.invariant w.fail_requests.new.parts hit made w.fail_requests.ensures.numbers sets w.fail_requests.ensures.rest)
  | else-is_engaged w ↦
      let miss = rw (c.new-id.ensures, w.if-is_engaged.false) at c.is_engaged.ensures in
      rw w.parts-is (misses_next c.args.linked.now c.args.native c.args.parts.now c.loop-number.number c.loop-number.parts c.loop-number.invariant miss)
]

pub returns : goal.returns
returns c =
    let limit = c.limit-number-end.ensures.value in
    let most = c.loop-number.auto.number-end in
    let least = c.loop-number-test.false in
    all_hit c.args.linked.now c.args.native c.args.parts.now c.loop-number.number c.loop-number.parts c.loop-number.invariant (omega (arith, limit, most, least))

pub loop-number-init : goal.loop-number-init
loop-number-init c = none_yet _ _ _
