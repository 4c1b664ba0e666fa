-- A place more brings it about, or not.
use Rattle.std.proofs.Common.{◌≡◌, ◌∙◌, ◌+◌, Option, ℕ, ap, arith, subst, sym}
use Rattle.aom_origins.proofs.Finding.{SoFar, found_none, found_only, not_more, one_more, two_bring}
use Rattle.aom_origins.proofs.origin.find_only.Goals as goal
use Rattle.aom_origins.proofs.origin.find_only.Goals.{else-place_brings, then-place_brings+else-is_some}

pub returns-then-is_some-clause-none : goal.returns-then-is_some-clause-none
returns-then-is_some-clause-none c =
    two_bring c.args.linked.now c.args.method c.args.states.now c.args.subject.now c.args.now.now c.loop-from.found c.loop-from.from
    (sym c.is_some.ensures ∙ c.if-is_some.true) c.loop-from.invariant (c.place_brings.ensures.yes c.if-place_brings.true)

pub loop-from-preserved : goal.loop-from-preserved
loop-from-preserved c = elim c.if-place_brings.branch [
  | then-place_brings+else-is_some w ↦
      subst (λ (o : Option ℕ). SoFar c.args.linked.now c.args.method c.args.states.now c.args.subject.now c.args.now.now o (c.loop-from.from + 1)) (sym w.found-is)
      (one_more c.args.linked.now c.args.method c.args.states.now c.args.subject.now c.args.now.now c.loop-from.found c.loop-from.from
      (sym w.is_some.ensures ∙ w.if-is_some.false) c.loop-from.invariant (c.place_brings.ensures.yes w.if-place_brings.true))
  | else-place_brings w ↦
      subst (λ (o : Option ℕ). SoFar c.args.linked.now c.args.method c.args.states.now c.args.subject.now c.args.now.now o (c.loop-from.from + 1)) (sym w.found-is)
      (not_more c.args.linked.now c.args.method c.args.states.now c.args.subject.now c.args.now.now c.loop-from.found c.loop-from.from
      c.loop-from.invariant (c.place_brings.ensures.no w.if-place_brings.false))
]

pub returns-clause-some : goal.returns-clause-some
returns-clause-some c =
    found_only c.args.linked.now c.args.method c.args.states.now c.args.subject.now c.args.now.now c.loop-from.found c.loop-from.from
    (omega (arith, c.loop-from-test.false, c.len-from-end.ensures)) c.loop-from.invariant

pub returns-clause-none : goal.returns-clause-none
returns-clause-none c =
    found_none c.args.linked.now c.args.method c.args.states.now c.args.subject.now c.args.now.now c.loop-from.found c.loop-from.from
    (omega (arith, c.loop-from-test.false, c.len-from-end.ensures)) c.loop-from.invariant
