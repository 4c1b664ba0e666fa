-- The machine is cut where it is at the limit, and left as it is elsewhere.
use Rattle.aom_debug_stepping.proofs.Keeping.{keeps_all}
use Rattle.aom_debug_stepping.proofs.Limits.{cut_ends, cut_keeps, not_cut}
use Rattle.aom_debug_stepping.proofs.limit.cut_at_limit.Goals as goal
use Rattle.aom_debug_stepping.proofs.limit.cut_at_limit.Goals.{then-is_at_limit, else-is_at_limit}

pub returns-clause-keeps : goal.returns-clause-keeps
returns-clause-keeps g c =
    let a = c.args.runner.now in
    elim c.if-is_at_limit.branch [
      | then-is_at_limit w ↦ rw w.runner-is
          (cut_keeps a c.is_at_limit.result w.if-is_at_limit.true c.is_at_limit.ensures w.cut.new.self w.cut.ensures.image w.cut.ensures.cut c.requires.ready)
      | else-is_at_limit w ↦ rw w.runner-is (keeps_all a c.requires.ready)
    ]

pub returns-clause-ends : goal.returns-clause-ends
returns-clause-ends g c =
    let a = c.args.runner.now in
    elim c.if-is_at_limit.branch [
      | then-is_at_limit w ↦ rw w.runner-is
          (cut_ends a c.is_at_limit.result w.if-is_at_limit.true c.is_at_limit.ensures w.cut.new.self w.cut.ensures.image w.cut.ensures.cut)
      | else-is_at_limit w ↦ rw w.runner-is (not_cut a c.is_at_limit.result w.if-is_at_limit.false c.is_at_limit.ensures)
    ]
