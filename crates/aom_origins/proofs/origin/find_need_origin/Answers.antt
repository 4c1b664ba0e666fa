-- A need is about one part, if there is an instruction.
use Rattle.std.proofs.Common.{arith}
use Rattle.aom_origins.proofs.Needing.{of_subject, past_end}
use Rattle.aom_origins.proofs.PathConflictsLemmas.{has_instr, has_no_instr}
use Rattle.aom_origins.proofs.origin.find_need_origin.Goals as goal

pub returns-then-len-place-clause-none : goal.returns-then-len-place-clause-none
returns-then-len-place-clause-none c =
    past_end c.args.linked.now c.args.method c.args.states.now c.args.place c.args.shape.now c.args.why
    (has_no_instr c.args.linked.now c.args.method c.args.place c.method.result.now c.method.ensures (omega (arith, c.if-len-place.true, c.len.ensures)))

pub needed_subject-requires : goal.needed_subject-requires
needed_subject-requires c =
    has_instr c.args.linked.now c.args.method c.args.place c.method.result.now c.method.ensures (omega (arith, c.if-len-place.false, c.len.ensures))

pub returns-in-Some-clause-none : goal.returns-in-Some-clause-none
returns-in-Some-clause-none c =
    of_subject c.args.linked.now c.args.method c.args.states.now c.args.place c.args.shape.now c.args.why c.in-Some.subject c.find_origin.result
    c.in-Some.ensures c.find_origin.ensures.none
