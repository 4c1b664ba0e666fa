-- Each word names one kind more, or none.
use Rattle.std.proofs.Common.{refl}
use Rattle.std.proofs.lemmas.Result.{err_from_is_err_and}
use Rattle.aom_command_line.proofs.Reading.{no_kind, one_more_kind}
use Rattle.aom_command_line.proofs.words.kinds_of.Goals as goal

pub returns-in-None-clause-declines : goal.returns-in-None-clause-declines
returns-in-None-clause-declines c = no_kind c.args.words.now c.loop-word.word-index _ c.loop-word-test.true (c.in-None.ensures.none refl)

pub loop-word-preserved : goal.loop-word-preserved
loop-word-preserved c = one_more_kind c.args.words.now c.loop-word.word-index _ c.loop-word.kinds.items
    c.push.new.self.items c.in-Some.kind c.loop-word-test.true c.loop-word.invariant c.in-Some.ensures.some c.in_ok-push-in-Some.ensures.items

pub returns-in-None-clause-named : goal.returns-in-None-clause-named
returns-in-None-clause-named c = tt

pub returns-clause-declines : goal.returns-clause-declines
returns-clause-declines c = tt

-- ---- where memory is wanting

pub returns-in_err-push-in-Some-clause-named : goal.returns-in_err-push-in-Some-clause-named
returns-in_err-push-in-Some-clause-named c = let error = err_from_is_err_and c.from_residual.result c.from_residual.ensures.1 in rw error.1 tt

pub returns-in_err-push-in-Some-clause-declines : goal.returns-in_err-push-in-Some-clause-declines
returns-in_err-push-in-Some-clause-declines c = let error = err_from_is_err_and c.from_residual.result c.from_residual.ensures.1 in rw (error.1, error.2) tt
