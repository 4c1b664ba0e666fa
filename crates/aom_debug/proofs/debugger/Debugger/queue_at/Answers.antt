-- What was told is what each state shows of the object that was found; where none was, each state has none there.
use Rattle.std.proofs.lemmas.Result.{err_from_is_err_and}
use Rattle.aom_debug.proofs.DebugSteppingLemmas.{keeps_all}
use Rattle.aom_debug.specs.Debugging.{LacksQueue, SeesQueue}
use Rattle.aom_debug.proofs.Answering.{looked}
use Rattle.aom_debug.proofs.Declining.{kept_runner}
use Rattle.aom_debug.proofs.Reached.{looks_at, queue_nowhere, queue_part, queue_seen}
use Rattle.aom_debug.proofs.debugger.Debugger.queue_at.Goals as goal

pub returns-in_err-found-clause-agree : goal.returns-in_err-found-clause-agree
returns-in_err-found-clause-agree g c = c.requires.agree

pub returns-in_err-found-clause-keeps : goal.returns-in_err-found-clause-keeps
returns-in_err-found-clause-keeps g c = keeps_all c.args.self.now.runner c.requires.ready

pub returns-in_err-found-clause-answer : goal.returns-in_err-found-clause-answer
returns-in_err-found-clause-answer g c =
    let e = err_from_is_err_and c.from_residual.result c.from_residual.ensures.1 in
    rw (e.1, e.2) (queue_nowhere c.args.path c.args.self.now _ _ _ c.in_err-found.ensures.err)

pub show_queue-reported-requires : goal.show_queue-reported-requires
show_queue-reported-requires g c = c.in_ok-found.ensures.ok.1

pub returns-clause-agree : goal.returns-clause-agree
returns-clause-agree g c = rw (kept_runner c.args.self.now c.kept.new.self c.show_queue-reported.result c.kept.ensures.ok c.kept.ensures.err) c.requires.agree

pub returns-clause-keeps : goal.returns-clause-keeps
returns-clause-keeps g c = rw (kept_runner c.args.self.now c.kept.new.self c.show_queue-reported.result c.kept.ensures.ok c.kept.ensures.err)
    (keeps_all c.args.self.now.runner c.requires.ready)

pub returns-clause-answer : goal.returns-clause-answer
returns-clause-answer g c =
    let d = c.args.self.now in
    let w = c.args.path in
    let f = c.in_ok-found.found in
    let there = c.in_ok-found.ensures.ok.2 in
    let reported = c.show_queue-reported in
    looks_at (SeesQueue w) (LacksQueue w) d c.kept.new.self _ c.kept.result (looked (SeesQueue w) d c.kept.new.self (g.W.Sink.out c.args.out.now)
    (g.W.Sink.out reported.new.out) (g.W.Sink.failed reported.new.out) reported.result c.kept.result c.in_ok-found.ensures.ok.0
    c.kept.ensures.answer c.kept.ensures.ok c.kept.ensures.err (queue_seen d w f _ _ there reported.result reported.ensures.ok)
    (queue_part d w f _ _ there _ reported.result reported.ensures.err))
