-- Moves, and then where they have led.
use Rattle.std.proofs.Common.{refl, sym, ◌∙◌}
use Rattle.std.proofs.lemmas.Bool.{or_parts}
use Rattle.aom_debug_stepping.specs.Runners.{outside_of}
use Rattle.aom_debug.proofs.DebugSteppingLemmas.{keeps_all, reaches_course}
use Rattle.aom_debug.specs.Debugging.{goes_of}
use Rattle.aom_debug.proofs.Answering.{answered}
use Rattle.aom_debug.proofs.debugger.Debugger.run_until.Goals as goal

pub returns-clause-agree : goal.returns-clause-agree
returns-clause-agree g c = rw c.arrived.ensures.runner c.go-went.ensures.agree

pub returns-clause-answer : goal.returns-clause-answer
returns-clause-answer g c =
    let a = c.args.self.now in
    let mid = record a { runner = c.go-went.new.runner } in
    let went = c.go-went.ensures in
    let reported = c.arrived.ensures in
    answered (goes_of c.args.course) a mid c.arrived.new.self (or_parts _ _ (sym c.is_done.ensures ∙ c.if-is_done.false)) went.keeps.image
    (g.W.Sink.out c.args.out.now) (g.W.Sink.out c.go-went.new.out) (g.W.Sink.out c.arrived.new.out) (g.W.Sink.failed c.arrived.new.out)
    (reaches_course a.runner.machine.core.image (outside_of a.runner) a.breakpoints c.args.course a.runner.recent mid.runner.recent) refl refl refl c.go-went.result
    (g.W.Sink.failed c.go-went.new.out) c.arrived.result went.went reported.none reported.failed reported.some

pub returns-then-is_done-clause-agree : goal.returns-then-is_done-clause-agree
returns-then-is_done-clause-agree g c = c.requires.agree

pub returns-then-is_done-clause-keeps : goal.returns-then-is_done-clause-keeps
returns-then-is_done-clause-keeps g c = keeps_all c.args.self.now.runner c.requires.ready

pub go-went-requires-clause-agree : goal.go-went-requires-clause-agree
go-went-requires-clause-agree g c = c.requires.agree

pub go-went-requires-clause-ready : goal.go-went-requires-clause-ready
go-went-requires-clause-ready g c = c.requires.ready

pub arrived-requires : goal.arrived-requires
arrived-requires g c = record { stands = c.go-went.ensures.keeps.ready.stands }

pub returns-clause-keeps : goal.returns-clause-keeps
returns-clause-keeps g c = rw c.arrived.ensures.runner c.go-went.ensures.keeps
