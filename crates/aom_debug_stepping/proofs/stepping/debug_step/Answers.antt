-- A step of a debugger: what may come before it, the step, and what may come after it.
use Rattle.std.proofs.Common.{arith, ap, refl, ◌∙◌}
use Rattle.aom_run.specs.Runs.{Moving}
use Rattle.aom_debug_stepping.proofs.RunLemmas.{moving_both}
use Rattle.aom_debug_stepping.specs.Next.{next_of, pauses, root_is_due, spot_of}
use Rattle.aom_debug_stepping.specs.Moves.{Notes, StepsOnce, noted}
use Rattle.aom_debug_stepping.specs.Sends.{Breaks, IfSo, Sends, Then, Where}
use Rattle.aom_debug_stepping.proofs.Keeping.{begun_as, keeps_noting, keeps_on, went_as}
use Rattle.aom_debug_stepping.proofs.Sending.{breaks_then, if_any, moving_if, moving_of, sends_as, sends_then, sends_where}
use Rattle.aom_debug_stepping.proofs.stepping.debug_step.Goals as goal

pub returns-in_err-step_if-2-clause-went : goal.returns-in_err-step_if-2-clause-went
returns-in_err-step_if-2-clause-went g c =
    let a = c.args.runner.now in
    let p = a.machine.core.image in
    let refused = a.lines.refused in
    let m = c.step_if.new.runner in
    let n = c.step_if-2.new.runner in
    let before = g.W.Sink.out c.args.out.now in
    let mid = g.W.Sink.out c.step_if.new.out in
    let out = g.W.Sink.out c.step_if-2.new.out in
    let due = Where (root_is_due p) (StepsOnce p refused) in
    let first = sends_where c.starts_end-begins.result (root_is_due p) (StepsOnce p refused) a.machine m.machine before mid c.starts_end-begins.ensures
    c.in_ok-step_if.ensures.went.0 in
    let off = c.in_err-step_if-2.ensures.went in
    let cut = begun_as c.step_if.ensures.keeps (λ q r. Breaks (Moving q r) m.machine mid out n.machine) off.1 in
    let all = breaks_then a.machine m.machine n.machine before mid out due (Moving p refused) first
    (Moving p refused) (λ s ls v ks u f k. moving_both p refused s ls v ks u (moving_if (root_is_due p s) p refused s ls v f) k) cut in
    rw c.from_residual-in_err-step_if-2.ensures (off.0, all)

pub returns-clause-went : goal.returns-clause-went
returns-clause-went g c =
    let a = c.args.runner.now in
    let p = a.machine.core.image in
    let refused = a.lines.refused in
    let m = c.step_if.new.runner in
    let n = c.step_if-2.new.runner in
    let l = c.step_if-3.new.runner in
    let before = g.W.Sink.out c.args.out.now in
    let mid = g.W.Sink.out c.step_if.new.out in
    let then = g.W.Sink.out c.step_if-2.new.out in
    let out = g.W.Sink.out c.step_if-3.new.out in
    let once = StepsOnce p refused in
    let due = Where (root_is_due p) once in
    let on = c.stays_there-goes_on in
    let keeps = keeps_on (keeps_noting c.step_if.ensures.keeps c.note_next.new.recent) c.step_if-2.ensures.keeps in
    let first = sends_where c.starts_end-begins.result
    (root_is_due p) once a.machine m.machine before mid c.starts_end-begins.ensures c.in_ok-step_if.ensures.went.0 in
    let step = begun_as c.step_if.ensures.keeps (λ q r. Sends (StepsOnce q r) m.machine mid then n.machine) c.in_ok-step_if-2.ensures.went.0 in
    let made = Then once (Where (pauses p) once) in
    let notes = Notes p a.recent l.recent made in
    went_as a n l before then out (g.W.Sink.failed c.step_if-3.new.out) c.step_if-3.result (λ y.
    let last = begun_as keeps (λ q r. Sends (IfSo on.result (StepsOnce q r)) n.machine then out l.machine) y in
    let there = sends_where on.result (pauses p) once n.machine l.machine then out (λ s st. on.ensures s st ∙ ap (λ q. pauses q s) keeps.image) last in
    let later = sends_then m.machine n.machine l.machine mid then out once (Where (pauses p) once) step there in
    let noting = sends_as m.machine l.machine mid out made notes (λ s st ls u z. (
      c.step_if-3.ensures.recent ∙ c.step_if-2.ensures.recent ∙ c.note_next.ensures s st ∙ ap (λ q. noted
          (spot_of (next_of q s)) m.recent) c.step_if.ensures.keeps.image ∙ ap (λ spots. noted (spot_of (next_of p s)) spots) c.step_if.ensures.recent,
      z,
    )) later in
    sends_then a.machine m.machine l.machine before mid out due notes first noting) (λ y.
    let cut = begun_as keeps (λ q r. Breaks (Moving q r) n.machine then out l.machine) y in
    let later = breaks_then m.machine n.machine l.machine mid then out once
    (Moving p refused) step (Moving p refused) (λ s ls v ks u f k. moving_both p refused s ls v ks u (moving_of p refused s ls v f) k) cut in
    breaks_then a.machine m.machine l.machine before mid out due (Moving p refused) first
    (Moving p refused) (λ s ls v ks u f k. moving_both p refused s ls v ks u (moving_if (root_is_due p s) p refused s ls v f) k) later) c.step_if-3.ensures.went

pub returns-clause-falls : goal.returns-clause-falls
returns-clause-falls g c = if_any c.step_if-3.result (λ running.
    let two = c.step_if-3.ensures.was running in
    let one = c.step_if-2.ensures.was two in
    let last = c.step_if-3.ensures.rank running in
    let step = c.step_if-2.ensures.falls refl two in
    let first = c.step_if.ensures.rank one in
    omega (arith, last, step, first))

pub step_if-requires-clause-agree : goal.step_if-requires-clause-agree
step_if-requires-clause-agree g c = c.requires.agree

pub step_if-requires-clause-ready : goal.step_if-requires-clause-ready
step_if-requires-clause-ready g c = c.requires.ready

pub returns-in_err-step_if-clause-agree : goal.returns-in_err-step_if-clause-agree
returns-in_err-step_if-clause-agree g c = c.step_if.ensures.agree

pub returns-in_err-step_if-clause-keeps : goal.returns-in_err-step_if-clause-keeps
returns-in_err-step_if-clause-keeps g c = c.step_if.ensures.keeps

pub returns-in_err-step_if-clause-went : goal.returns-in_err-step_if-clause-went
returns-in_err-step_if-clause-went g c = rw c.from_residual.ensures c.in_err-step_if.ensures.went

pub note_next-requires : goal.note_next-requires
note_next-requires g c = c.step_if.ensures.keeps.ready.stands

pub step_if-requires-2-clause-agree : goal.step_if-requires-2-clause-agree
step_if-requires-2-clause-agree g c = c.step_if.ensures.agree

pub step_if-requires-2-clause-ready : goal.step_if-requires-2-clause-ready
step_if-requires-2-clause-ready g c = (keeps_noting c.step_if.ensures.keeps c.note_next.new.recent).ready

pub returns-in_err-step_if-2-clause-agree : goal.returns-in_err-step_if-2-clause-agree
returns-in_err-step_if-2-clause-agree g c = c.step_if-2.ensures.agree

pub returns-in_err-step_if-2-clause-keeps : goal.returns-in_err-step_if-2-clause-keeps
returns-in_err-step_if-2-clause-keeps g c = keeps_on (keeps_noting c.step_if.ensures.keeps c.note_next.new.recent) c.step_if-2.ensures.keeps

pub step_if-requires-3-clause-agree : goal.step_if-requires-3-clause-agree
step_if-requires-3-clause-agree g c = c.step_if-2.ensures.agree

pub step_if-requires-3-clause-ready : goal.step_if-requires-3-clause-ready
step_if-requires-3-clause-ready g c = c.step_if-2.ensures.keeps.ready

pub returns-clause-agree : goal.returns-clause-agree
returns-clause-agree g c = c.step_if-3.ensures.agree

pub returns-clause-keeps : goal.returns-clause-keeps
returns-clause-keeps g c = keeps_on (keeps_on (keeps_noting c.step_if.ensures.keeps c.note_next.new.recent) c.step_if-2.ensures.keeps) c.step_if-3.ensures.keeps
