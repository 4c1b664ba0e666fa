-- Each is tried in turn. Where memory is wanting what went out stays.
use Rattle.std.proofs.Common.{◌∙◌, arith, inr, length, refl, rules, sym}
use Rattle.std.proofs.lemmas.Result.{err_from_is_err_and}
use Rattle.aom_fault_injection.specs.Expected.{exploration_of}
use Rattle.aom_commands.specs.Headline.{Sent}
use Rattle.aom_commands.proofs.Tries.{all_tried, begun_still, one_more, start}
use Rattle.aom_commands.proofs.exploring.try_all.Goals.{then-loop-place-test+else-not-has_failed, else-loop-place-test}
use Rattle.aom_commands.proofs.exploring.try_all.Goals as goal

pub loop-place-init : goal.loop-place-init
loop-place-init g c = record {
  far = start _ _ _ _ _ _ _ _ _ _ c.in_ok-told.ensures.counts c.in_ok-told.ensures.unexpected c.in_ok-told.ensures.says;
  within = omega arith;
}

pub count-requires-clause-many : goal.count-requires-clause-many
count-requires-clause-many g c =
    let many = c.loop-place.invariant.far.many in
    let fits = c.loop-place.auto.place-fits in
    omega (arith, many, fits, c.loop-place-test.true)

pub count-requires-clause-few : goal.count-requires-clause-few
count-requires-clause-few g c = c.loop-place.invariant.far.few

pub loop-place-preserved : goal.loop-place-preserved
loop-place-preserved g c =
    let i = c.loop-place.invariant in
    let tried = c.in_ok-last.ensures.ok in
    let trial = c.args.trial.now in
    let out = g.W.Sink.out c.args.out.now in
    let mid : Sent = record { before = out; now = g.W.Sink.out c.loop-place.out; failed = g.W.Sink.failed c.loop-place.out } in
    let sent : Sent = record { before = out; now = g.W.Sink.out c.try_one.new.out; failed = g.W.Sink.failed c.try_one.new.out } in
    record {
      far = one_more trial.accepted.now trial.script.now trial.limit
          (length trial.kinds.now) (exploration_of c.args.options) c.args.plain c.args.injections.now c.loop-place.place
          c.loop-place.told.outcome_counts c.count.new.self.outcome_counts c.loop-place.told.unexpected c.count.new.self.unexpected mid sent _ _
          c.in_ok-last.last tried.0 (omega (arith, c.loop-place-test.true)) refl i.far (sym c.has_failed.ensures ∙ search rules) refl tried.1 tried.2
          c.count.ensures.counts c.count.ensures.unexpected;
      within = omega (arith, c.loop-place-test.true);
    }

pub returns-in_err-last-clause-err : goal.returns-in_err-last-clause-err
returns-in_err-last-clause-err g c =
    let p = err_from_is_err_and c.from_residual-in_err-last.result c.from_residual-in_err-last.ensures.1 in
    let fails = c.in_err-last.ensures.err in
    let trial = c.args.trial.now in
    let out = g.W.Sink.out c.args.out.now in
    let mid : Sent = record { before = out; now = g.W.Sink.out c.loop-place.out; failed = g.W.Sink.failed c.loop-place.out } in
    let sent : Sent = record { before = out; now = g.W.Sink.out c.try_one.new.out; failed = g.W.Sink.failed c.try_one.new.out } in
    rw p.1 (
      p.2 ∙ fails.0,
      inr (begun_still trial.accepted.now trial.script.now trial.limit (length trial.kinds.now) (exploration_of c.args.options) c.args.plain
          c.args.injections.now c.loop-place.place _ _ mid sent c.loop-place.invariant.far refl fails.1 fails.2),
    )

pub returns-clause-ok : goal.returns-clause-ok
returns-clause-ok g c =
    let i = c.loop-place.invariant in
    elim c.loop-place-test.branch [
      | then-loop-place-test+else-not-has_failed w ↦ all_tried _ _ _ _ _ _ _ _ _ _ _ i.far (λ lives. let failed = sym w.has_failed.ensures in absurd cc)
      | else-loop-place-test w ↦ all_tried _ _ _ _ _ _ _ c.loop-place.place c.loop-place.told.outcome_counts _ _ i.far (λ lives. omega (arith, w.loop-place-test.false))
    ]
