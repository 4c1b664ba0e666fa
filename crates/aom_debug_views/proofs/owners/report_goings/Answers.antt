-- One destruction after another, from the outermost.
use Rattle.std.proofs.Common.{ℕ, Bool, List, arith, length}
use Rattle.std.proofs.lemmas.Result.{err_from_is_err_and}
use Rattle.aom_semantics.specs.Owned.{over}
use Rattle.aom_semantics.specs.Places.{Going}
use Rattle.aom_semantics.specs.State.{State}
use Rattle.aom_debug_views.specs.Owners.{In_going, Owned, grown, is_going, owned_line}
use Rattle.aom_debug_views.proofs.Counting.{counted_next}
use Rattle.aom_debug_views.proofs.Hanging.{hangs, hangs_cut, hangs_more}
use Rattle.aom_debug_views.proofs.Tasks.{as_many_tasks, going_shows}
use Rattle.aom_debug_views.proofs.Reporting.{reports_all}
use Rattle.aom_debug_views.proofs.owners.report_goings.Goals as goal

abbrev such : State → ℕ → Bool
such s k = is_going (over s.tasks k)

abbrev hangs_of : State → (number depth : ℕ) → List Owned
hangs_of s j k = grown s.cells (In_going j) (Going k)

pub returns-in_err-report_place-clause-err : goal.returns-in_err-report_place-clause-err
returns-in_err-report_place-clause-err g c =
    let error = err_from_is_err_and c.from_residual.result c.from_residual.ensures.1 in
    let m = c.args.parts.now in
    let k = c.loop-depth.depth in
    let i = c.loop-depth.invariant in
    rw (error.1, error.2) (λ p. hangs_cut such hangs_of c.args.names.now (record { image = p; parts = m }) _ k (i.count p) _ _ _ (i.out p)
    (λ s. length s.tasks) (λ s st. let many = as_many_tasks p m s st in omega (arith, c.loop-depth-test.true, c.len-depth-end.ensures, many)) _ _
    (c.in_err-report_place.ensures.err p (In_going c.loop-depth.goings) (Going k) c.going.ensures.text (going_shows p m k _ c.going_number.ensures)))

pub loop-depth-preserved : goal.loop-depth-preserved
loop-depth-preserved g c =
    let m = c.args.parts.now in
    let k = c.loop-depth.depth in
    let i = c.loop-depth.invariant in
    let few = i.few in
    record {
      few = omega (arith, few, c.goings_at-goings.ensures.few);
      count = λ p s st. counted_next (such s) k _ _ (i.count p s st) (c.goings_at-goings.ensures.value p s st);
      out = λ p. hangs_more such hangs_of c.args.names.now (record { image = p; parts = m }) _ k (i.count p) _ _ _ (i.out p)
          (c.in_ok-report_place.ensures.ok p (In_going c.loop-depth.goings) (Going k) c.going.ensures.text (going_shows p m k _ c.going_number.ensures));
    }

pub returns-clause-ok : goal.returns-clause-ok
returns-clause-ok g c =
    let m = c.args.parts.now in
    λ p. reports_all (owned_line c.args.names.now) (record { image = p; parts = m }) (hangs such hangs_of)
    (λ s. length s.tasks) c.loop-depth.depth _ _ (c.loop-depth.invariant.out p)
    (λ s st. let many = as_many_tasks p m s st in omega (arith, c.len-depth-end.ensures, c.loop-depth.auto.depth-end, c.loop-depth-test.false, many))
