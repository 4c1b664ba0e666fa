-- One item after another, from the lowest.
use Rattle.std.proofs.Common.{ℕ, Bool, List, arith, length}
use Rattle.std.proofs.lemmas.Result.{err_from_is_err_and}
use Rattle.aom_semantics.specs.Owned.{over}
use Rattle.aom_semantics.specs.Places.{Entry}
use Rattle.aom_semantics.specs.State.{State}
use Rattle.aom_debug_views.specs.Owners.{In_entry, Owned, grown, is_entry, owned_line}
use Rattle.aom_debug_views.proofs.Counting.{counted_next}
use Rattle.aom_debug_views.proofs.Hanging.{hangs, hangs_cut, hangs_more}
use Rattle.aom_debug_views.proofs.Showing.{as_many_items}
use Rattle.aom_debug_views.proofs.Tasks.{entry_shows}
use Rattle.aom_debug_views.proofs.Reporting.{reports_all}
use Rattle.aom_debug_views.proofs.owners.report_entries.Goals as goal

abbrev such : State → ℕ → Bool
such s k = is_entry (over s.items k)

abbrev hangs_of : State → (number height : ℕ) → List Owned
hangs_of s j k = grown s.cells (In_entry j) (Entry k)

pub returns-in_err-report_place-clause-err : goal.returns-in_err-report_place-clause-err
returns-in_err-report_place-clause-err g c =
    let error = err_from_is_err_and c.from_residual.result c.from_residual.ensures.1 in
    let m = c.args.parts.now in
    let k = c.loop-height.height in
    let i = c.loop-height.invariant in
    rw (error.1, error.2) (λ p. hangs_cut such hangs_of c.args.names.now (record { image = p; parts = m }) _ k (i.count p) _ _ _ (i.out p)
    (λ s. length s.items) (λ s st. let many = as_many_items p m s st in omega (arith, c.loop-height-test.true, c.len-height-end.ensures.value, many)) _ _
    (c.in_err-report_place.ensures.err p (In_entry c.loop-height.entries) (Entry k) c.entry.ensures.text (entry_shows p m k _ c.item_number.ensures)))

pub loop-height-preserved : goal.loop-height-preserved
loop-height-preserved g c =
    let m = c.args.parts.now in
    let k = c.loop-height.height in
    let i = c.loop-height.invariant in
    let few = i.few in
    record {
      few = omega (arith, few, c.entries_at-entries.ensures.few);
      count = λ p s st. counted_next (such s) k _ _ (i.count p s st) (c.entries_at-entries.ensures.value p s st);
      out = λ p. hangs_more such hangs_of c.args.names.now (record { image = p; parts = m }) _ k (i.count p) _ _ _ (i.out p)
          (c.in_ok-report_place.ensures.ok p (In_entry c.loop-height.entries) (Entry k) c.entry.ensures.text (entry_shows p m k _ c.item_number.ensures));
    }

pub returns-clause-ok : goal.returns-clause-ok
returns-clause-ok g c =
    let m = c.args.parts.now in
    λ p. reports_all (owned_line c.args.names.now) (record { image = p; parts = m }) (hangs such hangs_of)
    (λ s. length s.items) c.loop-height.height _ _ (c.loop-height.invariant.out p)
    (λ s st. let many = as_many_items p m s st in omega (arith, c.len-height-end.ensures.value, c.loop-height.auto.height-end, c.loop-height-test.false, many))
