-- One register after another.
use Rattle.std.proofs.Common.{ℕ, List, arith}
use Rattle.std.proofs.lemmas.Result.{err_from_is_err_and}
use Rattle.aom_semantics.specs.Places.{Register}
use Rattle.aom_semantics.specs.State.{State}
use Rattle.aom_debug_views.specs.Owners.{In_register, Owned, grown, owned_line}
use Rattle.aom_debug_views.proofs.Reporting.{part_further, reports_all, reports_further}
use Rattle.aom_debug_views.proofs.owners.report_frame.Goals as goal

abbrev hangs : ℕ → ℕ → State → ℕ → List Owned
hangs frames depth s i = grown s.cells (In_register frames i) (Register depth i)

pub returns-in_err-report_register-clause-err : goal.returns-in_err-report_register-clause-err
returns-in_err-report_register-clause-err g c =
    let error = err_from_is_err_and c.from_residual.result c.from_residual.ensures.1 in
    let at = c.loop-register.register in
    rw (error.1, error.2) (λ p depth shown. part_further (owned_line c.args.names.now) (record { image = p; parts = c.args.parts.now })
    (hangs c.args.frames depth) (λ s. 16) at _ _ _ _ _ (c.loop-register.invariant p depth shown) (λ s st. c.loop-register-test.true)
    (c.in_err-report_register.ensures.err p depth (shown.each at)))

pub loop-register-preserved : goal.loop-register-preserved
loop-register-preserved g c =
    let at = c.loop-register.register in
    λ p depth shown. reports_further (owned_line c.args.names.now) (record { image = p; parts = c.args.parts.now })
    (hangs c.args.frames depth) at _ _ _ (c.loop-register.invariant p depth shown) (c.in_ok-report_register.ensures.ok p depth (shown.each at))

pub returns-clause-ok : goal.returns-clause-ok
returns-clause-ok g c =
    let most = c.loop-register.auto.register-end in
    let least = c.loop-register-test.false in
    λ p depth shown. reports_all (owned_line c.args.names.now) (record { image = p; parts = c.args.parts.now })
    (hangs c.args.frames depth) (λ s. 16) c.loop-register.register _ _ (c.loop-register.invariant p depth shown) (λ s st. omega (arith, most, least))
