-- A register that may own has a number, and another owns nothing.
use Rattle.std.proofs.Common.{◌≡◌, ◌∙◌, ℕ, Bool, false, subst, sym, true}
use Rattle.std.proofs.lemmas.Result.{IfErr-weaker, IfOk-weaker}
use Rattle.aom_semantics.specs.Places.{Place, Register}
use Rattle.aom_machine_state.specs.Stands.{MachineModel}
use Rattle.aom_debug_views.specs.Owners.{In_register, Shows, ShowsIf, ShowsNone}
use Rattle.aom_debug_views.proofs.Trees.{grown_unreported}
use Rattle.aom_debug_views.proofs.owners.report_register.Goals as goal

shown : (may answer : Bool) (m : MachineModel) (n k : ℕ) (r : Place) → answer ≡ may → answer ≡ true → k ≡ n → ShowsIf may m n r → Shows m k r
shown may answer m n k r is may_so same shows = subst (λ i. Shows m i r) (sym same) (subst (λ b. ShowsIf b m n r) (sym is ∙ may_so) shows)

unshown : (may answer : Bool) (m : MachineModel) (n : ℕ) (r : Place) → answer ≡ may → answer ≡ false → ShowsIf may m n r → ShowsNone m r
unshown may answer m n r is none shows = subst (λ b. ShowsIf b m n r) (sym is ∙ none) shows

pub returns-then-may_own-clause-ok : goal.returns-then-may_own-clause-ok
returns-then-may_own-clause-ok g c = IfOk-weaker c.report_place.result _ _ (λ _ reported p depth shows. reported p (In_register c.args.frames c.args.register) (Register
    depth c.args.register) c.register.ensures.text (shown _ c.may_own.result (record { image = p; parts = c.args.parts.now }) _ c.register-then-may_own.result
    (Register depth c.args.register) c.may_own.ensures c.if-may_own.true c.register-then-may_own.ensures shows)) c.report_place.ensures.ok

pub returns-then-may_own-clause-err : goal.returns-then-may_own-clause-err
returns-then-may_own-clause-err g c = IfErr-weaker c.report_place.result _ _ (λ fault cut p depth shows.
    cut p (In_register c.args.frames c.args.register) (Register depth c.args.register) c.register.ensures.text
    (shown _ c.may_own.result (record { image = p; parts = c.args.parts.now }) _ c.register-then-may_own.result
    (Register depth c.args.register) c.may_own.ensures c.if-may_own.true c.register-then-may_own.ensures shows)) c.report_place.ensures.err

pub returns-else-may_own-clause-ok : goal.returns-else-may_own-clause-ok
returns-else-may_own-clause-ok g c = λ p depth shows.
    grown_unreported p c.args.parts.now c.args.names.now (In_register c.args.frames c.args.register) (Register depth c.args.register) _
    (unshown _ c.may_own.result (record { image = p; parts = c.args.parts.now }) _ (Register depth c.args.register) c.may_own.ensures c.if-may_own.false shows)
