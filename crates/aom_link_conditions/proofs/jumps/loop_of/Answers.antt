-- What the place before the next tells, and what it does not.
use Rattle.std.proofs.Common.{◌≡◌, ◌∙◌, ℕ, suc, Some, sym, ap, subst, arith}
use Rattle.std.proofs.lemmas.Bool.{both_ways}
use Rattle.std.proofs.lemmas.Option.{none-some, same_Some}
use Rattle.aom_link_conditions.specs.Jumps.{Body}
use Rattle.aom_link_conditions.proofs.LoopPlaces.{body_here, body_begins, body_back}
use Rattle.aom_link_conditions.proofs.jumps.loop_of.Goals as goal
use Rattle.aom_link_conditions.proofs.jumps.loop_of.Goals.{else-start-end-via-then-start-end+else-begins_loop, else-start-end-via-else-start-end}

pub returns-in_err-back-clause-some : goal.returns-in_err-back-clause-some
returns-in_err-back-clause-some c = rw c.from_residual.ensures tt

pub returns-in_err-back-clause-none : goal.returns-in_err-back-clause-none
returns-in_err-back-clause-none c = λ _ p b. none-some _ (c.in_err-back.ensures ∙ body_back _ _ _ _ c.requires c.index-code-end.is b)

pub returns-in_err-back-clause-only : goal.returns-in_err-back-clause-only
returns-in_err-back-clause-only c = rw c.from_residual.ensures tt

pub returns-in_err-start-clause-some : goal.returns-in_err-start-clause-some
returns-in_err-start-clause-some c = rw c.from_residual-in_err-start.ensures tt

pub returns-in_err-start-clause-none : goal.returns-in_err-start-clause-none
returns-in_err-start-clause-none c = λ _ p b.
    let back : c.in_ok-back.back ≡ suc p = same_Some _ _ (c.in_ok-back.ensures ∙ body_back _ _ _ _ c.requires c.index-code-end.is b) in
    c.in_err-start.ensures (omega arith)

pub returns-in_err-start-clause-only : goal.returns-in_err-start-clause-only
returns-in_err-start-clause-only c = rw c.from_residual-in_err-start.ensures tt

pub returns-then-begins_loop-clause-some : goal.returns-then-begins_loop-clause-some
returns-then-begins_loop-clause-some c =
    let back : c.in_ok-back.back ≡ suc c.in_ok-start.start = omega (arith, c.in_ok-start.ensures) in
    body_here _ _ _ _ _ c.requires c.index-code-end.is
    (omega arith) c.index-code-start.is c.if-start-end.true (sym c.begins_loop.ensures ∙ c.if-begins_loop.true) (sym c.in_ok-back.ensures ∙ ap Some back)

pub returns-then-begins_loop-clause-none : goal.returns-then-begins_loop-clause-none
returns-then-begins_loop-clause-none c = λ none. absurd (none-some _ (sym none))

pub returns-then-begins_loop-clause-only : goal.returns-then-begins_loop-clause-only
returns-then-begins_loop-clause-only c = λ r b.
    let back : c.in_ok-back.back ≡ suc r = same_Some _ _ (c.in_ok-back.ensures ∙ body_back _ _ _ _ c.requires c.index-code-end.is b) in
    omega (arith, c.in_ok-start.ensures)

pub returns-else-start-end-clause-none : goal.returns-else-start-end-clause-none
returns-else-start-end-clause-none c = λ _ p b.
    let back : c.in_ok-back.back ≡ suc p = same_Some _ _ (c.in_ok-back.ensures ∙ body_back _ _ _ _ c.requires c.index-code-end.is b) in
    let start : c.in_ok-start.start ≡ p = omega (arith, c.in_ok-start.ensures) in
    elim c.else-start-end.branch [
      | else-start-end-via-then-start-end+else-begins_loop w ↦
          let begins = body_begins _ _ _ _ (omega arith) w.index-code-start.is (subst (λ (x : ℕ). Body c.args.code.now x c.args.end) (sym start) b) in
          absurd (both_ways _ w.if-begins_loop.false (w.begins_loop.ensures ∙ begins))
      | else-start-end-via-else-start-end w ↦ absurd (omega (arith, b.later))
    ]
