use Rattle.std.proofs.Common.{Option, Some, refl, subst, sym, ℕ, ◌∙◌, ◌≡◌}
use Rattle.std.specs.Int.{w32}
use Rattle.std.proofs.lemmas.Int.{to_z-of_z}
use Rattle.aom_machine_state.specs.Tokens as meant
use Rattle.aom_machine_state.specs.Tokens.{ClosesSession}
use Rattle.aom_cells.specs.Tokens.{redeemed}
use Rattle.aom_machine_instructions.proofs.messages.redeem.Goals as goal

pub returns-in-Some : goal.returns-in-Some
returns-in-Some c =
    let old = c.args.parts.now in
    let found : redeemed old.tokens c.args.token ≡ Some c.in-Some.object = sym c.redeem.ensures.object ∙ c.in-Some.is in
    let completes = rw (to_z-of_z w32 c.args.code c.ranges.code) at c.complete.ensures in
    record {
      freed = c.redeem.ensures.freed;
      lets = subst (λ (o : Option ℕ). ClosesSession o old.tokens c.redeem.new.self) (sym found) c.in-Some.ensures.living;
      answers = subst (λ (o : Option ℕ). meant.Redeems o c.args.code old.active c.complete.new.self) (sym found) completes;
      released = c.release.ensures.gone;
      count = c.release.ensures.count;
      rest = refl;
    }
