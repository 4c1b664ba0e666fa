-- The three needs are those of the definition.
use Rattle.std.proofs.Common.{◌≡◌, Bool, [], ◌∷◌, add-one}
use Rattle.std.specs.Prelude.{Result}
use Rattle.aom_abstract_state.specs.Needs.{tested}
use Rattle.aom_abstract_state.specs.declared.why.Reason.{Reason}
use Rattle.aom_abstract_state.specs.declared.why.Reason.TheVariants.{EntryState, RegisterKind}
use Rattle.aom_rule_context.proofs.calls.judge_trapped.Goals as goal

same_needs : (b w u begins waits free : Bool) (r : Result (Unit {0}) Reason) → b ≡ begins → w ≡ waits → u ≡ free → r ≡ tested
    ((b, EntryState) ∷ (w, RegisterKind) ∷ (u, RegisterKind) ∷ []) → r ≡ tested ((begins, EntryState) ∷ (waits, RegisterKind) ∷ (free, RegisterKind) ∷ [])
same_needs b w u begins waits free r e f g h = rw (← e, ← f, ← g) h

pub returns : goal.returns
returns c =
    let begins = rw c.states.ensures at c.may_begin-begins.ensures in
    let waits = rw (c.gives-gives.ensures, c.register.ensures) at c.awaits.ensures in
    let free = rw (c.kind_at-code.ensures, c.number.ensures.value, add-one) at c.is_unowning.ensures in
    same_needs _ _ _ _ _ _ _ begins waits free c.judge_all.ensures
