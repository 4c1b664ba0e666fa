use Rattle.std.proofs.Common.{◌≡◌, ◌⊎◌, inl, inr, length, sym, ◌∙◌, arith}
use Rattle.aom_abstract_state.proofs.Emptying.{too_few, none_left}
use Rattle.aom_abstract_state.proofs.known.all_empty.Goals as goal

pub returns-then-field_states-declared : goal.returns-then-field_states-declared
returns-then-field_states-declared c = sym (too_few c.args.declared.now c.args.field_states.now c.if-field_states-declared.true)

pub returns : goal.returns
returns c =
    let a = c.loop-field_state.field_state-iterator.a.rest.now in
    let b = c.loop-field_state.field_state-iterator.b.rest.now in
    let ended : (length a ≡ 0) ⊎ (length b ≡ 0) = elim c.in-None.ensures.steps [ inl w ↦ inl w.1.0 | inr w ↦ inr w.1.0 ] in
    sym (c.loop-field_state.invariant.same ∙ none_left a b (omega (arith, ended, c.loop-field_state.invariant.fits)))
