-- A next, a loop or a plain instruction.
use Rattle.std.proofs.Common.{◌≡◌, ◌≢◌, ◌<◌, ◌-◌, ℕ, List, length, None, ap, ◌∙◌, subst, sym, arith}
use Rattle.aom_link_conditions.specs.Bodies.{Body}
use Rattle.aom_budget.proofs.LinkConditionsLemmas.{linked_is_looped}
use Rattle.aom_roles.specs.Tables.{at}
use Rattle.aom_budget.proofs.AbstractStateLemmas.{at_within}
use Rattle.aom_budget.proofs.StaticBoundsLemmas.{stands_so}
use Rattle.aom_budget.proofs.Visiting.{instr_there, next_closes, no_loop, no_next, visit_plain, visit_loop, visit_next}
use Rattle.aom_budget.proofs.pass.Pass.visit.Goals as goal

pub instr-instr-requires : goal.instr-instr-requires
instr-instr-requires c = instr_there _ _ _ _ c.requires.passing.places c.requires.place

pub overflow_sub-round : goal.overflow_sub-round
overflow_sub-round c =
    let closes = next_closes _ _ c.image.ensures c.methods-formed.ensures.well_formed c.facts.ensures.linked _ _ _ _ _ c.instr-instr.ensures (sym c.transfer.ensures ∙ c.in-Repeat.is) in
    omega (arith, closes.3, c.number.ensures.value)

pub follows-follows-requires-clause-order : goal.follows-follows-requires-clause-order
follows-follows-requires-clause-order c =
    let closes = next_closes _ _ c.image.ensures c.methods-formed.ensures.well_formed c.facts.ensures.linked _ _ _ _ _ c.instr-instr.ensures (sym c.transfer.ensures ∙ c.in-Repeat.is) in
    omega (arith, closes.3, c.number.ensures.value, closes.2.later)

pub close-requires-clause-room : goal.close-requires-clause-room
close-requires-clause-room c =
    let closes = next_closes _ _ c.image.ensures c.methods-formed.ensures.well_formed c.facts.ensures.linked _ _ _ _ _ c.instr-instr.ensures (sym c.transfer.ensures ∙ c.in-Repeat.is) in
    omega (arith, closes.3, c.number.ensures.value, closes.2.later, c.requires.place, c.requires.passing.after_size)

pub returns-in-Repeat-clause-passing : goal.returns-in-Repeat-clause-passing
returns-in-Repeat-clause-passing c =
    let looped = linked_is_looped c.args.linked.now (rw c.image.ensures at c.methods-formed.ensures.well_formed) c.facts.ensures.linked in
    let closes = next_closes _ _ c.image.ensures c.methods-formed.ensures.well_formed c.facts.ensures.linked _ _ _ _ _ c.instr-instr.ensures (sym c.transfer.ensures ∙ c.in-Repeat.is) in
    let first : closes.0 ≡ c.number.result - 1 = omega (arith, closes.3, c.number.ensures.value) in
    let body = subst (λ f. Body c.args.linked.now c.args.method f c.args.place c.in-Repeat.field-0 closes.1) first closes.2 in
    let within : c.number.result - 1 < length c.args.self.now.from = omega (arith, body.later, c.requires.place) in
    let others = λ (y : ℕ) (e : y ≢ c.args.place). c.note.ensures.others y e ∙ ap (λ l. at 0 l y) c.close.ensures.from in
    let size = c.note.ensures.size ∙ ap (λ (l : List ℕ). length l) c.close.ensures.from in
    let set = c.note.ensures.after ∙ c.close.ensures.after in
    rw (c.note.ensures.innermost, c.close.ensures.innermost, c.note.ensures.around, c.close.ensures.around)
    (visit_next _ _ _ _ looped c.facts.ensures.linked c.requires.strongest _ _ _ _ _ c.requires.passing
    c.low.ensures c.low-2.ensures _ _ others size _ _ _ _ body within c.follows-follows.ensures.is c.follows-follows.ensures.low set
    (λ sh there. c.note.ensures.here sh there ∙ c.kept.ensures))

pub returns-in-Begin-clause-passing : goal.returns-in-Begin-clause-passing
returns-in-Begin-clause-passing c =
    let looped = linked_is_looped c.args.linked.now (rw c.image.ensures at c.methods-formed.ensures.well_formed) c.facts.ensures.linked in
    let stands = stands_so _ _ _ c.instr-instr.ensures (sym c.transfer.ensures ∙ c.in-Begin.is) in
    let room : c.args.place < length c.args.self.now.around.items = omega (arith, c.requires.place, c.requires.passing.around_size) in
    let outer : c.index.result.now ≡ at None c.args.self.now.around.items c.args.place =
    c.index.ensures ∙ at_within None c.index.result.now c.args.self.now.around.items c.args.place room in
    rw (c.note-in-Begin.ensures.innermost, outer, c.note-in-Begin.ensures.around)
    (visit_loop _ _ _ _ looped c.facts.ensures.linked c.requires.strongest _ _ _ _ _ c.requires.passing
    c.low.ensures c.low-2.ensures _ _ c.note-in-Begin.ensures.others c.note-in-Begin.ensures.size _ _ stands c.note-in-Begin.ensures.after
    (λ sh there. c.note-in-Begin.ensures.here sh there ∙ c.all_rounds-cost.ensures.is))

pub returns-in_default : goal.returns-in_default
returns-in_default c =
    let looped = linked_is_looped c.args.linked.now (rw c.image.ensures at c.methods-formed.ensures.well_formed) c.facts.ensures.linked in
    record {
      passing = rw (c.note-in_default.ensures.innermost, c.note-in_default.ensures.around)
          (visit_plain _ _ _ _ looped c.facts.ensures.linked c.requires.strongest _ _ _ _ _ c.requires.passing
          c.low.ensures c.low-2.ensures _ _ c.note-in_default.ensures.others c.note-in_default.ensures.size _ c.instr-instr.ensures
          (no_loop _ (λ d n is. c.in_default.not-Begin d n (c.transfer.ensures ∙ is)))
          (no_next _ (λ d to is. c.in_default.not-Repeat d to (c.transfer.ensures ∙ is))) c.note-in_default.ensures.after
          (λ sh there. c.note-in_default.ensures.here sh there ∙ c.plain-cost.ensures.is sh there));
      size = c.note-in_default.ensures.size;
    }

pub close-requires-clause-around : goal.close-requires-clause-around
close-requires-clause-around c =
    let closes = next_closes _ _ c.image.ensures c.methods-formed.ensures.well_formed c.facts.ensures.linked _ _ _ _ _ c.instr-instr.ensures (sym c.transfer.ensures ∙ c.in-Repeat.is) in
    omega (arith, closes.3, c.number.ensures.value, closes.2.later, c.requires.place, c.requires.passing.around_size)
