-- Each text begins with a place, so the whole does.
use Rattle.std.proofs.Common.{◌≡◌, ◌≢◌, ◌∙◌, ◌++◌, [], ap, arith, inr, subst, sym}
use Rattle.std.proofs.lemmas.List.{nil_from_length}
use Rattle.std.proofs.lemmas.List.Elements.{All-get_or}
use Rattle.aom_source.specs.Refusals.{IsToldIn}
use Rattle.aom_source_commands.specs.Telling.{TellsPlace}
use Rattle.aom_source_commands.proofs.Begins.{told_next, told_something, wants_memory}
use Rattle.aom_source_commands.proofs.telling.tell_refusals.Goals as goal
use Rattle.aom_source_commands.proofs.telling.tell_refusals.Goals.{then-is_empty+in_ok-extend_from_slice-2, else-is_empty}

pub loop-refusal-preserved : goal.loop-refusal-preserved
loop-refusal-preserved c all =
    let told = c.loop-refusal.told.items in
    let text = c.in_ok-text.text.items in
    let tells = c.in_ok-text.ensures (All-get_or (IsToldIn c.args.source.now) c.args.refusals.now c.loop-refusal.refusal-index _ c.loop-refusal-test.true all) in
    let is = c.in_ok-extend_from_slice.ensures.items ∙ ap (λ t. told ++ t) c.deref.ensures.value in
    inr (told_next c.args.name.now c.args.source.now told text _ is (c.loop-refusal.invariant all) tells)

pub returns : goal.returns
returns c all = elim c.if-is_empty.branch [
  | then-is_empty+in_ok-extend_from_slice-2 w ↦
      let none : c.loop-refusal.told.items ≡ [] = nil_from_length _ (grind (arith, w.if-is_empty.true, c.is_empty.ensures)) in
      subst (TellsPlace c.args.name.now c.args.source.now) (ap (λ t. t.items) (sym w.told-is))
      (wants_memory c.args.name.now c.args.source.now c.loop-refusal.told.items _ none w.in_ok-extend_from_slice-2.ensures.items)
  | else-is_empty w ↦
      let some : c.loop-refusal.told.items ≢ [] = λ none. grind (arith, none, w.if-is_empty.false, c.is_empty.ensures) in
      subst (TellsPlace c.args.name.now c.args.source.now) (ap (λ t. t.items) (sym w.told-is))
      (told_something c.args.name.now c.args.source.now c.loop-refusal.told.items some (c.loop-refusal.invariant all))
]
