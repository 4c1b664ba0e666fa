use Rattle.std.proofs.Common.{◌≡◌, Some, None, sym, ap, ◌∙◌, rules, map, length}
use Rattle.std.specs.Prelude.{option_map, position}
use Rattle.std.proofs.lemmas.List.Quantifiers.{position-Some}
use Rattle.aom_natives.specs.Delays.{ids_in, is_due, completed, lowered}
use Rattle.aom_natives.proofs.Delays.{found-at, ids-out, find-none, ids_lowered, refilled}
use Rattle.aom_natives.proofs.Ids.{takes-out}
use Rattle.aom_natives.proofs.delay.DelayNative.poll.Goals as goal

pub returns-in-Some-clause-answer : goal.returns-in-Some-clause-answer
returns-in-Some-clause-answer c =
    let found : position is_due c.self.inside.entries.items ≡ Some c.in-Some.at = sym (ap (position is_due) c.as_slice.ensures.value)
    ∙ sym c.first_due.ensures ∙ c.in-Some.is in
    rw (← c.self.view_is, ← found-at is_due _ _ _ found c.remove.ensures.value) (ap Some c.completed.ensures)

pub returns-in-Some-clause-owed : goal.returns-in-Some-clause-owed
returns-in-Some-clause-owed c =
    let found : position is_due c.self.inside.entries.items ≡ Some c.in-Some.at = sym (ap (position is_due) c.as_slice.ensures.value)
    ∙ sym c.first_due.ensures ∙ c.in-Some.is in
    rw (← c.self.view_is, c.remove.ensures.items, c.completed.ensures)
    (ids-out _ _ _ (takes-out _ _ _ (position-Some is_due _ _ c.remove.result found).0 (sym c.remove.ensures.value)))

pub returns-in-None-clause-answer : goal.returns-in-None-clause-answer
returns-in-None-clause-answer c =
    let none : position is_due c.args.self.now ≡ None = sym (ap (position is_due) (c.as_slice.ensures.value ∙ c.self.view_is))
    ∙ sym c.first_due.ensures ∙ c.in-None.is in
    ap (option_map completed) (sym (find-none is_due c.args.self.now none))

pub returns-in-None-clause-owed : goal.returns-in-None-clause-owed
returns-in-None-clause-owed c =
    let same : length c.decrement_all.new.entries ≡ length c.self.inside.entries.items = search rules in
    let all = refilled _ _ same ∙ c.decrement_all.ensures ∙ ap (map lowered) (c.as_mut_slice.ensures.value ∙ c.self.view_is) in
    ap ids_in all ∙ ids_lowered c.args.self.now
