-- Each change so far has a text, and the last one's is kept.
use Rattle.std.proofs.Common.{◌≡◌, ◌≤◌, ◌-◌, None, get_or, length, map, option_map, take, true}
use Rattle.std.specs.List.{list_all}
use Rattle.std.specs.Option.{is_some}
use Rattle.aom_language_answers.proofs.WholeTexts.{text_in}
use Rattle.aom_language_answers.proofs.changes.last_text.Given as goal

abbrev pub invariant-loop-change : goal.invariant-loop-change
invariant-loop-change l = record {
  within : l.change-index ≤ length l.changes;
  all : list_all is_some (map text_in (take l.change-index l.changes)) ≡ true;
  last : option_map (λ text. text.now) l.text ≡ get_or (map text_in (take l.change-index l.changes)) (l.change-index - 1) None;
}
