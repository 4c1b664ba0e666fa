-- The run is that of the script as it is, and what is kept of it is its transcript.
use Rattle.std.proofs.Common.{◌∙◌, [], List, ℕ, Bool, ap}
use Rattle.aom_transcript.specs.Sinks.{after}
use Rattle.aom_fault_injection.specs.Planned.{times_in}
use Rattle.aom_commands.specs.Explored.{kept_text}
use Rattle.aom_commands.proofs.Tries.{kept_so}
use Rattle.aom_commands.proofs.exploring.plain_of.Goals as goal

pub returns-clause-ok : goal.returns-clause-ok
returns-clause-ok c =
    let last = c.in_ok-last.ensures.ok in
    let text = last.0 in
    let kept = c.last_of.new.kept in
    record {
      text = text;
      is = last.1;
      marked = λ marks. c.in_ok-times.ensures.times ∙ ap times_in (c.as_slice.ensures.value
          ∙ kept_so kept.keeps kept.text.items text (last.2 ∙ ap (λ (xs : List ℕ). after (kept_text c.new-kept.result.keeps xs) text) c.new-kept.ensures.empty
          ∙ ap (λ (b : Bool). after (kept_text b []) text) (c.new-kept.ensures.keeps ∙ marks)));
    }
