-- The line is that of the run into which the fault is injected.
use Rattle.std.proofs.Common.{◌∙◌, List, ℕ, ap}
use Rattle.aom_commands.specs.Explored.{run_line}
use Rattle.aom_commands.proofs.exploring.try_one.Goals as goal

pub returns-clause-ok : goal.returns-clause-ok
returns-clause-ok g c =
    let ends = c.in_ok-last.ensures.ok in
    let words = c.as_bytes.ensures ∙ c.text-words.ensures.text in (
      c.as_slice.result.now,
      record {
        text = ends.0;
        ends = ends.1;
        is = c.as_slice.ensures.value ∙ c.in_ok-line.ensures ∙ ap (λ (w : List ℕ). run_line c.args.expected.now w c.in_ok-last.last) words;
      },
      record { count = c.write_text.ensures.prefix.0; part = c.write_text.ensures.prefix.2; whole = c.write_text.ensures.whole },
    )
