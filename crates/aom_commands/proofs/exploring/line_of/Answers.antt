-- What the page has is the line's end, with its line feed.
use Rattle.std.proofs.Common.{◌++◌, ◌∙◌, ◌-◌, List, ℕ, ap, ap₂, codes, length, take}
use Rattle.std.proofs.lemmas.Result.{IfOk-weaker}
use Rattle.aom_transcript.specs.Text.{end_text, ended}
use Rattle.aom_commands.proofs.Tries.{has_feed, without_feed}
use Rattle.aom_commands.proofs.exploring.line_of.Goals as goal

pub without_feed-end-requires : goal.without_feed-end-requires
without_feed-end-requires c =
    let text = end_text c.args.last.ending c.args.last.cells in
    has_feed _ text (c.as_bytes.ensures ∙ c.add_end.ensures ∙ ap (λ (t : List ℕ). t ++ ended text) c.new-page.ensures)

pub returns : goal.returns
returns c =
    let text = end_text c.args.last.ending c.args.last.cells in
    let page = c.as_bytes.ensures ∙ c.add_end.ensures ∙ ap (λ (t : List ℕ). t ++ ended text) c.new-page.ensures in
    let end = c.without_feed-end.ensures ∙ ap (λ (t : List ℕ). take (length t - 1) t) page ∙ without_feed text in
    IfOk-weaker c.join_line.result _ _ (λ line is. is ∙ ap₂ (λ (e m : List ℕ). ended (c.args.words.now ++ codes " " ++ e ++ m)) end c.mark_of-mark.ensures)
    c.join_line.ensures
