-- The names that are lent are those of the text.
use Rattle.std.proofs.Common.{◌≡◌, ◌∙◌, ap, length, subst}
use Rattle.aom_diagnostics.specs.Declarations.{class_names}
use Rattle.aom_transcript.specs.Naming.{class_word, borrowed, named_text}
use Rattle.aom_commands.specs.Headline.{RunAnswersBy}
use Rattle.aom_commands.specs.Unreported.{Unreported}
use Rattle.aom_diagnostic_commands.proofs.naming.try_run_by_names.Goals as goal

pub returns : goal.returns
returns g c =
    let same : borrowed c.deref.result.now ≡ class_names c.args.text.now = ap borrowed c.deref.ensures.value ∙ c.in_ok-names.ensures
    ∙ ap class_names c.bytes.ensures.value in
    subst (λ names. Unreported (RunAnswersBy (named_text (class_word names)) c.args.image.now c.args.script.now c.args.limit (length c.args.boxes.items) (record {
      before = g.W.Sink.out c.args.out.now;
      now = g.W.Sink.out c.try_run.new.out;
      failed = g.W.Sink.failed c.try_run.new.out;
    })) c.try_run.result) same c.try_run.ensures
