-- The names and the lines that are lent are those of the text.
use Rattle.std.proofs.Common.{◌≡◌, ◌∙◌, ap, subst}
use Rattle.aom_diagnostics.specs.Declarations.{class_names, method_names}
use Rattle.aom_diagnostics.specs.Lines.{class_lines, image_line, method_lines}
use Rattle.aom_commands.specs.Prices.{PricesAnswersBy}
use Rattle.aom_commands.specs.Unreported.{Unreported}
use Rattle.aom_transcript.specs.Naming.{borrowed}
use Rattle.aom_diagnostic_commands.specs.Naming.{placed_names, text_places}
use Rattle.aom_diagnostic_commands.proofs.Placing.{same_names, same_places}
use Rattle.aom_diagnostic_commands.proofs.naming.try_prices_by_lines.Goals as goal

pub returns : goal.returns
returns g c =
    let class_rows : c.deref.result.now ≡ class_lines c.args.text.now =
    c.deref.ensures.value ∙ c.in_ok-class_lines.ensures ∙ ap class_lines c.bytes-3.ensures.value in
    let method_rows : c.deref-2.result.now ≡ method_lines c.args.text.now =
    c.deref-2.ensures.value ∙ c.in_ok-method_lines.ensures ∙ ap method_lines c.bytes-4.ensures.value in
    let image : c.image_line.result ≡ image_line c.args.text.now = c.image_line.ensures ∙ ap image_line c.bytes-5.ensures.value in
    let places : c.new-places.result ≡ text_places c.args.file.now c.args.text.now =
    c.new-places.ensures ∙ same_places c.args.file.now image class_rows method_rows in
    let classes : borrowed c.deref-3.result.now ≡ class_names c.args.text.now =
    ap borrowed c.deref-3.ensures.value ∙ c.in_ok-classes.ensures ∙ ap class_names c.bytes.ensures.value in
    let methods : borrowed c.deref-4.result.now ≡ method_names c.args.text.now =
    ap borrowed c.deref-4.ensures.value ∙ c.in_ok-methods.ensures ∙ ap method_names c.bytes-2.ensures.value in
    let same : c.placed-names.result ≡ placed_names c.args.file.now c.args.text.now = c.placed-names.ensures ∙ same_names classes methods places in
    subst (λ names. Unreported (PricesAnswersBy names c.args.image.now (record {
      before = g.W.Sink.out c.args.out.now;
      now = g.W.Sink.out c.try_check.new.out;
      failed = g.W.Sink.failed c.try_check.new.out;
    })) c.try_check.result) same c.try_check.ensures
