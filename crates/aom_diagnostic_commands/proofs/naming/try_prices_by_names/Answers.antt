-- The names that are lent are those of the text.
use Rattle.std.proofs.Common.{◌≡◌, ◌∙◌, ℕ, List, None, ap, ap₂, subst}
use Rattle.aom_diagnostics.specs.Declarations.{class_names, method_names}
use Rattle.aom_cost_report.specs.Names.{Names}
use Rattle.aom_commands.specs.Prices.{PricesAnswersBy}
use Rattle.aom_commands.specs.Unreported.{Unreported}
use Rattle.aom_transcript.specs.Naming.{borrowed}
use Rattle.aom_diagnostic_commands.specs.Naming.{text_names}
use Rattle.aom_diagnostic_commands.proofs.naming.try_prices_by_names.Goals as goal

made : List (List ℕ) → List (List ℕ) → Names
made classes methods = record { classes = classes; methods = methods; places = None }

pub returns : goal.returns
unfolding made
returns g c =
    let classes : borrowed c.deref.result.now ≡ class_names c.args.text.now = ap borrowed c.deref.ensures.value ∙ c.in_ok-classes.ensures
    ∙ ap class_names c.bytes.ensures.value in
    let methods : borrowed c.deref-2.result.now ≡ method_names c.args.text.now = ap borrowed c.deref-2.ensures.value ∙ c.in_ok-methods.ensures
    ∙ ap method_names c.bytes-2.ensures.value in
    let same : c.new.result ≡ text_names c.args.text.now = c.new.ensures ∙ ap₂ made classes methods in
    subst (λ names. Unreported (PricesAnswersBy names c.args.image.now (record {
      before = g.W.Sink.out c.args.out.now;
      now = g.W.Sink.out c.try_check.new.out;
      failed = g.W.Sink.failed c.try_check.new.out;
    })) c.try_check.result) same c.try_check.ensures
