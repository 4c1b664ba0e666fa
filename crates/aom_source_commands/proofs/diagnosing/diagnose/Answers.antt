-- Each refusal is told of the source, and where there is none the source is translated.
use Rattle.std.proofs.Common.{◌∙◌, All, ap, map, rules, subst}
use Rattle.std.proofs.lemmas.Result.{IfOk-weaker}
use Rattle.aom_source.specs.Refusals.{IsToldIn, place_of}
use Rattle.aom_source_commands.proofs.Placed.{placed, some_diagnoses}
use Rattle.aom_source_commands.proofs.diagnosing.diagnose.Goals as goal

-- src/diagnosing.rt
pub returns : goal.returns
returns c =
    let told = subst (λ s. All (IsToldIn s) c.in-Err-translate.refusals.items) c.in-Ok.ensures.source c.in-Err-translate.ensures.places in
    record {
      places = IfOk-weaker c.diagnoses_of-in-Err-translate.result _ _ (λ faults made. placed c.args.source.now faults.items c.in-Err-translate.refusals.items
          (made.1 ∙ ap (map place_of) c.deref.ensures.value) told) c.diagnoses_of-in-Err-translate.ensures;
      none = IfOk-weaker c.diagnoses_of-in-Err-translate.result _ _ (λ faults made none. absurd (some_diagnoses faults.items c.deref.result.now made.1 made.0 none))
          c.diagnoses_of-in-Err-translate.ensures;
    }

pub returns-in-Ok-translate : goal.returns-in-Ok-translate
returns-in-Ok-translate c =
    let made = c.in-Ok-translate.ensures in
    record {
      places = search rules;
      none = λ _. (
        c.in-Ok-translate.translation.written.text.items,
        record {
          tokens = c.in-Ok.tokens;
          of_source = search rules;
          read = search rules;
          written = c.in-Ok-translate.translation.written;
          image = c.in-Ok-translate.translation.image;
          denotes = made.image;
          lines = made.lines;
          names = made.names;
          classes = made.classes;
          methods = made.methods;
          members = made.members;
          is = search rules;
        },
      );
    }
