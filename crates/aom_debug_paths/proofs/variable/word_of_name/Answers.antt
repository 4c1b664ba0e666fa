-- Of the object that lives there, which is of that class in each state.
use Rattle.std.proofs.Common.{◌∙◌, ap, sym}
use Rattle.aom_semantics.specs.Places.{named}
use Rattle.aom_debug_views.specs.CellViews.{class_of}
use Rattle.aom_debug_paths.specs.Variables.{word_by_class}
use Rattle.aom_debug_paths.proofs.DebugViewsLemmas.{class_named}
use Rattle.aom_debug_paths.proofs.variable.word_of_name.Goals as goal

pub returns-in-Some : goal.returns-in-Some
returns-in-Some c = λ p s st.
    let l = c.args.linked.now in
    let i = c.args.word in
    let cell = c.in-Some.cell in
    c.word_in.ensures p s st ∙ ap (λ o. word_by_class l s.cells cell o i) (sym c.class.ensures ∙ class_named p c.args.parts.now s st cell)
    ∙ ap (λ n. word_by_class l s.cells n (class_of (named s.cells n)) i) c.in-Some.ensures.value
