use Rattle.std.proofs.Common.{◌≡◌, ◌∙◌, sym, ap}
use denote.Enum.Bare.{same_true, true_same}
use Rattle.aom_source_tokens.specs.contracts.keyword.Keyword.{the_type}
use Rattle.aom_source_tokens.specs.declared.keyword.Keyword.{Keyword}
use Rattle.aom_source_syntax.specs.declared.symbol.Class.TheVariants as c
use Rattle.aom_source_syntax.proofs.symbol.Class.is.Goals as goal

pub returns-in-Keyword-Keyword : goal.returns-in-Keyword-Keyword
returns-in-Keyword-Keyword g =
    let a = g.in-Keyword-Keyword in
    let same : g.args.self ≡ g.args.other → a.keyword ≡ a.other = λ e. cc (e, a.is-0, a.is-1) in (
      λ t. a.is-0 ∙ ap (λ (x : Keyword). c.Keyword x) (same_true the_type tt a.keyword a.other (sym g.eq.ensures ∙ t)) ∙ sym a.is-1,
      λ e. g.eq.ensures ∙ true_same the_type a.keyword a.other (same e),
    )
