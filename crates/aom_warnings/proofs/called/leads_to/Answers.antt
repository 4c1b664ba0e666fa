use Rattle.std.proofs.Common.{◌≡◌, ◌-◌, ◌∙◌, Some, ap, length, suc, sym, arith}
use Rattle.std.proofs.lemmas.Bool.{eq-eqb, ne_eqb}
use Rattle.aom_link_conditions.specs.Overriding.{leads_in}
use Rattle.aom_warnings.proofs.Leading.{here_leads, last_leads, next_leads, none_leads}
use Rattle.aom_warnings.proofs.called.leads_to.Goals as goal

pub loop-here-init : goal.loop-here-init
loop-here-init c = ap (λ n. leads_in c.args.image.now n c.args.over c.args.method) (sym (c.len-left.ensures ∙ ap (λ ms. length ms) c.methods.ensures.value))

pub returns-then-number : goal.returns-then-number
returns-then-number c =
    let same = eq-eqb c.in-Some.other c.args.method (sym c.number.ensures.value ∙ c.if-number.true ∙ c.number-in-Some.ensures.value) in
    sym (c.loop-here.invariant ∙ ap (λ o. leads_in c.args.image.now c.loop-here.left o c.args.method) c.in-Some.is ∙ here_leads _ _ _ c.args.method same)

pub returns-then-left-eq0 : goal.returns-then-left-eq0
returns-then-left-eq0 c =
    let other = ne_eqb c.in-Some.other c.args.method (λ same. c.if-number.false (c.number.ensures.value ∙ same ∙ sym c.number-in-Some.ensures.value)) in
    sym (
    c.loop-here.invariant ∙ ap (λ o. leads_in c.args.image.now c.loop-here.left o c.args.method) c.in-Some.is
    ∙ ap (λ n. leads_in c.args.image.now n (Some c.in-Some.other) c.args.method) c.if-left-eq0.true ∙ last_leads _ c.in-Some.other c.args.method other
    )

pub loop-here-preserved : goal.loop-here-preserved
loop-here-preserved c =
    let other = ne_eqb c.in-Some.other c.args.method (λ same. c.if-number.false (c.number.ensures.value ∙ same ∙ sym c.number-in-Some.ensures.value)) in
    let more : c.loop-here.left ≡ suc (c.loop-here.left - 1) = omega (arith, c.if-left-eq0.false) in
    c.loop-here.invariant ∙ ap (λ o. leads_in c.args.image.now c.loop-here.left o c.args.method) c.in-Some.is
    ∙ ap (λ n. leads_in c.args.image.now n (Some c.in-Some.other) c.args.method) more ∙ next_leads c.args.image.now (c.loop-here.left - 1) c.in-Some.other
    c.args.method other ∙ ap (λ o. leads_in c.args.image.now (c.loop-here.left - 1) o c.args.method) (sym c.overridden_method-here.ensures)

pub returns : goal.returns
returns c = sym (c.loop-here.invariant ∙ ap (λ o. leads_in c.args.image.now c.loop-here.left o c.args.method) c.in_default.is ∙ none_leads _ _ c.args.method)
