-- Where a reached place goes out, or nowhere where it is not reached.
use Rattle.std.proofs.Common.{◌≡◌, refl, sym, ◌∙◌}
use Rattle.aom_budget.specs.Pricing.{most_past, targets_of}
use Rattle.aom_budget.proofs.Exits.{exits}
use Rattle.aom_budget.proofs.pass.Pass.exit_at.Goals as goal

pub instr-instr-requires : goal.instr-instr-requires
instr-instr-requires c = rw (c.requires.strongest.typed.each c.args.place c.in-Some.shape (sym c.view.ensures ∙ c.in-Some.is)).stands refl

pub returns-in-Some-clause-is : goal.returns-in-Some-clause-is
returns-in-Some-clause-is c =
    let places = targets_of c.args.linked.now c.args.place c.in-Some.shape c.instr-instr.result in
    let is : c.most_past.result ≡ most_past c.args.self.now.from c.args.round.last places =
    rw (c.of_instr.ensures c.args.linked.now) at c.most_past.ensures.is in
    exits _ _ _ _ _ _ _ _ _ _ c.requires.inside (sym c.view.ensures ∙ c.in-Some.is) c.instr-instr.ensures is c.most_past.ensures.low
