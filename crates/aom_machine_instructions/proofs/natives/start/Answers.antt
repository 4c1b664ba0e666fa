use Rattle.std.proofs.Common.{rules, FitsSigned, ap, subst, sym, ◌∙◌}
use Rattle.std.specs.Int.{w32}
use Rattle.std.proofs.lemmas.Int.{to_z-of_z}
use Rattle.aom_active_objects.specs.Meanings.{Makes, begun_with}
use Rattle.aom_machine_instructions.specs.Natives.{begins_with}
use Rattle.aom_machine_instructions.proofs.natives.start.Goals as goal

pub returns-in-Some-clause-made : goal.returns-in-Some-clause-made
returns-in-Some-clause-made c =
    let fits : FitsSigned w32 c.in-Some.code = search rules in
    let made = rw (to_z-of_z w32 c.in-Some.code fits) at c.issue_own.ensures in
    subst (λ v. Makes c.args.parts.now.active c.issue_own.new.self c.args.id (begun_with v)) (sym (ap begins_with c.in-Some.is) ∙ c.declined.ensures) made
