use Rattle.std.proofs.Common.{ap, rules, sym, ◌∙◌}
use Rattle.std.specs.Prelude.{is_some}
use Rattle.aom_image.specs.declared.method.Role.TheVariants.{Destruct}
use Rattle.aom_machine_instructions.proofs.InheritanceLemmas.{families_inherit}
use Rattle.aom_machine_instructions.proofs.going.destruct.Goals as goal

pub destructor_frame-requires : goal.destructor_frame-requires
destructor_frame-requires c = record { there = ap is_some (families_inherit.roles c.args.linked.now c.args.class c.in-Some.destructor Destruct (sym c.role.ensures ∙ c.in-Some.is)).there }

pub returns-in-Some : goal.returns-in-Some
returns-in-Some c = search rules
