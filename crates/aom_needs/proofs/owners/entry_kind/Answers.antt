use Rattle.std.proofs.Common.{◌∙◌, ap, sym}
use Rattle.aom_abstract_state.specs.Kinds.{entry_kind}
use Rattle.aom_needs.proofs.Entries.{entry_missing, entry_there}
use Rattle.aom_needs.proofs.owners.entry_kind.Goals as goal

pub returns-in-None : goal.returns-in-None
returns-in-None c =
    sym (ap entry_kind (entry_missing c.args.shape.now.entries c.args.number (rw (← c.number.ensures.value) (sym c.entry.ensures ∙ c.in-None.is))))

pub returns-in-Some : goal.returns-in-Some
returns-in-Some c = c.kind.ensures ∙ sym (ap entry_kind
    (entry_there c.args.shape.now.entries c.args.number c.in-Some.entry (rw (← c.number.ensures.value) (sym c.entry.ensures ∙ c.in-Some.is))))
