-- The states that are kept are the strongest typing.
use Rattle.aom_verify.proofs.checked.Checked.typed.Goals as goal

pub returns : goal.returns
returns c = rw (← c.self.view_is) (c.self.inside.state_tables.items, c.self.invariant)
