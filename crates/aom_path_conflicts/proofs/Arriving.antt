-- The state of another way arrives where it leads.
use Rattle.std.proofs.Common.{List, subst}
use Rattle.aom_abstract_state.specs.Needs.{Flow}
use Rattle.aom_verify.specs.Arrivals.{IsOneOf}
use Rattle.aom_verify.specs.Arrivals.Arrives.{led}
use Rattle.aom_path_conflicts.specs.Conflicts.{ConflictsArrive}

pub arrive : ConflictsArrive
arrive p m s place sh c all conflicts =
    let from = conflicts.differs in
    let flows = from.differs.leads.flows in
    let found = from.differs.differs in
    let one = subst (λ (ways : List Flow). IsOneOf ways (place, found.next)) flows.is found.way in
    record {
      other = found.next;
      arrives = led (all c.from from.shape from.there) flows.stands flows.needs one;
      unmet = record { place = c.difference.register; none = found.apart.apart };
    }
