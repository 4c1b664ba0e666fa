use Rattle.aom_debug_stepping.proofs.breaking.stops_at.Goals as goal

pub returns-in-Some : goal.returns-in-Some
returns-in-Some g c = rw c.in-Some.is c.is_met.ensures
