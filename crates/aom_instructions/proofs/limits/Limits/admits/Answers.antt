-- An operand of the kind that is asked is admitted where it is in its range.
use Rattle.std.proofs.Common.{refl}
use Rattle.aom_instructions.proofs.limits.Limits.admits.Goals as goal

pub returns-in-Nothing-Nothing : goal.returns-in-Nothing-Nothing
returns-in-Nothing-Nothing c = rw (c.in-Nothing-Nothing.is-0, c.in-Nothing-Nothing.is-1) (λ _. tt, λ _. refl)

pub returns-in-Place-Place : goal.returns-in-Place-Place
returns-in-Place-Place c = rw (c.in-Place-Place.is-0, c.in-Place-Place.is-1) c.has_place.ensures

pub returns-in-Class-Class : goal.returns-in-Class-Class
returns-in-Class-Class c = rw (c.in-Class-Class.is-0, c.in-Class-Class.is-1) c.has_class.ensures

pub returns-in-Method-Method : goal.returns-in-Method-Method
returns-in-Method-Method c = rw (c.in-Method-Method.is-0, c.in-Method-Method.is-1) c.has_method.ensures
