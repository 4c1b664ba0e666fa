-- What is no place alone is no origin.
use Rattle.std.proofs.Common.{◌≡◌, ap, sym}
use Rattle.aom_origins.specs.Origins.{known_of}
use Rattle.aom_origins.proofs.Finding.{no_origin}
use Rattle.aom_origins.proofs.origin.find_origin.Goals as goal

pub returns-clause-none : goal.returns-clause-none
returns-clause-none c =
    let known : known_of c.args.shape.now ≡ c.known-now.result = sym (ap known_of c.known-now.ensures) in
    rw known (no_origin c.args.linked.now c.args.method c.args.states.now c.args.subject.now c.known-now.result c.find_only.result c.find_only.ensures.none)
