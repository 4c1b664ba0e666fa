-- From the way so far on, by what is not yet read, to the way that is said.
use Rattle.std.proofs.Common.{◌≡◌, Some}
use Rattle.std.specs.Prelude.{option_map}
use Rattle.aom_debug_protocol.specs.Ways.{branches_said, fitting, parts_in, path_from}
use Rattle.aom_debug_protocol.proofs.Between.{left, onto}
use Rattle.aom_debug_protocol.proofs.reading.read_branches.Given as goal

abbrev pub invariant-loop-rest : goal.invariant-loop-rest
invariant-loop-rest l = record {
  way : onto l.path (branches_said (parts_in (option_map (λ r. r.now) l.rest)))
      ≡ path_from (Some l.fn.outer) (branches_said (parts_in (option_map (λ r. r.now) l.fn.rest)));
  fits : fitting l.path ≡ Some l.path;
}

abbrev pub decreases-loop-rest : goal.decreases-loop-rest
decreases-loop-rest l = left (option_map (λ r. r.now) l.rest)
