-- The refusals so far are diagnoses.
use Rattle.std.proofs.Common.{◌≡◌, Some, map, take}
use Rattle.aom_source.specs.Refusals.{place_of}
use Rattle.aom_source_commands.proofs.diagnosing.diagnoses_of.Given as goal

abbrev pub invariant-loop-refusal : goal.invariant-loop-refusal
invariant-loop-refusal l = record { so_far : map (λ d. Some d.place) l.faults.items ≡ map place_of (take l.refusal-index l.refusals) }
