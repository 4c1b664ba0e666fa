-- The names so far are named.
use Rattle.std.proofs.Common.{◌<◌, ℕ, get_or}
use Rattle.aom_source_code.specs.declared.code.NamedRegister.{NamedRegister}
use Rattle.aom_source.specs.Map.{IsNamed}
use Rattle.aom_source.proofs.scoping.are_named.Given as goal

abbrev pub invariant-loop-named : goal.invariant-loop-named
invariant-loop-named l = (i : ℕ) (d : NamedRegister) → i < l.named-index → IsNamed l.tokens l.written.origins.items (get_or l.written.names.items i d)
