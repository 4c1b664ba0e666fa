-- None of the classes looked at has objects and such sessions.
use Rattle.std.proofs.Common.{◌≡◌, ◌<◌, ℕ, Some}
use Rattle.aom_roles.specs.Classes.{sessions_at}
use Rattle.aom_warnings.specs.Made.{IsUnmade}
use Rattle.aom_warnings.proofs.made.serves_not.Given as goal

abbrev pub invariant-loop-number : goal.invariant-loop-number
invariant-loop-number l = (s : ℕ) → s < l.number → sessions_at l.image s ≡ Some l.class → IsUnmade l.image s
