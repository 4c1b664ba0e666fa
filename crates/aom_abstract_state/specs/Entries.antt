-- The entries of a state's cleanup stack, the last first.
use Rattle.std.specs.Prelude.{ℕ, zero, suc, Bool, true, false, List, [], ◌∷◌}
use Rattle.aom_abstract_state.specs.AbstractState.{AbstractState}
use Rattle.aom_abstract_state.specs.declared.kind.InitState.TheVariants.{Ready}
use Rattle.aom_abstract_state.specs.declared.kind.CleanupEntry.{CleanupEntry}
use Rattle.aom_abstract_state.specs.declared.kind.CleanupEntry.TheVariants.{Object as An_object, Operation}

-- an entry whose object is ready
abbrev pub made_ready_entry : CleanupEntry → CleanupEntry
made_ready_entry (An_object c a) = An_object c Ready
made_ready_entry Operation = Operation

-- the entry of that number is, counted from the last
abbrev pub made_ready_at : List CleanupEntry → ℕ → List CleanupEntry
made_ready_at [] k = []
made_ready_at (e ∷ es) zero = made_ready_entry e ∷ es
made_ready_at (e ∷ es) (suc k) = e ∷ made_ready_at es k

-- the last entry is that of an object, or of an operation
abbrev pub is_object_entry : CleanupEntry → Bool
is_object_entry (An_object c a) = true
is_object_entry Operation = false

abbrev pub without_top : List CleanupEntry → List CleanupEntry
without_top [] = []
without_top (e ∷ es) = es

abbrev pub with_entry : CleanupEntry → AbstractState → AbstractState
with_entry e sh = record sh { entries = e ∷ sh.entries }

abbrev pub without_entry : AbstractState → AbstractState
without_entry sh = record sh { entries = without_top sh.entries }
