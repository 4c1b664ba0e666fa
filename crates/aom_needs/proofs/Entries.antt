-- The entry of a number, where there is one.
use Rattle.std.proofs.Common.{◌≡◌, ℕ, suc, List, ◌∷◌, Some, None, slice_get}
use Rattle.aom_abstract_state.specs.declared.kind.CleanupEntry.{CleanupEntry}
use Rattle.aom_abstract_state.specs.declared.kind.CleanupEntry.TheVariants.{Operation}
use Rattle.aom_roles.specs.Tables.{at}

pub entry_there : (es : List CleanupEntry) (k : ℕ) (x : CleanupEntry) → slice_get es k ≡ Some x → at Operation es k ≡ x
entry_there (y ∷ ys) (suc k) x e = entry_there ys k x e
entry_there _ _ x e = cc

pub entry_missing : (es : List CleanupEntry) (k : ℕ) → slice_get es k ≡ None → at Operation es k ≡ Operation
entry_missing (y ∷ ys) (suc k) e = entry_missing ys k e
entry_missing _ _ e = cc
