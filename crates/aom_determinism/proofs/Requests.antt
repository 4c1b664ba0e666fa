-- How each instruction on a request or a session bears on what is outstanding, by what its move asks of a native.
use Rattle.std.proofs.lemmas.Bool.Decides.{nat_tests}
use Rattle.std.proofs.Common.{arith, Bool, Option, Some, false, true, ℕ, ℤ, ◌&&◌, ◌≡◌}
use Rattle.std.specs.Ordering.{int_eq}
use Rattle.std.specs.Prelude.{is_none, not}
use Rattle.aom_image.specs.declared.class.ClassKind.{ClassKind}
use Rattle.aom_determinism.proofs.SafetyLemmas.{recorded_so}
use Rattle.aom_determinism.specs.Owed.{takes_on}
use Rattle.aom_semantics.specs.Destruction.{is_at_rest}
use Rattle.aom_semantics.specs.Requests.{Asking, aborted, cancelled, cancelling, completed_with, taken_up, in_phase, is_active}
use Rattle.aom_semantics.specs.Requests.{is_idle, is_issued, issued_of, on_request, pending, status_of, waits}
use Rattle.aom_semantics.specs.Natives.{is_owed, native_of, started}
use Rattle.aom_semantics.specs.Places.{Request}

-- ---- requests that are owed

-- what is waited for, or begins to be cancelled, is owed as before
pub waits_owed : (r : Option Request) → in_phase is_issued r ≡ true → is_owed (on_request waits r) ≡ is_owed r
waits_owed r e = grind arith

pub cancelling_owed : (r : Option Request) → in_phase is_active r ≡ true → is_owed (on_request cancelling r) ≡ is_owed r
cancelling_owed r e = grind arith

-- what is completed is not owed, nor is what is idle
pub completed_owed : (r : Option Request) → int_eq (status_of r) pending ≡ false → is_owed r ≡ false
completed_owed r e = grind arith

pub idle_owed : (r : Option Request) → in_phase is_idle r ≡ true → is_owed r ≡ false
idle_owed r e = grind arith

pub rests_owed : (r : Option Request) → is_at_rest r ≡ true → is_owed r ≡ false
rests_owed r e = grind arith

pub none_owed : (r : Option Request) → is_none r ≡ true → is_owed r ≡ false
none_owed r e = grind arith

pub cancelled_owed : (r : Option Request) → is_owed (on_request cancelled r) ≡ false
cancelled_owed r = grind arith

pub taken_owed : (r : Option Request) → is_owed (on_request taken_up r) ≡ false
taken_owed r = grind arith

pub completed_with_owed : (code : ℤ) → int_eq code pending ≡ false → (r : Option Request) → is_owed (on_request (completed_with code) r) ≡ false
completed_with_owed code settled r = grind arith

pub aborted_owed : (r : Option Request) → is_owed (on_request aborted r) ≡ false
aborted_owed r = grind arith

-- what a native begins is owed where it lives, a session is open, and it takes the request on
pub started_owed : (dead session : Bool) (answer : ℤ) → int_eq (started dead session answer) pending ≡ ((not dead && session) && takes_on answer)
started_owed x session answer = grind (arith, nat_tests, recorded_so answer)

pub issued_owed : (k : Option ClassKind) (n : ℕ) (asking : Asking) (a : ℤ) (r : Option Request) → native_of k ≡ Some n → in_phase is_idle r ≡ true →
    is_owed (on_request (issued_of k asking a) r) ≡ int_eq asking.started pending
issued_owed k n asking a r e idle = grind arith
