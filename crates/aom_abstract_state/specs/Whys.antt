-- The numbers by which refusals are printed.
use Rattle.std.specs.Prelude.{ℕ}
use Rattle.aom_abstract_state.specs.declared.why.Reason.{Reason}
use Rattle.aom_abstract_state.specs.declared.why.Reason.TheVariants.{RegisterKind, OwnedAtLeave, OwnedAtReturn, CleanupAtReturn, PopEmpty, LeaveNotAllowed, FieldNotNull, FieldsLeft, NotFresh, StillFresh, NotIdle, NotIssued, IssuedAtLeave, IssuedAtReturn, StillActive, NotCancelled, MessageAtLeave, MessageAtReturn, NotAdded, EntryState, QuietBroken}

-- from 1 to 21
abbrev pub why_number : Reason → ℕ
why_number RegisterKind = 1
why_number OwnedAtLeave = 2
why_number OwnedAtReturn = 3
why_number CleanupAtReturn = 4
why_number PopEmpty = 5
why_number LeaveNotAllowed = 6
why_number FieldNotNull = 7
why_number FieldsLeft = 8
why_number NotFresh = 9
why_number StillFresh = 10
why_number NotIdle = 11
why_number NotIssued = 12
why_number IssuedAtLeave = 13
why_number IssuedAtReturn = 14
why_number StillActive = 15
why_number NotCancelled = 16
why_number MessageAtLeave = 17
why_number MessageAtReturn = 18
why_number NotAdded = 19
why_number EntryState = 20
why_number QuietBroken = 21
