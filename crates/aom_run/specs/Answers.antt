-- What a native may answer to what a step asks, and to a poll.
use Rattle.std.specs.Prelude.{ℕ, ℤ, suc, pred, ◌≡◌, ◌<◌, ◌&&◌, cond, List, length, Option, None, Some, IfSome, IsSome, is_some}
use Rattle.aom_natives.specs.Owed.{IsNew, IsOwed, times}
use Rattle.aom_determinism.specs.Owed.{is_for, takes_on}
use Rattle.aom_natives.specs.Slots.{KeepsOthers, ids_at, living_at}
use Rattle.aom_image.specs.Image.{Image}
use Rattle.aom_semantics.specs.State.{State}
use Rattle.aom_machine_state.specs.Progress.{progress_of}
use Rattle.aom_machine_state.specs.declared.progress.Progress.{Progress}
use Rattle.aom_machine_state.specs.declared.progress.Progress.TheVariants.{Running}
use Rattle.aom_semantics.specs.NativeCall.{wanted, NativeCall, Opens, Starts, Asks, Cancels, Closes}

-- the answer is one that the native may give to what it is asked, as it stands, by its relations; nothing is said where there is no answer
abbrev pub MayObserve : {L : Type 0} → (open_may : L → ℕ → ℤ → Type 0) → (start_may call_may : L → ℕ → ℤ → ℤ → ℤ → Type 0) → List (Option L) → Option NativeCall → ℤ → Type 0
MayObserve open_may start_may call_may slots (Some (Opens n x)) answer = IfSome (living_at slots n) (λ l. open_may l x answer)
MayObserve open_may start_may call_may slots (Some (Starts n x f w)) answer = IfSome (living_at slots n) (λ l. start_may l x f w answer)
MayObserve open_may start_may call_may slots (Some (Asks n x f w)) answer = IfSome (living_at slots n) (λ l. call_may l x f w answer)
MayObserve open_may start_may call_may slots _ answer = Unit {0}

-- what is asked: nothing, unless something is at hand
abbrev pub asked_by : Progress → Option NativeCall → Option NativeCall
asked_by Running asked = asked
asked_by _ asked = None

abbrev pub asked_of : Image → State → Option NativeCall
asked_of p s = asked_by (progress_of s) (wanted p s)

-- ---- what is kept of natives, over a call

-- the call may be made: the native lives; what is begun is not outstanding there, and there is room for it; what is cancelled is, and what is closed is not
abbrev pub MayAsk : {L : Type 0} → (L → List ℕ) → List (Option L) → NativeCall → Type 0
MayAsk kept slots (Opens n x) = IsSome (living_at slots n)
MayAsk kept slots (Starts n x f w) = IsSome (living_at slots n) × IsNew (ids_at kept slots n) x × (length (ids_at kept slots n) < 4096)
MayAsk kept slots (Asks n x f w) = IsSome (living_at slots n)
MayAsk kept slots (Cancels n x) = IsSome (living_at slots n) × IsOwed (ids_at kept slots n) x
MayAsk kept slots (Closes n x) = IsSome (living_at slots n) × IsNew (ids_at kept slots n) x

-- the native at which a call is made
abbrev pub asked_at : NativeCall → ℕ
asked_at (Opens n x) = n
asked_at (Starts n x f w) = n
asked_at (Asks n x f w) = n
asked_at (Cancels n x) = n
asked_at (Closes n x) = n

-- each native but the one that is asked is as it was; where nothing is asked, each is
abbrev pub KeepsUnasked : {L : Type 0} → List (Option L) → Option NativeCall → List (Option L) → Type 0
KeepsUnasked old None new = new ≡ old
KeepsUnasked old (Some w) new = KeepsOthers old new (asked_at w)

-- whether x is outstanding at native k after a call with that answer, by how often it was before
abbrev pub times_after : Option NativeCall → ℤ → (k m : ℕ) → ℕ → ℕ
times_after (Some (Starts n x f w)) answer k m before = cond (takes_on answer && is_for n x k m) (suc before) before
times_after (Some (Cancels n x)) answer k m before = cond (is_for n x k m) (pred before) before
times_after _ answer k m before = before

-- the call is made: the same natives live, what is kept of each is what it owes by then, and those that are not asked are as they were
pub record Asked {L : Type 0} (kept : L → List ℕ) (old : List (Option L)) (asked : Option NativeCall) (answer : ℤ) (new : List (Option L)) : Type 0 where
  pub count : length new ≡ length old
  pub living : (k : ℕ) → is_some (living_at new k) ≡ is_some (living_at old k)
  pub unasked : KeepsUnasked old asked new
  pub times : (k m : ℕ) → times m (ids_at kept new k) ≡ times_after asked answer k m (times m (ids_at kept old k))
