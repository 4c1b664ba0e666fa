-- Boxes of new natives, of the kinds that are named.
use Rattle.std.specs.Prelude.{ℕ, ℤ, pos, negsuc, ◌≡◌, ◌≢◌, ◌<◌, ◌≤◌, List, [], ◌∷◌, Option, None, Some, length, find, option_map}
use Rattle.std.specs.Int.{w32, int_wrapping_add}
use Rattle.aom_natives.specs.Delays.{completed, ids_in, is_due}
use Rattle.aom_natives.specs.Lines.{Queues, first_pair}
use Rattle.aom_natives.specs.declared.delay.OwedRequest.{OwedRequest}
use Rattle.aom_natives.specs.declared.kind.NativeKind.{NativeKind}
use Rattle.aom_natives.specs.declared.kind.NativeKind.TheVariants.{Counter, Line, Delay}

-- a native as it stands: the ids that it owes, and the answers that it may give
pub record NativeModel : Type 1 where
  pub owed : List ℕ
  pub open_may : ℕ → ℤ → Type 0
  pub start_may : ℕ → ℤ → ℤ → ℤ → Type 0
  pub call_may : ℕ → ℤ → ℤ → ℤ → Type 0
  pub poll_may : ℕ → Option (ℕ × ℤ) → Type 0

-- a counter with that total
abbrev pub counter_at : ℤ → NativeModel
counter_at total = record {
  owed = [];
  open_may = λ id answer. answer ≡ pos 0;
  start_may = λ id function word answer. answer ≡ negsuc 4;
  call_may = λ id function word answer. (function ≡ pos 0 → answer ≡ int_wrapping_add w32 total word) × (function ≢ pos 0 → answer ≡ negsuc 4);
  poll_may = λ now answer. answer ≡ None;
}

-- a line that keeps so
abbrev pub line_at : Queues → NativeModel
line_at l = record {
  owed = l.owed;
  open_may = λ id answer. answer ≡ pos 0;
  start_may = λ id function word answer. (length l.owed < 16 → answer ≡ pos 0) × (16 ≤ length l.owed → answer ≡ negsuc 15);
  call_may = λ id function word answer. answer ≡ negsuc 4;
  poll_may = λ now answer. answer ≡ first_pair l.owed l.words;
}

-- a delay with those entries
abbrev pub delay_at : List OwedRequest → NativeModel
delay_at d = record {
  owed = ids_in d;
  open_may = λ id answer. answer ≡ pos 0;
  start_may = λ id function word answer. ((n : ℕ) → word ≡ negsuc n → answer ≡ negsuc 5) × ((n : ℕ) → word ≡ pos n → length d < 16 → answer ≡ pos 0) × ((n : ℕ) → word ≡ pos n → 16 ≤ length d → answer ≡ negsuc 15);
  call_may = λ id function word answer. answer ≡ negsuc 4;
  poll_may = λ now answer. answer ≡ option_map completed (find is_due d);
}

-- a new native of each kind
abbrev pub new_of : NativeKind → NativeModel
new_of Counter = counter_at (pos 0)
new_of Line = line_at (record { owed = []; words = [] })
new_of Delay = delay_at []

-- it owes what that one owes, and may give no other answers
pub record StandsAs (it that : NativeModel) : Type 0 where
  pub owed : it.owed ≡ that.owed
  pub open_may : (id : ℕ) (answer : ℤ) → it.open_may id answer → that.open_may id answer
  pub start_may : (id : ℕ) (function word answer : ℤ) → it.start_may id function word answer → that.start_may id function word answer
  pub call_may : (id : ℕ) (function word answer : ℤ) → it.call_may id function word answer → that.call_may id function word answer
  pub poll_may : (now : ℕ) (answer : Option (ℕ × ℤ)) → it.poll_may now answer → that.poll_may now answer

-- a box for each kind, in their order, each of which stands as a new native of its kind
abbrev pub AreNew : {B : Type 0} → (B → NativeModel) → List NativeKind → List B → Type 0
AreNew stance [] [] = Unit {0}
AreNew stance (k ∷ ks) (b ∷ bs) = StandsAs (stance b) (new_of k) × AreNew stance ks bs
AreNew stance kinds boxes = ⊥

-- and so it is with the slots of a machine, in which none is killed
abbrev pub AllNew : {L : Type 0} → (L → NativeModel) → List NativeKind → List (Option L) → Type 0
AllNew stance [] [] = Unit {0}
AllNew stance (k ∷ ks) (Some l ∷ ls) = StandsAs (stance l) (new_of k) × AllNew stance ks ls
AllNew stance kinds slots = ⊥
