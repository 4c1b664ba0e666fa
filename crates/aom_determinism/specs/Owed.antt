-- What is outstanding at natives and what sessions are open, and how calls and turns change both.
use Rattle.std.specs.Prelude.{ℕ, ℤ, pos, int_lt, Bool, true, false, not, ◌&&◌, ◌||◌, ◌==◌, ◌≡◌, List, [], ◌∷◌, ◌++◌, Option, Some, None}
use Rattle.aom_image.specs.Image.{Image}
use Rattle.aom_semantics.specs.Natives.{is_dead, is_owed, is_served_by}
use Rattle.aom_semantics.specs.Places.{Cell, Object, in_session, named, requested}
use Rattle.aom_semantics.specs.State.{State}
use Rattle.aom_semantics.specs.NativeCall.{NativeCall, Opens, Starts, Asks, Cancels, Closes}
use Rattle.aom_semantics.specs.World.{Kills, Polls, Turning, cell_at}

-- ---- cells and their natives

abbrev pub serves_object : Image → ℕ → Option Object → Bool
serves_object p n None = false
serves_object p n (Some o) = is_served_by p n o.thing

-- a cell of that name lives, and the native serves it
abbrev pub serves : Image → List Cell → (native name : ℕ) → Bool
serves p cs n m = serves_object p n (named cs m)

-- and its request is outstanding there
abbrev pub owes : Image → List Cell → (native name : ℕ) → Bool
owes p cs n m = serves p cs n m && is_owed (requested cs m)

-- and its session is open
abbrev pub meets : Image → List Cell → (native name : ℕ) → Bool
meets p cs n m = serves p cs n m && in_session cs m

-- what is outstanding is so in an open session, and none is open with a native that is killed
pub record SessionsHold (p : Image) (s : State) : Type 0 where
  pub met : (n m : ℕ) → owes p s.cells n m ≡ true → meets p s.cells n m ≡ true
  pub lives : (n m : ℕ) → meets p s.cells n m ≡ true → is_dead s.killed n ≡ false

-- ---- a call

-- the cell for which a call is made at a native, as it is found: the native lives and serves it
pub record Finds (p : Image) (s : State) (native name : ℕ) (session outstanding : Bool) : Type 0 where
  pub lives : is_dead s.killed native ≡ false
  pub serves : serves p s.cells native name ≡ true
  pub meets : meets p s.cells native name ≡ session
  pub owes : owes p s.cells native name ≡ outstanding

-- a session is opened where none is, and all else is asked in an open one: a request is begun where none is outstanding and cancelled where one is, and a session is closed with nothing outstanding
abbrev pub FindsWell : Image → State → Option NativeCall → Type 0
FindsWell p s None = Unit {0}
FindsWell p s (Some (Opens n x)) = Finds p s n x false false
FindsWell p s (Some (Starts n x f w)) = Finds p s n x true false
FindsWell p s (Some (Asks n x f w)) = Finds p s n x true (owes p s.cells n x)
FindsWell p s (Some (Cancels n x)) = Finds p s n x true true
FindsWell p s (Some (Closes n x)) = Finds p s n x true false

-- the native takes on what it is asked
abbrev pub takes_on : ℤ → Bool
takes_on answer = not (int_lt answer (pos 0))

-- a call at native n for cell x is one at k for m
abbrev pub is_for : (n x k m : ℕ) → Bool
is_for n x k m = (n == k) && (x == m)

-- whether cell m owes at native k after a call with that answer, by whether it did before
abbrev pub owes_after : Option NativeCall → ℤ → (k m : ℕ) → Bool → Bool
owes_after None answer k m before = before
owes_after (Some (Opens n x)) answer k m before = before
owes_after (Some (Starts n x f w)) answer k m before = (takes_on answer && is_for n x k m) || before
owes_after (Some (Asks n x f w)) answer k m before = before
owes_after (Some (Cancels n x)) answer k m before = not (is_for n x k m) && before
owes_after (Some (Closes n x)) answer k m before = before

-- whether its session is open there
abbrev pub meets_after : Option NativeCall → ℤ → (k m : ℕ) → Bool → Bool
meets_after None answer k m before = before
meets_after (Some (Opens n x)) answer k m before = (takes_on answer && is_for n x k m) || before
meets_after (Some (Starts n x f w)) answer k m before = before
meets_after (Some (Asks n x f w)) answer k m before = before
meets_after (Some (Cancels n x)) answer k m before = before
meets_after (Some (Closes n x)) answer k m before = not (is_for n x k m) && before

-- ---- a turn

abbrev pub has_name : Option Cell → ℕ → Bool
has_name None m = false
has_name (Some c) m = c.object.name == m

-- what is completed is outstanding
abbrev pub CompletesOwed : Image → List Cell → Turning → Type 0
CompletesOwed p cs (Polls n (Some a)) = (c : Cell) × (cell_at cs a.cell ≡ Some c) × (owes p cs n c.object.name ≡ true)
CompletesOwed p cs _ = Unit {0}

-- whether cell m owes at native k after a turn, by whether it did before: nobody at a native that is killed, nor the cell whose request is completed
abbrev pub owes_turned : List Cell → Turning → (k m : ℕ) → Bool → Bool
owes_turned cs (Kills n) k m before = not (n == k) && before
owes_turned cs (Polls n (Some a)) k m before = not ((n == k) && has_name (cell_at cs a.cell) m) && before
owes_turned cs _ k m before = before

-- whether its session is open there
abbrev pub meets_turned : Turning → (k : ℕ) → Bool → Bool
meets_turned (Kills n) k before = not (n == k) && before
meets_turned _ k before = before

abbrev pub killed_turned : Turning → List ℕ → List ℕ
killed_turned (Kills n) killed = killed ++ n ∷ []
killed_turned _ killed = killed
