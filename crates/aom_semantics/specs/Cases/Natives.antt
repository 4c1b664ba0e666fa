-- The needs of instructions at the native that serves what a method works on, and what comes of what it answers.
use Rattle.std.specs.Prelude.{ℕ, ℤ, pos, negsuc, Bool, true, false, ◌≡◌, List, [], ◌∷◌, Option, None, Some}
use Rattle.aom_instructions.specs.declared.instr.Instr.{Instr}
use Rattle.aom_instructions.specs.declared.instr.Instr.TheVariants.{Ask, Close, Connect, Issue}
use Rattle.aom_semantics.specs.Requests.{pending, status_of}
use Rattle.aom_image.specs.Image.{Image}
use Rattle.aom_semantics.specs.Moves.{IsOpen, step}
use Rattle.aom_semantics.specs.Places.{Cell, Phase, Idle, Issued, Active, Cancelling, Aborted, Elsewhere, Root, in_session, requested}
use Rattle.aom_semantics.specs.World.{AnswersWell, Polls}
use Rattle.aom_semantics.specs.State.{FitsWord, Outcome, Goes, IsStuck, Run, State, Stuck, ClosedWhileOutstanding, Orphan, Task, WrongKind, word}
use Rattle.aom_semantics.specs.Cases.Building.{AllComeOut, Case, a_cell, begins, fails, image_of, inside, leaf, mine, served, seven, waiter}
use Rattle.aom_semantics.specs.Cases.Requests.{elsewhere_cases}

-- ---- the needs

-- the object that a method works on, with its request so far
abbrev pub owing : Phase → ℤ → List Cell
owing phase status = record (a_cell 9 served (Elsewhere Root)) { request = Some (record { order = 0; priority = pos 0; phase = phase; status = status; timer = None; token = None }) } ∷ []

-- a method of an object that a native serves and that is not enlisted, and of one whose request is so far
abbrev pub served_case : Instr → List Stuck → Case
served_case i kinds = record (fails i kinds) { receiver = inside served; words = seven ∷ seven ∷ []; cells = a_cell 9 served (Elsewhere Root) ∷ [] }

abbrev pub owing_case : Instr → Phase → ℤ → List Stuck → Case
owing_case i phase status kinds = record (served_case i kinds) { cells = owing phase status }

-- an active object that no native serves
abbrev pub unserved_case : Instr → List Stuck → Case
unserved_case i kinds = record (served_case i kinds) { receiver = inside waiter; cells = a_cell 9 waiter (Elsewhere Root) ∷ [] }

-- a register that is written owns
abbrev pub owning_case : Instr → List Stuck → Case
owning_case i kinds = record (served_case i kinds) { cells = a_cell 1 leaf (mine 0) ∷ [] }

abbrev pub connect_cases : List Case
connect_cases =
    served_case (Connect 0) []
    ∷ record (served_case (Connect 0) []) { words = [] }
    ∷ owing_case (Connect 0) Idle (pos 0) []
    ∷ owing_case (Connect 0) Active pending []
    ∷ unserved_case (Connect 0) (WrongKind ∷ [])
    ∷ owning_case (Connect 0) (Orphan ∷ [])
    -- what is written is asked for before the native
    ∷ record (owning_case (Connect 0) (Orphan ∷ WrongKind ∷ [])) { receiver = inside waiter }
    ∷ elsewhere_cases (Connect 0) (WrongKind ∷ [])

abbrev pub ask_cases : List Case
ask_cases =
    served_case (Ask 0 0 1) []
    ∷ owing_case (Ask 0 0 1) Active pending []
    -- the words are asked for first
    ∷ record (unserved_case (Ask 0 0 1) (WrongKind ∷ WrongKind ∷ [])) { words = seven ∷ [] }
    ∷ record (served_case (Ask 0 0 1) (WrongKind ∷ [])) { words = None ∷ seven ∷ [] }
    ∷ unserved_case (Ask 0 0 1) (WrongKind ∷ [])
    ∷ owning_case (Ask 0 0 1) (Orphan ∷ [])
    -- and what is written before the native
    ∷ record (owning_case (Ask 0 0 1) (Orphan ∷ WrongKind ∷ [])) { receiver = inside waiter }
    ∷ elsewhere_cases (Ask 0 0 1) (WrongKind ∷ [])

abbrev pub close_cases : List Case
close_cases =
    served_case Close []
    ∷ owing_case Close Idle pending []
    ∷ owing_case Close Issued (pos 0) []
    ∷ owing_case Close Active (pos 0) []
    ∷ owing_case Close Aborted (negsuc 2) []
    ∷ owing_case Close Issued pending (ClosedWhileOutstanding ∷ [])
    ∷ owing_case Close Active pending (ClosedWhileOutstanding ∷ [])
    ∷ owing_case Close Cancelling pending (ClosedWhileOutstanding ∷ [])
    ∷ unserved_case Close (WrongKind ∷ [])
    ∷ elsewhere_cases Close (WrongKind ∷ [])

-- ---- what comes of an answer

-- what a method finds then: the word of its first register, whether a session is open, and the status of its request
pub record Found : Type 0 where
  pub word : Option ℤ
  pub session : Bool
  pub status : ℤ

-- an instruction, with the natives that are killed, the session open or not, and what the native answers
pub record Observed_case : Type 0 where
  pub instr : Instr
  pub killed : List ℕ
  pub session : Bool
  pub answer : ℤ
  pub finds : Found

abbrev pub finds : Option ℤ → Bool → ℤ → Found
finds word session status = record { word = word; session = session; status = status }

abbrev pub observes : Instr → List ℕ → Bool → ℤ → Found → Observed_case
observes i killed session answer found = record { instr = i; killed = killed; session = session; answer = answer; finds = found }

-- the object is enlisted and idle
abbrev pub case_of : Observed_case → Case
case_of h = record (served_case h.instr []) { cells = record (a_cell 9 served (Elsewhere Root)) { request = Some (record { order = 0; priority = pos 0; phase = Idle; status = pos 0; timer = None; token = None }); session = h.session } ∷ [] }

abbrev pub observed_in : Observed_case → State
observed_in h = let s = begins (case_of h) in record s { killed = h.killed }

abbrev pub found_by : State → List Task → Option Found
found_by s (Run fr ∷ ts) = Some (finds (word fr 0) (in_session s.cells 9) (status_of (requested s.cells 9)))
found_by s _ = None

abbrev pub found_in : Outcome → Option Found
found_in (Goes s) = found_by s s.tasks
found_in (IsStuck kind) = None

abbrev pub AllFind : List Observed_case → Type 0
AllFind [] = Unit {0}
AllFind (h ∷ hs) = (found_in (step (image_of (case_of h)) (record { name = 99; refused = false; answer = h.answer }) (observed_in h)) ≡ Some h.finds) × AllFind hs

-- a session that is open is not opened anew, and one that is declined is not open; the death of another native counts for nothing
abbrev pub connecting : List Observed_case
connecting =
    observes (Connect 0) [] false (pos 5) (finds (Some (pos 0)) true (pos 0))
    ∷ observes (Connect 0) [] false (negsuc 6) (finds (Some (negsuc 6)) false (pos 0))
    ∷ observes (Connect 0) [] true (negsuc 6) (finds (Some (pos 0)) true (pos 0))
    ∷ observes (Connect 0) (1 ∷ []) false (pos 0) (finds (Some (pos 0)) true (pos 0))
    ∷ observes (Connect 0) (0 ∷ []) false (pos 5) (finds (Some (negsuc 0)) false (pos 0))
    ∷ observes (Connect 0) (1 ∷ 0 ∷ []) true (pos 5) (finds (Some (negsuc 0)) false (pos 0))
    ∷ []

-- it is answered while a session is open, and a native that is killed comes before a session that is not
abbrev pub asking : List Observed_case
asking =
    observes (Ask 0 0 1) [] true (pos 5) (finds (Some (pos 5)) true (pos 0))
    ∷ observes (Ask 0 0 1) [] true (negsuc 6) (finds (Some (negsuc 6)) true (pos 0))
    ∷ observes (Ask 0 0 1) [] false (pos 5) (finds (Some (negsuc 0)) false (pos 0))
    ∷ observes (Ask 0 0 1) (0 ∷ []) true (pos 5) (finds (Some (negsuc 14)) true (pos 0))
    ∷ observes (Ask 0 0 1) (0 ∷ []) false (pos 5) (finds (Some (negsuc 14)) false (pos 0))
    ∷ []

-- a request that the native takes is pending, and all else completes it at once
abbrev pub issuing : List Observed_case
issuing =
    observes (Issue 0 1) [] true (pos 5) (finds seven true pending)
    ∷ observes (Issue 0 1) [] true (negsuc 6) (finds seven true (negsuc 6))
    ∷ observes (Issue 0 1) [] true pending (finds seven true (negsuc 1))
    ∷ observes (Issue 0 1) [] false (pos 5) (finds seven false (negsuc 0))
    ∷ observes (Issue 0 1) (0 ∷ []) true (pos 5) (finds seven true (negsuc 14))
    ∷ observes (Issue 0 1) (0 ∷ []) false (pos 5) (finds seven false (negsuc 14))
    ∷ []

abbrev pub closing : List Observed_case
closing =
    observes Close [] true (pos 5) (finds seven false (pos 0))
    ∷ observes Close (0 ∷ []) true (pos 5) (finds seven false (pos 0))
    ∷ observes Close [] false (pos 5) (finds seven false (pos 0))
    ∷ []

-- 2^31 - 1 and -2^31 are words, 2^31 and -2^31 - 1 are none: no choice with such an answer is open, and no native that is polled completes with such a code
abbrev pub IsNoAnswer : ℤ → Type 0
IsNoAnswer w =
    ((p : Image) (refused : List ℕ) (name : ℕ) (refuses : Bool) (s : State) → IsOpen p refused (record { name = name; refused = refuses; answer = w }) s → ⊥)
    × ((p : Image) (s : State) (n cell : ℕ) → AnswersWell p s (Polls n (Some (record { cell = cell; code = w }))) → ⊥)

-- each need of an instruction at a native can fail, and what it answers is what is found
pub record NativeNeedsFail : Type 0 where
  pub connects : AllComeOut connect_cases
  pub asks : AllComeOut ask_cases
  pub closes : AllComeOut close_cases
  pub connected : AllFind connecting
  pub asked : AllFind asking
  pub issued : AllFind issuing
  pub closed : AllFind closing
  pub words : FitsWord (pos 2147483647) × FitsWord (negsuc 2147483647)
  pub more : IsNoAnswer (pos 2147483648)
  pub less : IsNoAnswer (negsuc 2147483648)
