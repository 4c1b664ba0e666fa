-- What is heard of natives: where one answers, where one is polled, and what a run hears.
use Rattle.std.specs.Prelude.{ℕ, suc, ℤ, Bool, true, false, ◌&&◌, ◌≡◌, List, ◌∷◌, Option}
use Rattle.aom_image.specs.Image.{Image}
use Rattle.aom_image.specs.Views.{instr_at}
use Rattle.aom_image.specs.declared.class.ClassKind.{ClassKind}
use Rattle.aom_roles.specs.Kinds.{is_native_kind}
use Rattle.aom_roles.specs.Shapes.{kind_of}
use Rattle.aom_semantics.specs.Requests.{receiver_kind}
use Rattle.aom_semantics.specs.State.{Run, State, Task}
use Rattle.aom_semantics.specs.NativeCall.{Exchange, An_open, A_start, An_ask, exchange_at}
use Rattle.aom_semantics.specs.World.{begins, moves, nothing_observed, turns, Completion, Environment, Polls, Reaches, Turning, turning}
use Rattle.aom_transcript.specs.declared.line.Line.{Line}

-- what a native answers to a call counts: whether a session is open, a request begun, or the answer itself
abbrev pub is_answered : Exchange → Bool
is_answered An_open = true
is_answered (A_start a b) = true
is_answered (An_ask a b) = true
is_answered _ = false

-- a method of an object of that kind of class hears what a native answers
abbrev pub observes : Option ClassKind → Exchange → Bool
observes k x = is_answered x && is_native_kind k

abbrev pub is_observed : Image → List Task → Bool
is_observed p (Run fr ∷ ts) = observes (receiver_kind p fr.receiver) (exchange_at (instr_at p fr.method fr.place))
is_observed p _ = false

-- a native is polled, whatever it completes
abbrev pub is_polling : Turning → Bool
is_polling (Polls n answer) = true
is_polling _ = false

-- what natives say, by how many moves and turns a run has made before that: what the one at hand answers, and what the one that is polled completes
pub record Oracle : Type 0 where
  pub answers : ℕ → ℤ
  pub completes : ℕ → Option Completion

-- how many moves and turns a run has made
abbrev pub stages : {p : Image} {outside : Environment} {from : State} {lines : List Line} {s : State} → Reaches p outside from lines s → ℕ
stages begins = 0
stages (moves c reached busy opened goes) = suc (stages reached)
stages (turns observed reached between well goes) = suc (stages reached)

-- wherever a run hears a native, it hears what the oracle says
abbrev pub Follows : {p : Image} {outside : Environment} {from : State} {lines : List Line} {s : State} → Oracle → Reaches p outside from lines s → Type 0
Follows oracle begins = Unit {0}
Follows {p = p} oracle (moves {s = s} c reached busy opened goes) = Follows oracle reached × (is_observed p s.tasks ≡ true → c.answer ≡ oracle.answers (stages reached))
Follows {outside = outside} oracle (turns {s = s} observed reached between well goes) = Follows oracle reached × (is_polling (turning outside nothing_observed s) ≡ true → observed.completion ≡ oracle.completes (stages reached))

-- no native serves a class
pub record HasNoNative (p : Image) : Type 0 where
  pub none : (class : Option ℕ) → is_native_kind (kind_of p class) ≡ false
