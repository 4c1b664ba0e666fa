-- What is known of an instruction by the call that it makes on a native.
use Rattle.std.proofs.lemmas.Bool.Decides.{nat_tests}
use Rattle.std.proofs.Common.{arith, List, None, refl, true, ℕ, ◌≡◌}
use Rattle.std.specs.Prelude.{is_some}
use Rattle.aom_image.specs.Image.{Image}
use Rattle.aom_instructions.specs.declared.instr.Instr.{Instr}
use Rattle.aom_instructions.specs.declared.instr.Instr.TheVariants.{Abort, Ask, Close, Connect, Issue}
use Rattle.aom_roles.specs.Tests.{AllTrue}
use Rattle.aom_semantics.specs.Effects.{needs}
use Rattle.aom_semantics.specs.State.{Choice, Frame, Receiver, State, Task, word}
use Rattle.aom_semantics.specs.NativeCall.{Exchange, Nothing, An_open, A_start, An_ask, A_cancel, A_close, exchange, wanted_by}

-- what holds of each instruction that makes a call, and of all that make none, holds of any with its call
pub by_exchange : (R : Instr → Exchange → Type 0) → ((a : ℕ) → R (Connect a) An_open) → ((a b : ℕ) → R (Issue a b) (A_start a b)) → ((a b x : ℕ) →
    R (Ask a b x) (An_ask b x)) → R Abort A_cancel → R Close A_close → ((i : Instr) → exchange i ≡ Nothing → R i Nothing) → (i : Instr) → R i (exchange i)
by_exchange R opens starts asks cancels closes none (Connect a) = opens a
by_exchange R opens starts asks cancels closes none (Issue a b) = starts a b
by_exchange R opens starts asks cancels closes none (Ask a b x) = asks a b x
by_exchange R opens starts asks cancels closes none Abort = cancels
by_exchange R opens starts asks cancels closes none Close = closes
by_exchange R opens starts asks cancels closes none i = none i refl

-- the words of a call are there
abbrev pub HasWords : Frame → Exchange → Type 0
HasWords fr (A_start a b) = (is_some (word fr a) ≡ true) × (is_some (word fr b) ≡ true)
HasWords fr (An_ask a b) = (is_some (word fr a) ≡ true) × (is_some (word fr b) ≡ true)
HasWords fr _ = Unit {0}

pub has_words : (p : Image) (c : Choice) (fr : Frame) (ts : List Task) (s : State) (i : Instr) → AllTrue (needs p c fr ts s i) → HasWords fr (exchange i)
has_words p c fr ts s = grind (arith, nat_tests, by_exchange)

-- what makes no call wants nothing, wherever it is
pub none_wanted : (p : Image) (s : State) (fr : Frame) (ts : List Task) (h : Receiver) → wanted_by s p fr ts h Nothing ≡ None
none_wanted p s fr ts x = grind arith
