-- What the next step asks of a native, in the machine's numbers.
use Rattle.std.specs.Prelude.{ℕ, ℤ, Bool, ◌&&◌, not, cond, Option, Some, None}
use Rattle.std.specs.Int.{w32, cast_signed}
use Rattle.aom_instructions.specs.declared.instr.Instr.{Instr}
use Rattle.aom_frames.specs.Tasks.{register_here}
use Rattle.aom_cells.specs.Sessions.{is_killed, is_open}
use Rattle.aom_semantics.specs.NativeCall.{Exchange, Nothing, An_open, A_start, An_ask, A_cancel, A_close, exchange, NativeCall, Opens, Starts, Asks, Cancels, Closes}
use Rattle.aom_machine_state.specs.declared.parts.Parts.{Parts}
use Rattle.aom_machine.specs.declared.wanted.NativeCall.{NativeCall as Machine_wanted}
use Rattle.aom_machine.specs.declared.wanted.NativeCall.TheVariants.{Open, Start, Ask, Cancel, Close}

-- the same, as the checked machine says it
abbrev pub as_wanted : Machine_wanted → NativeCall
as_wanted (Open native id) = Opens native id
as_wanted (Start native id function word) = Starts native id function word
as_wanted (Ask native id function word) = Asks native id function word
as_wanted (Cancel native id) = Cancels native id
as_wanted (Close native id) = Closes native id

-- the word in a register of the method that runs
abbrev pub word_here : Parts → ℕ → ℤ
word_here m a = cast_signed w32 (register_here m.stack.tasks a)

-- of a call that a method makes, which works on the cell of that number, at the native that serves it
abbrev pub wanted_call : Parts → (owed : Bool) → (native id : ℕ) → Exchange → Option Machine_wanted
wanted_call m owed n id Nothing = None
wanted_call m owed n id An_open = cond (not (is_killed m.sessions n) && not (is_open m.sessions id)) (Some (Open n id)) None
wanted_call m owed n id (A_start a b) = cond (not (is_killed m.sessions n) && is_open m.sessions id) (Some (Start n id (word_here m a) (word_here m b))) None
wanted_call m owed n id (An_ask a b) = cond (not (is_killed m.sessions n) && is_open m.sessions id) (Some (Ask n id (word_here m a) (word_here m b))) None
wanted_call m owed n id A_cancel = cond owed (Some (Cancel n id)) None
wanted_call m owed n id A_close = cond (is_open m.sessions id) (Some (Close n id)) None

-- of its instruction
abbrev pub wanted_of : Parts → (owed : Bool) → (native id : ℕ) → Instr → Option Machine_wanted
wanted_of m owed n id i = wanted_call m owed n id (exchange i)

-- of a cell that goes
abbrev pub closes_open : Parts → (native id : ℕ) → Option Machine_wanted
closes_open m n id = cond (is_open m.sessions id) (Some (Close n id)) None
