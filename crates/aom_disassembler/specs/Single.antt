-- Single lines of a listing.
use Rattle.std.specs.Prelude.{ℕ, List, [], Option, Some, None, slice_get}
use Rattle.aom_instructions.specs.declared.instr.Instr.{Instr}
use Rattle.aom_disassembler.specs.Listing.{instr_words}
use Rattle.aom_disassembler.specs.Text.{line_of}

-- the line of an instruction of the code, where there is one
abbrev pub instr_line : List Instr → ℕ → Option Instr → List ℕ
instr_line code place None = []
instr_line code place (Some i) = line_of (instr_words code place i)

-- the line of the instruction at a place of the code; behind the code there is none
abbrev pub line_at : List Instr → ℕ → List ℕ
line_at code place = instr_line code place (slice_get code place)
