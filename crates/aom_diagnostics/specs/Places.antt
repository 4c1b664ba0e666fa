-- Where a fault is: a line of a text, or an instruction of a method.
use Rattle.std.specs.Prelude.{ℕ, ◌-◌, if◌then◌else◌, List, [], ◌∷◌, ◌++◌, Option, Some, None, codes, decimal, map, take, slice_get, slice_index_or}
use Rattle.aom_image.specs.Image.{Image}
use Rattle.aom_image.specs.declared.method.Method.{Method}
use Rattle.aom_disassembler.specs.Methods.{heading_words}
use Rattle.aom_disassembler.specs.Single.{line_at}
use Rattle.aom_disassembler.specs.Text.{line_of}
use Rattle.aom_text.specs.Text.{lines_of}
use Rattle.aom_text.specs.Words.{is_blank, is_plain}

-- the line of a text that has that number, counted from 1; behind the last line there is nothing
abbrev pub numbered_line : List ℕ → ℕ → List ℕ
numbered_line text number = slice_index_or (lines_of text) (number - 1) []

-- how a byte is shown: a blank as a space, and what a line may not have as a question mark
abbrev pub shown_byte : ℕ → ℕ
shown_byte b = if is_blank b then 32 else if is_plain b then b else 63

-- a line of a text, of a long one its first 200 bytes
abbrev pub line_text : List ℕ → ℕ → List ℕ
line_text text number = codes "Line " ++ decimal number ++ codes ": " ++ map shown_byte (take 200 (numbered_line text number)) ++ 10 ∷ []

-- a word of a text
abbrev pub word_text : List ℕ → List ℕ
word_text word = codes "Word: " ++ map shown_byte word ++ 10 ∷ []

-- the line that declares a method, as a listing has it
abbrev pub heading_text : ℕ → Method → List ℕ
heading_text number m = codes "In: " ++ line_of (heading_words number m)

-- the line of the instruction at a place, as a listing has it
abbrev pub instruction_text : ℕ → Method → List ℕ
instruction_text place m = codes "At " ++ decimal place ++ codes ": " ++ line_at m.code place

-- what a listing says of a method and of one of its places, where there is such a method
abbrev pub place_text : ℕ → ℕ → Option Method → List ℕ
place_text number place None = []
place_text number place (Some m) = heading_text number m ++ instruction_text place m

abbrev pub method_text : Image → ℕ → ℕ → List ℕ
method_text p number place = place_text number place (slice_get p.methods number)
