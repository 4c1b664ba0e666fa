-- Positions of the protocol.
use Rattle.std.specs.Prelude.{ℕ, ◌+◌, ◌==◌, nat_lt, if◌then◌else◌, true, false, List, codes, take}
use Rattle.std.specs.List.{fold}
use Rattle.serde_json.specs.Data.{Data, number, object, unsigned, member, no_members}
use Rattle.aom_language_answers.specs.declared.position.Position.{Position}
use Rattle.aom_language_answers.specs.declared.position.Range.{Range}
use Rattle.aom_language_answers.specs.declared.position.Walk.{Walk}

-- the units of UTF-16 that begin with a byte of UTF-8
abbrev pub units : ℕ → ℕ
units byte = if nat_lt byte 128 then 1 else if nat_lt byte 192 then 0 else if nat_lt byte 240 then 1 else 2

-- a line ends with a line feed, a carriage return, or both
abbrev pub walked_behind : Walk → ℕ → Walk
walked_behind w byte =
    if byte == 10 then (if w.is_return then record { position = record { line = w.position.line; character = 0 }; is_return = false }
    else record { position = record { line = w.position.line + 1; character = 0 }; is_return = false })
    else if byte == 13 then record { position = record { line = w.position.line + 1; character = 0 }; is_return = true }
    else record { position = record { line = w.position.line; character = w.position.character + units byte }; is_return = false }

-- behind a text
abbrev pub walked : List ℕ → Walk
walked text = fold walked_behind (record { position = record { line = 0; character = 0 }; is_return = false }) text

-- before the byte of a number, or at the end
abbrev pub position_in : (text : List ℕ) → (at : ℕ) → Position
position_in text at = (walked (take at text)).position

-- from one byte to so many behind it
abbrev pub range_in : (text : List ℕ) → (at count : ℕ) → Range
range_in text at count = record { start = position_in text at; end = position_in text (at + count) }

abbrev pub position_data : Position → Data
position_data p = object (member (codes "character") (number (unsigned p.character)) (member (codes "line") (number (unsigned p.line)) no_members))

abbrev pub range_data : Range → Data
range_data r = object (member (codes "end") (position_data r.end) (member (codes "start") (position_data r.start) no_members))
