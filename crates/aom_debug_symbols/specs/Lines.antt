-- Which instruction is told to stand in a line.
use Rattle.std.specs.Prelude.{ℕ, zero, suc, ◌+◌, ◌==◌, ◌&&◌, nat_le, nat_lt, if◌then◌else◌, List, [], ◌∷◌, Option, Some, None}
use Rattle.aom_syntax.specs.declared.keyword.Keyword.TheVariants as k
use Rattle.aom_text.specs.Text.{statements}
use Rattle.aom_text.specs.declared.text.Statement.{Statement}
use Rattle.aom_diagnostics.specs.Declarations.{begins}
use Rattle.aom_debug_protocol.specs.declared.spot.CodeLocation.{CodeLocation}
use Rattle.aom_debug_symbols.specs.NameLists.{line_told}

-- the place at hand behind so many statements that declare a method; what stands before the first of them is in none. No image has more than 65,536
abbrev pub place_in : (methods place : ℕ) → Option CodeLocation
place_in zero place = None
place_in (suc method) place = if nat_le method 65535 then Some (record { method = method; place = place }) else None

-- one more, where that is not too many: no image has so many methods, or so many instructions in one
abbrev pub next_of : ℕ → Option ℕ
next_of n = if nat_lt n 65536 then Some (n + 1) else None

-- the first statement that is told to stand in that line and is in a method, where so many methods were declared before, and so many statements stand behind the last. No image has
-- more methods, or more statements in one, than where the search ends
abbrev pub spot_from : (lines : List ℕ) (line methods place : ℕ) → List Statement → Option CodeLocation
spot_from lines line methods place [] = None
spot_from lines line methods place (s ∷ ss) =
    if begins k.Method s then (if nat_lt methods 65536 then spot_from lines line (methods + 1) 0 ss else None)
    else if (line_told lines s.line == line) && nat_lt 0 methods then place_in methods place
    else if nat_lt place 65536 then spot_from lines line methods (place + 1) ss
    else None

-- the place of the first instruction that is told to stand in a line, if one is
abbrev pub spot_in : (text lines : List ℕ) → (line : ℕ) → Option CodeLocation
spot_in text lines line = spot_from lines line 0 0 (statements text)
