-- The map of an assembly text, as rows.
use Rattle.std.specs.Prelude.{List, [], ◌∷◌, ◌++◌, ℕ, ◌+◌, nat_le, if◌then◌else◌, codes, decimal, flat_map}
use Rattle.aom_source_code.specs.declared.code.NamedRegister.{NamedRegister}
use Rattle.aom_source_code.specs.declared.line.Reason.{Reason}
use Rattle.aom_source_code.specs.declared.line.Reason.TheVariants.{Written, Guards, Unguards, Deletes, DeletesOld, Empties, RunsDeferred, Completes, Cancels, Widens}
use Rattle.aom_source_tokens.specs.declared.tokens.Tokens.{Tokens}
use Rattle.aom_source_tokens.specs.declared.place.Place.{Place}
use Rattle.aom_source_tokens.specs.Tokens.{token_at}
use Rattle.aom_source.specs.declared.writing.Origin.{Origin}

-- what was done for a reason, before the name of what it was done to
abbrev pub reason_text : Reason → List ℕ
reason_text Written = []
reason_text Guards = codes "guards "
reason_text Unguards = codes "unguards "
reason_text Deletes = codes "deletes "
reason_text DeletesOld = codes "deletes the old "
reason_text Empties = codes "empties "
reason_text RunsDeferred = codes "runs what was deferred"
reason_text Completes = codes "completes the request"
reason_text Cancels = codes "cancels the request"
reason_text Widens = codes "counts as "

-- the name of an object; one without a name was just made
abbrev pub named_text : List ℕ → List ℕ
named_text [] = codes "a new object"
named_text (b ∷ name) = b ∷ name

-- what it was done to, for a reason that is about an object
abbrev pub object_text : Reason → List ℕ → List ℕ
object_text RunsDeferred name = []
object_text Completes name = []
object_text Cancels name = []
object_text reason name = named_text name

-- why an instruction was added
abbrev pub added_text : Reason → List ℕ → List ℕ
added_text reason name = reason_text reason ++ object_text reason name

-- what stands behind the place of a line
abbrev pub why_text : Reason → List ℕ → List ℕ
why_text Written name = []
why_text reason name = codes " " ++ added_text reason name

abbrev pub place_row : Place → List ℕ
place_row p = decimal p.line ++ codes ":" ++ decimal p.column

-- a line of the text: its place in the source, and why it was added
abbrev pub line_row : Tokens → Origin → List ℕ
line_row tokens origin = (place_row (token_at tokens origin.token).place ++ why_text origin.note.reason origin.note.name.now) ++ codes "\n"

-- a name of a register, with the first and the last line of the text in which it has it
abbrev pub name_row : NamedRegister → List ℕ
name_row n = if nat_le n.to n.from then [] else ((((codes "r" ++ decimal n.register) ++ codes " " ++ n.name.now) ++ codes " " ++ decimal (n.from + 1)) ++ codes "-" ++ decimal n.to) ++ codes "\n"

-- the map: the lines, then the names
abbrev pub map_text : Tokens → List Origin → List NamedRegister → List ℕ
map_text tokens origins names = flat_map (line_row tokens) origins ++ flat_map name_row names
