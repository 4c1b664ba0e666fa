-- Refusals: of which fault one is, and its place in the text.
use Rattle.std.specs.Prelude.{List, ℕ, ⊤, ◌≡◌, ◌≢◌, Option, Some, None}
use Rattle.aom_source_program.specs.declared.fault.Fault as faults
use Rattle.aom_source_program.specs.declared.fault.FaultKind.TheVariants as fault_kinds
use Rattle.aom_source_syntax.specs.declared.fault.SyntaxFault.{SyntaxFault}
use Rattle.aom_source_syntax.specs.declared.fault.SyntaxFaultKind.TheVariants as syntax_kinds
use Rattle.aom_source_tokens.specs.declared.fault.TokenFault.{TokenFault}
use Rattle.aom_source_tokens.specs.declared.fault.TokenFaultKind.TheVariants as token_kinds
use Rattle.aom_source_tokens.specs.declared.place.Place.{Place}
use Rattle.aom_source_tokens.specs.declared.tokens.Tokens.{Tokens}
use Rattle.aom_source_tokens.specs.Places.{IsPlaceIn}
use Rattle.aom_source_tokens.specs.Tokens.{token_at}
use Rattle.aom_source.specs.declared.refusal.Refusal.{Refusal}
use Rattle.aom_source.specs.declared.refusal.Refusal.TheVariants.{Token, Syntax, Fault, OutOfMemory}

-- the refusal of a token that cannot stand where it does: at its place
abbrev pub IsOfSyntax : Tokens → SyntaxFault → Refusal → Type 0
IsOfSyntax tokens fault refusal =
    (fault.kind ≡ syntax_kinds.OutOfMemory → refusal ≡ OutOfMemory)
    × (fault.kind ≢ syntax_kinds.OutOfMemory → refusal ≡ Syntax fault.kind (token_at tokens fault.token).place)

-- the refusal of a fault: at the place of its token
abbrev pub IsOfFault : Tokens → faults.Fault → Refusal → Type 0
IsOfFault tokens fault refusal =
    (fault.kind ≡ fault_kinds.OutOfMemory → refusal ≡ OutOfMemory)
    × (fault.kind ≢ fault_kinds.OutOfMemory → refusal ≡ Fault fault (token_at tokens fault.token).place)

-- the refusal of a byte, which has its place
abbrev pub IsOfByte : TokenFault → Refusal → Type 0
IsOfByte fault refusal = (fault.kind ≡ token_kinds.OutOfMemory → refusal ≡ OutOfMemory) × (fault.kind ≢ token_kinds.OutOfMemory → refusal ≡ Token fault)

-- it is told at the place of a byte of the text, or of its end; want of memory has no place
abbrev pub IsToldIn : (bytes : List ℕ) → Refusal → Type 0
IsToldIn bytes (Token fault) = IsPlaceIn bytes fault.place
IsToldIn bytes (Syntax kind place) = IsPlaceIn bytes place
IsToldIn bytes (Fault fault place) = IsPlaceIn bytes place
IsToldIn bytes OutOfMemory = ⊤

-- the place of a refusal, if it has one
abbrev pub place_of : Refusal → Option Place
place_of (Token fault) = Some fault.place
place_of (Syntax kind place) = Some place
place_of (Fault fault place) = Some place
place_of OutOfMemory = None
