-- Line by line, as the definitions stand.
use Rattle.std.proofs.Common.{◌≡◌, refl}
use Rattle.std.specs.Prelude.{decimal}
use Rattle.aom_transcript.specs.Naming.{named_text}
use Rattle.aom_transcript.specs.Text.{line_text}
use Rattle.aom_transcript.specs.declared.line.Line.{Line}
use Rattle.aom_transcript.specs.declared.line.Line.TheVariants.{Main, Out, Leave, Gone, Run, Killed, Serve, Reply, Discard, Refuse}
use Rattle.aom_transcript.proofs.laws.numbers_are_transcripts.Goals as goal

line_same : (line : Line) → named_text decimal line ≡ line_text line
line_same (Main time) = refl
line_same (Out word) = refl
line_same (Leave code) = refl
line_same (Gone class) = refl
line_same (Run time class status) = refl
line_same (Killed native) = refl
line_same (Serve time class asked client) = refl
line_same (Reply client code) = refl
line_same (Discard client code) = refl
line_same (Refuse client code) = refl

pub returns : goal.returns
returns c = record { line = line_same; lines = λ ls. refl; whole = λ ls ending cells. refl }
