-- The text of a transcript.
use Rattle.std.specs.Prelude.{ℕ, ℤ, List, [], ◌∷◌, ◌++◌, codes, decimal, flat_map}
use Rattle.std.specs.Fmt.{signed_decimal}
use Rattle.aom_transcript.specs.declared.line.Line.{Line}
use Rattle.aom_transcript.specs.declared.line.Line.TheVariants.{Main, Out, Leave, Gone, Run, Killed, Serve, Reply, Discard, Refuse}
use Rattle.aom_transcript.specs.declared.line.Asked.{Asked}
use Rattle.aom_transcript.specs.declared.line.Asked.TheVariants.{Connect, Message, Close}
use Rattle.aom_transcript.specs.declared.line.Ending.{Ending}
use Rattle.aom_transcript.specs.declared.line.Ending.TheVariants.{Stopped, Waiting, MainLeft, Limit, Error}

-- what a server is asked for, with the spaces round it
abbrev pub asked_text : Asked → List ℕ
asked_text Connect = codes " connect "
asked_text Message = codes " message "
asked_text Close = codes " close "

-- a client, and the code that it is told
abbrev pub answer_text : ℕ → ℤ → List ℕ
answer_text client code = decimal client ++ codes " " ++ signed_decimal code

-- a line, without its line feed
abbrev pub line_text : Line → List ℕ
line_text (Main time) = codes "@" ++ decimal time ++ codes " main"
line_text (Out word) = codes "out " ++ signed_decimal word
line_text (Leave code) = codes "leave " ++ signed_decimal code
line_text (Gone class) = codes "gone " ++ decimal class
line_text (Run time class status) = codes "@" ++ decimal time ++ codes " run " ++ decimal class ++ codes " " ++ signed_decimal status
line_text (Killed native) = codes "killed " ++ decimal native
line_text (Serve time class asked client) = codes "@" ++ decimal time ++ codes " serve " ++ decimal class ++ asked_text asked ++ decimal client
line_text (Reply client code) = codes "reply " ++ answer_text client code
line_text (Discard client code) = codes "discard " ++ answer_text client code
line_text (Refuse client code) = codes "refuse " ++ answer_text client code

-- how a run ended
abbrev pub ending_text : Ending → List ℕ
ending_text Stopped = codes "stopped"
ending_text Waiting = codes "waiting"
ending_text (MainLeft code) = codes "left " ++ signed_decimal code
ending_text Limit = codes "limit"
ending_text (Error answer) = codes "error " ++ signed_decimal answer

-- the last line, where so many cells are left
abbrev pub end_text : Ending → ℕ → List ℕ
end_text ending cells = codes "end " ++ ending_text ending ++ codes " cells " ++ decimal cells

-- how a run ended in which the request of that number was refused too
abbrev pub tried_text : ℕ → Ending → ℕ → List ℕ
tried_text number ending cells = codes "refuse " ++ decimal number ++ codes " " ++ end_text ending cells

-- a text and its line feed
abbrev pub ended : List ℕ → List ℕ
ended text = text ++ 10 ∷ []

-- lines, each with its line feed
abbrev pub text_of : List Line → List ℕ
text_of lines = flat_map (λ line. ended (line_text line)) lines

-- a whole transcript
abbrev pub transcript : List Line → Ending → ℕ → List ℕ
transcript lines ending cells = text_of lines ++ ended (end_text ending cells)
