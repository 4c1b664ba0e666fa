-- A law of frames.
use Rattle.std.specs.Prelude.{ℕ, ◌≡◌, List, ◌++◌}
use Rattle.aom_message_framing.specs.Frames.{IsFrame}
use Rattle.aom_message_framing.specs.declared.frames.Frame.{Frame}

-- two frames with which a stream begins are one
abbrev pub CutsOnce : Type 0
CutsOnce = (one other rest others : List ℕ) (brought meant : Frame) → IsFrame one brought → IsFrame other meant → one ++ rest ≡ other ++ others → one ≡ other
