-- Where a session is.
use Rattle.std.specs.Prelude.{ℕ, Bool, true, false, if◌then◌else◌, List, codes}
use Rattle.std.specs.Str.{bytes_eq}
use Rattle.aom_language_server.specs.declared.server.Stage.{Stage}
use Rattle.aom_language_server.specs.declared.server.Stage.TheVariants.{Ending, Fresh, Running}

-- `shutdown` has come
abbrev pub is_ending : Stage → Bool
is_ending Ending = true
is_ending stage = false

-- the stage behind a request: `initialize` begins a session, and `shutdown` ends one that runs
abbrev pub stage_behind : Stage → (method : List ℕ) → Stage
stage_behind Fresh method = if bytes_eq method (codes "initialize") then Running else Fresh
stage_behind Running method = if bytes_eq method (codes "shutdown") then Ending else Running
stage_behind Ending method = Ending
