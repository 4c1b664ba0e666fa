-- Why a file is not read.
use Rattle.std.specs.Prelude.{ℕ, ◌≡◌, List}
use Rattle.aom_host.specs.declared.files.ReadError.{ReadError}
use Rattle.aom_host.specs.declared.files.ReadError.TheVariants.{File, Memory}

-- the file of that name is told, or memory is wanting
abbrev pub IsOf : (name : List ℕ) → ReadError → Type 0
IsOf name (File reported why) = reported.now ≡ name
IsOf name Memory = Unit {0}
