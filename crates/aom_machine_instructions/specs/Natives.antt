-- How a request at a native begins.
use Rattle.std.specs.Prelude.{ℤ, Option, Some, None}
use Rattle.aom_semantics.specs.Requests.{pending, recorded}

-- the status with which it begins: that of a code, if it is completed as it is made
abbrev pub begins_with : Option ℤ → ℤ
begins_with None = pending
begins_with (Some code) = recorded code
