-- The versions of the image format: what each has.
use Rattle.std.specs.Prelude.{ℕ, Bool, true, false}
use Rattle.aom_instructions.specs.declared.version.Version.{Version}
use Rattle.aom_instructions.specs.declared.version.Version.TheVariants.{One, Two}

-- what is there from the second version on is there in that one
abbrev pub includes : Version → Version → Bool
includes One One = true
includes One Two = false
includes Two since = true

-- the first version has no parents and no overriders
abbrev pub has_families : Version → Bool
has_families One = false
has_families Two = true

-- four bytes more of a class and of a method tell of them
abbrev pub family_bytes : Version → ℕ
family_bytes One = 0
family_bytes Two = 4
