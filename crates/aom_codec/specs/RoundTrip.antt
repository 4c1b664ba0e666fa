-- Bytes and images, both ways: statements that hold of the definitions alone.
use Rattle.std.specs.Prelude.{◌≡◌, ℕ, ◌<◌, List, length, All, Ok}
use Rattle.aom_image.specs.Image.{Image}
use Rattle.aom_codec.specs.Serialization.{serialize}
use Rattle.aom_image.specs.WellFormed.{WellFormed, serialized_size}
use Rattle.aom_codec.specs.Format.{read_image}

-- a well-formed image is spelled in as many bytes as its counts say
abbrev pub SerializationHasItsSize : Type 0
SerializationHasItsSize = (i : Image) → WellFormed i → length (serialize i) ≡ serialized_size i.header.version (length i.classes) i.methods

-- what a well-formed image is spelled as reads as that image
abbrev pub SerializationReadsBack : Type 0
SerializationReadsBack = (i : Image) → WellFormed i → read_image (serialize i) ≡ Ok i

-- what bytes read as is well formed, and is spelled as those bytes
abbrev pub ReadingSerializesBack : Type 0
ReadingSerializesBack = (bytes : List ℕ) (i : Image) → All (λ b. b < 256) bytes → read_image bytes ≡ Ok i → WellFormed i × (serialize i ≡ bytes)
