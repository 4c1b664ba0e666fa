-- Frames: which bytes are one, and what it brings.
use Rattle.std.specs.Prelude.{ℕ, ◌≡◌, ◌≤◌, ◌<◌, ◌+◌, ◌-◌, ◌^◌, ◌⊎◌, Bool, true, false, if◌then◌else◌, List, [], ◌∷◌, ◌++◌, codes, decimal, drop, length, min, take, Option, Some, None}
use Rattle.std.specs.Str.{bytes_eq}
use Rattle.aom_text.specs.Numbers.{number_of, number_within}
use Rattle.aom_text.specs.Text.{lines_of}
use Rattle.aom_text.specs.declared.number.Number.{Number}
use Rattle.aom_message_framing.specs.declared.frames.Frame.{Frame}
use Rattle.aom_message_framing.specs.declared.frames.Frame.TheVariants as brings
use Rattle.aom_message_framing.specs.declared.frames.Frames.{Frames}
use Rattle.aom_message_framing.specs.declared.frames.Stage.{Stage}
use Rattle.aom_message_framing.specs.declared.frames.Stage.TheVariants as stages

-- ---- heads

-- its last line is an empty one
abbrev pub is_whole : List ℕ → Bool
is_whole head = bytes_eq (drop (length head - 4) head) (codes "\r\n\r\n")

-- none of the beginnings of these bytes is whole, themselves among them
pub record HasNoHead (bytes : List ℕ) : Type 0 where
  pub none : (k : ℕ) → k ≤ length bytes → is_whole (take k bytes) ≡ false

-- a head is whole where its last byte comes, and not before
pub record IsHead (head : List ℕ) : Type 0 where
  pub whole : is_whole head ≡ true
  pub first : (k : ℕ) → k < length head → is_whole (take k head) ≡ false
  pub few : length head ≤ 2 ^ 13

-- a number without a minus, below 2^50
abbrev pub size_of : Option Number → Option ℕ
size_of None = None
size_of (Some n) = if n.is_negative then None else number_within 0 (2 ^ 50 - 1) n

-- what stands before the carriage return at the end
abbrev pub without_return : List ℕ → List ℕ
without_return value = if bytes_eq (drop (length value - 1) value) (codes "\r") then take (length value - 1) value else value

-- the length that a line says, if it is the field of that
abbrev pub length_in : List ℕ → Option ℕ
length_in line =
    if bytes_eq (take (min (length line) 16) line) (codes "Content-Length: ") then size_of (number_of (without_return (drop (min (length line) 16) line)))
    else None

abbrev pub length_before : Option ℕ → Option ℕ → Option ℕ
length_before (Some length) later = Some length
length_before None later = later

-- the length that lines say first
abbrev pub first_length : List (List ℕ) → Option ℕ
first_length [] = None
first_length (line ∷ lines) = length_before (length_in line) (first_length lines)

-- the length that a head says
abbrev pub announced : List ℕ → Option ℕ
announced head = first_length (lines_of head)

-- ---- frames

-- a whole head, and as many bytes as it says
pub record HasLength (frame head message : List ℕ) : Type 0 where
  pub whole : IsHead head
  pub says : announced head ≡ Some (length message)
  pub is : frame ≡ head ++ message

-- a head that says no length, or the first 8,192 bytes of one that is not whole
abbrev pub SaysNoLength : List ℕ → Type 0
SaysNoLength frame = (IsHead frame × (announced frame ≡ None)) ⊎ (HasNoHead frame × (length frame ≡ 2 ^ 13))

-- these bytes are a frame, which brings that: a message of at most 4 MiB, the end of a longer one, or no length
abbrev pub IsFrame : List ℕ → Frame → Type 0
IsFrame bytes (brings.Message message) = ((head : List ℕ) × HasLength bytes head message.items) × (length message.items ≤ 2 ^ 22)
IsFrame bytes brings.TooLong = (head : List ℕ) × (message : List ℕ) × HasLength bytes head message × (2 ^ 22 < length message)
IsFrame bytes brings.NoLength = SaysNoLength bytes

-- ---- what has come of a frame that is not whole yet

-- of a message that has so many bytes, these have come
pub record IsBegun (bytes head begun : List ℕ) (size : ℕ) : Type 0 where
  pub whole : IsHead head
  pub says : announced head ≡ Some size
  pub is : bytes ≡ head ++ begun
  pub more : length begun < size

-- of a head, these have come
pub record IsOfHead (bytes : List ℕ) : Type 0 where
  pub none : HasNoHead bytes
  pub few : length bytes < 2 ^ 13

abbrev pub StandsAt : List ℕ → Stage → List ℕ → Type 0
StandsAt bytes stages.Head kept = IsOfHead bytes × (kept ≡ bytes)
StandsAt bytes (stages.Message size) kept = ((head : List ℕ) × IsBegun bytes head kept size) × (size ≤ 2 ^ 22)
StandsAt bytes (stages.Passing left) kept = ((head : List ℕ) × (begun : List ℕ) × (IsBegun bytes head begun (length begun + left)) × (2 ^ 22 < length begun + left)) × (kept ≡ [])

-- these bytes have come, and no frame is whole in them
abbrev pub Stands : List ℕ → Frames → Type 0
Stands bytes f = StandsAt bytes f.stage f.bytes.items

-- with these bytes a frame is whole, and nothing has come of the next; or none is whole yet
abbrev pub Hears : List ℕ → Option Frame → Frames → Type 0
Hears bytes (Some frame) f = IsFrame bytes frame × Stands [] f
Hears bytes None f = Stands bytes f

-- ---- what is written

-- the frame of a message
abbrev pub frame_text : List ℕ → List ℕ
frame_text message = ((codes "Content-Length: " ++ decimal (length message)) ++ codes "\r\n\r\n") ++ message
