-- What a reader returned, seen by view, is what reading gives.
use Rattle.std.specs.Prelude.{◌≡◌, ◌≢◌, ◌≤◌, ℕ, List, IfOk, Result, Ok, Err}
use Rattle.aom_image.specs.Image.{Image}
use Rattle.aom_codec.specs.Codec.{Codec, limited}
use Rattle.aom_codec.specs.declared.fault.LoadFault.{LoadFault}
use Rattle.aom_codec.specs.declared.fault.LoadFault.TheVariants.{OutOfMemory}

abbrev pub Reads : {X Y : Type 0} → (X → Y) → Result X LoadFault → Result Y LoadFault → Type 0
Reads view result read = elim result [ Ok x ↦ read ≡ Ok (view x) | Err e ↦ read ≡ Err e ]

-- the same of a number that is a count or a limit, which lies in its range
pub record ReadsWithin (c : Codec ℕ) (low high : ℕ) (old new : List ℕ) (result : Result ℕ LoadFault) : Type 0 where
  pub read : Reads (λ n. (n, new)) result ((limited c low high).read old)
  pub within : IfOk result (λ n. (low ≤ n) × (n ≤ high))

-- the same, unless memory ran out
abbrev pub ReadsOrNoMemory : {X Y : Type 0} → (X → Y) → Result X LoadFault → Result Y LoadFault → Type 0
ReadsOrNoMemory view result read = elim result [ Ok x ↦ read ≡ Ok (view x) | Err e ↦ e ≢ OutOfMemory → read ≡ Err e ]

-- decoding answered this image, or memory ran out
abbrev pub DecodesTo : Image → Result Image LoadFault → Type 0
DecodesTo i (Ok r) = r ≡ i
DecodesTo i (Err e) = e ≡ OutOfMemory
