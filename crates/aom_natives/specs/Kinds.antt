-- The words that name natives.
use Rattle.std.specs.Prelude.{ℕ, List, codes}
use Rattle.aom_natives.specs.declared.kind.NativeKind.{NativeKind}
use Rattle.aom_natives.specs.declared.kind.NativeKind.TheVariants.{Counter, Line, Delay}

-- the word of a kind
abbrev pub word_of : NativeKind → List ℕ
word_of Counter = codes "counter"
word_of Line = codes "line"
word_of Delay = codes "delay"
