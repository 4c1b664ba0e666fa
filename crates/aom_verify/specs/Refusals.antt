-- What a refusal says.
use Rattle.std.specs.Prelude.{ℕ, ◌≡◌, ◌<◌, ◌++◌, List, IsSome, codes}
use Rattle.std.specs.Fmt.{decimal}
use Rattle.aom_image.specs.Image.{Image}
use Rattle.aom_image.specs.Views.{method_at, instr_at}
use Rattle.aom_abstract_state.specs.Whys.{why_number}
use Rattle.aom_static_bounds.specs.Shapes.{HasTyping}
use Rattle.aom_verify.specs.Arrivals.{FailsFor}
use Rattle.aom_verify.specs.declared.refusal.Refusal.{Refusal}
use Rattle.aom_verify.specs.declared.refusal.Refusal.TheVariants.{OutOfMemory, Refused}

-- the first method that has no typing
pub record IsFirstUntyped (p : Image) (m : ℕ) : Type 0 where
  pub method : IsSome (method_at p m)
  pub lower : (k : ℕ) → k < m → HasTyping p k
  pub none : ¬ HasTyping p m

-- why an image is refused: the method, one of its places, and why a state that arrives there is refused. Want of memory is no reason
abbrev pub Refuses : Image → Refusal → Type 0
Refuses p OutOfMemory = ⊥
Refuses p (Refused m place why) = IsFirstUntyped p m × IsSome (instr_at p m place) × FailsFor p m place why

-- what a refusal says of the image: why it is refused, or nothing, where memory was wanting
abbrev pub RefusesOrWants : Image → Refusal → Type 0
RefusesOrWants p OutOfMemory = Unit {0}
RefusesOrWants p (Refused m place why) = Refuses p (Refused m place why)

-- the same of one method
abbrev pub RefusesMethod : Image → ℕ → Refusal → Type 0
RefusesMethod p m OutOfMemory = Unit {0}
RefusesMethod p m (Refused method place why) = (method ≡ m) × (¬ HasTyping p m) × IsSome (instr_at p m place) × FailsFor p m place why

-- the line by which a refusal is told
abbrev pub line_of : Refusal → List ℕ
line_of OutOfMemory = codes "memory"
line_of (Refused m place why) = codes "verify " ++ decimal m ++ codes " " ++ decimal place ++ codes " " ++ decimal (why_number why)
