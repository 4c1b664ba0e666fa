-- What refusals of methods say of the image.
use Rattle.std.proofs.Common.{◌≡◌, ℕ, ◌<◌, IsSome, refl}
use Rattle.aom_image.specs.Image.{Image}
use Rattle.aom_image.specs.Views.{method_at}
use Rattle.aom_typing_rules.specs.Typing.{Typing, IsTyped}
use Rattle.aom_static_bounds.specs.Shapes.{HasTyping}
use Rattle.aom_verify.proofs.StaticBoundsLemmas.{method_typed}
use Rattle.aom_verify.specs.Refusals.{RefusesMethod, RefusesOrWants}
use Rattle.aom_verify.specs.declared.refusal.Refusal.{Refusal}
use Rattle.aom_verify.specs.declared.refusal.Refusal.TheVariants.{OutOfMemory, Refused}

-- the methods below are typed, and this one is refused
pub refuses : (p : Image) (m : ℕ) (r : Refusal) → IsSome (method_at p m) → ((k : ℕ) → k < m → HasTyping p k) → RefusesMethod p m r → RefusesOrWants p r
refuses p m OutOfMemory some lower h = tt
refuses p m (Refused method place why) some lower h = rw h.0 (record { method = some; lower = lower; none = h.1 }, h.2, h.3)

-- a typed image is refused for want of memory alone
pub only_memory : (p : Image) (r : Refusal) (t : Typing) → RefusesOrWants p r → IsTyped p t → r ≡ OutOfMemory
only_memory p OutOfMemory t h typed = refl
only_memory p (Refused method place why) t h typed = absurd (h.0.none (method_typed p t method typed h.0.method))
