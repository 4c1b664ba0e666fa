-- The class of a method, from what the list of methods has at its number.
use Rattle.std.proofs.Common.{◌≡◌, ℕ, ◌<◌, ◌≤◌, List, None, length, slice_index_or, refl}
use Rattle.std.proofs.lemmas.Option.{slice_get_past, slice_get_read}
use Rattle.aom_image.specs.Image.{Image}
use Rattle.aom_image.specs.Views.{class_in, method_at, method_class}
use Rattle.aom_image.specs.declared.method.Method.{Method}

pub class_found : (p : Image) (ms : List Method) (m i : ℕ) (d : Method) → ms ≡ p.methods → i ≡ m → i < length ms → d ≡ slice_index_or ms i d →
    d.class ≡ method_class p m
unfolding class_in method_at
class_found p ms m i d e f lt at = rw (← e, ← f, slice_get_read ms (length ms) i d refl lt at) refl

pub class_past : (p : Image) (ms : List Method) (m i : ℕ) → ms ≡ p.methods → i ≡ m → length ms ≤ i → None ≡ method_class p m
unfolding class_in method_at
class_past p ms m i e f past = rw (← e, ← f, slice_get_past ms i past) refl
