-- A word of an object is there where its class has that many.
use Rattle.std.proofs.Common.{◌≡◌, ◌∙◌, ◌<◌, ℕ, cond, List, Option, Some, None, ap, sym}
use Rattle.std.proofs.lemmas.Bool.{lt-ltb}
use Rattle.aom_image.specs.Image.{Image}
use Rattle.aom_roles.specs.Things.{words_of}
use Rattle.aom_semantics.specs.Places.{Cell, Object, word_field}
use Rattle.aom_debug_protocol.specs.declared.answer.Answer.TheVariants.{Word}
use Rattle.aom_debug_views.specs.CellViews.{class_in}
use Rattle.aom_debug_paths.specs.declared.following.Found.{Found}
use Rattle.aom_debug_paths.specs.Paths.{IsFound}
use Rattle.aom_debug_paths.specs.Variables.{word_by_class, word_of_owned}

pub word_has : (p : Image) (cs : List Cell) (n class i : ℕ) → i < words_of p class → Some (Word i (word_field cs n i)) ≡ word_by_class p cs n (Some class) i
word_has p cs n class i less = sym (ap (λ b. cond b (Some (Word i (word_field cs n i))) None) (lt-ltb i (words_of p class) less))

-- of the object that was found
pub word_found : (p : Image) (cs : List Cell) (x : Option Object) (f : Found) (i : ℕ) → IsFound x (Some f) →
    word_by_class p cs f.cell (Some f.class) i ≡ word_of_owned p cs x i
word_found p cs x f i is = sym (ap (λ y. word_of_owned p cs y i) is.1 ∙ ap (λ t. word_by_class p cs is.0.name (class_in t) i) is.2
    ∙ ap (λ n. word_by_class p cs n (Some f.class) i) is.3)
