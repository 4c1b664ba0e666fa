-- Instructions on objects.
use Rattle.std.specs.Prelude.{ℕ, ℤ, pos, Bool, true, false, List, [], ◌∷◌, Option, Some, None, is_some, is_none, replicate}
use Rattle.aom_image.specs.Image.{Image}
use Rattle.aom_image.specs.declared.method.Thing.{Thing}
use Rattle.aom_roles.specs.Things.{is_subtype, field_thing, holder_of, words_of, is_object}
use Rattle.aom_image.specs.Views.{method_role}
use Rattle.aom_image.specs.declared.method.Role.TheVariants.{Service as Attends}
use Rattle.aom_roles.specs.Shapes.{is_role}
use Rattle.aom_semantics.specs.Places.{Object, held, Elsewhere, In_service}
use Rattle.aom_semantics.specs.State.{Frame, Task, State, Choice, Need, Orphan, WrongKind, word, field_place, NullOrDead}
use Rattle.aom_semantics.specs.Words.{here, needs_unowning, needs_written}

-- what may stand for that thing, or nothing
abbrev pub is_thing : Image → Thing → Option Object → Bool
is_thing p t None = true
is_thing p t (Some o) = is_subtype p o.thing t

abbrev pub is_declared_thing : Image → Option Thing → Option Object → Bool
is_declared_thing p None o = false
is_declared_thing p (Some t) o = is_thing p t o

-- an object or nothing, and no message
abbrev pub is_no_message : Option Object → Bool
is_no_message None = true
is_no_message (Some o) = is_object o.thing

-- the words of a new object
abbrev pub no_words : Image → ℕ → List ℤ
no_words p x = replicate (words_of p x) (pos 0)

module _ (p : Image) (c : Choice) (fr : Frame) (ts : List Task) (s : State) where
  abbrev pub needs_move : ℕ → ℕ → List Need
  needs_move a b = (is_none (word fr b), WrongKind) ∷ needs_written fr ts s a

  abbrev pub needs_jump_null : ℕ → List Need
  needs_jump_null a = (is_none (word fr a), WrongKind) ∷ []

  -- the method's class declares such a field, whatever class the object is of
  abbrev pub needs_field : ℕ → Need
  needs_field f = (is_some (field_thing p (holder_of p fr.method) f), WrongKind)

  abbrev pub needs_jump_empty : ℕ → List Need
  needs_jump_empty f = needs_field f ∷ []

  abbrev pub needs_take : ℕ → ℕ → List Need
  needs_take a f = needs_unowning fr ts s a ∷ needs_field f ∷ []

  abbrev pub needs_put : ℕ → ℕ → List Need
  needs_put f b =
      (is_none (word fr b), WrongKind)
      ∷ (is_declared_thing p (field_thing p (holder_of p fr.method) f) (held s.cells (here fr ts s b)), WrongKind)
      ∷ (is_none (held s.cells (field_place fr.receiver f)), Orphan)
      ∷ []

  -- the method serves a message, and has not taken it yet
  abbrev pub needs_take_message : ℕ → List Need
  needs_take_message a = needs_unowning fr ts s a ∷ (is_role Attends (method_role p fr.method), NullOrDead) ∷ (is_some (held s.cells (Elsewhere In_service)), NullOrDead) ∷ []

  abbrev pub needs_delete : ℕ → List Need
  needs_delete a = (is_none (word fr a), WrongKind) ∷ (is_no_message (held s.cells (here fr ts s a)), WrongKind) ∷ []
