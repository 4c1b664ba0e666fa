-- What a place may own, by what is declared.
use Rattle.std.specs.Prelude.{ℕ, zero, suc, Bool, true, false, ◌==◌, Option, Some, None, option_map, slice_get}
use Rattle.aom_image.specs.Image.{Image}
use Rattle.aom_image.specs.Views.{class_at, fields_of, method_class, method_role}
use Rattle.aom_image.specs.declared.class.ClassDecl.{ClassDecl}
use Rattle.aom_roles.specs.Families.{descends}
use Rattle.aom_image.specs.declared.method.Role.{Role}
use Rattle.aom_image.specs.declared.method.Role.TheVariants.{Main}
use Rattle.aom_image.specs.declared.method.Thing.{Thing}
use Rattle.aom_image.specs.declared.method.Thing.TheVariants.{Object, Message}

abbrev pub same_thing : Thing → Thing → Bool
same_thing (Object c) (Object d) = c == d
same_thing (Object c) Message = false
same_thing Message (Object d) = false
same_thing Message Message = true

-- a thing of the first kind may stand where one of the second is declared
abbrev pub is_subtype : Image → Thing → Thing → Bool
is_subtype p (Object c) (Object d) = descends p c d
is_subtype p (Object c) Message = false
is_subtype p Message (Object d) = false
is_subtype p Message Message = true

-- whose owning fields a method works on: nobody's, the root as main's only field, or those of an object of a class
pub data Holder : Type 0 where
  Nobody : Holder
  Program : Holder
  Member : (class : ℕ) → Holder

abbrev pub same_holder : Holder → Holder → Bool
same_holder Nobody Nobody = true
same_holder Nobody Program = false
same_holder Nobody (Member d) = false
same_holder Program Nobody = false
same_holder Program Program = true
same_holder Program (Member d) = false
same_holder (Member c) Nobody = false
same_holder (Member c) Program = false
same_holder (Member c) (Member d) = c == d

abbrev pub root_thing : Option ℕ → ℕ → Option Thing
root_thing root zero = option_map Object root
root_thing root (suc f) = None

-- what is declared of a field
abbrev pub field_thing : Image → Holder → ℕ → Option Thing
field_thing p Nobody f = None
field_thing p Program f = root_thing p.header.root f
field_thing p (Member c) f = slice_get (fields_of p c) f

unfoldable pub words_in : Option ClassDecl → ℕ
words_in None = 0
words_in (Some c) = c.words

-- how many words an object of a class has
abbrev pub words_of : Image → ℕ → ℕ
words_of p c = words_in (class_at p c)

-- how many words a method works on
abbrev pub word_count : Image → Holder → ℕ
word_count p Nobody = 0
word_count p Program = 0
word_count p (Member c) = words_of p c

abbrev pub holder_by : Option Role → Option ℕ → Holder
holder_by (Some Main) c = Program
holder_by _ None = Nobody
holder_by _ (Some c) = Member c

-- whose fields a method works on
abbrev pub holder_of : Image → ℕ → Holder
holder_of p m = holder_by (method_role p m) (method_class p m)

abbrev pub is_object : Thing → Bool
is_object (Object c) = true
is_object Message = false
