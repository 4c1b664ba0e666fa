-- A class and those that it descends from.
use Rattle.std.specs.Prelude.{◌≡◌, ℕ, zero, suc, Bool, false, ◌==◌, ◌||◌, nat_lt, cond, All, Option, Some, None, length}
use Rattle.aom_image.specs.Image.{Image}
use Rattle.aom_image.specs.Views.{class_at, method_class, fields_of}
use Rattle.aom_image.specs.declared.class.ClassDecl.{ClassDecl}

unfoldable pub parent_in : Option ClassDecl → Option ℕ
parent_in None = None
parent_in (Some d) = d.parent

-- a lower one, or none
abbrev pub lower : ℕ → Option ℕ → Option ℕ
lower c None = None
lower c (Some d) = cond (nat_lt d c) (Some d) None

-- the parent of a class, which is lower: a linked image declares no other
abbrev pub parent_of : Image → ℕ → Option ℕ
parent_of p c = lower c (parent_in (class_at p c))

-- that class is among a class and so many generations above it
unfoldable pub descends_in : Image → ℕ → Option ℕ → ℕ → Bool
descends_in p n None d = false
descends_in p zero (Some c) d = c == d
descends_in p (suc n) (Some c) d = (c == d) || descends_in p n (parent_of p c) d

-- a class is that one, or descends from it; each generation has a lower number, so its own number is enough of them
abbrev pub descends : Image → ℕ → ℕ → Bool
descends p c d = descends_in p c (Some c) d

-- no class has a parent
abbrev pub HasNoParents : Image → Type 0
HasNoParents p = All (λ d. d.parent ≡ None) p.classes

-- the parent of a class, if there is one
abbrev pub parent_by : Image → Option ℕ → Option ℕ
parent_by p None = None
parent_by p (Some c) = parent_of p c

-- the parent of a method's class
abbrev pub parent_above : Image → ℕ → Option ℕ
parent_above p m = parent_by p (method_class p m)

-- how many fields a class has of its parent
abbrev pub fields_above : Image → Option ℕ → ℕ
fields_above p None = 0
fields_above p (Some e) = length (fields_of p e)
