-- The most that a call may run, and the most that goes where an object of a class is declared.
use Rattle.std.specs.Prelude.{ℕ, zero, suc, ◌+◌, max, Bool, cond, length, Option, Some, None}
use Rattle.aom_image.specs.Image.{Image}
use Rattle.aom_image.specs.declared.method.Role.TheVariants.{Destruct}
use Rattle.aom_image.specs.declared.method.Thing.{Thing}
use Rattle.aom_image.specs.declared.method.Thing.TheVariants.{Object, Message}
use Rattle.aom_roles.specs.Families.{descends, parent_of, parent_above}
use Rattle.aom_link_conditions.specs.Overriding.{overrides}
use Rattle.aom_link_conditions.specs.Roles.{own_role}

-- ---- the most of numbers

-- the most over the numbers below one that count
abbrev pub most_of : (ℕ → Bool) → (ℕ → ℕ) → ℕ → ℕ
most_of counts f zero = 0
most_of counts f (suc n) = max (cond (counts n) (f n) 0) (most_of counts f n)

-- over what a call of a method may run
abbrev pub most_run : Image → (ℕ → ℕ) → ℕ → ℕ
most_run p f m = max (f m) (most_of (λ k. overrides p k m) f (length p.methods))

-- over a class and those that descend from it
abbrev pub most_below : Image → (ℕ → ℕ) → ℕ → ℕ
most_below p f c = max (f c) (most_of (λ y. descends p y c) f (length p.classes))

-- over what may stand where a thing is declared
abbrev pub most_standing : Image → (Thing → ℕ) → Thing → ℕ
most_standing p f (Object c) = most_below p (λ y. f (Object y)) c
most_standing p f Message = f Message

-- ---- lines of destructors

-- the destructors of a class and of so many generations above it, each where it has one
abbrev pub line_in : Image → (Option ℕ → ℕ) → ℕ → Option ℕ → ℕ
line_in p cost n None = 0
line_in p cost zero (Some c) = cost (own_role p c Destruct)
line_in p cost (suc n) (Some c) = cost (own_role p c Destruct) + line_in p cost n (parent_of p c)

-- what runs as a thing goes, one after the other
abbrev pub line : Image → (Option ℕ → ℕ) → Thing → ℕ
line p cost (Object c) = line_in p cost c (Some c)
line p cost Message = 0

-- from a class on, or from none
abbrev pub line_from : Image → (Option ℕ → ℕ) → Option ℕ → ℕ
line_from p cost None = 0
line_from p cost (Some c) = line p cost (Object c)

-- what of a line runs behind that destructor
abbrev pub line_after : Image → (Option ℕ → ℕ) → ℕ → ℕ
line_after p cost m = line_from p cost (parent_above p m)
