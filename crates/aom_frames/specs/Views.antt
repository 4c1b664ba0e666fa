-- As what the object of a method counts.
use Rattle.std.specs.Prelude.{ℕ, false, true, cond, Option, None, Some}
use Rattle.aom_frames.specs.declared.view.View.{View}

-- as its own class
abbrev pub own : View
own = record { is_above = false; class = 0 }

-- as that class, which stands above its own
abbrev pub above : ℕ → View
above c = record { is_above = true; class = c }

-- as the class that a method is of, and one that is of none as its own
abbrev pub view_in : Option ℕ → View
view_in None = own
view_in (Some c) = above c

-- the class above its own as which it counts, if it counts as one
abbrev pub class_above : View → Option ℕ
class_above v = cond v.is_above (Some v.class) None
