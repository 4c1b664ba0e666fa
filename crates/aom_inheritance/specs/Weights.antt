-- What an object may own is of a class that weighs less, by the numbers of destructors: a class's own number says nothing of that.
use Rattle.std.specs.Prelude.{ℕ, zero, suc, ◌*◌, max, Bool, nat_lt, cond, length, Option, Some, None}
use Rattle.aom_image.specs.Image.{Image}
use Rattle.aom_image.specs.declared.method.Role.TheVariants.{Destruct}
use Rattle.aom_roles.specs.Classes.{sessions_at}
use Rattle.aom_link_conditions.specs.Roles.{role_of}

abbrev pub weight_by : Option ℕ → ℕ
weight_by None = 0
weight_by (Some m) = 2 * suc m

abbrev pub own_weight : Image → ℕ → ℕ
own_weight p c = weight_by (role_of p c Destruct)

-- a server weighs more than its sessions
abbrev pub sessions_weight : Image → Option ℕ → ℕ
sessions_weight p None = 0
sessions_weight p (Some s) = suc (own_weight p s)

abbrev pub weight : Image → ℕ → ℕ
weight p c = max (own_weight p c) (sessions_weight p (sessions_at p c))

-- how many numbers below n pass
unfoldable pub count_below : (ℕ → Bool) → ℕ → ℕ
count_below test zero = 0
count_below test (suc n) = cond (test n) (suc (count_below test n)) (count_below test n)

-- how many classes weigh less
abbrev pub generation : Image → ℕ → ℕ
generation p c = count_below (λ x. nat_lt (weight p x) (weight p c)) (length p.classes)
