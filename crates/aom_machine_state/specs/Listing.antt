-- The servers of each class, in the order in which they were enlisted.
use Rattle.std.specs.Prelude.{◌≡◌, ◌<◌, ◌&&◌, ℕ, Bool, false, AllPairs, List, Option, Some, None, length}
use Rattle.aom_image.specs.Image.{Image}
use Rattle.aom_clients.specs.Lists.{Table, list_at}
use Rattle.aom_semantics.specs.Clients.{is_of_class}
use Rattle.aom_semantics.specs.Places.{Cell, Object, Request, named, requested}
use Rattle.aom_semantics.specs.Servers.{is_among, is_server}

-- how many were enlisted before
abbrev pub order_in : Option Request → ℕ
order_in None = 0
order_in (Some r) = r.order

-- it is a server of that class, and enlisted
abbrev pub lists : Image → ℕ → Option Object → Option Request → Bool
lists p class None r = false
lists p class (Some o) None = false
lists p class (Some o) (Some r) = is_server p o.thing && is_of_class class o.thing

abbrev pub is_listed : Image → List Cell → ℕ → ℕ → Bool
is_listed p cs class n = lists p class (named cs n) (requested cs n)

-- in the list of each class are its servers that are enlisted, by their numbers, and the one first that was enlisted first
pub record SameListed (p : Image) (t : Table) (cs : List Cell) : Type 0 where
  pub there : (n class : ℕ) → is_among n (list_at t class) ≡ is_listed p cs class n
  pub order : (class : ℕ) → AllPairs (λ a b. order_in (requested cs a) < order_in (requested cs b)) (list_at t class)
  pub classes : length t.lists ≡ 256
  pub nodes : t.nodes ≡ p.header.cells
