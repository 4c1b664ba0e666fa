-- Every message has a sender or is a token, nothing else has or is one, and what is served has a sender: by what the cells have that stay.
use Rattle.std.proofs.lemmas.Bool.Decides.{nat_tests}
use Rattle.std.proofs.Common.{Bool, List, Option, Some, ap, arith, false, sym, true, ℕ, ◌∙◌, ◌≡◌}
use Rattle.std.specs.Prelude.{is_some}
use Rattle.aom_safety.proofs.FilteredCells.{cell_lives, cell_of, held_cell, named_before, named_cell, object_in}
use Rattle.aom_safety.proofs.FilteredCells.{placed_before, service_cell, service_in, service_filtered_cells, filtered_cells}
use Rattle.aom_safety.specs.Kept.{HasSources, ServesSent, one_if_some, sources_of}
use Rattle.aom_semantics.specs.Places.{Cell, Elsewhere, In_service, Object, Sender, Service, NoDuplicates, held, named, service_of}
use Rattle.aom_semantics.specs.Servers.{discarded, is_from, slot_released}

abbrev pub has_sender : List Cell → ℕ → Bool
has_sender cs n = is_some (service_of cs n).sender

abbrev pub sources_at : List Cell → ℕ → ℕ
sources_at cs n = sources_of (service_of cs n)

-- ---- senders

pub from_some : (c : ℕ) (x : Option Sender) → is_from c x ≡ true → is_some x ≡ true
from_some c x e = grind arith

pub discarded_some : (c : ℕ) (x : Option Sender) → is_some (discarded c x) ≡ is_some x
discarded_some c x = grind arith

pub slot_released_some : (c : ℕ) (x : Option Sender) → is_some (slot_released c x) ≡ is_some x
slot_released_some c x = grind arith

-- and as many sources
pub discarded_one : (c : ℕ) (x : Option Sender) → one_if_some (discarded c x) ≡ one_if_some x
discarded_one c x = grind arith

pub slot_released_one : (c : ℕ) (x : Option Sender) → one_if_some (slot_released c x) ≡ one_if_some x
slot_released_one c x = grind arith

-- ---- the same have a sender, or are a token

module _ (cs cs' : List Cell) where
  pub sources_as : ((n : ℕ) → sources_at cs' n ≡ sources_at cs n) → ((o : Object) → named cs' o.name ≡ Some o → named cs o.name ≡ Some o) →
      HasSources cs → HasSources cs'
  sources_as same before sources o there = same o.name ∙ sources o (before o there)

  pub served_as : ((n : ℕ) → has_sender cs' n ≡ has_sender cs n) →
      ((o : Object) → held cs' (Elsewhere In_service) ≡ Some o → held cs (Elsewhere In_service) ≡ Some o) → ServesSent cs → ServesSent cs'
  served_as same before served o there = same o.name ∙ served o (before o there)

-- ---- some cells go, and those that stay keep that

module _ (drops : Cell → Bool) (f : Cell → Service) where
  stays_as : {A : Type 0} (read : Service → A) → ((c : Cell) → read (f c) ≡ read c.service) → (cs : List Cell) →
      NoDuplicates cs → (n : ℕ) (c : Cell) → cell_of cs n ≡ Some c → drops c ≡ false → read (service_of (filtered_cells drops f cs) n) ≡ read (service_of cs n)
  stays_as read keeps cs no_duplicates n c here stays = grind (arith, nat_tests, service_filtered_cells, service_cell, service_in)

  pub sources_filtered_cells : ((c : Cell) → sources_of (f c) ≡ sources_of c.service) → (cs : List Cell) → NoDuplicates cs → HasSources cs → HasSources (filtered_cells drops f cs)
  sources_filtered_cells keeps cs no_duplicates sources o there =
      let b = named_before drops f cs o.name o no_duplicates there in
      stays_as sources_of keeps cs no_duplicates o.name b.0 b.1 b.3 ∙ sources o (named_cell cs o.name ∙ ap object_in b.1 ∙ ap (λ y. Some y) b.2)

  pub served_filtered_cells : ((c : Cell) → is_some (f c).sender ≡ is_some c.service.sender) → (cs : List Cell) → NoDuplicates cs → ServesSent cs → ServesSent (filtered_cells drops f cs)
  served_filtered_cells keeps cs no_duplicates served o there =
      let b = placed_before drops f cs (Elsewhere In_service) o no_duplicates there in
      let here : cell_of cs o.name ≡ Some b.0 = ap (λ y. cell_of cs y.name) (sym b.2) ∙ cell_lives cs (Elsewhere In_service) b.0 no_duplicates b.1 in
      stays_as (λ v. is_some v.sender) keeps cs no_duplicates o.name b.0 here b.3 ∙ served o (grind (arith, nat_tests, held_cell, object_in))
