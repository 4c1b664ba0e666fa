-- Cells of which some go, and at the others clients have something else: by the cells one after another.
use Rattle.std.proofs.lemmas.Bool.Decides.{nat_tests}
use Rattle.std.proofs.Common.{arith, Bool, List, None, Option, Some, [], ap, cond, false, refl, subst, sym, true, ℕ, ◌&&◌, ◌==◌, ◌∙◌, ◌∷◌, ◌≡◌}
use Rattle.std.proofs.lemmas.Bool.{eq-eqb, eqb-true, ne_eqb}
use Rattle.std.proofs.lemmas.Option.{none-some}
use Rattle.aom_safety.proofs.SemanticsLemmas.{Finds, found, same_place-true, same_place_refl}
use Rattle.aom_semantics.specs.Places.{Cell, Object, Place, Request, Service, NoDuplicates, held, named, requested, same_place, service_of, unserved}
use Rattle.aom_semantics.specs.Servers.{all_slot_released, is_from, is_queue, is_queue_of, left_by, slot_released, without_queue, withdrawn}

-- ---- the cell in a place, and the cell of a name

abbrev pub cell_in : List Cell → Place → Option Cell
cell_in [] q = None
cell_in (c ∷ cs) q = cond (same_place c.owner q) (Some c) (cell_in cs q)

abbrev pub cell_of : List Cell → ℕ → Option Cell
cell_of [] n = None
cell_of (c ∷ cs) n = cond (c.object.name == n) (Some c) (cell_of cs n)

abbrev pub object_in : Option Cell → Option Object
object_in None = None
object_in (Some c) = Some c.object

abbrev pub request_in : Option Cell → Option Request
request_in None = None
request_in (Some c) = c.request

abbrev pub service_in : Option Cell → Service
service_in None = unserved
service_in (Some c) = c.service

-- what is read at one of two cells is what is read of the first, or of the others
either_in : {A : Type 0} (read : Option Cell → A) (b : Bool) (c : Cell) (rest : A) (others : Option Cell) → rest ≡ read others →
    cond b (read (Some c)) rest ≡ read (cond b (Some c) others)
either_in read x c rest others e = grind arith

pub held_cell : (cs : List Cell) (q : Place) → held cs q ≡ object_in (cell_in cs q)
held_cell [] q = refl
held_cell (c ∷ cs) q = either_in object_in (same_place c.owner q) c (held cs q) (cell_in cs q) (held_cell cs q)

pub named_cell : (cs : List Cell) (n : ℕ) → named cs n ≡ object_in (cell_of cs n)
named_cell [] n = refl
named_cell (c ∷ cs) n = either_in object_in (c.object.name == n) c (named cs n) (cell_of cs n) (named_cell cs n)

pub requested_cell : (cs : List Cell) (n : ℕ) → requested cs n ≡ request_in (cell_of cs n)
requested_cell [] n = refl
requested_cell (c ∷ cs) n = either_in request_in (c.object.name == n) c (requested cs n) (cell_of cs n) (requested_cell cs n)

pub service_cell : (cs : List Cell) (n : ℕ) → service_of cs n ≡ service_in (cell_of cs n)
service_cell [] n = refl
service_cell (c ∷ cs) n = either_in service_in (c.object.name == n) c (service_of cs n) (cell_of cs n) (service_cell cs n)

pub no_cell : (x : Option Cell) → object_in x ≡ None → x ≡ None
no_cell x e = grind arith

pub a_cell_of : (x : Option Cell) (o : Object) → object_in x ≡ Some o → (c : Cell) × (x ≡ Some c) × (c.object ≡ o)
a_cell_of x o e = grind arith

abbrev pub cells_in : (q : Place) → Finds (λ cs. cell_in cs q)
cells_in q = record { test = λ c. same_place c.owner q; of = λ c. c; none = refl; some = λ c cs. refl }

abbrev pub cells_of : (n : ℕ) → Finds (λ cs. cell_of cs n)
cells_of n = record { test = λ c. c.object.name == n; of = λ c. c; none = refl; some = λ c cs. refl }

pub cell_owner : (cs : List Cell) (q : Place) (c : Cell) → cell_in cs q ≡ Some c → c.owner ≡ q
cell_owner cs q c = found (cells_in q) c (λ cs. c.owner ≡ q) (λ x cs at is. subst (λ y. y.owner ≡ q) is (same_place-true x.owner q at))
    (λ x cs other e rest. rest) cs

pub cell_name : (cs : List Cell) (n : ℕ) (c : Cell) → cell_of cs n ≡ Some c → c.object.name ≡ n
cell_name cs n c = found (cells_of n) c (λ cs. c.object.name ≡ n) (λ x cs at is. subst (λ y. y.object.name ≡ n) is (eqb-true x.object.name n at))
    (λ x cs other e rest. rest) cs

-- what stands in a place is of its name, and stands in its owner's place
pub cell_lives : (cs : List Cell) (q : Place) (c : Cell) → NoDuplicates cs → cell_in cs q ≡ Some c → cell_of cs c.object.name ≡ Some c
cell_lives cs q c t e = found (cells_in q) c (λ cs. NoDuplicates cs → cell_of cs c.object.name ≡ Some c)
    (λ x cs at is t. ap (λ b. cond b (Some x) (cell_of cs c.object.name)) (eq-eqb x.object.name c.object.name (ap (λ y. y.object.name) is))
    ∙ ap (λ y. Some y) is) (λ x cs other e rest t. ap (λ b. cond b (Some x) (cell_of cs c.object.name)) (apart x cs t (rest t.2)) ∙ rest t.2) cs e t
  where
    apart : (x : Cell) (cs : List Cell) → NoDuplicates (x ∷ cs) → cell_of cs c.object.name ≡ Some c → (x.object.name == c.object.name) ≡ false
    apart x cs t there = ne_eqb x.object.name c.object.name (λ same.
        none-some c (sym (no_cell (cell_of cs c.object.name) (sym (named_cell cs c.object.name) ∙ ap (λ n. named cs n) (sym same) ∙ t.1)) ∙ there))

pub cell_placed : (cs : List Cell) (n : ℕ) (c : Cell) → NoDuplicates cs → cell_of cs n ≡ Some c → cell_in cs c.owner ≡ Some c
cell_placed cs n c t e = found (cells_of n) c (λ cs. NoDuplicates cs → cell_in cs c.owner ≡ Some c)
    (λ x cs at is t. ap (λ b. cond b (Some x) (cell_in cs c.owner)) (ap (λ y. same_place x.owner y.owner) (sym is) ∙ same_place_refl x.owner)
    ∙ ap (λ y. Some y) is) (λ x cs other e rest t. go x cs (same_place x.owner c.owner) refl t (rest t.2)) cs e t
  where
    go : (x : Cell) (cs : List Cell) (b : Bool) → same_place x.owner c.owner ≡ b → NoDuplicates (x ∷ cs) → cell_in cs c.owner ≡ Some c →
        cond b (Some x) (cell_in cs c.owner) ≡ Some c
    go x cs true same t there = absurd (none-some c
        (sym (no_cell (cell_in cs c.owner) (sym (held_cell cs c.owner) ∙ ap (λ q. held cs q) (sym (same_place-true x.owner c.owner same)) ∙ t.0)) ∙ there))
    go x cs false other t there = there

-- ---- some go

abbrev pub filtered_cells : (Cell → Bool) → (Cell → Service) → List Cell → List Cell
filtered_cells drops f [] = []
filtered_cells drops f (c ∷ cs) = cond (drops c) (filtered_cells drops f cs) (record c { service = f c } ∷ filtered_cells drops f cs)

module _ (drops : Cell → Bool) (f : Cell → Service) where
  abbrev pub kept : Option Cell → Option Cell
  kept None = None
  kept (Some c) = cond (drops c) None (Some (record c { service = f c }))

  pub cell_in_filtered_cells : (cs : List Cell) (q : Place) → NoDuplicates cs → cell_in (filtered_cells drops f cs) q ≡ kept (cell_in cs q)
  cell_in_filtered_cells [] q t = refl
  cell_in_filtered_cells (c ∷ cs) q t = grind (arith, nat_tests, cell_in_filtered_cells cs q t.2, no_cell, held_cell cs q, same_place-true c.owner q)

  pub cell_of_filtered_cells : (cs : List Cell) (n : ℕ) → NoDuplicates cs → cell_of (filtered_cells drops f cs) n ≡ kept (cell_of cs n)
  cell_of_filtered_cells [] n t = refl
  cell_of_filtered_cells (c ∷ cs) n t = grind (arith, nat_tests, cell_of_filtered_cells cs n t.2, no_cell, named_cell cs n, eqb-true c.object.name n)

  pub tidy_filtered_cells : (cs : List Cell) → NoDuplicates cs → NoDuplicates (filtered_cells drops f cs)
  tidy_filtered_cells [] t = tt
  tidy_filtered_cells (c ∷ cs) t = go (drops c) (tidy_filtered_cells cs t.2)
    where
      unheld : held (filtered_cells drops f cs) c.owner ≡ None
      unheld = held_cell (filtered_cells drops f cs) c.owner
          ∙ ap object_in (cell_in_filtered_cells cs c.owner t.2 ∙ ap kept (no_cell (cell_in cs c.owner) (sym (held_cell cs c.owner) ∙ t.0)))

      unnamed : named (filtered_cells drops f cs) c.object.name ≡ None
      unnamed = named_cell (filtered_cells drops f cs) c.object.name
          ∙ ap object_in (cell_of_filtered_cells cs c.object.name t.2 ∙ ap kept (no_cell (cell_of cs c.object.name) (sym (named_cell cs c.object.name) ∙ t.1)))

      go : (d : Bool) → NoDuplicates (filtered_cells drops f cs) → NoDuplicates (cond d (filtered_cells drops f cs) (record c { service = f c } ∷ filtered_cells drops f cs))
      go true ih = ih
      go false ih = (unheld, unnamed, ih)

  -- where it stays, the rest of its cell stays too
  module _ (cs : List Cell) (t : NoDuplicates cs) (n : ℕ) (c : Cell) (here : cell_of cs n ≡ Some c) (stays : drops c ≡ false) where
    is_there : cell_of (filtered_cells drops f cs) n ≡ Some (record c { service = f c })
    is_there = cell_of_filtered_cells cs n t ∙ ap kept here ∙ ap (λ d. cond d None (Some (record c { service = f c }))) stays

    pub named_filtered_cells : named (filtered_cells drops f cs) n ≡ Some c.object
    named_filtered_cells = named_cell (filtered_cells drops f cs) n ∙ ap object_in is_there

    pub requested_filtered_cells : requested (filtered_cells drops f cs) n ≡ c.request
    requested_filtered_cells = requested_cell (filtered_cells drops f cs) n ∙ ap request_in is_there

    pub service_filtered_cells : service_of (filtered_cells drops f cs) n ≡ f c
    service_filtered_cells = service_cell (filtered_cells drops f cs) n ∙ ap service_in is_there

  -- and what is named or stands in a place then was there, and stays
  pub named_before : (cs : List Cell) (n : ℕ) (o : Object) → NoDuplicates cs → named (filtered_cells drops f cs) n ≡ Some o →
      (c : Cell) × (cell_of cs n ≡ Some c) × (c.object ≡ o) × (drops c ≡ false)
  named_before cs n o t e = grind (arith, nat_tests, cell_of_filtered_cells cs n t, named_cell)

  pub placed_before : (cs : List Cell) (q : Place) (o : Object) → NoDuplicates cs → held (filtered_cells drops f cs) q ≡ Some o →
      (c : Cell) × (cell_in cs q ≡ Some c) × (c.object ≡ o) × (drops c ≡ false)
  placed_before cs q o t e = grind (arith, nat_tests, cell_in_filtered_cells cs q t, held_cell)

  pub requested_before : (cs : List Cell) (n : ℕ) (o : Object) → NoDuplicates cs → named (filtered_cells drops f cs) n ≡ Some o → requested (filtered_cells drops f cs) n ≡ requested cs n
  requested_before cs n o t e = let b = named_before cs n o t e in requested_filtered_cells cs t n b.0 b.1 b.3 ∙ sym (requested_cell cs n ∙ ap request_in b.1)

  -- of what is not there then nothing is served
  pub service_gone : (cs : List Cell) (n : ℕ) → NoDuplicates cs → (c : Cell) → cell_of cs n ≡ Some c → drops c ≡ true → service_of (filtered_cells drops f cs) n ≡ unserved
  service_gone cs n t c here goes = grind (arith, nat_tests, service_cell, cell_of_filtered_cells cs n t)

-- at each cell clients have what they had, where nobody is at one that goes
module _ (drops : Cell → Bool) (cs : List Cell) (no_duplicates : NoDuplicates cs) (n : ℕ)
    (free : (x : Cell) → cell_of cs n ≡ Some x → drops x ≡ true → (x.service.queue ≡ []) × (x.service.sessions ≡ [])) where
  abbrev left : List Cell
  left = filtered_cells drops (λ c. c.service) cs

  abbrev SameClients : Type 0
  SameClients = ((service_of left n).queue ≡ (service_of cs n).queue) × ((service_of left n).sessions ≡ (service_of cs n).sessions)

  as_before : service_of left n ≡ service_of cs n → SameClients
  as_before same = (ap (λ v. v.queue) same, ap (λ v. v.sessions) same)

  at_cell : (x : Cell) → cell_of cs n ≡ Some x → (b : Bool) → drops x ≡ b → SameClients
  at_cell y e z d = grind (arith, nat_tests, service_cell cs n, service_gone drops, as_before, service_filtered_cells drops)

  pub clients_filtered_cells : SameClients
  clients_filtered_cells = go (cell_of cs n) refl
    where
      go : (x : Option Cell) → cell_of cs n ≡ x → SameClients
      go None e = as_before (service_cell left n ∙ ap service_in (cell_of_filtered_cells drops (λ c. c.service) cs n no_duplicates ∙ ap (λ y. kept drops (λ c. c.service) y) e)
          ∙ sym (service_cell cs n ∙ ap service_in e))
      go (Some x) e = at_cell x e (drops x) refl

-- ---- the changes of servers and clients are such

pub withdrawn_so : (client : ℕ) (cs : List Cell) →
    withdrawn client cs ≡ filtered_cells (λ c. is_queue c.owner && is_from client c.service.sender) (λ c. left_by client c.service) cs
withdrawn_so client [] = refl
withdrawn_so client (c ∷ cs) =
    ap (λ l. cond (is_queue c.owner && is_from client c.service.sender) l (record c { service = left_by client c.service } ∷ l)) (withdrawn_so client cs)

pub unqueued_so : (n : ℕ) (cs : List Cell) → without_queue n cs ≡ filtered_cells (λ c. is_queue_of n c.owner) (λ c. c.service) cs
unqueued_so n [] = refl
unqueued_so n (c ∷ cs) = ap (λ l. cond (is_queue_of n c.owner) l (c ∷ l)) (unqueued_so n cs)

pub slot_released_so : (client : ℕ) (cs : List Cell) →
    all_slot_released client cs ≡ filtered_cells (λ c. false) (λ c. record c.service { sender = slot_released client c.service.sender }) cs
slot_released_so client [] = refl
slot_released_so client (c ∷ cs) = ap (λ l. record c { service = record c.service { sender = slot_released client c.service.sender } } ∷ l) (slot_released_so client cs)
