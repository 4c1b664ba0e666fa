-- What is read of the cells after each of them is changed by itself: by what the change keeps of a cell.
use Rattle.std.proofs.lemmas.Bool.Decides.{nat_tests}
use Rattle.std.proofs.Common.{arith, Bool, List, None, Option, Some, [], ap, cond, false, refl, subst, sym, true, ℕ, ℤ, ◌==◌, ◌∙◌, ◌∷◌, ◌≡◌}
use Rattle.std.proofs.lemmas.Bool.{eq-eqb, eqb-true, ne_eqb, true≢false}
use Rattle.std.specs.Prelude.{pos}
use Rattle.aom_roles.specs.Tables.{set_extending}
use Rattle.aom_image.specs.Image.{Image}
use Rattle.aom_semantics.specs.Natives.{all_detached, detached}
use Rattle.aom_semantics.specs.Places.{Cell, Object, Place, Request, Service, NoDuplicates, count_cells, held, in_session, moved, named}
use Rattle.aom_semantics.specs.Places.{requested, same_place, service_of, set_request, set_service, set_session, set_word_field}
use Rattle.aom_semantics.specs.Servers.{all_slot_released, slot_released}

-- each cell is changed by itself, and stays that of its object
pub record Alters (change : List Cell → List Cell) : Type 0 where
  pub each : Cell → Cell
  pub none : change [] ≡ []
  pub some : (c : Cell) (cs : List Cell) → change (c ∷ cs) ≡ each c ∷ change cs
  pub object : (c : Cell) → (each c).object ≡ c.object

-- what is read by a name is a part of the first cell of that name
pub record Reads {A : Type 0} (read : List Cell → ℕ → A) : Type 0 where
  pub of : Cell → A
  pub first : (c : Cell) (cs : List Cell) (n : ℕ) → read (c ∷ cs) n ≡ cond (c.object.name == n) (of c) (read cs n)

-- ---- the changes and the readings that there are

abbrev pub moving : (p q : Place) → Alters (moved p q)
moving p q = record { each = λ c. record c { owner = cond (same_place c.owner p) q c.owner }; none = refl; some = λ c cs. refl; object = λ c. refl }

abbrev pub asking : (n : ℕ) (r : Option Request) → Alters (set_request n r)
asking n r = record { each = λ c. record c { request = cond (c.object.name == n) r c.request }; none = refl; some = λ c cs. refl; object = λ c. refl }

abbrev pub opening : (n : ℕ) (b : Bool) → Alters (set_session n b)
opening n b = record { each = λ c. record c { session = cond (c.object.name == n) b c.session }; none = refl; some = λ c cs. refl; object = λ c. refl }

abbrev pub storing : (n w : ℕ) (v : ℤ) → Alters (set_word_field n w v)
storing n w v = record { each = λ c. record c { words = cond (c.object.name == n) (set_extending (pos 0) c.words w v) c.words }; none = refl; some = λ c cs. refl; object = λ c. refl }

abbrev pub serving : (n : ℕ) (v : Service) → Alters (set_service n v)
serving n v = record { each = λ c. record c { service = cond (c.object.name == n) v c.service }; none = refl; some = λ c cs. refl; object = λ c. refl }

abbrev pub slot_release : (client : ℕ) → Alters (all_slot_released client)
slot_release client = record { each = λ c. record c { service = record c.service { sender = slot_released client c.service.sender } }; none = refl; some = λ c cs. refl; object = λ c. refl }

abbrev pub detaching : (p : Image) (native : ℕ) → Alters (all_detached p native)
detaching p native = record { each = detached p native; none = refl; some = λ c cs. refl; object = λ c. refl }

abbrev pub names : Reads named
names = record { of = λ c. Some c.object; first = λ c cs n. refl }

abbrev pub requests : Reads requested
requests = record { of = λ c. c.request; first = λ c cs n. refl }

abbrev pub sessions : Reads in_session
sessions = record { of = λ c. c.session; first = λ c cs n. refl }

abbrev pub services : Reads service_of
services = record { of = λ c. c.service; first = λ c cs n. refl }

-- ---- what is read after a change

module _ {change : List Cell → List Cell} (a : Alters change) where
  module _ {A : Type 0} {read : List Cell → ℕ → A} (r : Reads read) where
    -- what the change makes of the first cell of that name, or of what is read where none has it
    pub read_so : (n : ℕ) (becomes : A → A) (cs : List Cell) → ((c : Cell) → (c.object.name == n) ≡ true → named cs n ≡ Some c.object →
        r.of (a.each c) ≡ becomes (r.of c)) → (named cs n ≡ None → read [] n ≡ becomes (read [] n)) → read (change cs) n ≡ becomes (read cs n)
    read_so n becomes [] so nothing = ap (λ l. read l n) a.none ∙ nothing refl
    read_so n becomes (c ∷ cs) so nothing =
        ap (λ l. read l n) (a.some c cs) ∙ r.first (a.each c) (change cs) n ∙ ap (λ o. cond (o.name == n) (r.of (a.each c)) (read (change cs) n)) (a.object c)
        ∙ go (c.object.name == n) refl (λ so nothing. read_so n becomes cs so nothing) so nothing ∙ sym (ap becomes (r.first c cs n))
      where
        go :
            (b : Bool) → (c.object.name == n) ≡ b →
            (((d : Cell) → (d.object.name == n) ≡ true → named cs n ≡ Some d.object → r.of (a.each d) ≡ becomes (r.of d)) →
            (named cs n ≡ None → read [] n ≡ becomes (read [] n)) → read (change cs) n ≡ becomes (read cs n)) →
            ((d : Cell) → (d.object.name == n) ≡ true → cond b (Some c.object) (named cs n) ≡ Some d.object → r.of (a.each d) ≡ becomes (r.of d)) →
            (cond b (Some c.object) (named cs n) ≡ None → read [] n ≡ becomes (read [] n)) →
            cond b (r.of (a.each c)) (read (change cs) n) ≡ becomes (cond b (r.of c) (read cs n))
        go true e rest so nothing = so c e refl
        go false e rest so nothing = rest so nothing

    -- a part that the change keeps
    pub read_kept : ((c : Cell) → r.of (a.each c) ≡ r.of c) → (cs : List Cell) (n : ℕ) → read (change cs) n ≡ read cs n
    read_kept kept cs n = read_so n (λ x. x) cs (λ c is here. kept c) (λ none. refl)

    -- a part that is written to the cell of a name
    module _ (n : ℕ) (v : A) (written : (c : Cell) → r.of (a.each c) ≡ cond (c.object.name == n) v (r.of c)) where
      pub read_here : (cs : List Cell) (o : Object) → named cs n ≡ Some o → read (change cs) n ≡ v
      read_here cs o e = read_so n (λ x. v) cs (λ c is here. written c ∙ ap (λ b. cond b v (r.of c)) is) (λ none. cc)

      pub read_there : (cs : List Cell) (m : ℕ) → (n == m) ≡ false → read (change cs) m ≡ read cs m
      read_there cs m other = read_so m (λ x. x) cs (λ c is here. written c ∙ ap (λ b. cond b v (r.of c)) (apart c is)) (λ none. refl)
        where
          apart : (c : Cell) → (c.object.name == m) ≡ true → (c.object.name == n) ≡ false
          apart c is = ne_eqb c.object.name n (λ same. true≢false (sym (eq-eqb n m (sym same ∙ eqb-true c.object.name m is)) ∙ other))

  pub named_kept : (cs : List Cell) (n : ℕ) → named (change cs) n ≡ named cs n
  named_kept = read_kept names (λ c. ap (λ o. Some o) (a.object c))

  pub count_kept : (cs : List Cell) → count_cells (change cs) ≡ count_cells cs
  count_kept [] = ap count_cells a.none
  count_kept (c ∷ cs) = grind (arith, nat_tests, count_kept cs)

  -- where each stays where it is
  module _ (stays : (c : Cell) → (a.each c).owner ≡ c.owner) where
    pub held_kept : (cs : List Cell) (q : Place) → held (change cs) q ≡ held cs q
    held_kept [] q = ap (λ l. held l q) a.none
    held_kept (c ∷ cs) q = grind (arith, nat_tests, held_kept cs q)

    pub tidy_kept : (cs : List Cell) → NoDuplicates cs → NoDuplicates (change cs)
    tidy_kept [] t = subst (λ l. NoDuplicates l) (sym a.none) tt
    tidy_kept (c ∷ cs) t = subst (λ l. NoDuplicates l) (sym (a.some c cs)) (
      held_kept cs (a.each c).owner ∙ ap (λ q. held cs q) (stays c) ∙ t.0,
      named_kept cs (a.each c).object.name ∙ ap (λ o. named cs o.name) (a.object c) ∙ t.1,
      tidy_kept cs t.2,
    )
