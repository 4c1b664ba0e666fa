-- What a move of ownership does to the places.
use Rattle.std.proofs.lemmas.Bool.Decides.{nat_tests}
use Rattle.std.proofs.lemmas.Option.{none-some}
use Rattle.std.proofs.Common.{arith, Bool, List, None, Option, Some, [], ap, cond, false, refl, suc, sym, true, zero, ℕ, ⊎_elim, ◌==◌, ◌∙◌, ◌∷◌, ◌≡◌}
use Rattle.std.proofs.lemmas.Bool.{and_from, eq-eqb, eqb-true, ne_eqb, true≢false}
use Rattle.std.specs.Prelude.{◌⊎◌}
use Rattle.aom_semantics.proofs.Altering.{Reads, moving, named_kept, names, read_kept, requests}
use Rattle.aom_semantics.specs.Places.{Cell, Elsewhere, Entry, Field, Going, Object, Other, Place, Queued, Register, Root, In_service, Session, NoDuplicates}
use Rattle.aom_semantics.specs.Places.{changed, held, moved, named, place_inner, place_kind, place_outer, place_part, requested, same_place, without}

-- equal numbers, equal places
pub other_from : ℕ → ℕ → ℕ → Other
other_from zero a b = Root
other_from (suc zero) a b = Session a b
other_from (suc (suc zero)) a b = In_service
other_from (suc (suc (suc k))) a b = Queued a b

pub place_from : ℕ → ℕ → ℕ → ℕ → Place
place_from zero part a b = Register a b
place_from (suc zero) part a b = Entry a
place_from (suc (suc zero)) part a b = Field a b
place_from (suc (suc (suc zero))) part a b = Going a
place_from (suc (suc (suc (suc k)))) part a b = Elsewhere (other_from part a b)

place_again : (p : Place) → place_from (place_kind p) (place_part p) (place_outer p) (place_inner p) ≡ p
unfolding place_from other_from
place_again x = grind arith

pub same_place-true : (p q : Place) → same_place p q ≡ true → p ≡ q
same_place-true p q e = grind (arith, nat_tests, place_again p, place_from, eqb-true, place_again q)

pub same_place_refl : (p : Place) → same_place p p ≡ true
same_place_refl p = grind (arith, nat_tests, and_from, eq-eqb)

pub same_place_comm : (p q : Place) → same_place p q ≡ same_place q p
same_place_comm p q = grind (arith, nat_tests, same_place-true p q, same_place_refl p, same_place-true q p, same_place_refl q)

-- where one place is a third, the other is as well
pub same_place_along : (p q r : Place) → same_place p q ≡ true → same_place p r ≡ same_place q r
same_place_along p q r e = ap (λ x. same_place x r) (same_place-true p q e)

pub cond_same : {A : Type 0} (b : Bool) (x : A) → cond b x x ≡ x
cond_same x y = grind arith

-- the front cell does not stand where nothing is held
pub front_free : (b : Bool) (o : Object) (rest : Option Object) → cond b (Some o) rest ≡ None → (b ≡ false) × (rest ≡ None)
front_free x o rest e = grind arith

-- what the places hold after p's thing moved to q
abbrev pub transfer : Place → Place → (Place → Option Object) → Place → Option Object
transfer p q h = changed (changed h p None) q (h p)

pub held_moved : (cs : List Cell) (p q r : Place) → held cs q ≡ None → held (moved p q cs) r ≡ transfer p q (held cs) r
held_moved [] p q r free = sym (ap (λ x. cond (same_place q r) None x) (cond_same (same_place p r) None) ∙ cond_same (same_place q r) None)
held_moved (c ∷ cs) p q r free =
    let f = front_free _ _ _ free in
    first (same_place c.owner p) refl f.0 (held_moved cs p q r f.1)
  where
    second : (x y z : Bool) → same_place c.owner p ≡ false → same_place c.owner q ≡ false → same_place c.owner r ≡ x → same_place q r ≡ y → same_place p r ≡ z →
        held (moved p q cs) r ≡ cond y (held cs p) (cond z None (held cs r)) →
        cond x (Some c.object) (held (moved p q cs) r) ≡ cond y (held cs p) (cond z None (cond x (Some c.object) (held cs r)))
    second false y z np nq e f g ih = ih
    second true false false np nq e f g ih = refl
    second true true z np nq e f g ih = absurd (true≢false (sym (same_place_along c.owner r q e ∙ same_place_comm r q ∙ f) ∙ nq))
    second true false true np nq e f g ih = absurd (true≢false (sym (same_place_along c.owner r p e ∙ same_place_comm r p ∙ g) ∙ np))

    third : (y z : Bool) → same_place c.owner r ≡ z → held (moved p q cs) r ≡ cond y (held cs p) (cond z None (held cs r)) →
        cond y (Some c.object) (held (moved p q cs) r) ≡ cond y (Some c.object) (cond z None (cond (same_place c.owner r) (Some c.object) (held cs r)))
    third true z e ih = refl
    third false true e ih = ih
    third false false e ih = ih ∙ sym (ap (λ b. cond b (Some c.object) (held cs r)) e)

    first : (b : Bool) → same_place c.owner p ≡ b → same_place c.owner q ≡ false → held (moved p q cs) r ≡ transfer p q (held cs) r →
        cond (same_place (cond b q c.owner) r) (Some c.object) (held (moved p q cs) r)
        ≡ cond (same_place q r) (cond b (Some c.object) (held cs p)) (cond (same_place p r) None (cond (same_place c.owner r) (Some c.object) (held cs r)))
    first true e nq ih = third (same_place q r) (same_place p r) (same_place_along c.owner p r e) ih
    first false e nq ih = second (same_place c.owner r) (same_place q r) (same_place p r) e nq refl refl refl ih

pub named_moved : (cs : List Cell) (p q : Place) (n : ℕ) → named (moved p q cs) n ≡ named cs n
named_moved cs p q = named_kept (moving p q) cs

pub requested_moved : (cs : List Cell) (p q : Place) (n : ℕ) → requested (moved p q cs) n ≡ requested cs n
requested_moved cs p q = read_kept (moving p q) requests (λ c. refl) cs

pub tidy_moved : (cs : List Cell) (p q : Place) → held cs q ≡ None → NoDuplicates cs → NoDuplicates (moved p q cs)
tidy_moved [] p q free t = tt
tidy_moved (c ∷ cs) p q free t =
    let f = front_free _ _ _ free in
    (own (same_place c.owner p) refl f.0 f.1, named_moved cs p q c.object.name ∙ t.1, tidy_moved cs p q f.1 t.2)
  where
    rest : (r : Place) → held cs q ≡ None → same_place q r ≡ false → held cs r ≡ None → held (moved p q cs) r ≡ None
    rest r free e h = held_moved cs p q r free ∙ ap (λ b. cond b (held cs p) (cond (same_place p r) None (held cs r))) e
        ∙ ap (λ x. cond (same_place p r) None x) h ∙ cond_same (same_place p r) None

    own : (b : Bool) → same_place c.owner p ≡ b → same_place c.owner q ≡ false → held cs q ≡ None → held (moved p q cs) (cond b q c.owner) ≡ None
    own true e nq free = held_moved cs p q q free ∙ ap (λ b. cond b (held cs p) (cond (same_place p q) None (held cs q))) (same_place_refl q)
        ∙ ap (λ r. held cs r) (sym (same_place-true c.owner p e)) ∙ t.0
    own false e nq free = rest c.owner free (same_place_comm q c.owner ∙ nq) t.0

-- ---- what is found

-- a search finds what the first cell that passes its test has
pub record Finds {A : Type 0} (find : List Cell → Option A) : Type 0 where
  pub test : Cell → Bool
  pub of : Cell → A
  pub none : find [] ≡ None
  pub some : (c : Cell) (cs : List Cell) → find (c ∷ cs) ≡ cond (test c) (Some (of c)) (find cs)

abbrev pub in_place : (q : Place) → Finds (λ cs. held cs q)
in_place q = record { test = λ c. same_place c.owner q; of = λ c. c.object; none = refl; some = λ c cs. refl }

abbrev pub of_name : (n : ℕ) → Finds (λ cs. named cs n)
of_name n = record { test = λ c. c.object.name == n; of = λ c. c.object; none = refl; some = λ c cs. refl }

-- what holds where it is found at the front, and where it is found further on, holds
pub found : {A : Type 0} {find : List Cell → Option A} (f : Finds find) (x : A) (P : List Cell → Type 0) → ((c : Cell) (cs : List Cell) → f.test c ≡ true → f.of
    c ≡ x → P (c ∷ cs)) → ((c : Cell) (cs : List Cell) → f.test c ≡ false → find cs ≡ Some x → P cs → P (c ∷ cs)) → (cs : List Cell) → find cs ≡ Some x → P cs
found f x P front further [] e = let clash : Some x ≡ None = sym e ∙ f.none in cc
found {find = find} f x P front further (c ∷ cs) e = go (f.test c) refl (sym (f.some c cs) ∙ e) (found f x P front further cs)
  where
    go : (b : Bool) → f.test c ≡ b → cond b (Some (f.of c)) (find cs) ≡ Some x → (find cs ≡ Some x → P cs) → P (c ∷ cs)
    go true is e rest = front c cs is (cc)
    go false other e rest = further c cs other e (rest e)

held_front : (c : Cell) (cs : List Cell) (q : Place) (o : Object) → held (c ∷ cs) q ≡ Some o → ((c.owner ≡ q) × (c.object ≡ o)) ⊎ (held cs q ≡ Some o)
held_front c cs q o e = grind (arith, nat_tests, same_place-true c.owner q)

named_front : (c : Cell) (cs : List Cell) (o : Object) → c.object ≡ o → named (c ∷ cs) o.name ≡ Some o
named_front c cs o is = grind (arith, nat_tests, eq-eqb c.object.name o.name)

-- a cell stands in one place
pub held_named : (cs : List Cell) (p : Place) (o : Object) → held cs p ≡ Some o → named cs o.name ≡ None → ⊥
held_named cs p o = found (in_place p) o (λ cs. named cs o.name ≡ None → ⊥) (λ c cs at is n. none-some _ (sym n ∙ named_front c cs o is))
    (λ c cs other e rest n. rest (front_free _ _ _ n).1) cs

pub one_place : (cs : List Cell) (p q : Place) (o x : Object) → NoDuplicates cs → held cs p ≡ Some o → held cs q ≡ Some x → o.name ≡ x.name → p ≡ q
one_place cs p q o x t e f n =
    found (in_place p) o (λ cs. NoDuplicates cs → held cs q ≡ Some x → p ≡ q) (λ c cs at is t f. ⊎_elim (λ h. sym (same_place-true c.owner p at) ∙ h.0)
    (λ h. absurd (held_named cs q x h (ap (λ k. named cs k) (sym n ∙ sym (ap (λ y. y.name) is)) ∙ t.1))) (held_front c cs q x f)) (λ c cs other e rest t f.
    ⊎_elim (λ h. absurd (held_named cs p o e (ap (λ k. named cs k) (n ∙ sym (ap (λ y. y.name) h.1)) ∙ t.1))) (λ h. rest t.2 h) (held_front c cs q x f)) cs e t f

-- what is held is there under its name
pub held_lives : (cs : List Cell) (p : Place) (o : Object) → NoDuplicates cs → held cs p ≡ Some o → named cs o.name ≡ Some o
held_lives cs p o t e = found (in_place p) o (λ cs. NoDuplicates cs → named cs o.name ≡ Some o) (λ c cs at is t. named_front c cs o is)
    (λ c cs other e rest t. ap (λ b. cond b (Some c.object) (named cs o.name)) (apart c cs e t) ∙ rest t.2) cs e t
  where
    apart : (c : Cell) (cs : List Cell) → held cs p ≡ Some o → NoDuplicates (c ∷ cs) → (c.object.name == o.name) ≡ false
    apart c cs e t = ne_eqb c.object.name o.name (λ s. held_named cs p o e (ap (λ k. named cs k) (sym s) ∙ t.1))

-- the cell of a name has that name
pub named_name : (cs : List Cell) (n : ℕ) (o : Object) → named cs n ≡ Some o → o.name ≡ n
named_name cs n o = found (of_name n) o (λ cs. o.name ≡ n) (λ c cs at is. ap (λ (x : Object). x.name) (sym is) ∙ eqb-true c.object.name n at)
    (λ c cs other e rest. rest) cs

-- what goes
pub without_none : (cs : List Cell) (g : Place) → held cs g ≡ None → without g cs ≡ cs
without_none [] g e = refl
without_none (c ∷ cs) g e = grind (arith, nat_tests, front_free, without_none cs g)

pub held_without : (cs : List Cell) (g r : Place) → held (without g cs) r ≡ changed (held cs) g None r
held_without [] g r = sym (cond_same (same_place g r) None)
held_without (c ∷ cs) g r = grind (arith, nat_tests, held_without cs g r, same_place_along c.owner g r, same_place-true g r)

-- what is read at the first cell of a name is the same but for the name of what goes
pub read_without : {A : Type 0} {read : List Cell → ℕ → A} (r : Reads read) (cs : List Cell) (g : Place) (o : Object) (n : ℕ) →
    NoDuplicates cs → held cs g ≡ Some o → (o.name == n) ≡ false → read (without g cs) n ≡ read cs n
read_without r [] g o n t e d = refl
read_without {read = read} r (c ∷ cs) g o n t e d = grind (arith, nat_tests, read_without r cs g o n t.2, without_none cs g, same_place-true c.owner g)

pub named_without : (cs : List Cell) (g : Place) (o : Object) (n : ℕ) → NoDuplicates cs → held cs g ≡ Some o → (o.name == n) ≡ false → named (without g cs) n ≡ named cs n
named_without = read_without names

pub requested_without : (cs : List Cell) (g : Place) (o : Object) (n : ℕ) → NoDuplicates cs → held cs g ≡ Some o → (o.name == n) ≡ false →
    requested (without g cs) n ≡ requested cs n
requested_without = read_without requests

named_gone : (cs : List Cell) (g : Place) (n : ℕ) → named cs n ≡ None → named (without g cs) n ≡ None
named_gone [] g n e = refl
named_gone (c ∷ cs) g n e = grind (arith, nat_tests, front_free, named_gone cs g n)

-- the cell that goes is there no more
pub unnamed : (cs : List Cell) (g : Place) (o : Object) → NoDuplicates cs → held cs g ≡ Some o → named (without g cs) o.name ≡ None
unnamed cs g o t e = found (in_place g) o (λ cs. NoDuplicates cs → named (without g cs) o.name ≡ None)
    (λ c cs at is t. ap (λ b. named (cond b (without g cs) (c ∷ without g cs)) o.name) at ∙ named_gone cs g o.name (ap (λ x. named cs x.name) (sym is) ∙ t.1))
    (λ c cs other e rest t. ap (λ b. named (cond b (without g cs) (c ∷ without g cs)) o.name) other ∙ ap (λ b. cond b (Some c.object)
    (named (without g cs) o.name)) (ne_eqb c.object.name o.name (λ s. held_named cs g o e (ap (λ k. named cs k) (sym s) ∙ t.1))) ∙ rest t.2) cs e t

-- of what is not there nothing is read
pub read_unnamed : {A : Type 0} {read : List Cell → ℕ → A} (r : Reads read) (cs : List Cell) (n : ℕ) → named cs n ≡ None → read cs n ≡ read [] n
read_unnamed r [] n e = refl
read_unnamed {read = read} r (c ∷ cs) n e = grind (arith, nat_tests, front_free, read_unnamed r cs n)

pub requested_unnamed : (cs : List Cell) (n : ℕ) → named cs n ≡ None → requested cs n ≡ None
requested_unnamed = read_unnamed requests

-- what had no request has none where another cell is gone
pub unrequested : (cs : List Cell) (g : Place) (n : ℕ) → NoDuplicates cs → requested cs n ≡ None → requested (without g cs) n ≡ None
unrequested [] g n t e = refl
unrequested (c ∷ cs) g n t e = grind (arith, nat_tests, unrequested cs g n t.2, requested_unnamed, named_gone cs g n, eqb-true)

pub tidy_without : (cs : List Cell) (g : Place) → NoDuplicates cs → NoDuplicates (without g cs)
tidy_without [] g t = tt
tidy_without (c ∷ cs) g t = grind (arith, nat_tests, held_without cs g c.owner, cond_same, tidy_without cs g t.2, named_gone cs g c.object.name t.1)
