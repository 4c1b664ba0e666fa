-- The entries after a mark, and where each stands.
use Rattle.std.proofs.lemmas.Bool.Decides.{nat_tests}
use Rattle.std.proofs.Common.{◌≡◌, ◌==◌, ℕ, Bool, List, [], ◌∷◌, Option, Some}
use Rattle.std.proofs.Common.{set, get_or, refl, sym, ap, ◌∙◌, subst, arith}
use Rattle.std.proofs.lemmas.Bool.{cases_Bool, eq-eqb, ne_eqb, cond-true, cond-false}
use Rattle.std.proofs.lemmas.Int.{ints}
use Rattle.aom_scheduler.specs.Order.{place_of}
use Rattle.aom_scheduler.specs.PriorityList.{PriorityList, place, before, marked, marked_entry}
use Rattle.aom_scheduler.specs.declared.entry.ScheduleEntry.{ScheduleEntry}
use Rattle.aom_scheduler.proofs.Items.{IsAt, IsAbsent, AreDistinct, place-at}
use Rattle.aom_scheduler.proofs.Items.{absent-head, absent-tail, IsRanking}
use Rattle.aom_scheduler.proofs.Items.{distinct-tail}
use Rattle.aom_scheduler.proofs.Items.{distinct-head, at_head, in_tail}

-- the number of an entry
abbrev pub id_of : ScheduleEntry → ℕ
id_of e = e.id

-- priorities rank
pub by_priority : IsRanking before
by_priority = search (arith, nat_tests, ints)

-- a mark keeps the object and its priority
pub marked-id : (id : ℕ) (ready : Bool) (e : ScheduleEntry) → id_of (marked_entry id ready e) ≡ id_of e
marked-id id ready e = grind (arith, nat_tests, cases_Bool, cond-true, cond-false)

pub marked-priority : (id : ℕ) (ready : Bool) (e : ScheduleEntry) → (marked_entry id ready e).priority ≡ e.priority
marked-priority id ready e = grind (arith, nat_tests, cases_Bool, cond-true, cond-false)

pub marked-place : (gone : ℕ) (ready : Bool) (id : ℕ) (xs : List ScheduleEntry) → place_of id_of id (marked gone ready xs) ≡ place_of id_of id xs
marked-place gone ready id [] = refl
marked-place gone ready id (x ∷ xs) = grind (arith, marked-place gone ready id xs)

-- a mark is a write at the object's place
pub marked-absent : (id : ℕ) (ready : Bool) (xs : List ScheduleEntry) → IsAbsent id_of id xs → marked id ready xs ≡ xs
marked-absent id ready [] absent = refl
marked-absent id ready (x ∷ xs) absent =
    ap (λ y. y ∷ marked id ready xs) (cond-false (x.id == id) (record x { is_ready = ready }) x (ne_eqb (id_of x) id (absent-head id_of id x xs absent)))
    ∙ ap (λ ys. x ∷ ys) (marked-absent id ready xs (absent-tail id_of id x xs absent))

pub marked-at : (id : ℕ) (ready : Bool) (xs : List ScheduleEntry) (i : ℕ) (d : ScheduleEntry) → AreDistinct id_of xs → IsAt id_of id xs i
    → set xs i (record (get_or xs i d) { is_ready = ready }) ≡ marked id ready xs
marked-at id ready _ _ d distinct (at_head x xs same) =
    sym (ap (λ y. y ∷ marked id ready xs) (cond-true (x.id == id) (record x { is_ready = ready }) x (eq-eqb (id_of x) id same))
    ∙ ap (λ ys. record x { is_ready = ready } ∷ ys) (marked-absent id ready xs (subst (λ n. IsAbsent id_of n xs) same (distinct-head id_of x xs distinct))))
marked-at id ready _ _ d distinct (in_tail x xs other at) = ap (λ ys. x ∷ ys) (marked-at id ready xs _ d (distinct-tail id_of x xs distinct) at)
    ∙ sym (ap (λ y. y ∷ marked id ready xs) (cond-false (x.id == id) (record x { is_ready = ready }) x (ne_eqb (id_of x) id other)))

-- lists of the same entries and limit
pub same_priority_list : (xs ys : List ScheduleEntry) (m n : ℕ) → xs ≡ ys → m ≡ n →
    ◌≡◌ {A = PriorityList} (record { entries = xs; limit = m }) (record { entries = ys; limit = n })
same_priority_list xs ys m n p q = cc

-- an object that has an entry has it where its place says, in the fields too
pub stands-in : (priority_list : PriorityList) (entries : List ScheduleEntry) (limit id at : ℕ) (o : Option ℕ) → record { entries = entries; limit = limit } ≡ priority_list
    → o ≡ place id priority_list → o ≡ Some at → IsAt id_of id entries at
stands-in priority_list entries limit id at o view is some = place-at id_of id entries at (ap (λ r. place id r) view ∙ sym is ∙ some)

-- the entry that is written over, marked
pub marked-in : (entries : List ScheduleEntry) (id at : ℕ) (ready : Bool) (e : ScheduleEntry) → AreDistinct id_of entries → IsAt id_of id entries at
    → e ≡ get_or entries at e → set entries at (record e { is_ready = ready }) ≡ marked id ready entries
marked-in entries id at ready e distinct found is = grind (arith, marked-at id ready entries at e distinct found)
