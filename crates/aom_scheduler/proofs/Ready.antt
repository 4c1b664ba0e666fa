-- Those that are ready, in order: what a mark, an insertion and a removal do to their list, and where a search among them ends.
use Rattle.std.proofs.lemmas.Bool.Decides.{nat_tests}
use Rattle.std.proofs.Common.{◌≡◌, ◌≢◌, ◌<◌, ◌≤◌, ◌-◌, ◌==◌, ℕ, Bool, true, false, nat_lt, List, [], ◌∷◌, ◌++◌, Option, Some, length, take, drop, get_or}
use Rattle.std.proofs.Common.{refl, sym, ap, ◌∙◌, subst, inl, inr, arith}
use Rattle.std.specs.Prelude.{All, IfSome, remove, insert, map, filter, not, slice_get}
use Rattle.std.proofs.lemmas.Bool.{cases_lt, cases_eq, eq-eqb, ne_eqb, cond-true, cond-false, lt-ltb, le-ltb, false≢true}
use Rattle.std.proofs.lemmas.List.{get_or-take, get_or-drop, get_or_append_left, get_or-append_right, map-append, take-append-drop, length-map, length-append}
use Rattle.std.proofs.lemmas.List.{length-take-le, length-drop}
use Rattle.std.proofs.lemmas.List.Elements.{All-filter, All-map, filter-append}
use Rattle.std.specs.List.Sorted.{IsPartitionPoint, IsPartitionedBy}
use Rattle.aom_scheduler.specs.Order.{placed, without, place_of}
use Rattle.aom_scheduler.specs.PriorityList.{PriorityList, IsSound, before, marked, marked_entry, ready_ids, first_ready}
use Rattle.aom_scheduler.specs.Keys.{stands_before}
use Rattle.aom_scheduler.specs.declared.entry.ScheduleEntry.{ScheduleEntry}
use Rattle.aom_scheduler.proofs.Items.{IsAt, AreDistinct, own-place, at-place, distinct-head, distinct-tail, few, at_head, in_tail}
use Rattle.aom_scheduler.proofs.Places.{id_of, marked-absent}
use Rattle.aom_scheduler.specs.Ready.{IsReadyAt, IsWaitingAt}
use Rattle.std.proofs.lemmas.List.Edits.{length-insert}

ready-first : (e : ScheduleEntry) (es : List ScheduleEntry) → e.is_ready ≡ true → ready_ids (e ∷ es) ≡ e.id ∷ ready_ids es
ready-first e es is = ap (map (λ f. f.id)) (cond-true e.is_ready (e ∷ filter (λ f. f.is_ready) es) (filter (λ f. f.is_ready) es) is)

ready-skipped : (e : ScheduleEntry) (es : List ScheduleEntry) → e.is_ready ≡ false → ready_ids (e ∷ es) ≡ ready_ids es
ready-skipped e es is = ap (map (λ f. f.id)) (cond-false e.is_ready (e ∷ filter (λ f. f.is_ready) es) (filter (λ f. f.is_ready) es) is)

ready-append : (xs ys : List ScheduleEntry) → ready_ids (xs ++ ys) ≡ ready_ids xs ++ ready_ids ys
ready-append xs ys = grind (arith, nat_tests, filter-append, map-append)

ready-same : (e : ScheduleEntry) (xs ys : List ScheduleEntry) → ready_ids xs ≡ ready_ids ys → ready_ids (e ∷ xs) ≡ ready_ids (e ∷ ys)
ready-same e xs ys same = grind arith

-- no more are ready than have an entry
pub length-ready : (xs : List ScheduleEntry) → length (ready_ids xs) ≤ length xs
length-ready [] = omega arith
length-ready (x ∷ xs) = grind (arith, length-ready xs)

-- an entry that waits adds nobody
pub ready-placed : (e : ScheduleEntry) (xs : List ScheduleEntry) → e.is_ready ≡ false → ready_ids (placed before e xs) ≡ ready_ids xs
ready-placed e [] waits = ready-skipped e [] waits
ready-placed e (x ∷ xs) waits = grind (arith, ready-placed e xs waits)

marked-here : (id : ℕ) (ready : Bool) (x : ScheduleEntry) → id_of x ≡ id → marked_entry id ready x ≡ record x { is_ready = ready }
marked-here id ready x same = cond-true (x.id == id) (record x { is_ready = ready }) x (eq-eqb (id_of x) id same)

marked-other : (id : ℕ) (ready : Bool) (x : ScheduleEntry) → id_of x ≢ id → marked_entry id ready x ≡ x
marked-other id ready x other = cond-false (x.id == id) (record x { is_ready = ready }) x (ne_eqb (id_of x) id other)

-- the list of a marked object and the rest
marked-first : (id : ℕ) (ready : Bool) (x : ScheduleEntry) (xs : List ScheduleEntry) → AreDistinct id_of (x ∷ xs) → id_of x ≡ id
    → marked id ready (x ∷ xs) ≡ record x { is_ready = ready } ∷ xs
marked-first id ready x xs distinct same = ap (λ y. y ∷ marked id ready xs) (marked-here id ready x same) ∙ ap (λ ys. record x { is_ready = ready } ∷ ys)
    (marked-absent id ready xs (subst (λ n. (k : ℕ) (d : ScheduleEntry) → k < length xs → id_of (get_or xs k d) ≢ n) same (distinct-head id_of x xs distinct)))

marked-later : (id : ℕ) (ready : Bool) (x : ScheduleEntry) (xs : List ScheduleEntry) → id_of x ≢ id → marked id ready (x ∷ xs) ≡ x ∷ marked id ready xs
marked-later id ready x xs other = ap (λ y. y ∷ marked id ready xs) (marked-other id ready x other)

abbrev with_ready : ScheduleEntry → List ScheduleEntry → Bool → List ScheduleEntry
with_ready x xs b = record x { is_ready = b } ∷ xs

-- marked as it is
pub marked-same : (id : ℕ) (xs : List ScheduleEntry) (i : ℕ) (d : ScheduleEntry) (ready : Bool) → AreDistinct id_of xs → IsAt id_of id xs i
    → (get_or xs i d).is_ready ≡ ready → marked id ready xs ≡ xs
marked-same id _ _ d ready distinct (at_head x xs same) is = grind (arith, marked-first id ready x xs distinct same)
marked-same id _ _ d ready distinct (in_tail x xs other at) is =
    marked-later id ready x xs other ∙ ap (λ ys. x ∷ ys) (marked-same id xs _ d ready (distinct-tail id_of x xs distinct) at is)

-- one more is ready
pub ready-more : (id : ℕ) (xs : List ScheduleEntry) (i : ℕ) (d : ScheduleEntry) → AreDistinct id_of xs → IsAt id_of id xs i → (get_or xs i d).is_ready ≡ false
    → insert (ready_ids xs) (length (ready_ids (take i xs))) id ≡ ready_ids (marked id true xs)
ready-more id _ _ d distinct (at_head x xs same) is = grind (arith, marked-first id)
ready-more id _ _ d distinct (in_tail {i = i} x xs other at) is = grind (arith, ready-more id xs i d (distinct-tail id_of x xs distinct) at is)

-- one fewer is ready
pub ready-less : (id : ℕ) (xs : List ScheduleEntry) (i : ℕ) (d : ScheduleEntry) → AreDistinct id_of xs → IsAt id_of id xs i → (get_or xs i d).is_ready ≡ true
    → (remove (ready_ids xs) (length (ready_ids (take i xs))) ≡ ready_ids (marked id false xs)) × (length (ready_ids (take i xs)) < length (ready_ids xs))
ready-less id _ _ d distinct (at_head x xs same) is = search (arith, nat_tests, ready-first x xs is, ready-skipped, marked-first id)
ready-less id _ _ d distinct (in_tail {i = i} x xs other at) is = grind (arith, ready-less id xs i d (distinct-tail id_of x xs distinct) at is)

-- an object that waits goes, and those that are ready stay
pub ready-without : (id : ℕ) (xs : List ScheduleEntry) → ready_ids (without id_of id (marked id false xs)) ≡ ready_ids (marked id false xs)
ready-without id [] = refl
ready-without id (x ∷ xs) = grind (arith, ready-without id xs)

pub without-marked : (id : ℕ) (ready : Bool) (xs : List ScheduleEntry) → without id_of id (marked id ready xs) ≡ without id_of id xs
without-marked id ready [] = refl
without-marked id ready (x ∷ xs) = grind (arith, without-marked id ready xs)

module _ {A : Type 0} (p : A → Bool) (us vs : List A) where
  -- a test that what is in front passes and what is behind does not
  pub searchable-split : All (λ x. p x ≡ true) us → All (λ x. p x ≡ false) vs → IsPartitionedBy p (us ++ vs)
  searchable-split front behind = grind (arith, get_or_append_left, get_or-append_right, length-append)

  pub point-split : (i : ℕ) (d : A) → All (λ x. p x ≡ true) us → All (λ x. p x ≡ false) vs → i ≤ length (us ++ vs)
      → IsPartitionPoint (λ x. p x ≡ true) (λ x. p x ≡ false) (us ++ vs) i → i ≡ length us
  point-split i d front behind within point = elim (cases_lt i (length us)) [
    | inl inside ↦
        let is_so = ap p (get_or_append_left us vs d i inside) ∙ front i d inside in
        absurd (false≢true (sym (point.1 i d (omega arith) (omega (arith, length-append us vs))) ∙ is_so))
    | inr past ↦ elim (cases_eq i (length us)) [
      | inl same ↦ same
      | inr other ↦
          let is_not = ap p (get_or-append_right us vs (length us) (length us) d refl (omega arith)) ∙ behind (length us - length us) d
          (omega (arith, within, length-append us vs)) in
          absurd (false≢true (sym is_not ∙ point.0 (length us) d (omega arith) (omega arith)))
    ]
  ]

-- the test that a search among the ready makes
abbrev pub is_in_front : List ScheduleEntry → ℕ → ℕ → Bool
is_in_front xs i id = stands_before i (place_of id_of id xs)

own : (xs : List ScheduleEntry) (i k : ℕ) (d : ScheduleEntry) → AreDistinct id_of xs → k < length xs → is_in_front xs i (id_of (get_or xs k d)) ≡ nat_lt k i
own xs i k d distinct within = ap (stands_before i) (at-place id_of (id_of (get_or xs k d)) xs k (own-place id_of xs k d distinct within))

ready-all : (p : ℕ → Bool) (b : Bool) (xs : List ScheduleEntry) → All (λ e. p (id_of e) ≡ b) xs → All (λ n. p n ≡ b) (ready_ids xs)
ready-all p b xs all = All-map (λ n. p n ≡ b) id_of (filter (λ e. e.is_ready) xs) (All-filter (λ e. e.is_ready) (λ e. p (id_of e) ≡ b) xs all)

front-all : (xs : List ScheduleEntry) (i : ℕ) → AreDistinct id_of xs → i ≤ length xs → All (λ n. is_in_front xs i n ≡ true) (ready_ids (take i xs))
front-all xs i distinct le = ready-all (is_in_front xs i) true (take i xs) all
  where
    all : All (λ e. is_in_front xs i (id_of e) ≡ true) (take i xs)
    all k d within = grind (arith, nat_tests, length-take-le, id_of, get_or-take, own, lt-ltb)

behind-all : (xs : List ScheduleEntry) (i : ℕ) → AreDistinct id_of xs → i ≤ length xs → All (λ n. is_in_front xs i n ≡ false) (ready_ids (drop i xs))
behind-all xs i distinct le = ready-all (is_in_front xs i) false (drop i xs) all
  where
    all : All (λ e. is_in_front xs i (id_of e) ≡ false) (drop i xs)
    all k d within = grind (arith, nat_tests, id_of, get_or-drop, own, length-drop, le-ltb)

halves : (xs : List ScheduleEntry) (i : ℕ) → ready_ids (take i xs) ++ ready_ids (drop i xs) ≡ ready_ids xs
halves xs i = sym (ready-append (take i xs) (drop i xs)) ∙ ap ready_ids (take-append-drop i xs)

-- a search among the ready is one in an order
pub searchable-ready : (xs : List ScheduleEntry) (i : ℕ) → AreDistinct id_of xs → i ≤ length xs → IsPartitionedBy (is_in_front xs i) (ready_ids xs)
searchable-ready xs i distinct le = subst (IsPartitionedBy (is_in_front xs i)) (halves xs i)
    (searchable-split (is_in_front xs i) (ready_ids (take i xs)) (ready_ids (drop i xs)) (front-all xs i distinct le) (behind-all xs i distinct le))

-- and ends after those that are ready before the place
pub point-ready : (xs : List ScheduleEntry) (i at : ℕ) → AreDistinct id_of xs → i ≤ length xs → at ≤ length (ready_ids xs)
    → IsPartitionPoint (λ n. is_in_front xs i n ≡ true) (λ n. is_in_front xs i n ≡ false) (ready_ids xs) at → at ≡ length (ready_ids (take i xs))
point-ready xs i at distinct le within point =
    let split = sym (halves xs i) in
    point-split (is_in_front xs i) (ready_ids (take i xs)) (ready_ids (drop i xs)) at 0 (front-all xs i distinct le) (behind-all xs i distinct le)
    (subst (λ ids. at ≤ length ids) split within) (grind (arith, nat_tests))

-- the first that is ready is the first of those
pub first-is : (xs : List ScheduleEntry) → first_ready xs ≡ slice_get (ready_ids xs) 0
first-is [] = refl
first-is (x ∷ xs) = grind (arith, first-is xs)

-- a search among the ready for a place ends behind those that stand before it
pub stands-among : (r : PriorityList) (ids : List ℕ) (place at : ℕ) →
    IsSound r → ids ≡ ready_ids r.entries → place ≤ length r.entries → at ≤ length ids → (IsPartitionedBy (is_in_front r.entries place) ids → IsPartitionPoint
    (λ n. is_in_front r.entries place n ≡ true) (λ n. is_in_front r.entries place n ≡ false) ids at) → at ≡ length (ready_ids (take place r.entries))
stands-among r ids place at sound is inside within point =
    grind (arith, point-ready r.entries place at sound.distinct inside, searchable-ready r.entries place sound.distinct inside)

-- where the first that is ready does not stand before the place, none that is ready does
none-front : (r : PriorityList) (place : ℕ) (ids others : List ℕ) → All (λ n. is_in_front r.entries place n ≡ true) ids → ids ++ others ≡ ready_ids r.entries
    → (first : Option ℕ) → first ≡ first_ready r.entries → IfSome first (λ n. is_in_front r.entries place n ≡ false) → length ids ≡ 0
none-front r place [] others front split first is not = refl
none-front r place (id ∷ ids) others front split first is not =
    let same : first ≡ Some id = is ∙ first-is r.entries ∙ ap (λ ns. slice_get ns 0) (sym split) in
    absurd (false≢true (sym (subst (λ o. IfSome o (λ n. is_in_front r.entries place n ≡ false)) same not) ∙ front 0 0 (omega arith)))

pub none-among : (r : PriorityList) (place : ℕ) → IsSound r → place ≤ length r.entries → (first : Option ℕ) → first ≡ first_ready r.entries
    → IfSome first (λ n. is_in_front r.entries place n ≡ false) → 0 ≡ length (ready_ids (take place r.entries))
none-among r place sound within first is not = grind (arith, none-front r place, front-all r.entries place sound.distinct within, halves r.entries place)

-- an object that stands there is ready
pub ready-at : (r : PriorityList) (id place at : ℕ) (d : ScheduleEntry) → IsSound r → IsAt id_of id r.entries place → at ≡ length (ready_ids (take place r.entries))
    → (get_or r.entries place d).is_ready ≡ true → IsReadyAt r id at
ready-at r id place at d sound found here ready =
    let fewer = ready-less id r.entries place d sound.distinct found ready in
    record {
      within = subst (λ n. n < length (ready_ids r.entries)) (sym here) fewer.1;
      less = ap (remove (ready_ids r.entries)) here ∙ fewer.0;
      same = marked-same id r.entries place d true sound.distinct found ready;
    }

-- or it waits
pub waiting-at : (r : PriorityList) (id place at : ℕ) (d : ScheduleEntry) → IsSound r → IsAt id_of id r.entries place → at ≡ length (ready_ids (take place r.entries))
    → (get_or r.entries place d).is_ready ≡ false → IsWaitingAt r id at
waiting-at r id place at d sound found here waits =
    let inside : at ≤ length (ready_ids r.entries) =
    omega (arith, here, ap length (halves r.entries place), length-append (ready_ids (take place r.entries)) (ready_ids (drop place r.entries))) in
    let more : insert (ready_ids r.entries) at id ≡ ready_ids (marked id true r.entries) = grind (arith, ready-more) in
    record {
      within = inside;
      room = omega (
        arith,
        length-insert (ready_ids r.entries) at id inside,
        ap length more,
        length-ready (marked id true r.entries),
        length-map r.entries (marked_entry id true),
        few id_of r.limit r.entries sound.below sound.distinct,
      );
      more = more;
      same = marked-same id r.entries place d false sound.distinct found waits;
    }
