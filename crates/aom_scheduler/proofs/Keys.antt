-- The keys after each change, and where a search by them ends.
use Rattle.std.proofs.lemmas.Bool.Decides.{nat_tests}
use Rattle.std.proofs.Common.{◌≡◌, ◌≢◌, ◌<◌, ◌≤◌, ◌+◌, ◌==◌, ℕ, pos, Bool, true, false, List, [], ◌∷◌, Option, Some, None, length, set, get_or}
use Rattle.std.proofs.Common.{refl, sym, ap, ◌∙◌, subst, inl, inr, arith}
use Rattle.std.specs.Prelude.{All, remove, insert, not, IsNone, is_some, int_le}
use Rattle.std.proofs.lemmas.Bool.{true≢false, cases_eq, cases_lt, eqb-false, not-true}
use Rattle.std.proofs.lemmas.List.{get_or-set_same, get_or-set_other, length-set, get_or_default}
use Rattle.std.proofs.lemmas.List.Elements.{All-filter, All-map, All-weaker, filter_passes}
use Rattle.std.proofs.lemmas.List.Kept.{AllPairs-filter}
use Rattle.std.proofs.lemmas.List.Edits.{length-insert}
use Rattle.std.proofs.lemmas.Int.{ints}
use Rattle.std.specs.List.Sorted.{IsPartitionPoint, IsPartitionedBy}
use Rattle.aom_scheduler.specs.Order.{placed, without, place_of, IsOrdered}
use Rattle.aom_scheduler.specs.PriorityList.{PriorityList, place, before, marked, marked_entry}
use Rattle.aom_scheduler.specs.Keys.{goes_before, precedes, HasKey, IsKeyed}
use Rattle.aom_scheduler.specs.declared.entry.ScheduleEntry.{ScheduleEntry}
use Rattle.aom_scheduler.specs.declared.key.Key.{Key}
use Rattle.aom_scheduler.proofs.Items.{IsAt, IsAbsent, AreDistinct, Found, there, nowhere, find_it, place-at, place-absent, absent-place, at-within}
use Rattle.aom_scheduler.proofs.Items.{at-number, All-placed, ordered-placed, ordered-without, ordered-map, pairs-map, pairs-placed_between}
use Rattle.aom_scheduler.proofs.Items.{few, placed-point, without-at, none_is, some_is}
use Rattle.aom_scheduler.proofs.Places.{id_of, by_priority, marked-id, marked-priority, marked-place, stands-in}

-- which of two keys goes first
goes-higher : (k l : Key) → int_le k.priority l.priority ≡ false → goes_before k l ≡ true
goes-higher k l higher = grind (arith, nat_tests, ints)

goes-turn : (k l : Key) → int_le l.priority k.priority ≡ true → k.turn < l.turn → goes_before k l ≡ true
goes-turn k l high less = grind (arith, nat_tests, ints)

goes-never : (k : Key) → goes_before k k ≡ false
goes-never k = grind (arith, nat_tests, ints)

goes-once : (k l : Key) → goes_before k l ≡ true → goes_before l k ≡ false
goes-once k l goes = grind (arith, nat_tests, ints)

precedes-never : (o : Option Key) → precedes o o ≡ false
precedes-never None = refl
precedes-never (Some k) = goes-never k

precedes-once : (o p : Option Key) → precedes o p ≡ true → precedes p o ≡ false
precedes-once (Some k) (Some l) goes = goes-once k l goes
precedes-once (Some k) None goes = refl
precedes-once None (Some l) goes = refl
precedes-once None None goes = refl

-- the key that the list has for an entry
abbrev key_in : List (Option Key) → ScheduleEntry → Option Key
key_in keys e = get_or keys e.id None

-- the entry of a key
abbrev Ranks : List (Option Key) → ScheduleEntry → ScheduleEntry → Type 0
Ranks keys e f = precedes (key_in keys e) (key_in keys f) ≡ true

blank : ScheduleEntry
blank = record { id = 0; priority = pos 0; is_ready = false }

-- by keys an entry is before the object exactly if it stands before it
goes-earlier : (entries : List ScheduleEntry) (keys : List (Option Key)) (next id p i : ℕ) (d : ScheduleEntry) → IsKeyed entries keys next
    → IsAt id_of id entries p → i < p → precedes (key_in keys (get_or entries i d)) (get_or keys id None) ≡ true
goes-earlier entries keys next id p i d keyed at less =
    subst (λ n. precedes (key_in keys (get_or entries i d)) (get_or keys n None) ≡ true) (at-number id_of id entries p d at)
    (keyed.ranked i p d less (at-within id_of id entries p at))

goes-no_earlier : (entries : List ScheduleEntry) (keys : List (Option Key)) (next id p i : ℕ) (d : ScheduleEntry) → IsKeyed entries keys next
    → IsAt id_of id entries p → p ≤ i → i < length entries → precedes (key_in keys (get_or entries i d)) (get_or keys id None) ≡ false
goes-no_earlier entries keys next id p i d keyed at later within =
    subst (λ n. precedes (key_in keys (get_or entries i d)) (get_or keys n None) ≡ false) (at-number id_of id entries p d at) (elim (cases_eq p i) [
      | inl same ↦ subst (λ k. precedes (key_in keys (get_or entries k d)) (key_in keys (get_or entries p d)) ≡ false) same
          (precedes-never (key_in keys (get_or entries p d)))
      | inr other ↦ precedes-once (key_in keys (get_or entries p d)) (key_in keys (get_or entries i d)) (keyed.ranked p i d (omega arith) within)
    ])

-- so a search by keys is one in an order, and ends where the object stands
searchable-by_key : (entries : List ScheduleEntry) (keys : List (Option Key)) (next id p : ℕ) → IsKeyed entries keys next → IsAt id_of id entries p
    → IsPartitionedBy (λ e. precedes (key_in keys e) (get_or keys id None)) entries
searchable-by_key entries keys next id p keyed at = λ i j d le within h. elim (cases_lt j p) [
  | inl less ↦ goes-earlier entries keys next id p i d keyed at (omega arith)
  | inr later ↦ absurd (true≢false (sym h ∙ goes-no_earlier entries keys next id p j d keyed at later within))
]

ends-at_key : (entries : List ScheduleEntry) (keys : List (Option Key)) (next id p end : ℕ) → IsKeyed entries keys next → IsAt id_of id entries p
    → end ≤ length entries → IsPartitionPoint (λ e. precedes (key_in keys e) (get_or keys id None) ≡ true) (λ e. precedes (key_in keys e) (get_or keys id None) ≡ false)
    entries end → end ≡ p
ends-at_key entries keys next id p end keyed at bound point = elim (cases_lt end p) [
  | inl less ↦ absurd (true≢false (sym (goes-earlier entries keys next id p end blank keyed at less) ∙ point.1 end blank (omega arith)
      (omega (arith, at-within id_of id entries p at))))
  | inr later ↦ elim (cases_lt p end) [
    | inl less ↦ absurd (true≢false (sym (point.0 p blank (omega arith) less)
        ∙ goes-no_earlier entries keys next id p p blank keyed at (omega arith) (at-within id_of id entries p at)))
    | inr same ↦ omega arith
  ]
]

-- so the search finds the place of an object that has a key
pub place-by_key : (entries : List ScheduleEntry) (keys : List (Option Key)) (next id end : ℕ) (key : Key) → IsKeyed entries keys next
    → get_or keys id None ≡ Some key → end ≤ length entries
    → (IsPartitionedBy (λ e. precedes (key_in keys e) (Some key)) entries
    → IsPartitionPoint (λ e. precedes (key_in keys e) (Some key) ≡ true) (λ e. precedes (key_in keys e) (Some key) ≡ false) entries end)
    → place_of id_of id entries ≡ Some end
place-by_key entries keys next id end key keyed own bound search_ends =
    let found = some_is (place_of id_of id entries) (sym (keyed.listed id) ∙ ap is_some own) in
    let at = place-at id_of id entries found.0 found.1 in
    let point = search_ends (subst (λ o. IsPartitionedBy (λ e. precedes (key_in keys e) o) entries) own (searchable-by_key entries keys next id found.0 keyed at)) in
    found.1 ∙ ap Some (sym (ends-at_key entries keys next id found.0 end keyed at bound
    (subst (λ o. IsPartitionPoint (λ e. precedes (key_in keys e) o ≡ true) (λ e. precedes (key_in keys e) o ≡ false) entries end) (sym own) point)))

-- an object has a place after an insertion or a removal exactly if it had one, but for the one that comes or goes
listed-placed_same : (e : ScheduleEntry) (xs : List ScheduleEntry) → is_some (place_of id_of e.id (placed before e xs)) ≡ true
listed-placed_same e [] = grind (arith, nat_tests)
listed-placed_same e (x ∷ xs) = grind (arith, nat_tests, listed-placed_same e xs)

listed-placed_other : (id : ℕ) (e : ScheduleEntry) (xs : List ScheduleEntry) → id_of e ≢ id
    → is_some (place_of id_of id (placed before e xs)) ≡ is_some (place_of id_of id xs)
listed-placed_other id e [] other = grind (arith, nat_tests)
listed-placed_other id e (x ∷ xs) other = grind (arith, nat_tests, listed-placed_other id e xs other)

listed-without_same : (id : ℕ) (xs : List ScheduleEntry) → is_some (place_of id_of id (without id_of id xs)) ≡ false
listed-without_same id [] = refl
listed-without_same id (x ∷ xs) = grind (arith, nat_tests, listed-without_same id xs)

listed-without_other : (gone id : ℕ) (xs : List ScheduleEntry) → id ≢ gone → is_some (place_of id_of id (without id_of gone xs)) ≡ is_some (place_of id_of id xs)
listed-without_other gone id [] other = refl
listed-without_other gone id (x ∷ xs) other = grind (arith, nat_tests, listed-without_other gone id xs other)

-- a key of another number is as it was
ranks-kept : (keys : List (Option Key)) (id : ℕ) (o : Option Key) (e f : ScheduleEntry) → id_of e ≢ id → id_of f ≢ id → Ranks keys e f → Ranks (set keys id o) e f
ranks-kept keys id o e f one other ranks =
    ap (λ k. precedes k (key_in (set keys id o) f)) (get_or-set_other keys id e.id o None one)
    ∙ ap (precedes (key_in keys e)) (get_or-set_other keys id f.id o None other) ∙ ranks

haskey-kept : (keys : List (Option Key)) (next more id : ℕ) (o : Option Key) (e : ScheduleEntry) → next ≤ more → id_of e ≢ id → HasKey keys next e
    → HasKey (set keys id o) more e
haskey-kept keys next more id o e le other has = record {
  turn = has.turn;
  is = get_or-set_other keys id e.id o None other ∙ has.is;
  less = omega (arith, has.less);
}

-- what holds when an entry is put at its place
pub record Insertion (entries : List ScheduleEntry) (keys : List (Option Key)) (next at : ℕ) (e : ScheduleEntry) : Type 0 where
  pub is : insert entries at e ≡ placed before e entries
  pub room : length entries < length keys
  pub keyed : IsKeyed (insert entries at e) (set keys e.id (Some (record { priority = e.priority; turn = next }))) (next + 1)

pub insertion : (entries : List ScheduleEntry) (keys : List (Option Key)) (next at : ℕ) (e : ScheduleEntry) → IsKeyed entries keys next → e.id < length keys
    → IsNone (place_of id_of e.id entries)
    → at ≤ length entries → IsPartitionPoint (λ f. before f e ≡ true) (λ f. before f e ≡ false) entries at → Insertion entries keys next at e
insertion entries keys next at e keyed small new within point = record {
  is = is;
  room = omega (arith, length-insert entries at e within, few id_of (length keys) (placed before e entries) ordered.below ordered.distinct, ap length is);
  keyed = subst (λ xs. IsKeyed xs after (next + 1)) (sym is) (record {
    ordered = subst (λ n. IsOrdered id_of before n (placed before e entries)) (sym (length-set keys e.id own)) ordered;
    listed = listed;
    keyed = All-placed before (HasKey after (next + 1)) e entries has others;
    ranked = pairs-placed_between before by_priority (Ranks after) e entries first last keyed.ordered.sorted
        (λ i j d less inside. ranks-kept keys e.id own (get_or entries i d) (get_or entries j d) (absent i d (omega arith)) (absent j d inside)
        (keyed.ranked i j d less inside));
  });
}
  where
    own : Option Key
    own = Some (record { priority = e.priority; turn = next })

    after : List (Option Key)
    after = set keys e.id own

    is : insert entries at e ≡ placed before e entries
    is = placed-point before e entries at within point

    absent : IsAbsent id_of e.id entries
    absent = place-absent id_of e.id entries (none_is (place_of id_of e.id entries) new)

    ordered : IsOrdered id_of before (length keys) (placed before e entries)
    ordered = ordered-placed id_of before by_priority (length keys) e entries small absent keyed.ordered

    listed : (id : ℕ) → is_some (get_or after id None) ≡ is_some (place_of id_of id (placed before e entries))
    listed id = elim (cases_eq id e.id) [
      | inl same ↦ subst (λ n. is_some (get_or after n None) ≡ is_some (place_of id_of n (placed before e entries))) (sym same)
          (ap is_some (get_or-set_same keys e.id own None small) ∙ sym (listed-placed_same e entries))
      | inr other ↦ ap is_some (get_or-set_other keys e.id id own None other) ∙ keyed.listed id
          ∙ sym (listed-placed_other id e entries (λ same. other (sym same)))
    ]

    has : HasKey after (next + 1) e
    has = record { turn = next; is = get_or-set_same keys e.id own None small; less = omega arith }

    others : All (HasKey after (next + 1)) entries
    others = λ k d inside. haskey-kept keys next (next + 1) e.id own (get_or entries k d) (omega arith) (absent k d inside) (keyed.keyed k d inside)

    first : All (λ f. before f e ≡ true → Ranks after f e) entries
    first = λ k d inside high.
        let f = get_or entries k d in
        let it = others k d inside in
        let was = keyed.keyed k d inside in
        ap (λ o. precedes o (key_in after e)) (get_or-set_other keys e.id f.id own None (absent k d inside) ∙ was.is)
        ∙ ap (precedes (Some (record { priority = f.priority; turn = was.turn }))) has.is
        ∙ goes-turn (record { priority = f.priority; turn = was.turn }) (record { priority = e.priority; turn = next }) high was.less

    last : All (λ f. before f e ≡ false → Ranks after e f) entries
    last = λ k d inside low.
        let f = get_or entries k d in
        let it = others k d inside in
        ap (λ o. precedes o (key_in after f)) has.is
        ∙ ap (precedes own) it.is
        ∙ goes-higher (record { priority = e.priority; turn = next }) (record { priority = f.priority; turn = it.turn }) low

-- the same from what the fields and a search among them say
pub insertion-from : {priority_list : PriorityList} {entries : List ScheduleEntry} {keys : List (Option Key)} {limit : ℕ} (next at : ℕ) (e : ScheduleEntry) →
    record { entries = entries; limit = limit } ≡ priority_list → length keys ≡ limit → IsKeyed entries keys next → e.id < priority_list.limit
    → IsNone (place e.id priority_list) → at ≤ length entries → IsPartitionPoint (λ f. before f e ≡ true) (λ f. before f e ≡ false) entries at
    → Insertion entries keys next at e
insertion-from {entries = entries} {keys = keys} next at e view same keyed small new within point = insertion entries keys next at e keyed
    (omega (arith, small, same, ap (λ r. r.limit) view)) (subst (λ r. IsNone (place e.id r)) (sym view) new) within point

-- what holds when the entry at a place goes
pub record Removal (entries : List ScheduleEntry) (keys : List (Option Key)) (next at gone : ℕ) : Type 0 where
  pub small : gone < length keys
  pub within : at < length entries
  pub is : remove entries at ≡ without id_of gone entries
  pub keyed : IsKeyed (remove entries at) (set keys gone None) next

pub removal : (entries : List ScheduleEntry) (keys : List (Option Key)) (next at gone : ℕ) → IsKeyed entries keys next → IsAt id_of gone entries at
    → Removal entries keys next at gone
removal entries keys next at gone keyed found = record {
  small = small;
  within = within;
  is = is;
  keyed = subst (λ xs. IsKeyed xs (set keys gone None) next) (sym is) (record {
    ordered = subst (λ n. IsOrdered id_of before n left) (sym (length-set keys gone None))
        (ordered-without id_of before (length keys) gone entries keyed.ordered);
    listed = listed;
    keyed = λ k d inside. haskey-kept keys next next gone None (get_or left k d) (omega arith) (other k d inside)
        (All-filter test (HasKey keys next) entries keyed.keyed k d inside);
    ranked = λ i j d less inside. ranks-kept keys gone None (get_or left i d) (get_or left j d) (other i d (omega arith)) (other j d inside)
        (AllPairs-filter (Ranks keys) test entries keyed.ranked i j d less inside);
  });
}
  where
    test : ScheduleEntry → Bool
    test x = not (id_of x == gone)

    left : List ScheduleEntry
    left = without id_of gone entries

    within : at < length entries
    within = at-within id_of gone entries at found

    small : gone < length keys
    small = subst (λ n. n < length keys) (at-number id_of gone entries at blank found) (keyed.ordered.below at blank within)

    is : remove entries at ≡ left
    is = without-at id_of gone entries at keyed.ordered.distinct found

    other : IsAbsent id_of gone left
    other = λ k d inside. eqb-false (id_of (get_or left k d)) gone (not-true (id_of (get_or left k d) == gone) (filter_passes test entries k d inside))

    listed : (id : ℕ) → is_some (get_or (set keys gone None) id None) ≡ is_some (place_of id_of id left)
    listed id = elim (cases_eq id gone) [
      | inl same ↦ subst (λ n. is_some (get_or (set keys gone None) n None) ≡ is_some (place_of id_of n left)) (sym same)
          (ap is_some (get_or-set_same keys gone None None small) ∙ sym (listed-without_same gone entries))
      | inr apart ↦ ap is_some (get_or-set_other keys gone id None None apart) ∙ keyed.listed id ∙ sym (listed-without_other gone id entries apart)
    ]

-- the same from what the fields say
pub removal-from : {priority_list : PriorityList} {entries : List ScheduleEntry} {keys : List (Option Key)} {next at : ℕ} {o : Option ℕ} (gone : ℕ)
    → record { entries = entries; limit = length keys } ≡ priority_list → o ≡ place gone priority_list → o ≡ Some at → IsKeyed entries keys next
    → Removal entries keys next at gone
removal-from {priority_list} {entries} {keys} {next} {at} {o} gone view is some keyed =
    removal entries keys next at gone keyed (stands-in priority_list entries (length keys) gone at o view is some)

-- after a mark all keys are as they were
pub keyed-mark : (entries : List ScheduleEntry) (keys : List (Option Key)) (next id : ℕ) (ready : Bool) → IsKeyed entries keys next
    → IsKeyed (marked id ready entries) keys next
keyed-mark entries keys next id ready keyed = record {
  ordered = ordered-map id_of before now (marked-id id ready) standing (length keys) entries keyed.ordered;
  listed = λ other. keyed.listed other ∙ ap is_some (sym (marked-place id ready other entries));
  keyed = All-map (HasKey keys next) now entries (All-weaker (HasKey keys next) (λ e. HasKey keys next (now e)) has entries keyed.keyed);
  ranked = pairs-map now (Ranks keys) ranks entries keyed.ranked;
}
  where
    now : ScheduleEntry → ScheduleEntry
    now = marked_entry id ready

    standing : (x y : ScheduleEntry) → before (now x) (now y) ≡ before x y
    standing x y = grind (arith, nat_tests, marked-priority id ready y, marked-priority id ready x)

    has : (e : ScheduleEntry) → HasKey keys next e → HasKey keys next (now e)
    has e h = record {
      turn = h.turn;
      is = ap (λ n. get_or keys n None) (marked-id id ready e) ∙ h.is
          ∙ ap (λ p. Some (record { priority = p; turn = h.turn })) (sym (marked-priority id ready e));
      less = h.less;
    }

    ranks : (x y : ScheduleEntry) → Ranks keys x y → Ranks keys (now x) (now y)
    ranks x y h = ap (λ n. precedes (get_or keys n None) (key_in keys (now y))) (marked-id id ready x)
        ∙ ap (λ n. precedes (key_in keys x) (get_or keys n None)) (marked-id id ready y) ∙ h

-- while turns are given anew: the first entries have their places as turns, and who has no entry has no new key
pub record Renewed (entries : List ScheduleEntry) (start keys : List (Option Key)) (at : ℕ) : Type 0 where
  pub done : (k : ℕ) (d : ScheduleEntry) → k < at → k < length entries →
      key_in keys (get_or entries k d) ≡ Some (record { priority = (get_or entries k d).priority; turn = k })
  pub others : (id : ℕ) → IsAbsent id_of id entries → get_or keys id None ≡ get_or start id None
  pub length : length keys ≡ length start

pub renewed-none : (entries : List ScheduleEntry) (start : List (Option Key)) → Renewed entries start start 0
renewed-none entries start = record { done = λ k d less within. absurd (omega arith); others = λ id absent. refl; length = refl }

pub renewed-more : (entries : List ScheduleEntry) (start keys : List (Option Key)) (at : ℕ) (e : ScheduleEntry) → AreDistinct id_of entries
    → at < length entries → e ≡ get_or entries at e → e.id < length keys → Renewed entries start keys at
    → Renewed entries start (set keys e.id (Some (record { priority = e.priority; turn = at }))) (at + 1)
renewed-more entries start keys at e distinct within is small renewed = record {
  done = done;
  others = λ id absent. get_or-set_other keys e.id id own None (λ same. absent at e within (ap id_of (sym is) ∙ sym same)) ∙ renewed.others id absent;
  length = length-set keys e.id own ∙ renewed.length;
}
  where
    own : Option Key
    own = Some (record { priority = e.priority; turn = at })

    done : (k : ℕ) (d : ScheduleEntry) → k < at + 1 → k < length entries →
        key_in (set keys e.id own) (get_or entries k d) ≡ Some (record { priority = (get_or entries k d).priority; turn = k })
    done k d less inside = elim (cases_eq k at) [
      | inl same ↦ subst (λ n. key_in (set keys e.id own) (get_or entries n d) ≡ Some (record { priority = (get_or entries n d).priority; turn = n })) (sym same)
          (subst (λ f. key_in (set keys e.id own) f ≡ Some (record { priority = f.priority; turn = at })) (is ∙ get_or_default entries at e d within)
          (get_or-set_same keys e.id own None small))
      | inr other ↦ get_or-set_other keys e.id (get_or entries k d).id own None (λ same. distinct k at d (omega arith) within
          (same ∙ ap id_of (is ∙ get_or_default entries at e d within))) ∙ renewed.done k d (omega arith) inside
    ]

-- all turns anew
pub keyed-renewed : (entries : List ScheduleEntry) (start keys : List (Option Key)) (next : ℕ) → IsKeyed entries start next
    → Renewed entries start keys (length entries) → IsKeyed entries keys (length entries)
keyed-renewed entries start keys next keyed renewed = record {
  ordered = subst (λ n. IsOrdered id_of before n entries) (sym renewed.length) keyed.ordered;
  listed = λ id. listed id (place_of id_of id entries) (find_it id_of id entries);
  keyed = λ k d within. record { turn = k; is = renewed.done k d within within; less = within };
  ranked = λ i j d less within.
      let e = get_or entries i d in
      let f = get_or entries j d in
      ap (λ o. precedes o (key_in keys f)) (renewed.done i d (omega arith) (omega arith))
      ∙ ap (precedes (Some (record { priority = e.priority; turn = i }))) (renewed.done j d within within)
      ∙ goes-turn (record { priority = e.priority; turn = i }) (record { priority = f.priority; turn = j }) (keyed.ordered.sorted i j d less within) less;
}
  where
    listed : (id : ℕ) (o : Option ℕ) → Found id_of id entries o → is_some (get_or keys id None) ≡ is_some o
    listed id _ (there i at) =
        let within = at-within id_of id entries i at in
        subst (λ n. is_some (get_or keys n None) ≡ true) (at-number id_of id entries i blank at) (ap is_some (renewed.done i blank within within))
    listed id _ (nowhere absent) = ap is_some (renewed.others id absent) ∙ keyed.listed id ∙ ap is_some (absent-place id_of id entries absent)
