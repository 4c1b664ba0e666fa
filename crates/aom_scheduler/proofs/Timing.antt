-- The list of due times after each change of the timers.
use Rattle.std.proofs.lemmas.Bool.Decides.{nat_tests}
use Rattle.std.proofs.Common.{◌≡◌, ◌≢◌, ◌<◌, ◌≤◌, ◌==◌, ℕ, true, false, List, [], ◌∷◌, Option, Some, None, length, set, get_or, slice_get, refl}
use Rattle.std.proofs.Common.{sym, ap, ◌∙◌, subst, inl, inr, arith}
use Rattle.std.specs.Prelude.{All, AllPairs, IfSome, remove, insert, IsNone, Result, OnErr, IsOk, IsSome, OnSome, nat_lt, is_some}
use Rattle.std.proofs.lemmas.Bool.{cases_Bool, cases_eq, eq-eqb, ne_eqb, cond-true, cond-false, leb-true, leb-false, le-leb, ltb-true, lt-ltb, cases_lt}
use Rattle.std.proofs.lemmas.List.{get_or-set_same, get_or-set_other, length-set}
use Rattle.std.proofs.lemmas.List.Edits.{length-insert}
use Rattle.std.proofs.lemmas.List.Elements.{All-cons, All-nil}
use Rattle.std.specs.List.Sorted.{IsPartitionPoint, IsPartitionedBy}
use Rattle.aom_scheduler.specs.Order.{placed, without, place_of, IsOrdered}
use Rattle.aom_scheduler.specs.Pending.{Pending, no_later, due_of}
use Rattle.aom_scheduler.specs.DueTimes.{IsTimed}
use Rattle.aom_scheduler.specs.declared.timer.Timer.{Timer}
use Rattle.aom_scheduler.proofs.Items.{IsAt, IsAbsent, Found, there, nowhere, find_it, place-at, absent-head, absent-tail, at-within, at-number, IsRanking}
use Rattle.aom_scheduler.proofs.Items.{ordered-placed, ordered-without, without-at, few, pairs-head, pairs-tail, placed-point, at_head, in_tail, none_is}
use Rattle.aom_scheduler.proofs.Items.{some_is, place-absent}
use Rattle.std.proofs.lemmas.Option.{get_or_from_slice_get, same_Some, slice_get_within}

-- the number of a timer
abbrev pub id_of : Timer → ℕ
id_of t = t.id

-- due times rank
pub by_due : IsRanking no_later
by_due = search (arith, nat_tests, le-leb, leb-false, leb-true)

due-here : (id : ℕ) (t : Timer) (ts : List Timer) → id_of t ≡ id → due_of id (t ∷ ts) ≡ Some t.due
due-here id t ts same = cond-true (t.id == id) (Some t.due) (due_of id ts) (eq-eqb (id_of t) id same)

due-later : (id : ℕ) (t : Timer) (ts : List Timer) → id_of t ≢ id → due_of id (t ∷ ts) ≡ due_of id ts
due-later id t ts other = cond-false (t.id == id) (Some t.due) (due_of id ts) (ne_eqb (id_of t) id other)

pub due-absent : (id : ℕ) (ts : List Timer) → IsAbsent id_of id ts → due_of id ts ≡ None
due-absent id [] absent = refl
due-absent id (t ∷ ts) absent = due-later id t ts (absent-head id_of id t ts absent) ∙ due-absent id ts (absent-tail id_of id t ts absent)

pub due-at : (id : ℕ) (ts : List Timer) (i : ℕ) (d : Timer) → IsAt id_of id ts i → due_of id ts ≡ Some (get_or ts i d).due
due-at id _ _ d (at_head t ts same) = due-here id t ts same
due-at id _ _ d (in_tail t ts other at) = due-later id t ts other ∙ due-at id ts _ d at

abbrev blank : ℕ → Timer
blank id = record { id = id; due = 0 }

-- what stands at a place is its object's one timer
pub due-each : (ts : List Timer) → AllPairs (λ x y. id_of x ≢ id_of y) ts → All (λ t. due_of t.id ts ≡ Some t.due) ts
due-each [] pairs = All-nil (λ t. due_of t.id [] ≡ Some t.due)
due-each (x ∷ xs) pairs = All-cons (λ t. due_of t.id (x ∷ xs) ≡ Some t.due) x xs (due-here x.id x xs refl) (λ k d within. due-later (get_or xs k d).id x xs
    (pairs-head (λ y z. id_of y ≢ id_of z) x xs pairs k d within) ∙ due-each xs (pairs-tail (λ y z. id_of y ≢ id_of z) x xs pairs) k d within)

pub due-of_place : (ts : List Timer) → AllPairs (λ x y. id_of x ≢ id_of y) ts → (place : ℕ) (o : Option Timer) → o ≡ slice_get ts place →
    IfSome o (λ t. due_of t.id ts ≡ Some t.due)
due-of_place ts pairs place None is = tt
due-of_place ts pairs place (Some t) is = grind (arith, get_or_from_slice_get ts place t t, due-each ts pairs place t, slice_get_within ts place t)

-- an object has a timer exactly if it stands somewhere
set-stands : (id : ℕ) (ts : List Timer) → is_some (due_of id ts) ≡ is_some (place_of id_of id ts)
set-stands id ts = by_found (place_of id_of id ts) (find_it id_of id ts)
  where
    by_found : (o : Option ℕ) → Found id_of id ts o → is_some (due_of id ts) ≡ is_some o
    by_found _ (there i at) = ap is_some (due-at id ts i (blank id) at)
    by_found _ (nowhere absent) = ap is_some (due-absent id ts absent)

pub absent-due : (id : ℕ) (ts : List Timer) → IsNone (due_of id ts) → IsAbsent id_of id ts
absent-due id ts none = place-absent id_of id ts (none_is (place_of id_of id ts) (sym (set-stands id ts) ∙ none))

pub stands-if_set : (id : ℕ) (ts : List Timer) → IsSome (due_of id ts) → IsSome (place_of id_of id ts)
stands-if_set id ts some = sym (set-stands id ts) ∙ some

-- a timer that is placed is the object's, and those of others stay
due-placed_same : (t : Timer) (ts : List Timer) → IsAbsent id_of t.id ts → due_of t.id (placed no_later t ts) ≡ Some t.due
due-placed_same t [] absent = due-here t.id t [] refl
due-placed_same t (u ∷ us) absent = elim (cases_Bool (no_later u t)) [
  | inl is_so ↦ ap (due_of t.id) (cond-true (no_later u t) (u ∷ placed no_later t us) (t ∷ u ∷ us) is_so)
      ∙ due-later t.id u (placed no_later t us) (absent-head id_of t.id u us absent) ∙ due-placed_same t us (absent-tail id_of t.id u us absent)
  | inr is_not ↦ ap (due_of t.id) (cond-false (no_later u t) (u ∷ placed no_later t us) (t ∷ u ∷ us) is_not) ∙ due-here t.id t (u ∷ us) refl
]

due-placed_other : (id : ℕ) (t : Timer) (ts : List Timer) → id_of t ≢ id → due_of id (placed no_later t ts) ≡ due_of id ts
due-placed_other id t [] other = due-later id t [] other
due-placed_other id t (u ∷ us) other = grind (arith, due-placed_other id t us other)

-- a timer that goes is none, and those of others stay
due-without_same : (id : ℕ) (ts : List Timer) → due_of id (without id_of id ts) ≡ None
due-without_same id [] = refl
due-without_same id (t ∷ ts) = grind (arith, due-without_same id ts)

due-without_other : (gone id : ℕ) (ts : List Timer) → id ≢ gone → due_of id (without id_of gone ts) ≡ due_of id ts
due-without_other gone id [] other = refl
due-without_other gone id (t ∷ ts) other = grind (arith, due-without_other gone id ts other)

-- what holds when a timer is put at its place
pub record Setting (timers : List Timer) (due_times : List (Option ℕ)) (at : ℕ) (t : Timer) : Type 0 where
  pub is : insert timers at t ≡ placed no_later t timers
  pub room : length timers < length due_times
  pub timed : IsTimed (insert timers at t) (set due_times t.id (Some t.due))

pub setting : (timers : List Timer) (due_times : List (Option ℕ)) (at : ℕ) (t : Timer) → IsTimed timers due_times → t.id < length due_times → IsNone (due_of t.id timers)
    → at ≤ length timers → IsPartitionPoint (λ u. no_later u t ≡ true) (λ u. no_later u t ≡ false) timers at → Setting timers due_times at t
setting timers due_times at t timed small unset within point =
    let is : insert timers at t ≡ placed no_later t timers = placed-point no_later t timers at within point in
    let absent = absent-due t.id timers unset in
    let ordered : IsOrdered id_of no_later (length due_times) (insert timers at t) = subst (IsOrdered id_of no_later (length due_times)) (sym is)
    (ordered-placed id_of no_later by_due (length due_times) t timers small absent timed.ordered) in
    record {
      is = is;
      room = omega (arith, few id_of (length due_times) (insert timers at t) ordered.below ordered.distinct, length-insert timers at t within);
      timed = record {
        ordered = subst (λ n. IsOrdered id_of no_later n (insert timers at t)) (sym (length-set due_times t.id (Some t.due))) ordered;
        says = grind (arith, get_or-set_same, due-placed_same, get_or-set_other, due-placed_other);
      };
    }

-- the same from what the fields say
pub setting-from : {pending : Pending} {timers : List Timer} {due_times : List (Option ℕ)} (at : ℕ) (t : Timer)
    → record { timers = timers; limit = length due_times } ≡ pending → IsTimed timers due_times → t.id < pending.limit → IsNone (due_of t.id pending.timers)
    → at ≤ length timers → IsPartitionPoint (λ u. no_later u t ≡ true) (λ u. no_later u t ≡ false) timers at → Setting timers due_times at t
setting-from {timers = timers} {due_times = due_times} at t view timed small unset = grind (arith, setting timers due_times at t timed)

-- what holds when the timer at a place goes
pub record Ending (timers : List Timer) (due_times : List (Option ℕ)) (at gone : ℕ) : Type 0 where
  pub is : remove timers at ≡ without id_of gone timers
  pub small : gone < length due_times
  pub within : at < length timers
  pub timed : IsTimed (remove timers at) (set due_times gone None)

pub ending : (timers : List Timer) (due_times : List (Option ℕ)) (at gone : ℕ) → IsTimed timers due_times → IsAt id_of gone timers at → Ending timers due_times at gone
ending timers due_times at gone timed found =
    let within : at < length timers = at-within id_of gone timers at found in
    let is : remove timers at ≡ without id_of gone timers = without-at id_of gone timers at timed.ordered.distinct found in
    let small : gone < length due_times = subst (λ n. n < length due_times) (at-number id_of gone timers at (blank gone) found)
    (timed.ordered.below at (blank gone) within) in
    record {
      is = is;
      small = small;
      within = within;
      timed = record {
        ordered = subst (λ n. IsOrdered id_of no_later n (remove timers at)) (sym (length-set due_times gone None))
            (subst (IsOrdered id_of no_later (length due_times)) (sym is) (ordered-without id_of no_later (length due_times) gone timers timed.ordered));
        says = grind (arith, get_or-set_same, due-without_same, get_or-set_other, due-without_other);
      };
    }

-- the same from what the fields say
pub ending-from : {pending : Pending} {timers : List Timer} {due_times : List (Option ℕ)} {at : ℕ} (gone : ℕ) →
    record { timers = timers; limit = length due_times } ≡ pending → IsTimed timers due_times → place_of id_of gone pending.timers ≡ Some at → Ending timers due_times at gone
ending-from {timers = timers} {due_times = due_times} {at = at} gone view timed stands = grind (arith, ending timers due_times at gone timed, place-at)

-- lists of timers and limits that are the same
pub same_pending : (ts us : List Timer) (m n : ℕ) → ts ≡ us → m ≡ n → ◌≡◌ {A = Pending} (record { timers = ts; limit = m }) (record { timers = us; limit = n })
same_pending ts us m n p q = cc

-- what a fallible insertion says where there is room, and where it succeeded
pub ok_by_room : {X E : Type 0} (r : Result X E) (len cap : ℕ) → OnErr r (cap ≤ len) → len < cap → IsOk r
ok_by_room x len cap full room = grind arith

-- the timer in front stands first
pub front-at : (ts : List Timer) (t : Timer) → 0 < length ts → t ≡ get_or ts 0 t → IsAt id_of t.id ts 0
front-at [] t some is = absurd (omega (arith, some))
front-at (u ∷ us) t some is = at_head u us (ap id_of (sym is))

-- a search for those that are due earlier is one in an order, and ends no later than at the object's
pub searchable-early : (due : ℕ) (ts : List Timer) → AllPairs (λ t u. no_later t u ≡ true) ts → IsPartitionedBy (λ t. nat_lt t.due due) ts
searchable-early due ts sorted = λ i j d le within h. elim (cases_eq i j) [
  | inl same ↦ subst (λ n. nat_lt (get_or ts n d).due due ≡ true) (sym same) h
  | inr other ↦ lt-ltb (get_or ts i d).due due (omega (
    arith,
    ltb-true (get_or ts j d).due due h,
    leb-true (get_or ts i d).due (get_or ts j d).due (sorted i j d (omega arith) within),
  ))
]

pub early-ends : (id due start : ℕ) (ts : List Timer) → IsPartitionPoint (λ t. nat_lt t.due due ≡ true) (λ t. nat_lt t.due due ≡ false) ts start
    → due_of id ts ≡ Some due → (at : ℕ) → place_of id_of id ts ≡ Some at → start ≤ at
early-ends id due start ts point is at stands =
    let d = blank id in
    let due_then : due ≡ (get_or ts at d).due = same_Some due (get_or ts at d).due (sym is ∙ due-at id ts at d (place-at id_of id ts at stands)) in
    elim (cases_lt at start) [
      | inl early ↦ absurd (omega (arith, due_then, ltb-true (get_or ts at d).due due (point.0 at d (omega arith) early)))
      | inr late ↦ late
    ]

-- what a removal says where there was something to remove
pub on_some : {X P : Type 0} (o : Option X) → IsSome o → OnSome o P → P
on_some {P = P} o some p = let held = some_is o some in subst (λ s. OnSome s P) held.1 p
