-- Lists of items with numbers: what holds of pairs, and where an item stands once one is placed, marked or gone.
use Rattle.std.proofs.Common.{◌≡◌, ◌==◌, ℕ, Bool, true, false, not, cond, List, [], ◌∷◌, Some, None, get_or, refl, sym, ap, ◌∙◌, arith}
use Rattle.std.specs.Prelude.{All, AllPairs, is_some, map}
use Rattle.std.proofs.lemmas.Bool.{cond_both, eq-eqb, eqb-true, eqb-false, not-true, false≢true}
use Rattle.std.proofs.lemmas.List.Elements.{All-nil, All-cons, All-head, All-tail, All-map, All-weaker, filter_passes}
use Rattle.std.proofs.lemmas.List.Kept.{AllPairs-cons}
use Rattle.std.proofs.lemmas.Bool.Decides.{nat_tests}
use Rattle.aom_scheduler.specs.Order.{placed, without, place_of}
use Rattle.aom_scheduler.specs.PriorityList.{marked, marked_entry}
use Rattle.aom_scheduler.specs.Pending.{Pending, due_of, no_later}
use Rattle.aom_scheduler.specs.declared.entry.ScheduleEntry.{ScheduleEntry}
use Rattle.aom_scheduler.specs.declared.timer.Timer.{Timer}
use Rattle.aom_active_objects.proofs.SchedulerLemmas.{All-placed, AreDistinct, IsAbsent, IsRanking, absent-due, due-at, own-place, pairs-head, pairs-nil, pairs-tail}
use Rattle.aom_active_objects.proofs.SchedulerLemmas.{without-absent}

-- ---- items

module _ {A : Type 0} where
  -- what holds of all, and of pairs
  pub both : (P Q : A → Type 0) (xs : List A) → All P xs → All Q xs → All (λ x. P x × Q x) xs
  both P Q xs p q = λ k d within. (p k d within, q k d within)

  pub pairs_weaker : (P : A → Type 0) (R S : A → A → Type 0) → ((x y : A) → P x → P y → R x y → S x y) → (xs : List A) → All P xs → AllPairs R xs → AllPairs S xs
  pairs_weaker P R S f xs all pairs = λ i j d less within. f (get_or xs i d) (get_or xs j d) (all i d (omega arith)) (all j d within) (pairs i j d less within)

  pub pairs_map : (R : A → A → Type 0) (f : A → A) (xs : List A) → AllPairs (λ x y. R (f x) (f y)) xs → AllPairs R (map f xs)
  pairs_map R f [] pairs = pairs-nil R
  pairs_map R f (x ∷ xs) pairs =
      let S : A → A → Type 0 = λ y z. R (f y) (f z) in
      AllPairs-cons R (f x) (map f xs) (All-map (R (f x)) f xs (pairs-head S x xs pairs)) (pairs_map R f xs (pairs-tail S x xs pairs))

  -- an item that is placed is related to those that it comes after, and to those that it comes before
  pub pairs_placed : (before : A → A → Bool) (R : A → A → Type 0) (P : A → Type 0) (x : A) → IsRanking before →
      ((y : A) → P y → before y x ≡ true → R y x) → ((y : A) → P y → before y x ≡ false → R x y) →
      (xs : List A) → All P xs → AllPairs R xs → AllPairs (λ y z. before y z ≡ true) xs → AllPairs R (placed before x xs)
  pairs_placed before R P x rank after ahead [] all pairs sorted = AllPairs-cons R x [] (All-nil (R x)) (pairs-nil R)
  pairs_placed before R P x rank after ahead (y ∷ ys) all pairs sorted = cond_both (before y x) (y ∷ placed before x ys) (x ∷ y ∷ ys) (AllPairs R)
      (λ e. AllPairs-cons R y (placed before x ys) (All-placed before (R y) x ys (after y (All-head P y ys all) e) (pairs-head R y ys pairs))
      (pairs_placed before R P x rank after ahead ys (All-tail P y ys all) (pairs-tail R y ys pairs) (pairs-tail (λ u v. before u v ≡ true) y ys sorted)))
      (λ e. AllPairs-cons R x (y ∷ ys) (All-cons (R x) y ys (ahead y (All-head P y ys all) e) (behind e)) pairs)
    where
      behind : before y x ≡ false → All (R x) ys
      behind e = All-weaker (λ z. P z × (before y z ≡ true)) (R x) (λ z h. ahead z h.0 (later z h.1 (before z x) refl)) ys
          (both P (λ z. before y z ≡ true) ys (All-tail P y ys all) (pairs-head (λ u v. before u v ≡ true) y ys sorted))
        where
          later : (z : A) → before y z ≡ true → (b : Bool) → before z x ≡ b → b ≡ false
          later z first w f = grind (arith, nat_tests)

module _ {A : Type 0} (number : A → ℕ) where
  -- an item of the number is there
  abbrev pub stands : ℕ → List A → Bool
  stands n xs = is_some (place_of number n xs)

  stands_front : (n : ℕ) (x : A) (xs : List A) → stands n (x ∷ xs) ≡ cond (number x == n) true (stands n xs)
  stands_front n x xs = grind (arith, nat_tests)

  pub stands_placed : (before : A → A → Bool) (x : A) (n : ℕ) (xs : List A) → stands n (placed before x xs) ≡ cond (number x == n) true (stands n xs)
  stands_placed before x n [] = stands_front n x []
  stands_placed before x n (y ∷ ys) = grind (arith, stands_placed before x n ys)

  pub stands_without : (id n : ℕ) (xs : List A) → stands n (without number id xs) ≡ cond (id == n) false (stands n xs)
  stands_without id n [] = grind (arith, nat_tests)
  stands_without id n (x ∷ xs) = go (number x == id) (number x == n) (id == n) refl refl refl (stands_without id n xs)
      ∙ ap (λ s. cond (id == n) false s) (sym (stands_front n x xs))
    where
      go : (a b c : Bool) → (number x == id) ≡ a → (number x == n) ≡ b → (id == n) ≡ c → stands n (without number id xs) ≡ cond c false (stands n xs) →
          stands n (cond (not a) (x ∷ (without number id xs)) (without number id xs)) ≡ cond c false (cond b true (stands n xs))
      go y b z ea eb ec ih = grind (arith, nat_tests, eq-eqb, eqb-true, stands_front)

  -- no item has a number that is gone
  pub absent_without : (id : ℕ) (xs : List A) → IsAbsent number id (without number id xs)
  absent_without id xs = grind (arith, nat_tests, All-weaker, eqb-false, not-true, filter_passes)

  -- what holds of all holds of an item that is there
  pub record Numbered (n : ℕ) (P : A → Type 0) : Type 0 where
    pub item : A
    pub number_is : number item ≡ n
    pub holds : P item

  pub standing : (n : ℕ) (P : A → Type 0) (xs : List A) → stands n xs ≡ true → All P xs → Numbered n P
  standing n P [] some all = absurd (false≢true some)
  standing n P (x ∷ xs) some all = go (number x == n) refl (sym (stands_front n x xs) ∙ some) (λ later. standing n P xs later (All-tail P x xs all))
    where
      go : (b : Bool) → (number x == n) ≡ b → cond b true (stands n xs) ≡ true → (stands n xs ≡ true → Numbered n P) → Numbered n P
      go true same some rest = record { item = x; number_is = eqb-true (number x) n same; holds = All-head P x xs all }
      go false other some rest = rest some

-- ---- entries

-- what a mark does not touch holds after it
pub marked_keeps : (P : ScheduleEntry → Type 0) → ((e : ScheduleEntry) (b : Bool) → P e → P (record e { is_ready = b })) →
    (id : ℕ) (b : Bool) (e : ScheduleEntry) → P e → P (marked_entry id b e)
marked_keeps P keeps id b e p = cond_both (e.id == id) (record e { is_ready = b }) e P (λ _. keeps e b p) (λ _. p)

pub marked_all : (P : ScheduleEntry → Type 0) → ((e : ScheduleEntry) (b : Bool) → P e → P (record e { is_ready = b })) →
    (id : ℕ) (b : Bool) (es : List ScheduleEntry) → All P es → All P (marked id b es)
marked_all P keeps id b es all = All-map P (marked_entry id b) es (All-weaker P (λ e. P (marked_entry id b e)) (marked_keeps P keeps id b) es all)

pub marked_pairs : (R : ScheduleEntry → ScheduleEntry → Type 0) → ((e f : ScheduleEntry) (b c : Bool) → R e f →
    R (record e { is_ready = b }) (record f { is_ready = c })) → (id : ℕ) (b : Bool) (es : List ScheduleEntry) → AllPairs R es → AllPairs R (marked id b es)
marked_pairs R keeps id b es pairs = grind (arith, nat_tests, pairs_map R, marked_keeps)

-- ---- timers

abbrev pub id_of : Timer → ℕ
id_of t = t.id

-- when a timer is due once one is gone, and once one is placed that the object had not
pub due_without : (id n : ℕ) (ts : List Timer) → due_of n (without id_of id ts) ≡ cond (id == n) None (due_of n ts)
due_without id n [] = grind arith
due_without id n (t ∷ ts) = grind (arith, nat_tests, due_without id n ts)

pub due_placed : (t : Timer) (n : ℕ) (ts : List Timer) → due_of t.id ts ≡ None → due_of n (placed no_later t ts) ≡ cond (t.id == n) (Some t.due) (due_of n ts)
due_placed t n [] unset = refl
due_placed t n (u ∷ us) unset = grind (arith, nat_tests, due_placed t n us)

-- where numbers are distinct, each timer is the one of its object
pub own_due : (ts : List Timer) → AreDistinct id_of ts → All (λ t. due_of t.id ts ≡ Some t.due) ts
own_due ts distinct = λ k d within. due-at (get_or ts k d).id ts k d (own-place id_of ts k d distinct within)

-- an object that has no timer loses none
pub nothing_stops : (p : Pending) (id : ℕ) → is_some (due_of id p.timers) ≡ false → p ≡ record p { timers = without id_of id p.timers }
nothing_stops p id unset = grind (arith, nat_tests, without-absent, absent-due id p.timers)
