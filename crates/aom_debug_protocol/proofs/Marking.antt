-- The first breakpoint at a place is the one that a search from the front finds, by recursion.
use Rattle.std.proofs.Common.{◌≡◌, ◌∙◌, ◌+◌, ◌||◌, ℕ, suc, Bool, true, false, not, cond, nat_lt, List, [], ◌∷◌, ◌++◌, length, Some, None, refl, sym, ap, arith}
use Rattle.std.proofs.Common.{drop, rules, slice_set, take, tests}
use Rattle.std.proofs.lemmas.List.{length-set, take-append-le}
use Rattle.std.proofs.Math.Seq.{take-length}
use Rattle.std.specs.List.{position, position_or_len, refill, remove}
use Rattle.std.proofs.lemmas.Bool.{le-ltb, lt-ltb, ltb-false, ltb-true}
use Rattle.aom_debug_protocol.specs.declared.breakpoints.Breakpoint.{Breakpoint}
use Rattle.aom_debug_protocol.specs.declared.spot.CodeLocation.{CodeLocation}
use Rattle.aom_debug_protocol.specs.Marks.{UnbreakUndoesBreak, has_spot, is_at, is_set, replaced, same_spot, with_breakpoint, without_spot}

one_more : (n : ℕ) → 1 + n ≡ suc n
one_more n = omega arith

less_more : (n count : ℕ) (b : Bool) → nat_lt n count ≡ b → nat_lt (suc n) (suc count) ≡ b
less_more n count true is = lt-ltb (suc n) (suc count) (let less = ltb-true n count is in omega (arith, less))
less_more n count false is = le-ltb (suc n) (suc count) (let most = ltb-false n count is in omega (arith, most))

-- by the test of the first one
first_removed : (b : Bool) (x : Breakpoint) (xs rest : List Breakpoint) (n : ℕ) → remove xs n ≡ rest → remove (x ∷ xs) (cond (not b) (1 + n) 0) ≡ cond b xs (x ∷ rest)
first_removed true x xs rest n is = refl
first_removed false x xs rest n is = ap (λ k. remove (x ∷ xs) k) (one_more n) ∙ ap (λ ys. x ∷ ys) is

pub found_removed : (spot : CodeLocation) (xs : List Breakpoint) → remove xs (position_or_len (is_at spot) xs) ≡ without_spot spot xs
found_removed spot [] = refl
found_removed spot (x ∷ xs) = first_removed (is_at spot x) x xs (without_spot spot xs) (position_or_len (is_at spot) xs) (found_removed spot xs)

first_found : (b any : Bool) (n count : ℕ) → nat_lt n count ≡ any → nat_lt (cond (not b) (1 + n) 0) (suc count) ≡ (b || any)
first_found true any n count is = lt-ltb 0 (suc count) (omega arith)
first_found false any n count is = ap (λ k. nat_lt k (suc count)) (one_more n) ∙ less_more n count any is

pub found_has : (spot : CodeLocation) (xs : List Breakpoint) → nat_lt (position_or_len (is_at spot) xs) (length xs) ≡ has_spot spot xs
found_has spot [] = refl
found_has spot (x ∷ xs) = first_found (is_at spot x) (has_spot spot xs) (position_or_len (is_at spot) xs) (length xs) (found_has spot xs)

-- where it is not, nothing is taken away
first_kept : (b any : Bool) (x : Breakpoint) (xs rest : List Breakpoint) → (b || any) ≡ false → (any ≡ false → rest ≡ xs) → cond b xs (x ∷ rest) ≡ x ∷ xs
first_kept true any x xs rest none is = absurd cc
first_kept false any x xs rest none is = ap (λ ys. x ∷ ys) (is none)

pub none_kept : (spot : CodeLocation) (xs : List Breakpoint) → has_spot spot xs ≡ false → without_spot spot xs ≡ xs
none_kept spot [] none = refl
none_kept spot (x ∷ xs) none = first_kept (is_at spot x) (has_spot spot xs) x xs (without_spot spot xs) none (λ rest. none_kept spot xs rest)

-- a search that finds says so
found_at : (b : Bool) (n i : ℕ) → cond b (Some n) None ≡ Some i → (b ≡ true) × (n ≡ i)
found_at true n i is = (refl, cc)
found_at false n i is = absurd cc

found_not : (b : Bool) (n : ℕ) → cond b (Some n) None ≡ None → b ≡ false
found_not true n is = absurd cc
found_not false n is = refl

pub taken_has : (spot : CodeLocation) (xs : List Breakpoint) (i : ℕ) → position (is_at spot) xs ≡ Some i → has_spot spot xs ≡ true
taken_has spot xs i at = sym (found_has spot xs) ∙ (found_at _ _ i at).0

pub taken_is : (spot : CodeLocation) (xs : List Breakpoint) (i : ℕ) → position (is_at spot) xs ≡ Some i → remove xs i ≡ without_spot spot xs
taken_is spot xs i at = ap (λ k. remove xs k) (sym (found_at _ _ i at).1) ∙ found_removed spot xs

pub none_has : (spot : CodeLocation) (xs : List Breakpoint) → position (is_at spot) xs ≡ None → has_spot spot xs ≡ false
none_has spot xs none = sym (found_has spot xs) ∙ found_not _ _ none

-- one that was set last is taken away
first_last : (b any : Bool) (x s : Breakpoint) (xs rest : List Breakpoint) → (b || any) ≡ false → (any ≡ false → rest ≡ xs) → cond b (xs ++ s ∷ []) (x ∷ rest) ≡ x ∷ xs
first_last true any x s xs rest none is = absurd cc
first_last false any x s xs rest none is = ap (λ ys. x ∷ ys) (is none)

same_self : (spot : CodeLocation) → same_spot spot spot ≡ true
same_self spot = search (rules, tests)

last_taken : (b : Breakpoint) (xs : List Breakpoint) → has_spot b.spot xs ≡ false → without_spot b.spot (xs ++ b ∷ []) ≡ xs
last_taken b [] none = ap (λ is. cond is [] (b ∷ [])) (same_self b.spot)
last_taken b (x ∷ xs) none =
    first_last (is_at b.spot x) (has_spot b.spot xs) x b xs (without_spot b.spot (xs ++ b ∷ [])) none (λ rest. last_taken b xs rest)

by_room : (room : Bool) (b : Breakpoint) (bs : List Breakpoint) → has_spot b.spot bs ≡ false → without_spot b.spot (cond room (bs ++ b ∷ []) bs) ≡ bs
by_room true b bs none = last_taken b bs none
by_room false b bs none = none_kept b.spot bs none

pub unbreak_undoes : UnbreakUndoesBreak
unbreak_undoes b bs none = rw none (by_room (nat_lt (length bs) 16) b bs none)

-- ---- one is put in the place of another

first_replaced : (is : Bool) (b x : Breakpoint) (xs rest : List Breakpoint) (n : ℕ) → slice_set xs n b ≡ rest →
    slice_set (x ∷ xs) (cond (not is) (1 + n) 0) b ≡ cond is (b ∷ xs) (x ∷ rest)
first_replaced true b x xs rest n is = refl
first_replaced false b x xs rest n is = ap (λ k. slice_set (x ∷ xs) k b) (one_more n) ∙ ap (λ ys. x ∷ ys) is

found_replaced : (b : Breakpoint) (xs : List Breakpoint) → slice_set xs (position_or_len (is_at b.spot) xs) b ≡ replaced b xs
found_replaced b [] = refl
found_replaced b (x ∷ xs) = first_replaced (is_at b.spot x) b x xs (replaced b xs) (position_or_len (is_at b.spot) xs) (found_replaced b xs)

-- a slice that is written back whole
refilled : (xs ws : List Breakpoint) → length ws ≡ length xs → refill (length xs) xs ws ≡ ws
refilled xs ws same = take-append-le (length xs) ws (drop (length ws) xs) (omega (arith, same)) ∙ ap (λ n. take n ws) (sym same) ∙ take-length ws

pub taken_on : (b : Breakpoint) (xs : List Breakpoint) (i : ℕ) → position (is_at b.spot) xs ≡ Some i → slice_set xs i b ≡ replaced b xs
taken_on b xs i at = ap (λ k. slice_set xs k b) (sym (found_at _ _ i at).1) ∙ found_replaced b xs

pub written_back : (b : Breakpoint) (xs ws : List Breakpoint) (i : ℕ) → ws ≡ xs → position (is_at b.spot) xs ≡ Some i →
    refill (length xs) xs (slice_set ws i b) ≡ with_breakpoint b xs
written_back b xs ws i same at = refilled xs (slice_set ws i b) (length-set ws i b ∙ ap length same) ∙ ap (λ us. slice_set us i b) same ∙ taken_on b xs i at
    ∙ sym (ap (λ has. cond has (replaced b xs) (cond (nat_lt (length xs) 16) (xs ++ b ∷ []) xs)) (taken_has b.spot xs i at))

pub may_be_set : (spot : CodeLocation) (xs : List Breakpoint) (i : ℕ) → position (is_at spot) xs ≡ Some i → true ≡ is_set spot xs
may_be_set spot xs i at = ap (λ has. has || nat_lt (length xs) 16) (sym (taken_has spot xs i at))

-- where none is at its place it stands behind the others
pub room_tells : (spot : CodeLocation) (xs : List Breakpoint) → position (is_at spot) xs ≡ None → nat_lt (length xs) 16 ≡ is_set spot xs
room_tells spot xs none = ap (λ has. has || nat_lt (length xs) 16) (sym (none_has spot xs none))

pub added : (b : Breakpoint) (xs : List Breakpoint) → position (is_at b.spot) xs ≡ None → cond (nat_lt (length xs) 16) (xs ++ b ∷ []) xs ≡ with_breakpoint b xs
added b xs none = ap (λ has. cond has (replaced b xs) (cond (nat_lt (length xs) 16) (xs ++ b ∷ []) xs)) (sym (none_has b.spot xs none))
