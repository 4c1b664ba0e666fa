-- That going over a method's code with the open loops in hand finds out whether its loops nest.
use Rattle.std.proofs.lemmas.Bool.Decides.{nat_tests}
use Rattle.std.proofs.Common.{◌≡◌, ◌<◌, ◌≤◌, ◌+◌, ◌∙◌, ℕ, zero, suc, Bool, true, false, List, [], ◌∷◌, ◌++◌, length, take, Some, None, IfSome, slice_get, inl}
use Rattle.std.proofs.Common.{inr, ⊎_elim, refl, sym, ap, arith, subst}
use Rattle.std.specs.Prelude.{◌⊎◌}
use Rattle.std.specs.List.{count_by}
use Rattle.std.proofs.lemmas.Bool.{cases_lt}
use Rattle.std.proofs.lemmas.List.Sums.{count_by_more_yes, count_by_more_no}
use Rattle.std.proofs.lemmas.Option.{slice_get_within, get_or_from_slice_get, slice_get_cases, same_Some}
use Rattle.std.proofs.lemmas.List.{length-append}
use Rattle.aom_instructions.specs.declared.instr.Instr.{Instr}
use Rattle.aom_instructions.specs.Table.{transfer_of}
use Rattle.aom_instructions.specs.declared.transfer.Transfer.{Transfer}
use Rattle.aom_instructions.specs.declared.transfer.Transfer.TheVariants.{Begin, Repeat}
use Rattle.aom_link_conditions.specs.Jumps.{begins, begins_loop}
use Rattle.aom_link_conditions.specs.Loops.{ApartOrWithin, Closes, ClosesSome, Ending, LoopsNest, begun, begun_by, ended, is_next, loop_at, loop_in, next_at, next_in, repeated_by, repeats}
use Rattle.aom_link_conditions.specs.Scanning.{Enters, Leaves, Passes, PassesBy}
use Rattle.aom_link_conditions.proofs.ImageLemmas.{nil_given}

-- ---- lists

at_or_before : (p i : ℕ) → p < i + 1 → (p < i) ⊎ (p ≡ i)
at_or_before p i h = ⊎_elim (λ lt. inl lt) (λ ge. inr (omega arith)) (cases_lt p i)

-- a place of a list with one more element
last_get : (xs : List ℕ) (x k p : ℕ) → slice_get (xs ++ x ∷ []) k ≡ Some p → (slice_get xs k ≡ Some p) ⊎ ((k ≡ length xs) × (p ≡ x))
last_get (y ∷ xs) x zero p e = inl e
last_get (y ∷ xs) x (suc k) p e = ⊎_elim (λ h. inl h) (λ h. inr (ap suc h.0, h.1)) (last_get xs x k p e)
last_get [] x zero p e = inr (refl, cc)
last_get _ x k p e = absurd (cc)

keep_get : (xs : List ℕ) (x k p : ℕ) → slice_get xs k ≡ Some p → slice_get (xs ++ x ∷ []) k ≡ Some p
keep_get [] x k p e = absurd (cc)
keep_get (y ∷ xs) x zero p e = e
keep_get (y ∷ xs) x (suc k) p e = keep_get xs x k p e

at_last : (xs : List ℕ) (x : ℕ) → slice_get (xs ++ x ∷ []) (length xs) ≡ Some x
at_last [] x = refl
at_last (y ∷ xs) x = at_last xs x

-- a list ends with its last element
ends_with : (xs : List ℕ) (d p : ℕ) → slice_get xs d ≡ Some p → length xs ≡ suc d → (ys : List ℕ) × (xs ≡ ys ++ p ∷ []) × (length ys ≡ d)
ends_with (x ∷ []) zero p e n = ([], (cc), refl)
ends_with (x ∷ xs) (suc d) p e n =
    let r = ends_with xs d p e (omega (arith, n)) in
    (x ∷ r.0, ap (λ (l : List ℕ). x ∷ l) r.1, ap suc r.2)
ends_with _ d p e n = absurd cc

-- ---- the state of the scan

-- closed by one next before a place
pub record ClosedBefore (code : List Instr) (i d p : ℕ) : Type 0 where
  pub place : ℕ
  pub below : place < i
  pub closes : Closes code d p place
  pub only : (q : ℕ) → q < i → Closes code d p q → q ≡ place

-- the loops before a place are as they must be, and these are open
pub record Scanned (code : List Instr) (i : ℕ) (open_loops : List ℕ) : Type 0 where
  pub opens : (k p : ℕ) → slice_get open_loops k ≡ Some p → (p < i) × (loop_at code p ≡ Some k)
  pub rising : (j k p r : ℕ) → slice_get open_loops j ≡ Some p → slice_get open_loops k ≡ Some r → j < k → p < r
  pub unclosed : (k d p q : ℕ) → slice_get open_loops k ≡ Some p → Closes code d p q → i ≤ q
  pub loops : (p d : ℕ) → p < i → loop_at code p ≡ Some d → (slice_get open_loops d ≡ Some p) ⊎ ClosedBefore code i d p
  pub closing : (q : ℕ) (e : Ending) → q < i → next_at code q ≡ Some e → ClosesSome code e.number q
  pub apart : (c d p q r s : ℕ) → Closes code c p q → Closes code d r s → q < i → s < i → p < r → ApartOrWithin q r s
  pub before : (k c p q r : ℕ) → slice_get open_loops k ≡ Some r → Closes code c p q → q < i → p < r → q < r
  pub number : (p d : ℕ) → p < i → loop_at code p ≡ Some d → d + ended code p ≡ begun code p
  pub count : length open_loops + ended code i ≡ begun code i

-- ---- one step

-- a place without a next closes nothing
earlier : (code : List Instr) (i d p q : ℕ) → next_at code i ≡ None → Closes code d p q → q < i + 1 → q < i
earlier code i d p q none c h = ⊎_elim (λ lt. lt) (λ e. let f = c.ends in absurd (cc)) (at_or_before q i h)

later : (code : List Instr) (i d p q : ℕ) → next_at code i ≡ None → Closes code d p q → i ≤ q → i + 1 ≤ q
later code i d p q none c h = ⊎_elim (λ lt. let r = earlier code i d p q none c lt in omega arith) (λ ge. ge) (cases_lt q (i + 1))

-- what was closed stays closed, where nothing else closes it
still_closed : (code : List Instr) (i d p : ℕ) → next_at code i ≡ None → ClosedBefore code i d p → ClosedBefore code (i + 1) d p
still_closed code i d p none b =
    record { place = b.place; below = (let h = b.below in omega arith); closes = b.closes; only = λ q h c. b.only q (earlier code i d p q none c h) c }

counted : (code : List Instr) (i : ℕ) (x : Instr) (test : Instr → Bool) → slice_get code i ≡ Some x → test x ≡ true →
    count_by test (take (i + 1) code) ≡ count_by test (take i code) + 1
counted code i x test e t = count_by_more_yes test code i x (slice_get_within code i x e) (ap test (get_or_from_slice_get code i x x e) ∙ t)

not_counted : (code : List Instr) (i : ℕ) (x : Instr) (test : Instr → Bool) → slice_get code i ≡ Some x → test x ≡ false →
    count_by test (take (i + 1) code) ≡ count_by test (take i code)
not_counted code i x test e t = count_by_more_no test code i x (slice_get_within code i x e) (ap test (get_or_from_slice_get code i x x e) ∙ t)

scanned_plain : (code : List Instr) (i : ℕ) (x : Instr) (s : List ℕ) → slice_get code i ≡ Some x →
    loop_at code i ≡ None → next_at code i ≡ None → begins_loop x ≡ false → is_next x ≡ false → Scanned code i s → Scanned code (i + 1) s
scanned_plain code i x s e no_loop no_next l n h = record {
  opens = λ k p g. let o = h.opens k p g in (omega (arith, o.0), o.1);
  rising = h.rising;
  unclosed = λ k d p q g c. later code i d p q no_next c (h.unclosed k d p q g c);
  loops = λ p d lt g. ⊎_elim (λ (below : p < i). ⊎_elim (λ o. inl o) (λ b. inr (still_closed code i d p no_next b)) (h.loops p d below g))
      (λ (same : p ≡ i). absurd (cc)) (at_or_before p i lt);
  closing = λ q f lt g. ⊎_elim (λ (below : q < i). h.closing q f below g) (λ (same : q ≡ i). absurd (cc)) (at_or_before q i lt);
  apart = λ c d p q r t one other lq lt. h.apart c d p q r t one other (earlier code i c p q no_next one lq) (earlier code i d r t no_next other lt);
  before = λ k c p q r g one lq. h.before k c p q r g one (earlier code i c p q no_next one lq);
  number = λ p d lt g. ⊎_elim (λ (below : p < i). h.number p d below g) (λ (same : p ≡ i). absurd (cc)) (at_or_before p i lt);
  count = (let b = not_counted code i x begins_loop e l in let f = not_counted code i x is_next e n in let c = h.count in omega arith);
}

scanned_enter : (code : List Instr) (i d : ℕ) (x : Instr) (s t : List ℕ) → slice_get code i ≡ Some x →
    loop_at code i ≡ Some d → next_at code i ≡ None → begins_loop x ≡ true → is_next x ≡ false → Enters d i s t → Scanned code i s → Scanned code (i + 1) t
scanned_enter code i d x s t e is no_next l n a h = rw a.last (record {
  opens = λ k p g. ⊎_elim (λ (old : slice_get s k ≡ Some p). let o = h.opens k p old in (omega (arith, o.0), o.1)) (λ (new : (k ≡ length s) × (p ≡ i)).
      let w = new.0 in let v = new.1 in let u = a.number in (omega arith, ap (loop_at code) v ∙ (is ∙ ap (λ (m : ℕ). Some m) (u ∙ sym w))))
      (last_get s i k p g);
  rising = λ j k p r g f lt. ⊎_elim (λ (old : slice_get s k ≡ Some r). ⊎_elim (λ (one : slice_get s j ≡ Some p). h.rising j k p r one old lt)
      (λ (new : (j ≡ length s) × (p ≡ i)). let w = slice_get_within s k r old in absurd (omega (arith, new.0, w, lt))) (last_get s i j p g))
      (λ (new : (k ≡ length s) × (r ≡ i)). ⊎_elim (λ (one : slice_get s j ≡ Some p). let o = h.opens j p one in omega (arith, o.0, new.1))
      (λ (other : (j ≡ length s) × (p ≡ i)). absurd (omega (arith, new.0, other.0, lt))) (last_get s i j p g)) (last_get s i k r f);
  unclosed = grind (arith, nat_tests, later, last_get);
  loops = λ p c lt g. ⊎_elim (λ (below : p < i). ⊎_elim (λ o. inl (keep_get s i c p o)) (λ b. inr (still_closed code i c p no_next b)) (h.loops p c below g))
      (λ (same : p ≡ i). inl (let u = a.number in let v : c ≡ length s = cc in rw (v, same) (at_last s i))) (at_or_before p i lt);
  closing = λ q f lt g. ⊎_elim (λ (below : q < i). h.closing q f below g) (λ (same : q ≡ i). absurd (cc)) (at_or_before q i lt);
  apart = λ c d p q r t one other lq lt. h.apart c d p q r t one other (earlier code i c p q no_next one lq) (earlier code i d r t no_next other lt);
  before = grind (arith, nat_tests, earlier, last_get);
  number = λ p c lt g. ⊎_elim (λ (below : p < i). h.number p c below g)
      (λ (same : p ≡ i). let u = a.number in let v : c ≡ length s = cc in rw (v, same) h.count) (at_or_before p i lt);
  count = grind (arith, nat_tests, counted code i x, not_counted code i x, length-append s (i ∷ []));
})

-- a next closes the one loop that it goes back to
same_start : (code : List Instr) (i d c p t : ℕ) → next_at code i ≡ Some (record { number = d; back = suc t }) → Closes code c p i → (p ≡ t) × (c ≡ d)
same_start code i d c p t e one = grind (arith, nat_tests, same_Some)

scanned_leave : (code : List Instr) (i d t : ℕ) (x : Instr) (s r : List ℕ) → slice_get code i ≡ Some x → loop_at code i ≡ None → next_at code i ≡ Some
    (record { number = d; back = suc t }) → begins_loop x ≡ false → is_next x ≡ true → s ≡ r ++ t ∷ [] → d ≡ length r → Scanned code i s → Scanned code (i + 1) r
scanned_leave code i d t x s r e no_loop is l n last number h =
    let top : slice_get s d ≡ Some t = rw (last, number) (at_last r t) in
    let keep = λ (k p : ℕ) (g : slice_get r k ≡ Some p). let out : slice_get s k ≡ Some p = rw last (keep_get r t k p g) in out in
    let under = λ (k p : ℕ) (g : slice_get r k ≡ Some p). let lt : k < d = rw number (slice_get_within r k p g) in h.rising k d p t (keep k p g) top lt in
    let closes : Closes code d t i = record { begins = (h.opens d t top).1; later = (h.opens d t top).0; ends = is } in
    record {
      opens = λ k p g. let o = h.opens k p (keep k p g) in (omega (arith, o.0), o.1);
      rising = λ j k p q g f. h.rising j k p q (keep j p g) (keep k q f);
      unclosed = λ k c p q g one. ⊎_elim
          (λ (lt : q < i + 1). let le = h.unclosed k c p q (keep k p g) one in let same : q ≡ i = omega arith in let w = same_start code i d c p t is (subst
          (λ (v : ℕ). Closes code c p v) same one) in let u = under k p g in absurd (omega (arith, u, w.0))) (λ (ge : i + 1 ≤ q). ge) (cases_lt q (i + 1));
      loops = λ p c lt g. ⊎_elim (λ (below : p < i). ⊎_elim (λ (o : slice_get s c ≡ Some p). ⊎_elim (λ (old : slice_get r c ≡ Some p). inl old)
          (λ (new : (c ≡ length r) × (p ≡ t)).
          let same : c ≡ d = new.0 ∙ sym number in
          let it : Closes code c p i = rw (same, new.1) closes in
          inr (record { place = i; below = omega arith; closes = it; only = λ q lq one. let le = h.unclosed c c p q o one in omega arith }))
          (last_get r t c p (rw last at o))) (λ (b : ClosedBefore code i c p). inr (record {
            place = b.place;
            below = (let w = b.below in omega arith);
            closes = b.closes;
            only = grind (arith, nat_tests, same_start, at_or_before);
          })) (h.loops p c below g)) (λ (same : p ≡ i). absurd (cc)) (at_or_before p i lt);
      closing = λ q f lt g. ⊎_elim (λ (below : q < i). h.closing q f below g) (λ (same : q ≡ i).
          let w : Some f ≡ Some (record { number = d; back = suc t }) = sym g ∙ (ap (next_at code) same ∙ is) in
          let v : f ≡ record { number = d; back = suc t } = cc in
          let u : f.number ≡ d = ap (λ (a : Ending). a.number) v in
          rw (u, same) (record { place = t; closes = closes })) (at_or_before q i lt);
      apart = λ c b p q m z one other lq lz lt. ⊎_elim (λ (q_below : q < i). ⊎_elim (λ (z_below : z < i). h.apart c b p q m z one other q_below z_below lt)
          (λ (same : z ≡ i).
          let w = same_start code i d b m t is (subst (λ (v : ℕ). Closes code b m v) same other) in
          let u = h.before d c p q t top one q_below (omega (arith, w.0, lt)) in
          inl (omega (arith, u, w.0))) (at_or_before z i lz)) (λ (same : q ≡ i). ⊎_elim (λ (z_below : z < i). inr (omega (arith, z_below, same)))
          (λ (also : z ≡ i).
          let w = same_start code i d c p t is (subst (λ (v : ℕ). Closes code c p v) same one) in
          let u = same_start code i d b m t is (subst (λ (v : ℕ). Closes code b m v) also other) in
          absurd (omega (arith, w.0, u.0, lt))) (at_or_before z i lz)) (at_or_before q i lq);
      before = λ k c p q m g one lq lt. ⊎_elim (λ (q_below : q < i). h.before k c p q m (keep k m g) one q_below lt) (λ (same : q ≡ i).
          let w = same_start code i d c p t is (subst (λ (v : ℕ). Closes code c p v) same one) in
          let u = under k m g in
          absurd (omega (arith, w.0, u, lt))) (at_or_before q i lq);
      number = λ p c lt g. ⊎_elim (λ (below : p < i). h.number p c below g) (λ (same : p ≡ i). absurd (cc)) (at_or_before p i lt);
      count = grind (arith, nat_tests, not_counted code i x, counted code i x, length-append r (t ∷ []));
    }

-- what an instruction of that transfer begins and ends
loop_by : (code : List Instr) (i : ℕ) (x : Instr) (t : Transfer) → transfer_of x ≡ t → slice_get code i ≡ Some x → loop_at code i ≡ begun_by (Some t)
unfolding loop_in
loop_by code i x t is e = ap loop_in e ∙ ap (λ (u : Transfer). begun_by (Some u)) is

next_by : (code : List Instr) (i : ℕ) (x : Instr) (t : Transfer) → transfer_of x ≡ t → slice_get code i ≡ Some x → next_at code i ≡ repeated_by (Some t)
unfolding next_in
next_by code i x t is e = ap next_in e ∙ ap (λ (u : Transfer). repeated_by (Some u)) is

-- an instruction that goes on as it must keeps the scan going
scanned_by : (code : List Instr) (i : ℕ) (x : Instr) (t : Transfer) (s r : List ℕ) → transfer_of x ≡ t → slice_get code i ≡ Some x → PassesBy i t s r →
    Scanned code i s → Scanned code (i + 1) r
unfolding begins_loop is_next
scanned_by code i x (Begin d n) s r is e a h =
    scanned_enter code i d x s r e (loop_by code i x (Begin d n) is e) (next_by code i x (Begin d n) is e) (ap begins is) (ap repeats is) a h
scanned_by code i x (Repeat d t) s r is e a h =
    let back = ap (λ (b : ℕ). Some (record { number = d; back = b })) a.back in
    scanned_leave code i d a.start x s r e (loop_by code i x (Repeat d t) is e) (next_by code i x (Repeat d t) is e ∙ back) (ap begins is)
    (ap repeats is) a.last a.number h
scanned_by code i x t s r is e a h = rw a (scanned_plain code i x s e (loop_by code i x t is e) (next_by code i x t is e) (ap begins is) (ap repeats is) h)

pub scanned_more : (code : List Instr) (i : ℕ) (x : Instr) (s r : List ℕ) → slice_get code i ≡ Some x → Passes i x s r → Scanned code i s → Scanned code (i + 1) r
scanned_more code i x s r e a h = scanned_by code i x (transfer_of x) s r refl e a h

pub scanned_none : (code : List Instr) → Scanned code 0 []
scanned_none code = record {
  opens = λ k p g. absurd (cc);
  rising = λ j k p r g f lt. absurd (cc);
  unclosed = λ k d p q g c. omega arith;
  loops = λ p d lt g. absurd (omega arith);
  closing = λ q e lt g. absurd (omega arith);
  apart = λ c d p q r s one other lq ls lt. absurd (omega arith);
  before = λ k c p q r g one lq lt. absurd (omega arith);
  number = λ p d lt g. absurd (omega arith);
  count = refl;
}

-- ---- from the definition

pub loop_within : (code : List Instr) (p d : ℕ) → loop_at code p ≡ Some d → p < length code
unfolding loop_in
loop_within code p d e = grind (arith, slice_get_within code p)

pub next_within : (code : List Instr) (q : ℕ) (e : Ending) → next_at code q ≡ Some e → q < length code
unfolding next_in
next_within code q e h = grind (arith, slice_get_within code q)

-- where loops nest, the innermost open loop is the one that a next closes
closes_top : (code : List Instr) (i d t : ℕ) (s : List ℕ) → next_at code i ≡ Some (record { number = d; back = t }) → Scanned code i s → LoopsNest code →
    (r : List ℕ) × Leaves d t s r
closes_top code i d t s is h nest =
    let some : ClosesSome code d i = (let w = nest.closing i in rw is at w) in
    let p = some.place in
    let it : Closes code d p i = some.closes in
    let below : p < i = it.later in
    let one = nest.closed p d it.begins in
    let open_here : slice_get s d ≡ Some p = ⊎_elim (λ (o : slice_get s d ≡ Some p). o)
    (λ (b : ClosedBefore code i d p). let u = one.only i it in let v = one.only b.place b.closes in let w = b.below in absurd (omega arith))
    (h.loops p d below it.begins) in
    let long : d < length s = slice_get_within s d p open_here in
    let short : length s ≤ suc d = elim (slice_get_cases s (suc d)).1 as (λ _. length s ≤ suc d) [
      | inl w ↦
          let r = w.0 in
          let up = h.rising d (suc d) p r open_here w.2 (omega arith) in
          let under = h.opens (suc d) r w.2 in
          let other = nest.closed r (suc d) under.1 in
          let late = h.unclosed (suc d) (suc d) r other.place w.2 other.closes in
          let apart = nest.nested d (suc d) p i r other.place it other.closes up in
          ⊎_elim (λ (a : i < r). absurd (omega (arith, a, under.0))) (λ (a : other.place < i). absurd (omega (arith, a, late))) apart
      | inr w ↦ w.0
    ] in
    let split = ends_with s d p open_here (omega arith) in
    let back : t ≡ suc p = ap (λ (x : Ending). x.back)
    (same_Some (record { number = d; back = t }) (record { number = d; back = suc p }) (sym {a = next_at code i} is ∙ it.ends)) in
    let number : d ≡ length split.0 = sym {a = length split.0} split.2 in
    (split.0, record { start = p; last = split.1; back = back; number = number })

-- where loops nest, each instruction goes on as it must
passes_by : (code : List Instr) (i : ℕ) (x : Instr) (t : Transfer) (s : List ℕ) → transfer_of x ≡ t → slice_get code i ≡ Some x → Scanned code i s →
    LoopsNest code → (r : List ℕ) × PassesBy i t s r
passes_by code i x (Begin d n) s is e h nest =
    let w = nest.number i d (loop_by code i x (Begin d n) is e) in
    let c = h.count in
    (s ++ i ∷ [], record { number = omega arith; last = refl })
passes_by code i x (Repeat d t) s is e h nest = closes_top code i d t s (next_by code i x (Repeat d t) is e) h nest
passes_by code i x t s is e h nest = (s, refl)

pub must_pass : (code : List Instr) (i : ℕ) (x : Instr) (s : List ℕ) → slice_get code i ≡ Some x → Scanned code i s → LoopsNest code → (r : List ℕ) × Passes i x s r
must_pass code i x s e h nest = passes_by code i x (transfer_of x) s refl e h nest

-- where loops nest, none is open at the end
pub none_open : (code : List Instr) (i : ℕ) (s : List ℕ) → length code ≤ i → Scanned code i s → LoopsNest code → length s ≡ 0
none_open code i [] le h nest = refl
none_open code i (p ∷ s) le h nest = grind (arith, h.opens 0 p, nest.closed p 0, h.unclosed 0 0 p, next_within code)

-- what was gone over whole, with no loop open, nests
all_closed : (code : List Instr) (i : ℕ) → length code ≤ i → Scanned code i [] → LoopsNest code
unfolding next_in
all_closed code i le h = record {
  closed = λ p d e. ⊎_elim (λ (o : slice_get [] d ≡ Some p). absurd (cc)) (λ (b : ClosedBefore code i d p).
      record { place = b.place; closes = b.closes; only = λ q c. b.only q (let w = next_within code q _ c.ends in omega arith) c })
      (h.loops p d (let w = loop_within code p d e in omega arith) e);
  closing = λ q. elim (next_at code q) as (λ o. next_at code q ≡ o → IfSome o (λ e. ClosesSome code e.number q)) [
    | None ↦ λ f. tt
    | Some e ↦ λ f. h.closing q e (let w = next_within code q e f in omega arith) f
  ] refl;
  nested = λ c d p q r t one other lt. h.apart c d p q r t one other (let w = next_within code q _ one.ends in omega arith)
      (let w = next_within code t _ other.ends in omega arith) lt;
  number = λ p d e. h.number p d (let w = loop_within code p d e in omega arith) e;
}

pub nests : (code : List Instr) (i : ℕ) (s : List ℕ) → length code ≤ i → length s ≡ 0 → Scanned code i s → LoopsNest code
nests code i s le none h = nil_given (λ r. length r ≡ 0) s none (λ x r some. omega (arith, some)) (λ is e. all_closed code i le (subst (Scanned code i) is h))
