-- The bodies of loops round a place.
use Rattle.std.proofs.Common.{◌≡◌, ◌<◌, ◌≤◌, ◌∙◌, ℕ, zero, suc, Bool, true, false, List, [], ◌∷◌, drop, Some, slice_get, ⊎_elim, refl, sym, ap, subst, length, arith}
use Rattle.std.specs.Prelude.{◌≢◌, ◌||◌, nat_lt}
use Rattle.std.specs.List.{list_any}
use Rattle.std.proofs.Math.Seq.{drop-nil}
use Rattle.std.proofs.lemmas.Bool.{eq-eqb, ltb-true, lt-ltb, true≢false}
use Rattle.std.proofs.lemmas.Bool.Decides.{nat_tests}
use Rattle.std.proofs.lemmas.Option.{slice_get_within, same_Some}
use Rattle.aom_image.specs.Views.{transfer_in}
use Rattle.aom_instructions.specs.Table.{transfer_of}
use Rattle.aom_instructions.specs.declared.instr.Instr.{Instr}
use Rattle.aom_instructions.specs.declared.transfer.Transfer.{Transfer}
use Rattle.aom_instructions.specs.declared.transfer.Transfer.TheVariants.{Begin, Repeat}
use Rattle.aom_termination.proofs.StaticBoundsLemmas.{LoopIn}
use Rattle.aom_link_conditions.specs.Loops.{loop_in, loop_at, Ending, next_in, next_at, repeated_by, Closes, LoopsNest}
use Rattle.aom_link_conditions.specs.Scanning.{Enters, PassesBy}
use Rattle.aom_termination.proofs.LinkConditionsLemmas.{ClosedBefore, both as both_true, must_pass, next_there, scanned_at}
use Rattle.aom_termination.proofs.ImageLemmas.{transfer_there}
use Rattle.aom_termination.specs.Within.{ends_by, is_end_of, is_in_body}

-- ---- searching from a place on

-- an instruction from a place on that passes
pub record Found (test : Instr → Bool) (code : List Instr) (place : ℕ) : Type 0 where
  pub at : ℕ
  pub from : place ≤ at
  pub instr : Instr
  pub stands : slice_get code at ≡ Some instr
  pub passes : test instr ≡ true

pub found : (test : Instr → Bool) (code : List Instr) (place : ℕ) → list_any test (drop place code) ≡ true → Found test code place
found test (x ∷ xs) zero e = here (test x) refl (λ h. found test xs zero h) e
  where
    here : (b : Bool) → test x ≡ b → (list_any test xs ≡ true → Found test xs zero) → (b || list_any test xs) ≡ true → Found test (x ∷ xs) zero
    here true t later e = record { at = 0; from = omega arith; instr = x; stands = refl; passes = t }
    here false t later e =
        let w = later e in
        record { at = suc w.at; from = omega arith; instr = w.instr; stands = w.stands; passes = w.passes }
found test (x ∷ xs) (suc k) e =
    let w = found test xs k e in
    record { at = suc w.at; from = omega (arith, w.from); instr = w.instr; stands = w.stands; passes = w.passes }
found test [] place e = absurd (true≢false (sym e ∙ ap (list_any test) (drop-nil place)))

or_right : (a : Bool) → (a || true) ≡ true
or_right x = grind arith

pub finds : (test : Instr → Bool) (code : List Instr) (place q : ℕ) (x : Instr) → place ≤ q → slice_get code q ≡ Some x → test x ≡ true →
    list_any test (drop place code) ≡ true
finds test (y ∷ xs) zero zero x le s e = let same : y ≡ x = cc in ap (λ b. b || list_any test xs) (ap test same ∙ e)
finds test (y ∷ xs) zero (suc q) x le s e = ap (λ b. test y || b) (finds test xs zero q x (omega arith) s e) ∙ or_right (test y)
finds test (y ∷ xs) (suc k) (suc q) x le s e = finds test xs k q x (omega (arith, le)) s e
finds test _ _ q x le s e = absurd (first_of (cc, omega arith))

-- ---- the ends of a loop

ends_so : (number back : ℕ) (t : Transfer) → ends_by number back t ≡ true → repeated_by (Some t) ≡ Some (record { number = number; back = back })
ends_so number back t e = grind (arith, nat_tests)

both_same : (number back : ℕ) → ends_by number back (Repeat number back) ≡ true
both_same number back = grind (arith, nat_tests, eq-eqb number number refl, eq-eqb back back refl)

is_end : (number back : ℕ) (i : Instr) → next_in (Some i) ≡ Some (record { number = number; back = back }) → is_end_of number back i ≡ true
is_end number back i e =
    let repeats : transfer_of i ≡ Repeat number back = same_Some (transfer_of i) (Repeat number back) (next_there (Some i) number back e) in
    ap (λ t. ends_by number back t) repeats ∙ both_same number back

-- where an instruction of some transfer stands is within the code
pub transfer_within : (code : List Instr) (k : ℕ) (t : Transfer) → transfer_in (slice_get code k) ≡ Some t → k < length code
transfer_within code k t e = let w = transfer_there (slice_get code k) t e in slice_get_within code k w.0 w.1

-- ---- a place within a body

-- a place is after the loop at p, and up to a next that closes it
pub record IsIn (code : List Instr) (number p place : ℕ) : Type 0 where
  pub after : p < place
  pub end : ℕ
  pub upto : place ≤ end
  pub closes : Closes code number p end

pub in_body : (code : List Instr) (number p place : ℕ) → loop_at code p ≡ Some number → is_in_body code number p place ≡ true → IsIn code number p place
unfolding next_in
in_body code number p place begins e =
    let parts = both_true (nat_lt p place) (list_any (is_end_of number (suc p)) (drop place code)) e in
    let w = found (is_end_of number (suc p)) code place parts.1 in
    let after = ltb-true p place parts.0 in
    record {
      after = after;
      end = w.at;
      upto = w.from;
      closes = record { begins = begins; later = omega (arith, after, w.from); ends = ap next_in w.stands ∙ ends_so number (suc p) (transfer_of w.instr) w.passes };
    }

-- what stands at an ending
standing_at : (code : List Instr) (q : ℕ) (e : Ending) → next_at code q ≡ Some e → (x : Instr) × (slice_get code q ≡ Some x) × (next_in (Some x) ≡ Some e)
unfolding next_in
standing_at code q e h = grind (arith, nat_tests)

pub body_in : (code : List Instr) (number p place : ℕ) → IsIn code number p place → is_in_body code number p place ≡ true
body_in code number p place w = grind (arith, nat_tests, standing_at code w.end, lt-ltb p place w.after, finds, is_end)

-- ---- the numbers of loops within each other

-- a loop within the body of another has another number
pub other_number : (code : List Instr) (c d p r : ℕ) (n : ℕ) → LoopsNest code → IsIn code c p r → LoopIn (slice_get code r) d n → c ≢ d
unfolding loop_in
other_number code c d p r n nest w stands same =
    let x = transfer_there (slice_get code r) (Begin d n) stands in
    let s = scanned_at code r nest (let h = slice_get_within code r x.0 x.1 in omega (arith, h)) in
    let passes = must_pass code r x.0 s.0 x.1 s.1 nest in
    let open_still : slice_get s.0 c ≡ Some p = ⊎_elim (λ (o : slice_get s.0 c ≡ Some p). o)
    (λ (b : ClosedBefore code r c p). let one = nest.closed p c w.closes.begins in
    let u = one.only w.end w.closes in let v = one.only b.place b.closes in absurd (omega (arith, u, v, b.below, w.upto)))
    (s.1.loops p c w.after w.closes.begins) in
    let below = slice_get_within s.0 c p open_still in
    let enters : Enters d r s.0 passes.0 = subst (λ t. PassesBy r t s.0 passes.0) x.2 passes.1 in
    absurd (omega (arith, below, enters.number, same))
