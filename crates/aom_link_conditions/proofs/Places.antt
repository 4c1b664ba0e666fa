-- That the place at which an image fails a condition is one of the image, and that there is none where it keeps the condition.
use Rattle.std.proofs.Common.{◌≡◌, ◌<◌, ◌≤◌, ◌∙◌, ◌↔◌, ℕ, Bool, true, not, cond, ◌+◌, List, length, count_by, All, Option, Some, None, is_some, IfSome, IsSome}
use Rattle.std.proofs.Common.{IsTrue}
use Rattle.std.proofs.Common.{slice_get, slice_index_or, ⊎_elim, inl, inr, ap, refl, subst, arith}
use Rattle.std.proofs.lemmas.List.Sums.{count_by_more_yes, sum_by-take-drop}
use Rattle.std.proofs.lemmas.Option.{get_or_from_slice_get, slice_get_read, slice_get_cases}
use Rattle.aom_image.specs.Image.{Image}
use Rattle.aom_image.specs.Views.{instr_in, method_at}
use Rattle.aom_image.specs.declared.method.Method.{Method}
use Rattle.aom_instructions.specs.declared.instr.Instr.{Instr}
use Rattle.aom_roles.specs.Firsts.{FirstNot, FirstOf}
use Rattle.aom_link_conditions.specs.Jumps.{BadJumpOf, JumpFails, JumpIsValid}
use Rattle.aom_link_conditions.specs.Needs.{SecondMain}
use Rattle.aom_link_conditions.specs.Overriding.{AllOverriddenOnce, OtherOverrider, OverriddenOnce}
use Rattle.aom_link_conditions.specs.Places.{AtInstruction, AtJump, IsThere, place_in}
use Rattle.aom_link_conditions.specs.Roles.{is_main}
use Rattle.aom_link_conditions.proofs.Each.{none_first_all, reported}

-- a place of a list has an element
there_some : {X : Type 0} (xs : List X) (i : ℕ) → i < length xs → IsSome (slice_get xs i)
there_some xs i lt = elim (slice_get_cases xs i).1 [
  | inl w ↦ rw w.2 refl
  | inr w ↦ absurd (omega (arith, w.0))
]

there_read : {X : Type 0} (xs : List X) (i : ℕ) → i < length xs → (x : X) × (slice_get xs i ≡ Some x)
there_read xs i lt = elim (slice_get_cases xs i).1 [
  | inl w ↦ (w.0, w.2)
  | inr w ↦ absurd (omega (arith, w.0))
]

there_const : {X A : Type 0} (xs : List X) (i : ℕ) → i < length xs → IfSome (slice_get xs i) (λ _. A) → A
there_const xs i lt h = elim (slice_get_cases xs i).1 [
  | inl w ↦ rw w.2 at h
  | inr w ↦ absurd (omega (arith, w.0))
]

-- ---- what was looked for and found, or not

-- the element at the first place
pub read_first : {X : Type 0} (P : ℕ → X → Type 0) (xs ys : List X) (o : Option ℕ) (i : ℕ) (x : X) → xs ≡ ys → FirstOf P xs o → o ≡ Some i →
    x ≡ slice_index_or xs i x → FirstNot P ys i × (slice_get ys i ≡ Some x)
read_first P xs ys o i x same f is e =
    let first : FirstNot P xs i = subst (λ q. FirstOf P xs q) is f in
    subst (λ zs. FirstNot P zs i × (slice_get zs i ≡ Some x)) same (first, slice_get_read xs (length xs) i x refl first.there e)

pub none_all : {X : Type 0} (P : X → Type 0) (xs ys : List X) (o : Option ℕ) → xs ≡ ys → FirstOf (λ _. P) xs o → o ≡ None → All P ys
none_all P xs ys o same f is = subst (All P) same ((none_first_all P xs None true refl (subst (λ q. FirstOf (λ _. P) xs q) is f)).0 refl)

-- ---- none, as a test tells

pub none_bad : (code : List Instr) (o : Option ℕ) (r : Bool) → is_some o ≡ not r → BadJumpOf code o → IsTrue r ↔ JumpIsValid code
none_bad code None r e h = reported None r e (λ _. h, λ _. refl)
none_bad code (Some s) r e h = reported (Some s) r e (λ yes. absurd (cc), λ well. absurd (not_well h well))
  where
    not_well : JumpFails code s → JumpIsValid code → ⊥
    not_well f well = ⊎_elim (λ astray. astray.fails (well.each s)) (λ into. into.first.fails (well.bodies into.to into.within into.from into.body s)) f

pub none_other : (p : Image) (o : Option ℕ) (r : Bool) → is_some o ≡ not r → OtherOverrider p o → IsTrue r ↔ AllOverriddenOnce p
none_other p None r e h = reported None r e (λ _. h, λ _. refl)
none_other p (Some k) r e h =
    reported (Some k) r e (λ yes. absurd (cc), λ all. absurd (h.2.fails (there_const {A = OverriddenOnce p h.0} p.methods h.0 h.1 (all h.0) k)))

two_mains : (ms : List Method) (k : ℕ) → SecondMain ms (Some k) → count_by is_main ms ≤ 1 → ⊥
two_mains ms k h one =
    let d = there_read ms k h.0 in
    let here : is_main d.0 ≡ true = rw d.1 at h.1 in
    let more = count_by_more_yes is_main ms k d.0 h.0 (ap is_main (get_or_from_slice_get ms k d.0 d.0 d.1) ∙ here) in
    let whole = sum_by-take-drop (λ x. cond (is_main x) 1 0) ms (k + 1) in
    omega (arith, more, whole, h.2, one)

pub one_main : (ms : List Method) (o : Option ℕ) (r : Bool) → is_some o ≡ not r → SecondMain ms o → IsTrue r ↔ (count_by is_main ms ≤ 1)
one_main ms None r e h = reported None r e (λ _. h, λ _. refl)
one_main ms (Some k) r e h = reported (Some k) r e (λ yes. absurd (cc), λ one. absurd (two_mains ms k h one))

-- ---- in a method

pub instruction_found : (p : Image) (P : ℕ → Method → Type 0) (Q : ℕ → Method → Instr → Type 0) (m : ℕ) (d : Method) (o : Option ℕ) →
    FirstNot P p.methods m → slice_get p.methods m ≡ Some d → FirstOf (λ _. Q m d) d.code o → IsThere p (place_in m o) × AtInstruction p P Q (place_in m o)
unfolding method_at instr_in
instruction_found p P Q m d None h at f = (h.there, (h, rw at f))
instruction_found p P Q m d (Some i) h at f = (rw at (there_some d.code i f.there), (h, rw at f))

pub jump_found : (p : Image) (m : ℕ) (d : Method) (o : Option ℕ) → FirstNot (λ _ e. JumpIsValid e.code) p.methods m → slice_get p.methods m ≡ Some d →
    BadJumpOf d.code o → IsThere p (place_in m o) × AtJump p (place_in m o)
unfolding method_at instr_in
jump_found p m d None h at f = absurd (h.fails (rw at f))
jump_found p m d (Some i) h at f = (rw at (there_some d.code i (⊎_elim (λ astray. astray.there) (λ into. into.first.there) f)), (h, rw at f))
