-- Tables that keep to the limits have the depths and the heights, and one that does not says what is too much.
use Rattle.std.proofs.Common.{◌≡◌, ℕ, zero, suc, true, false, ◌<◌, ◌≤◌, ◌+◌, List, [], ◌∷◌, length, IsSome, inl, inr, ap, arith}
use Rattle.std.specs.Prelude.{nat_le}
use Rattle.std.specs.List.{list_all}
use Rattle.std.proofs.lemmas.Bool.Decides.{leb_tells}
use Rattle.aom_image.specs.Image.{Image}
use Rattle.aom_image.specs.Views.{method_at}
use Rattle.aom_link_conditions.specs.Linked.{IsLinked}
use Rattle.aom_budget.proofs.LinkConditionsLemmas.{both}
use Rattle.aom_abstract_state.specs.AbstractState.{AbstractState}
use Rattle.aom_roles.specs.Tables.{at}
use Rattle.aom_typing_rules.specs.Typing.{Typing}
use Rattle.aom_static_bounds.specs.Strongest.{IsStrongest}
use Rattle.aom_static_bounds.specs.Calls.{MayCall}
use Rattle.aom_static_bounds.specs.Depths.{Frames, AreDepths, IsTooDeep}
use Rattle.aom_static_bounds.specs.Depths.Frames.{alone, calling}
use Rattle.aom_static_bounds.specs.Heights.{StandsAt, StandsWith, Heights, AreHeights, IsTooHigh}
use Rattle.aom_static_bounds.specs.Heights.Heights.{own, under}
use Rattle.aom_budget.proofs.StaticBoundsLemmas.{caller, method_within, standing, within_method}
use Rattle.aom_budget.specs.StackDepths.{IsFilled, KeepsTo, Exceeds}
use Rattle.aom_budget.proofs.FieldState.{entered_is_called}
use Rattle.aom_budget.proofs.Mentioned.{called_lower}
use Rattle.aom_budget.proofs.Most.{implied, is_one, one_exceeds}

-- ---- what is called or stands is a method

called : (p : Image) (m k : ℕ) → IsLinked p → MayCall p m k → IsSome (method_at p k)
called p m k linked call = within_method p k (omega (arith, called_lower p m k linked call, method_within p m (caller p m k call)))

stander : (p : Image) (m place : ℕ) (sh : AbstractState) → StandsAt p m place sh → IsSome (method_at p m)
stander p m place sh h = let applies = h.strongest.typed.each place sh h.there in standing p m place applies.instr applies.stands

-- a method begins with no entries
begins : (p : Image) (t : Typing) (m : ℕ) → IsStrongest p t → IsSome (method_at p m) → StandsWith p m 0
begins p t m h some =
    let entry = (h.each m some).typed.entry in
    record {
      place = 0;
      shape = entry.next;
      stands = record { states = at [] t m; strongest = h.each m some; there = entry.there };
      count = ap (λ es. length es) entry.implied.entries;
    }

-- ---- within the limits

module _ (p : Image) (cap : ℕ) (of : ℕ → ℕ → Type 0) (table : List ℕ) (filled : IsFilled p cap of (length p.methods) table) (most : ℕ)
    (keeps : KeepsTo most table) (few : most < cap) where
  most_of : (m : ℕ) → IsSome (method_at p m) → (k : ℕ) → of m k → k ≤ at 0 table m
  most_of m some = implied cap (of m) (at 0 table m) (filled.each m (method_within p m some)) (omega (arith, keeps.each m, few))

  one_of : (m k : ℕ) → IsSome (method_at p m) → of m k → of m (at 0 table m)
  one_of m k some h = is_one cap (of m) (at 0 table m) k (filled.each m (method_within p m some)) (omega (arith, keeps.each m, few)) h

pub are_depths : (p : Image) (ds : List ℕ) → IsLinked p → IsFilled p 257 (Frames p) (length p.methods) ds → KeepsTo 256 ds → AreDepths p ds
are_depths p ds linked filled keeps =
    let few : 256 < 257 = omega arith in
    record {
      each = λ m some. record {
        frames = one_of p 257 (Frames p) ds filled 256 keeps few m 1 some (alone some);
        most = most_of p 257 (Frames p) ds filled 256 keeps few m some;
      };
      within = keeps.each;
      less = λ m k call.
          let some = called p m k linked call in
          let frames = one_of p 257 (Frames p) ds filled 256 keeps few k 1 some (alone some) in
          most_of p 257 (Frames p) ds filled 256 keeps few m (caller p m k call) (suc (at 0 ds k)) (calling call frames);
    }

pub are_heights : (p : Image) (t : Typing) (hs : List ℕ) → IsLinked p → IsStrongest p t → IsFilled p 1025 (Heights p) (length p.methods) hs →
    KeepsTo 1024 hs → AreHeights p hs
are_heights p t hs linked strongest filled keeps =
    let few : 1024 < 1025 = omega arith in
    let most = most_of p 1025 (Heights p) hs filled 1024 keeps few in
    let reached = λ (m : ℕ) (some : IsSome (method_at p m)). one_of p 1025 (Heights p) hs filled 1024 keeps few m 0 some (own (begins p t m strongest some)) in
    record {
      each = λ m some. record { heights = reached m some; most = most m some };
      within = keeps.each;
      own = λ m n stands. most m (stander p m stands.place stands.shape stands.stands) n (own stands);
      under = λ m k h call.
          let some = called p m k linked (entered_is_called p m k h call) in
          most m (stander p m call.place call.shape call.stands) (h + at 0 hs k) (under call (reached k some));
    }

-- ---- too much

pub too_deep : (p : Image) (ds : List ℕ) → IsFilled p 257 (Frames p) (length p.methods) ds → Exceeds 256 ds → IsTooDeep p
too_deep p ds filled h =
    let w = one_exceeds 257 (Frames p h.method) (at 0 ds h.method) 256 (filled.each h.method (omega (arith, h.within, filled.size))) h.more in
    record { method = h.method; count = w.0; frames = w.1; many = w.2 }

pub too_high : (p : Image) (hs : List ℕ) → IsFilled p 1025 (Heights p) (length p.methods) hs → Exceeds 1024 hs → IsTooHigh p
too_high p hs filled h =
    let w = one_exceeds 1025 (Heights p h.method) (at 0 hs h.method) 1024 (filled.each h.method (omega (arith, h.within, filled.size))) h.more in
    record { method = h.method; count = w.0; heights = w.1; many = w.2 }

-- ---- the test

pub keeps : (most : ℕ) (table : List ℕ) → list_all (λ n. nat_le n most) table ≡ true → KeepsTo most table
keeps most table h = record { each = go table h }
  where
    go : (xs : List ℕ) → list_all (λ n. nat_le n most) xs ≡ true → (m : ℕ) → at 0 xs m ≤ most
    go [] h m = omega arith
    go (x ∷ xs) h zero = let low = (both (nat_le x most) (list_all (λ n. nat_le n most) xs) h).0 in grind (arith, low)
    go (x ∷ xs) h (suc m) = go xs (both (nat_le x most) (list_all (λ n. nat_le n most) xs) h).1 m

pub exceeds : (most : ℕ) (table : List ℕ) → list_all (λ n. nat_le n most) table ≡ false → Exceeds most table
exceeds most [] h = absurd cc
exceeds most (x ∷ xs) h = elim (leb_tells x most) [
  | inl w ↦ let rest = exceeds most xs (rw w.0 at h) in record { method = suc rest.method; within = omega (arith, rest.within); more = rest.more }
  | inr w ↦ record { method = zero; within = omega arith; more = w.1 }
]
