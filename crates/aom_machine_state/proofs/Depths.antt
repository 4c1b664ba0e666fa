-- The room that a run needs, and what a move does to it: a frame begins or ends, an item comes or goes, cells move.
use Rattle.std.proofs.lemmas.Bool.Decides.{nat_tests}
use Rattle.std.proofs.Common.{List, [], ap, arith, cond, false, length, refl, subst, suc, sym, true, ℕ, ◌+◌, ◌<◌, ◌∷◌, ◌≡◌, ◌≤◌}
use Rattle.std.proofs.lemmas.Bool.{le-ltb, lt-ltb}
use Rattle.aom_image.specs.Image.{Image}
use Rattle.aom_machine_state.proofs.SemanticsLemmas.{same_place-true}
use Rattle.aom_semantics.specs.Cleanup.{to_trap}
use Rattle.aom_semantics.specs.Calls.{below_top}
use Rattle.aom_semantics.specs.Places.{Cell, Entry, Going, Place, held, moved, same_place}
use Rattle.aom_semantics.specs.State.{Closing, Destroy, Dispatched, Frame, Item, Run, Task, Trapped, Unwind, resumed}
use Rattle.aom_machine_state.specs.Room.{AllFit, AllRunUnder, AllUnder, Destructs, GoesUnder, IsUnder, NoClosing}
use Rattle.aom_machine_state.specs.Room.{RunsBy, RunsUnder, below_height, entries_in, may_push}

-- each method at hand began where the cleanup stack had no more items than that
abbrev pub AllLow : ℕ → List Task → Type 0
AllLow n [] = Unit {0}
AllLow n (Run fr ∷ ts) = (fr.height ≤ n) × AllLow n ts
AllLow n (_ ∷ ts) = AllLow n ts

pub lower : (n k : ℕ) (ts : List Task) → n ≤ k → AllLow n ts → AllLow k ts
lower n k [] le w = tt
lower n k (Run fr ∷ ts) le w = (omega (arith, w.0), lower n k ts le w.1)
lower n k (_ ∷ ts) le w = lower n k ts le w

-- entries below one number own what they owned, and below another the same cells go
abbrev pub SameBelow : List Cell → List Cell → (entries goings : ℕ) → Type 0
SameBelow cs cs' n d = ((k : ℕ) → k < n → held cs' (Entry k) ≡ held cs (Entry k)) × ((k : ℕ) → k < d → held cs' (Going k) ≡ held cs (Going k))

-- what moves from one place to another leaves the others as they are
pub held_apart : (cs : List Cell) (q r e : Place) → same_place q e ≡ false → same_place r e ≡ false → held (moved q r cs) e ≡ held cs e
held_apart [] q r e apart apart' = refl
held_apart (c ∷ cs) q r e apart apart' = grind (arith, nat_tests, held_apart cs q r e apart apart', same_place-true c.owner q)

-- the items below a height, as one is pushed over it
pub below_pushed : (height : ℕ) (i : Item) (items : List Item) → height ≤ length items → below_height height (i ∷ items) ≡ below_height height items
below_pushed height i items le = ap (λ b. cond b (i ∷ items) (below_height height items)) (le-ltb (length items) height le)

pub below_all : (height : ℕ) (items : List Item) → length items ≤ height → below_height height items ≡ items
below_all height [] le = refl
below_all height (i ∷ items) le = ap (λ b. cond b (i ∷ items) (below_height height items)) (lt-ltb (length items) height (omega (arith, le)))

pub fewer_entries : (i : Item) (items : List Item) → entries_in items ≤ entries_in (i ∷ items)
fewer_entries x items = grind arith

module _ (p : Image) (depth heights : ℕ → ℕ) where
  abbrev pub Roomy : List Cell → List Item → List Task → Type 0
  Roomy cs items ts = AllUnder depth ts × AllRunUnder p depth cs items ts × AllFit p heights items ts × (entries_in items ≤ 1024)

  pub under_less : (n k : ℕ) (ts : List Task) → n < k → IsUnder depth k ts → IsUnder depth n ts
  under_less n k [] lt u = tt
  under_less n k (Run fr ∷ ts) lt u = omega (arith, lt, u)
  under_less n k (_ ∷ ts) lt u = under_less n k ts lt u

  -- ---- cells move

  same_runs : (cs cs' : List Cell) (height n : ℕ) (items : List Item) →
      ((k : ℕ) → k < length items → held cs' (Entry k) ≡ held cs (Entry k)) → RunsUnder p depth cs height n items → RunsUnder p depth cs' height n items
  same_runs cs cs' height n [] same w = tt
  same_runs cs cs' height n (i ∷ items) same w = (λ le m e. w.0 le m (same_run i m e), same_runs cs cs' height n items (λ k lt. same k (omega (arith, lt))) w.1)
    where
      same_run : (i : Item) (m : ℕ) → RunsBy p cs' i (length items) m → RunsBy p cs i (length items) m
      same_run x m e = grind arith

  same_going : (cs cs' : List Cell) (ts : List Task) → ((k : ℕ) → k < length (Destroy ∷ ts) → held cs' (Going k) ≡ held cs (Going k)) →
      GoesUnder p depth cs ts → GoesUnder p depth cs' ts
  same_going cs cs' ts same w m e = w m (subst (λ o. Destructs p o m) (same (length ts) (omega arith)) e)

  -- below one task less
  fewer : (cs cs' : List Cell) (n d : ℕ) → SameBelow cs cs' n (suc d) → SameBelow cs cs' n d
  fewer cs cs' n d same = (same.0, λ k lt. same.1 k (omega (arith, lt)))

  all_same : (cs cs' : List Cell) (items : List Item) (ts : List Task) → SameBelow cs cs' (length items) (length ts) → AllRunUnder p depth cs items ts →
      AllRunUnder p depth cs' items ts
  all_same cs cs' items [] same w = tt
  all_same cs cs' items (Run fr ∷ ts) same w =
      (same_runs cs cs' fr.height (depth fr.method) items same.0 w.0, all_same cs cs' items ts (fewer cs cs' (length items) (length ts) same) w.1)
  all_same cs cs' items (Destroy ∷ ts) same w = (same_going cs cs' ts same.1 w.0, all_same cs cs' items ts (fewer cs cs' (length items) (length ts) same) w.1)
  all_same cs cs' items (Closing ∷ ts) same w = (w.0, all_same cs cs' items ts (fewer cs cs' (length items) (length ts) same) w.1)
  all_same cs cs' items (_ ∷ ts) same w = all_same cs cs' items ts (fewer cs cs' (length items) (length ts) same) w

  pub recelled : (cs cs' : List Cell) (items : List Item) (ts : List Task) → SameBelow cs cs' (length items) (length ts) → Roomy cs items ts → Roomy cs' items ts
  recelled cs cs' items ts same w = (w.0, all_same cs cs' items ts same w.1, w.2, w.3)

  -- ---- the last item goes

  runs_below : (cs : List Cell) (i : Item) (items : List Item) (ts : List Task) → AllRunUnder p depth cs (i ∷ items) ts → AllRunUnder p depth cs items ts
  runs_below cs i items [] w = tt
  runs_below cs i items (Run fr ∷ ts) w = (w.0.1, runs_below cs i items ts w.1)
  runs_below cs i items (Destroy ∷ ts) w = (w.0, runs_below cs i items ts w.1)
  runs_below cs i items (Closing ∷ ts) w = (w.0, runs_below cs i items ts w.1)
  runs_below cs i items (_ ∷ ts) w = runs_below cs i items ts w

  same_fit : (items items' : List Item) (ts : List Task) (n : ℕ) →
      AllLow n ts → ((h : ℕ) → h ≤ n → below_height h items' ≡ below_height h items) → AllFit p heights items ts → AllFit p heights items' ts
  same_fit items items' [] n low same w = tt
  same_fit items items' (Run fr ∷ ts) n low same w = (grind (arith, nat_tests), same_fit items items' ts n low.1 same w.1)
  same_fit items items' (_ ∷ ts) n low same w = same_fit items items' ts n low same w

  pub popped : (cs : List Cell) (i : Item) (items : List Item) (ts : List Task) → AllLow (length items) ts → Roomy cs (i ∷ items) ts → Roomy cs items ts
  popped cs i items ts low w = (
    w.0,
    runs_below cs i items ts w.1,
    same_fit (i ∷ items) items ts (length items) low (λ h le. sym (below_pushed h i items le)) w.2,
    omega (arith, fewer_entries i items, w.3),
  )

  pub popped_top : (cs : List Cell) (items : List Item) (ts : List Task) → AllLow (length (below_top items)) ts → Roomy cs items ts → Roomy cs (below_top items) ts
  popped_top cs [] ts low w = w
  popped_top cs (i ∷ items) ts low w = popped cs i items ts low w

  -- ---- an item is pushed

  pushed_runs : (cs : List Cell) (i : Item) (items : List Item) (ts : List Task) → AllUnder depth ts →
      ((m : ℕ) → RunsBy p cs i (length items) m → IsUnder depth (depth m) ts) → AllRunUnder p depth cs items ts → AllRunUnder p depth cs (i ∷ items) ts
  pushed_runs cs i items [] u h w = tt
  pushed_runs cs i items (Run fr ∷ ts) u h w =
      ((λ le m e. h m e, w.0), pushed_runs cs i items ts u.1 (λ m e. under_less (depth m) (depth fr.method) ts (h m e) u.0) w.1)
  pushed_runs cs i items (Destroy ∷ ts) u h w = (w.0, pushed_runs cs i items ts u h w.1)
  pushed_runs cs i items (Closing ∷ ts) u h w = (w.0, pushed_runs cs i items ts u h w.1)
  pushed_runs cs i items (_ ∷ ts) u h w = pushed_runs cs i items ts u h w

  pub item_pushed : (cs : List Cell) (i : Item) (items : List Item) (ts : List Task) → AllLow (length items) ts →
      ((m : ℕ) → RunsBy p cs i (length items) m → IsUnder depth (depth m) ts) → entries_in (i ∷ items) ≤ 1024 → Roomy cs items ts → Roomy cs (i ∷ items) ts
  item_pushed cs i items ts low h few w = (
    w.0,
    pushed_runs cs i items ts w.0 h w.1,
    same_fit items (i ∷ items) ts (length items) low (λ height le. below_pushed height i items le) w.2,
    few,
  )

  -- ---- a method begins

  runs_above : (cs : List Cell) (height n : ℕ) (items : List Item) → length items ≤ height → RunsUnder p depth cs height n items
  runs_above cs height n [] le = tt
  runs_above cs height n (i ∷ items) le = (λ low m e. absurd (omega (arith, le, low)), runs_above cs height n items (omega (arith, le)))

  pub begins : (cs : List Cell) (items : List Item) (fr : Frame) (ts : List Task) → fr.height ≡ length items → IsUnder depth (depth fr.method) ts →
      (may_push p fr.method ≡ true → entries_in items + heights fr.method ≤ 1024) → Roomy cs items ts → Roomy cs items (Run fr ∷ ts)
  begins cs items fr ts high under fit w = grind (arith, nat_tests, runs_above cs fr.height (depth fr.method) items, below_all fr.height items)

  -- what the last item runs is less deep than the method below
  pub top_under : (cs : List Cell) (i : Item) (items : List Item) (ts : List Task) (m : ℕ) →
      AllLow (length items) ts → RunsBy p cs i (length items) m → AllRunUnder p depth cs (i ∷ items) ts → IsUnder depth (depth m) ts
  top_under cs i items [] m low e w = tt
  top_under cs i items (Run fr ∷ ts) m low e w = w.0.0 low.0 m e
  top_under cs i items (Destroy ∷ ts) m low e w = top_under cs i items ts m low e w.1
  top_under cs i items (Closing ∷ ts) m low e w = top_under cs i items ts m low e w.1
  top_under cs i items (_ ∷ ts) m low e w = top_under cs i items ts m low e w

  -- a cell is at hand to go, or is gone
  pub going_begins : (cs : List Cell) (items : List Item) (ts : List Task) → GoesUnder p depth cs ts → Roomy cs items ts → Roomy cs items (Destroy ∷ ts)
  going_begins cs items ts under w = (w.0, (under, w.1), w.2, w.3)

  pub going_ends : (cs : List Cell) (items : List Item) (ts : List Task) → Roomy cs items (Destroy ∷ ts) → Roomy cs items ts
  going_ends cs items ts w = (w.0, w.1.1, w.2, w.3)

  -- of a server the sessions go first
  pub closing_begins : (cs : List Cell) (items : List Item) (ts : List Task) → NoClosing ts → Roomy cs items (Destroy ∷ ts) → Roomy cs items (Closing ∷ Destroy ∷ ts)
  closing_begins cs items ts lone w = (w.0, (lone, w.1), w.2, w.3)

  -- ---- methods end

  pub dropped : (cs : List Cell) (items : List Item) (fr : Frame) (ts : List Task) → Roomy cs items (Run fr ∷ ts) → Roomy cs items ts
  dropped cs items fr ts w = (w.0.1, w.1.1, w.2.1, w.3)

  pub off_to_trap : (cs : List Cell) (items : List Item) (ts : List Task) → Roomy cs items ts → Roomy cs items (to_trap ts)
  off_to_trap cs items (Run fr ∷ ts) w = off_to_trap cs items ts (dropped cs items fr ts w)
  off_to_trap cs items _ w = w

  pub on_again : (cs : List Cell) (items : List Item) (ts : List Task) → Roomy cs items ts → Roomy cs items (resumed ts)
  on_again cs items [] w = w
  on_again cs items (Run fr ∷ ts) w = w
  on_again cs items (Trapped ∷ ts) w = w
  on_again cs items (Destroy ∷ ts) w = w
  on_again cs items (Closing ∷ ts) w = w
  on_again cs items (Unwind code ∷ ts) w = w
  on_again cs items (Dispatched d ∷ ts) w = w
