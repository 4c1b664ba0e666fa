-- What the places of a method come to it comes to, and the tables are filled by it.
use Rattle.std.proofs.lemmas.Bool.Decides.{nat_tests}
use Rattle.std.proofs.Common.{◌≡◌, ℕ, suc, ◌<◌, ◌+◌, List, length, Some, None, slice_index_or, slice_set, replicate, inl, inr, refl, sym, ap, ◌∙◌, subst, arith}
use Rattle.std.specs.Prelude.{min}
use Rattle.std.proofs.lemmas.Bool.Decides.{eqb_tells, leb_tells}
use Rattle.std.proofs.lemmas.List.{length-set, length-replicate}
use Rattle.aom_image.specs.Image.{Image}
use Rattle.aom_image.specs.Views.{instr_at}
use Rattle.aom_instructions.specs.declared.instr.Instr.{Instr}
use Rattle.aom_link_conditions.specs.Linked.{IsLinked}
use Rattle.aom_budget.proofs.LinkConditionsLemmas.{of_method}
use Rattle.aom_abstract_state.specs.Kinds.{register}
use Rattle.aom_abstract_state.specs.Order.{Weaker, IsImpliedBy}
use Rattle.aom_abstract_state.specs.Order.Weaker.{maybe_null}
use Rattle.aom_abstract_state.specs.AbstractState.{AbstractState}
use Rattle.aom_roles.specs.Tables.{at}
use Rattle.aom_abstract_state.specs.declared.kind.Kind.{Kind}
use Rattle.aom_budget.proofs.AbstractStateLemmas.{at_past, at_set_here, at_set_other, at_within}
use Rattle.aom_static_bounds.specs.Shapes.{Shapes}
use Rattle.aom_static_bounds.specs.Strongest.{IsMethodStrongest}
use Rattle.aom_static_bounds.specs.Charges.{Charge, A_call, A_destruction, charge_of}
use Rattle.aom_static_bounds.specs.Calls.{Among, destructors, object_class, called_for, callees, CallsAt, MayCall}
use Rattle.aom_static_bounds.specs.Depths.{Frames}
use Rattle.aom_static_bounds.specs.Depths.Frames.{alone, calling}
use Rattle.aom_static_bounds.specs.Heights.{StandsAt, IsCall, Enters, CallsOver, Heights}
use Rattle.aom_static_bounds.specs.Heights.Heights.{own, under}
use Rattle.aom_budget.specs.StackDepths.{IsMost, entered_for, entered, OfSome, Joined, ComesTo, FramesAt, EntriesAt, Before, IsFilled}
use Rattle.aom_budget.specs.Greatest.{most_at}
use Rattle.aom_budget.proofs.StaticBoundsLemmas.{run_among}
use Rattle.aom_budget.proofs.Mentioned.{called_lower}
use Rattle.aom_budget.proofs.Greatest.{run_from}
use Rattle.aom_budget.proofs.Keeping.{at_zeros_only}
use Rattle.aom_budget.proofs.Most.{of_none, alike, joined, of_methods}
use Rattle.aom_instructions.specs.declared.instr.Instr.{Instr}

-- ---- one place

module _ (p : Image) (cap : ℕ) (its_own : AbstractState → ℕ) (calls : AbstractState → Instr → List ℕ) (of : ℕ → ℕ → Type 0) (m : ℕ) (s : Shapes) (place : ℕ) where
  pub unreached : at None s place ≡ None → IsMost cap (ComesTo p its_own calls of m s place) 0
  unreached none = of_none cap (ComesTo p its_own calls of m s place) (λ n c. let f = c.there in cc)

  reached : (sh : AbstractState) (i : Instr) (n : ℕ) → at None s place ≡ Some sh → instr_at p m place ≡ Some i → IsMost cap (OfSome of (calls sh i)) n →
      IsMost cap (ComesTo p its_own calls of m s place) (min (its_own sh + n) cap)
  reached sh i n there stands h = alike cap (Joined (its_own sh) (OfSome of (calls sh i))) (ComesTo p its_own calls of m s place) _
      (λ k is. record { shape = sh; there = there; instr = i; stands = stands; is = is }) (λ k c.
      let alike : c.shape ≡ sh = let f = c.there in cc in
      let one : c.instr ≡ i = let f = c.stands in cc in
      rw (alike, one) at c.is) (joined cap (its_own sh) (OfSome of (calls sh i)) n h)

-- ---- what is called is found already

call_called : (p : Image) (m : ℕ) (sh : AbstractState) (x : Charge) (k : ℕ) → IsCall p x k → Among k (called_for p m sh x)
call_called p m sh (A_call called) k e = run_among p called k e
call_called p m sh _ k e = absurd e

entered_called : (p : Image) (m : ℕ) (sh : AbstractState) (i : Instr) (k : ℕ) → Enters p i k → Among k (callees p m sh i)
entered_called p m sh i k e = call_called p m sh (charge_of i) k e

call_entered : (p : Image) (x : Charge) (k : ℕ) → IsCall p x k → Among k (entered_for p x)
call_entered p (A_call called) k e = run_among p called k e
call_entered p _ k e = absurd e

is_entered : (p : Image) (i : Instr) (k : ℕ) → Enters p i k → Among k (entered p i)
is_entered p i k e = call_entered p (charge_of i) k e

entered_call : (p : Image) (x : Charge) (k : ℕ) → Among k (entered_for p x) → IsCall p x k
entered_call p (A_call called) k h = run_from p called k h
entered_call p _ k h = absurd h

enters : (p : Image) (i : Instr) (k : ℕ) → Among k (entered p i) → Enters p i k
enters p i k h = entered_call p (charge_of i) k h

module _ (p : Image) (m : ℕ) (s : Shapes) (place : ℕ) (sh : AbstractState) (i : Instr) (linked : IsLinked p) (strongest : IsMethodStrongest p m s) where
  module _ (there : at None s place ≡ Some sh) (stands : instr_at p m place ≡ Some i) where
    called_found : (cap : ℕ) (of : ℕ → ℕ → Type 0) (table : List ℕ) → IsFilled p cap of m table → (k : ℕ) → Among k (callees p m sh i) →
        IsMost cap (of k) (at 0 table k)
    called_found cap of table filled k c =
        let calls : CallsAt p m s place k = record { shape = sh; there = there; instr = i; stands = stands; calls = c } in
        filled.each k (called_lower p m k linked (record { states = s; strongest = strongest; place = place; calls = calls }))

    pub depth_found : (ds : List ℕ) (n : ℕ) → IsFilled p 257 (Frames p) m ds → n ≡ min (1 + most_at ds (callees p m sh i)) 257 → IsMost 257 (FramesAt p m s place) n
    depth_found ds n filled is =
        let over = of_methods 257 (Frames p) ds (callees p m sh i) (called_found 257 (Frames p) ds filled) in
        rw is (reached p 257 (λ x. 1) (callees p m) (Frames p) m s place sh i _ there stands over)

    pub height_found : (hs : List ℕ) (n : ℕ) → IsFilled p 1025 (Heights p) m hs → n ≡ min (length sh.entries + most_at hs (entered p i)) 1025 →
        IsMost 1025 (EntriesAt p m s place) n
    height_found hs n filled is =
        let found = called_found 1025 (Heights p) hs filled in
        let over = of_methods 1025 (Heights p) hs (entered p i) (λ k c. found k (entered_called p m sh i k (enters p i k c))) in
        rw is (reached p 1025 (λ x. length x.entries) (λ x j. entered p j) (Heights p) m s place sh i _ there stands over)

-- ---- frames: what an instruction may call by what is known, it may call by what says less

destroys_more : (p : Image) (x y : Kind) (k : ℕ) → Weaker x y → Among k (destructors p (object_class y)) → Among k (destructors p (object_class x))
destroys_more p x y k (maybe_null {t = t} {a = age}) c = absurd c
destroys_more p x y k _ c = c

charge_more : (p : Image) (m : ℕ) (a b : AbstractState) (x : Charge) (k : ℕ) → IsImpliedBy a b → Among k (called_for p m b x) → Among k (called_for p m a x)
charge_more p m a b (A_destruction r) k h c = destroys_more p (register a r) (register b r) k (h.registers r) c
charge_more p m a b _ k h c = c

calls_more : (p : Image) (m : ℕ) (a b : AbstractState) (i : Instr) (k : ℕ) → IsImpliedBy a b → Among k (callees p m b i) → Among k (callees p m a i)
calls_more p m a b i k h c = charge_more p m a b (charge_of i) k h c

reached_within : (s : Shapes) (place : ℕ) (sh : AbstractState) → at None s place ≡ Some sh → place < length s
reached_within s place sh e = grind (arith, nat_tests, leb_tells, at_past None s place)

module _ (p : Image) (linked : IsLinked p) (m : ℕ) (s : Shapes) (strongest : IsMethodStrongest p m s) where
  -- what comes to a place that is reached comes before the end
  before_at : (its : AbstractState → ℕ) (calls : AbstractState → Instr → List ℕ) (of : ℕ → ℕ → Type 0) (n place : ℕ) → ComesTo p its calls of m s place n →
      Before (ComesTo p its calls of m s) (length s) n
  before_at its calls of n place comes = record { place = place; below = reached_within s place comes.shape comes.there; comes = comes }

  framed : (n : ℕ) → Before (FramesAt p m s) (length s) n → Frames p m n
  framed n h = elim h.comes.is [
    | inl e ↦ let w = of_method p m h.place h.comes.instr h.comes.stands in subst (Frames p m) (sym e) (alone (rw w.1 refl))
    | inr w ↦
        let calls : CallsAt p m s h.place w.1.method =
        record { shape = h.comes.shape; there = h.comes.there; instr = h.comes.instr; stands = h.comes.stands; calls = w.1.among } in
        let call : MayCall p m w.1.method = record { states = s; strongest = strongest; place = h.place; calls = calls } in
        let same : suc w.0 ≡ n = omega (arith, w.2) in
        subst (Frames p m) same (calling call w.1.has)
  ]

  frames_before : (n : ℕ) → Frames p m n → Before (FramesAt p m s) (length s) n
  frames_before n (alone some) =
      let entry = strongest.typed.entry in
      let applies = strongest.typed.each 0 entry.next entry.there in
      before_at (λ x. 1) (callees p m) (Frames p) n 0
      (record { shape = entry.next; there = entry.there; instr = applies.instr; stands = applies.stands; is = inl refl })
  frames_before n (calling {k = k} {n = above} call frames) =
      let meets = (call.strongest.least s strongest.typed).each call.place call.calls.shape call.calls.there in
      let among = calls_more p m meets.next call.calls.shape call.calls.instr k meets.implied call.calls.calls in
      before_at (λ x. 1) (callees p m) (Frames p) n call.place (record {
        shape = meets.next;
        there = meets.there;
        instr = call.calls.instr;
        stands = call.calls.stands;
        is = inr (above, record { method = k; among = among; has = frames }, omega arith);
      })

  pub most_frames : (n : ℕ) → IsMost 257 (Before (FramesAt p m s) (length s)) n → IsMost 257 (Frames p m) n
  most_frames n h = alike 257 (Before (FramesAt p m s) (length s)) (Frames p m) n framed frames_before h

  -- ---- entries

  heightened : (n : ℕ) → Before (EntriesAt p m s) (length s) n → Heights p m n
  heightened n h =
      let stands : StandsAt p m h.place h.comes.shape = record { states = s; strongest = strongest; there = h.comes.there } in
      elim h.comes.is [
        | inl e ↦ own (record { place = h.place; shape = h.comes.shape; stands = stands; count = sym e })
        | inr w ↦
            let call : CallsOver p m w.1.method (length h.comes.shape.entries) = record {
              place = h.place;
              shape = h.comes.shape;
              stands = stands;
              instr = h.comes.instr;
              here = h.comes.stands;
              enters = enters p h.comes.instr w.1.method w.1.among;
              count = refl;
            } in
            subst (Heights p m) (sym w.2) (under call w.1.has)
      ]

  heights_before : (n : ℕ) → Heights p m n → Before (EntriesAt p m s) (length s) n
  heights_before n (own h) =
      let meets = (h.stands.strongest.least s strongest.typed).each h.place h.shape h.stands.there in
      let applies = strongest.typed.each h.place meets.next meets.there in
      before_at (λ x. length x.entries) (λ x j. entered p j) (Heights p) n h.place (record {
        shape = meets.next;
        there = meets.there;
        instr = applies.instr;
        stands = applies.stands;
        is = inl (sym h.count ∙ sym (ap (λ es. length es) meets.implied.entries));
      })
  heights_before n (under {k = k} {h = count} {n = above} call heights) =
      let meets = (call.stands.strongest.least s strongest.typed).each call.place call.shape call.stands.there in
      let same = ap (λ es. length es) meets.implied.entries in
      before_at (λ x. length x.entries) (λ x j. entered p j) (Heights p) n call.place (record {
        shape = meets.next;
        there = meets.there;
        instr = call.instr;
        stands = call.here;
        is = inr (above, record { method = k; among = is_entered p call.instr k call.enters; has = heights }, omega (arith, same, call.count));
      })

  pub most_entries : (n : ℕ) → IsMost 1025 (Before (EntriesAt p m s) (length s)) n → IsMost 1025 (Heights p m) n
  most_entries n h = alike 1025 (Before (EntriesAt p m s) (length s)) (Heights p m) n heightened heights_before h

-- what is entered is called
pub entered_is_called : (p : Image) (m k h : ℕ) → CallsOver p m k h → MayCall p m k
entered_is_called p m k h call = record {
  states = call.stands.states;
  strongest = call.stands.strongest;
  place = call.place;
  calls = record {
    shape = call.shape;
    there = call.stands.there;
    instr = call.instr;
    stands = call.here;
    calls = entered_called p m call.shape call.instr k call.enters;
  };
}

-- ---- the tables

pub read_at : (ds xs : List ℕ) (i j n : ℕ) → xs ≡ ds → i ≡ j → j < length ds → n ≡ slice_index_or xs i n → n ≡ at 0 ds j
read_at ds xs i j n e same h r = (rw (e, same) at r) ∙ at_within 0 n ds j h

pub filled_first : (p : Image) (cap : ℕ) (of : ℕ → ℕ → Type 0) (n : ℕ) → n ≡ length p.methods → IsFilled p cap of 0 (replicate n 0)
filled_first p cap of n e = record {
  size = length-replicate {A = ℕ} n 0 ∙ e;
  each = λ m below. absurd (omega (arith, below));
  others = λ m past. at_zeros_only n m;
}

pub filled_more : (p : Image) (cap : ℕ) (of : ℕ → ℕ → Type 0) (m : ℕ) (table : List ℕ) (n : ℕ) → IsFilled p cap of m table → m < length p.methods →
    IsMost cap (of m) n → IsFilled p cap of (suc m) (slice_set table m n)
filled_more p cap of m table n h within most =
    let inside : m < length table = omega (arith, within, h.size) in
    record {
      size = length-set table m n ∙ h.size;
      each = grind (arith, nat_tests, eqb_tells, at_set_here 0 table m n inside, at_set_other 0 table m);
      others = λ k past. at_set_other 0 table m k n (λ same. omega (arith, past, same)) ∙ h.others k (omega (arith, past));
    }
