-- The cells that go are as many as the destructions at hand.
use Rattle.std.proofs.lemmas.Bool.Decides.{nat_tests}
use Rattle.std.proofs.Common.{◌≡◌, ◌≤◌, ◌+◌, ◌∙◌, ℕ, suc, Bool, true, false, cond, List, [], ◌∷◌, length, Option, Some, None, refl, sym, ap, arith}
use Rattle.aom_termination.proofs.ImageLemmas.{false_given, none_given}
use Rattle.std.specs.Prelude.{◌==◌, ◌&&◌, ◌||◌}
use Rattle.std.proofs.lemmas.Bool.{eqb-true, false≢true, ne_eqb}
use Rattle.aom_image.specs.Image.{Image}
use Rattle.aom_roles.specs.Things.{is_object}
use Rattle.aom_typing_rules.specs.Typing.{Typing}
use Rattle.aom_abstract_state.specs.declared.kind.Kind.TheVariants.{Null}
use Rattle.aom_termination.proofs.SemanticsLemmas.{held_without, same_place-true, same_place_refl, tidy_without}
use Rattle.aom_semantics.specs.Clients.{count_messages}
use Rattle.aom_safety.specs.Claims.{Dispatching, Dying, Ending, Layer, Mark, Unwinding, Method, claim, declared, tasks_of}
use Rattle.aom_semantics.specs.Places.{Cell, Going, Object, Place, CellView, NoDuplicates, count_cells, held, same_place, without}
use Rattle.aom_semantics.specs.State.{State}
use Rattle.aom_safety.specs.WellTyped.{Back, Caught, Fits, Gone, Now, Returns, Stack, WellTyped, Leaves}
use Rattle.aom_termination.specs.RankLaws.{GoesNoMessage}
use Rattle.aom_termination.specs.Ranks.{destructions, is_going, standing}

-- ---- cells

pub none_there : (c : Cell) (cs : List Cell) (g : Place) → held (c ∷ cs) g ≡ None → (same_place c.owner g ≡ false) × (held cs g ≡ None)
none_there c cs g e = false_given (λ b. cond b (Some c.object) (held cs g) ≡ None) (same_place c.owner g) e (λ e. cc) (λ s e. (s, e))

-- the cells that do not go, messages too
abbrev staying : List Cell → ℕ
staying [] = 0
staying (c ∷ cs) = cond (is_going c.owner) (staying cs) (suc (staying cs))

all_stand : (cs : List Cell) → ((k : ℕ) → held cs (Going k) ≡ None) → staying cs ≡ length cs
all_stand [] none = refl
all_stand (c ∷ cs) none = here c.owner refl (all_stand cs (λ k. (none_there c cs (Going k) (none k)).1))
  where
    here : (r : Place) → c.owner ≡ r → staying cs ≡ length cs → cond (is_going r) (staying cs) (suc (staying cs)) ≡ suc (length cs)
    here (Going k) e ih = let clash : true ≡ false = sym (grind (arith, nat_tests, same_place_refl (Going k))) ∙ (none_there c cs (Going k) (none k)).0 in cc
    here _ e ih = ap suc ih

still_stand : (k : ℕ) (cs : List Cell) → staying (without (Going k) cs) ≡ staying cs
still_stand k [] = refl
still_stand k (c ∷ cs) = grind (arith, nat_tests, still_stand k cs, same_place-true c.owner (Going k))

none_without : (g : Place) (cs : List Cell) → held cs g ≡ None → length (without g cs) ≡ length cs
none_without g [] e = refl
none_without g (c ∷ cs) e = grind (arith, nat_tests, none_there c cs g e, none_without g cs)

one_without : (g : Place) (cs : List Cell) (o : Object) → NoDuplicates cs → held cs g ≡ Some o → suc (length (without g cs)) ≡ length cs
one_without g [] o t e = cc
one_without g (c ∷ cs) o t e = grind (arith, nat_tests, one_without g cs o t.2, none_without g cs, same_place-true c.owner g)

-- ---- layers

-- whether a destruction stands at that depth
abbrev goes_at : List Layer → ℕ → Bool
goes_at [] k = false
goes_at (Method fr sh ∷ ls) k = goes_at ls k
goes_at (Mark gv ∷ ls) k = goes_at ls k
goes_at (Unwinding code es ∷ ls) k = goes_at ls k
goes_at (Ending o left ∷ ls) k = goes_at ls k
goes_at (Dying o ∷ ls) k = (length (tasks_of ls) == k) || goes_at ls k
goes_at (Dispatching d owned_chain ∷ ls) k = goes_at ls k

-- each destruction has its cell
abbrev DyingHeld : List Cell → List Layer → Type 0
DyingHeld cs [] = Unit {0}
DyingHeld cs (Method fr sh ∷ ls) = DyingHeld cs ls
DyingHeld cs (Mark gv ∷ ls) = DyingHeld cs ls
DyingHeld cs (Unwinding code es ∷ ls) = DyingHeld cs ls
DyingHeld cs (Ending o left ∷ ls) = DyingHeld cs ls
DyingHeld cs (Dying o ∷ ls) = (held cs (Going (length (tasks_of ls))) ≡ Some o) × DyingHeld cs ls
DyingHeld cs (Dispatching d owned_chain ∷ ls) = DyingHeld cs ls

other_depth : (cs : List Cell) (n k : ℕ) → (n == k) ≡ false → held (without (Going n) cs) (Going k) ≡ held cs (Going k)
other_depth cs n k e = held_without cs (Going n) (Going k) ∙ ap (λ b. cond ((3 == 3) && (b && (0 == 0))) None (held cs (Going k))) e

same_depth : (cs : List Cell) (n : ℕ) → held (without (Going n) cs) (Going n) ≡ None
same_depth cs n = held_without cs (Going n) (Going n) ∙ ap (λ b. cond b None (held cs (Going n))) (same_place_refl (Going n))

held_below : (cs : List Cell) (n : ℕ) (ls : List Layer) → length (tasks_of ls) ≤ n → DyingHeld cs ls → DyingHeld (without (Going n) cs) ls
held_below cs n [] le h = tt
held_below cs n (Method fr sh ∷ ls) le h = held_below cs n ls (omega (arith, le)) h
held_below cs n (Mark gv ∷ ls) le h = held_below cs n ls (omega (arith, le)) h
held_below cs n (Unwinding code es ∷ ls) le h = held_below cs n ls (omega (arith, le)) h
held_below cs n (Ending o left ∷ ls) le h = held_below cs n ls (omega (arith, le)) h
held_below cs n (Dying o ∷ ls) le h = search (arith, nat_tests, other_depth cs n, ne_eqb n, held_below cs n ls)
held_below cs n (Dispatching d owned_chain ∷ ls) le h = held_below cs n ls (omega (arith, le)) h

counted_cells : (ls : List Layer) (cs : List Cell) → NoDuplicates cs → DyingHeld cs ls → ((k : ℕ) → goes_at ls k ≡ false → held cs (Going k) ≡ None) →
    staying cs + destructions (tasks_of ls) ≡ length cs
counted_cells [] cs t h none = omega (arith, all_stand cs (λ k. none k refl))
counted_cells (Method fr sh ∷ ls) cs t h none = counted_cells ls cs t h none
counted_cells (Mark gv ∷ ls) cs t h none = counted_cells ls cs t h none
counted_cells (Unwinding code es ∷ ls) cs t h none = counted_cells ls cs t h none
counted_cells (Ending o left ∷ ls) cs t h none = counted_cells ls cs t h none
counted_cells (Dispatching d owned_chain ∷ ls) cs t h none = counted_cells ls cs t h none
counted_cells (Dying o ∷ ls) cs t h none =
    grind (arith, nat_tests, counted_cells ls, tidy_without cs, held_below cs, still_stand, one_without, eqb-true, same_depth cs, other_depth cs)

-- ---- well-typed states

stack_held : (p : Image) (t : Typing) (cs : List Cell) (back : Back) (ls : List Layer) → Stack p t cs back ls → DyingHeld cs ls
stack_held p t cs back [] h = tt
stack_held p t cs back (Method fr sh ∷ ls) h = stack_held p t cs (Returns fr.method fr.receiver) ls h.4
stack_held p t cs back (Mark gv ∷ ls) h = stack_held p t cs (Caught gv) ls h.1
stack_held p t cs back (Unwinding code es ∷ ls) h = stack_held p t cs Leaves ls h.1
stack_held p t cs back (Ending o left ∷ ls) h = stack_held p t cs Now ls h.3
stack_held p t cs back (Dying o ∷ ls) h = (h.0.1, stack_held p t cs Gone ls h.2)
stack_held p t cs back (Dispatching d owned_chain ∷ []) h = tt
stack_held p t cs back (Dispatching d owned_chain ∷ l ∷ ls) h = let clash : l ∷ ls ≡ [] = h.1 in cc

claims_none : (p : Image) (cs : List Cell) (ls : List Layer) (k : ℕ) → goes_at ls k ≡ false → claim p (declared p cs) ls (Going k) ≡ Null
claims_none p cs [] k e = refl
claims_none p cs (Method fr sh ∷ ls) k e = claims_none p cs ls k e
claims_none p cs (Mark gv ∷ ls) k e = claims_none p cs ls k e
claims_none p cs (Unwinding code es ∷ ls) k e = claims_none p cs ls k e
claims_none p cs (Ending o left ∷ ls) k e = claims_none p cs ls k e
claims_none p cs (Dispatching d owned_chain ∷ ls) k e = claims_none p cs ls k e
claims_none p cs (Dying o ∷ ls) k e = grind (arith, nat_tests, claims_none p cs ls k, false_given)

pub nothing_of_null : (p : Image) (h : CellView) (o : Option Object) → Fits p h o Null → o ≡ None
nothing_of_null p h o f = none_given (λ x. Fits p h x Null) o f (λ x fits. fits) (λ none fits. none)

all_reported : (p : Image) (t : Typing) (s : State) → WellTyped p t s → staying s.cells + destructions s.tasks ≡ length s.cells
all_reported p t s w = grind (
  arith,
  nat_tests,
  counted_cells w.layers s.cells w.good.no_duplicates (stack_held p t s.cells Now w.layers w.good.stack),
  stack_held p t s.cells Now w.layers w.good.stack,
  nothing_of_null p,
  claims_none p s.cells w.layers,
)

-- ---- and what of them is an object

objects_and_messages : (cs : List Cell) → count_cells cs + count_messages cs ≡ length cs
objects_and_messages [] = refl
objects_and_messages (c ∷ cs) = grind (arith, objects_and_messages cs)

below_first_cell : (c : Cell) (cs : List Cell) → NoDuplicates (c ∷ cs) → GoesNoMessage (c ∷ cs) → GoesNoMessage cs
below_first_cell c cs t plain k o e = plain k o (grind (arith, nat_tests, same_place-true))

-- where no message goes those stay that stand, and all messages
stays_or_stands : (cs : List Cell) → NoDuplicates cs → GoesNoMessage cs → staying cs ≡ standing cs + count_messages cs
stays_or_stands [] t plain = refl
stays_or_stands (c ∷ cs) t plain = go c.owner refl (is_object c.object.thing) refl (stays_or_stands cs t.2 (below_first_cell c cs t plain))
  where
    go : (r : Place) → c.owner ≡ r → (b : Bool) → is_object c.object.thing ≡ b → staying cs ≡ standing cs + count_messages cs → cond (is_going r) (staying cs)
        (suc (staying cs)) ≡ cond b (cond (is_going r) (standing cs) (suc (standing cs))) (standing cs) + cond b (count_messages cs) (suc (count_messages cs))
    go (Going k) at false e ih = absurd (false≢true (sym e ∙ plain k c.object (grind (arith, nat_tests, same_place_refl (Going k)))))
    go (Going k) at true e ih = ih
    go _ at true e ih = omega (arith, ih)
    go _ at false e ih = omega (arith, ih)

pub cells_stand_or_go : (p : Image) (t : Typing) (s : State) → WellTyped p t s → GoesNoMessage s.cells →
    standing s.cells + destructions s.tasks ≡ count_cells s.cells
cells_stand_or_go p t s w plain = omega (arith, all_reported p t s w, stays_or_stands s.cells w.good.no_duplicates plain, objects_and_messages s.cells)
