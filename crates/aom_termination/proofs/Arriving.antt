-- The code of a leave arrives, whatever is left free: no state on the way is stuck, and each move lowers the rank.
use Rattle.std.proofs.Common.{List, [], ap, append-nil, append_assoc, arith, refl, subst, suc, sym, zero, ℕ, ℤ, ◌<◌, ◌∙◌, ◌∷◌, ◌≡◌, ◌≢◌}
use Rattle.std.specs.Prelude.{length, None, ◌++◌}
use Rattle.aom_link_conditions.specs.Linked.{IsLinked}
use Rattle.aom_image.specs.Image.{Image}
use Rattle.aom_termination.proofs.Ranking.{moves_lower_ranks}
use Rattle.aom_termination.specs.Leaves.{Comes, LeavesCome, goes, stays}
use Rattle.aom_termination.specs.Ranks.{rank}
use Rattle.aom_typing_rules.specs.Typing.{IsTyped, Typing}
use Rattle.aom_termination.proofs.SafetyLemmas.{arrives, deals, step_keeps, works_kept}
use Rattle.aom_safety.specs.Laws.{IsWired}
use Rattle.aom_safety.specs.Leaves.{IsLeaving, IsOver, Unwinds, deals as dealt_with, leaves, works}
use Rattle.aom_semantics.specs.Moves.{step}
use Rattle.aom_semantics.specs.Places.{named}
use Rattle.aom_semantics.specs.State.{A_mark, Choice, Closing, Destroy, Goes, Item, Outcome, Run, State, Task, Unwind}
use Rattle.aom_safety.specs.WellTyped.{PreservesTyping, WellTyped}

-- a state that is not stuck leads on
pub leads_on : (p : Image) (t : Typing) (o : Outcome) → PreservesTyping p t o → (u : State) × (o ≡ Goes u) × WellTyped p t u
leads_on p t x k = grind arith

module _ (p : Image) (t : Typing) (wired : IsWired p) (linked : IsLinked p) (typed : IsTyped p t) (choose : State → Choice)
    (unused : (s : State) → named s.cells (choose s).name ≡ None) (code : ℤ) (below : List Task) (entries items : List Item) (from : State) where
  abbrev Comes_from : State → Type 0
  Comes_from s = Comes p choose code below entries items from s

  -- one move earlier
  sooner : (s u : State) → step p (choose s) s ≡ Goes u → rank p u < rank p s → Comes_from u → Comes_from s
  sooner s u e lower c = record {
    count = suc c.count;
    last = c.last;
    after = c.after;
    follows = goes e c.follows;
    course = c.course;
    move = c.move;
    arrives = c.arrives;
    few = omega (arith, c.few, lower);
  }

  lower : (s u : State) (task : Task) (tasks : List Task) → WellTyped p t s → s.tasks ≡ task ∷ tasks → step p (choose s) s ≡ Goes u → rank p u < rank p s
  lower s u task tasks w at e = moves_lower_ranks p t linked typed (choose s) s u w (task, tasks, at) e

  -- from each state of such a rank
  abbrev From : ℕ → Type 0
  From k = (s : State) → rank p s < k → WellTyped p t s → (dealt rest : List Item) → entries ≡ dealt ++ rest → Unwinds p code below from dealt s →
      IsLeaving p code below rest items s → Comes_from s

  higher : (k : ℕ) → From k → From (suc k)
  higher k comes s lt w dealt rest all course l = go s.tasks refl l.over
    where
      next : (u : State) × (step p (choose s) s ≡ Goes u) × WellTyped p t u
      next = leads_on p t (step p (choose s) s) (step_keeps p t wired typed (choose s) s w (unused s))

      below_k : rank p next.0 < rank p s → rank p next.0 < k
      below_k less = omega (arith, less, lt)

      -- something is over the leave
      over : (task : Task) (tasks : List Task) → s.tasks ≡ task ∷ tasks → s.tasks ≢ Unwind code ∷ below → Comes_from s
      over task tasks at other =
          let less = lower s next.0 task tasks w at next.1 in
          let r = works_kept p t wired typed (choose s) s next.0 w code below rest items l other next.1 in
          sooner s next.0 next.1 less (comes next.0 (below_k less) next.2 dealt rest all (works (choose s) course other next.1 r.1) r.0)

      -- the leave itself moves
      turns : (es : List Item) → entries ≡ dealt ++ es → IsLeaving p code below es items s → s.tasks ≡ Unwind code ∷ below → Comes_from s
      turns [] all l at = record {
        count = zero;
        last = s;
        after = next.0;
        follows = stays;
        course = subst (λ is. Unwinds p code below from is s) (sym (all ∙ append-nil dealt)) course;
        move = next.1;
        arrives = arrives p t (choose s) s next.0 w code below items l at next.1;
        few = omega (arith, lower s next.0 (Unwind code) below w at next.1);
      }
      turns (i ∷ es) all l at =
          let less = lower s next.0 (Unwind code) below w at next.1 in
          let r = deals p t wired (choose s) s next.0 w code below i es items l at next.1 in
          sooner s next.0 next.1 less (comes next.0 (below_k less) next.2 (dealt ++ (i ∷ [])) es (all ∙ sym (append_assoc dealt (i ∷ []) es))
          (dealt_with (choose s) i (es ++ (A_mark ∷ items)) course at l.stack next.1 r.0.stack r.1) r.0)

      go : (ts : List Task) → s.tasks ≡ ts → IsOver p (length s.items) code below ts → Comes_from s
      go (Run fr ∷ ts) at o = over (Run fr) ts at (λ top. let clash : Run fr ∷ ts ≡ Unwind code ∷ below = sym at ∙ top in cc)
      go (Destroy ∷ ts) at o = over Destroy ts at (λ top. let clash : Destroy ∷ ts ≡ Unwind code ∷ below = sym at ∙ top in cc)
      go (Closing ∷ ts) at o = over Closing ts at (λ top. let clash : Closing ∷ ts ≡ Unwind code ∷ below = sym at ∙ top in cc)
      go (Unwind x ∷ ts) at o = turns rest all l (at ∙ ap (λ y. Unwind y ∷ ts) o.0 ∙ ap (λ b. Unwind code ∷ b) o.1)
      go _ at o = absurd o

  each : (k : ℕ) → From k
  each zero = λ s lt w dealt rest all course l. absurd (omega (arith, lt))
  each (suc k) = higher k (each k)

pub leaves_come : LeavesCome
leaves_come p t wired linked typed choose unused s w code below entries items l =
    each p t wired linked typed choose unused code below entries items s (suc (rank p s)) s (omega arith) w [] entries refl leaves l
