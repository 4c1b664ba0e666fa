-- A method that stands in a loop's body has rounds left: each instruction and each return keeps that.
use Rattle.std.proofs.lemmas.Bool.Decides.{nat_tests}
use Rattle.aom_semantics.specs.Destruction.{destructor_frame}
use Rattle.std.proofs.Common.{None, Some, ap, arith, cond, false, inl, inr, length, subst, suc}
use Rattle.std.proofs.Common.{sym, true, ℕ, ⊎_elim, ◌-◌, ◌<◌, ◌==◌, ◌∙◌, ◌∷◌, ◌≡◌, ◌≢◌, ◌≤◌}
use Rattle.std.proofs.lemmas.Bool.{cases_Bool, cases_lt, eq-eqb, eqb-true, ne_eqb}
use Rattle.aom_image.specs.Image.{Image}
use Rattle.aom_image.specs.Views.{instr_at, transfer_at, transfer_in}
use Rattle.aom_instructions.specs.declared.instr.Instr.{Instr}
use Rattle.aom_instructions.specs.declared.transfer.Transfer.TheVariants.{Begin, Repeat}
use Rattle.aom_safety.proofs.LinkConditionsLemmas.{linked_is_looped}
use Rattle.aom_link_conditions.specs.Bodies.{Body, IsIn, IsLooped}
use Rattle.aom_link_conditions.specs.Jumps.{jump_of}
use Rattle.aom_link_conditions.specs.Loops.{begun_by, loop_in}
use Rattle.aom_safety.proofs.SemanticsLemmas.{at-set_extending}
use Rattle.aom_safety.proofs.Preserving.{Kept, keeps, turn_keeps_it}
use Rattle.aom_semantics.specs.Calls.{entered}
use Rattle.aom_semantics.specs.Cleanup.{operation_frame}
use Rattle.aom_safety.specs.Loops.{LoopsKeep, RoundsAt, RoundsLeft, rounds_left}
use Rattle.aom_semantics.specs.Moves.{counted, step, error_frame}
use Rattle.aom_semantics.specs.State.{A_mark, Choice, Frame, Goes, State, counter, frame_as, frame_of, set_counter}
use Rattle.aom_safety.specs.Steps.{IsStraight, Sets}
use Rattle.aom_semantics.specs.World.{boot_state}

-- a method at its first place stands in no body
fresh : (p : Image) (fr : Frame) → RoundsAt p fr 0
fresh p fr from to d n body inside = absurd (omega (arith, inside.0))

module _ (p : Image) (looped_so : IsLooped p) (fr : Frame) (i : Instr) (at : instr_at p fr.method fr.place ≡ Some i) (rounds : RoundsAt p fr fr.place) where
  -- after an instruction that begins no loop
  goes_on : IsStraight i → RoundsAt p fr (suc fr.place)
  unfolding loop_in
  goes_on straight from to d n body inside =
      ⊎_elim (λ lt. rounds from to d n body (lt, omega (arith, inside.1))) (λ le. absurd (begins (omega (arith, inside.0)))) (cases_lt from fr.place)
    where
      begins : from ≡ fr.place → ⊥
      begins e =
          let clash : None ≡ Some d = sym straight ∙ ap begun_by (sym (ap transfer_in at) ∙ ap (λ x. transfer_at p fr.method x) (sym e) ∙ body.begins) in cc

  -- where it jumps
  goes_to : (t : ℕ) → jump_of i ≡ Some t → RoundsAt p fr t
  goes_to t jump from to d n body inside = rounds from to d n body (looped_so.jumps fr.method fr.place t i at jump from to d n body inside)

-- the method sets a counter
module _ (p : Image) (looped_so : IsLooped p) (fr : Frame) (rounds : RoundsAt p fr fr.place) where
  -- a counter that is set counts for its own loop alone
  other_counter : (e k d : ℕ) → e ≢ d → counter (set_counter fr e k) d ≡ counter fr d
  other_counter e k d differs = at-set_extending 0 fr.counters e d k ∙ ap (λ b. cond b k (counter fr d)) (ne_eqb e d differs)

  own_counter : (e k d : ℕ) → e ≡ d → counter (set_counter fr e k) d ≡ k
  own_counter e k d same = at-set_extending 0 fr.counters e d k ∙ ap (λ b. cond b k (counter fr d)) (eq-eqb e d same)

  same_or : (a b : ℕ) → (P : Type 0) → (a ≡ b → P) → (a ≢ b → P) → P
  same_or a b P same_so other_so = elim (cases_Bool (a == b)) as (λ x. P) [
    | inl e ↦ same_so (eqb-true a b e)
    | inr e ↦ other_so (λ same. let clash : true ≡ false = sym (eq-eqb a b same) ∙ e in cc)
  ]

  -- one loop begins at a place
  one_loop : (m from d n e k : ℕ) → transfer_at p m from ≡ Some (Begin d n) → transfer_at p m from ≡ Some (Begin e k) → (d ≡ e) × (n ≡ k)
  one_loop m from d n e k a b = (cc, (cc))

  begins_rounds : (e k : ℕ) → transfer_at p fr.method fr.place ≡ Some (Begin e k) → RoundsAt p (set_counter fr e k) (suc fr.place)
  begins_rounds e k at from to d n body inside = same_or from fr.place _ own other
    where
      here_begins : (0 < k) × (end : ℕ) × Body p fr.method fr.place end e k
      here_begins = looped_so.begins fr.method fr.place e k at

      own : from ≡ fr.place → (0 < counter (set_counter fr e k) d) × (counter (set_counter fr e k) d ≤ n)
      own same =
          let one = one_loop fr.method from d n e k body.begins (ap (λ x. transfer_at p fr.method x) same ∙ at) in
          let is = own_counter e k d (sym one.0) in
          (subst (λ x. 0 < x) (sym is) here_begins.0, subst (λ x. x ≤ n) (sym is) (subst (λ x. k ≤ x) (sym one.1) (omega arith)))

      other : from ≢ fr.place → (0 < counter (set_counter fr e k) d) × (counter (set_counter fr e k) d ≤ n)
      other differs =
          let below : from < fr.place = ⊎_elim (λ lt. lt) (λ le. absurd (differs (omega (arith, inside.0)))) (cases_lt from fr.place) in
          let apart = looped_so.apart fr.method from to d n fr.place here_begins.1 e k (suc fr.place) body here_begins.2 differs inside
          (omega arith, omega (arith, here_begins.2.later)) in
          let is = other_counter e k d (λ same. apart (sym same)) in
          let old = rounds from to d n body (below, omega (arith, inside.1)) in
          (subst (λ x. 0 < x) (sym is) old.0, subst (λ x. x ≤ n) (sym is) old.1)

  module _ (e t : ℕ) (at : transfer_at p fr.method fr.place ≡ Some (Repeat e t)) where
    closing : (from : ℕ) × (n : ℕ) × Body p fr.method from fr.place e n × (t ≡ suc from)
    closing = looped_so.closes fr.method fr.place e t at

    -- of another loop whose body has the place of the next
    aside : (k from to d n : ℕ) → Body p fr.method from to d n → from ≢ closing.0 → IsIn from to fr.place →
        (0 < counter (set_counter fr e k) d) × (counter (set_counter fr e k) d ≤ n)
    aside k from to d n body differs inside = let apart =
        looped_so.apart fr.method from to d n closing.0 fr.place e closing.1 fr.place body closing.2 differs inside (closing.2.later, omega arith) in
        let is = other_counter e k d (λ same. apart (sym same)) in
        let old = rounds from to d n body inside in
        (rw is old.0, rw is old.1)

    -- the last round is over
    ends_rounds : RoundsAt p (set_counter fr e 0) (suc fr.place)
    ends_rounds from to d n body inside =
        same_or from closing.0 _ own (λ differs. aside 0 from to d n body differs (before, omega (arith, inside.1)))
      where
        -- no loop begins at the place of a next
        not_here : from ≡ fr.place → ⊥
        not_here same = let clash : Some (Begin d n) ≡ Some (Repeat e t) = sym body.begins ∙ ap (λ x. transfer_at p fr.method x) same ∙ at in cc

        before : from < fr.place
        before = ⊎_elim (λ lt. lt) (λ le. absurd (not_here (omega (arith, inside.0)))) (cases_lt from fr.place)

        -- nor does another next close the one that this one closes
        own : from ≡ closing.0 → (0 < counter (set_counter fr e 0) d) × (counter (set_counter fr e 0) d ≤ n)
        own same =
            let one = one_loop fr.method from d n e closing.1 body.begins (ap (λ x. transfer_at p fr.method x) same ∙ closing.2.begins) in
            let its : Body p fr.method from fr.place d n = subst (λ x. Body p fr.method x fr.place d n) (sym same)
            (subst (λ x. Body p fr.method closing.0 fr.place x n) (sym one.0) (subst (λ x. Body p fr.method closing.0 fr.place e x) (sym one.1) closing.2)) in
            let end : to ≡ fr.place = looped_so.once fr.method from to fr.place d n body its in
            absurd (omega (arith, inside.1, end))

    -- another round begins
    next_round : (k : ℕ) → (counter fr e - 1) ≡ suc k → RoundsAt p (set_counter fr e (suc k)) t
    next_round k left from to d n body inside = same_or from closing.0 _ own (λ differs. aside (suc k) from to d n body differs here_is)
      where
        here_is : IsIn from to fr.place
        here_is = looped_so.next_places fr.method fr.place e t at from to d n body inside

        own : from ≡ closing.0 → (0 < counter (set_counter fr e (suc k)) d) × (counter (set_counter fr e (suc k)) d ≤ n)
        own same =
            let one = one_loop fr.method from d n e closing.1 body.begins (ap (λ x. transfer_at p fr.method x) same ∙ closing.2.begins) in
            let is = own_counter e (suc k) d (sym one.0) in
            let old = rounds from to d n body here_is in
            let before : counter fr e ≤ n = subst (λ x. counter fr x ≤ n) one.0 old.1 in
            (subst (λ x. 0 < x) (sym is) (omega arith), subst (λ x. x ≤ n) (sym is) (omega arith))

module _ (p : Image) (looped_so : IsLooped p) (c : Choice) (s : State) where
  -- a loop begins, or its last round is over
  counts_on : (fr : Frame) (i : Instr) (d n : ℕ) → instr_at p fr.method fr.place ≡ Some i → RoundsAt p fr fr.place → Sets i d n →
      RoundsAt p (set_counter fr d n) (suc fr.place)
  counts_on fr i d n there runs (inl begins) = begins_rounds p looped_so fr runs d n (ap transfer_in there ∙ ap Some begins)
  counts_on fr i d n there runs (inr over) = rw over.2 (ends_rounds p looped_so fr runs d over.0 (ap transfer_in there ∙ ap Some over.1))

  kept : Kept p c (rounds_left p) s
  kept = record {
    goes_on = λ fr ts i a f words. goes_on p looped_so fr i a.there a.runs f;
    jumps = λ fr ts i a to f. goes_to p looped_so fr i a.there a.runs to f;
    counts = λ fr ts i a d n f. counts_on fr i d n a.there a.runs f;
    repeats = λ fr ts i a d to k e f. next_round p looped_so fr a.runs d to (ap transfer_in a.there ∙ ap Some e) k f;
    waits = λ fr ts i a f words. goes_on p looped_so fr i a.there a.runs f;
    resumes = λ fr ts w words. w;
    calls = λ fr ts i a target m first x e. fresh p (entered p fr ts (counted p s) target m first (length s.items));
    cancels = λ fr ts i a m e f. fresh p (frame_as m fr.receiver fr.view (length s.items));
    traps = λ fr ts i a target m first x e. (fresh p (entered p fr ts (counted p s) target m first (length (A_mark ∷ s.items))), tt);
    destructs = λ o x m height ts e. fresh p (destructor_frame p m o (length ts) height);
    asks = λ x m code height e. fresh p (error_frame m x code height);
    undoes = λ m w items ts e. fresh p (operation_frame m w (length items));
    unwinds = λ code ts w. tt;
  }

moves : (p : Image) → IsLooped p → (c : Choice) (s u : State) → RoundsLeft p s.tasks → step p c s ≡ Goes u → RoundsLeft p u.tasks
moves p looped_so c s u h e = keeps p c (rounds_left p) s u (kept p looped_so c s) h e

pub loops_keep : LoopsKeep
loops_keep = record {
  linked = linked_is_looped;
  boot = boot;
  moves = moves;
  turns = λ p looped_so outside observed s u h e. turn_keeps_it p outside observed (rounds_left p) s u (λ m height receiver words d. fresh p
      (record (frame_of m receiver height) { words = words })) (λ d. tt) (λ o x m height ts e. fresh p (destructor_frame p m o (length ts) height)) h e;
}
  where
    boot : (p : Image) → RoundsLeft p (boot_state p).tasks
    boot p = grind (arith, nat_tests, fresh p)
