-- Two runs, stage by stage, where each stage is a move or a turn: after as many stages they have written the same, and are the same but for names.
use Rattle.std.proofs.lemmas.Bool.Decides.{nat_tests}
use Rattle.std.proofs.Common.{List, None, Some, [], ap, append-nil, append_assoc, arith, inl, inr}
use Rattle.std.proofs.Common.{refl, subst, suc, sym, true, zero, ℕ, ⊎_elim, ◌∙◌, ◌∷◌, ◌≡◌, ◌<◌, ◌≤◌}
use Rattle.std.proofs.lemmas.Bool.{cases_eq, cases_lt}
use Rattle.std.specs.Prelude.{◌++◌, ◌⊎◌}
use Rattle.aom_image.specs.Image.{Image}
use Rattle.aom_typing_rules.specs.Typing.{IsTyped, Typing}
use Rattle.aom_determinism.proofs.SafetyLemmas.{WellKept, boot_keeps, clients_keep, over_idle, well_on}
use Rattle.aom_safety.specs.Laws.{IsWired}
use Rattle.aom_semantics.specs.Moves.{IsOpen, step, written}
use Rattle.aom_semantics.specs.State.{Choice, Goes, Outcome, State}
use Rattle.aom_semantics.specs.Places.{named}
use Rattle.aom_semantics.specs.World.{Observed, IsBetween, IsBusy, Reaches, Run_of, begins, boot_state}
use Rattle.aom_semantics.specs.World.{moves, nothing_observed, turn, turning, turns, written_turn, Environment}
use Rattle.aom_transcript.specs.declared.line.Ending.{Ending}
use Rattle.aom_transcript.specs.declared.line.Line.{Line}
use Rattle.aom_determinism.proofs.Staying.{all_stays_there}
use Rattle.aom_determinism.specs.There.{AllThere}
use Rattle.aom_determinism.proofs.Alike.{move_alike, turn_alike, turn_writes_alike, writes_alike}
use Rattle.aom_determinism.specs.Determined.{Begins, TextIsDetermined}
use Rattle.aom_determinism.specs.Names.{AlikeOutcomes, AreAlike}
use Rattle.aom_determinism.specs.Observing.{Follows, Oracle, is_observed, is_polling, stages}
use Rattle.aom_determinism.proofs.Observing.{observed_kept}
use Rattle.aom_determinism.proofs.Turning.{polling_kept}

module _ (p : Image) (t : Typing) (outside : Environment) (wired : IsWired p) (typed : IsTyped p t) (oracle : Oracle) where
  -- one stage of a run, after so many: a move, or a turn between dispatches
  record Moved (n : ℕ) (v s : State) (new : List Line) : Type 0 where
    choice : Choice
    busy : IsBusy v
    open_so : IsOpen p outside.refused choice v
    goes : step p choice v ≡ Goes s
    lines : new ≡ written p v
    observes : is_observed p v.tasks ≡ true → choice.answer ≡ oracle.answers n

  record Turned (n : ℕ) (v s : State) (new : List Line) : Type 0 where
    observed : Observed
    between : IsBetween v
    free : named v.cells observed.name ≡ None
    goes : turn p outside observed v ≡ Goes s
    lines : new ≡ written_turn p outside v
    observes : is_polling (turning outside nothing_observed v) ≡ true → observed.completion ≡ oracle.completes n

  abbrev Stage : ℕ → State → State → List Line → Type 0
  Stage n v s new = Moved n v s new ⊎ Turned n v s new

  -- so many stages of a run
  abbrev After : ℕ → List Line → State → Type 0
  After zero lines s = (lines ≡ []) × (s ≡ boot_state p)
  After (suc n) lines s = (before : List Line) × (v : State) × (new : List Line) × After n before v × Reaches p outside (boot_state p) before v
      × Stage n v s new × (lines ≡ before ++ new)

  staged : {lines : List Line} {s : State} (reached : Reaches p outside (boot_state p) lines s) → Follows oracle reached → After (stages reached) lines s
  staged begins follows = (refl, refl)
  staged (moves {lines = lines} {s = s} c before busy choice e) follows =
      (lines, s, written p s, staged before follows.0, before, inl (record { choice = c; busy = busy; open_so = choice; goes = e; lines = refl; observes = follows.1 }), refl)
  staged (turns {lines = lines} {s = s} observed before between owed e) follows =
      (lines, s, written_turn p outside s, staged before follows.0, before, inr (record { observed = observed; between = between; free = owed.name; goes = e; lines = refl; observes = follows.1 }), refl)

  well : (lines : List Line) (s : State) → Reaches p outside (boot_state p) lines s → WellKept p t s
  well lines s r = well_on p t outside wired typed (boot_state p) (boot_keeps p t wired typed, clients_keep.boot p) lines s r

  there : (lines : List Line) (s : State) → Reaches p outside (boot_state p) lines s → AllThere s
  there _ _ begins = all_stays_there.boot p
  there _ _ (moves {lines = lines} {s = s} {u = u} c before busy choice e) = let w = well lines s before in
      all_stays_there.moves p t wired typed c s u w.0 choice.name w.1 (there lines s before) e
  there _ _ (turns {lines = lines} {s = s} {u = u} observed before between observes e) =
      let w = well lines s before in
      all_stays_there.turns p t outside wired typed observed s u w.0 between observes w.1 (there lines s before) e

  -- ---- as many stages

  -- what is at hand in one is at hand in the other
  goes_alike : (o o' : Outcome) (s u : State) → o ≡ Goes s → o' ≡ Goes u → AlikeOutcomes o o' → AreAlike s u
  goes_alike o o' s u e e' h = subst (λ x. AlikeOutcomes (Goes s) x) e' (subst (λ x. AlikeOutcomes x o') e h)

  -- and what is heard in one is heard in the other
  observes_alike : (n : ℕ) (v w s u : State) (new new' : List Line) → AreAlike v w → (one : Moved n v s new) (other : Moved n w u new') →
      is_observed p v.tasks ≡ true → one.choice.answer ≡ other.choice.answer
  observes_alike n v w s u new new' alike one other observed = grind (arith, nat_tests, observed, observed_kept p alike.names v.tasks)

  stage_alike : (n : ℕ) (v w s u : State) (new new' : List Line) → WellKept p t w → AllThere w → AreAlike v w → Stage n v s new → Stage n w u new' →
      (new ≡ new') × AreAlike s u
  stage_alike n v w s u new new' k there alike (inl one) (inl other) = (
    one.lines ∙ writes_alike p v w alike ∙ sym other.lines,
    goes_alike _ _ s u one.goes other.goes (move_alike p t outside.refused one.choice other.choice v w k.0 k.1 there alike one.open_so other.open_so
        (observes_alike n v w s u new new' alike one other)),
  )
  stage_alike n v w s u new new' k there alike (inl one) (inr other) = absurd (grind arith)
  stage_alike n v w s u new new' k there alike (inr one) (inl other) = absurd (grind arith)
  stage_alike n v w s u new new' k there alike (inr one) (inr other) = (
    one.lines ∙ turn_writes_alike p outside v w alike ∙ sym other.lines,
    goes_alike _ _ s u one.goes other.goes
        (turn_alike p t outside one.observed other.observed v w k.0 k.1 there alike one.free other.free (grind (arith, nat_tests, polling_kept))),
  )

  -- nothing in the boot state has a name
  booted : AreAlike (boot_state p) (boot_state p)
  booted = record { names = λ n. n; one_to_one = λ n m e. e; same = ap (λ ts. record (boot_state p) { tasks = ts }) (grind arith) }

  together : (n : ℕ) (lines others : List Line) (s u : State) → After n lines s → After n others u → (lines ≡ others) × AreAlike s u
  together zero lines others s u a b = (a.0 ∙ sym b.0, subst (λ x. AreAlike x u) (sym a.1) (subst (λ x. AreAlike (boot_state p) x) (sym b.1) booted))
  together (suc n) lines others s u a b =
      let before = together n a.0 b.0 a.1 b.1 a.3 b.3 in
      let now = stage_alike n a.1 b.1 s u a.2 b.2 (well b.0 b.1 b.4) (there b.0 b.1 b.4) before.1 a.5 b.5 in
      (a.6 ∙ ap (λ x. x ++ a.2) before.0 ∙ ap (λ x. b.0 ++ x) now.0 ∙ sym b.6, now.1)

  -- ---- fewer stages

  record Earlier (n : ℕ) (lines : List Line) : Type 0 where
    first : List Line
    at : State
    after : After n first at
    begins_it : Begins first lines

  earlier : (n m : ℕ) (lines : List Line) (s : State) → n ≤ m → After m lines s → Earlier n lines
  earlier n zero lines s le a =
      let none : zero ≡ n = omega arith in
      record { first = lines; at = s; after = subst (λ k. After k lines s) none a; begins_it = ([], sym (append-nil lines)) }
  earlier n (suc m) lines s le a = ⊎_elim
      (λ e. record { first = lines; at = s; after = subst (λ k. After k lines s) (sym e) a; begins_it = ([], sym (append-nil lines)) }) (λ ne.
      let h = earlier n m a.0 a.1 (omega arith) a.3 in
      record { first = h.first; at = h.at; after = h.after; begins_it = (h.begins_it.0 ++ a.2, a.6 ∙ ap (λ x. x ++ a.2) h.begins_it.1 ∙ append_assoc h.first h.begins_it.0 a.2) })
      (cases_eq n (suc m))

  -- a run that has come as far or further begins as this one
  begins_so : (n m : ℕ) (lines others : List Line) (s u : State) → n ≤ m → After n lines s → After m others u → Begins lines others
  begins_so n m lines others s u le a b =
      let h = earlier n m others u le b in
      let same = together n lines h.first s h.at a h.after in
      (h.begins_it.0, h.begins_it.1 ∙ ap (λ x. x ++ h.begins_it.0) (sym same.0))

  -- ---- ends

  same_ended : (s u : State) → AreAlike s u → u.rest.ended ≡ s.rest.ended
  same_ended s u alike = ap (λ x. x.rest.ended) alike.same

  -- no run goes on from where another has ended
  never_past : (n m : ℕ) (lines others : List Line) (s u : State) (ending : Ending) → Run_of p outside lines s ending → n < m →
      After n lines s → After m others u → ⊥
  never_past n m lines others s u ending run lt a b =
      let h = earlier (suc n) m others u (omega arith) b in
      let before = together n lines h.after.0 s h.after.1 a h.after.3 in
      go h.after.1 (same_ended s h.after.1 before.1 ∙ run.ended) h.after.4 h.after.5
    where
      go : {first new : List Line} {x : State} (v : State) → v.rest.ended ≡ Some ending → Reaches p outside (boot_state p) first v → Stage n v x new → ⊥
      go {first = first} v over r (inl m) = let clash : m.busy.0 ∷ m.busy.1 ≡ [] = sym m.busy.2 ∙ over_idle p t outside wired typed first v ending r over in cc
      go v over r (inr m) = let clash : Some ending ≡ None = sym over ∙ m.between.going in cc

  abbrev Reached : List Line → State → Type 0
  Reached lines s = Reaches p outside (boot_state p) lines s

  agree : (lines others : List Line) (s u : State) (one : Reached lines s) (other : Reached others u) → Follows oracle one → Follows oracle other →
      Begins lines others ⊎ Begins others lines
  agree lines others s u one other observes follows = grind (arith, nat_tests, staged, observes, begins_so, lines, cases_lt)

  whole : (lines others : List Line) (s u : State) (ending : Ending) (one : Run_of p outside lines s ending) (other : Reached others u) →
      Follows oracle one.reaches → Follows oracle other → Begins others lines
  whole lines others s u ending one other observes follows =
      let a = staged one.reaches observes in
      let b = staged other follows in
      ⊎_elim (λ lt. absurd (never_past (stages one.reaches) (stages other) lines others s u ending one lt a b))
      (λ le. begins_so (stages other) (stages one.reaches) others lines u s le b a) (cases_lt (stages one.reaches) (stages other))

  same_length : (n m : ℕ) (lines others : List Line) (s u : State) (ending last : Ending) →
      Run_of p outside lines s ending → Run_of p outside others u last → After n lines s → After m others u → n ≡ m
  same_length n m lines others s u ending last one other a b = grind (arith, nat_tests, never_past, lines, cases_eq, cases_lt)

  ended : (lines others : List Line) (s u : State) (ending last : Ending) (one : Run_of p outside lines s ending) (other : Run_of p outside others u last) →
      Follows oracle one.reaches → Follows oracle other.reaches → (lines ≡ others) × (ending ≡ last) × AreAlike s u
  ended lines others s u ending last one other observes follows =
      let a = staged one.reaches observes in
      let b = staged other.reaches follows in
      let e = same_length (stages one.reaches) (stages other.reaches) lines others s u ending last one other a b in
      let same = together (stages one.reaches) lines others s u a (subst (λ n. After n others u) (sym e) b) in
      (same.0, let x : Some ending ≡ Some last = sym one.ended ∙ sym (same_ended s u same.1) ∙ other.ended in cc, same.1)

pub text_is_determined : TextIsDetermined
text_is_determined p t outside wired typed =
    search (arith, nat_tests, agree p t outside wired typed, whole p t outside wired typed, ended p t outside wired typed)
