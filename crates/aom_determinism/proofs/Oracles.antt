-- What a run hears of natives is told by its moves and turns, one after another: an oracle that says so is one that the run follows.
use Rattle.std.proofs.lemmas.Bool.Decides.{nat_tests}
use Rattle.std.proofs.Common.{List, None, ap, arith, cond, pos, refl, suc, sym, ℕ, ◌<◌, ◌==◌, ◌≡◌}
use Rattle.std.proofs.lemmas.Bool.{eq-eqb, ne_eqb}
use Rattle.aom_image.specs.Image.{Image}
use Rattle.aom_semantics.specs.State.{State}
use Rattle.aom_semantics.specs.World.{Environment, Reaches, begins, moves, turns}
use Rattle.aom_transcript.specs.declared.line.Line.{Line}
use Rattle.aom_determinism.specs.Observing.{Follows, Oracle, stages}
use Rattle.aom_determinism.specs.Determined.{EachRunFollows}

-- the same, but for one stage
abbrev said : {A : Type 0} → (ℕ → A) → ℕ → A → ℕ → A
said f n a k = cond (k == n) a (f k)

said_here : {A : Type 0} (f : ℕ → A) (n : ℕ) (a : A) → said f n a n ≡ a
said_here f n a = ap (λ b. cond b a (f n)) (eq-eqb n n refl)

said_before : {A : Type 0} (f : ℕ → A) (n : ℕ) (a : A) (k : ℕ) → k < n → f k ≡ said f n a k
said_before f n a k lt = sym (ap (λ b. cond b a (f k)) (ne_eqb k n (λ e. absurd (omega (arith, lt, e)))))

-- two that say the same before a stage
record SameBefore (n : ℕ) (one other : Oracle) : Type 0 where
  answers : (k : ℕ) → k < n → one.answers k ≡ other.answers k
  completes : (k : ℕ) → k < n → one.completes k ≡ other.completes k

sooner : (n : ℕ) (one other : Oracle) → SameBefore (suc n) one other → SameBefore n one other
sooner n one other same = record { answers = λ k lt. same.answers k (omega (arith, lt)); completes = λ k lt. same.completes k (omega (arith, lt)) }

module _ {p : Image} {outside : Environment} {from : State} where
  follows_both : (one other : Oracle) {lines : List Line} {s : State} (reached : Reaches p outside from lines s) → SameBefore (stages reached) one other →
      Follows one reached → Follows other reached
  follows_both one other begins same follows = tt
  follows_both one other (moves c reached busy opened goes) same follows = search (arith, nat_tests, follows_both one other reached, sooner)
  follows_both one other (turns observed reached between well goes) same follows = search (arith, nat_tests, follows_both one other reached, sooner)

  -- what a run heard
  abbrev observed_by : {lines : List Line} {s : State} → Reaches p outside from lines s → Oracle
  observed_by begins = record { answers = λ n. pos 0; completes = λ n. None }
  observed_by (moves c reached busy opened goes) = let before = observed_by reached in record before { answers = said before.answers (stages reached) c.answer }
  observed_by (turns observed reached between well goes) = let before = observed_by reached in
      record before { completes = said before.completes (stages reached) observed.completion }

  follows_it : {lines : List Line} {s : State} (reached : Reaches p outside from lines s) → Follows (observed_by reached) reached
  follows_it begins = tt
  follows_it (moves c reached busy opened goes) =
      let before = observed_by reached in
      let n = stages reached in
      let same : SameBefore n before (record before { answers = said before.answers n c.answer }) =
      record { answers = said_before before.answers n c.answer; completes = λ k lt. refl } in
      (follows_both before (record before { answers = said before.answers n c.answer }) reached same (follows_it reached), λ observed. sym (said_here before.answers n c.answer))
  follows_it (turns observed reached between well goes) =
      let before = observed_by reached in
      let n = stages reached in
      let same : SameBefore n before (record before { completes = said before.completes n observed.completion }) =
      record { answers = λ k lt. refl; completes = said_before before.completes n observed.completion } in
      (follows_both before (record before { completes = said before.completes n observed.completion }) reached same (follows_it reached), λ polled. sym (said_here before.completes n observed.completion))

pub each_run_follows : EachRunFollows
each_run_follows p outside from lines s reached = (observed_by reached, follows_it reached)
