-- A step with the call that it makes: what is kept of natives fits the state after it.
use Rattle.std.proofs.lemmas.Bool.Decides.{nat_tests}
use Rattle.std.proofs.Common.{◌≡◌, ◌≢◌, ◌⊎◌, ◌<◌, ℤ, pos, ℕ, suc, true, false, cond, List, [], ◌∷◌, ◌++◌, Option, Some, None, sym, ap, subst, ◌∙◌}
use Rattle.std.proofs.Common.{arith}
use Rattle.std.proofs.lemmas.Int.{ints}
use Rattle.std.specs.Prelude.{IsSome, int_lt, ◌≤ℤ◌, ◌<ℤ◌}
use Rattle.std.proofs.lemmas.Bool.{cases_eq, eq-eqb, eqb-true, ne_eqb}
use Rattle.aom_natives.specs.Owed.{times}
use Rattle.aom_natives.specs.Slots.{KeepsOthers, ids_at, living_at}
use Rattle.aom_run.proofs.NativesLemmas.{same-push}
use Rattle.aom_run.proofs.MachineLemmas.{is_as_far}
use Rattle.aom_run.proofs.Named.{elsewhere, there, turned_false}
use Rattle.aom_semantics.specs.State.{State}
use Rattle.aom_semantics.specs.NativeCall.{NativeCall, Starts, wanted}
use Rattle.aom_determinism.specs.Owed.{FindsWell, is_for}
use Rattle.aom_machine_state.specs.LineBuffer.{LineBuffer}
use Rattle.aom_machine_state.specs.declared.progress.Progress.{Progress}
use Rattle.aom_machine_state.specs.declared.progress.Progress.TheVariants.{Running}
use Rattle.aom_machine_state.specs.Agrees.{observed_by}
use Rattle.aom_machine_state.specs.Stands.{MachineModel as Core, Refines as Core_stands}
use Rattle.aom_machine.specs.Steps.{Quiet, StaysIdle as Core_stays_idle, Stepped as Core_stepped, SteppedOn as Core_stepped_on, Steps, begins, progress}
use Rattle.aom_run.specs.declared.machine.HostedMachine.{HostedMachine}
use Rattle.aom_run.specs.Answers.{Asked, KeepsUnasked, MayAsk, MayObserve, asked_at, asked_by, asked_of, times_after}
use Rattle.aom_run.specs.Calls.{Stands, RefinesWithNatives, StaysIdle, SteppedOn, SteppedOnce}
use Rattle.aom_run.specs.Beside.{KeepsUnnamed, Serves}
use Rattle.aom_run.proofs.Asked.{keeps_unnamed, may_ask, serves_after, session_small, unnamed_on}
use Rattle.aom_run.proofs.Moving.{asks_well, went_on}

-- what is heard where nothing is asked, and where that is
module _ {L : Type 0} (open_may : L → ℕ → ℤ → Type 0) (start_may call_may : L → ℕ → ℤ → ℤ → ℤ → Type 0) (kept : L → List ℕ) (slots : List (Option L)) where
  pub observed_nothing : (observed : ℤ) (asked : Option NativeCall) → asked ≡ None → MayObserve open_may start_may call_may slots asked observed × Asked kept slots asked observed slots
  observed_nothing observed asked none = search (arith, nat_tests)

  pub observed_so : (new : List (Option L)) (observed answer : ℤ) (asked : Option NativeCall) (w : NativeCall) →
      asked ≡ Some w → observed ≡ answer → MayObserve open_may start_may call_may slots (Some w) answer → Asked kept slots (Some w) answer new →
      MayObserve open_may start_may call_may slots asked observed × Asked kept slots asked observed new
  observed_so new observed answer asked w some same may call = grind (arith, nat_tests)

-- a request is begun, or refused
signs : (a : ℤ) → ((int_lt a (pos 0) ≡ true) × (a <ℤ pos 0)) ⊎ ((int_lt a (pos 0) ≡ false) × (pos 0 ≤ℤ a))
signs x = grind (arith, nat_tests, ints)

module _ {L : Type 0} (kept : L → List ℕ) (old new : List (Option L)) (n x : ℕ) where
  here : (m : ℕ) (ids : List ℕ) → times m (ids ++ x ∷ []) ≡ cond (is_for n x n m) (suc (times m ids)) (times m ids)
  here m ids = grind (arith, nat_tests, same-push ids x, eq-eqb n n, eqb-true x m, there ids x, elsewhere ids x m, turned_false x m)

  asked_start : (f w answer : ℤ) → (pos 0 ≤ℤ answer → ids_at kept new n ≡ ids_at kept old n ++ x ∷ []) → (answer <ℤ pos 0 → ids_at kept new n
      ≡ ids_at kept old n) → IsSome (living_at old n) → IsSome (living_at new n) → KeepsOthers old new n → Asked kept old (Some (Starts n x f w)) answer new
  asked_start f w answer taken refused before after others = search (arith, nat_tests, cases_eq, signs answer, ne_eqb n, here)

  -- what is outstanding stays so, where the call neither begins nor cancels
  pub asked_alone : (asked : NativeCall) (answer : ℤ) → asked_at asked ≡ n → ((k m before : ℕ) → times_after (Some asked) answer k m before ≡ before) → ids_at kept
      new n ≡ ids_at kept old n → IsSome (living_at old n) → IsSome (living_at new n) → KeepsOthers old new n → Asked kept old (Some asked) answer new
  asked_alone asked answer at stays same before after others = search (arith, nat_tests, cases_eq)

  pub asked_to_start : (asked : NativeCall) (f w answer : ℤ) → asked ≡ Starts n x f w → MayAsk kept old asked → (pos 0 ≤ℤ answer → ids_at kept new n
      ≡ ids_at kept old n ++ x ∷ []) → (answer <ℤ pos 0 → ids_at kept new n ≡ ids_at kept old n) → IsSome (living_at new n) → KeepsOthers old new n →
      Asked kept old (Some asked) answer new
  asked_to_start asked f w answer is fits taken refused after others = grind (arith, nat_tests, asked_start f w answer taken refused)

module _ {X : Type 0} {B : X → Type 0} (old : HostedMachine X B) (s : State) (st : RefinesWithNatives old s) where
  -- something is at hand, or nothing is
  pub asks_so : (w : NativeCall) → progress old.core ≡ Running → wanted old.core.image s ≡ Some w → asked_of old.core.image s ≡ Some w
  asks_so w running some = ap (λ x. asked_by x (wanted old.core.image s)) (sym (is_as_far old.core s st.stands) ∙ running) ∙ some

  pub asks_nothing : (progress old.core ≡ Running → ⊥) → asked_of old.core.image s ≡ None
  asks_nothing resting = grind (arith, nat_tests, is_as_far old.core s st.stands)

  well_asked : FindsWell old.core.image s (wanted old.core.image s)
  well_asked = asks_well old.core.image st.stands.typing st.stands.sound s st.stands.typed st.serves.sessions

  -- what is asked fits the natives
  pub fits : (w : NativeCall) → wanted old.core.image s ≡ Some w → MayAsk (λ l. l.ids) old.natives.slots.items w
  fits w e = grind (arith, nat_tests, may_ask, session_small old.core s st.stands, well_asked)

  of_asked : (p : Progress) → FindsWell old.core.image s (asked_by p (wanted old.core.image s))
  of_asked x = grind (arith, nat_tests, well_asked)

  -- natives that serve no class are asked nothing
  pub unnamed_stay : (new : HostedMachine X B) → KeepsUnasked old.natives.slots.items (asked_of old.core.image s) new.natives.slots.items →
      KeepsUnnamed old.core.image old.natives.slots.items new.natives.slots.items
  unnamed_stay new unasked = grind (arith, nat_tests, keeps_unnamed, of_asked)

  -- the core has gone on with the answer
  pub stepped_on : (new : HostedMachine X B) (mid : Core) (observed : ℤ) (progress : Progress) (reported now : LineBuffer) →
      mid.image ≡ old.core.image → observed_by mid.parts ≡ observed → Core_stands mid s → new.core.image ≡ mid.image → Asked (λ l. l.ids) old.natives.slots.items
      (asked_of old.core.image s) observed new.natives.slots.items → Core_stepped_on mid progress reported now new.core → SteppedOn old observed progress reported now new s
  stepped_on new mid observed progress reported now image same_observed stands kept asked steps =
      let d = steps s stands in
      let quiet = subst (λ h. Quiet old.core.image reported.refused h s d.3.0 d.1) same_observed
      (subst (λ q. Quiet q reported.refused (observed_by mid.parts) s d.3.0 d.1) image d.3.1) in
      let last = subst (λ h. Steps old.core.image reported.refused h d.1 d.0 d.2) same_observed
      (subst (λ q. Steps q reported.refused (observed_by mid.parts) d.1 d.0 d.2) image d.4) in
      let went = went_on old.core.image _ st.stands.sound reported.refused observed s d.1 d.2 d.0 st.stands.typed st.serves.sessions (d.3.0, quiet) last in
      let serves = serves_after (λ l. l.ids) _ s _ st.serves st.stands.sound.formed (session_small _ s st.stands) _ _ observed _ d.2 (of_asked _) asked went in (
        d.0,
        d.1,
        d.2,
        (d.3.0, quiet),
        last,
        d.5,
        d.6,
        record {
          stands = d.7;
          serves = subst (λ q. Serves (λ l. l.ids) q d.2 new.natives.slots.items) (sym (kept ∙ image)) serves;
          countable = subst (λ k. k < 18446744073709551616) (sym asked.count) st.countable;
        },
      )

  -- so it has by one step
  pub stepped_once : (new : HostedMachine X B) (mid : Core) (observed : ℤ) (progress : Progress) (reported now : LineBuffer) →
      mid.image ≡ old.core.image → observed_by mid.parts ≡ observed → Core_stands mid s → new.core.image ≡ mid.image → Asked (λ l. l.ids) old.natives.slots.items
      (asked_of old.core.image s) observed new.natives.slots.items → Core_stepped mid progress reported now new.core → SteppedOnce old observed progress reported now new s
  unfolding stepped_on
  stepped_once new mid observed progress reported now image same_observed stands kept asked steps = let d = stepped_on new
      mid observed progress reported now image same_observed stands kept asked (λ v there. let x = steps v there in (x.0, v, x.1, ([], begins), x.2, x.3, x.4, x.5)) in
      (d.0, d.2, d.4, d.5, d.6, d.7)

-- where nothing is at hand nothing is asked, and the core stays as it was
module _ {X : Type 0} {B : X → Type 0} (old mid : HostedMachine X B) (core : Core) where
  pub stays_idle : (reported now : LineBuffer) → (progress old.core ≢ Running → mid ≡ old) → Core_stays_idle mid.core reported now core →
      StaysIdle old reported now (record { core = core; natives = mid.natives })
  stays_idle reported now first then resting = search (arith, nat_tests)

module _ {X : Type 0} {B : X → Type 0} (old m new : HostedMachine X B) where
  -- so over steps one after another
  pub unnamed_step : m.core.image ≡ old.core.image → KeepsUnnamed old.core.image old.natives.slots.items m.natives.slots.items → Stands m →
      ((s : State) → RefinesWithNatives m s → KeepsUnasked m.natives.slots.items (asked_of m.core.image s) new.natives.slots.items) →
      KeepsUnnamed old.core.image old.natives.slots.items new.natives.slots.items
  unnamed_step image was stands unasked = grind (arith, nat_tests, unnamed_on, unnamed_stay)
