-- Natives that are killed, and those that are polled: which they are in the checked machine.
use Rattle.std.proofs.lemmas.Bool.Decides.{nat_tests}
use Rattle.std.proofs.Common.{◌≡◌, ◌<◌, ◌≤◌, ◌+◌, ◌-◌, ℤ, ℕ, suc, true, false, cond, List, [], ◌∷◌, Option, Some, None, sym, ap, subst, ◌∙◌, length}
use Rattle.std.proofs.Common.{arith}
use Rattle.std.proofs.lemmas.List.{get_or_past, length-append}
use Rattle.aom_transcript.specs.declared.line.Line.TheVariants.{Killed}
use Rattle.std.specs.Prelude.{IfSome, IsSome, MatchOption, is_some, ◌==◌}
use Rattle.std.proofs.lemmas.Bool.{cases_lt, le-ltb, lt-ltb, not-true}
use Rattle.aom_natives.specs.Owed.{TakesOut}
use Rattle.aom_natives.specs.Slots.{KeepsOthers, ids_at, living_at}
use Rattle.aom_run.proofs.NativesLemmas.{same-out}
use Rattle.aom_determinism.specs.Owed.{has_name, owes}
use Rattle.aom_semantics.specs.Natives.{is_dead}
use Rattle.aom_semantics.specs.State.{Counters, State}
use Rattle.aom_semantics.specs.World.{AnswersWell, Completion, Observes, Kills, Environment, Polls, cell_at, delivers, first_living, lives}
use Rattle.aom_transcript.specs.declared.event.Event.TheVariants.{Kill}
use Rattle.aom_machine_state.specs.LineBuffer.{LineBuffer}
use Rattle.aom_machine_state.specs.Stands.{MachineModel as Core, Refines as Core_stands}
use Rattle.aom_machine.specs.Turns.{Answers, Takes as Core_takes}
use Rattle.aom_run.specs.declared.machine.HostedMachine.{HostedMachine}
use Rattle.aom_run.specs.Calls.{Delivered, RefinesWithNatives, Takes, natives_of}
use Rattle.aom_run.specs.Beside.{KeptSame}
use Rattle.aom_run.proofs.Asked.{one_there}
use Rattle.aom_run.proofs.Named.{there}
use Rattle.aom_run.proofs.Serving.{observed_plain, serves_completed, serves_killed, tale_of, takes_plainly, takes_so, untouched, with_any_name}

-- a slot beyond the last has no native
beyond : {L : Type 0} (slots : List (Option L)) (n : ℕ) → length slots ≤ n → is_some (living_at slots n) ≡ false
beyond slots n past = ap is_some (get_or_past slots n None past)

pub within : {L : Type 0} (slots : List (Option L)) (n : ℕ) → IsSome (living_at slots n) → n < length slots
within slots n some = grind (arith, nat_tests, cases_lt n, beyond slots n)

module _ {X : Type 0} {B : X → Type 0} (old : HostedMachine X B) (s : State) (st : RefinesWithNatives old s) where
  -- a native lives in the checked machine just where its slot has it
  pub lives_is : (outside : Environment) → outside.natives ≡ natives_of old → (n : ℕ) → lives outside s n ≡ is_some (living_at old.natives.slots.items n)
  lives_is outside same n = grind (arith, nat_tests, cases_lt n, lt-ltb n outside.natives, beyond old.natives.slots.items n, le-ltb n)

  pub is_alive_so : (n : ℕ) → n < natives_of old → is_some (living_at old.natives.slots.items n) ≡ true → is_dead s.killed n ≡ false
  is_alive_so n inside alive = not-true (is_dead s.killed n) (sym (st.serves.lives n inside) ∙ alive)

  pub is_dead_so : (n : ℕ) → n < natives_of old → is_some (living_at old.natives.slots.items n) ≡ false → is_dead s.killed n ≡ true
  is_dead_so n inside dead = grind (arith, nat_tests)

  -- the first that lives, from the first that is not polled on
  pub from_polled : (n : ℕ) → n ≡ old.core.parts.rest.polled →
      first_living s.killed (natives_of old - s.rest.polled) s.rest.polled ≡ first_living s.killed (natives_of old - n) n
  from_polled n e = ap (λ k. first_living s.killed (natives_of old - k) k) (sym (e ∙ ap (λ (r : Counters). r.polled) st.stands.agrees.rest))

  pub kills_it : (outside : Environment) → outside.natives ≡ natives_of old → (name n : ℕ) → IsSome (living_at old.natives.slots.items n) →
      delivers outside name s (Kill n) ≡ Kills n
  kills_it outside same name n alive = ap (λ b. cond b (Kills n) Observes) (lives_is outside same n ∙ alive)

  pub kills_none : (outside : Environment) → outside.natives ≡ natives_of old → (name n : ℕ) → is_some (living_at old.natives.slots.items n) ≡ false →
      delivers outside name s (Kill n) ≡ Observes
  kills_none outside same name n dead = ap (λ b. cond b (Kills n) Observes) (lives_is outside same n ∙ dead)

-- a native that does not live is killed no more
pub kills_nothing : {X : Type 0} {B : X → Type 0} (old : HostedMachine X B) (core : Core) (image : core.image ≡ old.core.image) (n : ℕ) → is_some
    (living_at old.natives.slots.items n) ≡ false → ((now : LineBuffer) (s : State) → (st : RefinesWithNatives old s) → Core_takes old.core s Observes now now core) →
    (now : LineBuffer) → Delivered old (Kill n) now now (record { core = core; natives = old.natives })
kills_nothing old core image n dead all now outside same s st =
    with_any_name s (λ name. Takes old s (delivers outside name s (Kill n)) now now (record { core = core; natives = old.natives })) (λ name.
    subst (λ part. Takes old s part now now (record { core = core; natives = old.natives })) (sym (kills_none old s st outside same name n dead))
    (takes_plainly old (record { core = core; natives = old.natives }) s st _ (observed_plain s) tt tt (untouched (λ l. l.ids) _) image now now (all now s st)))

-- one that lives is
pub kills_one : {X : Type 0} {B : X → Type 0} (old new : HostedMachine X B) (image : new.core.image ≡ old.core.image) (n : ℕ) →
    IsSome (living_at old.natives.slots.items n) → living_at new.natives.slots.items n ≡ None → KeepsOthers old.natives.slots.items new.natives.slots.items n →
    (before now : LineBuffer) → ((s : State) (st : RefinesWithNatives old s) → Core_takes old.core s (Kills n) before now new.core) → Delivered old (Kill n) before now new
kills_one old new image n alive dead others before now all outside same s st =
    let core = all s st in
    with_any_name s (λ name. Takes old s (delivers outside name s (Kill n)) before now new)
    (λ name. subst (λ part. Takes old s part before now new) (sym (kills_it old s st outside same name n alive)) (takes_so old new s st _ others.count image _
    now core (serves_killed (λ l. l.ids) _ _ _ s _ n st.serves (tale_of old new s st _ tt tt _ now core) dead others)))

-- with one line
pub line_more : (old new : Core) (s : State) (n : ℕ) (before now : LineBuffer) → Core_takes old s (Kills n) before now new →
    length now.lines ≤ length before.lines + 1
line_more old new s n before now core = grind (arith, nat_tests, length-append before.lines (Killed n ∷ []))

-- ---- the native that is polled

module _ (killed : List ℕ) (count n : ℕ) where
  one_more : n < count → count - n ≡ suc (count - suc n)
  one_more below = omega (arith, below)

  later : n < count → is_dead killed n ≡ true → first_living killed (count - n) n ≡ first_living killed (count - suc n) (suc n)
  later below dead = grind (arith, nat_tests, one_more below)

  pub first_later : n < count → is_dead killed n ≡ true → first_living killed (count - n) n ≡ first_living killed (count - (n + 1)) (n + 1)
  first_later below dead = subst (λ k. first_living killed (count - n) n ≡ first_living killed (count - k) k) (omega arith) (later below dead)

  pub first_here : n < count → is_dead killed n ≡ false → first_living killed (count - n) n ≡ Some n
  first_here below alive = grind (arith, nat_tests, one_more below)

  pub first_none : count ≤ n → first_living killed (count - n) n ≡ None
  first_none past = let none : count - n ≡ 0 = omega (arith, past) in ap (λ k. first_living killed k n) none

module _ {X : Type 0} {B : X → Type 0} (old : HostedMachine X B) (s : State) (st : RefinesWithNatives old s) where
  -- what a native hands over is outstanding there
  pub handed_over : (n id : ℕ) (ids : List ℕ) → TakesOut id (ids_at (λ l. l.ids) old.natives.slots.items n) ids → owes old.core.image s.cells n id ≡ true
  handed_over n id ids out =
      let is = (same-out id (ids_at (λ l. l.ids) old.natives.slots.items n) ids out).at id in
      let has = st.serves.ids n id in
      let here = there ids id in
      one_there (owes old.core.image s.cells n id) (omega (arith, is, has, here))

  pub polled_none : (new : HostedMachine X B) (image : new.core.image ≡ old.core.image) (n : ℕ) → KeptSame (λ l. l.ids) old.natives.slots.items
      new.natives.slots.items → (now : LineBuffer) → Core_takes old.core s (Polls n None) now now new.core → Takes old s (Polls n None) now now new
  polled_none new image n same now core = search (arith, nat_tests, takes_plainly old new s st (Polls n None))

  pub polled_some : (new : HostedMachine X B) (image : new.core.image ≡ old.core.image) (n id : ℕ) (code : ℤ) (a : Completion) →
      TakesOut id (ids_at (λ l. l.ids) old.natives.slots.items n) (ids_at (λ l. l.ids) new.natives.slots.items n) →
      IsSome (living_at old.natives.slots.items n) → IsSome (living_at new.natives.slots.items n) → KeepsOthers
      old.natives.slots.items new.natives.slots.items n → Answers s.cells (Some (id, code)) (Some a) → AnswersWell old.core.image s (Polls n (Some a)) →
      (now : LineBuffer) → Core_takes old.core s (Polls n (Some a)) now now new.core → Takes old s (Polls n (Some a)) now now new
  polled_some new image n id code a out before after others is well now core = takes_so old new s st (Polls n (Some a)) others.count image now now core
      (serves_completed (λ l. l.ids) _ _ _ s core.state n id a st.serves (tale_of old new s st _ tt well now now core) named out before after others)
    where
      named : (m : ℕ) → has_name (cell_at s.cells a.cell) m ≡ (id == m)
      named m = ap (λ o. has_name o m) is.1 ∙ ap (λ x. x == m) is.2

-- what a native that is polled hands over is outstanding there
pub owed_in : {X : Type 0} {B : X → Type 0} (old : HostedMachine X B) (s : State) (st : RefinesWithNatives old s) (n : ℕ) (completion : Option (ℕ × ℤ)) (ids : List ℕ) →
    MatchOption completion (ids ≡ ids_at (λ l. l.ids) old.natives.slots.items n) (λ x. TakesOut x.0 (ids_at (λ l. l.ids) old.natives.slots.items n) ids) →
    IfSome completion (λ x. (s : State) × Core_stands old.core s × (owes old.core.image s.cells n x.0 ≡ true))
owed_in old s st n x ids same = grind (arith, nat_tests, handed_over)

-- so the poll is one of the checked machine's
pub polled_so : {X : Type 0} {B : X → Type 0} (old new : HostedMachine X B) (image : new.core.image ≡ old.core.image) (n : ℕ) (completion : Option (ℕ × ℤ)) →
    MatchOption completion (ids_at (λ l. l.ids) new.natives.slots.items n ≡ ids_at (λ l. l.ids) old.natives.slots.items n)
    (λ x. TakesOut x.0 (ids_at (λ l. l.ids) old.natives.slots.items n) (ids_at (λ l. l.ids) new.natives.slots.items n)) → IsSome
    (living_at old.natives.slots.items n) → IsSome (living_at new.natives.slots.items n) → KeepsOthers old.natives.slots.items new.natives.slots.items n →
    (s : State) → RefinesWithNatives old s → (answer : Option Completion) → Answers s.cells completion answer → AnswersWell old.core.image s (Polls n answer) →
    (now : LineBuffer) → Core_takes old.core s (Polls n answer) now now new.core → Takes old s (Polls n answer) now now new
polled_so old new image n None same before after others s st None is well now core = grind arith
polled_so old new image n (Some x) out before after others s st (Some a) is well now core =
    polled_some old s st new image n x.0 x.1 a out before after others is well now core
polled_so old new image n _ out before after others s st _ is well now core = absurd is
