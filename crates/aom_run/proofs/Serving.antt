-- What is kept of natives fits the state that a part of a turn leads to.
use Rattle.std.proofs.lemmas.Bool.Decides.{nat_tests}
use Rattle.std.proofs.Common.{◌≡◌, ◌<◌, ◌≤◌, ℕ, suc, Bool, true, false, List, [], ◌∷◌, ◌++◌, Option, Some, None, refl, sym, ap, subst, ◌∙◌, length, inl}
use Rattle.std.proofs.Common.{inr, arith}
use Rattle.std.specs.Prelude.{IsSome, is_some, not, ◌&&◌, ◌||◌, ◌==◌}
use Rattle.std.proofs.lemmas.Bool.{cases_eq, eq-eqb, eqb-true, ne_eqb, true≢false}
use Rattle.std.proofs.lemmas.List.Folds.{list_any-append}
use Rattle.aom_run.proofs.NativesLemmas.{same-out}
use Rattle.aom_run.proofs.Named.{at_most_one, elsewhere, there, turned_false}
use Rattle.aom_image.specs.Image.{Image}
use Rattle.aom_run.proofs.DeterminismLemmas.{IsAbout, Tale, above, sessions_turned, reported, top}
use Rattle.aom_determinism.specs.Endings.{one_where}
use Rattle.aom_natives.specs.Owed.{TakesOut, times}
use Rattle.aom_natives.specs.Slots.{KeepsOthers, ids_at, ids_of, living_at}
use Rattle.aom_determinism.specs.Owed.{has_name, killed_turned, owes, owes_turned}
use Rattle.aom_semantics.specs.Natives.{is_dead}
use Rattle.aom_semantics.specs.Places.{named}
use Rattle.aom_semantics.specs.State.{Counters, State}
use Rattle.aom_semantics.specs.World.{AnswersWell, Completes, Completion, Cuts, Observes, Kills, Executes, Passes, Picks, Polls, Turning, Waits, cell_at, delivers}
use Rattle.aom_transcript.specs.declared.event.ClientCommand.{ClientCommand}
use Rattle.aom_transcript.specs.declared.event.Event.{Event}
use Rattle.aom_transcript.specs.declared.event.Event.TheVariants.{Client}
use Rattle.aom_machine_state.specs.LineBuffer.{LineBuffer}
use Rattle.aom_machine_state.specs.Stands.{MachineModel as Core, Refines as Core_stands}
use Rattle.aom_machine.specs.Clients.{Executed}
use Rattle.aom_machine.specs.Steps.{timers}
use Rattle.aom_machine.specs.Turns.{NoneDue, Completed as Core_completed, Picked as Core_picked, Takes as Core_takes, TakesAll as Core_takes_all}
use Rattle.aom_run.specs.declared.machine.HostedMachine.{HostedMachine}
use Rattle.aom_run.specs.Calls.{Completed, Delivered, IsDelivered, Picked, RefinesWithNatives, Takes, TakesAll}
use Rattle.aom_run.specs.Beside.{KeptSame, Serves}

-- a part of a turn that neither kills nor completes anything at a native
pub record IsPlain (s : State) (part : Turning) : Type 0 where
  pub owes : (n m : ℕ) (b : Bool) → owes_turned s.cells part n m b ≡ b
  pub killed : killed_turned part s.killed ≡ s.killed

module _ {L : Type 0} (kept : L → List ℕ) (p : Image) (s u : State) (slots : List (Option L)) (serves : Serves kept p s slots) where
  serves_plainly : (part : Turning) → IsPlain s part → Tale p s u part → Serves kept p u slots
  serves_plainly part plain tale = record {
    enough = serves.enough;
    lives = λ n within. serves.lives n within ∙ ap (λ l. not (is_dead l n)) (sym (tale.killed ∙ plain.killed));
    ids = λ n m. serves.ids n m ∙ ap one_where (sym (tale.owes n m ∙ plain.owes n m (owes p s.cells n m)));
    sessions = sessions_turned p s serves.sessions u part tale;
  }

module _ {L : Type 0} (kept : L → List ℕ) (old new : List (Option L)) where
  -- so where one native lives on with the same, and nothing else is touched
  pub kept_but : (n : ℕ) → IsSome (living_at old n) → IsSome (living_at new n) → ids_at kept new n ≡ ids_at kept old n →
      KeepsOthers old new n → KeptSame kept old new
  kept_but n before after same others = search (arith, nat_tests, cases_eq)

  pub serves_same : (p : Image) (s : State) → Serves kept p s old → KeptSame kept old new → Serves kept p s new
  serves_same p s serves same = search (arith, nat_tests)

  -- ---- a native is killed

  pub serves_killed : (p : Image) (s u : State) (n : ℕ) → Serves kept p s old → Tale p s u (Kills n) → living_at new n ≡ None →
      KeepsOthers old new n → Serves kept p u new
  serves_killed p s u n serves tale dead others = record {
    enough = (let enough = serves.enough in let count = others.count in omega (arith, enough, count));
    lives = λ k within. elim (cases_eq k n) [
      | inl e ↦ subst (λ x. is_some (living_at new x) ≡ not (is_dead u.killed x)) (sym e)
          (ap is_some dead ∙ ap not (sym (ap (λ l. is_dead l n) tale.killed ∙ killed_there _ n n (eq-eqb n n refl))))
      | inr apart ↦ ap is_some (others.others k apart) ∙ serves.lives k (let count = others.count in omega (arith, within, count))
          ∙ ap not (sym (ap (λ l. is_dead l k) tale.killed ∙ killed_else _ n k (ne_eqb n k (λ e. apart (sym e)))))
    ];
    ids = grind (arith, nat_tests, cases_eq, owes, eq-eqb, ne_eqb);
    sessions = sessions_turned p s serves.sessions u (Kills n) tale;
  }
    where
      killed_there : (killed : List ℕ) (n k : ℕ) → (n == k) ≡ true → is_dead (killed ++ n ∷ []) k ≡ true
      killed_there killed n k e = list_any-append (λ j. j == k) killed (n ∷ []) ∙ ap (λ b. is_dead killed k || (b || false)) e ∙ or_true (is_dead killed k)
        where
          or_true : (b : Bool) → (b || true) ≡ true
          or_true x = grind (arith, nat_tests)

      killed_else : (killed : List ℕ) (n k : ℕ) → (n == k) ≡ false → is_dead (killed ++ n ∷ []) k ≡ is_dead killed k
      killed_else killed n k e = list_any-append (λ j. j == k) killed (n ∷ []) ∙ ap (λ b. is_dead killed k || (b || false)) e ∙ or_false (is_dead killed k)
        where
          or_false : (b : Bool) → (b || false) ≡ b
          or_false x = grind (arith, nat_tests)

  -- ---- a native completes a request

  pub serves_completed : (p : Image) (s u : State) (n id : ℕ) (a : Completion) → Serves kept p s old →
      Tale p s u (Polls n (Some a)) → ((m : ℕ) → has_name (cell_at s.cells a.cell) m ≡ (id == m)) →
      TakesOut id (ids_at kept old n) (ids_at kept new n) → IsSome (living_at old n) → IsSome (living_at new n) → KeepsOthers old new n → Serves kept p u new
  serves_completed p s u n id a serves tale named out before after others = record {
    enough = (let enough = serves.enough in let count = others.count in omega (arith, enough, count));
    lives = grind (arith, nat_tests, cases_eq);
    ids = λ k m. elim (cases_eq k n) [
      | inl e ↦ subst (λ x. times m (ids_at kept new x) ≡ one_where (owes p u.cells x m)) (sym e) (left_here m)
      | inr apart ↦ ap (λ o. times m (ids_of kept o)) (others.others k apart) ∙ serves.ids k m ∙ ap one_where (grind (arith, ne_eqb))
    ];
    sessions = sessions_turned p s serves.sessions u (Polls n (Some a)) tale;
  }
    where
      taken : (m : ℕ) → times m (id ∷ ids_at kept new n) ≡ one_where (owes p s.cells n m)
      taken m = sym ((same-out id (ids_at kept old n) (ids_at kept new n) out).at m) ∙ serves.ids n m

      left : (m : ℕ) (b owed : Bool) → (id == m) ≡ b → times m (id ∷ ids_at kept new n) ≡ one_where owed → times m (ids_at kept new n) ≡ one_where (not b && owed)
      left m true owed e is = let one : times m (id ∷ ids_at kept new n) ≡ suc (times m (ids_at kept new n)) =
          subst (λ y. times y (id ∷ ids_at kept new n) ≡ suc (times y (ids_at kept new n))) (eqb-true id m e) (there (ids_at kept new n) id) in
          let few = at_most_one owed in
          omega (arith, one, is, few)
      left m false owed e is = sym (elsewhere (ids_at kept new n) id m (turned_false id m e)) ∙ is

      left_here : (m : ℕ) → times m (ids_at kept new n) ≡ one_where (owes p u.cells n m)
      left_here m = grind (arith, nat_tests, left m (id == m) (owes p s.cells n m), owes p s.cells n m, taken m, eq-eqb n n)

module _ {X : Type 0} {B : X → Type 0} (old new : HostedMachine X B) (s : State) (st : RefinesWithNatives old s) where
  -- what the core takes of a turn the whole takes, where what is kept of natives fits the state after it
  pub takes_so : (part : Turning) → length new.natives.slots.items ≡ length old.natives.slots.items →
      new.core.image ≡ old.core.image → (before now : LineBuffer) → (core : Core_takes old.core s part before now new.core) →
      Serves (λ l. l.ids) old.core.image core.state new.natives.slots.items → Takes old s part before now new
  takes_so part count image before now core serves = record {
    between = core.between;
    state = core.state;
    goes = core.goes;
    lines = core.lines;
    stands = record {
      stands = core.stands;
      serves = subst (λ q. Serves (λ l. l.ids) q core.state new.natives.slots.items) (sym image) serves;
      countable = subst (λ k. k < 18446744073709551616) (sym count) st.countable;
    };
  }

  pub tale_of : (part : Turning) → IsAbout s part → AnswersWell old.core.image s part →
      (before now : LineBuffer) → (core : Core_takes old.core s part before now new.core) → Tale old.core.image s core.state part
  tale_of part about well before now core = reported old.core.image st.stands.typing s core.state st.stands.typed part st.stands.kept.fit about well core.goes

  -- so where natives are as they were, but for calls that change nothing outstanding
  pub takes_plainly : (part : Turning) → IsPlain s part → IsAbout s part →
      AnswersWell old.core.image s part → KeptSame (λ l. l.ids) old.natives.slots.items new.natives.slots.items → new.core.image ≡ old.core.image →
      (before now : LineBuffer) → Core_takes old.core s part before now new.core → Takes old s part before now new
  takes_plainly part plain about well same image before now core = takes_so part same.count image before now core
      (serves_plainly (λ l. l.ids) _ s core.state _ (serves_same (λ l. l.ids) _ _ _ s st.serves same) part plain (tale_of part about well before now core))

-- an event that changes nothing leaves no timer due
pub none_due_still : (old new : Core) (k : ℕ) → new.parts.rest ≡ record old.parts.rest { delivered = k } → ((s : State) → Core_stands new s →
    Core_stands old (record s { rest = old.parts.rest })) → ((s : State) → Core_stands old s → NoneDue s) → (s : State) → Core_stands new s → NoneDue s
none_due_still old new k rest back none s st x e =
    let same : s.rest.clock ≡ old.parts.rest.clock = sym (ap (λ (r : Counters). r.clock) st.agrees.rest) ∙ ap (λ (r : Counters). r.clock) rest in
    subst (λ c. c < x.timer.due) (sym same) (none (record s { rest = old.parts.rest }) (back s st) x e)

pub observed_plain : (s : State) → IsPlain s Observes
observed_plain s = record { owes = λ n m b. refl; killed = refl }

-- where nothing is sent any free name will do
pub with_any_name : (s : State) (P : ℕ → Type 0) → ((name : ℕ) → P name) → (name : ℕ) × (named s.cells name ≡ None) × P name
with_any_name s P for_all = (top s.cells, above s.cells (top s.cells) (omega arith), for_all (top s.cells))

-- an event for one native leaves the others as they were
pub unreported_but : {L : Type 0} (old new : List (Option L)) (n : ℕ) → KeepsOthers old new n → (k : ℕ) → (n == k) ≡ false → living_at new k ≡ living_at old k
unreported_but old new n others k apart = others.others k (λ same. true≢false (sym (eq-eqb n k (sym same)) ∙ apart))

-- the same natives
pub untouched : {L : Type 0} (kept : L → List ℕ) (slots : List (Option L)) → KeptSame kept slots slots
untouched kept slots = record { count = refl; living = λ k. refl; ids = λ k. refl }

module _ {X : Type 0} {B : X → Type 0} (old : HostedMachine X B) (core : Core) (image : core.image ≡ old.core.image) where
  plainly : (part : Turning) (s : State) → RefinesWithNatives old s → IsPlain s part → IsAbout s part → AnswersWell old.core.image s part →
      (before now : LineBuffer) → Core_takes old.core s part before now core → Takes old s part before now (record { core = core; natives = old.natives })
  plainly part s st plain about well before now taken = search (arith, nat_tests, takes_plainly old, untouched)

  pub cut_so : Core_takes_all old.core Cuts core → TakesAll old Cuts (record { core = core; natives = old.natives })
  cut_so all now s st = plainly Cuts s st (record { owes = λ n m b. refl; killed = refl }) tt tt now now (all now s st.stands)

  pub waited_so : Core_takes_all old.core Waits core → TakesAll old Waits (record { core = core; natives = old.natives })
  waited_so all now s st = plainly Waits s st (record { owes = λ n m b. refl; killed = refl }) tt tt now now (all now s st.stands)

  pub passed_so : (time : ℕ) → Core_takes_all old.core (Passes time) core → TakesAll old (Passes time) (record { core = core; natives = old.natives })
  passed_so time all now s st = plainly (Passes time) s st (record { owes = λ n m b. refl; killed = refl }) tt tt now now (all now s st.stands)

  pub completed_so : (b : Bool) → Core_completed old.core b core → Completed old b (record { core = core; natives = old.natives })
  completed_so true done = λ now s st.
      let d = done now s st.stands in
      (d.0, d.1, d.2, plainly (Completes d.0.object) s st (record { owes = λ n m b. refl; killed = refl }) (d.0, d.1, refl) tt now now d.3)
  completed_so false done = (ap (λ (c : Core). record { core = c; natives = old.natives }) done.0, done.1)

  -- what a client is told it does, if it is one
  pub executed_so : (client : ℕ) (command : ClientCommand) (before now : LineBuffer) → client < 64 → ((s : State) → Core_stands old.core s →
      Executed old.core s client command before now core) → Delivered old (Client client command) before now (record { core = core; natives = old.natives })
  executed_so client command before now less done = λ outside same s st.
      let d = done s st.stands in (
        d.0,
        d.1,
        subst (λ part. Takes old s part before now (record { core = core; natives = old.natives })) (grind arith)
            (plainly (Executes client command d.0) s st (record { owes = λ n m b. refl; killed = refl }) d.1 tt before now d.2),
      )

  pub executed_none : (client : ℕ) (command : ClientCommand) → 64 ≤ client →
      Core_takes_all old.core Observes core → (now : LineBuffer) → Delivered old (Client client command) now now (record { core = core; natives = old.natives })
  executed_none client command past all now = λ outside same s st.
      with_any_name s (λ name. Takes old s (delivers outside name s (Client client command)) now now (record { core = core; natives = old.natives })) (λ name.
      subst (λ part. Takes old s part now now (record { core = core; natives = old.natives })) (grind arith)
      (plainly Observes s st (observed_plain s) tt tt now now (all now s st.stands)))

  pub picked_so : (b : Bool) (before now : LineBuffer) → Core_picked old.core b before now core →
      Picked old b before now (record { core = core; natives = old.natives })
  picked_so true before now done = λ s st.
      let d = done s st.stands in
      (d.0, d.1, d.2, plainly (Picks d.0.owned_object) s st (record { owes = λ n m b. refl; killed = refl }) (d.0, d.1, refl) tt before now d.3)
  picked_so false before now done = (ap (λ (c : Core). record { core = c; natives = old.natives }) done.0, done.1, λ s st. done.2 s st.stands)

  -- an event that changes nothing writes no line
  pub observed_only : (event : Event) (now : LineBuffer) → Delivered old event now now (record { core = core; natives = old.natives }) → core.parts.rest
      ≡ record old.core.parts.rest { delivered = suc old.core.parts.rest.delivered } → ((s : State) → Core_stands core s → Core_stands old.core (record s
      { rest = old.core.parts.rest })) → timers core ≡ timers old.core → IsDelivered old event false now now (record { core = core; natives = old.natives })
  observed_only event now delivered rest back same = record {
    image = image;
    natives = record { count = refl; at = λ k apart. refl };
    delivered = delivered;
    rest = rest;
    timers = same;
    reported = omega arith;
    quiet = λ e. refl;
    none_due = λ e. none_due_still old.core core _ rest back;
  }
