-- What a step asks fits the natives, and what is kept of them after the call and the step fits the state.
use Rattle.std.proofs.lemmas.Bool.Decides.{nat_tests}
use Rattle.std.proofs.Common.{◌≡◌, ◌≢◌, ◌<◌, ◌≤◌, ℤ, ℕ, zero, suc, Bool, true, false, cond, List, [], ◌∷◌, Option, Some, refl, sym, ap, ◌∙◌, length}
use Rattle.std.proofs.Common.{arith, slice_index_or}
use Rattle.std.specs.Prelude.{not, IsSome, ◌&&◌, ◌||◌, pred}
use Rattle.std.proofs.lemmas.Bool.{true≢false}
use Rattle.aom_image.specs.Image.{Image}
use Rattle.aom_image.specs.WellFormed.{WellFormed}
use Rattle.aom_image.specs.declared.method.Thing.{Thing}
use Rattle.aom_typing_rules.specs.Typing.{Typing}
use Rattle.aom_determinism.specs.Endings.{one_where}
use Rattle.aom_natives.specs.Owed.{IsNew, IsOwed, times}
use Rattle.aom_natives.specs.Slots.{ids_at, living_at}
use Rattle.aom_determinism.specs.Owed.{Finds, FindsWell, is_for, meets, owes, owes_after, serves, serves_object}
use Rattle.aom_run.proofs.DeterminismLemmas.{for_one}
use Rattle.aom_semantics.specs.Natives.{is_dead, is_served_by}
use Rattle.aom_semantics.specs.Places.{Object, named}
use Rattle.aom_semantics.specs.State.{State}
use Rattle.aom_semantics.specs.NativeCall.{NativeCall}
use Rattle.aom_machine_state.specs.Stands.{MachineModel as Core, Refines as Core_stands}
use Rattle.aom_run.specs.Answers.{Asked, KeepsUnasked, MayAsk, times_after}
use Rattle.aom_run.specs.Beside.{KeepsUnnamed, Serves}
use Rattle.aom_run.proofs.Moving.{Went}
use Rattle.aom_run.proofs.Named.{at_most_one, few, serving_named}

-- a cell with a session open has a number below 4,096
in_range : (flags : List Bool) (n : ℕ) → slice_index_or flags n false ≡ true → n < length flags
in_range [] n open_there = absurd (true≢false (sym open_there))
in_range (b ∷ flags) zero open_there = omega arith
in_range (b ∷ flags) (suc n) open_there = let rest = in_range flags n open_there in omega (arith, rest)

pub session_small : (m : Core) (s : State) → Core_stands m s → (n x : ℕ) → meets m.image s.cells n x ≡ true → x < 4096
session_small m s st n x e = grind (arith, nat_tests, in_range)

one_true : (b : Bool) → b ≡ true → one_where b ≡ 1
one_true b e = ap one_where e

one_false : (b : Bool) → b ≡ false → one_where b ≡ 0
one_false b e = ap one_where e

pub one_there : (b : Bool) → 0 < one_where b → b ≡ true
one_there x some = grind arith

module _ {L : Type 0} (kept : L → List ℕ) (p : Image) (s : State)
    (slots : List (Option L)) (keeps : Serves kept p s slots) (formed : WellFormed p) (small : (n x : ℕ) → meets p s.cells n x ≡ true → x < 4096) where
  lives_there : (n x : ℕ) (session outstanding : Bool) → Finds p s n x session outstanding → IsSome (living_at slots n)
  lives_there n x session outstanding finds = grind (arith, nat_tests, serving_named p formed s.cells n x finds.serves)

  new_there : (n x : ℕ) (session : Bool) → Finds p s n x session false → IsNew (ids_at kept slots n) x
  new_there n x session finds = keeps.ids n x ∙ one_false _ finds.owes

  owed_there : (n x : ℕ) → Finds p s n x true true → IsOwed (ids_at kept slots n) x
  owed_there n x finds = let one = keeps.ids n x ∙ one_true _ finds.owes in omega (arith, one)

  few_there : (n x : ℕ) → Finds p s n x true false → length (ids_at kept slots n) < 4096
  few_there n x finds = few (ids_at kept slots n) x 4096 once all_small (new_there n x true finds) (small n x finds.meets)
    where
      once : (m : ℕ) → times m (ids_at kept slots n) ≤ 1
      once m = let is = keeps.ids n m in let one = at_most_one (owes p s.cells n m) in omega (arith, is, one)

      all_small : (m : ℕ) → 0 < times m (ids_at kept slots n) → m < 4096
      all_small m some = small n m (keeps.sessions.met n m (one_there (owes p s.cells n m) (let is = keeps.ids n m in omega (arith, is, some))))

  -- what is found well may be asked
  pub may_ask : (w : NativeCall) → FindsWell p s (Some w) → MayAsk kept slots w
  may_ask y finds = grind (arith, nat_tests, lives_there, new_there, few_there, owed_there)

  -- ---- after the call, and the step

  begun : (n x k m : ℕ) (taken : Bool) → Finds p s n x true false → cond (taken && is_for n x k m)
      (suc (one_where (owes p s.cells k m))) (one_where (owes p s.cells k m)) ≡ one_where ((taken && is_for n x k m) || owes p s.cells k m)
  begun n x k m taken finds = grind (arith, nat_tests, for_one n x k m)

  ended : (n x k m : ℕ) → cond (is_for n x k m) (pred (one_where (owes p s.cells k m))) (one_where (owes p s.cells k m))
      ≡ one_where (not (is_for n x k m) && owes p s.cells k m)
  ended n x k m = grind (arith, nat_tests)

  counted_after : (asked : Option NativeCall) (answer : ℤ) → FindsWell p s asked →
      (k m : ℕ) → times_after asked answer k m (one_where (owes p s.cells k m)) ≡ one_where (owes_after asked answer k m (owes p s.cells k m))
  counted_after y answer finds k m = grind (arith, nat_tests, begun, ended)

  -- what is kept after a call is what the state has outstanding that the step which asked it leads to
  pub serves_after : (t : Typing) (asked : Option NativeCall) (answer : ℤ) (new : List (Option L)) (u : State) →
      FindsWell p s asked → Asked kept slots asked answer new → Went p t s asked answer u → Serves kept p u new
  serves_after t asked answer new u finds call went = record {
    enough = (let enough = keeps.enough in let count = call.count in omega (arith, enough, count));
    lives = λ n within. call.living n ∙ keeps.lives n (let count = call.count in omega (arith, within, count)) ∙ ap (λ l. not (is_dead l n)) (sym went.killed);
    ids = λ n m. call.times n m ∙ ap (times_after asked answer n m) (keeps.ids n m) ∙ counted_after asked answer finds n m ∙ ap one_where (sym (went.owes n m));
    sessions = went.sessions;
  }

-- ---- natives that serve no class

module _ {L : Type 0} (p : Image) (s : State) (old new : List (Option L)) where
  -- what serves a cell serves a class
  is_another : (n x k : ℕ) → serves p s.cells n x ≡ true → ((t : Thing) → is_served_by p k t ≡ false) → k ≢ n
  is_another n x k e none same = go (named s.cells x) e
    where
      go : (o : Option Object) → serves_object p n o ≡ true → ⊥
      go y z = grind arith

  -- one that serves none is asked nothing
  pub keeps_unnamed : (asked : Option NativeCall) → FindsWell p s asked → KeepsUnasked old asked new → KeepsUnnamed p old new
  keeps_unnamed asked finds keeps = search (arith, nat_tests, is_another)

pub unnamed_all : {L : Type 0} (p : Image) (slots : List (Option L)) → KeepsUnnamed p slots slots
unnamed_all p slots = record { at = λ k none. refl }

pub unnamed_on : {L : Type 0} {p : Image} {old mid new : List (Option L)} → KeepsUnnamed p old mid → KeepsUnnamed p mid new → KeepsUnnamed p old new
unnamed_on was then = record { at = λ k none. then.at k none ∙ was.at k none }
