-- As cells change no connect is lost, and no session's place changes: by the queues that stay, and by what moves and goes.
use Rattle.std.proofs.lemmas.Bool.Decides.{nat_tests}
use Rattle.std.proofs.Common.{arith, Bool, List, None, Option, Some, [], ap, false, refl, suc, sym, true, ℕ, ℤ, ◌==◌, ◌∙◌, ◌∷◌, ◌≡◌}
use Rattle.std.proofs.lemmas.Bool.{eqb-true}
use Rattle.std.specs.List.{list_any}
use Rattle.std.specs.Prelude.{◌||◌}
use Rattle.aom_image.specs.Image.{Image}
use Rattle.aom_image.specs.declared.method.Argument.{Argument}
use Rattle.aom_image.specs.declared.method.Argument.TheVariants.{Own as Takes_own, Word as Takes_word}
use Rattle.aom_image.specs.declared.method.Gives.{Gives}
use Rattle.aom_clients.specs.declared.client.Client.{Client}
use Rattle.aom_determinism.proofs.SafetyLemmas.{IsSteady, SameAtName, Steady, Went, dropped, each_name, each_slot_released_alike, ended_alike, held_dropped}
use Rattle.aom_determinism.proofs.SafetyLemmas.{held_elsewhere, held_served, held_set_word, request_updated_alike, session_updated_alike, service_here, service_moved}
use Rattle.aom_determinism.proofs.SafetyLemmas.{service_there, service_unnamed, steady_ended, steady_passed, steady_result, steady_update}
use Rattle.aom_determinism.proofs.SemanticsLemmas.{named_name}
use Rattle.aom_semantics.specs.Calls.{passed_cells, result_cells}
use Rattle.aom_semantics.specs.Clients.{each_slot_released}
use Rattle.aom_semantics.specs.Effects.{Spot, Update, cells_after, spot_place}
use Rattle.aom_semantics.specs.Requests.{ended_cells}
use Rattle.aom_safety.specs.Kept.{is_connect_of}
use Rattle.aom_semantics.specs.Places.{Cell, Elsewhere, Object, Place, Service, Session, NoDuplicates, held, moved, named, same_place, service_of}
use Rattle.aom_semantics.specs.Servers.{reserved}
use Rattle.aom_semantics.specs.State.{Dispatch, Frame, Receiver, State, Task, field_place}
use Rattle.aom_semantics.specs.Words.{stored}
use Rattle.aom_determinism.specs.There.{AreThere, IsAtPlace, accepts, waits}

pub record UnchangedCalls (cs cs' : List Cell) : Type 0 where
  pub connects : (n c : ℕ) → waits cs n c ≡ true → waits cs' n c ≡ true
  pub places : (n c : ℕ) → held cs' (Elsewhere (Session n c)) ≡ held cs (Elsewhere (Session n c))

pub unchanged_calls_itself : (cs : List Cell) → UnchangedCalls cs cs
unchanged_calls_itself cs = record { connects = λ n c h. h; places = λ n c. refl }

pub unchanged_calls_along : (cs us vs : List Cell) → UnchangedCalls cs us → UnchangedCalls us vs → UnchangedCalls cs vs
unchanged_calls_along cs us vs a b = record { connects = λ n c h. b.connects n c (a.connects n c h); places = λ n c. b.places n c ∙ a.places n c }

pub unchanged_calls_steady : (cs cs' : List Cell) → Steady cs cs' → ((n c : ℕ) → held cs' (Elsewhere (Session n c)) ≡ held cs (Elsewhere (Session n c))) → UnchangedCalls cs cs'
unchanged_calls_steady cs cs' still places = record { connects = λ n c h. ap (λ q. list_any (is_connect_of c) q) (still.queues n) ∙ h; places = places }

-- ---- what is there stays there

-- one of two, where the first stays
pub still_either : (a a' b : Bool) → (a || b) ≡ true → (a ≡ true → a' ≡ true) → (a' || b) ≡ true
still_either x a' b h keeps = grind arith

there_unchanged_calls : (clients : List Client) (cs cs' : List Cell) (d : Option Dispatch) → UnchangedCalls cs cs' → AreThere clients cs d → AreThere clients cs' d
there_unchanged_calls clients cs cs' d unchanged_calls there =
    record { asked = λ n c e. still_either (waits cs n c) (waits cs' n c) (accepts n c d) (there.asked n c e) (unchanged_calls.connects n c); serves = at d there.serves }
  where
    at : (d : Option Dispatch) → IsAtPlace cs d → IsAtPlace cs' d
    at x h = grind arith

-- in another state with those clients, where the same dispatch stands below all
pub there_by : (clients : List Client) (cs : List Cell) (d : Option Dispatch) (clients' : List Client) (cs' : List Cell) (d' : Option Dispatch) →
    clients' ≡ clients → UnchangedCalls cs cs' → d' ≡ d → AreThere clients cs d → AreThere clients' cs' d'
there_by clients cs d clients' cs' d' same unchanged_calls below there = grind (arith, nat_tests, there_unchanged_calls clients cs cs' d unchanged_calls there)

-- ---- cells that move

abbrev pub NoSession : Place → Type 0
NoSession q = (n c : ℕ) → same_place q (Elsewhere (Session n c)) ≡ false

place_moved : (cs : List Cell) (a b : Place) → NoSession a → NoSession b → (n c : ℕ) →
    held (moved a b cs) (Elsewhere (Session n c)) ≡ held cs (Elsewhere (Session n c))
place_moved cs a b from to n c = grind (arith, nat_tests, held_elsewhere cs a b (Elsewhere (Session n c)) (to n c))

pub unchanged_calls_moved : (cs : List Cell) (a b : Place) → NoSession a → NoSession b → UnchangedCalls cs (moved a b cs)
unchanged_calls_moved cs a b from to = record { connects = grind (arith, nat_tests, service_moved); places = place_moved cs a b from to }

module _ (p : Image) (fr : Frame) (ts : List Task) (s : State) where
  field_alone : (receiver : Receiver) (f : ℕ) → NoSession (field_place receiver f)
  field_alone receiver f n c = grind arith

  spot_alone : (spot : Spot) → NoSession (spot_place p fr ts s spot)
  spot_alone x n c = grind (arith, nat_tests, field_alone fr.receiver)

  place_stored : (receiver : Receiver) (w : ℕ) (v : ℤ) (q : Place) → held (stored s.cells receiver w v) q ≡ held s.cells q
  place_stored receiver w v q = grind (arith, held_set_word)

  pub unchanged_calls_update : (u : Update) → IsSteady fr s u → UnchangedCalls s.cells (cells_after p fr ts s u)
  unchanged_calls_update x f = grind (
    arith,
    nat_tests,
    unchanged_calls_moved s.cells,
    spot_alone,
    unchanged_calls_steady s.cells,
    steady_update p fr ts s,
    place_stored fr.receiver,
    request_updated_alike s.cells fr.receiver,
    session_updated_alike s.cells fr.receiver,
    place_moved s.cells,
    unchanged_calls_itself s.cells,
  )

  place_passed : (depth : ℕ) (xs : List Argument) (first to : ℕ) (cs : List Cell) (n c : ℕ) →
      held (passed_cells p fr ts s depth xs first to cs) (Elsewhere (Session n c)) ≡ held cs (Elsewhere (Session n c))
  place_passed depth [] first to cs n c = refl
  place_passed depth (Takes_word ∷ xs) first to cs n c = place_passed depth xs (suc first) (suc to) cs n c
  place_passed depth (Takes_own t ∷ xs) first to cs n c = grind (arith, nat_tests, place_passed depth xs, place_moved cs)

  pub unchanged_calls_passed : (depth : ℕ) (xs : List Argument) (first to : ℕ) (cs : List Cell) → UnchangedCalls cs (passed_cells p fr ts s depth xs first to cs)
  unchanged_calls_passed depth xs first to cs = unchanged_calls_steady cs _ (steady_passed p fr ts s depth xs first to cs) (place_passed depth xs first to cs)

  place_result : (g : Gives) (a b : ℕ) (below : List Task) (n c : ℕ) →
      held (result_cells p fr ts s g a b below) (Elsewhere (Session n c)) ≡ held s.cells (Elsewhere (Session n c))
  place_result x a b below n c = grind (arith, nat_tests, place_moved s.cells)

  pub unchanged_calls_result : (g : Gives) (a b : ℕ) (below : List Task) → UnchangedCalls s.cells (result_cells p fr ts s g a b below)
  unchanged_calls_result g a b below = unchanged_calls_steady s.cells _ (steady_result p fr ts s g a b below) (place_result g a b below)

pub unchanged_calls_ended : (p : Image) (fr : Frame) (cs : List Cell) → UnchangedCalls cs (ended_cells p fr cs)
unchanged_calls_ended p fr cs = unchanged_calls_steady cs _ (steady_ended p fr cs) (λ n c. (ended_alike p fr cs).held_so (Elsewhere (Session n c)))

-- ---- what clients have at a server changes, and its connects stay

module _ (f : Service → Service) (keeps : (v : Service) (c : ℕ) → list_any (is_connect_of c) v.queue ≡ true → list_any (is_connect_of c) (f v).queue ≡ true)
    (cs : List Cell) (m : ℕ) where
  connects_reserved : (n c : ℕ) → waits cs n c ≡ true → waits (reserved f m cs) n c ≡ true
  connects_reserved n c h = go (m == n) refl
    where
      there : m ≡ n → (o : Option Object) → named cs m ≡ o → waits (reserved f m cs) n c ≡ true
      there same None e = absurd (grind (arith, nat_tests, service_unnamed))
      there same (Some o) e = ap (λ k. waits (reserved f m cs) k c) (sym same) ∙ ap (λ v. list_any (is_connect_of c) v.queue)
          (service_here cs m (f (service_of cs m)) o e) ∙ keeps (service_of cs m) c (ap (λ k. waits cs k c) same ∙ h)

      go : (b : Bool) → (m == n) ≡ b → waits (reserved f m cs) n c ≡ true
      go true e = there (eqb-true m n e) (named cs m) refl
      go false e = ap (λ v. list_any (is_connect_of c) v.queue) (service_there cs m n (f (service_of cs m)) e) ∙ h

  pub unchanged_calls_reserved : UnchangedCalls cs (reserved f m cs)
  unchanged_calls_reserved = record { connects = connects_reserved; places = λ n c. held_served cs m (f (service_of cs m)) (Elsewhere (Session n c)) }

pub unchanged_calls_slot_released : (xs : List ℕ) (cs : List Cell) → UnchangedCalls cs (each_slot_released xs cs)
unchanged_calls_slot_released xs cs = record {
  connects = λ n c h. ap (λ q. list_any (is_connect_of c) q) ((each_slot_released_alike xs cs).queues_so n) ∙ h;
  places = λ n c. (each_slot_released_alike xs cs).held_so (Elsewhere (Session n c));
}

-- ---- cells go, of which none has a connect

module _ (gone : Place → Bool) (cs : List Cell) (no_duplicates : NoDuplicates cs) where
  pub connects_dropped : (n c : ℕ) → ((q : Place) (o : Object) → gone q ≡ true → held cs q ≡ Some o → o.name ≡ n → (service_of cs n).queue ≡ []) →
      waits cs n c ≡ true → waits (dropped gone cs) n c ≡ true
  connects_dropped n c empty h = grind (arith, nat_tests, each_name gone cs no_duplicates n, SameAtName gone cs n, dropped gone cs, Went gone cs n, named_name cs n)

  pub places_dropped : ((n c : ℕ) → gone (Elsewhere (Session n c)) ≡ false) → (n c : ℕ) →
      held (dropped gone cs) (Elsewhere (Session n c)) ≡ held cs (Elsewhere (Session n c))
  places_dropped stays n c = grind (arith, nat_tests, held_dropped gone cs (Elsewhere (Session n c)))
