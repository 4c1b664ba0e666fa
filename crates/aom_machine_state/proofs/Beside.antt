-- Where messages come and go, and queues change, the cells and requests, the natives' sessions and the lists of servers stay: by the cells one after another.
use Rattle.std.proofs.lemmas.Bool.Decides.{nat_tests}
use Rattle.std.proofs.Common.{Bool, List, None, Option, Some, [], ap, arith, cond, false, inl, inr}
use Rattle.std.proofs.Common.{refl, suc, sym, true, ℕ, pos, ◌<◌, ◌==◌, ◌≤◌, ◌∙◌, ◌∷◌, ◌≡◌, ◌⊎◌}
use Rattle.std.specs.Prelude.{is_some}
use Rattle.std.proofs.lemmas.Bool.{eqb-true, false≢true, ne_eqb}
use Rattle.std.proofs.lemmas.List.{get_or_past}
use Rattle.aom_active_objects.specs.Agrees.{Active}
use Rattle.aom_cells.specs.Heap.{Heap}
use Rattle.aom_image.specs.Image.{Image}
use Rattle.aom_image.specs.declared.method.Thing.TheVariants.{Message}
use Rattle.aom_roles.specs.Things.{is_object}
use Rattle.aom_clients.specs.Lists.{Table}
use Rattle.aom_cells.specs.Sessions.{Standing, is_open}
use Rattle.aom_roles.specs.Tables.{at}
use Rattle.aom_machine_state.proofs.SafetyLemmas.{cell_in, cell_in_filtered_cells, cell_lives, cell_of, cell_of_filtered_cells, cell_owner, held_cell, kept as left_cell}
use Rattle.aom_machine_state.proofs.SafetyLemmas.{named_cell, named_served, object_in, request_in, requested_cell, requested_served, requested_unnamed, filtered_cells}
use Rattle.aom_semantics.specs.Places.{Cell, Place, Service, NoDuplicates, count_cells, held, in_session, named, requested, service_of, set_service, word_field}
use Rattle.aom_semantics.specs.Servers.{is_queue}
use Rattle.aom_machine_state.proofs.Asking.{requests_as}
use Rattle.aom_machine_state.proofs.Cells.{cells_as}
use Rattle.aom_machine_state.proofs.Forgetting.{words_cell, words_in}
use Rattle.aom_machine_state.proofs.Listing.{listed_same}
use Rattle.aom_machine_state.proofs.Reclaiming.{AllCells, each_cell}
use Rattle.aom_machine_state.specs.Agrees.{SameCells, SameNatives, SameRequests, thing_of}
use Rattle.aom_machine_state.specs.Listing.{SameListed}

-- at a name there is the same, or a message came or went, which is not enlisted
abbrev pub NamedBeside : List Cell → List Cell → ℕ → Type 0
NamedBeside cs ds n = (named ds n ≡ named cs n) ⊎ ((thing_of (named ds n) ≡ None) × (thing_of (named cs n) ≡ None) × (requested cs n ≡ None))

pub record Beside (cs ds : List Cell) : Type 0 where
  pub names : (n : ℕ) → NamedBeside cs ds n
  pub requests : (n : ℕ) → requested ds n ≡ requested cs n
  pub words : (n w : ℕ) → n < 4096 → word_field ds n w ≡ word_field cs n w
  pub count : count_cells ds ≡ count_cells cs
  -- no number past those of cells has a session with a native
  pub sessions : (n : ℕ) → (in_session ds n ≡ in_session cs n) ⊎ ((in_session ds n ≡ false) × (4096 ≤ n))

pub beside_itself : (cs : List Cell) → Beside cs cs
beside_itself cs = record { names = λ n. inl refl; requests = λ n. refl; words = λ n w small. refl; count = refl; sessions = λ n. inl refl }

-- one change after another
pub beside_then : (cs ds es : List Cell) → Beside cs ds → Beside ds es → Beside cs es
beside_then cs ds es a b = record {
  names = λ n. names n (a.names n) (b.names n);
  requests = λ n. b.requests n ∙ a.requests n;
  words = λ n w small. b.words n w small ∙ a.words n w small;
  count = b.count ∙ a.count;
  sessions = λ n. sessions n (a.sessions n) (b.sessions n);
}
  where
    names : (n : ℕ) → NamedBeside cs ds n → NamedBeside ds es n → NamedBeside cs es n
    names n x y = grind arith

    sessions : (n : ℕ) → (in_session ds n ≡ in_session cs n) ⊎ ((in_session ds n ≡ false) × (4096 ≤ n)) → (in_session es n ≡ in_session ds n) ⊎
        ((in_session es n ≡ false) × (4096 ≤ n)) → (in_session es n ≡ in_session cs n) ⊎ ((in_session es n ≡ false) × (4096 ≤ n))
    sessions n x y = grind arith

-- ---- what stands beside it

pub cells_beside : (p : Image) (h : Heap) (cs ds : List Cell) → Beside cs ds → SameCells p h cs → SameCells p h ds
cells_beside p h cs ds b = grind (arith, nat_tests, cells_as p h cs ds)

pub natives_beside : (p : Image) (w : Standing) (killed : List ℕ) (cs ds : List Cell) → p.header.cells ≤ 4096 → Beside cs ds → SameNatives p w cs killed →
    SameNatives p w ds killed
natives_beside p w killed cs ds few b same = record { sessions = λ n. sessions n (b.sessions n); dead = same.dead; limit = same.limit }
  where
    sessions : (n : ℕ) → (in_session ds n ≡ in_session cs n) ⊎ ((in_session ds n ≡ false) × (4096 ≤ n)) → is_open w n ≡ in_session ds n
    sessions n x = grind (arith, nat_tests, get_or_past w.flags n)

pub listed_beside : (p : Image) (t : Table) (cs ds : List Cell) → Beside cs ds → SameListed p t cs → SameListed p t ds
listed_beside p t cs ds b same = grind (arith, nat_tests, listed_same p t cs ds)

-- where the same waits at all that are enlisted
pub requests_beside : (p : Image) (a : Active) (cs ds : List Cell) →
    Beside cs ds → ((n : ℕ) → is_some (requested cs n) ≡ true → (service_of ds n).queue ≡ (service_of cs n).queue) → SameRequests p a cs → SameRequests p a ds
requests_beside p a cs ds b queues same = grind (arith, nat_tests, requests_as p a cs ds)

-- ---- what clients have at a cell changes

pub beside_served : (cs : List Cell) (n : ℕ) (v : Service) → Beside cs (set_service n v cs)
beside_served cs n v = record {
  names = λ k. inl (named_served cs n v k);
  requests = requested_served cs n v;
  words = λ k w small. words cs k w;
  count = counts cs;
  sessions = λ k. inl (sessions cs k);
}
  where
    words : (cs : List Cell) (k w : ℕ) → word_field (set_service n v cs) k w ≡ word_field cs k w
    words [] k w = refl
    words (c ∷ cs) k w = ap (λ x. cond (c.object.name == k) (at (pos 0) c.words w) x) (words cs k w)

    counts : (cs : List Cell) → count_cells (set_service n v cs) ≡ count_cells cs
    counts [] = refl
    counts (c ∷ cs) = ap (λ k. cond (is_object c.object.thing) (suc k) k) (counts cs)

    sessions : (cs : List Cell) (k : ℕ) → in_session (set_service n v cs) k ≡ in_session cs k
    sessions [] k = refl
    sessions (c ∷ cs) k = ap (λ x. cond (c.object.name == k) c.session x) (sessions cs k)

-- ---- messages go

abbrev session_in : Option Cell → Bool
session_in None = false
session_in (Some c) = c.session

module _ (drops : Cell → Bool) (f : Cell → Service) (cs : List Cell) (no_duplicates : NoDuplicates cs)
    (messages : (n : ℕ) (x : Cell) → cell_of cs n ≡ Some x → drops x ≡ true → (4096 ≤ n) × (is_object x.object.thing ≡ false) × (x.request ≡ None)) where
  abbrev ds : List Cell
  ds = filtered_cells drops f cs

  cell_then : (n : ℕ) → cell_of ds n ≡ left_cell drops f (cell_of cs n)
  cell_then n = cell_of_filtered_cells drops f cs n no_duplicates

  session_cell : (cs : List Cell) (n : ℕ) → in_session cs n ≡ session_in (cell_of cs n)
  session_cell [] n = refl
  session_cell (c ∷ cs) n = grind (arith, nat_tests, session_cell cs n, cell_of cs n)

  names_so : (n : ℕ) → NamedBeside cs ds n
  names_so n = go (cell_of cs n) refl
    where
      now : (x : Option Cell) → cell_of cs n ≡ x → named ds n ≡ object_in (left_cell drops f x)
      now x e = named_cell ds n ∙ ap object_in (cell_then n ∙ ap (left_cell drops f) e)

      was : (x : Option Cell) → cell_of cs n ≡ x → named cs n ≡ object_in x
      was x e = named_cell cs n ∙ ap object_in e

      at : (x : Cell) → cell_of cs n ≡ Some x → (b : Bool) → drops x ≡ b → NamedBeside cs ds n
      at x e false d = inl (now (Some x) e ∙ ap (λ b. object_in (cond b None (Some (record x { service = f x })))) d ∙ sym (was (Some x) e))
      at x e true d =
          let m = messages n x e d in
          inr (
            ap thing_of (now (Some x) e ∙ ap (λ b. object_in (cond b None (Some (record x { service = f x })))) d),
            ap thing_of (was (Some x) e) ∙ ap (λ b. cond b (Some x.object.thing) None) m.1,
            requested_cell cs n ∙ ap request_in e ∙ m.2,
          )

      go : (x : Option Cell) → cell_of cs n ≡ x → NamedBeside cs ds n
      go None e = inl (now None e ∙ sym (was None e))
      go (Some x) e = at x e (drops x) refl

  requests_so : (n : ℕ) → requested ds n ≡ requested cs n
  requests_so n = requested_cell ds n ∙ ap request_in (cell_then n) ∙ go (cell_of cs n) refl ∙ sym (requested_cell cs n)
    where
      go : (x : Option Cell) → cell_of cs n ≡ x → request_in (left_cell drops f x) ≡ request_in x
      go None e = refl
      go (Some x) e = by (drops x) refl
        where
          by : (b : Bool) → drops x ≡ b → request_in (cond b None (Some (record x { service = f x }))) ≡ x.request
          by true d = sym (messages n x e d).2
          by false d = refl

  words_so : (n w : ℕ) → n < 4096 → word_field ds n w ≡ word_field cs n w
  words_so n w small = words_cell ds n w ∙ ap (λ x. words_in x w) (cell_then n) ∙ go (cell_of cs n) refl ∙ sym (words_cell cs n w)
    where
      go : (x : Option Cell) → cell_of cs n ≡ x → words_in (left_cell drops f x) w ≡ words_in x w
      go None e = refl
      go (Some x) e = by (drops x) refl
        where
          by : (b : Bool) → drops x ≡ b → words_in (cond b None (Some (record x { service = f x }))) w ≡ words_in (Some x) w
          by true d = let large = (messages n x e d).0 in absurd (omega (arith, large, small))
          by false d = refl

  sessions_so : (n : ℕ) → (in_session ds n ≡ in_session cs n) ⊎ ((in_session ds n ≡ false) × (4096 ≤ n))
  sessions_so n = go (cell_of cs n) refl
    where
      now : (x : Option Cell) → cell_of cs n ≡ x → in_session ds n ≡ session_in (left_cell drops f x)
      now x e = session_cell ds n ∙ ap session_in (cell_then n ∙ ap (left_cell drops f) e)

      at : (x : Cell) → cell_of cs n ≡ Some x → (b : Bool) → drops x ≡ b → (in_session ds n ≡ in_session cs n) ⊎ ((in_session ds n ≡ false) × (4096 ≤ n))
      at x e false d = inl (now (Some x) e ∙ ap (λ b. session_in (cond b None (Some (record x { service = f x })))) d ∙ sym (session_cell cs n ∙ ap session_in e))
      at x e true d = inr (now (Some x) e ∙ ap (λ b. session_in (cond b None (Some (record x { service = f x })))) d, (messages n x e d).0)

      go : (x : Option Cell) → cell_of cs n ≡ x → (in_session ds n ≡ in_session cs n) ⊎ ((in_session ds n ≡ false) × (4096 ≤ n))
      go None e = inl (now None e ∙ sym (session_cell cs n ∙ ap session_in e))
      go (Some x) e = at x e (drops x) refl

  count_so : (cs : List Cell) → AllCells (λ x. drops x ≡ true → is_object x.object.thing ≡ false) cs → count_cells (filtered_cells drops f cs) ≡ count_cells cs
  count_so [] all = refl
  count_so (c ∷ cs) all = grind (arith, nat_tests, count_so cs all.1, filtered_cells drops f cs)

  pub beside_filtered_cells : Beside cs ds
  beside_filtered_cells = record {
    names = names_so;
    requests = requests_so;
    words = words_so;
    count = count_so cs (each_cell (λ x. drops x ≡ true → is_object x.object.thing ≡ false) cs no_duplicates (λ n x e d. (messages n x e d).1));
    sessions = sessions_so;
  }

-- what is owned by no queue stays, where what goes is owned by queues
pub holds_filtered_cells : (drops : Cell → Bool) (f : Cell → Service) (cs : List Cell) → NoDuplicates cs → ((n : ℕ) (x : Cell) →
    cell_of cs n ≡ Some x → drops x ≡ true → is_queue x.owner ≡ true) → (r : Place) → is_queue r ≡ false → held (filtered_cells drops f cs) r ≡ held cs r
holds_filtered_cells drops f cs no_duplicates queues r apart = held_cell (filtered_cells drops f cs) r ∙ ap object_in (cell_in_filtered_cells drops f cs r no_duplicates)
    ∙ go (cell_in cs r) refl ∙ sym (held_cell cs r)
  where
    go : (x : Option Cell) → cell_in cs r ≡ x → object_in (left_cell drops f x) ≡ object_in x
    go None e = refl
    go (Some x) e = by (drops x) refl
      where
        by : (b : Bool) → drops x ≡ b → object_in (cond b None (Some (record x { service = f x }))) ≡ Some x.object
        by false d = refl
        by true d = absurd (false≢true (sym apart ∙ ap is_queue (sym (cell_owner cs r x e)) ∙ queues x.object.name x (cell_lives cs r x no_duplicates e) d))

-- ---- a message comes

pub beside_message : (cs : List Cell) (c : Cell) → named cs c.object.name ≡ None → c.object.thing ≡ Message → 4096 ≤ c.object.name → c.request ≡ None →
    c.session ≡ false → Beside cs (c ∷ cs)
beside_message cs c free message past unasked closed = record {
  names = λ n. names n (c.object.name == n) refl;
  requests = λ n. requests n (c.object.name == n) refl;
  words = λ n w small. ap (λ b. cond b (at (pos 0) c.words w) (word_field cs n w)) (ne_eqb c.object.name n (λ same. absurd (omega (arith, same, small, past))));
  count = ap (λ x. cond (is_object x) (suc (count_cells cs)) (count_cells cs)) message;
  sessions = λ n. sessions n (c.object.name == n) refl;
}
  where
    names : (n : ℕ) (b : Bool) → (c.object.name == n) ≡ b → NamedBeside cs (c ∷ cs) n
    names n false e = inl (ap (λ b. cond b (Some c.object) (named cs n)) e)
    names n true e = grind (arith, nat_tests, eqb-true c.object.name n e, requested_unnamed cs n)

    requests : (n : ℕ) (b : Bool) → (c.object.name == n) ≡ b → cond (c.object.name == n) c.request (requested cs n) ≡ requested cs n
    requests n true e = grind (arith, nat_tests, requested_unnamed cs n, eqb-true c.object.name n e)
    requests n false e = ap (λ b. cond b c.request (requested cs n)) e

    sessions : (n : ℕ) (b : Bool) → (c.object.name == n) ≡ b → (in_session (c ∷ cs) n ≡ in_session cs n) ⊎ ((in_session (c ∷ cs) n ≡ false) × (4096 ≤ n))
    sessions n true e = grind (arith, nat_tests, eqb-true c.object.name n e)
    sessions n false e = inl (ap (λ b. cond b c.session (in_session cs n)) e)
