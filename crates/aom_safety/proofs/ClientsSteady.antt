-- What clients are at and what they have at servers say the same where servers have no more than they had: by what is left of each cell.
use Rattle.std.proofs.Common.{[], Bool, List, None, Some, ap, arith, cond, false, inl, inr, refl, subst, sym, true, ℕ, ◌==◌, ◌∙◌, ◌∷◌, ◌≡◌, ◌≤◌, ◌⊎◌}
use Rattle.std.proofs.lemmas.Bool.{eqb-true}
use Rattle.std.specs.List.{list_any}
use Rattle.std.specs.Prelude.{is_some}
use Rattle.aom_image.specs.Image.{Image}
use Rattle.aom_clients.specs.Table.{server_of}
use Rattle.aom_clients.specs.declared.client.Client.{Client}
use Rattle.aom_roles.specs.Things.{is_object}
use Rattle.aom_safety.proofs.OwnedPlaced.{owned_objects_same}
use Rattle.aom_safety.proofs.Services.{service_unnamed}
use Rattle.aom_safety.proofs.FilteredCells.{a_cell_of, cell_in, cell_lives, cell_of, cell_owner, cell_placed, held_cell, named_before, named_cell}
use Rattle.aom_safety.proofs.FilteredCells.{object_in, placed_before, requested_before, service_cell, service_in, service_filtered_cells, filtered_cells}
use Rattle.aom_safety.proofs.Sources.{served_as, served_filtered_cells, sources_as, sources_filtered_cells}
use Rattle.aom_safety.specs.Kept.{ClientsFit, HasSources, QueueFits, ServesSent, is_message_of, sources_of}
use Rattle.aom_safety.proofs.SemanticsLemmas.{requested_unnamed, same_place-true}
use Rattle.aom_semantics.specs.Clients.{client_at, most_of}
use Rattle.aom_semantics.specs.Requests.{thing_kind}
use Rattle.aom_semantics.specs.Places.{Cell, Elsewhere, In_service, Object, Place, Queued, Service, NoDuplicates}
use Rattle.aom_semantics.specs.Places.{held, named, requested, same_place, service_of, unserved}
use Rattle.aom_semantics.specs.Servers.{has_session, is_among, is_from, is_server, sessions_in_use}

-- ---- what is kept of cells, whatever clients are at

abbrev pub Lived : List Cell → Object → Type 0
Lived cs o = (named cs o.name ≡ Some o) ⊎ (named cs o.name ≡ None)

abbrev AreNamed : List Cell → Type 0
AreNamed cs = (n m : ℕ) (o : Object) → held cs (Elsewhere (Queued n m)) ≡ Some o → o.name ≡ m

pub record Carried (cs cs' : List Cell) : Type 0 where
  -- each cell was there, or is new and no other had its name
  pub lived : (o : Object) → named cs' o.name ≡ Some o → Lived cs o
  -- what is enlisted stays so
  pub enlisted : (o : Object) → named cs' o.name ≡ Some o → requested cs' o.name ≡ None → requested cs o.name ≡ None
  pub names : AreNamed cs → AreNamed cs'
  pub sources : HasSources cs → HasSources cs'
  pub served : ServesSent cs → ServesSent cs'

pub carried_itself : (cs : List Cell) → Carried cs cs
carried_itself cs = record { lived = λ o h. inl h; enlisted = λ o h e. e; names = λ h. h; sources = λ h. h; served = λ h. h }

-- some cells go, and those that stay have their senders and tokens
pub carried_filtered_cells : (drops : Cell → Bool) (f : Cell → Service) → ((c : Cell) → sources_of (f c) ≡ sources_of c.service) →
    ((c : Cell) → is_some (f c).sender ≡ is_some c.service.sender) → (cs : List Cell) → NoDuplicates cs → Carried cs (filtered_cells drops f cs)
carried_filtered_cells drops f sources senders cs no_duplicates = record {
  lived = λ o h. let b = named_before drops f cs o.name o no_duplicates h in inl (named_cell cs o.name ∙ ap object_in b.1 ∙ ap (λ y. Some y) b.2);
  enlisted = λ o h e. sym (requested_before drops f cs o.name o no_duplicates h) ∙ e;
  names = λ was n m o h. let b = placed_before drops f cs (Elsewhere (Queued n m)) o no_duplicates h in
      was n m o (held_cell cs (Elsewhere (Queued n m)) ∙ ap object_in b.1 ∙ ap (λ y. Some y) b.2);
  sources = sources_filtered_cells drops f sources cs no_duplicates;
  served = served_filtered_cells drops f senders cs no_duplicates;
}

-- ---- servers have no more than they had

-- nobody asks anything of it, and nobody has a session with it
abbrev pub IsQuiet : Service → Type 0
IsQuiet v = (v.queue ≡ []) × (v.sessions ≡ [])

-- and what they have is of these clients
pub record Eased (clients : List Client) (cs cs' : List Cell) : Type 0 where
  pub carried : Carried cs cs'
  pub queues : (n : ℕ) → QueueFits clients n (service_of cs' n).queue
  pub sessions : (n c : ℕ) → has_session (service_of cs' n) c ≡ true → server_of (client_at clients c) ≡ Some n
  pub listed : (n c : ℕ) → server_of (client_at clients c) ≡ Some n → has_session (service_of cs' n) c ≡ true
  pub senders : (n c m : ℕ) → list_any (is_message_of c m) (service_of cs' n).queue ≡ true → is_from c (service_of cs' m).sender ≡ true
  pub quiet : (n : ℕ) → IsQuiet (service_of cs n) → IsQuiet (service_of cs' n)
  pub owned_chain : (n : ℕ) → sessions_in_use (service_of cs' n) ≤ sessions_in_use (service_of cs n)

pub fit_eased : (p : Image) (clients clients' : List Client) (cs cs' : List Cell) → ClientsFit p clients cs → Eased clients' cs cs' → ClientsFit p clients' cs'
fit_eased p clients clients' cs cs' fit e = record {
  queues = e.queues;
  sessions = e.sessions;
  listed = e.listed;
  servers = λ o h plain. quiet o (e.carried.lived o h) (λ was. fit.servers o was plain);
  enlisted = λ o h none. quiet o (e.carried.lived o h) (λ was. fit.enlisted o was (e.carried.enlisted o h none));
  names = e.carried.names fit.names;
  senders = e.senders;
  sources = e.carried.sources fit.sources;
  served = e.carried.served fit.served;
  owned_chain = λ o h. owned_chain o (e.carried.lived o h);
}
  where
    quiet : (o : Object) → Lived cs o → (named cs o.name ≡ Some o → IsQuiet (service_of cs o.name)) → IsQuiet (service_of cs' o.name)
    quiet o (inl was) none = e.quiet o.name (none was)
    quiet o (inr new) none = e.quiet o.name (subst IsQuiet (sym (service_unnamed cs o.name new)) (refl, refl))

    owned_chain : (o : Object) → Lived cs o → sessions_in_use (service_of cs' o.name) ≤ most_of (thing_kind p o.thing)
    owned_chain o (inl was) = let fewer = e.owned_chain o.name in let all = fit.owned_chain o was in omega (arith, fewer, all)
    owned_chain o (inr new) = let fewer = e.owned_chain o.name in let none : sessions_in_use (service_of cs o.name) ≡ 0 = ap sessions_in_use (service_unnamed cs o.name new) in
        omega (arith, fewer, none)

-- ---- servers have what they had

pub record Steady (cs cs' : List Cell) : Type 0 where
  pub carried : Carried cs cs'
  pub queues : (n : ℕ) → (service_of cs' n).queue ≡ (service_of cs n).queue
  pub sessions : (n : ℕ) → (service_of cs' n).sessions ≡ (service_of cs n).sessions
  -- and a message that waits its sender
  pub senders : (n c m : ℕ) → list_any (is_message_of c m) (service_of cs n).queue ≡ true → is_from c (service_of cs m).sender ≡ true →
      is_from c (service_of cs' m).sender ≡ true

pub fit_steady : (p : Image) (clients : List Client) (cs cs' : List Cell) → Steady cs cs' → ClientsFit p clients cs → ClientsFit p clients cs'
fit_steady p clients cs cs' still fit = fit_eased p clients clients cs cs' fit record {
  carried = still.carried;
  queues = λ n. subst (QueueFits clients n) (sym (still.queues n)) (fit.queues n);
  sessions = λ n c h. fit.sessions n c (ap (is_among c) (sym (still.sessions n)) ∙ h);
  listed = λ n c h. ap (is_among c) (still.sessions n) ∙ fit.listed n c h;
  senders = λ n c m h. let was = ap (list_any (is_message_of c m)) (sym (still.queues n)) ∙ h in still.senders n c m was (fit.senders n c m was);
  quiet = λ n none. (still.queues n ∙ none.0, still.sessions n ∙ none.1);
  owned_chain = λ n. let same = owned_objects_same (service_of cs' n) (service_of cs n) (still.queues n) (still.sessions n) in omega (arith, same);
}

pub steady_itself : (cs : List Cell) → Steady cs cs
steady_itself cs = record { carried = carried_itself cs; queues = λ n. refl; sessions = λ n. refl; senders = λ n c m h from. from }

-- one change after another, where no cell is made
pub steady_moved_then : (cs cs' cs'' : List Cell) → Steady cs cs' → Steady cs' cs'' → ((n : ℕ) → named cs' n ≡ named cs n) → Steady cs cs''
steady_moved_then cs cs' cs'' a b names = record {
  carried = record {
    lived = λ o h. lived o (b.carried.lived o h);
    enlisted = λ o h e. enlisted o (b.carried.lived o h) (b.carried.enlisted o h e);
    names = λ h. b.carried.names (a.carried.names h);
    sources = λ h. b.carried.sources (a.carried.sources h);
    served = λ h. b.carried.served (a.carried.served h);
  };
  queues = λ n. b.queues n ∙ a.queues n;
  sessions = λ n. b.sessions n ∙ a.sessions n;
  senders = λ n c m h from. b.senders n c m (ap (list_any (is_message_of c m)) (a.queues n) ∙ h) (a.senders n c m h from);
}
  where
    lived : (o : Object) → Lived cs' o → Lived cs o
    lived o x = grind arith

    enlisted : (o : Object) → Lived cs' o → requested cs' o.name ≡ None → requested cs o.name ≡ None
    enlisted o (inl was) e = a.carried.enlisted o was e
    enlisted o (inr new) e = requested_unnamed cs o.name (sym (names o.name) ∙ new)

-- ---- clients have the same at each cell

pub record Same (cs cs' : List Cell) : Type 0 where
  pub service_so : (n : ℕ) → service_of cs' n ≡ service_of cs n
  pub named_so : (n : ℕ) → named cs' n ≡ named cs n
  pub held_so : (q : Place) → held cs' q ≡ held cs q
  -- what is enlisted stays so
  pub listed_so : (n : ℕ) → requested cs' n ≡ None → requested cs n ≡ None

-- or where cells move, to no queue, and what comes to be served has a sender
pub steady_as : (cs cs' : List Cell) → ((n : ℕ) → service_of cs' n ≡ service_of cs n) → ((n : ℕ) → named cs' n ≡ named cs n) →
    ((n : ℕ) → requested cs' n ≡ None → requested cs n ≡ None) → ((n m : ℕ) (o : Object) → held cs' (Elsewhere (Queued n m)) ≡ Some o →
    held cs (Elsewhere (Queued n m)) ≡ Some o) → (ServesSent cs → ServesSent cs') → Steady cs cs'
steady_as cs cs' services names listed queued served = record {
  carried = record {
    lived = λ o h. inl (sym (names o.name) ∙ h);
    enlisted = λ o h. listed o.name;
    names = λ was n m o h. was n m o (queued n m o h);
    sources = sources_as cs cs' (λ n. ap sources_of (services n)) (λ o h. sym (names o.name) ∙ h);
    served = served;
  };
  queues = λ n. ap (λ v. v.queue) (services n);
  sessions = λ n. ap (λ v. v.sessions) (services n);
  senders = λ n c m h from. ap (λ v. is_from c v.sender) (services m) ∙ from;
}

pub steady_same : (cs cs' : List Cell) → Same cs cs' → Steady cs cs'
steady_same cs cs' like = steady_as cs cs' like.service_so like.named_so like.listed_so (λ n m o h. sym (like.held_so (Elsewhere (Queued n m))) ∙ h)
    (served_as cs cs' (λ n. ap (λ v. is_some v.sender) (like.service_so n)) (λ o h. sym (like.held_so (Elsewhere In_service)) ∙ h))

pub fit_same : (p : Image) (clients : List Client) (cs cs' : List Cell) → Same cs cs' → ClientsFit p clients cs → ClientsFit p clients cs'
fit_same p clients cs cs' like = fit_steady p clients cs cs' (steady_same cs cs' like)

-- ---- a cell more, of a name that is free, of which nobody asks anything

pub steady_more : (x : Cell) (cs : List Cell) →
    named cs x.object.name ≡ None → x.service.queue ≡ [] → x.service.sessions ≡ [] → ((n m : ℕ) → x.owner ≡ Elsewhere (Queued n m) → x.object.name ≡ m) →
    sources_of x.service ≡ cond (is_object x.object.thing) 0 1 → same_place x.owner (Elsewhere In_service) ≡ false → Steady cs (x ∷ cs)
steady_more x cs free queue sessions named_so source aside = record {
  carried = record {
    lived = λ o. lived o (x.object.name == o.name) refl;
    enlisted = λ o h. enlisted o.name (x.object.name == o.name) refl;
    names = λ was n m o. names was n m o (same_place x.owner (Elsewhere (Queued n m))) refl;
    sources = λ had o. sources had o (x.object.name == o.name);
    served = λ sent o h. served sent o (x.object.name == o.name) refl (sym (ap (λ b. cond b (Some x.object) (held cs (Elsewhere In_service))) aside) ∙ h);
  };
  queues = λ n. part (λ v. v.queue) queue n (x.object.name == n) refl;
  sessions = λ n. part (λ v. v.sessions) sessions n (x.object.name == n) refl;
  senders = λ n c m h. sender c m (x.object.name == m) refl;
}
  where
    none : (n : ℕ) → (x.object.name == n) ≡ true → service_of cs n ≡ unserved
    none n e = ap (service_of cs) (sym (eqb-true x.object.name n e)) ∙ service_unnamed cs x.object.name free

    part : {A : Type 0} (f : Service → A) → f x.service ≡ f unserved → (n : ℕ) (b : Bool) → (x.object.name == n) ≡ b →
        f (cond b x.service (service_of cs n)) ≡ f (service_of cs n)
    part f same n true e = same ∙ sym (ap f (none n e))
    part f same n false e = refl

    sender : (c m : ℕ) (b : Bool) → (x.object.name == m) ≡ b → is_from c (service_of cs m).sender ≡ true →
        is_from c (cond b x.service (service_of cs m)).sender ≡ true
    sender c m true e from = let clash : false ≡ true = sym (ap (λ v. is_from c v.sender) (none m e)) ∙ from in cc
    sender c m false e from = from

    served : ServesSent cs → (o : Object) (b : Bool) → (x.object.name == o.name) ≡ b → held cs (Elsewhere In_service) ≡ Some o →
        is_some (cond b x.service (service_of cs o.name)).sender ≡ true
    served sent o true e h = let clash : false ≡ true = sym (ap (λ v. is_some v.sender) (none o.name e)) ∙ sent o h in cc
    served sent o false e h = sent o h

    enlisted : (n : ℕ) (b : Bool) → (x.object.name == n) ≡ b → cond b x.request (requested cs n) ≡ None → requested cs n ≡ None
    enlisted n true same e = requested_unnamed cs n (ap (named cs) (sym (eqb-true x.object.name n same)) ∙ free)
    enlisted n false other e = e

    lived : (o : Object) (b : Bool) → (x.object.name == o.name) ≡ b → cond b (Some x.object) (named cs o.name) ≡ Some o → Lived cs o
    lived o true e h = inr (ap (named cs) (sym (eqb-true x.object.name o.name e)) ∙ free)
    lived o false e h = inl h

    names : AreNamed cs → (n m : ℕ) (o : Object) (b : Bool) → same_place x.owner (Elsewhere (Queued n m)) ≡ b →
        cond b (Some x.object) (held cs (Elsewhere (Queued n m))) ≡ Some o → o.name ≡ m
    names was n m o true e h = let same : x.object ≡ o = cc in ap (λ (y : Object). y.name) (sym same)
        ∙ named_so n m (same_place-true x.owner (Elsewhere (Queued n m)) e)
    names was n m o false e h = was n m o h

    sources : HasSources cs → (o : Object) (b : Bool) → cond b (Some x.object) (named cs o.name) ≡ Some o →
        sources_of (cond b x.service (service_of cs o.name)) ≡ cond (is_object o.thing) 0 1
    sources had o true h = let same : x.object ≡ o = cc in source ∙ ap (λ (y : Object). cond (is_object y.thing) 0 1) same
    sources had o false h = had o h

-- ---- a cell that goes, and one that stays

module _ (p : Image) (clients : List Client) (cs : List Cell) (no_duplicates : NoDuplicates cs) (fit : ClientsFit p clients cs) where
  -- of what is no server nobody asks anything
  pub quiet_cell : (n : ℕ) (x : Cell) → cell_of cs n ≡ Some x → is_server p x.object.thing ≡ false → IsQuiet x.service
  quiet_cell n x e plain =
      let lives = cell_lives cs x.owner x no_duplicates (cell_placed cs n x no_duplicates e) in
      subst IsQuiet (service_cell cs x.object.name ∙ ap service_in lives) (fit.servers x.object (named_cell cs x.object.name ∙ ap object_in lives) plain)

  -- nor of what waits in a queue
  pub quiet_waiting : ((n m : ℕ) (o : Object) → held cs (Elsewhere (Queued n m)) ≡ Some o → is_server p o.thing ≡ false) →
      (n : ℕ) (x : Cell) → cell_of cs n ≡ Some x → (k m : ℕ) → x.owner ≡ Elsewhere (Queued k m) → IsQuiet x.service
  quiet_waiting waiting n x e k m at =
      quiet_cell n x e (waiting k m x.object (ap (held cs) (sym at) ∙ held_cell cs x.owner ∙ ap object_in (cell_placed cs n x no_duplicates e)))

  -- a message that stays in its queue has its sender still
  pub sender_stays : (drops : Cell → Bool) → ((n c m : ℕ) → list_any (is_message_of c m) (service_of cs n).queue ≡ true →
      (x : Object) × (held cs (Elsewhere (Queued n m)) ≡ Some x)) → (n d m : ℕ) → ((y : Cell) → y.owner ≡ Elsewhere (Queued n m) → drops y ≡ false) →
      list_any (is_message_of d m) (service_of cs n).queue ≡ true → is_from d (service_of (filtered_cells drops (λ c. c.service) cs) m).sender ≡ true
  sender_stays drops queued n d m stays h =
      let x = queued n d m h in
      let y = a_cell_of (cell_in cs (Elsewhere (Queued n m))) x.0 (sym (held_cell cs (Elsewhere (Queued n m))) ∙ x.1) in
      let lives : cell_of cs y.0.object.name ≡ Some y.0 = cell_lives cs (Elsewhere (Queued n m)) y.0 no_duplicates y.1 in
      let name : y.0.object.name ≡ m = ap (λ z. z.name) y.2 ∙ fit.names n m x.0 x.1 in
      let here : cell_of cs m ≡ Some y.0 = ap (cell_of cs) (sym name) ∙ lives in
      let left = service_filtered_cells drops (λ c. c.service) cs no_duplicates m y.0 here (stays y.0 (cell_owner cs (Elsewhere (Queued n m)) y.0 y.1)) in
      subst (λ v. is_from d v.sender ≡ true) (service_cell cs m ∙ ap service_in here ∙ sym left) (fit.senders n d m h)
