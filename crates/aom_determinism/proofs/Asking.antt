-- What is there stays there as a server takes the first of its queue, and as a client does something: by the connects that stay in queues.
use Rattle.std.proofs.lemmas.Bool.Decides.{nat_tests}
use Rattle.std.proofs.Common.{Bool, List, None, Option, Some, [], ap, cond, false, refl, subst, sym, true, ℕ, ℤ, ◌&&◌, ◌==◌, ◌∙◌, ◌∷◌, ◌≡◌, arith}
use Rattle.std.proofs.lemmas.Bool.{eq-eqb, eqb-true, ne_eqb, true≢false}
use Rattle.std.proofs.lemmas.List.Folds.{list_any-append}
use Rattle.std.specs.List.{list_any}
use Rattle.std.specs.Prelude.{filter, ◌||◌}
use Rattle.aom_image.specs.Image.{Image}
use Rattle.aom_image.specs.declared.method.Role.TheVariants.{Accept as Accepts_role, Run as Handles, Service as Attends}
use Rattle.aom_clients.specs.Nodes.{is_connecting_at}
use Rattle.aom_clients.specs.declared.client.Client.{Client}
use Rattle.aom_clients.specs.declared.client.Client.TheVariants.{Connecting, Open}
use Rattle.aom_clients.specs.declared.refusal.CommandRefusal.{CommandRefusal}
use Rattle.aom_determinism.proofs.SafetyLemmas.{Same, asked_there, client_here, client_there, dispatched_so, goes_same, held_served, on_none, same_requested}
use Rattle.aom_determinism.proofs.SafetyLemmas.{service_here, service_left, service_moved, service_there, service_unnamed}
use Rattle.aom_transcript.specs.declared.event.ClientCommand.{ClientCommand}
use Rattle.aom_semantics.specs.Clients.{Listed, asked_server, client_at, commanded, connecting, leaving, own, sending, reported, with_client, with_message}
use Rattle.aom_semantics.specs.Requests.{part_of}
use Rattle.aom_safety.specs.Kept.{ClientsFit, is_connect_of}
use Rattle.aom_semantics.specs.Places.{Asked, Cell, Close_of, Connect_of, Elsewhere, In_service, Message_of, Object, Queued}
use Rattle.aom_semantics.specs.Places.{Service, Session, NoDuplicates, held, moved, named, service_of, unserved}
use Rattle.aom_semantics.specs.Servers.{asked_last, is_server, reserved, stays, taken_first, withdrawn}
use Rattle.aom_semantics.specs.State.{Accepts, Goes, Of_server, OwnedObject, State}
use Rattle.aom_semantics.specs.World.{picked, serves_first, accepting, attended, attending, parting_with, taken_from, dispatched}
use Rattle.aom_determinism.proofs.Remaining.{AllWait, unchanged_calls_waits, plain_there}
use Rattle.aom_determinism.proofs.Keeping.{UnchangedCalls, unchanged_calls_moved, unchanged_calls_reserved}
use Rattle.aom_determinism.proofs.Moving.{dispatch_begun}
use Rattle.aom_determinism.specs.There.{AllThere, AreThere, waits}

-- ---- the first of a queue is taken

-- of a queue whose first asks for no session of that client
module _ (cs : List Cell) (o : Object) (lives : named cs o.name ≡ Some o) (e : Asked) (es : List Asked) (queue : (service_of cs o.name).queue ≡ e ∷ es) where
  abbrev then : List Cell
  then = reserved taken_first o.name cs

  taken_waits : (n c : ℕ) → (o.name ≡ n → is_connect_of c e ≡ false) → waits cs n c ≡ true → waits then n c ≡ true
  taken_waits n c none h = grind (arith, nat_tests, eqb-true o.name n, service_here cs o.name, service_there cs o.name n)

  -- its connect is served, or none is lost
  accepted_waits : (clients : List Client) (x : OwnedObject) (k : ℕ) → x.object ≡ o → e ≡ Connect_of k → AllWait clients cs →
      AreThere clients then (Some (Of_server x k Accepts))
  accepted_waits clients x k same first all = record { asked = asked; serves = tt }
    where
      asked : (n c : ℕ) → is_connecting_at n (client_at clients c) ≡ true → (waits then n c || ((x.object.name == n) && (k == c))) ≡ true
      asked n c at = grind (arith, nat_tests, taken_waits n c, eq-eqb x.object.name n)

  others_wait : (clients : List Client) → ((c : ℕ) → is_connect_of c e ≡ false) → AllWait clients cs → AllWait clients then
  others_wait clients none all n c at = taken_waits n c (λ same. none c) (all n c at)

-- ---- the other turns

-- cells of which clients have the same
pub same_waits : (clients : List Client) (cs cs' : List Cell) → Same cs cs' → AllWait clients cs → AllWait clients cs'
same_waits clients cs cs' like all n c e = ap (λ v. list_any (is_connect_of c) v.queue) (like.service_so n) ∙ all n c e

module _ (p : Image) (s u : State) (all : AllWait s.clients s.cells) (x : OwnedObject) (lives : named s.cells x.object.name ≡ Some x.object) where
  abbrev n : ℕ
  n = x.object.name

  connect_there : (c : ℕ) (es : List Asked) → (service_of s.cells n).queue ≡ Connect_of c ∷ es → (m : Option ℕ) →
      accepting m x c (taken_from n s) ≡ Goes u → AllThere u
  connect_there c es queue y e = grind (arith, nat_tests, goes_same, accepted_waits s.cells x.object lives (Connect_of c) es queue s.clients x c)

  -- the session is at its place while it serves
  message_there : (c m : ℕ) (es : List Asked) → (service_of s.cells n).queue ≡ Message_of c m ∷ es → (o : Option Object) →
      held s.cells (Elsewhere (Session n c)) ≡ o → attended p x c o m (taken_from n s) ≡ Goes u → AllThere u
  message_there c m es queue None at e = cc
  message_there c m es queue (Some o) at e = go (part_of p Attends o.thing) e
    where
      cells : List Cell
      cells = reserved taken_first n s.cells

      unchanged_calls : UnchangedCalls cells (moved (Elsewhere (Queued n m)) (Elsewhere In_service) cells)
      unchanged_calls = unchanged_calls_moved cells (Elsewhere (Queued n m)) (Elsewhere In_service) (λ n c. refl) (λ n c. refl)

      waiting : AllWait s.clients (moved (Elsewhere (Queued n m)) (Elsewhere In_service) cells)
      waiting = unchanged_calls_waits s.clients cells _ unchanged_calls (others_wait s.cells x.object lives (Message_of c m) es queue s.clients (λ d. refl) all)

      go : (k : Option ℕ) → attending k x c o m (taken_from n s) ≡ Goes u → AllThere u
      go None e = cc
      go (Some k) e = subst AllThere (goes_same _ u e) (record {
        asked = λ i d f. ap (λ b. b || false) (waiting i d f);
        serves = unchanged_calls.places n c ∙ held_served s.cells n (taken_first (service_of s.cells n)) (Elsewhere (Session n c)) ∙ at;
      })

  close_there : (c : ℕ) (es : List Asked) → (service_of s.cells n).queue ≡ Close_of c ∷ es → (o : Option Object) →
      parting_with p x c o (taken_from n s) ≡ Goes u → AllThere u
  close_there c es queue y e = grind (arith, nat_tests, goes_same, dispatch_begun, AllWait, service_moved, others_wait)

  serves_there : (queue : List Asked) → (service_of s.cells n).queue ≡ queue → serves_first p x queue s ≡ Goes u → AllThere u
  serves_there [] queue e = cc
  serves_there (Connect_of c ∷ es) queue e = connect_there c es queue (part_of p Accepts_role x.object.thing) e
  serves_there (Message_of c m ∷ es) queue e = message_there c m es queue (held s.cells (Elsewhere (Session n c))) refl e
  serves_there (Close_of c ∷ es) queue e = close_there c es queue (held s.cells (Elsewhere (Session n c))) e

  pub picked_there : picked p x s ≡ Goes u → AllThere u
  picked_there e = go (is_server p x.object.thing) e
    where
      go : (b : Bool) → cond b (serves_first p x (service_of s.cells n).queue s) (dispatched (part_of p Handles x.object.thing) x s) ≡ Goes u → AllThere u
      go true e = serves_there (service_of s.cells n).queue refl e
      go false e = let d = dispatched_so p s u x e in
          subst AllThere (sym d.2) (grind (arith, nat_tests, plain_there s.clients, same_waits s.clients s.cells, same_requested s.cells x.object, on_none))

-- ---- a client does something

-- what is asked last loses no connect
last_keeps : (e : Asked) (v : Service) (c : ℕ) → list_any (is_connect_of c) v.queue ≡ true → list_any (is_connect_of c) (asked_last e v).queue ≡ true
last_keeps e v c h = list_any-append (is_connect_of c) v.queue (e ∷ []) ∙ ap (λ b. b || list_any (is_connect_of c) (e ∷ [])) h

-- nor does a queue of which another's entries go
stays_connects : (c d : ℕ) (es : List Asked) → (c == d) ≡ false → list_any (is_connect_of d) es ≡ true → list_any (is_connect_of d) (filter (stays c) es) ≡ true
stays_connects c d [] other h = cc
stays_connects c d (Message_of i m ∷ es) other h = grind (arith, nat_tests, stays_connects c d es other h)
stays_connects c d (Close_of i ∷ es) other h = stays_connects c d es other h
stays_connects c d (Connect_of i ∷ es) other h = grind (arith, nat_tests, stays_connects c d es other, ne_eqb i c, eq-eqb c d, eqb-true i d)

module _ (p : Image) (client : ℕ) (s : State) (no_duplicates : NoDuplicates s.cells) (fit : ClientsFit p s.clients s.cells)
    (waiting : (n m : ℕ) (o : Object) → held s.cells (Elsewhere (Queued n m)) ≡ Some o → is_server p o.thing ≡ false) (all : AllWait s.clients s.cells) where
  abbrev StillWait : State → Type 0
  StillWait u = AllWait u.clients u.cells

  connecting_waits : (r : Option CommandRefusal) (class : ℕ) (l : Option Listed) → asked_server p class s.cells ≡ l → (slots : ℕ) →
      StillWait (connecting p client s r l slots)
  connecting_waits (Some r) class l listed slots n d e = all n d e
  connecting_waits None class None listed slots n d e = all n d e
  connecting_waits None class (Some x) listed slots n d e = go (client == d) refl
    where
      cells : List Cell
      cells = reserved (asked_last (Connect_of client)) x.name s.cells

      unchanged_calls : UnchangedCalls s.cells cells
      unchanged_calls = unchanged_calls_reserved (asked_last (Connect_of client)) (last_keeps (Connect_of client)) s.cells x.name

      its_own : x.name ≡ n → client ≡ d → waits cells n d ≡ true
      its_own at same =
          let l = asked_there p class s.cells x no_duplicates listed in
          let lives : named s.cells x.name ≡ Some l.0 = ap (λ k. named s.cells k) (sym l.1) ∙ l.2 in
          let q = (service_of s.cells x.name).queue in
          ap (λ k. waits cells k d) (sym at) ∙ ap (λ v. list_any (is_connect_of d) v.queue)
          (service_here s.cells x.name (asked_last (Connect_of client) (service_of s.cells x.name)) l.0 lives) ∙ list_any-append (is_connect_of d) q
          (Connect_of client ∷ []) ∙ ap (λ b. list_any (is_connect_of d) q || (b || false)) (eq-eqb client d same) ∙ or_true (list_any (is_connect_of d) q)
        where
          or_true : (b : Bool) → (b || true) ≡ true
          or_true true = refl
          or_true false = refl

      go : (b : Bool) → (client == d) ≡ b → waits cells n d ≡ true
      go true same =
          let at = eqb-true client d same in
          let now = ap (λ k. client_at (with_client client (Connecting x.name slots) s.clients) k) (sym at)
          ∙ client_here client (Connecting x.name slots) s.clients in
          its_own (eqb-true x.name n (ap (is_connecting_at n) (sym now) ∙ e)) at
      go false other = unchanged_calls.connects n d (all n d (ap (is_connecting_at n) (sym (client_there client d (Connecting x.name slots) s.clients other)) ∙ e))

  sending_waits : (r : Option CommandRefusal) (x : Client) (name : ℕ) → named s.cells name ≡ None → (words : List ℤ) → StillWait (sending p client s r x name words)
  sending_waits (Some r) x name free words = all
  sending_waits None (Open server session slots) name free words = λ n d e. go n d (name == n) refl (all n d e)
    where
      sent : Service
      sent = record unserved { sender = Some (record { client = client; holds_slot = true; is_reported = true }) }

      unchanged_calls : UnchangedCalls s.cells (reserved (asked_last (Message_of client name)) server s.cells)
      unchanged_calls = unchanged_calls_reserved (asked_last (Message_of client name)) (last_keeps (Message_of client name)) s.cells server

      go : (n d : ℕ) (b : Bool) → (name == n) ≡ b → waits s.cells n d ≡ true → waits (with_message p client s name words server) n d ≡ true
      go n d true same h =
          let none = ap (λ k. service_of s.cells k) (sym (eqb-true name n same)) ∙ service_unnamed s.cells name free in
          absurd (true≢false (sym h ∙ ap (λ v. list_any (is_connect_of d) v.queue) none))
      go n d false other h = ap (λ b. list_any (is_connect_of d)
          (cond b sent (service_of (reserved (asked_last (Message_of client name)) server s.cells) n)).queue) other ∙ unchanged_calls.connects n d h
  sending_waits None _ name free words = all

  leaving_waits : (to : Option Client) → ((n : ℕ) (k : Client) → to ≡ Some k → is_connecting_at n k ≡ false) → StillWait (leaving p client s to)
  leaving_waits None done n d e = all n d e
  leaving_waits (Some to) done n d e = go (client == d) refl
    where
      reported_keeps : (x : Client) (cs : List Cell) → waits cs n d ≡ true → waits (reported p client s x cs) n d ≡ true
      reported_keeps (Open server session slots) cs h = (unchanged_calls_reserved (asked_last (Close_of client)) (last_keeps (Close_of client)) cs server).connects n d h
      reported_keeps _ cs h = h

      go : (b : Bool) → (client == d) ≡ b → waits (reported p client s (own p client s) (withdrawn client s.cells)) n d ≡ true
      go true same =
          let now = ap (λ k. client_at (with_client client to s.clients) k) (sym (eqb-true client d same)) ∙ client_here client to s.clients in
          absurd (true≢false (sym e ∙ ap (is_connecting_at n) now ∙ done n to refl))
      go false other =
          let before = all n d (ap (is_connecting_at n) (sym (client_there client d to s.clients other)) ∙ e) in
          let left = service_left p s.clients s.cells no_duplicates fit client waiting n in
          reported_keeps (own p client s) (withdrawn client s.cells) (grind (arith, nat_tests, stays_connects client d))

  pub commanded_waits : (command : ClientCommand) (name : ℕ) → named s.cells name ≡ None → StillWait (commanded p client s command name)
  commanded_waits x name free = grind (arith, nat_tests, connecting_waits, sending_waits, leaving_waits)
