-- A token is replied to: the request that waits for it is completed, or none where it is void, and all that the machine keeps goes on standing for the cells:
-- by the one object that may wait for it.
use Rattle.std.proofs.lemmas.Bool.Decides.{nat_tests}
use Rattle.std.proofs.Common.{Bool, List, None, Option, Some, [], ap, arith, cond, false, length}
use Rattle.std.proofs.Common.{refl, subst, suc, sym, true, ℕ, ℤ, ◌+◌, ◌==◌, ◌≤◌, ◌∙◌, ◌∷◌, ◌≡◌}
use Rattle.std.specs.Prelude.{is_some, option_map}
use Rattle.std.proofs.lemmas.Bool.{eq-eqb, eqb-true, false≢true, ne_eqb}
use Rattle.std.proofs.lemmas.Option.{same_Some}
use Rattle.aom_machine_state.proofs.ActiveObjectsLemmas.{queued_same, status_is_determined}
use Rattle.aom_active_objects.specs.Agrees.{Active, queued}
use Rattle.aom_active_objects.specs.Meanings.{Makes, asked_anew}
use Rattle.aom_cells.specs.Heap.{Heap}
use Rattle.aom_clients.specs.Clients.{ClientsState as Kept_state}
use Rattle.aom_clients.specs.declared.client.Client.{Client}
use Rattle.aom_image.specs.Image.{Image}
use Rattle.aom_image.specs.declared.method.Thing.TheVariants.{Message}
use Rattle.aom_roles.specs.Things.{is_object}
use Rattle.aom_cells.specs.Store.{Changes, Store, count}
use Rattle.aom_clients.specs.Lists.{Table}
use Rattle.aom_typing_rules.specs.Typing.{Typing}
use Rattle.aom_cells.specs.Sessions.{Standing}
use Rattle.aom_machine_state.proofs.SafetyLemmas.{living_waits, message_plain, redeemed_alike, redeeming, redeems_none, redeems_one, requested_redeemed}
use Rattle.aom_machine_state.proofs.SafetyLemmas.{service_unnamed, service_without, void_waits_none}
use Rattle.aom_machine_state.proofs.SemanticsLemmas.{count_kept, held_lives, read_kept, sessions, unnamed}
use Rattle.aom_semantics.specs.Clients.{count_messages}
use Rattle.aom_semantics.specs.Requests.{on_request}
use Rattle.aom_safety.specs.Kept.{StateInvariant}
use Rattle.aom_semantics.specs.Places.{Cell, Object, Place, Request, Service, Token, held, named, requested, service_of, unserved, without, word_field}
use Rattle.aom_semantics.specs.Servers.{is_queue}
use Rattle.aom_semantics.specs.State.{State}
use Rattle.aom_semantics.specs.Tokens.{TokensApart, all_redeemed, awaited, order_in, redeemed_request, redeemed_with}
use Rattle.aom_safety.specs.WellTyped.{WellTyped}
use Rattle.aom_cells.specs.Tokens.{Kept, Sets, class_at, class_kept, is_at, live_at, object_at, object_kept, token_at}
use Rattle.aom_cells.specs.Tokens as kept
use Rattle.aom_cells.specs.declared.tokens.Token.{Token as Machine_token}
use Rattle.aom_machine_state.proofs.Asking.{requests_as}
use Rattle.aom_machine_state.proofs.Beside.{listed_beside}
use Rattle.aom_machine_state.proofs.Cells.{cells_as}
use Rattle.aom_machine_state.proofs.Completing.{owner_unnamed, owner_without}
use Rattle.aom_machine_state.proofs.Listing.{listed_alike}
use Rattle.aom_machine_state.proofs.Messages.{message_gone, messages_as}
use Rattle.aom_machine_state.proofs.Premises.{owner_held}
use Rattle.aom_machine_state.proofs.Replying.{beside_completed, cells_completed, message_unasked, natives_completed, requests_completed, reported_no_sender}
use Rattle.aom_machine_state.proofs.Serving.{names_apart}
use Rattle.aom_machine_state.proofs.Sessions.{natives_as}
use Rattle.aom_machine_state.proofs.SlotReleased.{words_at}
use Rattle.aom_machine_state.proofs.Still.{Still, same_still, same_unreported, still_each, unreported}
use Rattle.aom_machine_state.proofs.Tokens.{tokens_redeemed}
use Rattle.aom_machine_state.specs.Agrees.{SameCells, SameNatives, SameRequests, thing_of}
use Rattle.aom_machine_state.specs.Listing.{SameListed}
use Rattle.aom_machine_state.specs.Messages.{SameMessages, is_a_message}
use Rattle.aom_machine_state.specs.Services.{SameServices}
use Rattle.aom_machine_state.specs.Serving.{SameClients, message_name, owner_of, waits_in}
use Rattle.aom_machine_state.specs.Tokens.{ClosesSession, Redeems, SameTokens, class_in, reported_at}

-- ---- requests change, and nothing else

module _ (k : ℕ) (code : ℤ) where
  abbrev after : List Cell → List Cell
  after cs = all_redeemed k code cs

  -- a cell goes before or after
  pub redeemed_without : (g : Place) (cs : List Cell) → without g (after cs) ≡ after (without g cs)
  redeemed_without g [] = refl
  redeemed_without g (c ∷ cs) = grind (arith, nat_tests, redeemed_without g cs)

  words_redeemed : (cs : List Cell) (n w : ℕ) → word_field (after cs) n w ≡ word_field cs n w
  words_redeemed cs n w = read_kept (redeeming k code) (words_at w) (λ c. refl) cs n

  many_redeemed : (cs : List Cell) → count_messages (after cs) ≡ count_messages cs
  many_redeemed [] = refl
  many_redeemed (c ∷ cs) = ap (λ n. cond (is_object c.object.thing) n (suc n)) (many_redeemed cs)

  still_redeemed : (cs : List Cell) → Still cs (after cs)
  still_redeemed cs = still_each (redeeming k code) (λ c. refl) (λ c. refl) cs

  names_so : (cs : List Cell) (n : ℕ) → named (after cs) n ≡ named cs n
  names_so cs n = (redeemed_alike k code cs).named_so n

  order_so : (r : Option Request) → option_map (λ x. x.order) (redeemed_request k code r) ≡ option_map (λ x. x.order) r
  order_so r = grind arith

  module _ (p : Image) (cs : List Cell) where
    pub cells_redeemed : (h : Heap) → SameCells p h cs → SameCells p h (after cs)
    cells_redeemed h same = cells_as p h cs (after cs) (λ n. ap thing_of (names_so cs n)) (λ n w small. words_redeemed cs n w)
        (count_kept (redeeming k code) cs) same

    pub natives_redeemed : (a : Standing) (killed : List ℕ) → SameNatives p a cs killed → SameNatives p a (after cs) killed
    natives_redeemed a killed same = natives_as p a killed cs (after cs) (read_kept (redeeming k code) sessions (λ c. refl) cs) same

    messages_redeemed : (store : Store) → SameMessages p store cs → SameMessages p store (after cs)
    messages_redeemed store same =
        messages_as p store cs (after cs) (λ n. ap is_a_message (names_so cs n)) (λ m w. words_redeemed cs (message_name m) w) (many_redeemed cs) same

    listed_redeemed : (table : Table) → SameListed p table cs → SameListed p table (after cs)
    listed_redeemed table same =
        listed_alike p table cs (after cs) (names_so cs) (λ n. ap (option_map (λ x. x.order)) (requested_redeemed k code cs n) ∙ order_so (requested cs n)) same

    queues_so : (n : ℕ) → queued p (after cs) n ≡ queued p cs n
    queues_so n = queued_same p cs (after cs) (names_so cs) (λ m. ap (λ (v : Service). v.queue) ((still_redeemed cs).services m)) n

    -- where one waits for the token
    requests_one : (a b : Active) (n : ℕ) (r : Request) → requested cs n ≡ Some r → ((x : ℕ) → redeemed_request k code (requested cs x)
        ≡ cond (x == n) (Some (redeemed_with code r)) (requested cs x)) → Makes a b n (redeemed_with code) → SameRequests p a cs → SameRequests p b (after cs)
    requests_one a b n r there one makes same = record {
      stands = status_is_determined b (asked_anew n (Some (redeemed_with code r)) (requested cs)) (requested (after cs)) (queued p cs) (queued p (after cs)) asks
          (λ x some. sym (queues_so x)) (makes.stands (requested cs) (queued p cs) r same.stands there);
      limit = makes.limit ∙ same.limit;
    }
      where
        turned : (x : ℕ) (b : Bool) → (n == x) ≡ b →
            cond b (Some (redeemed_with code r)) (requested cs x) ≡ cond (x == n) (Some (redeemed_with code r)) (requested cs x)
        turned x true e = sym (ap (λ c. cond c (Some (redeemed_with code r)) (requested cs x)) (eq-eqb x n (sym (eqb-true n x e))))
        turned x false e = grind (arith, nat_tests, ne_eqb x n, eq-eqb n x)

        asks : (x : ℕ) → asked_anew n (Some (redeemed_with code r)) (requested cs) x ≡ requested (after cs) x
        asks x = turned x (n == x) refl ∙ sym (requested_redeemed k code cs x ∙ one x)

    -- where none does
    requests_none : (a : Active) → ((x : ℕ) → redeemed_request k code (requested cs x) ≡ requested cs x) → SameRequests p a cs → SameRequests p a (after cs)
    requests_none a none same = requests_as p a cs (after cs) (λ x. sym (requested_redeemed k code cs x ∙ none x)) (λ x some. sym (queues_so x)) same

-- ---- what waits for the token at a place

token_reported : (t : Option Token) → is_some (class_in t) ≡ true → (k : ℕ) × (order_in t ≡ Some k)
token_reported None e = absurd (false≢true e)
token_reported (Some t) e = (t.order, refl)

object_there : (t : Option Machine_token) → is_some (class_kept t) ≡ true → (n : ℕ) × (object_kept t ≡ Some n)
object_there None e = absurd (false≢true e)
object_there (Some t) e = (t.object, refl)

module _ (p : Image) (w : Kept) (cs : List Cell) (same : SameTokens p w cs) (place : ℕ) (there : is_some (class_at w place) ≡ true) where
  -- it has an order, and an object
  pub its_order : (k : ℕ) × (reported_at cs place ≡ Some k)
  its_order = token_reported (service_of cs (message_name place)).token (ap is_some (sym (same.classes place)) ∙ there)

  pub its_object : (n : ℕ) × (object_at w place ≡ Some n)
  its_object = object_there (token_at w place) there

  abbrev waits_for_it : (n k : ℕ) → awaited (requested cs n) ≡ Some k → (m : ℕ) × (live_at w n ≡ Some m) × (reported_at cs m ≡ Some k) × (object_at w m ≡ Some n)
  waits_for_it n k e = let x = same.waits n k e in (x.place, x.lives, x.reported, x.object)

  -- the object that it completes is the one whose token it is
  answers : (n : ℕ) → kept.redeemed w place ≡ Some n → (object_at w place ≡ Some n) × (live_at w n ≡ Some place)
  answers n e = grind (arith, nat_tests, eqb-true, same_Some)

  -- and where it completes none, that object waits for no token here
  silent : kept.redeemed w place ≡ None → live_at w its_object.0 ≡ Some place → ⊥
  silent e lives = grind (arith, nat_tests, eq-eqb place place)

  module _ (apart : TokensApart cs) (k : ℕ) (reported : reported_at cs place ≡ Some k) where
    pub waits_here : (n : ℕ) → kept.redeemed w place ≡ Some n → awaited (requested cs n) ≡ Some k
    waits_here n e =
        let a = answers n e in
        let some = waiting n (awaited (requested cs n)) (same.lives n place a.1) in
        living_waits cs apart (live_at w) (object_at w) waits_for_it place n k reported a.1 some.0 some.1
      where
        waiting : (n : ℕ) (o : Option ℕ) → is_some o ≡ true → (j : ℕ) × (o ≡ Some j)
        waiting n None e = absurd (false≢true e)
        waiting n (Some j) e = (j, refl)

    pub waits_nowhere : kept.redeemed w place ≡ None → (x : ℕ) → awaited (requested cs x) ≡ Some k → ⊥
    waits_nowhere e x waits = void_waits_none cs apart (live_at w) (object_at w) waits_for_it place its_object.0 k reported its_object.1 (silent e) x waits

-- ---- the token goes

module _ (p : Image) (t : Typing) (s : State) (w : WellTyped p t s) (g : Place) (o : Object) (there : held s.cells g ≡ Some o) (message : o.thing ≡ Message)
    (place : ℕ) (name : o.name ≡ message_name place) (kept_so : StateInvariant p s) (apart : is_queue g ≡ false) (tokens : Kept) (same : SameTokens p tokens s.cells)
    (reported : is_some (class_at tokens place) ≡ true) (code : ℤ) where
  abbrev order : ℕ
  order = (its_order p tokens s.cells same place reported).0

  reported_order : reported_at s.cells place ≡ Some order
  reported_order = (its_order p tokens s.cells same place reported).1

  -- its order, by its name
  pub its_token : order_in (service_of s.cells o.name).token ≡ Some order
  its_token = ap (λ n. order_in (service_of s.cells n).token) name ∙ reported_order

  abbrev pub redeemed_left : List Cell
  redeemed_left = without g (all_redeemed order code s.cells)

  abbrev first : List Cell
  first = without g s.cells

  swapped : (P : List Cell → Type 0) → P (all_redeemed order code first) → P redeemed_left
  swapped P x = subst P (sym (redeemed_without order code g s.cells)) x

  pub cells_answered : (h : Heap) → SameCells p h s.cells → SameCells p h redeemed_left
  cells_answered h cells = swapped (SameCells p h) (cells_redeemed order code p first h (cells_completed p t s w g o there message place name h cells))

  pub natives_answered : (a : Standing) → p.header.cells ≤ 4096 → SameNatives p a s.cells s.killed → SameNatives p a redeemed_left s.killed
  natives_answered a few natives = swapped (λ cs. SameNatives p a cs s.killed)
      (natives_redeemed order code p first a s.killed (natives_completed p t s w g o there message place name a few natives))

  -- the object that is completed waits, and no other does
  asked_first : (n : ℕ) → requested first n ≡ requested s.cells n
  asked_first n = (beside_completed p t s w g o there message place name).requests n

  request_there : (r : Option Request) → awaited r ≡ Some order → (q : Request) × (r ≡ Some q)
  request_there x e = grind arith

  pub requests_answered : (a b : Active) → Redeems (kept.redeemed tokens place) code a b → SameRequests p a s.cells → SameRequests p b redeemed_left
  requests_answered a b answers requests =
      swapped (SameRequests p b) (go (kept.redeemed tokens place) refl answers (requests_completed p t s w g o there message place name a requests))
    where
      go : (x : Option ℕ) → kept.redeemed tokens place ≡ x → Redeems x code a b → SameRequests p a first → SameRequests p b (all_redeemed order code first)
      go None e is h = subst (λ c. SameRequests p c (all_redeemed order code first)) (sym is)
          (requests_none order code p first a (λ x. ap (redeemed_request order code) (asked_first x)
          ∙ redeems_none s.cells code order (waits_nowhere p tokens s.cells same place reported kept_so.tokens order reported_order e) x ∙ sym (asked_first x)) h)
      go (Some n) e makes h =
          let waits = waits_here p tokens s.cells same place reported kept_so.tokens order reported_order n e in
          let r = request_there (requested s.cells n) waits in
          requests_one order code p first a b n r.0 (asked_first n ∙ r.1) (λ x. ap (redeemed_request order code) (asked_first x)
          ∙ redeems_one s.cells kept_so.tokens code n order waits x ∙ ap (λ q. cond (x == n) (on_request (redeemed_with code) q) (requested s.cells x)) r.1
          ∙ ap (λ q. cond (x == n) (Some (redeemed_with code r.0)) q) (sym (asked_first x))) makes h

  -- clients have nothing of it
  unsent : (service_of s.cells o.name).sender ≡ None
  unsent = grind (arith, nat_tests, reported_no_sender p t s w g o there message kept_so.fit.sources, its_token)

  nothing_else : unreported (service_of s.cells o.name) ≡ unserved
  nothing_else = grind (arith, nat_tests, held_lives s.cells g o w.good.no_duplicates there, message_plain p o.thing message, unreported, unsent)

  clients_first : (k : Kept_state) (clients : List Client) → SameClients k s.cells clients → SameClients k first clients
  clients_first k clients h = same_unreported k s.cells first clients (λ n. services n (o.name == n) refl) (λ m. owners m (place == m) refl) h
    where
      gone : named first o.name ≡ None
      gone = unnamed s.cells g o w.good.no_duplicates there

      services : (n : ℕ) (b : Bool) → (o.name == n) ≡ b → unreported (service_of first n) ≡ unreported (service_of s.cells n)
      services n true e =
          let one = eqb-true o.name n e in
          ap (λ i. unreported (service_of first i)) (sym one) ∙ ap unreported (service_unnamed first o.name gone) ∙ sym nothing_else
          ∙ ap (λ i. unreported (service_of s.cells i)) one
      services n false e = ap unreported (service_without s.cells g o n w.good.no_duplicates there e)

      owners : (m : ℕ) (b : Bool) → (place == m) ≡ b → waits_in (owner_of first (message_name m)) ≡ waits_in (owner_of s.cells (message_name m))
      owners m true e =
          let one : message_name m ≡ o.name = ap message_name (sym (eqb-true place m e)) ∙ sym name in
          ap (λ i. waits_in (owner_of first i)) one ∙ ap waits_in (owner_unnamed first o.name gone)
          ∙ sym apart ∙ sym (ap waits_in (owner_held s.cells w.good.no_duplicates g o there)) ∙ ap (λ i. waits_in (owner_of s.cells i)) (sym one)
      owners m false e = ap waits_in (owner_without g o s.cells (message_name m) w.good.no_duplicates there (ap (λ i. i == message_name m) name ∙ names_apart place m e))

  tokens_answered : (now : Kept) → Sets tokens.places now.places place None → ClosesSession (kept.redeemed tokens place) tokens now → SameTokens p now redeemed_left
  tokens_answered now freed lets = go (kept.redeemed tokens place) refl lets
    where
      n : ℕ
      n = (its_object p tokens s.cells same place reported).0

      object : object_at tokens place ≡ Some n
      object = (its_object p tokens s.cells same place reported).1

      unasked : requested s.cells (message_name place) ≡ None
      unasked = ap (requested s.cells) (sym name) ∙ message_unasked p t s w g o there message

      done : length now.living ≡ length tokens.living → (live_at tokens n ≡ Some place → live_at now n ≡ None) → ((live_at tokens n ≡ Some place → ⊥) →
          live_at now n ≡ live_at tokens n) → ((x : ℕ) → (n == x) ≡ false → live_at now x ≡ live_at tokens x) → SameTokens p now redeemed_left
      done size goes stays others = tokens_redeemed p tokens now s.cells same kept_so.tokens w.good.no_duplicates place n order code g o there name unasked reported_order
          object freed size goes stays others

      other_than : (x : ℕ) → (n == x) ≡ false → x ≡ n → ⊥
      other_than x e is = false≢true (sym e ∙ eq-eqb n x (sym is))

      go : (x : Option ℕ) → kept.redeemed tokens place ≡ x → ClosesSession x tokens now → SameTokens p now redeemed_left
      go None e is = done (ap length is) (λ lives. absurd (silent p tokens s.cells same place reported e lives))
          (λ void. ap (λ ls. live_at (record now { living = ls }) n) is) (λ x other. ap (λ ls. live_at (record now { living = ls }) x) is)
      go (Some i) e sets =
          let a = answers p tokens s.cells same place reported i e in
          let one : i ≡ n = same_Some i n (sym a.0 ∙ object) in
          done sets.size (λ lives. ap (live_at now) (sym one) ∙ sets.here) (λ void. absurd (void (ap (live_at tokens) (sym one) ∙ a.1)))
          (λ x other. sets.others x (λ is. other_than x other (is ∙ one)))

  pub services_answered : (k : Kept_state) (store after : Store) (table : Table) (now : Kept) → Changes store after place None → count after + 1 ≡ count store →
      Sets tokens.places now.places place None → ClosesSession (kept.redeemed tokens place) tokens now → SameServices p k store tokens table s.cells s.clients →
      SameServices p k after now table redeemed_left s.clients
  services_answered k store after table now gone fewer freed lets h = record {
    clients = swapped (λ cs. SameClients k cs s.clients)
        (same_still k first (all_redeemed order code first) s.clients (still_redeemed order code first) (clients_first k s.clients h.clients));
    sized = h.sized;
    messages = swapped (SameMessages p after) (messages_redeemed order code p first after
        (message_gone p store after s.cells g o place h.messages w.good.no_duplicates there (ap is_object message) name gone fewer));
    tokens = tokens_answered now freed lets;
    listed = swapped (SameListed p table)
        (listed_redeemed order code p first table (listed_beside p table s.cells first (beside_completed p t s w g o there message place name) h.listed));
  }
