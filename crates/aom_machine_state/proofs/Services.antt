-- What the machine keeps of clients and servers stands for cells that change: by what each change leaves of clients, of messages and of who is enlisted.
use Rattle.std.proofs.lemmas.Bool.Decides.{nat_tests}
use Rattle.std.proofs.Common.{arith, Bool, List, None, Option, Some, [], ap, cond, false, refl, suc, sym, true, ℕ, ℤ, ◌<◌, ◌==◌, ◌∙◌, ◌∷◌, ◌≡◌}
use Rattle.std.specs.Prelude.{option_map}
use Rattle.std.proofs.lemmas.Bool.{eqb-true}
use Rattle.aom_machine_state.proofs.ActiveObjectsLemmas.{asked_new, asked_set}
use Rattle.aom_clients.specs.Clients.{ClientsState as Kept_state}
use Rattle.aom_clients.specs.declared.client.Client.{Client}
use Rattle.aom_image.specs.Image.{Image}
use Rattle.aom_image.specs.declared.method.Argument.{Argument}
use Rattle.aom_image.specs.declared.method.Argument.TheVariants.{Own as Takes_own, Word as Takes_word}
use Rattle.aom_image.specs.declared.method.Thing.TheVariants.{Object as An_object_of}
use Rattle.aom_cells.specs.Store.{Store}
use Rattle.aom_clients.specs.Lists.{Table}
use Rattle.aom_machine_state.proofs.SemanticsLemmas.{named_moved, requested_moved}
use Rattle.aom_machine_state.proofs.SafetyLemmas.{named_set_word, requested_set_word, request_updated_alike, session_updated_alike, session_updated_requests}
use Rattle.aom_semantics.specs.Calls.{passed_cells}
use Rattle.aom_semantics.specs.Requests.{ended_cells, own_request, request_updated}
use Rattle.aom_semantics.specs.Natives.{session_updated}
use Rattle.aom_semantics.specs.Places.{Cell, Object, Place, Register, Request, Service, moved, named, requested, set_request, set_word_field, with_new}
use Rattle.aom_semantics.specs.Servers.{is_queue}
use Rattle.aom_semantics.specs.State.{AtRoot, Frame, Receiver, Inside, State, Static, Task}
use Rattle.aom_semantics.specs.Tokens.{awaited}
use Rattle.aom_semantics.specs.Words.{stored}
use Rattle.aom_cells.specs.Tokens.{Kept}
use Rattle.aom_machine_state.proofs.Listing.{listed_alike, listed_same}
use Rattle.aom_machine_state.proofs.Messages.{messages_asked, messages_made, messages_moved, messages_opened, messages_written}
use Rattle.aom_machine_state.proofs.Still.{Still, same_still, still_itself, still_moved, still_new, still_requested, still_sessioned, still_written}
use Rattle.aom_machine_state.proofs.Tokens.{tokens_still}
use Rattle.aom_machine_state.specs.Listing.{SameListed, is_listed, lists, order_in}
use Rattle.aom_machine_state.specs.Messages.{SameMessages}
use Rattle.aom_machine_state.specs.Services.{SameServices}
use Rattle.aom_machine_state.specs.Serving.{message_name}
use Rattle.aom_machine_state.specs.Tokens.{SameTokens}

-- so it is for these cells
abbrev Serves : Image → Kept_state → Store → Kept → Table → List Client → List Cell → Type 0
Serves p s store tokens table at cs = SameServices p s store tokens table cs at

-- what is read of requests, where another has the same of it
read_asked : {A : Type 0} (read : Option Request → A) (cs : List Cell) (o : Object) (r : Option Request) →
    named cs o.name ≡ Some o → read r ≡ read (requested cs o.name) → (n : ℕ) → read (requested (set_request o.name r cs) n) ≡ read (requested cs n)
read_asked read cs o r lives same n = grind (arith, nat_tests, asked_set cs o.name r, eqb-true o.name n)

module _ (p : Image) {s : Kept_state} {store : Store} {tokens : Kept} {table : Table} {at : List Client} where
  -- clients have the same, messages are the same, the same are listed, and tokens go on
  pub services_with : (cs ds : List Cell) → Still cs ds → (SameMessages p store cs → SameMessages p store ds) → (SameListed p table cs →
      SameListed p table ds) → (now : Kept) → SameTokens p now ds → Serves p s store tokens table at cs → Serves p s store now table at ds
  services_with cs ds still messages listed now go_on same = record {
    clients = same_still s cs ds at still same.clients;
    sized = same.sized;
    messages = messages same.messages;
    tokens = go_on;
    listed = listed same.listed;
  }

  -- so where the same wait for them
  pub services_still :
      (cs ds : List Cell) → Still cs ds → (SameMessages p store cs → SameMessages p store ds) → (SameListed p table cs → SameListed p table ds) →
      ((n : ℕ) → awaited (requested ds n) ≡ awaited (requested cs n)) → Serves p s store tokens table at cs → Serves p s store tokens table at ds
  services_still cs ds still messages listed asks same =
      grind (arith, nat_tests, services_with cs ds still messages listed tokens, tokens_still p tokens cs ds asks)

  -- from no queue to no queue
  pub services_moved : (cs : List Cell) (q r : Place) → is_queue q ≡ false → is_queue r ≡ false → Serves p s store tokens table at cs →
      Serves p s store tokens table at (moved q r cs)
  services_moved cs q r from to = services_still cs (moved q r cs) (still_moved cs q r (from ∙ sym to)) (messages_moved p store cs q r) (listed_alike p table cs
      (moved q r cs) (named_moved cs q r) (λ n. ap (option_map (λ x. x.order)) (requested_moved cs q r n))) (λ n. ap awaited (requested_moved cs q r n))

  -- a word of a cell
  services_written : (cs : List Cell) (n w : ℕ) (v : ℤ) → n < 4096 → Serves p s store tokens table at cs → Serves p s store tokens table at (set_word_field n w v cs)
  services_written cs n w v small = services_still cs (set_word_field n w v cs) (still_written cs n w v) (messages_written p store cs n w v small)
      (listed_alike p table cs (set_word_field n w v cs) (named_set_word cs n w v) (λ m. ap (option_map (λ x. x.order)) (requested_set_word cs n w v m)))
      (λ m. ap awaited (requested_set_word cs n w v m))

  pub services_stored : (cs : List Cell) (receiver : Receiver) (w : ℕ) (v : ℤ) → ((o : Object) (from : Place) → receiver ≡ Inside o from → o.name < 4096) →
      Serves p s store tokens table at cs → Serves p s store tokens table at (stored cs receiver w v)
  services_stored cs x w v small same = grind (arith, nat_tests, services_written cs)

  -- a request, where it is there before and after, in the same order, and tokens go on
  pub services_asked_with : (cs : List Cell) (o : Object) (r : Option Request) →
      named cs o.name ≡ Some o → option_map (λ x. x.order) r ≡ option_map (λ x. x.order) (requested cs o.name) →
      (now : Kept) → SameTokens p now (set_request o.name r cs) → Serves p s store tokens table at cs → Serves p s store now table at (set_request o.name r cs)
  services_asked_with cs o r lives order now go_on = services_with cs
      (set_request o.name r cs) (still_requested cs o.name r) (messages_asked p store cs o.name r) (listed_alike p table cs (set_request o.name r cs)
      (λ n. (request_updated_alike cs (Inside o (Register 0 0)) r).named_so n) (λ n. read_asked (option_map (λ x. x.order)) cs o r lives order n)) now go_on

  -- so where it waits for the same one
  pub services_asked : (cs : List Cell) (o : Object) (r : Option Request) →
      named cs o.name ≡ Some o → option_map (λ x. x.order) r ≡ option_map (λ x. x.order) (requested cs o.name) → awaited r ≡ awaited (requested cs o.name) →
      Serves p s store tokens table at cs → Serves p s store tokens table at (set_request o.name r cs)
  services_asked cs o r lives order token same = services_asked_with cs o r lives order tokens (tokens_still p tokens cs (set_request o.name r cs) (λ n.
      read_asked awaited cs o r lives token n) (λ m. ap (λ (v : Service). v.token) ((still_requested cs o.name r).services (message_name m))) same.tokens) same

  -- of what a method works on, where tokens go on
  pub services_request_updated_with :
      (cs : List Cell) (receiver : Receiver) (r : Option Request) → ((o : Object) (from : Place) → receiver ≡ Inside o from → named cs o.name ≡ Some o) →
      option_map (λ x. x.order) r ≡ option_map (λ x. x.order) (own_request cs receiver) → (now : Kept) → SameTokens p now (request_updated cs receiver r) →
      Serves p s store tokens table at cs → Serves p s store now table at (request_updated cs receiver r)
  services_request_updated_with cs (Inside o from) r lives order now go_on same = services_asked_with cs o r (lives o from refl) order now go_on same
  services_request_updated_with cs _ r lives order now go_on same = services_with cs cs (still_itself cs) (λ x. x) (λ x. x) now go_on same

  -- and where it waits for the same one
  pub services_request_updated :
      (cs : List Cell) (receiver : Receiver) (r : Option Request) → ((o : Object) (from : Place) → receiver ≡ Inside o from → named cs o.name ≡ Some o) →
      option_map (λ x. x.order) r ≡ option_map (λ x. x.order) (own_request cs receiver) → awaited r ≡ awaited (own_request cs receiver) →
      Serves p s store tokens table at cs → Serves p s store tokens table at (request_updated cs receiver r)
  services_request_updated cs (Inside o from) r lives order token same = services_asked cs o r (lives o from refl) order token same
  services_request_updated cs _ r lives order token same = same

  -- a session with a native
  pub services_session_updated : (cs : List Cell) (receiver : Receiver) (b : Bool) → Serves p s store tokens table at cs →
      Serves p s store tokens table at (session_updated cs receiver b)
  services_session_updated cs Static b same = same
  services_session_updated cs AtRoot b same = same
  services_session_updated cs (Inside o from) b same = services_still cs (session_updated cs (Inside o from) b) (still_sessioned cs o.name b) (messages_opened
      p store cs o.name b) (listed_alike p table cs (session_updated cs (Inside o from) b) (λ n. (session_updated_alike cs (Inside o from) b).named_so n)
      (λ n. ap (option_map (λ x. x.order)) (session_updated_requests cs (Inside o from) b n))) (λ n. ap awaited (session_updated_requests cs (Inside o from) b n)) same

  -- a new cell
  pub services_made : (cs : List Cell) (n class : ℕ) (words : List ℤ) (owner : Place) →
      named cs n ≡ None → n < 4096 → Serves p s store tokens table at cs → Serves p s store tokens table at (with_new n (An_object_of class) words owner cs)
  services_made cs n class words owner fresh small = services_still cs ds (still_new cs n (An_object_of class) words owner small fresh)
      (messages_made p store cs n (An_object_of class) words owner fresh small refl) (listed_same p table cs ds (λ k x. listed k x (n == k) refl)
      (λ k. ap order_in (asked_new cs n (An_object_of class) words owner fresh k))) (λ k. ap awaited (asked_new cs n (An_object_of class) words owner fresh k))
    where
      ds : List Cell
      ds = with_new n (An_object_of class) words owner cs

      -- it is not enlisted
      unasked : (o : Option Object) (x : ℕ) (r : Option Request) → r ≡ None → lists p x o r ≡ false
      unasked None x r e = refl
      unasked (Some o) x r e = ap (lists p x (Some o)) e

      listed : (k x : ℕ) (b : Bool) → (n == k) ≡ b → is_listed p ds x k ≡ is_listed p cs x k
      listed k x true e =
          let asked : requested cs k ≡ None = sym (asked_new cs n (An_object_of class) words owner fresh k) ∙ ap (λ b. cond b None (requested cs k)) e in
          unasked (named ds k) x (requested ds k) (ap (λ b. cond b None (requested cs k)) e) ∙ sym (unasked (named cs k) x (requested cs k) asked)
      listed k x false e = ap (λ b. lists p x (cond b (Some (record { name = n; thing = An_object_of class })) (named cs k)) (cond b None (requested cs k))) e

  module _ (fr : Frame) where
    -- a cancel that may be over
    pub services_ended : (cs : List Cell) → ((o : Object) (from : Place) → fr.receiver ≡ Inside o from → named cs o.name ≡ Some o) →
        Serves p s store tokens table at cs → Serves p s store tokens table at (ended_cells p fr cs)
    services_ended cs lives same = grind (arith, nat_tests, services_request_updated cs fr.receiver)

    -- arguments that are passed
    pub services_passed : (ts : List Task) (t : State) (depth : ℕ) (xs : List Argument) (first to : ℕ) (cs : List Cell) →
        Serves p s store tokens table at cs → Serves p s store tokens table at (passed_cells p fr ts t depth xs first to cs)
    services_passed ts t depth [] first to cs same = same
    services_passed ts t depth (Takes_word ∷ xs) first to cs same = services_passed ts t depth xs (suc first) (suc to) cs same
    services_passed ts t depth (Takes_own x ∷ xs) first to cs same = grind (arith, nat_tests, services_passed ts t depth xs, services_moved cs)
