-- What a client does means the same under other names: it is refused alike, and comes to the same state, renamed.
use Rattle.std.proofs.lemmas.Bool.Decides.{nat_tests}
use Rattle.std.proofs.Common.{arith, Bool, List, None, Option, Some, [], ap, cond, refl, suc, ℕ, ℤ, ◌∷◌, ◌≡◌}
use Rattle.std.proofs.lemmas.List.{length-map}
use Rattle.std.specs.Prelude.{filter, option_map}
use Rattle.aom_image.specs.Image.{Image}
use Rattle.aom_roles.specs.Things.{is_object}
use Rattle.aom_clients.specs.Table.{row}
use Rattle.aom_clients.specs.declared.client.Client.{Client}
use Rattle.aom_clients.specs.declared.client.Client.TheVariants.{Connecting}
use Rattle.aom_clients.specs.declared.refusal.CommandRefusal.{CommandRefusal}
use Rattle.aom_transcript.specs.declared.event.ClientCommand.{ClientCommand}
use Rattle.aom_transcript.specs.declared.event.ClientCommand.TheVariants.{Close, Connect, Die, Send}
use Rattle.aom_semantics.specs.Clients.{Listed, asked_of, asked_server, commanded, connecting, count_messages}
use Rattle.aom_semantics.specs.Clients.{first_listed, leaving, own, refusal, room, sending, reported, with_message}
use Rattle.aom_semantics.specs.Places.{Asked, Cell, Close_of, Connect_of, Message_of, Service}
use Rattle.aom_semantics.specs.Servers.{holds_slot, sessions_in_use, slots_taken, withdrawn}
use Rattle.aom_semantics.specs.State.{State}
use Rattle.aom_determinism.proofs.NamedCells.{cond_applied}
use Rattle.aom_determinism.proofs.Serving.{asks_renamed, client_renamed, service_renamed, with_client_renamed}
use Rattle.aom_determinism.specs.Names.{IsOneToOne, renamed, renamed_asked, renamed_cells, renamed_client}
use Rattle.aom_determinism.specs.Names.{renamed_queue, renamed_service}

module _ (names : ℕ → ℕ) where
  -- ---- what is counted

  slots_kept : (c : ℕ) (cs : List Cell) → slots_taken c (renamed_cells names cs) ≡ slots_taken c cs
  slots_kept c [] = refl
  slots_kept c (x ∷ xs) = ap (λ n. cond (holds_slot c x.service.sender) (suc n) n) (slots_kept c xs)

  messages_kept : (cs : List Cell) → count_messages (renamed_cells names cs) ≡ count_messages cs
  messages_kept [] = refl
  messages_kept (c ∷ cs) = ap (λ n. cond (is_object c.object.thing) n (suc n)) (messages_kept cs)

  -- what of a queue passes a test that looks at no name
  filter_renamed : (f : Asked → Bool) → ((e : Asked) → f (renamed_asked names e) ≡ f e) → (es : List Asked) →
      filter f (renamed_queue names es) ≡ renamed_queue names (filter f es)
  filter_renamed f same [] = refl
  filter_renamed f same (e ∷ es) = grind (arith, nat_tests, filter_renamed f same es, cond_applied)

  owned_objects_kept : (v : Service) → sessions_in_use (renamed_service names v) ≡ sessions_in_use v
  owned_objects_kept v = grind (arith, nat_tests, filter_renamed, length-map)

  -- ---- what a client leaves behind

  withdrawn_renamed : (c : ℕ) (cs : List Cell) → withdrawn c (renamed_cells names cs) ≡ renamed_cells names (withdrawn c cs)
  withdrawn_renamed c [] = refl
  withdrawn_renamed c (x ∷ xs) = grind (arith, nat_tests, filter_renamed, withdrawn_renamed c xs, cond_applied)

  -- ---- whom it asks

  abbrev renamed_listed : Listed → Listed
  renamed_listed x = record x { name = names x.name }

  listed_renamed : (class : ℕ) (cs : List Cell) → first_listed class (renamed_cells names cs) ≡ option_map renamed_listed (first_listed class cs)
  listed_renamed class [] = refl
  listed_renamed class (c ∷ cs) = grind (arith, nat_tests, listed_renamed class cs)

  server_renamed : (p : Image) (class : ℕ) (cs : List Cell) → asked_server p class (renamed_cells names cs) ≡ option_map renamed_listed (asked_server p class cs)
  server_renamed p class cs = grind (arith, nat_tests, listed_renamed class cs)

  -- ---- what it may do

  closes_renamed : (x : Client) → (row (renamed_client names x)).close ≡ option_map (renamed_client names) (row x).close
  closes_renamed x = grind arith

  dies_renamed : (x : Client) → (row (renamed_client names x)).die ≡ option_map (renamed_client names) (row x).die
  dies_renamed x = grind arith

module _ (names : ℕ → ℕ) (one_to_one : IsOneToOne names) where
  asked_kept : (r : Option CommandRefusal) (most : ℕ) (l : Option Listed) (cs : List Cell) →
      asked_of r most (option_map (renamed_listed names) l) (renamed_cells names cs) ≡ asked_of r most l cs
  asked_kept None most (Some x) cs = grind (arith, nat_tests, service_renamed names one_to_one cs x.name, owned_objects_kept names)
  asked_kept _ most _ cs = refl

  module _ (p : Image) (client : ℕ) (s : State) where
    abbrev s' : State
    s' = renamed names s

    own_renamed : own p client s' ≡ renamed_client names (own p client s)
    own_renamed = client_renamed names s.clients client

    room_kept : (r : Option CommandRefusal) → room p client s' r ≡ room p client s r
    room_kept x = grind (arith, nat_tests, slots_kept names client s.cells, own_renamed, messages_kept names s.cells)

    pub refusal_kept : (command : ClientCommand) → refusal p client s' command ≡ refusal p client s command
    refusal_kept x = grind (arith, nat_tests, own_renamed, server_renamed names p, asked_kept, room_kept)

    connecting_renamed : (r : Option CommandRefusal) (l : Option Listed) (slots : ℕ) →
        connecting p client s' r (option_map (renamed_listed names) l) slots ≡ renamed names (connecting p client s r l slots)
    connecting_renamed None (Some x) slots = grind (
      arith,
      nat_tests,
      asks_renamed names one_to_one (Connect_of client) x.name s.cells,
      with_client_renamed names client (Connecting x.name slots) s.clients,
    )
    connecting_renamed _ _ slots = refl

    message_renamed : (name : ℕ) (words : List ℤ) (server : ℕ) →
        with_message p client s' (names name) words (names server) ≡ renamed_cells names (with_message p client s name words server)
    message_renamed name words server = search (arith, nat_tests, asks_renamed names one_to_one (Message_of client name) server s.cells)

    sending_renamed : (r : Option CommandRefusal) (x : Client) (name : ℕ) (words : List ℤ) →
        sending p client s' r (renamed_client names x) (names name) words ≡ renamed names (sending p client s r x name words)
    sending_renamed x y name words = grind (arith, nat_tests, message_renamed name words)

    reported_renamed : (x : Client) (cs : List Cell) → reported p client s' (renamed_client names x) (renamed_cells names cs) ≡ renamed_cells names (reported p client s x cs)
    reported_renamed x cs = grind (arith, nat_tests, asks_renamed names one_to_one (Close_of client))

    leaving_renamed : (to : Option Client) → leaving p client s' (option_map (renamed_client names) to) ≡ renamed names (leaving p client s to)
    leaving_renamed x = grind (arith, nat_tests, own_renamed, withdrawn_renamed names client s.cells, reported_renamed, with_client_renamed names client)

    pub commanded_renamed : (command : ClientCommand) (name : ℕ) → commanded p client s' command (names name) ≡ renamed names (commanded p client s command name)
    commanded_renamed (Connect class slots) name =
        grind (arith, nat_tests, refusal_kept (Connect class slots), server_renamed names p class s.cells, connecting_renamed)
    commanded_renamed (Send words) name = grind (arith, nat_tests, refusal_kept (Send words), own_renamed, sending_renamed)
    commanded_renamed Close name = grind (arith, nat_tests, own_renamed, closes_renamed names, leaving_renamed)
    commanded_renamed Die name = grind (arith, nat_tests, own_renamed, dies_renamed names, leaving_renamed)
