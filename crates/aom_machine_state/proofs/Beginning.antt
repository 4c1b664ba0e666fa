-- What the machine keeps of clients and servers as it begins: nobody asked for anything, and there is no message.
use Rattle.std.proofs.Common.{List, None, Option, [], ap, arith, length, refl, subst, sym, ℕ, ◌∙◌, ◌≡◌}
use Rattle.std.proofs.lemmas.List.{length-replicate}
use Rattle.std.proofs.lemmas.Bool.{false≢true}
use Rattle.std.proofs.lemmas.Option.{none-some}
use Rattle.std.specs.Prelude.{AllPairs, map, ◌<◌}
use Rattle.aom_clients.specs.Clients as kept
use Rattle.aom_clients.specs.Clients.{ClientsState, at_first, client_at, queue_at}
use Rattle.aom_clients.specs.Table.{is_queued}
use Rattle.aom_clients.specs.declared.client.Client.TheVariants.{Unconnected}
use Rattle.aom_clients.specs.declared.entry.QueueEntry.{QueueEntry}
use Rattle.aom_clients.specs.declared.place.MessagePlace.TheVariants.{Free}
use Rattle.aom_image.specs.Image.{Image}
use Rattle.aom_cells.specs.Store.{Store}
use Rattle.aom_clients.specs.Lists.{Table, empty as no_list}
use Rattle.aom_semantics.specs.Places.{requested}
use Rattle.aom_semantics.specs.Servers.{is_among}
use Rattle.aom_machine_state.specs.Listing.{SameListed, order_in}
use Rattle.aom_machine_state.specs.Messages.{SameMessages}
use Rattle.aom_machine_state.specs.Services.{SameServices}
use Rattle.aom_machine_state.specs.Serving.{AreSized, Once, SameClients, asked_by, holds, sent_by, sessionless}
use Rattle.aom_machine_state.specs.Tokens.{SameTokens}
use Rattle.aom_machine_state.proofs.CellWords.{all_same}
use Rattle.aom_cells.specs.Tokens.{Kept, class_kept, none_of}
use Rattle.aom_cells.specs.declared.tokens.Token.{Token}

-- each client is unconnected, and nothing waits anywhere
pub first_client : (cells c : ℕ) → client_at (at_first cells) c ≡ Unconnected
unfolding at_first
first_client cells c = all_same 64 c Unconnected

pub first_queue : (cells n : ℕ) → queue_at (at_first cells) n ≡ []
unfolding at_first
first_queue cells n = all_same cells n []

first_place : (cells m : ℕ) → kept.place_at (at_first cells) m ≡ Free
unfolding at_first
first_place cells m = all_same 1024 m Free

first_sessions : (cells n : ℕ) → kept.sessions_at (at_first cells) n ≡ []
unfolding at_first
first_sessions cells n = all_same cells n []

first_sent : (cells c : ℕ) → kept.sent_at (at_first cells) c ≡ []
unfolding at_first
first_sent cells c = all_same 64 c []

first_sized : (cells : ℕ) → AreSized cells (at_first cells)
unfolding at_first
first_sized cells =
    record { places = length-replicate 1024 Free; queues = length-replicate {A = List QueueEntry} cells []; sessions = length-replicate {A = List ℕ} cells [] }

first_many : (cells : ℕ) → length (at_first cells).clients ≡ 64
unfolding at_first
first_many cells = length-replicate 64 Unconnected

first_lists : (cells : ℕ) → length (at_first cells).sent ≡ 64
unfolding at_first
first_lists cells = length-replicate {A = List ℕ} 64 []

-- so they stand for the clients of a state with no cell
clients_begin : (cells : ℕ) → SameClients (at_first cells) [] []
clients_begin cells =
    let s = at_first cells in
    record {
      at = λ c. ap sessionless (first_client cells c);
      queues = λ n. ap (map (asked_by s.places)) (first_queue cells n);
      sessions = λ n. first_sessions cells n;
      senders = λ m. ap (sent_by (holds s m)) (first_place cells m);
      waits = λ m. ap is_queued (first_place cells m);
      out = λ c m h. absurd (false≢true (sym (ap (is_among m) (first_sent cells c)) ∙ h));
      slotted = λ m c e. absurd (let clash = sym (first_place cells m) ∙ e in cc);
      once = λ c. subst Once (sym (first_sent cells c)) tt;
      silent = λ n c small. refl;
      many = first_many cells;
      lists = first_lists cells;
    }

messages_begin : (p : Image) → SameMessages p (record { slots = []; limit = p.header.messages }) []
messages_begin p = record { there = λ m. refl; within = λ m high. refl; past = λ n small. refl; words = λ m w. refl; count = refl; limit = refl }

listed_begin : (p : Image) → SameListed p (no_list p.header.cells 256) []
listed_begin p = record {
  there = λ n class. ap (is_among n) (all_same 256 class []);
  order = λ class. subst (λ ns. AllPairs (λ a b. order_in (requested [] a) < order_in (requested [] b)) ns) (sym (all_same 256 class []))
      (λ i j d less within. absurd (omega (arith, within)));
  classes = length-replicate {A = List ℕ} 256 [];
  nodes = refl;
}

-- no message is a token
tokens_begin : (p : Image) → SameTokens p (none_of p.header.messages p.header.cells) []
tokens_begin p = record {
  classes = λ m. ap class_kept (all_same p.header.messages m None);
  waits = λ n k e. absurd (none-some k e);
  lives = λ n m e. absurd (none-some m (sym (all_same p.header.cells n None) ∙ e));
  places = length-replicate {A = Option Token} p.header.messages None;
  cells = length-replicate {A = Option ℕ} p.header.cells None;
}

module _ (p : Image) (s : ClientsState) (store : Store) (tokens : Kept) (table : Table) where
  pub services_begin : s ≡ at_first p.header.cells → store ≡ record { slots = []; limit = p.header.messages } →
      tokens ≡ none_of p.header.messages p.header.cells → table ≡ no_list p.header.cells 256 → SameServices p s store tokens table [] []
  services_begin clients messages handed listed = subst (λ x. SameServices p x store tokens table [] []) (sym clients)
      (subst (λ x. SameServices p (at_first p.header.cells) x tokens table [] []) (sym messages)
      (subst (λ x. SameServices p (at_first p.header.cells) (record { slots = []; limit = p.header.messages }) x table [] []) (sym handed)
      (subst (λ x. SameServices p (at_first p.header.cells) (record { slots = []; limit = p.header.messages }) (none_of p.header.messages p.header.cells) x [] []) (sym listed)
      (record { clients = clients_begin p.header.cells; sized = first_sized p.header.cells; messages = messages_begin p; tokens = tokens_begin p; listed = listed_begin p }))))
