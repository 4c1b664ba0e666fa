-- A token is handed out: one more message, which clients have nothing of, and a request that waits for it; all that the machine keeps goes on standing for the
-- cells.
use Rattle.std.proofs.lemmas.Bool.Decides.{nat_tests}
use Rattle.std.proofs.Common.{List, None, Option, Some, [], ap, arith, cond, false, refl, sym, ℕ, pos, ◌+◌, ◌<◌, ◌==◌, ◌≤◌, ◌∙◌, ◌≡◌}
use Rattle.std.specs.Prelude.{is_some, option_map}
use Rattle.std.proofs.lemmas.Bool.{eq-eqb, eqb-true}
use Rattle.aom_machine_state.proofs.ActiveObjectsLemmas.{asked_set}
use Rattle.aom_active_objects.specs.Agrees.{Active}
use Rattle.aom_cells.specs.Heap.{Heap}
use Rattle.aom_clients.specs.Clients.{ClientsState as Kept_state}
use Rattle.aom_clients.specs.declared.client.Client.{Client}
use Rattle.aom_image.specs.Image.{Image}
use Rattle.aom_image.specs.declared.method.Thing.TheVariants.{Message}
use Rattle.aom_cells.specs.Store.{Changes, Store, count}
use Rattle.aom_clients.specs.Lists.{Table}
use Rattle.aom_cells.specs.Sessions.{Standing}
use Rattle.aom_machine_state.proofs.SafetyLemmas.{request_updated_alike, service_asked, service_unnamed}
use Rattle.aom_semantics.specs.Places.{Cell, Elsewhere, Object, Place, Request, Root, Service, Token, named, requested, service_of, set_request, unserved}
use Rattle.aom_semantics.specs.Servers.{is_queue}
use Rattle.aom_semantics.specs.State.{Inside}
use Rattle.aom_semantics.specs.Tokens.{awaited, promised, with_token}
use Rattle.aom_cells.specs.Tokens.{Kept, Sets}
use Rattle.aom_machine_state.proofs.Asking.{cells_asked}
use Rattle.aom_machine_state.proofs.Beside.{Beside, beside_message, cells_beside, listed_beside, natives_beside, requests_beside}
use Rattle.aom_machine_state.proofs.Listing.{listed_alike}
use Rattle.aom_machine_state.proofs.Messages.{message_made, messages_asked}
use Rattle.aom_machine_state.proofs.Sessions.{natives_asked}
use Rattle.aom_machine_state.proofs.Completing.{owner_unnamed}
use Rattle.aom_machine_state.proofs.CellWords.{all_same}
use Rattle.aom_machine_state.proofs.Serving.{names_apart}
use Rattle.aom_machine_state.proofs.Still.{same_still, same_unreported, still_requested, unreported}
use Rattle.aom_machine_state.proofs.Tokens.{tokens_handed}
use Rattle.aom_machine_state.specs.Agrees.{SameCells, SameNatives, SameRequests}
use Rattle.aom_machine_state.specs.Services.{SameServices}
use Rattle.aom_machine_state.specs.Serving.{SameClients, message_name}
use Rattle.aom_machine_state.specs.Tokens.{SameTokens, no_words}

module _ (p : Image) (cs : List Cell) (o : Object) (lives : named cs o.name ≡ Some o) (q : Request)
    (asked : requested cs o.name ≡ Some q) (m class order : ℕ) (owner : Place) (free : named cs (message_name m) ≡ None) (apart : is_queue owner ≡ false) where
  abbrev its : Option Request
  its = Some (promised order q)

  abbrev us : List Cell
  us = set_request o.name its cs

  abbrev token : Token
  token = record { class = class; order = order }

  abbrev new_cell : Cell
  new_cell = record { object = record { name = message_name m; thing = Message }; words = []; request = None; session = false; service = record unserved { token = Some token }; owner = owner }

  abbrev pub with_its_token : List Cell
  with_its_token = with_token (message_name m) token owner us

  names_so : (n : ℕ) → named us n ≡ named cs n
  names_so n = (request_updated_alike cs (Inside o (Elsewhere Root)) its).named_so n

  free_then : named us (message_name m) ≡ None
  free_then = names_so (message_name m) ∙ free

  beside : Beside us with_its_token
  beside = beside_message us new_cell free_then refl (omega arith) refl refl

  pub cells_handed : (h : Heap) → SameCells p h cs → SameCells p h with_its_token
  cells_handed h same = cells_beside p h us with_its_token beside (cells_asked p h cs o.name its same)

  pub natives_handed : (a : Standing) (killed : List ℕ) → p.header.cells ≤ 4096 → SameNatives p a cs killed → SameNatives p a with_its_token killed
  natives_handed a killed few same = natives_beside p a killed us with_its_token few beside (natives_asked p a killed cs o.name its same)

  -- clients have the same at all names
  services_so : (n : ℕ) → unreported (service_of with_its_token n) ≡ unreported (service_of us n)
  services_so n = grind (arith, nat_tests, unreported, service_unnamed, eqb-true, free_then)

  pub requests_handed : (a : Active) → SameRequests p a us → SameRequests p a with_its_token
  requests_handed a same = requests_beside p a us with_its_token beside (λ n some. ap (λ (v : Service). v.queue) (services_so n)) same

  clients_handed : (k : Kept_state) (clients : List Client) → SameClients k cs clients → SameClients k with_its_token clients
  clients_handed k clients same = grind (
    arith,
    nat_tests,
    same_unreported k,
    services_so,
    same_still k cs,
    still_requested cs o.name,
    eqb-true m,
    eq-eqb,
    owner_unnamed,
    free_then,
    names_apart m,
  )

  -- the object's request waits for it, and all others are as before
  asked_then : (n : ℕ) → requested us n ≡ cond (o.name == n) its (requested cs n)
  asked_then n = sym (asked_set cs o.name its (ap is_some lives) n)

  tokens_then : (w now : Kept) → Sets w.places now.places m (Some (record { class = class; object = o.name })) →
      Sets w.living now.living o.name (Some m) → SameTokens p w cs → SameTokens p now with_its_token
  tokens_then w now hands living same =
      tokens_handed p w now cs us same m o.name class order owner (λ n. ap (λ (v : Service). v.token) (service_asked cs o.name its (message_name n))) free_then
      (ap awaited (asked_then o.name) ∙ ap (λ b. awaited (cond b its (requested cs o.name))) (eq-eqb o.name o.name refl))
      (λ n other. ap awaited (asked_then n) ∙ ap (λ b. awaited (cond b its (requested cs n))) other) hands living

  order_so : (n : ℕ) → option_map (λ x. x.order) (requested us n) ≡ option_map (λ x. x.order) (requested cs n)
  order_so n = grind (arith, nat_tests, asked_then n, eqb-true o.name n)

  pub services_handed : (k : Kept_state) (store after : Store) (w now : Kept) (table : Table) (clients : List Client) → m < 1024 →
      Changes store after m (Some no_words) → count after ≡ count store + 1 → Sets w.places now.places m (Some (record { class = class; object = o.name })) →
      Sets w.living now.living o.name (Some m) → SameServices p k store w table cs clients → SameServices p k after now table with_its_token clients
  services_handed k store after w now table clients low adds more hands living same = record {
    clients = clients_handed k clients same.clients;
    sized = same.sized;
    messages = message_made p store after us new_cell m no_words (messages_asked p store cs o.name its same.messages) refl (λ i. all_same 5 i (pos 0)) low adds more;
    tokens = tokens_then w now hands living same.tokens;
    listed = listed_beside p table us with_its_token beside (listed_alike p table cs us names_so order_so same.listed);
  }
