-- What the going of a session's cell makes of the lists: nothing, since none asks for that cell.
use Rattle.std.proofs.Common.{◌≡◌, ◌<◌, ◌≤◌, ◌∙◌, ℕ, List, length, inl, inr, sym, ap, refl, subst, arith}
use Rattle.std.specs.Prelude.{slice_set}
use Rattle.std.proofs.lemmas.Bool.{cases_eq}
use Rattle.std.proofs.lemmas.List.{length-set, get_or-set_other, get_or-set_same}
use Rattle.aom_clients.specs.Lists.{Table}
use Rattle.aom_clients.specs.declared.client.Client.{Client}
use Rattle.aom_clients.specs.declared.client.Client.TheVariants.{Unconnected}
use Rattle.aom_clients.specs.declared.place.MessagePlace.{MessagePlace}
use Rattle.aom_clients.specs.Table.{server_of, released}
use Rattle.aom_clients.specs.Clients.{ClientsState}
use Rattle.aom_clients.specs.Nodes.{ClientTablesAgree, is_connecting_at, is_leaving, is_open_at, named_by, slots_of, state_of}
use Rattle.aom_clients.proofs.Kept.{sized-as}
use Rattle.aom_clients.proofs.Steps.{client}
use Rattle.aom_clients.proofs.Tables.{alike-same}

-- ---- a client without its cell

server-still : (x : Client) → server_of (released x) ≡ server_of x
server-still x = grind arith

named-still : (x : Client) → named_by (released x) ≡ named_by x
named-still x = grind arith

connecting-still : (k : ℕ) (x : Client) → is_connecting_at k (released x) ≡ is_connecting_at k x
connecting-still k x = grind arith

leaving-still : (k : ℕ) (x : Client) → is_leaving k (released x) ≡ is_leaving k x
leaving-still k x = grind arith

open-still : (k : ℕ) (x : Client) → is_open_at k (released x) ≡ is_open_at k x
open-still k x = grind arith

slots-still : (x : Client) → slots_of (released x) ≡ slots_of x
slots-still x = grind arith

-- ---- all clients

module _ (cl : List Client) (pl : List MessagePlace) (q cn ss st : Table) (r : ClientTablesAgree cl pl q cn ss st) (s : ClientsState) (is : state_of cl pl q ss st ≡ s) (c : ℕ)
    (few : c < length cl) where
  abbrev pub after : List Client
  after = slice_set cl c (released (client cl c))

  still : {X : Type 0} (f : Client → X) → ((x : Client) → f (released x) ≡ f x) → (d : ℕ) → f (client after d) ≡ f (client cl d)
  still f same d = elim (cases_eq d c) [
    | inl e ↦ subst (λ k. f (client after k) ≡ f (client cl k)) (sym e) (ap f (get_or-set_same cl c (released (client cl c)) Unconnected few) ∙ same (client cl c))
    | inr apart ↦ ap f (get_or-set_other cl c d (released (client cl c)) Unconnected apart)
  ]

  pub released-kept : ClientTablesAgree after pl q cn ss st
  released-kept = record {
    sized = sized-as _ _ _ _ _ _ _ _ _ _ _ _ (length-set cl c (released (client cl c))) refl (alike-same q) (alike-same cn) (alike-same ss) (alike-same st) r.sized;
    entries = record {
      messages = r.entries.messages;
      connects = λ k d less i. still (is_connecting_at k) (connecting-still k) d ∙ r.entries.connects k d less i;
      closes = λ k d less i. still (is_leaving k) (leaving-still k) d ∙ r.entries.closes k d less i;
      waits = λ d m e.
          let w = r.entries.waits d m e in
          record { server = w.server; open_there = still (is_open_at w.server) (open-still w.server) d ∙ w.open_there; there = w.there };
    };
    listed = r.listed;
    connected = record {
      has = λ k d i. still server_of server-still d ∙ r.connected.has k d i;
      listed = λ k d e. r.connected.listed k d (sym (still server_of server-still d) ∙ e);
    };
    out = r.out;
    named = record {
      servers = λ d k e. r.named.servers d k (sym (still named_by named-still d) ∙ e);
      slots = λ d. subst (λ n. n ≤ 64) (sym (still slots_of slots-still d)) (r.named.slots d);
    };
  }
