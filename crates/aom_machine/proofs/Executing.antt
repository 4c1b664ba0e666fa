-- A command of a client: what clients are at, the messages that are kept and the schedule stand for what the checked machine comes to.
use Rattle.std.proofs.lemmas.Bool.Decides.{nat_tests}
use Rattle.std.proofs.Common.{ap, arith, Bool, length, List, None, Option, pos, refl, Some, subst, suc, sym, zero, ℕ, ℤ, ◌∙◌, ◌∷◌, ◌≡◌, slice_index_or, [], ◌<◌}
use Rattle.std.proofs.Common.{◌≤◌}
use Rattle.std.specs.Prelude.{IfSome, is_some, option_map}
use Rattle.std.proofs.lemmas.Bool.{false≢true}
use Rattle.aom_clients.specs.Clients as kept
use Rattle.aom_clients.specs.Table.{row}
use Rattle.aom_clients.specs.declared.client.Client.{Client}
use Rattle.aom_clients.specs.declared.client.Client.TheVariants.{Open, Unconnected}
use Rattle.aom_clients.specs.declared.refusal.CommandRefusal.{CommandRefusal}
use Rattle.aom_image.specs.Image.{Image}
use Rattle.aom_cells.specs.Store.{Store, word_of, message_at}
use Rattle.aom_roles.specs.Tables.{at}
use Rattle.aom_semantics.specs.Clients.{client_at, commanded, leaving, refusal, room, sending}
use Rattle.aom_semantics.specs.Places.{Cell, Message_of, named}
use Rattle.aom_semantics.specs.Servers.{asked_last, reserved, withdrawn}
use Rattle.aom_semantics.specs.State.{State}
use Rattle.aom_transcript.specs.declared.event.ClientCommand.TheVariants.{Close, Connect, Die, Send}
use Rattle.aom_machine.proofs.MachineStateLemmas.{cell_small, message_made, messages_served, row_close, row_die}
use Rattle.aom_machine_state.specs.Messages.{SameMessages}
use Rattle.aom_machine_state.specs.Serving.{SameClients, message_name, sessionless}
use Rattle.aom_machine_state.specs.Agrees.{SameCells}
use Rattle.aom_machine.proofs.ByCommand.{by_connecting, by_reported}
use Rattle.aom_machine.specs.Clients.{Forgets, Keeps_sent, SameKept}
use Rattle.aom_cells.specs.Heap.{Heap}
use Rattle.aom_machine.proofs.MachineInstructionsLemmas.{no_thing}

-- ---- the name of what is sent

-- of the message at a place, or one that no place has
abbrev pub sent_name : Option ℕ → ℕ
sent_name None = message_name 1024
sent_name (Some m) = message_name m

-- which is free where nothing is kept
module _ (p : Image) (h : Heap) (store : Store) (cs : List Cell) (cells : SameCells p h cs) (few : p.header.cells ≤ 4096) (messages : SameMessages p store cs) where
  pub free_name : (m : ℕ) → message_at store m ≡ None → named cs (message_name m) ≡ None
  free_name m none = grind (arith, nat_tests, no_thing, cell_small p h cs cells few)

  pub sent_free : (place : Option ℕ) → IfSome place (λ m. (m < 1024) × (message_at store m ≡ None)) → named cs (sent_name place) ≡ None
  sent_free x free = grind (arith, nat_tests, free_name 1024)

-- ---- the messages

-- the same words at each place, whichever way they are read
at_read : (ws : List ℤ) (w : ℕ) → slice_index_or ws w (pos 0) ≡ at (pos 0) ws w
at_read [] w = refl
at_read (x ∷ xs) zero = refl
at_read (x ∷ xs) (suc w) = at_read xs w

-- where the same are kept
still_kept : (p : Image) (before after : Store) (cs : List Cell) → SameKept before after → SameMessages p before cs → SameMessages p after cs
still_kept p before after cs k same = record {
  there = λ m. ap is_some (k.all m) ∙ same.there m;
  within = λ m high. k.all m ∙ same.within m high;
  past = same.past;
  words = λ m w. ap (λ ws. word_of ws w) (k.all m) ∙ same.words m w;
  count = k.count ∙ same.count;
  limit = k.limit ∙ same.limit;
}

-- where none is left
forgets_none : (before after : Store) → Forgets [] before after → SameKept before after
forgets_none before after f = record { all = λ m. f.others m refl; count = let c = f.count in omega (arith, c); limit = f.limit }

-- only an open client sends
only_open : (x : Client) → (row x).send ≡ None → (server : ℕ) × (session : ℕ) × (slots : ℕ) × (x ≡ Open server session slots)
only_open x e = grind arith

unrefused : (p : Image) (c : ℕ) (v : State) (r : Option CommandRefusal) → room p c v r ≡ None → r ≡ None
unrefused p c v r e = grind arith

module _ (p : Image) (c : ℕ) (v : State) (k : kept.ClientsState) (same : SameClients k v.cells v.clients) (before after : Store)
    (messages : SameMessages p before v.cells) where
  pub messages_connect : (class slots name : ℕ) → after ≡ before → SameMessages p after (commanded p c v (Connect class slots) name).cells
  messages_connect class slots name still = grind (arith, nat_tests, by_connecting p c v, messages_served p before v.cells)

  -- what is sent is kept, where it is not refused
  pub messages_send : (words : List ℤ) (place : Option ℕ) →
      IfSome place (λ m. (m < 1024) × (message_at before m ≡ None)) → kept.send_refusal c place k ≡ refusal p c v (Send words) →
      Keeps_sent (kept.send_refusal c place k) place words before after → SameMessages p after (commanded p c v (Send words) (sent_name place)).cells
  messages_send words place free alike is_kept =
      go (refusal p c v (Send words)) refl place refl free (subst (λ r. Keeps_sent r place words before after) alike is_kept)
    where
      -- it needs a place
      no_place : (r : Option CommandRefusal) (b : Bool) → kept.sending_to r b None ≡ None → ⊥
      no_place r b e = grind arith

      went_in : (m : ℕ) → m < 1024 → Keeps_sent None (Some m) words before after →
          refusal p c v (Send words) ≡ None → SameMessages p after (sending p c v None (client_at v.clients c) (message_name m) words).cells
      went_in m low is_kept e =
          let o = only_open (client_at v.clients c) (unrefused p c v (row (client_at v.clients c)).send e) in
          let from = messages_served p before v.cells o.0 _ messages in
          subst (λ x. SameMessages p after (sending p c v None x (message_name m) words).cells) (sym o.3) (message_made p before after
          (reserved (asked_last (Message_of c (message_name m))) o.0 v.cells) _ m words from refl (λ w. at_read words w) low is_kept.0 is_kept.1)

      go : (r : Option CommandRefusal) → refusal p c v (Send words) ≡ r → (y : Option ℕ) → place ≡ y → IfSome y (λ m. (m < 1024) × (message_at before m ≡ None)) →
          Keeps_sent r y words before after → SameMessages p after (sending p c v r (client_at v.clients c) (sent_name y) words).cells
      go (Some r) e y f free is_kept = still_kept p before after v.cells is_kept messages
      go None e (Some m) f free is_kept = went_in m free.0 is_kept e
      go None e None f free is_kept = absurd (no_place (row (kept.client_at k c)).send
          (kept.has_slot (length (kept.sent_at k c)) (kept.client_at k c)) (sym (ap (λ y. kept.send_refusal c y k) f) ∙ alike ∙ e))

  -- what a client leaves is kept no more
  module _ (withdraws : Forgets (kept.freed (Some Unconnected) c k) before after → SameMessages p after (withdrawn c v.cells)) where
    messages_left : (to to' : Option Client) → is_some to ≡ is_some to' → Forgets (kept.freed to c k) before after → SameMessages p after (leaving p c v to').cells
    messages_left None None e f = still_kept p before after v.cells (forgets_none before after f) messages
    messages_left None (Some x) e f = absurd (false≢true e)
    messages_left (Some x) None e f = absurd (false≢true (sym e))
    messages_left (Some x) (Some y) e f = grind (arith, nat_tests, by_reported p c v, messages_served p after)

    some_alike : (x y : Option Client) → y ≡ option_map sessionless x → is_some x ≡ is_some y
    some_alike x y e = grind arith

    pub messages_close : Forgets (kept.freed (row (kept.client_at k c)).close c k) before after → (name : ℕ) →
        SameMessages p after (commanded p c v Close name).cells
    messages_close f name = messages_left (row (kept.client_at k c)).close
        (row (client_at v.clients c)).close (some_alike _ _ (ap (λ x. (row x).close) (sym (same.at c)) ∙ row_close (kept.client_at k c))) f

    pub messages_die : Forgets (kept.freed (row (kept.client_at k c)).die c k) before after → (name : ℕ) → SameMessages p after (commanded p c v Die name).cells
    messages_die f name = messages_left (row (kept.client_at k c)).die (row (client_at v.clients c)).die
        (some_alike _ _ (ap (λ x. (row x).die) (sym (same.at c)) ∙ row_die (kept.client_at k c))) f
