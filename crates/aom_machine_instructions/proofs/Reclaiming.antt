-- What goes with a server: entry by entry of its queue, and session by session.
use Rattle.std.proofs.lemmas.Bool.Decides.{nat_tests}
use Rattle.std.proofs.Common.{Bool, List, None, Some, [], ap, append_assoc, arith, false, length, refl, slice_index_or, subst, sym, true, ℕ, ◌+◌, ◌++◌, ◌<◌}
use Rattle.std.proofs.Common.{◌==◌, ◌∙◌, ◌∷◌, ◌≡◌, ◌≤◌}
use Rattle.std.specs.Prelude.{◌||◌}
use Rattle.std.proofs.lemmas.Bool.{eq-eqb, ne_eqb, false≢true}
use Rattle.std.proofs.lemmas.List.{get_or-set_other, get_or-set_same, length-append, length-set}
use Rattle.std.proofs.lemmas.List.Folds.{list_any-append}
use Rattle.std.proofs.lemmas.Option.{none-some, same_Some}
use Rattle.aom_clients.specs.Clients.{ClientsState, after_next_gone, first_entry, gone, going, place_at, queue_at, queue_gone, sessions_at, taken_entry, with_queue}
use Rattle.aom_clients.specs.declared.entry.QueueEntry.{QueueEntry}
use Rattle.aom_clients.specs.declared.entry.QueueEntry.TheVariants.{Message}
use Rattle.aom_clients.specs.declared.entry.TakenEntry.{TakenEntry}
use Rattle.aom_cells.specs.Store.{Store, message_at}
use Rattle.aom_machine_state.specs.LineBuffer.{LineBuffer}
use Rattle.aom_machine_state.specs.declared.parts.Parts.{Parts}
use Rattle.aom_machine_instructions.specs.Serving.{AllKept, Drops, EntryKept, IsOnce, answers, count_messages, gone_line, gone_lines, has_message, is_message}
use Rattle.aom_machine_instructions.proofs.MachineStateLemmas.{front_false}

-- ---- messages that are kept no more

-- a message that is in that entry is the same as the one of the other
same_message : (m k : ℕ) → (m == k) ≡ false → (k == m) ≡ false
same_message m k e = ne_eqb k m (λ is. false≢true (sym e ∙ eq-eqb m k (sym is)))

-- what waits behind an entry is another message
apart : (e : QueueEntry) (m : ℕ) (es : List QueueEntry) → IsOnce e (Message m ∷ es) → has_message m (e ∷ []) ≡ false
apart x m es once = grind (arith, nat_tests, same_message m, front_false)

once_behind : (e f : QueueEntry) (es : List QueueEntry) → IsOnce e (f ∷ es) → IsOnce e es
once_behind x f es once = grind (arith, nat_tests, front_false)

-- those behind an entry that went are kept
kept_still : (e : QueueEntry) (old new : Store) → Drops (e ∷ []) old new → (es : List QueueEntry) → IsOnce e es → AllKept old es → AllKept new es
kept_still e old new drops [] once kept = tt
kept_still e old new drops (f ∷ es) once kept = (still f once kept.0, kept.1, kept_still e old new drops es (once_behind e f es once) kept.2)
  where
    still : (f : QueueEntry) → IsOnce e (f ∷ es) → EntryKept old f → EntryKept new f
    still x y z = grind (arith, nat_tests, apart e)

counts : (xs ys : List QueueEntry) → count_messages (xs ++ ys) ≡ count_messages xs + count_messages ys
counts [] ys = omega arith
counts (Message m ∷ xs) ys = let more = counts xs ys in omega (arith, more)
counts (_ ∷ xs) ys = counts xs ys

-- one more is dropped
drops_more : (done : List QueueEntry) (e : QueueEntry) (old mid new : Store) → Drops done old mid → Drops (e ∷ []) mid new → Drops (done ++ e ∷ []) old new
drops_more done e old mid new before last = record {
  gone = λ m is. split m (has_message m done) (has_message m (e ∷ [])) refl refl (sym (list_any-append (is_message m) done (e ∷ [])) ∙ is);
  others = grind (arith, nat_tests, front_false, list_any-append);
  count = let a = before.count in let b = last.count in let c = counts done (e ∷ []) in omega (arith, a, b, c);
  limit = last.limit ∙ before.limit;
}
  where
    split : (m : ℕ) (a b : Bool) → has_message m done ≡ a → has_message m (e ∷ []) ≡ b → (a || b) ≡ true → message_at new m ≡ None
    split m a x is_a is_b is = grind arith

-- ---- a queue goes entry by entry

-- what becomes of an entry changes no queue
queues_still : (e : QueueEntry) (s : ClientsState) → (going e s).queues ≡ s.queues
queues_still x s = grind arith

-- nor of another message its sender
senders_still : (e : QueueEntry) (s : ClientsState) (m : ℕ) (es : List QueueEntry) → IsOnce e (Message m ∷ es) → place_at (going e s) m ≡ place_at s m
senders_still x s m es once = grind (arith, nat_tests, get_or-set_other s.places, front_false, eq-eqb m)

-- so that the lines of those behind it are as they were
lines_still : (e : QueueEntry) (s : ClientsState) (es : List QueueEntry) → IsOnce e es → gone_lines (going e s) es ≡ gone_lines s es
lines_still e s [] once = refl
lines_still e s (f ∷ es) once = grind (arith, nat_tests, lines_still e s es (once_behind e f es once), once_behind e f es once, senders_still e s)

entry_taken : (s : ClientsState) (e : QueueEntry) → (taken_entry s e).entry ≡ e
entry_taken s x = grind arith

-- an entry is one line, or none
line_counted : (s : ClientsState) (e : QueueEntry) (es : List QueueEntry) → length (gone_line (taken_entry s e)) + answers es ≡ answers (e ∷ es)
line_counted s x es = grind arith

-- so far these have gone
pub record Going (n : ℕ) (old now : Parts) (reported line : LineBuffer) : Type 0 where
  pub done : List QueueEntry
  pub split : done ++ queue_at now.clients n ≡ queue_at old.clients n
  pub within : n < length now.clients.queues
  pub clients : queue_gone n (queue_at now.clients n) now.clients ≡ queue_gone n (queue_at old.clients n) old.clients
  pub kept : AllKept now.messages (queue_at now.clients n)
  pub drops : Drops done old.messages now.messages
  pub rest : now ≡ record old { clients = now.clients; messages = now.messages }
  pub lines : line.lines ++ gone_lines now.clients (queue_at now.clients n) ≡ reported.lines ++ gone_lines old.clients (queue_at old.clients n)
  pub buffer : line ≡ record reported { lines = line.lines }
  pub room : length line.lines + answers (queue_at now.clients n) ≤ reported.room

-- one entry more
pub goes_on : (n : ℕ) (old mid new : Parts) (reported line line' : LineBuffer) (t : TakenEntry) → Going n old mid reported line →
    Some t ≡ first_entry mid.clients (queue_at mid.clients n) → new ≡ record mid { clients = after_next_gone n mid.clients; messages = new.messages } →
    Drops (t.entry ∷ []) mid.messages new.messages → line' ≡ record line { lines = line.lines ++ gone_line t } → Going n old new reported line'
goes_on n old mid new reported line line' t so first is drops written = go (queue_at mid.clients n) refl first
  where
    s : ClientsState
    s = mid.clients

    go : (q : List QueueEntry) → queue_at s n ≡ q → Some t ≡ first_entry s q → Going n old new reported line'
    go [] e first = absurd (none-some _ (sym first))
    go (f ∷ es) e first =
        let taken : t ≡ taken_entry s f = same_Some t (taken_entry s f) first in
        let entry : t.entry ≡ f = ap (λ (x : TakenEntry). x.entry) taken ∙ entry_taken s f in
        let clients : new.clients ≡ going f (with_queue n es s) = ap (λ (m : Parts). m.clients) is ∙ ap (λ q. gone n q s) e in
        let set : queue_at (with_queue n es s) n ≡ es = get_or-set_same s.queues n es [] so.within in
        let queue : queue_at new.clients n ≡ es = ap (λ (c : ClientsState). queue_at c n) clients
        ∙ ap (λ qs. slice_index_or qs n []) (queues_still f (with_queue n es s)) ∙ set in
        let dropped : Drops (f ∷ []) mid.messages new.messages = subst (λ x. Drops (x ∷ []) mid.messages new.messages) entry drops in
        let kept : AllKept mid.messages (f ∷ es) = subst (AllKept mid.messages) e so.kept in
        let still : gone_lines new.clients es ≡ gone_lines s es = ap (λ c. gone_lines c es) clients ∙ lines_still f (with_queue n es s) es kept.1 in
        let said : line'.lines ≡ line.lines ++ gone_line (taken_entry s f) = ap (λ (x : LineBuffer). x.lines) written ∙ ap (λ x. line.lines ++ gone_line x) taken in
        record {
          done = so.done ++ f ∷ [];
          split = append_assoc so.done (f ∷ []) (queue_at new.clients n) ∙ ap (λ q. so.done ++ f ∷ q) queue ∙ ap (λ q. so.done ++ q) (sym e) ∙ so.split;
          within = subst (λ k. n < k)
              (sym (ap (λ (c : ClientsState). length c.queues) clients ∙ ap length (queues_still f (with_queue n es s)) ∙ length-set s.queues n es)) so.within;
          clients = ap (λ q. queue_gone n q new.clients) queue ∙ ap (queue_gone n es) clients ∙ sym (ap (λ q. queue_gone n q s) e) ∙ so.clients;
          kept = subst (AllKept new.messages) (sym queue) (kept_still f mid.messages new.messages dropped es kept.1 kept.2);
          drops = drops_more so.done f old.messages mid.messages new.messages so.drops dropped;
          rest = is ∙ ap (λ (m : Parts). record m { clients = after_next_gone n s; messages = new.messages }) so.rest
              ∙ ap (λ c. record old { clients = c; messages = new.messages }) (sym (ap (λ (m : Parts). m.clients) is));
          lines = ap (λ q. line'.lines ++ gone_lines new.clients q) queue ∙ ap (λ ls. line'.lines ++ ls) still ∙ ap (λ ls. ls ++ gone_lines s es) said
              ∙ append_assoc line.lines (gone_line (taken_entry s f)) (gone_lines s es) ∙ sym (ap (λ q. line.lines ++ gone_lines s q) e) ∙ so.lines;
          buffer = written ∙ ap (λ (x : LineBuffer). record x { lines = line.lines ++ gone_line t }) so.buffer
              ∙ ap (λ ls. record reported { lines = ls }) (sym (ap (λ (x : LineBuffer). x.lines) written));
          room =
              let many = ap length said ∙ length-append line.lines (gone_line (taken_entry s f)) in
              let one = line_counted s f es in
              let left = ap answers queue in
              let had = subst (λ q. length line.lines + answers q ≤ reported.room) e so.room in
              omega (arith, many, one, left, had);
        }

-- a queue that went left the sessions as they were
pub sessions_still : (n : ℕ) (es : List QueueEntry) (s : ClientsState) → sessions_at (queue_gone n es s) n ≡ sessions_at s n
sessions_still n [] s = refl
sessions_still n (e ∷ es) s = grind (arith, nat_tests, sessions_still n es)
