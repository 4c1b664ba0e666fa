-- The messages that are kept, where cells move, change, come and go: by the cells one after another.
use Rattle.std.proofs.lemmas.Bool.Decides.{nat_tests}
use Rattle.std.proofs.Common.{Bool, List, None, Option, Some, [], ap, arith, cond, false, not, refl}
use Rattle.std.proofs.Common.{suc, sym, true, ℕ, ℤ, pos, ◌+◌, ◌<◌, ◌==◌, ◌≤◌, ◌∙◌, ◌∷◌, ◌≡◌}
use Rattle.std.specs.Prelude.{is_some}
use Rattle.std.proofs.lemmas.Bool.{eq-eqb, eqb-true, false≢true, ne_eqb}
use Rattle.aom_image.specs.Image.{Image}
use Rattle.aom_image.specs.declared.method.Thing.{Thing}
use Rattle.aom_image.specs.declared.method.Thing.TheVariants.{Message}
use Rattle.aom_roles.specs.Things.{is_object}
use Rattle.aom_cells.specs.Store.{Changes, Store, count, message_at, word_at, word_of}
use Rattle.aom_roles.specs.Tables.{at}
use Rattle.aom_machine_state.proofs.SafetyLemmas.{counted_by, counted_without, each_slot_released_alike, named_served, named_set_word, request_updated_alike}
use Rattle.aom_machine_state.proofs.SafetyLemmas.{session_updated_alike}
use Rattle.aom_machine_state.proofs.SemanticsLemmas.{named_moved, named_without, unnamed}
use Rattle.aom_semantics.specs.Clients.{count_messages, each_slot_released}
use Rattle.aom_semantics.specs.Places.{Cell, Object, Place, Request, Service, NoDuplicates, held, moved, named, Register, set_request}
use Rattle.aom_semantics.specs.Places.{set_service, set_session, set_word_field, with_new, without, word_field}
use Rattle.aom_semantics.specs.Servers.{all_slot_released}
use Rattle.aom_semantics.specs.State.{Inside}
use Rattle.aom_machine_state.specs.Messages.{SameMessages, is_a_message}
use Rattle.aom_machine_state.specs.Serving.{message_name}
use Rattle.aom_machine_state.proofs.Asking.{words_asked}
use Rattle.aom_machine_state.proofs.Cells.{words_without}
use Rattle.aom_machine_state.proofs.CellWords.{words_moved, words_other, words_unnamed}
use Rattle.aom_machine_state.proofs.Sessions.{words_opened}
use Rattle.aom_machine_state.proofs.SlotReleased.{each_words}

-- ---- how many there are

one_more : (c : Cell) (n k : ℕ) → n ≡ k → cond (is_object c.object.thing) n (suc n) ≡ cond (is_object c.object.thing) k (suc k)
one_more c n k e = ap (λ x. cond (is_object c.object.thing) x (suc x)) e

many_moved : (cs : List Cell) (q r : Place) → count_messages (moved q r cs) ≡ count_messages cs
many_moved [] q r = refl
many_moved (c ∷ cs) q r = one_more c (count_messages (moved q r cs)) (count_messages cs) (many_moved cs q r)

many_written : (cs : List Cell) (n w : ℕ) (v : ℤ) → count_messages (set_word_field n w v cs) ≡ count_messages cs
many_written [] n w v = refl
many_written (c ∷ cs) n w v = one_more c (count_messages (set_word_field n w v cs)) (count_messages cs) (many_written cs n w v)

many_asked : (cs : List Cell) (n : ℕ) (r : Option Request) → count_messages (set_request n r cs) ≡ count_messages cs
many_asked [] n r = refl
many_asked (c ∷ cs) n r = one_more c (count_messages (set_request n r cs)) (count_messages cs) (many_asked cs n r)

many_opened : (cs : List Cell) (n : ℕ) (b : Bool) → count_messages (set_session n b cs) ≡ count_messages cs
many_opened [] n b = refl
many_opened (c ∷ cs) n b = one_more c (count_messages (set_session n b cs)) (count_messages cs) (many_opened cs n b)

many_served : (cs : List Cell) (n : ℕ) (v : Service) → count_messages (set_service n v cs) ≡ count_messages cs
many_served [] n v = refl
many_served (c ∷ cs) n v = one_more c (count_messages (set_service n v cs)) (count_messages cs) (many_served cs n v)

many_slot_released : (c : ℕ) (cs : List Cell) → count_messages (all_slot_released c cs) ≡ count_messages cs
many_slot_released c [] = refl
many_slot_released c (x ∷ xs) = one_more x (count_messages (all_slot_released c xs)) (count_messages xs) (many_slot_released c xs)

each_many : (clients : List ℕ) (cs : List Cell) → count_messages (each_slot_released clients cs) ≡ count_messages cs
each_many [] cs = refl
each_many (c ∷ clients) cs = each_many clients (all_slot_released c cs) ∙ many_slot_released c cs

words_served : (cs : List Cell) (n : ℕ) (v : Service) (k w : ℕ) → word_field (set_service n v cs) k w ≡ word_field cs k w
words_served [] n v k w = refl
words_served (c ∷ cs) n v k w = ap (λ x. cond (c.object.name == k) (at (pos 0) c.words w) x) (words_served cs n v k w)

-- one where a message is there
abbrev pub messages_in : Option Object → ℕ
messages_in None = 0
messages_in (Some o) = cond (is_object o.thing) 0 1

messages_counted : (o : Option Object) → counted_by (λ t. not (is_object t)) o ≡ messages_in o
messages_counted x = grind arith

pub many_without : (cs : List Cell) (g : Place) → NoDuplicates cs → count_messages cs ≡ messages_in (held cs g) + count_messages (without g cs)
many_without cs g no_duplicates = counted_without (record { passes = λ t. not (is_object t); some = λ c cs. go (is_object c.object.thing) (count_messages cs) })
    cs g no_duplicates ∙ ap (λ n. n + count_messages (without g cs)) (messages_counted (held cs g))
  where
    go : (b : Bool) (n : ℕ) → cond b n (suc n) ≡ cond (not b) (suc n) n
    go x n = grind arith

-- ---- whether a message stands at a name

name_apart : (n m : ℕ) → n < message_name 0 → (n == message_name m) ≡ false
name_apart n m small = ne_eqb n (message_name m) (λ e. absurd (omega (arith, small, e)))

is_message_without : (cs : List Cell) (g : Place) (o : Object) → NoDuplicates cs →
    held cs g ≡ Some o → is_object o.thing ≡ true → named cs o.name ≡ Some o → (n : ℕ) → is_a_message (named (without g cs) n) ≡ is_a_message (named cs n)
is_message_without cs g o no_duplicates holds object lives n = grind (arith, nat_tests, eqb-true o.name n, unnamed cs g o no_duplicates holds, named_without cs g o n no_duplicates holds)

-- ---- the store

module _ (p : Image) (store : Store) where
  -- it does not matter by which cells the messages are told
  pub messages_as : (cs ds : List Cell) → ((n : ℕ) → is_a_message (named ds n) ≡ is_a_message (named cs n)) → ((m w : ℕ) → word_field ds
      (message_name m) w ≡ word_field cs (message_name m) w) → count_messages ds ≡ count_messages cs → SameMessages p store cs → SameMessages p store ds
  messages_as cs ds names words many h = record {
    there = λ m. h.there m ∙ sym (names (message_name m));
    within = h.within;
    past = λ n small. names n ∙ h.past n small;
    words = λ m w. h.words m w ∙ sym (words m w);
    count = h.count ∙ sym many;
    limit = h.limit;
  }

  pub messages_moved : (cs : List Cell) (q r : Place) → SameMessages p store cs → SameMessages p store (moved q r cs)
  messages_moved cs q r h =
      messages_as cs (moved q r cs) (λ n. ap is_a_message (named_moved cs q r n)) (λ m w. words_moved cs q r (message_name m) w) (many_moved cs q r) h

  -- a cell's word is written
  pub messages_written : (cs : List Cell) (n w : ℕ) (v : ℤ) → n < message_name 0 → SameMessages p store cs → SameMessages p store (set_word_field n w v cs)
  messages_written cs n w v small h =
      grind (arith, nat_tests, messages_as cs, named_set_word cs n w v, words_other cs n w v, name_apart n, many_written cs n w v)

  pub messages_asked : (cs : List Cell) (n : ℕ) (r : Option Request) → SameMessages p store cs → SameMessages p store (set_request n r cs)
  messages_asked cs n r h = messages_as cs (set_request n r cs) (λ k. ap is_a_message ((request_updated_alike cs
      (Inside (record { name = n; thing = Message }) (Register 0 0)) r).named_so k)) (λ m w. words_asked cs n r (message_name m) w) (many_asked cs n r) h

  pub messages_opened : (cs : List Cell) (n : ℕ) (b : Bool) → SameMessages p store cs → SameMessages p store (set_session n b cs)
  messages_opened cs n b h = messages_as cs (set_session n b cs) (λ k. ap is_a_message ((session_updated_alike cs
      (Inside (record { name = n; thing = Message }) (Register 0 0)) b).named_so k)) (λ m w. words_opened cs n b (message_name m) w) (many_opened cs n b) h

  -- what clients have at a cell
  pub messages_served : (cs : List Cell) (n : ℕ) (v : Service) → SameMessages p store cs → SameMessages p store (set_service n v cs)
  messages_served cs n v h =
      messages_as cs (set_service n v cs) (λ k. ap is_a_message (named_served cs n v k)) (λ m w. words_served cs n v (message_name m) w) (many_served cs n v) h

  pub messages_slot_released : (clients : List ℕ) (cs : List Cell) → SameMessages p store cs → SameMessages p store (each_slot_released clients cs)
  messages_slot_released clients cs h = grind (arith, nat_tests, messages_as cs, each_slot_released_alike clients cs, each_words clients cs, each_many clients cs)

  -- a new cell is no message
  pub messages_made : (cs : List Cell) (n : ℕ) (thing : Thing) (words : List ℤ) (owner : Place) →
      named cs n ≡ None → n < message_name 0 → is_object thing ≡ true → SameMessages p store cs → SameMessages p store (with_new n thing words owner cs)
  messages_made cs n thing words owner fresh small object h = grind (arith, nat_tests, messages_as cs, name_apart n, eqb-true n)

  -- an object goes
  pub messages_without : (cs : List Cell) (g : Place) (o : Object) → NoDuplicates cs → held cs g ≡ Some o →
      named cs o.name ≡ Some o → is_object o.thing ≡ true → o.name < message_name 0 → SameMessages p store cs → SameMessages p store (without g cs)
  messages_without cs g o no_duplicates holds lives object small h = grind (
    arith,
    nat_tests,
    messages_as cs,
    is_message_without cs g o no_duplicates holds object lives,
    words_without cs g o,
    name_apart o.name,
    many_without cs g no_duplicates,
  )

-- ---- a message comes and goes

-- the message at a place goes
pub message_gone : (p : Image) (old new : Store) (cs : List Cell) (g : Place) (o : Object) (m : ℕ) → SameMessages p old cs → NoDuplicates cs → held cs g ≡ Some o →
    is_object o.thing ≡ false → o.name ≡ message_name m → Changes old new m None → count new + 1 ≡ count old → SameMessages p new (without g cs)
message_gone p old new cs g o m h no_duplicates holds message name ch less = record {
  there = λ k. by k (m == k) refl;
  within = λ k high. none_past k high (m == k) refl;
  past = λ n small. ap is_a_message (still n (ap (λ i. i == n) name ∙ ne_eqb (message_name m) n (λ e. absurd (omega (arith, small, e))))) ∙ h.past n small;
  words = λ k w. words k w (m == k) refl;
  count = grind (arith, nat_tests, many_without cs g no_duplicates);
  limit = ch.limit ∙ h.limit;
}
  where
    none : (k : ℕ) → (m == k) ≡ true → named (without g cs) (message_name k) ≡ None
    none k e = ap (λ i. named (without g cs) i) (ap message_name (sym (eqb-true m k e)) ∙ sym name) ∙ unnamed cs g o no_duplicates holds

    gone : (k : ℕ) → (m == k) ≡ true → message_at new k ≡ None
    gone k e = ap (message_at new) (sym (eqb-true m k e)) ∙ ch.here

    still : (n : ℕ) → (o.name == n) ≡ false → named (without g cs) n ≡ named cs n
    still n e = named_without cs g o n no_duplicates holds e

    apart : (k : ℕ) → (m == k) ≡ false → (o.name == message_name k) ≡ false
    apart k e = grind (arith, nat_tests, ne_eqb, eq-eqb m k)

    other : (k : ℕ) → (m == k) ≡ false → message_at new k ≡ message_at old k
    other k e = ch.others k (λ same. false≢true (sym e ∙ eq-eqb m k (sym same)))

    none_past : (k : ℕ) → 1024 ≤ k → (b : Bool) → (m == k) ≡ b → message_at new k ≡ None
    none_past k high true e = gone k e
    none_past k high false e = other k e ∙ h.within k high

    by : (k : ℕ) (b : Bool) → (m == k) ≡ b → is_some (message_at new k) ≡ is_a_message (named (without g cs) (message_name k))
    by k true e = ap is_some (gone k e) ∙ sym (ap is_a_message (none k e))
    by k false e = ap is_some (other k e) ∙ h.there k ∙ sym (ap is_a_message (still (message_name k) (apart k e)))

    words : (k w : ℕ) (b : Bool) → (m == k) ≡ b → word_at new k w ≡ word_field (without g cs) (message_name k) w
    words k w true e = ap (λ x. word_of x w) (gone k e) ∙ sym (words_unnamed (without g cs) (message_name k) w (none k e))
    words k w false e = grind (arith, nat_tests, other k e, words_without cs g o, apart k e)

-- a message of these words comes
pub message_made : (p : Image) (old new : Store) (cs : List Cell) (c : Cell) (m : ℕ) (ws : List ℤ) →
    SameMessages p old cs → c.object ≡ record { name = message_name m; thing = Message } → ((w : ℕ) → word_of (Some ws) w ≡ at (pos 0) c.words w)
    → m < 1024 → Changes old new m (Some ws) → count new ≡ count old + 1 → SameMessages p new (c ∷ cs)
message_made p old new cs c m ws h is reported low ch more = record {
  there = λ k. by k (m == k) refl;
  within = λ k high. other k (ne_eqb m k (λ same. absurd (omega (arith, same, high, low)))) ∙ h.within k high;
  past = grind (arith, nat_tests, ne_eqb);
  words = λ k w. words k w (m == k) refl;
  count = more ∙ (let c = h.count in omega (arith, c)) ∙ sym (ap (λ x. cond (is_object x.thing) (count_messages cs) (suc (count_messages cs))) is);
  limit = ch.limit ∙ h.limit;
}
  where
    its_name : c.object.name ≡ message_name m
    its_name = ap (λ x. x.name) is

    here : (k : ℕ) → (m == k) ≡ true → (c.object.name == message_name k) ≡ true
    here k e = ap (λ i. i == message_name k) its_name ∙ eq-eqb (message_name m) (message_name k) (ap message_name (eqb-true m k e))

    there : (k : ℕ) → (m == k) ≡ false → (c.object.name == message_name k) ≡ false
    there k e = grind (arith, nat_tests, its_name, ne_eqb, eq-eqb m k)

    kept_here : (k : ℕ) → (m == k) ≡ true → message_at new k ≡ Some ws
    kept_here k e = ap (message_at new) (sym (eqb-true m k e)) ∙ ch.here

    other : (k : ℕ) → (m == k) ≡ false → message_at new k ≡ message_at old k
    other k e = ch.others k (λ same. false≢true (sym e ∙ eq-eqb m k (sym same)))

    by : (k : ℕ) (b : Bool) → (m == k) ≡ b → is_some (message_at new k) ≡ is_a_message (named (c ∷ cs) (message_name k))
    by k true e = grind (arith, nat_tests, kept_here k e, here k e)
    by k false e = grind (arith, nat_tests, other k e, there k e)

    words : (k w : ℕ) (b : Bool) → (m == k) ≡ b → word_at new k w ≡ word_field (c ∷ cs) (message_name k) w
    words k w true e = grind (arith, nat_tests, kept_here k e, here k e)
    words k w false e = grind (arith, nat_tests, other k e, there k e)
