-- What waits in a queue fits where clients and queues change: by its entries one after another.
use Rattle.std.proofs.lemmas.Bool.Decides.{nat_tests}
use Rattle.std.proofs.Common.{arith, Bool, List, [], ap, cond, false, refl, true, ℕ, ◌==◌, ◌∙◌, ◌∷◌, ◌≡◌}
use Rattle.std.proofs.lemmas.Bool.{eq-eqb, or_parts}
use Rattle.std.proofs.lemmas.List.Folds.{list_any-append}
use Rattle.std.specs.List.{list_any}
use Rattle.std.specs.Prelude.{filter, ◌++◌}
use Rattle.aom_clients.specs.declared.client.Client.{Client}
use Rattle.aom_clients.specs.declared.client.Client.TheVariants.{Unconnected}
use Rattle.aom_safety.proofs.SemanticsLemmas.{at-set_extending}
use Rattle.aom_semantics.specs.Clients.{client_at, with_client}
use Rattle.aom_safety.specs.Kept.{EntryFits, QueueFits, asked_again}
use Rattle.aom_semantics.specs.Places.{Asked, Close_of, Connect_of, Message_of}

-- ---- one client

pub client_here : (c : ℕ) (to : Client) (clients : List Client) → client_at (with_client c to clients) c ≡ to
client_here c to clients = at-set_extending Unconnected clients c c to ∙ ap (λ b. cond b to (client_at clients c)) (eq-eqb c c refl)

pub client_there : (c d : ℕ) (to : Client) (clients : List Client) → (c == d) ≡ false → client_at (with_client c to clients) d ≡ client_at clients d
client_there c d to clients other = at-set_extending Unconnected clients c d to ∙ ap (λ b. cond b to (client_at clients d)) other

-- whose entry it is
abbrev pub client_of : Asked → ℕ
client_of (Connect_of c) = c
client_of (Message_of c m) = c
client_of (Close_of c) = c

abbrev pub is_of : ℕ → Asked → Bool
is_of c e = c == client_of e

-- ---- tests of queues

-- none passes where none can
pub none_passes : (test : Asked → Bool) (clients : List Client) (n : ℕ) →
    ((e : Asked) → test e ≡ true → EntryFits clients n e → ⊥) → (es : List Asked) → QueueFits clients n es → list_any test es ≡ false
none_passes test clients n never [] fits = refl
none_passes test clients n never (e ∷ es) fits = grind (arith, nat_tests, none_passes test clients n never es fits.1)

-- what is no more among those that stay
pub none_stays : (test stays : Asked → Bool) (es : List Asked) → list_any test es ≡ false → list_any test (filter stays es) ≡ false
none_stays test stays [] none = refl
none_stays test stays (e ∷ es) none = grind (arith, nat_tests, none_stays test stays es, or_parts (test e))

-- ---- where clients and queues change

-- another client is at something else
pub entry_other : (c n : ℕ) (to : Client) (clients : List Client) (e : Asked) → is_of c e ≡ false → EntryFits clients n e → EntryFits (with_client c to clients) n e
entry_other c n to clients x other fits = grind (arith, nat_tests, client_there c)

pub queue_other : (c n : ℕ) (to : Client) (clients : List Client) (es : List Asked) → list_any (is_of c) es ≡ false → QueueFits clients n es →
    QueueFits (with_client c to clients) n es
queue_other c n to clients [] none fits = tt
queue_other c n to clients (e ∷ es) none fits = grind (arith, nat_tests, or_parts, entry_other c n to clients e, queue_other c n to clients es)

-- some of it stays
pub queue_stays : (clients : List Client) (n : ℕ) (stays : Asked → Bool) (es : List Asked) → QueueFits clients n es → QueueFits clients n (filter stays es)
queue_stays clients n stays [] fits = tt
queue_stays clients n stays (e ∷ es) fits = grind (arith, nat_tests, queue_stays clients n stays es fits.1, none_stays)

-- something is asked last
pub queue_last : (clients : List Client) (n : ℕ) (x : Asked) (es : List Asked) →
    EntryFits clients n x → list_any (asked_again x) es ≡ false → QueueFits clients n es → QueueFits clients n (es ++ x ∷ [])
queue_last clients n x [] own none fits = ((own, refl), tt)
queue_last clients n x (e ∷ es) own none fits = grind (arith, nat_tests, or_parts, list_any-append, queue_last clients n x es own)
