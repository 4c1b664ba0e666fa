-- As many signals are in the table as the checked machine has: both count the numbers that signal, the table by its slots and the checked machine by its cells.
use Rattle.std.proofs.lemmas.Bool.Decides.{nat_tests}
use Rattle.std.proofs.Common.{◌≡◌, ◌<◌, ◌≤◌, ◌==◌, ◌+◌, ℕ, zero, suc, Bool, true, false, cond, List, [], ◌∷◌, Option, Some, None, get_or, length, take}
use Rattle.std.proofs.Common.{refl, sym, ap, ◌∙◌, subst, arith}
use Rattle.std.specs.Prelude.{◌||◌, count_by}
use Rattle.std.proofs.lemmas.Bool.{eq-eqb, eqb-false, eqb-true, ne_eqb}
use Rattle.std.proofs.lemmas.List.{get_or_past, take_all}
use Rattle.std.proofs.lemmas.List.Sums.{count_by_more_no, count_by_more_yes}
use Rattle.std.proofs.lemmas.Bool.Decides.{leb_tells}
use Rattle.aom_scheduler.specs.Requests.{Table, holds_signal, request_at}
use Rattle.aom_scheduler.specs.Requests as tables
use Rattle.aom_scheduler.specs.declared.request.Request.{Request as Machine_request}
use Rattle.aom_active_objects.proofs.SafetyLemmas.{requested_unnamed}
use Rattle.aom_semantics.specs.Places.{Cell, Request, NoDuplicates, named, requested, service_of}
use Rattle.aom_semantics.specs.Servers.{has_more}
use Rattle.aom_semantics.specs.World.{is_signalled, signal_count, signals}
use Rattle.aom_active_objects.specs.Agrees.{Active, IsWhole, RefinesRequests, RequestAgrees, may_stand}
use Rattle.aom_active_objects.specs.Meanings.{AreWanted, IsSignalCount, is_wanted}

-- ---- numbers of which a test holds

-- how many there are below a bound
abbrev count_to : (ℕ → Bool) → ℕ → ℕ
count_to f zero = 0
count_to f (suc n) = cond (f n) (suc (count_to f n)) (count_to f n)

same_counts : (f g : ℕ → Bool) (n : ℕ) → ((i : ℕ) → i < n → f i ≡ g i) → count_to f n ≡ count_to g n
same_counts f g zero h = refl
same_counts f g (suc n) h = grind (arith, nat_tests, same_counts f g n)

none_to : (f : ℕ → Bool) (n : ℕ) → ((i : ℕ) → f i ≡ false) → count_to f n ≡ 0
none_to f zero h = refl
none_to f (suc n) h = ap (λ b. cond b (suc (count_to f n)) (count_to f n)) (h n) ∙ none_to f n h

-- the items of a list are counted by their places
module _ {A : Type 0} (test : A → Bool) (xs : List A) (d : A) where
  abbrev passes : ℕ → Bool
  passes i = test (get_or xs i d)

  taken : (n : ℕ) → n ≤ length xs → count_by test (take n xs) ≡ count_to passes n
  taken zero within = refl
  taken (suc n) within = go (taken n (omega arith)) (passes n) refl
    where
      on : n + 1 ≡ suc n
      on = omega arith

      go : count_by test (take n xs) ≡ count_to passes n → (b : Bool) → passes n ≡ b →
          count_by test (take (suc n) xs) ≡ cond b (suc (count_to passes n)) (count_to passes n)
      go before true e = grind (arith, nat_tests, on, count_by_more_yes test xs n d)
      go before false e = sym (ap (λ k. count_by test (take k xs)) on) ∙ count_by_more_no test xs n d (omega arith) e ∙ before

  counted : count_by test xs ≡ count_to passes (length xs)
  counted = sym (ap (count_by test) (take_all (length xs) xs (omega arith))) ∙ taken (length xs) (omega arith)

-- one more number, which did not pass before
module _ (k : ℕ) (b : Bool) (f : ℕ → Bool) (new : f k ≡ false) where
  abbrev with_one : ℕ → Bool
  with_one n = cond (k == n) b (f n)

  below : (n : ℕ) → n ≤ k → count_to with_one n ≡ count_to f n
  below n low = same_counts with_one f n (λ i less. ap (λ e. cond e b (f i)) (ne_eqb k i (λ same. omega arith)))

  one_more : (n : ℕ) → (b ≡ true → k < n) → count_to with_one n ≡ cond b (suc (count_to f n)) (count_to f n)
  one_more zero within = grind (arith, nat_tests)
  one_more (suc n) within = grind (arith, nat_tests, one_more n, eqb-true k n, below n, eqb-false k n)

-- ---- the cells

-- what signals under a number: a request, or a queue
abbrev reports_signal : Option Request → Bool → Bool
reports_signal None waits = false
reports_signal (Some r) waits = is_signalled r || waits

abbrev signals_at : List Cell → ℕ → Bool
signals_at cs n = reports_signal (requested cs n) (has_more (service_of cs n).queue)

own_signals : (c : Cell) (r : Option Request) → reports_signal r (has_more c.service.queue) ≡ signals c r
own_signals c x = grind arith

signals_first : (c : Cell) (cs : List Cell) (n : ℕ) → signals_at (c ∷ cs) n ≡ cond (c.object.name == n) (signals c c.request) (signals_at cs n)
signals_first c cs n = grind (arith, nat_tests, own_signals c c.request)

-- what is not there does not signal
unnamed_signal : (cs : List Cell) (n : ℕ) → named cs n ≡ None → signals_at cs n ≡ false
unnamed_signal cs n none = ap (λ r. reports_signal r (has_more (service_of cs n).queue)) (requested_unnamed cs n none)

counts_cells : (cs : List Cell) (m : ℕ) → NoDuplicates cs → ((n : ℕ) → signals_at cs n ≡ true → n < m) → count_to (signals_at cs) m ≡ signal_count cs
counts_cells [] m no_duplicates low = none_to (signals_at []) m (λ i. refl)
counts_cells (c ∷ cs) m no_duplicates low = same_counts (signals_at (c ∷ cs)) (with_one c.object.name (signals c c.request) (signals_at cs) new) m
    (λ i less. signals_first c cs i) ∙ one_more c.object.name (signals c c.request) (signals_at cs) new m (λ is. low c.object.name (grind (arith, eq-eqb)))
    ∙ ap (λ k. cond (signals c c.request) (suc k) k) (counts_cells cs m no_duplicates.2 (λ n is. low n (signals_first c cs n ∙ other n is)))
  where
    new : signals_at cs c.object.name ≡ false
    new = unnamed_signal cs c.object.name no_duplicates.1

    other : (n : ℕ) → signals_at cs n ≡ true → cond (c.object.name == n) (signals c c.request) (signals_at cs n) ≡ true
    other n is = grind (arith, nat_tests, ne_eqb c.object.name n, new)

-- ---- the table

-- a request of the table signals as the request that it tells
same_signal : (h : Option Machine_request) (r : Option Request) (waits : Option Bool) → may_stand h ≡ true → RequestAgrees h r waits →
    holds_signal h ≡ reports_signal r (is_wanted waits)
same_signal h r waits may reports = grind arith

module _ (a : Active) (w : IsWhole a) (cs : List Cell) (queues : ℕ → Option Bool) (no_duplicates : NoDuplicates cs) (wanted : AreWanted queues cs)
    (s : RefinesRequests a (requested cs) queues) where
  abbrev held_signal : ℕ → Bool
  held_signal n = holds_signal (request_at a.table n)

  each : (n : ℕ) → held_signal n ≡ signals_at cs n
  each n = grind (arith, nat_tests, same_signal)

  -- past the table nothing signals
  within : (n : ℕ) → signals_at cs n ≡ true → n < length a.table.slots
  within n is = grind (arith, nat_tests, each n, get_or_past a.table.slots n None, leb_tells)

  pub same_count : tables.signals a.table ≡ signal_count cs
  same_count = counted holds_signal a.table.slots None ∙ same_counts held_signal (signals_at cs) (length a.table.slots) (λ i less. each i)
      ∙ counts_cells cs (length a.table.slots) no_duplicates within

-- from the contract of the requests
pub signal_count_from : {old : Active} (a : Active) → a ≡ old → IsWhole a → (result : ℕ) → result ≡ tables.signals a.table → IsSignalCount old result
signal_count_from a same w result is = λ cs queues no_duplicates wanted s. is
    ∙ same_count a w cs queues no_duplicates wanted (subst (λ x. RefinesRequests x (requested cs) queues) (sym same) s)
