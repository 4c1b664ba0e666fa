-- The nodes of entries: which entry each stands for, and which connects are among some.
use Rattle.std.proofs.lemmas.Bool.Decides.{nat_tests}
use Rattle.std.proofs.Common.{◌≡◌, ◌<◌, ◌≤◌, ◌+◌, ◌-◌, ◌⊎◌, ◌==◌, ◌++◌, ℕ, true, false, not, List, [], ◌∷◌, length, refl, sym, ap, ◌∙◌, inl, inr, arith}
use Rattle.std.specs.Prelude.{map, filter, nat_lt}
use Rattle.std.proofs.lemmas.Bool.{cases_eq, cases_lt, cond-false, cond-true, eq-eqb, ne_eqb}
use Rattle.aom_clients.specs.Lists.{IsIn}
use Rattle.aom_clients.specs.declared.entry.QueueEntry.TheVariants.{Connect, Message, Close}
use Rattle.aom_clients.specs.Clients.{is_connect, is_no_connect_of, is_no_close_of}
use Rattle.aom_clients.specs.Nodes.{entry_of, is_connect_node, connecting_in}

below : (m n : ℕ) → m < n → nat_lt m n ≡ true
below m n h = grind arith

above : (m n : ℕ) → n ≤ m → nat_lt m n ≡ false
above m n h = grind arith

-- a node is a message's, a connect's or a close's
pub data Kind : ℕ → Type 0 where
  message : (m : ℕ) → m < 1024 → Kind m
  connect : (c : ℕ) → c < 64 → Kind (1024 + c)
  close : (c : ℕ) → Kind (1088 + c)

pub kind : (n : ℕ) → Kind n
kind n = elim (cases_lt n 1024) [ inl small ↦ message n small | inr large ↦ later n large (cases_lt n 1088) ]
  where
    later : (n : ℕ) → 1024 ≤ n → (n < 1088) ⊎ (1088 ≤ n) → Kind n
    later n large (inl small) = grind (arith, nat_tests, connect (n - 1024))
    later n large (inr larger) = grind (arith, nat_tests, close (n - 1088))

pub message-is : (m : ℕ) → m < 1024 → entry_of m ≡ Message m
message-is m small = cond-true (nat_lt m 1024) _ _ (below m 1024 small)

pub connect-is : (c : ℕ) → c < 64 → entry_of (1024 + c) ≡ Connect c
connect-is c small = grind (arith, nat_tests, cond-false, above (1024 + c) 1024, cond-true, below (1024 + c) 1088)

pub close-is : (c : ℕ) → entry_of (1088 + c) ≡ Close c
close-is c = grind (arith, nat_tests, cond-false, above (1088 + c) 1024, above (1088 + c) 1088)

-- whether a node is a connect's
pub message-no : (m : ℕ) → m < 1024 → is_connect_node m ≡ false
message-no m small = cond-true (nat_lt m 1024) false (nat_lt m 1088) (below m 1024 small)

pub connect-yes : (c : ℕ) → c < 64 → is_connect_node (1024 + c) ≡ true
connect-yes c small = grind (arith, nat_tests, cond-false, above (1024 + c) 1024, below (1024 + c) 1088)

pub close-no : (c : ℕ) → is_connect_node (1088 + c) ≡ false
close-no c = cond-false (nat_lt (1088 + c) 1024) false (nat_lt (1088 + c) 1088) (above (1088 + c) 1024 (omega arith)) ∙ above (1088 + c) 1088 (omega arith)

-- the connects among these
pub listing-yes : (c : ℕ) (ns : List ℕ) → c < 64 → connecting_in ((1024 + c) ∷ ns) ≡ c ∷ connecting_in ns
listing-yes c ns small = grind (arith, nat_tests, cond-true, connect-yes c small)

pub listing-no : (n : ℕ) (ns : List ℕ) → is_connect_node n ≡ false → connecting_in (n ∷ ns) ≡ connecting_in ns
listing-no n ns other = cond-false (is_connect_node n) ((n - 1024) ∷ connecting_in ns) (connecting_in ns) other

pub listing-append : (xs ys : List ℕ) → connecting_in (xs ++ ys) ≡ connecting_in xs ++ connecting_in ys
listing-append [] ys = refl
listing-append (x ∷ xs) ys = grind (arith, nat_tests, kind x, listing-append xs ys, message, listing-no, message-no, connect, listing-yes)

-- a client is listed where its connect is
pub listed-in : (c : ℕ) (ns : List ℕ) → IsIn c (connecting_in ns) → (c < 64) × IsIn (1024 + c) ns
listed-in c [] i = elim i [ ]
listed-in c (n ∷ ns) i = grind (arith, nat_tests, kind n, listed-in c ns, message, listing-no, message-no, connect, listing-yes)

same-test : (a b k : ℕ) → (k + a == k + b) ≡ (a == b)
same-test a b k = elim (cases_eq a b) [
  | inl same ↦ eq-eqb (k + a) (k + b) (ap (λ n. k + n) same) ∙ sym (eq-eqb a b same)
  | inr other ↦ ne_eqb (k + a) (k + b) (λ e. other (omega (arith, e))) ∙ sym (ne_eqb a b other)
]

-- the tests that leave one client's connect out, or its close, leave out its node
pub no-connect : (c : ℕ) → c < 64 → (n : ℕ) → is_no_connect_of c (entry_of n) ≡ not (n == 1024 + c)
no-connect c small n = grind (arith, nat_tests, kind n, message, message-is, ne_eqb, connect, connect-is, same-test)

pub no-close : (c : ℕ) (n : ℕ) → is_no_close_of c (entry_of n) ≡ not (n == 1088 + c)
no-close c n = grind (arith, nat_tests, kind n, message, message-is, ne_eqb, connect, connect-is, close)

-- as many connects are listed as there are
pub connects-counted : (ns : List ℕ) → length (connecting_in ns) ≡ length (filter is_connect (map entry_of ns))
connects-counted [] = refl
connects-counted (n ∷ ns) = grind (arith, nat_tests, kind n, connects-counted ns, message, listing-no, message-no, message-is, connect)
