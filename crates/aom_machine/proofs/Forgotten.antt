-- Messages are kept no more, one after another.
use Rattle.std.proofs.lemmas.Bool.Decides.{nat_tests}
use Rattle.std.proofs.Common.{ap, arith, Bool, false, length, List, None, refl, suc, sym, true, ℕ, zero, ◌+◌, ◌<◌, ◌==◌, ◌∙◌, ◌∷◌, ◌≡◌, drop}
use Rattle.std.proofs.Common.{slice_index_or, take, []}
use Rattle.std.specs.Prelude.{is_some, ◌||◌}
use Rattle.std.proofs.lemmas.Bool.{eq-eqb, eqb-true, false≢true}
use Rattle.aom_cells.specs.Store.{Changes, Store, count, message_at}
use Rattle.aom_semantics.specs.Servers.{is_among}
use Rattle.aom_machine.specs.Clients.{AreKept, Forgets}

-- so many of them are, and the others are still there
pub record ForgetsFirst (places : List ℕ) (i : ℕ) (old now : Store) : Type 0 where
  pub first : Forgets (take i places) old now
  pub rest : AreKept now (drop i places)

pub none_yet : (places : List ℕ) (store : Store) → AreKept store places → ForgetsFirst places 0 store store
none_yet places store kept = record { first = record { gone = λ m e. absurd (false≢true e); others = λ m e. refl; count = omega arith; limit = refl }; rest = kept }

-- one more is not among those that come after it, nor among those before
among_more : (places : List ℕ) (i m : ℕ) → i < length places → is_among m (take (suc i) places) ≡ (is_among m (take i places) || (slice_index_or places i 0 == m))
among_more [] i m within = absurd (omega (arith, within))
among_more (x ∷ xs) zero m within = grind (arith, nat_tests)
among_more (x ∷ xs) (suc i) m within = grind (arith, nat_tests, among_more xs i m)

still_kept : (old now : Store) (m : ℕ) (ms : List ℕ) → Changes old now m None → is_among m ms ≡ false → AreKept old ms → AreKept now ms
still_kept old now m [] ch out kept = tt
still_kept old now m (x ∷ xs) ch out kept = go (x == m) refl out (λ out. still_kept old now m xs ch out kept.2)
  where
    go : (b : Bool) → (x == m) ≡ b → (b || is_among m xs) ≡ false → (is_among m xs ≡ false → AreKept now xs) → AreKept now (x ∷ xs)
    go true e out rest = absurd (false≢true (sym out))
    go false e out rest = (ap is_some (ch.others x (λ same. false≢true (sym e ∙ eq-eqb x m same))) ∙ kept.0, kept.1, rest out)

rest_kept : (places : List ℕ) (i : ℕ) (old now : Store) → i < length places → AreKept old (drop i places) → Changes old now (slice_index_or places i 0) None →
    AreKept now (drop (suc i) places)
rest_kept [] i old now within kept ch = absurd (omega (arith, within))
rest_kept (m ∷ ms) zero old now within kept ch = still_kept old now m ms ch kept.1 kept.2
rest_kept (m ∷ ms) (suc i) old now within kept ch = rest_kept ms i old now (omega (arith, within)) kept ch

pub one_more : (places : List ℕ) (i : ℕ) (start old now : Store) → i < length places →
    ForgetsFirst places i start old → Changes old now (slice_index_or places i 0) None → count now + 1 ≡ count old → ForgetsFirst places (suc i) start now
one_more places i start old now within f ch fewer = record {
  first = record { gone = gone; others = others; count = let c = f.first.count in omega (arith, c, fewer, lengths); limit = ch.limit ∙ f.first.limit };
  rest = rest_kept places i old now within f.rest ch;
}
  where
    at : ℕ
    at = slice_index_or places i 0

    lengths : length (take (suc i) places) ≡ suc (length (take i places))
    lengths = go places i within
      where
        go : (xs : List ℕ) (j : ℕ) → j < length xs → length (take (suc j) xs) ≡ suc (length (take j xs))
        go [] j within = absurd (omega (arith, within))
        go (x ∷ xs) zero within = refl
        go (x ∷ xs) (suc j) within = ap suc (go xs j (omega (arith, within)))

    gone : (m : ℕ) → is_among m (take (suc i) places) ≡ true → message_at now m ≡ None
    gone m e = grind (arith, nat_tests, among_more places i m within, eqb-true at m, eq-eqb at m)

    others : (m : ℕ) → is_among m (take (suc i) places) ≡ false → message_at now m ≡ message_at start m
    others m e = grind (arith, nat_tests, among_more places i m within, eq-eqb at m)
