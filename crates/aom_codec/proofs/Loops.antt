-- Loops that read so many: what was read before, and what is still read.
use Rattle.std.proofs.lemmas.Bool.Decides.{nat_tests}
use Rattle.std.proofs.Common.{◌≡◌, ℕ, suc, ◌+◌, ◌-◌, ◌<◌, ◌≤◌, List, [], ◌∷◌, ◌++◌, Result, Ok, Err, refl, sym, ap, ◌∙◌, append_assoc, arith}
use Rattle.std.proofs.lemmas.List.{append-nil}
use Rattle.aom_codec.specs.declared.fault.LoadFault.{LoadFault}
use Rattle.aom_codec.specs.Codec.{Codec, ◌>>=◌, fixed, unused, read_many}

abbrev pub with_front : {X : Type 0} → List X → Result (List X × List ℕ) LoadFault → Result (List X × List ℕ) LoadFault
with_front front read = read >>= λ x. Ok (front ++ x.0, x.1)

regroup : {X : Type 0} (front : List X) (n : X) (read : Result (List X × List ℕ) LoadFault) →
    with_front front (read >>= λ x. Ok (n ∷ x.0, x.1)) ≡ with_front (front ++ n ∷ []) read
regroup front n (Ok x) = ap (λ ns. Ok (ns, x.1)) (sym (append_assoc front (n ∷ []) x.0))
regroup front n (Err f) = refl

-- what a loop has still to read makes the whole, after what it has read
abbrev pub StillReads : {S X : Type 0} → (S → Codec X) → (S → X → S) → S → List X → ℕ → List ℕ → Result (List X × List ℕ) LoadFault → Type 0
StillReads c add s front left bytes total = with_front front (read_many c add s left bytes) ≡ total

pub begins : {S X : Type 0} (c : S → Codec X) (add : S → X → S) (s : S) (count : ℕ) (bytes : List ℕ) →
    StillReads c add s [] (count - 0) bytes (read_many c add s count bytes)
begins c add s count bytes = grind (arith, nat_tests)

module _ {S X : Type 0} (c : S → Codec X) (add : S → X → S) (s : S) (front : List X) (count i : ℕ) (bytes : List ℕ) (total : Result (List X × List ℕ) LoadFault)
    (so_far : StillReads c add s front (count - i) bytes total) where
  pub goes_on : (n : X) (rest : List ℕ) → i < count → (c s).read bytes ≡ Ok (n, rest) → StillReads c add (add s n) (front ++ n ∷ []) (count - (i + 1)) rest total
  goes_on n rest lt h =
      let k : count - i ≡ suc (count - (i + 1)) = omega arith in
      let one : with_front front (read_many c add s (count - i) bytes) ≡ with_front (front ++ n ∷ []) (read_many c add (add s n) (count - (i + 1)) rest) =
      rw (k, h) (regroup front n (read_many c add (add s n) (count - (i + 1)) rest)) in
      sym one ∙ so_far

  pub breaks : (e : LoadFault) → i < count → (c s).read bytes ≡ Err e → total ≡ Err e
  breaks e lt h =
      let k : count - i ≡ suc (count - (i + 1)) = omega arith in
      let one : with_front front (read_many c add s (count - i) bytes) ≡ Err e = rw (k, h) refl in
      sym so_far ∙ one

  pub is_done : count ≤ i → total ≡ Ok (front, bytes)
  is_done le = grind (arith, nat_tests, append-nil front)

module _ (c : Codec ℕ) (fault : LoadFault) (count i : ℕ) (bytes : List ℕ) (total : Result (Unit {0} × List ℕ) LoadFault)
    (so_far : (unused (count - i) c fault).read bytes ≡ total) where
  pub unused_on : (x : Unit {0}) (rest : List ℕ) → i < count → (fixed c 0 fault).read bytes ≡ Ok (x, rest) → (unused (count - (i + 1)) c fault).read rest ≡ total
  unused_on x rest lt h =
      let k : count - i ≡ suc (count - (i + 1)) = omega arith in
      let one : (unused (count - i) c fault).read bytes ≡ (unused (count - (i + 1)) c fault).read rest = rw (k, h) refl in
      sym one ∙ so_far

  pub unused_breaks : (e : LoadFault) → i < count → (fixed c 0 fault).read bytes ≡ Err e → total ≡ Err e
  unused_breaks e lt h =
      let k : count - i ≡ suc (count - (i + 1)) = omega arith in
      let one : (unused (count - i) c fault).read bytes ≡ Err e = rw (k, h) refl in
      sym so_far ∙ one
