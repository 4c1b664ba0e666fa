-- What holds of whatever a reading gives.
use Rattle.std.proofs.lemmas.Bool.Decides.{nat_tests}
use Rattle.std.proofs.Common.{◌≡◌, refl, ap, subst, ℕ, Bool, true, false, List, Result, Ok, Err, ◌∷◌, arith}
use Rattle.std.specs.Prelude.{if◌then◌else◌}
use Rattle.aom_text.specs.declared.fault.AsmFaultKind.{AsmFaultKind}
use Rattle.aom_syntax.specs.Reading.{◌>>=◌, Reading, next, seen, giving, failing, word}

pub ok_is : {X E : Type 0} (x y : X) → ◌≡◌ {A = Result X E} (Ok x) (Ok y) → x ≡ y
ok_is x y is = cc

-- the two steps of what was read
pub record Steps {A B : Type 0} (r : Result A AsmFaultKind) (f : A → Result B AsmFaultKind) (y : B) : Type 0 where
  pub first : A
  pub read : r ≡ Ok first
  pub second : f first ≡ Ok y

pub steps : {A B : Type 0} (r : Result A AsmFaultKind) (f : A → Result B AsmFaultKind) (y : B) → (r >>= f) ≡ Ok y → Steps r f y
steps r f y is = grind arith

-- what holds of all that is made of what is read holds of what was made
pub made_of : {A B : Type 0} (P : B → Type 0) (r : Result A AsmFaultKind) (make : A → B) (y : B) → ((x : A) → r ≡ Ok x → P (make x))
    → (r >>= λ x. Ok (make x)) ≡ Ok y → P y
made_of P r make y holds is = let s = steps r (λ x. Ok (make x)) y is in subst P (ok_is (make s.first) y s.second) (holds s.first s.read)

-- so where a word of its own stands for a value
pub marked_or : {A B : Type 0} (P : B → Type 0) (b : Bool) (mark : B) (r : Result A AsmFaultKind) (make : A → B) (y : B) → (b ≡ true → P mark)
    → ((x : A) → r ≡ Ok x → P (make x)) → (if b then Ok mark else (r >>= λ x. Ok (make x))) ≡ Ok y → P y
marked_or P true mark r make y own holds is = subst P (ok_is mark y is) (own refl)
marked_or P false mark r make y own holds is = made_of P r make y holds is

-- what was read passed a test, or failed one
pub passed : {X E : Type 0} (b : Bool) (r : Result X E) (e : E) (x : X) → (if b then r else Err e) ≡ Ok x → (b ≡ true) × (r ≡ Ok x)
passed b r e x is = grind arith

pub kept : {X E : Type 0} (b : Bool) (r : Result X E) (e : E) (x : X) → (if b then Err e else r) ≡ Ok x → (b ≡ false) × (r ≡ Ok x)
kept b r e x is = grind arith

-- the word that was read
pub saw_word : (ws : List (List ℕ)) (w : List ℕ) (rest : List (List ℕ)) → word ws ≡ Ok (w, rest) → ws ≡ w ∷ rest
saw_word ws w rest is = grind arith

-- whatever is read has that property
pub record Within {X : Type 0} (P : X → Type 0) (r : Reading X) : Type 0 where
  pub each : (ws : List (List ℕ)) (x : X) (rest : List (List ℕ)) → r ws ≡ Ok (x, rest) → P x

-- the value of a reading that was left with these words
pub value_is : {X : Type 0} (P : X → Type 0) (x y : X) (ws rest : List (List ℕ)) → giving x ws ≡ giving y rest → P x → P y
value_is P x y ws rest is p = subst P (ap (λ q. q.0) (ok_is (x, ws) (y, rest) is)) p

pub anything : {X : Type 0} (r : Reading X) → Within (λ x. Unit {0}) r
anything r = record { each = λ ws x rest is. tt }

pub giving_within : {X : Type 0} (P : X → Type 0) (x : X) → P x → Within P (giving x)
giving_within P x p = record { each = λ ws y rest is. value_is P x y ws rest is p }

pub failing_within : {X : Type 0} (P : X → Type 0) (e : AsmFaultKind) → Within P (failing e)
failing_within P e = record { each = λ ws y rest is. cc }

pub next_within : {A B : Type 0} (P : A → Type 0) (Q : B → Type 0) (a : Reading A) (b : A → Reading B) → Within P a →
    ((x : A) → P x → Within Q (b x)) → Within Q (next a b)
next_within P Q a b wa wb = record { each = grind (arith, nat_tests, steps) }

-- what is read in the words that are left, whatever was read before them
pub after : {A B : Type 0} (Q : B → Type 0) (a : Reading A) (b : A → Reading B) → ((x : A) → Within Q (b x)) → Within Q (next a b)
after Q a b wb = next_within (λ x. Unit {0}) Q a b (anything a) (λ x u. wb x)

-- what was read says something
pub seen_within : {A B : Type 0} (Q : B → Type 0) (f : A → Result B AsmFaultKind) (a : Reading A) → ((x : A) (y : B) → f x ≡ Ok y → Q y) → Within Q (seen f a)
seen_within Q f a q = record { each = grind (arith, nat_tests, steps, value_is Q) }

pub weaker : {X : Type 0} (P Q : X → Type 0) (r : Reading X) → ((x : X) → P x → Q x) → Within P r → Within Q r
weaker P Q r f w = record { each = λ ws x rest is. f x (w.each ws x rest is) }

by_test : {X : Type 0} (P : X → Type 0) (r s : Reading X) → Within P r → Within P s → (b : Bool) (vs : List (List ℕ)) (x : X) (rest : List (List ℕ)) →
    (if b then r vs else s vs) ≡ Ok (x, rest) → P x
by_test P r s wr ws true vs x rest is = wr.each vs x rest is
by_test P r s wr ws false vs x rest is = ws.each vs x rest is

-- one reading or another
pub either : {X : Type 0} (P : X → Type 0) (test : List (List ℕ) → Bool) (left : List (List ℕ) → List (List ℕ)) (r s : Reading X)
    → Within P r → Within P s → Within P (λ ws. if test ws then r (left ws) else s (left ws))
either P test left r s wr ws = record { each = λ us x rest is. by_test P r s wr ws (test us) (left us) x rest is }
