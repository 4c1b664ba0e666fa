-- A format as a value: how it is read from the left, with the first fault, how it is spelled, and what fits it. Larger formats are made of smaller ones.
use Rattle.std.specs.Prelude.{◌≡◌, ℕ, zero, suc, ◌<◌, ◌^◌, Bool, true, false, List, [], ◌∷◌, ◌++◌, length, take, drop, Result, Ok, Err, nat_lt, nat_le, ◌==◌, ◌&&◌, if◌then◌else◌}
use Rattle.std.specs.Int.{w16, w32, Width, byte_len, from_be_bytes, to_be_bytes}
use Rattle.aom_codec.specs.declared.fault.LoadFault.{LoadFault}
use Rattle.aom_codec.specs.declared.fault.LoadFault.TheVariants.{Truncated, LimitPassed}

infixl 10 ◌>>=◌
abbrev pub ◌>>=◌ : {A B : Type 0} → Result A LoadFault → (A → Result B LoadFault) → Result B LoadFault
(Ok x) >>= f = f x
(Err e) >>= f = Err e

-- how values of X are read, spelled, and which of them fit
pub record Codec (X : Type 0) : Type 1 where
  pub read : List ℕ → Result (X × List ℕ) LoadFault
  pub serialize : X → List ℕ
  pub Fits : X → Type 0

-- one byte
abbrev pub byte_at : List ℕ → Result (ℕ × List ℕ) LoadFault
byte_at [] = Err Truncated
byte_at (b ∷ rest) = Ok (b, rest)

abbrev pub byte : Codec ℕ
byte = record { read = byte_at; serialize = λ n. n ∷ []; Fits = λ n. n < 256 }

-- a number of several bytes, its high byte first
abbrev pub number_at : Width → List ℕ → Result (ℕ × List ℕ) LoadFault
number_at w bytes = if nat_lt (length bytes) (byte_len w) then Err Truncated else Ok (from_be_bytes w (take (byte_len w) bytes), drop (byte_len w) bytes)

-- the same, read and spelled
abbrev pub number : Width → Codec ℕ
number w = record { read = number_at w; serialize = to_be_bytes w; Fits = λ n. n < 256 ^ byte_len w }

-- nothing
abbrev pub nothing : Codec (Unit {0})
nothing = record { read = λ bytes. Ok (tt, bytes); serialize = λ _. []; Fits = λ _. Unit {0} }

-- what passes a test, and the fault of what doesn't
abbrev pub checked : {X : Type 0} → Codec X → (X → Bool) → LoadFault → Codec X
checked c test fault = record {
  read = λ bytes. c.read bytes >>= λ x. if test x.0 then Ok x else Err fault;
  serialize = c.serialize;
  Fits = λ x. c.Fits x × (test x ≡ true);
}

-- one number alone may stand here
abbrev pub fixed : Codec ℕ → ℕ → LoadFault → Codec (Unit {0})
fixed c n fault = record {
  read = λ bytes. c.read bytes >>= λ x. if x.0 == n then Ok (tt, x.1) else Err fault;
  serialize = λ _. c.serialize n;
  Fits = λ _. Unit {0};
}

-- one format after another, which may depend on what was read
abbrev pub next : {A B : Type 0} → Codec A → (A → Codec B) → Codec (A × B)
next a b = record {
  read = λ bytes. a.read bytes >>= λ x. (b x.0).read x.1 >>= λ y. Ok ((x.0, y.0), y.1);
  serialize = λ p. a.serialize p.0 ++ (b p.0).serialize p.1;
  Fits = λ p. a.Fits p.0 × (b p.0).Fits p.1;
}

abbrev pub after : {B : Type 0} → Codec (Unit {0}) → Codec B → Codec B
after a b = record {
  read = λ bytes. a.read bytes >>= λ x. b.read x.1;
  serialize = λ y. a.serialize tt ++ b.serialize y;
  Fits = b.Fits;
}

-- what is read stands for something else, or for nothing; back gives what it is spelled as
abbrev pub seen : {A B : Type 0} → (A → Result B LoadFault) → (B → A) → Codec A → Codec B
seen there back c = record {
  read = λ bytes. c.read bytes >>= λ x. there x.0 >>= λ y. Ok (y, x.1);
  serialize = λ y. c.serialize (back y);
  Fits = λ y. c.Fits (back y) × (there (back y) ≡ Ok y);
}

-- so many, one after another; each may depend on a summary of those before it
abbrev pub read_many : {S X : Type 0} → (S → Codec X) → (S → X → S) → S → ℕ → List ℕ → Result (List X × List ℕ) LoadFault
read_many c add s zero bytes = Ok ([], bytes)
read_many c add s (suc n) bytes = (c s).read bytes >>= λ x. read_many c add (add s x.0) n x.1 >>= λ xs. Ok (x.0 ∷ xs.0, xs.1)

-- their spellings in turn
abbrev pub serialize_many : {S X : Type 0} → (S → Codec X) → (S → X → S) → S → List X → List ℕ
serialize_many c add s [] = []
serialize_many c add s (x ∷ xs) = (c s).serialize x ++ serialize_many c add (add s x) xs

-- so many that fit, each after those before it
abbrev pub FitMany : {S X : Type 0} → (S → Codec X) → (S → X → S) → S → ℕ → List X → Type 0
FitMany c add s zero [] = Unit {0}
FitMany c add s (suc n) (x ∷ xs) = (c s).Fits x × FitMany c add (add s x) n xs
FitMany c add s zero (x ∷ xs) = ⊥
FitMany c add s (suc n) [] = ⊥

-- so many, with a summary of those before each
abbrev pub many_from : {S X : Type 0} → (S → Codec X) → (S → X → S) → S → ℕ → Codec (List X)
many_from c add s n = record { read = read_many c add s n; serialize = serialize_many c add s; Fits = FitMany c add s n }

-- so many of one format
abbrev pub always : {X : Type 0} → Codec X → Unit {0} → Codec X
always c s = c

-- a summary that says nothing
abbrev pub keep : {X : Type 0} → Unit {0} → X → Unit {0}
keep s x = s

-- so many of one format
abbrev pub many : {X : Type 0} → ℕ → Codec X → Codec (List X)
many n c = many_from (always c) keep tt n

-- so many unused fields
abbrev pub unused : ℕ → Codec ℕ → LoadFault → Codec (Unit {0})
unused zero c fault = nothing
unused (suc n) c fault = after (fixed c 0 fault) (unused n c fault)

-- two bytes
abbrev pub next_u16 : Codec ℕ
next_u16 = number w16

-- four bytes
abbrev pub next_u32 : Codec ℕ
next_u32 = number w32

-- from low to high, both among them
abbrev pub is_between_dispatches : ℕ → ℕ → ℕ → Bool
is_between_dispatches low high n = nat_le low n && nat_le n high

-- a count or a limit
abbrev pub limited : Codec ℕ → ℕ → ℕ → Codec ℕ
limited c low high = checked c (is_between_dispatches low high) LimitPassed

-- one of two formats
abbrev pub choose : {X : Type 0} → Bool → Codec X → Codec X → Codec X
choose true c d = c
choose false c d = d
