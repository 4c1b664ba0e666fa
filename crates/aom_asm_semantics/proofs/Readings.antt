-- What a reading takes from the words before it, and how readings follow each other.
use Rattle.std.proofs.lemmas.Bool.Decides.{nat_tests}
use Rattle.std.proofs.Common.{◌≡◌, ℕ, ◌<◌, ◌≤◌, ◌^◌, Bool, true, false, List, [], ◌∷◌, ◌++◌, Some, Result, Ok, Err, refl, sym, ap, ◌∙◌, append_assoc}
use Rattle.std.proofs.Common.{append-nil, arith}
use Rattle.std.specs.Prelude.{decimal, if◌then◌else◌}
use Rattle.std.proofs.lemmas.Bool.{lt-ltb, eq-eqb}
use Rattle.aom_text.specs.Names.{is_letter}
use Rattle.aom_text.specs.declared.fault.AsmFaultKind.TheVariants.{NotAscii}
use Rattle.aom_syntax.specs.Names.{place_of}
use Rattle.aom_syntax.specs.Operands.{indexed, used}
use Rattle.aom_syntax.specs.Classes.{declared, declared_at, flag}
use Rattle.std.specs.List.{list_all}
use Rattle.std.specs.Str.{bytes_eq}
use Rattle.std.proofs.lemmas.Slice.Eq.{bytes_eq-Decides}
use Rattle.aom_text.specs.Words.{is_plain}
use Rattle.aom_text.specs.declared.fault.AsmFaultKind.{AsmFaultKind}
use Rattle.aom_syntax.specs.Reading.{◌>>=◌, Reading, next, seen, giving, word, took, keyword, any_keyword, number, optional_number, name}
use Rattle.aom_syntax.specs.Keywords.{keyword_text}
use Rattle.aom_syntax.specs.declared.keyword.Keyword.{Keyword}
use Rattle.aom_asm_semantics.proofs.Names.{lettered, name_lettered, plain_decimal, plain_lettered}
use Rattle.aom_asm_semantics.proofs.Numbers.{number_of_decimal, within}
use Rattle.aom_asm_semantics.proofs.Tables.{keyword_reads, keyword_is_plain}

-- it reads these words, whatever follows them, and gives that value
pub record Takes {X : Type 0} (r : Reading X) (us : List (List ℕ)) (x : X) : Type 0 where
  pub reads : (rest : List (List ℕ)) → r (us ++ rest) ≡ Ok (x, rest)

pub gives : {X : Type 0} (x : X) → Takes (giving x) [] x
gives x = record { reads = λ rest. refl }

-- one after another
pub in_turn : {X Y : Type 0} {r : Reading X} (f : X → Reading Y) {us vs : List (List ℕ)} {x : X} {y : Y} → Takes r us x → Takes (f x) vs y →
    Takes (next r f) (us ++ vs) y
in_turn {r = r} f {us = us} {vs = vs} first second = record {
  reads = λ rest. ap (next r f) (append_assoc us vs rest) ∙ ap (λ e. e >>= λ p. f p.0 p.1) (first.reads (vs ++ rest)) ∙ second.reads rest;
}

-- what was read, and what is made of it
pub reads_on : {X Y : Type 0} (r : Reading X) (f : X → Reading Y) {ws vs : List (List ℕ)} {x : X} {e : Result (Y × List (List ℕ)) AsmFaultKind} →
    r ws ≡ Ok (x, vs) → f x vs ≡ e → next r f ws ≡ e
reads_on r f first second = ap (λ e. e >>= λ p. f p.0 p.1) first ∙ second

-- what comes before is read first
pub before : {X Y : Type 0} {r : Reading X} (f : X → Reading Y) {us vs : List (List ℕ)} {x : X} {e : Result (Y × List (List ℕ)) AsmFaultKind} → Takes r us x →
    f x vs ≡ e → next r f (us ++ vs) ≡ e
before {r = r} f {vs = vs} first second = reads_on r f (first.reads vs) second

-- what is read last
pub ends : {X Y : Type 0} {r : Reading X} (f : X → Reading Y) {us : List (List ℕ)} {x : X} {e : Result (Y × List (List ℕ)) AsmFaultKind} → Takes r us x →
    f x [] ≡ e → next r f us ≡ e
ends {r = r} f {us = us} last second = ap (next r f) (sym (append-nil us)) ∙ before f last second

-- it reads these words as that value, and leaves none
pub record Whole {X : Type 0} (r : Reading X) (ws : List (List ℕ)) (x : X) : Type 0 where
  pub reads : r ws ≡ Ok (x, [])

pub done : {X : Type 0} (x : X) → Whole (giving x) [] x
done x = record { reads = refl }

-- what comes first, and all the rest
pub first : {X Y : Type 0} {r : Reading X} (f : X → Reading Y) {us vs : List (List ℕ)} {x : X} {y : Y} → Takes r us x → Whole (f x) vs y →
    Whole (next r f) (us ++ vs) y
first f takes rest = record { reads = before f takes rest.reads }

-- what comes last, and what is made of it
pub last : {X Y : Type 0} {r : Reading X} (f : X → Reading Y) {ws : List (List ℕ)} {x : X} {y : Y} → Whole r ws x → Whole (f x) [] y → Whole (next r f) ws y
last {r = r} f whole made = record { reads = reads_on r f whole.reads made.reads }

-- the same of the same words
pub regroup : {X : Type 0} {r : Reading X} {ws vs : List (List ℕ)} {x : X} → ws ≡ vs → Whole r vs x → Whole r ws x
regroup {r = r} same whole = record { reads = ap r same ∙ whole.reads }

-- the same value
pub settle : {X : Type 0} {r : Reading X} {ws : List (List ℕ)} {x y : X} → x ≡ y → Whole r ws x → Whole r ws y
settle same whole = record { reads = whole.reads ∙ ap (λ z. Ok (z, [])) same }

-- ---- readings within readings

bind_assoc : {A B C : Type 0} (r : Result A AsmFaultKind) (f : A → Result B AsmFaultKind) (g : B → Result C AsmFaultKind) →
    (r >>= λ x. f x >>= g) ≡ ((r >>= f) >>= g)
bind_assoc x f g = grind arith

module _ {X Y Z : Type 0} (a : Reading X) (f : X → Reading Y) (g : Y → Reading Z) where
  regrouped : (ws : List (List ℕ)) → next a (λ x. next (f x) g) ws ≡ next (next a f) g ws
  regrouped ws = bind_assoc (a ws) (λ p. f p.0 p.1) (λ p. g p.0 p.1)

  -- two readings that belong together come first
  pub first_two : {us vs : List (List ℕ)} {y : Y} {z : Z} → Takes (next a f) us y → Whole (g y) vs z → Whole (next a (λ x. next (f x) g)) (us ++ vs) z
  first_two {us = us} {vs = vs} takes rest = record { reads = regrouped (us ++ vs) ∙ before g takes rest.reads }

  -- or they are all
  pub only_two : {us : List (List ℕ)} {y : Y} {z : Z} → Takes (next a f) us y → Whole (g y) [] z → Whole (next a (λ x. next (f x) g)) us z
  only_two {us = us} takes rest = record { reads = regrouped us ∙ ends g takes rest.reads }

-- something is made of what two readings gave
pub made : {X Y Z : Type 0} (a : Reading X) (f : X → Reading Y) (h : Y → Z) {us : List (List ℕ)} {y : Y} → Takes (next a f) us y →
    Takes (next a (λ x. next (f x) (λ y. giving (h y)))) us (h y)
made a f h {us = us} takes = record {
  reads = λ rest. regrouped a f (λ y. giving (h y)) (us ++ rest) ∙ ap (λ e. e >>= λ p. giving (h p.0) p.1) (takes.reads rest);
}

-- what is seen in what was read
pub sees : {X Y : Type 0} {r : Reading X} (f : X → Result Y AsmFaultKind) {us : List (List ℕ)} {x : X} {y : Y} → Takes r us x → f x ≡ Ok y → Takes (seen f r) us y
sees f first e = record { reads = λ rest. ap (λ e. e >>= λ p. f p.0 >>= λ y. Ok (y, p.1)) (first.reads rest) ∙ ap (λ e. e >>= λ y. Ok (y, rest)) e }

pub takes_word : (w : List ℕ) → list_all is_plain w ≡ true → Takes word (w ∷ []) w
takes_word w plain = record { reads = λ rest. ap (λ b. if b then Ok (w, rest) else Err NotAscii) plain }

-- ---- words of the language

bytes_eq_same : (w : List ℕ) → bytes_eq w w ≡ true
bytes_eq_same w = (bytes_eq-Decides w w).1 refl

pub takes_keyword : (key : Keyword) → Takes (keyword key) (keyword_text key ∷ []) tt
takes_keyword key = grind (arith, nat_tests, sees, takes_word, keyword_is_plain key, bytes_eq_same)

pub takes_any_keyword : (key : Keyword) → Takes any_keyword (keyword_text key ∷ []) key
takes_any_keyword key = grind (arith, nat_tests, sees, takes_word, keyword_is_plain key, keyword_reads key)

pub took_same : (key : Keyword) (ws : List (List ℕ)) → took key (keyword_text key ∷ ws) ≡ (true, ws)
took_same key ws = ap (λ b. if b then (true, ws) else (false, keyword_text key ∷ ws)) (bytes_eq_same (keyword_text key))

pub takes_flag : (key : Keyword) → Takes (flag key) (keyword_text key ∷ []) true
takes_flag key = record { reads = λ rest. ap Ok (took_same key rest) }

-- ---- numbers

pub takes_number : (low high n : ℕ) → low ≤ n → n ≤ high → n < 2 ^ 50 → Takes (number low high) (decimal n ∷ []) n
takes_number low high n above below small =
    grind (arith, nat_tests, sees, takes_word, plain_decimal n, number_of_decimal n small, within low high n above below)

pub takes_optional : (key : Keyword) (high n : ℕ) → n ≤ high → n < 2 ^ 50 → Takes (optional_number key high) (keyword_text key ∷ decimal n ∷ []) n
takes_optional key high n below small = record { reads = grind (arith, nat_tests, took_same key, takes_number 0 high n) }

-- ---- names

pub takes_name : (letter n : ℕ) → is_letter letter ≡ true → n < 2 ^ 32 → Takes name (lettered letter n ∷ []) (lettered letter n)
takes_name letter n is small = grind (arith, plain_lettered, name_lettered)

-- a name that is used, where it has its number
pub takes_used : (is_strict : Bool) (limit letter n : ℕ) (names : List (List ℕ)) → is_letter letter ≡ true →
    n < limit → limit ≤ 2 ^ 32 → place_of (lettered letter n) names ≡ Some n → Takes (used is_strict limit names) (lettered letter n ∷ []) n
takes_used is_strict limit letter n names is below few there = grind (arith, nat_tests, sees, takes_name letter n is, lt-ltb n limit below)

pub declared_there : (letter n : ℕ) (names : List (List ℕ)) → place_of (lettered letter n) names ≡ Some n → declared_at n names (lettered letter n) ≡ Ok tt
declared_there letter n names there = grind (arith, nat_tests, eq-eqb n n)

-- a name that is declared, at its place
pub takes_declared : (letter n : ℕ) (names : List (List ℕ)) → is_letter letter ≡ true → n < 2 ^ 32 → place_of (lettered letter n) names ≡ Some n →
    Takes (declared n names) (lettered letter n ∷ []) tt
takes_declared letter n names is small there = sees (declared_at n names) (takes_name letter n is small) (declared_there letter n names there)

-- ---- operands

pub indexed_reads : (letter highest n : ℕ) → n ≤ highest → n < 2 ^ 50 → indexed letter highest (lettered letter n) ≡ Ok n
indexed_reads letter highest n below small = grind (arith, nat_tests, eq-eqb letter letter, number_of_decimal n small, within 0 highest n)

pub takes_indexed : (letter highest n : ℕ) → is_letter letter ≡ true → n ≤ highest → n < 2 ^ 50 →
    Takes (seen (indexed letter highest) word) (lettered letter n ∷ []) n
takes_indexed letter highest n is below small = grind (arith, plain_lettered, indexed_reads)
