-- What is kept of a line while it comes, by what is taken of it.
use Rattle.std.proofs.Common.{◌≡◌, ◌≤◌, ◌<◌, ◌+◌, ◌∙◌, ℕ, Bool, true, false, cond, nat_lt, List, [], ◌∷◌, ◌++◌, length, take, length-append, ap, sym, arith}
use Rattle.std.proofs.Common.{rules, tests, min, Some, None}
use Rattle.std.proofs.lemmas.List.{length-take, take-append-le, take_all}
use Rattle.aom_debug_protocol.specs.Lines.{Kept, fitting_line, pending_of}

-- one byte more
more : (line : List ℕ) (b : ℕ) → length (line ++ b ∷ []) ≡ length line + 1
more line b = length-append line (b ∷ [])

lt_true : (a b : ℕ) → a < b → nat_lt a b ≡ true
lt_true a b h = search (rules, tests, h)

lt_false : (a b : ℕ) → b ≤ a → nat_lt a b ≡ false
lt_false a b h = search (rules, tests, h)

-- no room: the line goes on
pub full : (line : List ℕ) (b : ℕ) (k : Kept) → k ≡ pending_of line → length k.bytes ≡ 256 → record { bytes = k.bytes; is_long = true } ≡ pending_of (line ++ b ∷ [])
full line b k is at =
    let long : 256 ≤ length line = let e : min 256 (length line) ≡ 256 = sym (length-take 256 line)
    ∙ (sym (ap (λ (x : Kept). length x.bytes) is) ∙ at) in omega (arith, e) in
    let bytes : k.bytes ≡ take 256 (line ++ b ∷ []) = ap (λ (x : Kept). x.bytes) is ∙ sym (take-append-le 256 line (b ∷ []) long) in
    let over : true ≡ nat_lt 256 (length (line ++ b ∷ [])) = sym (lt_true 256 (length (line ++ b ∷ [])) (omega (arith, long, more line b))) in
    ap (λ (x : List ℕ). record { bytes = x; is_long = true }) bytes ∙ ap (λ (x : Bool). record { bytes = take 256 (line ++ b ∷ []); is_long = x }) over

-- room: it is kept whole
pub fits : (line : List ℕ) (b : ℕ) (k : Kept) → k ≡ pending_of line → length k.bytes < 256 →
    record { bytes = k.bytes ++ b ∷ []; is_long = k.is_long } ≡ pending_of (line ++ b ∷ [])
fits line b k is below =
    let short : length line < 256 = let e : min 256 (length line) ≡ length k.bytes = sym (length-take 256 line) ∙ sym (ap (λ (x : Kept). length x.bytes) is) in
    omega (arith, e, below) in
    let bytes : k.bytes ++ b ∷ [] ≡ take 256 (line ++ b ∷ []) = ap (λ (x : Kept). x.bytes ++ b ∷ []) is
    ∙ ap (λ (x : List ℕ). x ++ b ∷ []) (take_all 256 line (omega (arith, short))) ∙ sym (take_all 256 (line ++ b ∷ []) (omega (arith, short, more line b))) in
    let over : k.is_long ≡ nat_lt 256 (length (line ++ b ∷ [])) = ap (λ (x : Kept). x.is_long) is
    ∙ (lt_false 256 (length line) (omega (arith, short)) ∙ sym (lt_false 256 (length (line ++ b ∷ [])) (omega (arith, short, more line b)))) in
    ap (λ (x : List ℕ). record { bytes = x; is_long = k.is_long }) bytes ∙ ap (λ (x : Bool). record { bytes = take 256 (line ++ b ∷ []); is_long = x }) over

-- a line that is kept whole
pub whole : (line : List ℕ) (k : Kept) → k ≡ pending_of line → k.is_long ≡ false → k.bytes ≡ line
whole line k is short =
    let e : nat_lt 256 (length line) ≡ false = sym (ap (λ (x : Kept). x.is_long) is) ∙ short in
    let few : length line ≤ 256 = search (rules, tests, e) in
    ap (λ (x : Kept). x.bytes) is ∙ take_all 256 line few

-- of what is kept it is told whether the line fits
pub too_long : (line : List ℕ) (k : Kept) → k ≡ pending_of line → k.is_long ≡ true → None ≡ fitting_line line
too_long line k is long = ap (λ b. cond b None (Some line)) (sym long ∙ ap (λ (x : Kept). x.is_long) is)

pub fits_line : (line : List ℕ) (k : Kept) → k ≡ pending_of line → k.is_long ≡ false → Some k.bytes ≡ fitting_line line
fits_line line k is short = ap (λ (x : List ℕ). Some x) (whole line k is short) ∙ ap (λ b. cond b None (Some line)) (sym short ∙ ap (λ (x : Kept). x.is_long) is)
