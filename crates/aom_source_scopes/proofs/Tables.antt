-- Tables that grow by one token.
use Rattle.std.proofs.Common.{◌≡◌, ◌∙◌, ◌≤◌, ◌<◌, ◌⊎◌, inl, inr, List, [], ◌∷◌, ◌++◌, ℕ, suc, ◌+◌, ◌-◌, refl, ap, arith, sym, get_or, drop, length}
use Rattle.std.proofs.lemmas.Bool.{cases_lt}
use Rattle.std.proofs.lemmas.List.{drop_all, drop_more, get_or_append_left, length-append}
use Rattle.std.proofs.Math.Seq.{get_or-append_seam}
use Rattle.aom_source_tokens.specs.Tokens.{Placed, Word}
use Rattle.aom_source_scopes.specs.Blocks.{closers, closers_from, innermost, next_close, next_from, own_close}
use Rattle.aom_source_scopes.specs.Tables.{AreOf, table}
use Rattle.aom_source_scopes.specs.declared.blocks.Blocks.{Blocks}

length_table : (f : List Placed → ℕ) (ts : List Placed) → length (table f ts) ≡ suc (length ts)
unfolding table
length_table f [] = refl
length_table f (t ∷ ts) = grind (arith, length-append (table f ts) (f (t ∷ ts) ∷ []), length_table f ts)

innermost_more : (xs : List ℕ) (x : ℕ) → innermost (xs ++ x ∷ []) ≡ x
innermost_more xs x =
    let last : length (xs ++ x ∷ []) - 1 ≡ length xs = grind (arith, length-append xs (x ∷ [])) in
    ap (λ n. get_or (xs ++ x ∷ []) n 0) last ∙ get_or-append_seam xs x [] 0

-- the last entry is of all tokens
innermost_table : (f : List Placed → ℕ) (ts : List Placed) → innermost (table f ts) ≡ f ts
unfolding table
innermost_table f [] = refl
innermost_table f (t ∷ ts) = innermost_more (table f ts) (f (t ∷ ts))

-- an entry is of so many last tokens
at_table_more : (f : List Placed → ℕ) (t : Placed) (ts : List Placed) (k : ℕ) → k ≤ suc (length ts) → (k < suc (length ts)) ⊎ (suc (length ts) ≤ k)
    → (k ≤ length ts → get_or (table f ts) k 0 ≡ f (drop (length ts - k) ts)) → get_or (table f ts ++ f (t ∷ ts) ∷ []) k 0 ≡ f (drop (suc (length ts) - k) (t ∷ ts))
at_table_more f t ts k within (inl below) before =
    let count = length_table f ts in
    let next : suc (length ts) - k ≡ suc (length ts - k) = grind arith in
    get_or_append_left (table f ts) (f (t ∷ ts) ∷ []) 0 k (grind (arith, count)) ∙ before (grind arith) ∙ ap (λ n. f (drop n (t ∷ ts))) (sym next)
at_table_more f t ts k within (inr beyond) before =
    let last : k ≡ length (table f ts) = grind (arith, length_table f ts) in
    let all : suc (length ts) - k ≡ 0 = grind arith in
    ap (λ n. get_or (table f ts ++ f (t ∷ ts) ∷ []) n 0) last ∙ get_or-append_seam (table f ts) (f (t ∷ ts)) [] 0 ∙ ap (λ n. f (drop n (t ∷ ts))) (sym all)

pub at_table : (f : List Placed → ℕ) (ts : List Placed) (k : ℕ) → k ≤ length ts → get_or (table f ts) k 0 ≡ f (drop (length ts - k) ts)
unfolding table
at_table f [] k within =
    let none : k ≡ 0 = grind arith in
    ap (λ n. get_or (f [] ∷ []) n 0) none ∙ ap f (sym (drop_all (0 - k) [] (grind arith)))
at_table f (t ∷ ts) k within = at_table_more f t ts k within (cases_lt k (suc (length ts))) (at_table f ts k)

from_behind : (ts : List Placed) (n : ℕ) → (n < length ts) ⊎ (length ts ≤ n) → drop (length ts - (length ts - n)) ts ≡ drop n ts
from_behind ts n (inl within) =
    let same : length ts - (length ts - n) ≡ n = grind arith in
    ap (λ i. drop i ts) same
from_behind ts n (inr beyond) = drop_all (length ts - (length ts - n)) ts (grind arith) ∙ sym (drop_all n ts beyond)

-- the entry of those from one on
pub at_declared : (f : List Placed → ℕ) (ts : List Placed) (declared : ℕ) → get_or (table f ts) (length ts - declared) 0 ≡ f (drop declared ts)
at_declared f ts declared = at_table f ts (length ts - declared) (grind arith) ∙ ap f (from_behind ts declared (cases_lt declared (length ts)))

pub added : (old new : Blocks) (word : Word) (t : Placed) (ts : List Placed) → t.word ≡ word → AreOf ts old
    → new.closers.items ≡ closers_from word (length old.own.items) old.closers.items
    → new.own.items ≡ old.own.items ++ innermost new.closers.items ∷ []
    → new.next.items ≡ old.next.items ++ next_from word (innermost old.closers.items) (innermost old.next.items) ∷ []
    → AreOf (t ∷ ts) new
unfolding table closers next_close
added old new word t ts is so closers' own' next' =
    let count : length old.own.items ≡ suc (length ts) = ap length so.own ∙ length_table own_close ts in
    let closing : new.closers.items ≡ closers_from t.word (suc (length ts)) (closers ts) =
    closers' ∙ ap (λ w. closers_from w (length old.own.items) old.closers.items) (sym is) ∙ ap (λ n. closers_from t.word n old.closers.items) count ∙ ap (closers_from t.word (suc (length ts))) so.closers in
    let own : innermost old.closers.items ≡ own_close ts = ap innermost so.closers in
    let next : innermost old.next.items ≡ next_close ts = ap innermost so.next ∙ innermost_table next_close ts in
    record {
      closers = closing;
      own = own' ∙ ap (λ xs. xs ++ innermost new.closers.items ∷ []) so.own ∙ ap (λ c. table own_close ts ++ innermost c ∷ []) closing;
      next = next' ∙ ap (λ xs. xs ++ next_from word (innermost old.closers.items) (innermost old.next.items) ∷ []) so.next
          ∙ ap (λ w. table next_close ts ++ next_from w (innermost old.closers.items) (innermost old.next.items) ∷ []) (sym is)
          ∙ ap (λ n. table next_close ts ++ next_from t.word n (innermost old.next.items) ∷ []) own ∙ ap (λ n. table next_close ts ++ next_from t.word (own_close ts) n ∷ []) next;
    }

-- one token more from behind
pub one_back : (s : List Placed) (i : ℕ) (d : Placed) → i < length s → drop (length s - (i + 1)) s ≡ get_or s (length s - 1 - i) d ∷ drop (length s - i) s
one_back s i d within =
    let at : length s - (i + 1) ≡ length s - 1 - i = grind arith in
    let next : length s - 1 - i + 1 ≡ length s - i = grind arith in
    ap (λ n. drop n s) at ∙ drop_more s (length s - 1 - i) d (grind arith) ∙ ap (λ n. get_or s (length s - 1 - i) d ∷ drop n s) next
