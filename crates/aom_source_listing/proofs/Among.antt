-- Which tokens declare the members of classes, and the classes of a name.
use Rattle.std.proofs.Common.{All, subst, ◌≡◌, ◌∙◌, ◌<◌, Bool, true, false, ◌&&◌, List, [], ◌∷◌, ◌++◌, ℕ, zero, suc, ◌+◌, ◌-◌, Option, Some, None, refl, ap, arith, sym, drop, get_or, length, slice_get, if◌then◌else◌}
use Rattle.std.specs.List.{filter}
use Rattle.std.proofs.lemmas.List.{drop_all, drop_more}
use Rattle.std.proofs.lemmas.List.Elements.{All-push, filter-append}
use Rattle.aom_source_scopes.specs.Scopes.{word_at}
use Rattle.aom_source_tokens.specs.Tokens.{Source}
use Rattle.aom_source_names.specs.Declarations.{declared_as}
use Rattle.aom_source_names.specs.Meanings.{declarations_in, is_number, is_outer, matching, matching_in, parent_of, suits}
use Rattle.aom_source_names.specs.Spots.{spot_at}
use Rattle.aom_source_names.specs.Words.{are_same_name, is_colon}
use Rattle.aom_source_names.specs.declared.declared.Declared.{Declared}
use Rattle.aom_source_names.specs.declared.declared.Declared.TheVariants as d
use Rattle.aom_source_names.specs.declared.wanted.Wanted.TheVariants as w
use Rattle.aom_source_listing.specs.Members.{is_member, is_own, members_along, own_members}
use Rattle.aom_source_listing.specs.Own.{IsOwn, all_that, fits, is_any_member, is_class, is_name_at}
use Rattle.aom_source_listing.specs.declared.own.Member.{Member}
use Rattle.aom_source_listing.specs.declared.own.Member.TheVariants as m
use Rattle.aom_source_listing.specs.declared.own.Own.{Own}
use Rattle.aom_source_listing.specs.declared.own.Sought.TheVariants as sought

-- ---- filters

one_of_two : (p q : ℕ → Bool) (x : ℕ) (xs : List ℕ) (a b : Bool) → p x ≡ a → q x ≡ b → (a ≡ true → b ≡ true) → filter p (filter q xs) ≡ filter p xs
    → filter p (filter q (x ∷ xs)) ≡ filter p (x ∷ xs)
one_of_two p q x xs true true is also so same =
    ap (λ t. filter p (if t then x ∷ filter q xs else filter q xs)) also
    ∙ ap (λ t. if t then x ∷ filter p (filter q xs) else filter p (filter q xs)) is
    ∙ ap (λ ys. x ∷ ys) same
    ∙ sym (ap (λ t. if t then x ∷ filter p xs else filter p xs) is)
one_of_two p q x xs true false is also so same = let clash : false ≡ true = so refl in absurd cc
one_of_two p q x xs false true is also so same =
    ap (λ t. filter p (if t then x ∷ filter q xs else filter q xs)) also
    ∙ ap (λ t. if t then x ∷ filter p (filter q xs) else filter p (filter q xs)) is
    ∙ same
    ∙ sym (ap (λ t. if t then x ∷ filter p xs else filter p xs) is)
one_of_two p q x xs false false is also so same =
    ap (λ t. filter p (if t then x ∷ filter q xs else filter q xs)) also
    ∙ same
    ∙ sym (ap (λ t. if t then x ∷ filter p xs else filter p xs) is)

-- a filter behind a weaker one
filter_twice : (p q : ℕ → Bool) → ((x : ℕ) → p x ≡ true → q x ≡ true) → (xs : List ℕ) → filter p (filter q xs) ≡ filter p xs
filter_twice p q so [] = refl
filter_twice p q so (x ∷ xs) = one_of_two p q x xs (p x) (q x) refl refl (so x) (filter_twice p q so xs)

-- ---- members

is_some_member : (kind : Member) (o : Option Declared) (b : Bool) → (is_member kind o && b) ≡ true → is_any_member o ≡ true
is_some_member m.Word (Some d.Word) b is = refl
is_some_member m.Field (Some d.Owner) b is = refl
is_some_member _ _ b is = let clash : false ≡ true = is in absurd cc

pub own_of_all : (s : Source) (kind : Member) (class : ℕ) → filter (fits s (sought.Own kind class)) (all_that s sought.AnyMember) ≡ own_members s kind class
own_of_all s kind class =
    filter_twice (is_own s kind class) (fits s sought.AnyMember) (λ x is. is_some_member kind (declared_as s x) (is_number (spot_at s x).outer class) is)
    (declarations_in s (length s.tokens))

pub one_own_more : (s : Source) (xs ys : List Own) (own : Own) → ys ≡ xs ++ own ∷ [] → All (IsOwn s) xs → IsOwn s own → All (IsOwn s) ys
one_own_more s xs ys own grown so more = subst (All (IsOwn s)) (sym grown) (All-push (IsOwn s) xs own so more)

-- ---- classes by name

never : (same : Bool) (n : ℕ) → (if same && false then n ∷ [] else []) ≡ []
never true n = refl
never false n = refl

picks : (p q : ℕ → Bool) (n : ℕ) (same fit : Bool) → p n ≡ same → q n ≡ fit → (if same && fit then n ∷ [] else []) ≡ filter p (filter q (n ∷ []))
picks p q n true true is fits = sym (ap (λ t. filter p (if t then n ∷ [] else [])) fits ∙ ap (λ t. if t then n ∷ [] else []) is)
picks p q n false true is fits = sym (ap (λ t. filter p (if t then n ∷ [] else [])) fits ∙ ap (λ t. if t then n ∷ [] else []) is)
picks p q n true false is fits = sym (ap (λ t. filter p (if t then n ∷ [] else [])) fits)
picks p q n false false is fits = sym (ap (λ t. filter p (if t then n ∷ [] else [])) fits)

one_class : (same : Bool) (s : Source) (at n : ℕ) (o : Option Declared) → are_same_name (word_at s at) (word_at s n) ≡ same → declared_as s n ≡ o
    → (if same && suits s at [] n w.Class o then n ∷ [] else []) ≡ filter (is_name_at s at) (filter (fits s sought.AnyClass) (if is_outer o then n ∷ [] else []))
one_class same s at n None is declares = never same n
one_class same s at n (Some d.Parameter) is declares = never same n
one_class same s at n (Some d.Local) is declares = never same n
one_class same s at n (Some d.Class) is declares = picks (is_name_at s at) (fits s sought.AnyClass) n same true is (ap is_class declares)
one_class same s at n (Some _) is declares = picks (is_name_at s at) (fits s sought.AnyClass) n same false is (ap is_class declares)

matching_classes : (s : Source) (at n : ℕ) → matching_in s at [] w.Class n ≡ filter (is_name_at s at) (filter (fits s sought.AnyClass) (declarations_in s n))
unfolding matching_in declarations_in
matching_classes s at zero = refl
matching_classes s at (suc n) =
    let p = is_name_at s at in
    let q = fits s sought.AnyClass in
    let before = declarations_in s n in
    let here = if is_outer (declared_as s n) then n ∷ [] else [] in
    ap (λ xs. xs ++ (if are_same_name (word_at s at) (word_at s n) && suits s at [] n w.Class (declared_as s n) then n ∷ [] else [])) (matching_classes s at n)
    ∙ ap (λ xs. filter p (filter q before) ++ xs) (one_class (are_same_name (word_at s at) (word_at s n)) s at n (declared_as s n) refl refl)
    ∙ sym (ap (filter p) (filter-append q before here) ∙ filter-append p (filter q before) (filter q here))

pub parent_is : (s : Source) (class : ℕ) (classes : List ℕ) (found : Option ℕ) → is_colon (word_at s (class + 1)) ≡ true → classes ≡ all_that s sought.AnyClass
    → found ≡ slice_get (filter (is_name_at s (class + 2)) classes) 0 → found ≡ parent_of s class
parent_is s class classes found colon all is =
    let named = is_name_at s (class + 2) in
    is ∙ ap (λ xs. slice_get (filter named xs) 0) all ∙ ap (λ xs. slice_get xs 0) (sym (matching_classes s (class + 2) (length s.tokens)))
    ∙ sym (ap (λ b. if b then slice_get (matching s (class + 2) [] w.Class) 0 else None) colon)

-- ---- members of classes above each other

one_back : (xs : List ℕ) (i d : ℕ) → i < length xs → drop (length xs - (i + 1)) xs ≡ get_or xs (length xs - 1 - i) d ∷ drop (length xs - i) xs
one_back xs i d within =
    let at : length xs - (i + 1) ≡ length xs - 1 - i = grind arith in
    let next : length xs - 1 - i + 1 ≡ length xs - i = grind arith in
    ap (λ n. drop n xs) at ∙ drop_more xs (length xs - 1 - i) d (grind arith) ∙ ap (λ n. get_or xs (length xs - 1 - i) d ∷ drop n xs) next

along_none : (s : Source) (kind : Member) → members_along s kind [] ≡ []
unfolding members_along
along_none s kind = refl

along_above : (s : Source) (kind : Member) (class : ℕ) (above : List ℕ) → members_along s kind (class ∷ above) ≡ members_along s kind above ++ own_members s kind class
unfolding members_along
along_above s kind class above = refl

-- none so far
pub along_begins : (s : Source) (kind : Member) (line : List ℕ) → [] ≡ members_along s kind (drop (length line - 0) line)
along_begins s kind line = sym (ap (members_along s kind) (drop_all (length line - 0) line (grind arith)) ∙ along_none s kind)

-- those of one class more
pub along_more : (s : Source) (kind : Member) (line before after own : List ℕ) (back d class : ℕ) → back < length line → before ≡ members_along s kind (drop (length line - back) line)
    → after ≡ before ++ own → own ≡ own_members s kind class → class ≡ get_or line (length line - 1 - back) d → after ≡ members_along s kind (drop (length line - (back + 1)) line)
along_more s kind line before after own back d class within so grown are is =
    let here = get_or line (length line - 1 - back) d in
    let above = drop (length line - back) line in
    grown ∙ ap (λ xs. xs ++ own) so ∙ ap (λ xs. members_along s kind above ++ xs) (are ∙ ap (own_members s kind) is)
    ∙ sym (ap (members_along s kind) (one_back line back d within) ∙ along_above s kind here above)
