-- Where a name is declared once, it is found at its place, and the other way round.
use Rattle.std.proofs.lemmas.Bool.Decides.{nat_tests}
use Rattle.std.proofs.Common.{◌≡◌, ℕ, ◌<◌, ◌≤◌, Bool, true, false, List, [], length, Option, Some, None, Ok, sym, ap, ◌∙◌, arith, cond, get_or, nat_lt}
use Rattle.std.specs.Prelude.{if◌then◌else◌}
use Rattle.std.specs.Str.{bytes_eq}
use Rattle.std.proofs.lemmas.Bool.{lt-ltb, false_from_ne_true}
use Rattle.std.proofs.lemmas.List.Sums.{position_or_len_is}
use Rattle.std.proofs.lemmas.Option.{get_or_from_slice_get, slice_get-get_or, slice_get_within, same_Some}
use Rattle.std.proofs.lemmas.Slice.Eq.{bytes_eq-Decides}
use Rattle.aom_image.specs.declared.class.ClassDecl.{ClassDecl}
use Rattle.aom_syntax.specs.Names.{place_of, nowhere, referred}
use Rattle.aom_syntax.specs.declared.scope.Scope.{Scope}
use Rattle.aom_asm_semantics.specs.Meaning.{DeclaredOnce, IsNumbered, NameTables}
use Rattle.aom_asm_semantics.proofs.Operands.{FindsMore}
use Rattle.aom_asm_semantics.proofs.Words.{LooksUp}
use Rattle.aom_asm_semantics.proofs.ImageLemmas.{some_given, true_given}

-- ---- one place for each name

pub found_once : (space : List (List ℕ)) (w : List ℕ) (n : ℕ) → DeclaredOnce space → IsNumbered space w n → place_of w space ≡ Some n
found_once space w n once is =
    let within = slice_get_within space n w is.declared in
    let here : get_or space n [] ≡ w = get_or_from_slice_get space n w [] is.declared in
    let other : (j : ℕ) → j < n → bytes_eq (get_or space j []) w ≡ false =
    grind (arith, nat_tests, false_from_ne_true, slice_get-get_or space, bytes_eq-Decides) in
    let at = position_or_len_is (λ v. bytes_eq v w) space n [] (omega arith) other (λ less. (bytes_eq-Decides (get_or space n []) w).1 here) in
    let less : nat_lt n (length space) ≡ true = lt-ltb n (length space) within in
    ap (λ m. cond (nat_lt m (length space)) (Some m) None) at ∙ rw less

-- each name of a space is found at its place
pub record FoundInPlace (space : List (List ℕ)) : Type 0 where
  pub found : (w : List ℕ) (n : ℕ) → IsNumbered space w n → place_of w space ≡ Some n

pub once_found : (space : List (List ℕ)) → FoundInPlace space → DeclaredOnce space
once_found space all = record { same = λ w m n one other. same_Some m n (sym (all.found w m one) ∙ all.found w n other) }

-- ---- scopes

refers : (b : Bool) (limit n : ℕ) → n < limit → referred b limit (Some n) ≡ Ok n
refers b limit n below = ap (λ c. if c then Ok n else nowhere b) (lt-ltb n limit below)

-- a scope of these names, told apart or not
abbrev pub scoped : Bool → NameTables → List ClassDecl → Scope
scoped b names kinds = record { is_strict = b; classes = names.classes; methods = names.methods; kinds = kinds }

looks : (b : Bool) (limit : ℕ) (space : List (List ℕ)) → DeclaredOnce space → length space ≤ limit → (w : List ℕ) (n : ℕ) → IsNumbered space w n →
    referred b limit (place_of w space) ≡ Ok n
looks b limit space once few w n is = grind (arith, nat_tests, slice_get_within space n w is.declared, found_once space w n once is, refers b limit n)

pub looks_up : (b : Bool) (names : NameTables) (kinds : List ClassDecl) →
    DeclaredOnce names.classes → length names.classes ≤ 256 → DeclaredOnce names.methods → length names.methods ≤ 1024 → LooksUp names (scoped b names kinds)
looks_up b names kinds classes few_classes methods few_methods =
    record { class = looks b 256 names.classes classes few_classes; method = looks b 1024 names.methods methods few_methods }

-- what is found where names are told apart is found where they are not
loosens : (b : Bool) (limit : ℕ) (o : Option ℕ) (n : ℕ) → referred true limit o ≡ Ok n → referred b limit o ≡ Ok n
loosens b limit o n is = grind (arith, nat_tests, some_given, true_given)

pub finds_more : (b : Bool) (limit : ℕ) (names : NameTables) (kinds before : List ClassDecl) (space : List (List ℕ)) →
    FindsMore limit (scoped true names before) (scoped b names kinds) space space
finds_more b limit names kinds before space = record { finds = λ w n is. loosens b limit (place_of w space) n is }
