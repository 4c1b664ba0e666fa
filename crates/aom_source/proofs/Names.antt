-- The names of registers, method by method.
use Rattle.std.proofs.Common.{◌≡◌, ◌∙◌, List, [], ◌∷◌, ◌++◌, ℕ, ◌+◌, ◌<◌, Option, Some, None, refl, append_assoc, ap, arith, sym, false, flat_map, get_or, length, map, take}
use Rattle.std.proofs.lemmas.List.{append-nil, length-append, length-map, map_more, take_more}
use Rattle.aom_source_code.specs.declared.code.Code.{Code}
use Rattle.aom_source_code.specs.declared.code.NamedRegister.{NamedRegister}
use Rattle.aom_source_program.specs.declared.method.Method.{Method}
use Rattle.aom_source_program.specs.declared.method.MethodId.{MethodId}
use Rattle.aom_source.specs.Map.{Adds, Names, at_line, code_names, code_tokens, method_length, method_names, method_tokens, names_of_method, tokens_of}
use Rattle.aom_source.specs.declared.writing.Origin.{Origin}
use Rattle.aom_source.specs.declared.writing.Writing.{Writing}

-- no line, while no origin is added and memory lacks no less
pub then_none : (a b c : Writing) (xs : List ℕ) → Adds a b xs → c.origins ≡ b.origins → (c.lacks ≡ false → b.lacks ≡ false) → Adds a c xs
then_none a b c xs first same still lacks =
    let before = first (still lacks) in
    (before.0, ap (λ o. tokens_of o.items) same ∙ before.1)

-- as many origins more as lines
pub lines_so_far : (a b : Writing) (xs : List ℕ) → Adds a b xs → b.lacks ≡ false → length b.origins.items ≡ length a.origins.items + length xs
lines_so_far a b xs adds lacks =
    let token : Origin → ℕ = λ o. o.token in
    sym (length-map b.origins.items token) ∙ ap length (adds lacks).1 ∙ length-append (tokens_of a.origins.items) xs
    ∙ ap (λ n. n + length xs) (length-map a.origins.items token)

-- one name more
pub one_name_more : (names more : List NamedRegister) (before : List NamedRegister) (line : ℕ) (xs : List NamedRegister) (i : ℕ) (d : NamedRegister) → i < length xs
    → names ≡ before ++ map (at_line line) (take i xs) → more ≡ names ++ at_line line (get_or xs i d) ∷ [] → more ≡ before ++ map (at_line line) (take (i + 1) xs)
one_name_more names more before line xs i d within so grown =
    let here = at_line line (get_or xs i d) ∷ [] in
    grown ∙ ap (λ n. n ++ here) so ∙ append_assoc before (map (at_line line) (take i xs)) here ∙ ap (λ n. before ++ n) (sym (map_more (at_line line) xs i d within))

length_of_method : (methods : List Method) (codes : List (Option Code)) (id : MethodId) → length (method_tokens methods codes id) ≡ method_length codes id
length_of_method methods codes id =
    let body = code_tokens (get_or codes id.0 None) in
    let end = get_or (map (λ (m : Method). m.end_token) methods) id.0 0 in
    grind (arith, length-append body (end ∷ []))

names_behind : (codes : List (Option Code)) (line : ℕ) (id : MethodId) (ids : List MethodId)
    → method_names codes line (id ∷ ids) ≡ names_of_method codes line id ++ method_names codes (line + method_length codes id) ids
unfolding method_names
names_behind codes line id ids = refl

pub names_none : (codes : List (Option Code)) (line : ℕ) → method_names codes line [] ≡ []
unfolding method_names
names_none codes line = refl

names_append : (methods : List Method) (codes : List (Option Code)) (line : ℕ) (xs ys : List MethodId)
    → method_names codes line (xs ++ ys) ≡ method_names codes line xs ++ method_names codes (line + length (flat_map (method_tokens methods codes) xs)) ys
names_append methods codes line [] ys =
    ap (λ n. method_names codes n ys) (grind arith) ∙ ap (λ n. n ++ method_names codes (line + 0) ys) (sym (names_none codes line))
names_append methods codes line (x ∷ xs) ys =
    let f = method_tokens methods codes in
    let own = names_of_method codes line x in
    let next = line + method_length codes x in
    let number : next + length (flat_map f xs) ≡ line + length (flat_map f (x ∷ xs)) = grind (arith, length_of_method methods codes x, length-append (f x) (flat_map f xs)) in
    names_behind codes line x (xs ++ ys) ∙ ap (λ n. own ++ n) (names_append methods codes next xs ys)
    ∙ sym (append_assoc own (method_names codes next xs) (method_names codes (next + length (flat_map f xs)) ys))
    ∙ ap (λ n. (own ++ method_names codes next xs) ++ method_names codes n ys) number
    ∙ ap (λ n. n ++ method_names codes (line + length (flat_map f (x ∷ xs))) ys) (sym (names_behind codes line x xs))

-- the names of one method more
pub one_method_more : (methods : List Method) (codes : List (Option Code)) (line : ℕ) (ids : List MethodId) (i : ℕ) (d : MethodId) → i < length ids
    → method_names codes line (take (i + 1) ids)
    ≡ method_names codes line (take i ids) ++ names_of_method codes (line + length (flat_map (method_tokens methods codes) (take i ids))) (get_or ids i d)
one_method_more methods codes line ids i d within =
    let before = take i ids in
    let x = get_or ids i d in
    let next = line + length (flat_map (method_tokens methods codes) before) in
    ap (method_names codes line) (take_more ids i d within) ∙ names_append methods codes line before (x ∷ [])
    ∙ ap (λ n. method_names codes line before ++ n) (names_behind codes next x [] ∙ ap (λ n. names_of_method codes next x ++ n) (names_none codes (next + method_length codes x)) ∙ append-nil (names_of_method codes next x))

-- a method's names are added behind its head
pub method_named : (a b c d e : Writing) (codes : List (Option Code)) (id : MethodId) (code : Code) (given : List NamedRegister) → length b.origins.items ≡ length a.origins.items + 1 → b.names ≡ a.names
    → c.names.items ≡ b.names.items ++ map (at_line (length b.origins.items)) given → given ≡ code.names.items → d.names ≡ c.names → e.names ≡ d.names → get_or codes id.0 None ≡ Some code
    → e.names.items ≡ a.names.items ++ names_of_method codes (length a.origins.items) id
method_named a b c d e codes id code given line kept grown are coded ended is =
    let next = length a.origins.items + 1 in
    ap (λ n. n.items) (ended ∙ coded) ∙ grown ∙ ap (λ n. n.items ++ map (at_line (length b.origins.items)) given) kept ∙ ap (λ n. a.names.items ++ map (at_line n) given) line
    ∙ ap (λ n. a.names.items ++ map (at_line next) n) are ∙ ap (λ o. a.names.items ++ map (at_line next) (code_names o)) (sym is)

-- no method has no name
pub names_begin : (a : Writing) (codes : List (Option Code)) (line : ℕ) → Names a a (method_names codes line [])
names_begin a codes line lacks = sym (append-nil a.names.items) ∙ ap (λ n. a.names.items ++ n) (sym (names_none codes line))

-- the names so far, and those of the next method
pub names_more : (a b c : Writing) (methods : List Method) (codes : List (Option Code)) (ids : List MethodId) (i : ℕ) (d : MethodId) → i < length ids
    → Adds a b (flat_map (method_tokens methods codes) (take i ids)) → Adds b c (method_tokens methods codes (get_or ids i d))
    → Names a b (method_names codes (length a.origins.items) (take i ids)) → Names b c (names_of_method codes (length b.origins.items) (get_or ids i d))
    → Names a c (method_names codes (length a.origins.items) (take (i + 1) ids))
names_more a b c methods codes ids i d within lines next names more lacks =
    let still = (next lacks).0 in
    let line = length a.origins.items in
    let id = get_or ids i d in
    let before = method_names codes line (take i ids) in
    let place = lines_so_far a b (flat_map (method_tokens methods codes) (take i ids)) lines still in
    more lacks ∙ ap (λ n. n ++ names_of_method codes (length b.origins.items) id) (names still)
    ∙ ap (λ n. (a.names.items ++ before) ++ names_of_method codes n id) place
    ∙ append_assoc a.names.items before (names_of_method codes (line + length (flat_map (method_tokens methods codes) (take i ids))) id)
    ∙ ap (λ n. a.names.items ++ n) (sym (one_method_more methods codes line ids i d within))
