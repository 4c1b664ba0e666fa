-- What is still to be read stands at its place in the text, as it is passed over.
use Rattle.std.proofs.Common.{ℕ, Bool, true, false, List, [], ◌∷◌, ◌++◌, ◌≡◌, ◌≤◌, ◌<◌, ◌+◌, ◌==◌, not, ◌∙◌, refl, sym, ap, take, drop, arith, length, length-drop, length-append, append_assoc, map, subst, nat_lt, ◌||◌, ◌-◌, ◌^◌, Ok, Err, Result, Option, Some, None, cond, zero, suc, if◌then◌else◌}
use Rattle.std.specs.List.{All}
use Rattle.std.proofs.lemmas.List.Elements.{All-push}
use Rattle.std.proofs.Math.Seq.{take-add}
use Rattle.std.proofs.lemmas.List.{drop-drop, length-take, map-append, append-nil}
use Rattle.std.proofs.lemmas.List.Sums.{fold-append}
use Rattle.std.proofs.lemmas.Bool.Decides.{nat_tests}
use Rattle.aom_source_tokens.specs.declared.place.Place.{Place}
use Rattle.aom_source_tokens.specs.declared.fault.TokenFaultKind.{TokenFaultKind}
use Rattle.aom_source_tokens.specs.declared.fault.TokenFaultKind.TheVariants.{TextTooLong}
use Rattle.aom_source_tokens.specs.declared.token.Token.{Token}
use Rattle.aom_source_tokens.specs.declared.mark.Mark.{Mark}
use Rattle.aom_source_tokens.specs.Marks.{mark_of_one, mark_of_two}
use Rattle.aom_source_tokens.specs.Bytes.{gap_length, begins_comment, is_blank, is_digit, is_letter, is_number_byte, is_name_byte}
use Rattle.aom_source_tokens.specs.Places.{IsPlaceIn, place_after, place_behind, first_place}
use Rattle.aom_source_tokens.specs.declared.fault.TokenFault.{TokenFault}
use Rattle.aom_source_tokens.specs.Tokens.{Rest, Read, Placed, passed, skipped, Lexed, lexed, size_of, before, tokens_from, tokens_behind, tokens_of, placed_of, word_of, Word, number_of_size, short_mark, long_mark, length_of, begins_hexadecimal}

pub record IsRestOf (text : List ℕ) (r : Rest) : Type 0 where
  pub within : r.place.at ≤ length text
  pub place : r.place ≡ place_after first_place (take r.place.at text)
  pub bytes : r.bytes ≡ drop r.place.at text

pub at_behind : (p : Place) (b : ℕ) → (place_behind p b).at ≡ p.at + 1
at_behind p b =
    elim (b == 10) as (λ (v : Bool). (cond {A = Place} v (record { at = p.at + 1; line = p.line + 1; column = 1 }) (record { at = p.at + 1; line = p.line; column = p.column + 1 })).at ≡ p.at + 1) [ true ↦ refl | false ↦ refl ]

pub at_after : (p : Place) (bytes : List ℕ) → (place_after p bytes).at ≡ p.at + length bytes
at_after p [] = omega arith
at_after p (b ∷ bs) = omega (arith, at_after (place_behind p b) bs, at_behind p b)

pub is_place : (text : List ℕ) (r : Rest) → IsRestOf text r → IsPlaceIn text r.place
is_place text r h = record { within = h.within; is = h.place }

pub passed_rest : (text : List ℕ) (r : Rest) (n : ℕ) → IsRestOf text r → n ≤ length r.bytes → IsRestOf text (passed n r)
passed_rest text r n h small =
    let size : length r.bytes ≡ length (drop r.place.at text) = ap length h.bytes in
    let taken : length (take n r.bytes) ≡ n = omega (arith, length-take n r.bytes) in
    let at : (place_after r.place (take n r.bytes)).at ≡ r.place.at + n = at_after r.place (take n r.bytes) ∙ ap (λ (k : ℕ). r.place.at + k) taken in
    record {
      within = omega (arith, at, size, length-drop r.place.at text, h.within);
      place = ap (λ (p : Place). place_after p (take n r.bytes)) h.place
          ∙ sym (fold-append place_behind first_place (take r.place.at text) (take n r.bytes))
          ∙ ap (λ (bs : List ℕ). place_after first_place (take r.place.at text ++ take n bs)) h.bytes
          ∙ ap (λ (bs : List ℕ). place_after first_place bs) (sym (take-add r.place.at n text))
          ∙ ap (λ (k : ℕ). place_after first_place (take k text)) (sym at);
      bytes = ap (λ (bs : List ℕ). drop n bs) h.bytes ∙ drop-drop n r.place.at text ∙ ap (λ (k : ℕ). drop k text) (sym at);
    }

pub gap_within_by : (comments blank : Bool) (inside outside n : ℕ) → inside ≤ n → outside ≤ n → cond comments (1 + inside) (cond blank (1 + outside) 0) ≤ suc n
gap_within_by true blank inside outside n h k = omega arith
gap_within_by false true inside outside n h k = omega arith
gap_within_by false false inside outside n h k = omega arith

pub gap_within : (inside : Bool) (bytes : List ℕ) → gap_length inside bytes ≤ length bytes
gap_within inside [] = omega arith
gap_within true (b ∷ bs) = omega (arith, gap_within (not (b == 10)) bs)
gap_within false (b ∷ bs) = gap_within_by (begins_comment (b ∷ bs)) (is_blank b) (gap_length true bs) (gap_length false bs) (length bs) (gap_within true bs) (gap_within false bs)

pub skipped_rest : (text : List ℕ) (r : Rest) → IsRestOf text r → IsRestOf text (skipped r)
skipped_rest text r h = passed_rest text r (gap_length false r.bytes) h (gap_within false r.bytes)

-- no token but the end has no byte
abbrev pub HasBytes : Lexed → Type 0
HasBytes (Ok first) = 0 < first.1
HasBytes (Err kind) = Unit {0}

pub before_before : (xs ys : List Placed) (r : Read) → before xs (before ys r) ≡ before (xs ++ ys) r
before_before xs ys (Ok others) = ap (λ (zs : List Placed). Ok (zs, others.1)) (sym (append_assoc xs ys others.0))
before_before xs ys (Err fault) = refl

pub not_none : (bytes : List ℕ) → 0 < length bytes → (length bytes == 0) ≡ false
not_none bytes some = grind (arith, nat_tests)

pub is_none : (bytes : List ℕ) → length bytes ≡ 0 → (length bytes == 0) ≡ true
is_none bytes none = grind (arith, nat_tests)

pub behind_ok : (xs : List Placed) (x : Placed) (others : Rest → Read) (r next : Rest) (l : Lexed) (size : ℕ) → l ≡ Ok (x.word, size) → x.place ≡ r.place
    → next ≡ skipped (passed size r) → before xs (tokens_behind others r l) ≡ before (xs ++ x ∷ []) (others next)
behind_ok xs x others r next l size is place behind =
    ap (λ (v : Lexed). before xs (tokens_behind others r v)) is
    ∙ before_before xs (record { word = x.word; place = r.place } ∷ []) (others (skipped (passed size r)))
    ∙ ap (λ (p : Place). before (xs ++ record { word = x.word; place = p } ∷ []) (others (skipped (passed size r)))) (sym place)
    ∙ ap (λ (v : Rest). before (xs ++ x ∷ []) (others v)) (sym behind)

-- one token is read, and so many may still come
pub one_more : (xs : List Placed) (x : Placed) (n : ℕ) (r next : Rest) → 0 < length r.bytes → lexed r.bytes ≡ Ok (x.word, size_of (lexed r.bytes)) → x.place ≡ r.place
    → next ≡ skipped (passed (size_of (lexed r.bytes)) r) → before xs (tokens_from (suc n) r) ≡ before (xs ++ x ∷ []) (tokens_from n next)
one_more xs x n r next some is place behind =
    ap (λ (v : Bool). before xs (if v then Ok ([], r.place) else tokens_behind (tokens_from n) r (lexed r.bytes))) (not_none r.bytes some)
    ∙ behind_ok xs x (tokens_from n) r next (lexed r.bytes) (size_of (lexed r.bytes)) is place behind

pub at_end : (n : ℕ) (r : Rest) → length r.bytes ≡ 0 → tokens_from n r ≡ Ok ([], r.place)
at_end zero r none = refl
at_end (suc n) r none = ap (λ (v : Bool). if v then Ok ([], r.place) else tokens_behind (tokens_from n) r (lexed r.bytes)) (is_none r.bytes none)

pub refused_here : (xs : List Placed) (n : ℕ) (r : Rest) (fault : TokenFault) → 0 < length r.bytes → lexed r.bytes ≡ Err fault.kind → fault.place ≡ r.place
    → before xs (tokens_from (suc n) r) ≡ Err fault
refused_here xs n r fault some is place =
    ap (λ (v : Bool). before xs (if v then Ok ([], r.place) else tokens_behind (tokens_from n) r (lexed r.bytes))) (not_none r.bytes some)
    ∙ ap (λ (v : Lexed). before xs (tokens_behind (tokens_from n) r v)) is
    ∙ ap (λ (p : Place). Err (record { kind = fault.kind; place = p })) (sym place)

pub has_if : (v : Bool) (x y : Lexed) → (v ≡ true → HasBytes x) → (v ≡ false → HasBytes y) → HasBytes (if v then x else y)
has_if true x y h k = h refl
has_if false x y h k = k refl

pub has_number : (value : Result ℕ TokenFaultKind) (size : ℕ) → 0 < size → HasBytes (number_of_size value size)
has_number (Ok value) size some = some
has_number (Err kind) size some = tt

pub has_short : (mark : Option Mark) → HasBytes (short_mark mark)
has_short (Some mark) = omega arith
has_short None = tt

pub has_long : (mark : Option Mark) (short : Lexed) → HasBytes short → HasBytes (long_mark mark short)
has_long (Some mark) short h = omega arith
has_long None short h = h

pub some_of : (kind : ℕ → Bool) (b : ℕ) (bs : List ℕ) → kind b ≡ true → 0 < length_of kind (b ∷ bs)
some_of kind b bs h = rw h (omega arith)

pub lexed_some : (bytes : List ℕ) → 0 < length bytes → HasBytes (lexed bytes)
lexed_some [] some = absurd (omega arith)
lexed_some (b ∷ []) some =
    has_if (is_digit b) _ _ (λ h. has_number _ _ (some_of is_number_byte b [] (ap (λ (v : Bool). v || (b == 95)) h)))
    (λ _. has_if (is_letter b) _ _ (λ h. some_of is_name_byte b [] (ap (λ (v : Bool). (v || is_digit b) || (b == 95)) h)) (λ _. has_short (mark_of_one b)))
lexed_some (b ∷ d ∷ bs) some =
    has_if (is_digit b) _ _
    (λ h. has_if (begins_hexadecimal (b ∷ d ∷ bs)) _ _ (λ _. has_number _ _ (omega arith))
    (λ _. has_number _ _ (some_of is_number_byte b (d ∷ bs) (ap (λ (v : Bool). v || (b == 95)) h))))
    (λ _. has_if (is_letter b) _ _ (λ h. some_of is_name_byte b (d ∷ bs) (ap (λ (v : Bool). (v || is_digit b) || (b == 95)) h))
    (λ _. has_long (mark_of_two b d) _ (has_short (mark_of_one b))))

pub some_size : (bytes : List ℕ) (word : Word) → 0 < length bytes → lexed bytes ≡ Ok (word, size_of (lexed bytes)) → 0 < size_of (lexed bytes)
some_size bytes word some is = subst HasBytes is (lexed_some bytes some)

pub shorter : (r next : Rest) (size : ℕ) → next ≡ skipped (passed size r) → 0 < size → size ≤ length r.bytes → length next.bytes < length r.bytes
shorter r next size behind some small =
    let e : length next.bytes ≡ length (drop (gap_length false (drop size r.bytes)) (drop size r.bytes)) = ap (λ (v : Rest). length v.bytes) behind in
    omega (arith, e, length-drop (gap_length false (drop size r.bytes)) (drop size r.bytes), length-drop size r.bytes)

pub next_rest : (text : List ℕ) (r next : Rest) (size : ℕ) → next ≡ skipped (passed size r) → size ≤ length r.bytes → IsRestOf text r → IsRestOf text next
next_rest text r next size behind small h =
    let P : Rest → Type 0 = λ v. IsRestOf text v in subst P (sym behind) (skipped_rest text (passed size r) (passed_rest text r size h small))

pub step : (text : List ℕ) (old new : List Token) (t : Token) (r next : Rest) → new ≡ old ++ t ∷ [] → length old + length r.bytes ≤ length text → 0 < length r.bytes
    → lexed r.bytes ≡ Ok (word_of t.kind, size_of (lexed r.bytes)) → t.place ≡ r.place → next ≡ skipped (passed (size_of (lexed r.bytes)) r)
    → tokens_of text ≡ before (map placed_of old) (tokens_from (length text - length old) r)
    → tokens_of text ≡ before (map placed_of new) (tokens_from (length text - length new) next)
step text old new t r next more few some is place behind so_far =
    let size : length new ≡ length old + 1 = ap length more ∙ length-append old (t ∷ []) in
    let left : length text - length old ≡ suc (length text - length new) = omega arith in
    let items : map placed_of new ≡ map placed_of old ++ placed_of t ∷ [] = ap (map placed_of) more ∙ map-append placed_of old (t ∷ []) in
    so_far
    ∙ ap (λ (k : ℕ). before (map placed_of old) (tokens_from k r)) left
    ∙ one_more (map placed_of old) (placed_of t) (length text - length new) r next some is place behind
    ∙ ap (λ (ps : List Placed). before ps (tokens_from (length text - length new) next)) (sym items)

pub ends : (text : List ℕ) (tokens : List Token) (r : Rest) → length r.bytes ≡ 0
    → tokens_of text ≡ before (map placed_of tokens) (tokens_from (length text - length tokens) r) → tokens_of text ≡ Ok (map placed_of tokens, r.place)
ends text tokens r none so_far =
    so_far
    ∙ ap (λ (v : Read). before (map placed_of tokens) v) (at_end (length text - length tokens) r none)
    ∙ ap (λ (ps : List Placed). Ok (ps, r.place)) (append-nil (map placed_of tokens))

pub refuses : (text : List ℕ) (tokens : List Token) (r : Rest) (fault : TokenFault) → length tokens + length r.bytes ≤ length text → 0 < length r.bytes
    → lexed r.bytes ≡ Err fault.kind → fault.place ≡ r.place
    → tokens_of text ≡ before (map placed_of tokens) (tokens_from (length text - length tokens) r) → tokens_of text ≡ Err fault
refuses text tokens r fault few some is place so_far =
    let left : length text - length tokens ≡ suc (length text - length tokens - 1) = omega arith in
    so_far
    ∙ ap (λ (k : ℕ). before (map placed_of tokens) (tokens_from k r)) left
    ∙ refused_here (map placed_of tokens) (length text - length tokens - 1) r fault some is place

pub before_none : (r : Read) → before [] r ≡ r
before_none (Ok others) = refl
before_none (Err fault) = refl

pub starts : (text : List ℕ) → length text ≤ 1048576 → tokens_of text ≡ tokens_from (length text) (skipped (record { place = first_place; bytes = text }))
starts text small =
    let t : nat_lt (2 ^ 20) (length text) ≡ false = grind (arith, nat_tests) in
    ap (λ (v : Bool). if v then Err (record { kind = TextTooLong; place = first_place }) else tokens_from (length text) (skipped (record { place = first_place; bytes = text }))) t

pub begins : (text : List ℕ) (tokens : List Token) (r : Rest) → length text ≤ 1048576 → tokens ≡ [] → r ≡ skipped (record { place = first_place; bytes = text })
    → tokens_of text ≡ before (map placed_of tokens) (tokens_from (length text - length tokens) r)
begins text tokens r small none first =
    let size : length tokens ≡ 0 = ap length none in
    let left : length text ≡ length text - length tokens = omega arith in
    starts text small
    ∙ ap (λ (v : Rest). tokens_from (length text) v) (sym first)
    ∙ ap (λ (k : ℕ). tokens_from k r) left
    ∙ sym (before_none (tokens_from (length text - length tokens) r))
    ∙ ap (λ (ts : List Token). before (map placed_of ts) (tokens_from (length text - length tokens) r)) (sym none)

pub first_rest : (text : List ℕ) (r : Rest) → r ≡ skipped (record { place = first_place; bytes = text }) → IsRestOf text r
first_rest text r first =
    let P : Rest → Type 0 = λ v. IsRestOf text v in
    subst P (sym first) (skipped_rest text (record { place = first_place; bytes = text }) (record { within = omega arith; place = refl; bytes = refl }))

pub first_few : (text : List ℕ) (r : Rest) → r ≡ skipped (record { place = first_place; bytes = text }) → length r.bytes ≤ length text
first_few text r first =
    let e : length r.bytes ≡ length (drop (gap_length false text) text) = ap (λ (v : Rest). length v.bytes) first in
    omega (arith, e, length-drop (gap_length false text) text)

pub none_placed : (text : List ℕ) (tokens : List Token) → tokens ≡ [] → All (λ t. IsPlaceIn text t.place) tokens
none_placed text tokens none = λ k d lt. absurd (omega (arith, lt, ap length none))

pub more_placed : (text : List ℕ) (old new : List Token) (t : Token) (r : Rest) → new ≡ old ++ t ∷ [] → IsRestOf text r → t.place ≡ r.place
    → All (λ t. IsPlaceIn text t.place) old → All (λ t. IsPlaceIn text t.place) new
more_placed text old new t r more h place all =
    let P : List Token → Type 0 = λ ts. All (λ (x : Token). IsPlaceIn text x.place) ts in
    let Q : Place → Type 0 = λ p. IsPlaceIn text p in
    subst P (sym more) (All-push (λ (x : Token). IsPlaceIn text x.place) old t all (subst Q (sym place) (is_place text r h)))
