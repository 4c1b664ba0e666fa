-- What is found under a name behind a change of one document: by the place where the document of that name stands.
use Rattle.std.proofs.Common.{◌≡◌, ◌≢◌, ◌∙◌, ◌+◌, ◌<◌, ◌≤◌, ℕ, suc, zero, Bool, true, false, cond, nat_lt, not, List, [], ◌∷◌, ◌++◌, Option, Some, None}
use Rattle.std.proofs.Common.{arith, ap, get_or, length, length-append, refl, set, subst, sym}
use Rattle.std.proofs.lemmas.Bool.{false_from_ne_true, false≢true, ltb-false}
use Rattle.std.proofs.lemmas.List.{length-set}
use Rattle.std.proofs.lemmas.List.Edits.{length-remove}
use Rattle.std.proofs.lemmas.List.Quantifiers.{position-Some}
use Rattle.std.proofs.lemmas.Slice.Eq.{bytes_eq-Decides}
use Rattle.std.specs.List.{position, position_or_len, remove}
use Rattle.std.specs.Option.{is_some, option_to_list}
use Rattle.aom_language_answers.specs.OpenDocuments.{HaveOwnNames, NamedText, Updates, is_named, text_of}

-- ---- one document

named_so : (uri : List ℕ) (d : NamedText) → is_named uri d ≡ true → d.uri ≡ uri
named_so uri d is = (bytes_eq-Decides d.uri uri).0 is

has_name : (uri : List ℕ) (d : NamedText) → d.uri ≡ uri → is_named uri d ≡ true
has_name uri d is = (bytes_eq-Decides d.uri uri).1 is

other_name : (uri other : List ℕ) (d : NamedText) → d.uri ≡ uri → other ≢ uri → is_named other d ≡ false
other_name uri other d is differs = false_from_ne_true (is_named other d) (λ same. differs (sym (named_so other d same) ∙ is))

-- what is found in a list that begins with a document of that name, or of another
first_has : (uri : List ℕ) (d : NamedText) (more : List NamedText) → is_named uri d ≡ true → text_of uri (d ∷ more) ≡ Some d.text
first_has uri d more is = ap (λ (b : Bool). cond b (Some d.text) (text_of uri more)) is

first_lacks : (uri : List ℕ) (d : NamedText) (more : List NamedText) → is_named uri d ≡ false → text_of uri (d ∷ more) ≡ text_of uri more
first_lacks uri d more is = ap (λ (b : Bool). cond b (Some d.text) (text_of uri more)) is

first_same : (uri : List ℕ) (d : NamedText) (one other : List NamedText) → text_of uri one ≡ text_of uri other → text_of uri (d ∷ one) ≡ text_of uri (d ∷ other)
first_same uri d one other same = ap (λ (found : Option (List ℕ)). cond (is_named uri d) (Some d.text) found) same

-- none of that name is in the list
by_first : (b : Bool) (text : List ℕ) (rest : Option (List ℕ)) → cond b (Some text) rest ≡ None → (b ≡ false) × (rest ≡ None)
by_first true text rest none = absurd cc
by_first false text rest none = (refl, none)

lacks : (uri : List ℕ) (d : NamedText) (more : List NamedText) → text_of uri (d ∷ more) ≡ None → (is_named uri d ≡ false) × (text_of uri more ≡ None)
lacks uri d more none = by_first (is_named uri d) d.text (text_of uri more) none

-- ---- the place of a name

pub record IsPlace (uri : List ℕ) (docs : List NamedText) (i : ℕ) (d : NamedText) : Type 0 where
  pub within : i < length docs
  pub named : is_named uri (get_or docs i d) ≡ true
  pub before : (k : ℕ) → k < i → is_named uri (get_or docs k d) ≡ false

pub placed : (uri : List ℕ) (docs : List NamedText) (i : ℕ) (d : NamedText) → Some i ≡ position (is_named uri) docs → IsPlace uri docs i d
placed uri docs i d at =
    let facts = position-Some (is_named uri) docs i d (sym at) in
    record { within = facts.0; named = facts.1; before = facts.2 }

behind : (uri : List ℕ) (x : NamedText) (docs : List NamedText) (i : ℕ) (d : NamedText) → IsPlace uri (x ∷ docs) (suc i) d → IsPlace uri docs i d
behind uri x docs i d p = record {
  within = let within : suc i < suc (length docs) = p.within in omega arith;
  named = p.named;
  before = λ k below. p.before (suc k) (omega arith);
}

not_first : (uri : List ℕ) (x : NamedText) (docs : List NamedText) (i : ℕ) (d : NamedText) → IsPlace uri (x ∷ docs) (suc i) d → is_named uri x ≡ false
not_first uri x docs i d p = p.before zero (omega arith)

pub text_at : (uri : List ℕ) (docs : List NamedText) (i : ℕ) (d : NamedText) → IsPlace uri docs i d → text_of uri docs ≡ Some (get_or docs i d).text
text_at uri [] i d p = let none : i < 0 = p.within in absurd (omega arith)
text_at uri (x ∷ docs) zero d p = first_has uri x docs p.named
text_at uri (x ∷ docs) (suc i) d p = first_lacks uri x docs (not_first uri x docs i d p) ∙ text_at uri docs i d (behind uri x docs i d p)

-- ---- another text

set_here : (uri : List ℕ) (docs : List NamedText) (i : ℕ) (d v : NamedText) → IsPlace uri docs i d → is_named uri v ≡ true → text_of uri (set docs i v) ≡ Some v.text
set_here uri [] i d v p is = let none : i < 0 = p.within in absurd (omega arith)
set_here uri (x ∷ docs) zero d v p is = first_has uri v docs is
set_here uri (x ∷ docs) (suc i) d v p is = first_lacks uri x (set docs i v) (not_first uri x docs i d p) ∙ set_here uri docs i d v (behind uri x docs i d p) is

set_other : (other : List ℕ) (docs : List NamedText) (i : ℕ) (d v : NamedText) → i < length docs → is_named other (get_or docs i d) ≡ false → is_named other v ≡ false
    → text_of other (set docs i v) ≡ text_of other docs
set_other other [] i d v within was is = let none : i < 0 = within in absurd (omega arith)
set_other other (x ∷ docs) zero d v within was is = first_lacks other v docs is ∙ sym (first_lacks other x docs was)
set_other other (x ∷ docs) (suc i) d v within was is =
    let rest : suc i < suc (length docs) = within in
    first_same other x (set docs i v) docs (set_other other docs i d v (omega arith) was is)

set_others : (uri other : List ℕ) (docs : List NamedText) (i : ℕ) (d v : NamedText) → IsPlace uri docs i d → v.uri ≡ uri → other ≢ uri
    → text_of other (set docs i v) ≡ text_of other docs
set_others uri other docs i d v p is differs =
    set_other other docs i d v p.within (other_name uri other (get_or docs i d) (named_so uri (get_or docs i d) p.named) differs) (other_name uri other v is differs)

pub set_updates : (uri : List ℕ) (docs : List NamedText) (i : ℕ) (d v : NamedText) → IsPlace uri docs i d → v.uri ≡ uri → Updates docs (set docs i v) uri (Some v.text)
set_updates uri docs i d v p is = record {
  here = set_here uri docs i d v p (has_name uri v is);
  others = λ other differs. set_others uri other docs i d v p is differs;
  count = omega (arith, length-set docs i v, ap (λ (found : Option (List ℕ)). length (option_to_list found)) (text_at uri docs i d p));
}

pub set_distinct : (uri : List ℕ) (docs : List NamedText) (i : ℕ) (d v : NamedText) → IsPlace uri docs i d → v.uri ≡ uri → HaveOwnNames docs → HaveOwnNames (set docs i v)
set_distinct uri [] i d v p is own = tt
set_distinct uri (x ∷ docs) zero d v p is own = (subst (λ (name : List ℕ). text_of name docs ≡ None) (named_so uri x p.named ∙ sym is) own.0, own.1)
set_distinct uri (x ∷ docs) (suc i) d v p is own =
    let rest = behind uri x docs i d p in
    let differs : x.uri ≢ uri = λ same. false≢true (sym (not_first uri x docs i d p) ∙ has_name uri x same) in
    (set_others uri x.uri docs i d v rest is differs ∙ own.0, set_distinct uri docs i d v rest is own.1)

-- ---- one document less

remove_here : (uri : List ℕ) (docs : List NamedText) (i : ℕ) (d : NamedText) → IsPlace uri docs i d → HaveOwnNames docs → text_of uri (remove docs i) ≡ None
remove_here uri [] i d p own = let none : i < 0 = p.within in absurd (omega arith)
remove_here uri (x ∷ docs) zero d p own = subst (λ (name : List ℕ). text_of name docs ≡ None) (named_so uri x p.named) own.0
remove_here uri (x ∷ docs) (suc i) d p own =
    first_lacks uri x (remove docs i) (not_first uri x docs i d p) ∙ remove_here uri docs i d (behind uri x docs i d p) own.1

remove_other : (other : List ℕ) (docs : List NamedText) (i : ℕ) (d : NamedText) → i < length docs → is_named other (get_or docs i d) ≡ false
    → text_of other (remove docs i) ≡ text_of other docs
remove_other other [] i d within was = let none : i < 0 = within in absurd (omega arith)
remove_other other (x ∷ docs) zero d within was = sym (first_lacks other x docs was)
remove_other other (x ∷ docs) (suc i) d within was =
    let rest : suc i < suc (length docs) = within in
    first_same other x (remove docs i) docs (remove_other other docs i d (omega arith) was)

remove_others : (uri other : List ℕ) (docs : List NamedText) (i : ℕ) (d : NamedText) → IsPlace uri docs i d → other ≢ uri → text_of other (remove docs i) ≡ text_of other docs
remove_others uri other docs i d p differs =
    remove_other other docs i d p.within (other_name uri other (get_or docs i d) (named_so uri (get_or docs i d) p.named) differs)

pub remove_updates : (uri : List ℕ) (docs : List NamedText) (i : ℕ) (d : NamedText) → IsPlace uri docs i d → HaveOwnNames docs → Updates docs (remove docs i) uri None
remove_updates uri docs i d p own = record {
  here = remove_here uri docs i d p own;
  others = λ other differs. remove_others uri other docs i d p differs;
  count = omega (arith, length-remove docs i p.within, ap (λ (found : Option (List ℕ)). length (option_to_list found)) (text_at uri docs i d p));
}

pub remove_distinct : (uri : List ℕ) (docs : List NamedText) (i : ℕ) (d : NamedText) → IsPlace uri docs i d → HaveOwnNames docs → HaveOwnNames (remove docs i)
remove_distinct uri [] i d p own = let none : i < 0 = p.within in absurd (omega arith)
remove_distinct uri (x ∷ docs) zero d p own = own.1
remove_distinct uri (x ∷ docs) (suc i) d p own =
    let rest = behind uri x docs i d p in
    let differs : x.uri ≢ uri = λ same. false≢true (sym (not_first uri x docs i d p) ∙ has_name uri x same) in
    (remove_others uri x.uri docs i d rest differs ∙ own.0, remove_distinct uri docs i d rest own.1)

-- ---- one document more

add_here : (uri : List ℕ) (docs : List NamedText) (v : NamedText) → text_of uri docs ≡ None → is_named uri v ≡ true → text_of uri (docs ++ v ∷ []) ≡ Some v.text
add_here uri [] v none is = first_has uri v [] is
add_here uri (x ∷ docs) v none is =
    let parts = lacks uri x docs none in
    first_lacks uri x (docs ++ v ∷ []) parts.0 ∙ add_here uri docs v parts.1 is

add_other : (other : List ℕ) (docs : List NamedText) (v : NamedText) → is_named other v ≡ false → text_of other (docs ++ v ∷ []) ≡ text_of other docs
add_other other [] v is = first_lacks other v [] is
add_other other (x ∷ docs) v is = first_same other x (docs ++ v ∷ []) docs (add_other other docs v is)

pub add_updates : (uri : List ℕ) (docs : List NamedText) (v : NamedText) → text_of uri docs ≡ None → v.uri ≡ uri → Updates docs (docs ++ v ∷ []) uri (Some v.text)
add_updates uri docs v none is = record {
  here = add_here uri docs v none (has_name uri v is);
  others = λ other differs. add_other other docs v (other_name uri other v is differs);
  count = omega (arith, length-append docs (v ∷ []), ap (λ (found : Option (List ℕ)). length (option_to_list found)) none);
}

pub add_distinct : (uri : List ℕ) (docs : List NamedText) (v : NamedText) → text_of uri docs ≡ None → v.uri ≡ uri → HaveOwnNames docs → HaveOwnNames (docs ++ v ∷ [])
add_distinct uri [] v none is own = (refl, tt)
add_distinct uri (x ∷ docs) v none is own =
    let parts = lacks uri x docs none in
    let differs : x.uri ≢ v.uri = λ same. false≢true (sym parts.0 ∙ has_name uri x (same ∙ is)) in
    (add_other x.uri docs v (other_name v.uri x.uri v refl differs) ∙ own.0, add_distinct uri docs v parts.1 is own.1)

-- ---- no place

unplaced_by : (b : Bool) (n : ℕ) → cond b (Some n) None ≡ None → b ≡ false
unplaced_by true n none = absurd cc
unplaced_by false n none = refl

none_first : (b : Bool) (n count : ℕ) (text : List ℕ) (rest : Option (List ℕ)) → (count ≤ n → rest ≡ None) → suc count ≤ cond (not b) (1 + n) 0 → cond b (Some text) rest ≡ None
none_first true n count text rest none past = absurd (omega arith)
none_first false n count text rest none past = none (omega arith)

none_found : (uri : List ℕ) (docs : List NamedText) → length docs ≤ position_or_len (is_named uri) docs → text_of uri docs ≡ None
none_found uri [] past = refl
none_found uri (x ∷ docs) past =
    none_first (is_named uri x) (position_or_len (is_named uri) docs) (length docs) x.text (text_of uri docs) (none_found uri docs) past

pub unplaced : (uri : List ℕ) (docs : List NamedText) → None ≡ position (is_named uri) docs → text_of uri docs ≡ None
unplaced uri docs none = none_found uri docs (ltb-false _ _ (unplaced_by (nat_lt (position_or_len (is_named uri) docs) (length docs)) (position_or_len (is_named uri) docs) (sym none)))

-- ---- what the documents' own calls come to

-- one that has another text has the name that it had
pub retold_name : (uri : List ℕ) (docs : List NamedText) (i : ℕ) (d v : NamedText) (said : List ℕ) → IsPlace uri docs i d → d ≡ get_or docs i d → v ≡ record d { text = said }
    → v.uri ≡ uri
retold_name uri docs i d v said p at is = ap (λ (e : NamedText). e.uri) is ∙ ap (λ (e : NamedText). e.uri) at ∙ named_so uri (get_or docs i d) p.named

pub retold_updates : (uri text : List ℕ) (docs : List NamedText) (i : ℕ) (d v : NamedText) (said : List ℕ) → IsPlace uri docs i d → d ≡ get_or docs i d
    → v ≡ record d { text = said } → said ≡ text → Updates docs (set docs i v) uri (Some text)
retold_updates uri text docs i d v said p at is says =
    subst (λ (t : List ℕ). Updates docs (set docs i v) uri (Some t)) (ap (λ (e : NamedText). e.text) is ∙ says)
    (set_updates uri docs i d v p (retold_name uri docs i d v said p at is))

-- where none has the name, taking it away changes nothing
pub lacking_updates : (uri : List ℕ) (docs : List NamedText) → text_of uri docs ≡ None → Updates docs docs uri None
lacking_updates uri docs none = record {
  here = none;
  others = λ other differs. refl;
  count = ap (λ (found : Option (List ℕ)). length docs + length (option_to_list found)) none;
}

pub is_none : (found : Option (List ℕ)) → is_some found ≡ false → found ≡ None
is_none None is = refl
is_none (Some text) is = absurd cc
