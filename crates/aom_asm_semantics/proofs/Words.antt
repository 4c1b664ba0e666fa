-- What one word says is what is read of it: names, numbers, sets, things, arguments and lists, both ways.
use Rattle.std.proofs.lemmas.Bool.Decides.{nat_tests}
use Rattle.std.proofs.Common.{◌≡◌, ℕ, ◌+◌, ◌≤◌, ◌==◌, Bool, true, false, List, [], ◌∷◌, ◌++◌, length, Result, Ok, Err, sym, ap, subst, ◌∙◌, append_assoc}
use Rattle.std.proofs.Common.{append-nil, codes, arith, length-append}
use Rattle.std.specs.Prelude.{◌&&◌, if◌then◌else◌, nat_le, nat_lt, not}
use Rattle.std.specs.List.{list_all, slice_split}
use Rattle.std.specs.Str.{bytes_eq}
use Rattle.std.proofs.lemmas.Bool.{and_parts, lt-ltb, false_from_ne_true, not-true}
use Rattle.std.proofs.lemmas.Slice.Eq.{bytes_eq-Decides}
use Rattle.aom_text.specs.Names.{has_name_form, is_name, is_reserved}
use Rattle.aom_text.specs.Words.{is_plain}
use Rattle.aom_text.specs.declared.fault.AsmFaultKind.{AsmFaultKind}
use Rattle.aom_text.specs.declared.fault.AsmFaultKind.TheVariants.{BadShape, LimitPassed}
use Rattle.aom_image.specs.declared.class.ClassDecl.{ClassDecl}
use Rattle.aom_image.specs.declared.method.Argument.{Argument}
use Rattle.aom_image.specs.declared.method.Argument.TheVariants as arg
use Rattle.aom_image.specs.declared.method.Thing.{Thing}
use Rattle.aom_image.specs.declared.method.Thing.TheVariants as owned
use Rattle.aom_syntax.specs.Classes.{class_of, elements, listed, thing_of}
use Rattle.aom_syntax.specs.Methods.{argument_of}
use Rattle.aom_syntax.specs.Names.{place_of, referred}
use Rattle.aom_syntax.specs.Operands.{class, method}
use Rattle.aom_syntax.specs.Reading.{◌>>=◌, as_name, name}
use Rattle.aom_syntax.specs.declared.scope.Scope.{Scope}
use Rattle.aom_asm_semantics.proofs.SyntaxLemmas.{listed_fits, marked_or, ok_is, passed, steps}
use Rattle.aom_asm_semantics.proofs.Lists.{plain_form}
use Rattle.aom_asm_semantics.proofs.Readings.{Takes, sees}
use Rattle.aom_asm_semantics.specs.Meaning.{Elements, IsArgument, IsList, IsNumbered, IsThing, NameTables, Pairwise}
use Rattle.aom_asm_semantics.proofs.Ascii.{plain_list}
use Rattle.aom_asm_semantics.proofs.Pieces.{Reads, numbered, takes_seen}
use Rattle.aom_asm_semantics.proofs.Pairs.{Pairs, pairs, no_pair, a_pair}

-- names that are told apart
abbrev pub reported : NameTables → List ClassDecl → Scope
reported names kinds = record { is_strict = true; classes = names.classes; methods = names.methods; kinds = kinds }

-- each name is found where it is declared
pub record LooksUp (names : NameTables) (scope : Scope) : Type 0 where
  pub class : (w : List ℕ) (n : ℕ) → IsNumbered names.classes w n → referred scope.is_strict 256 (place_of w scope.classes) ≡ Ok n
  pub method : (w : List ℕ) (n : ℕ) → IsNumbered names.methods w n → referred scope.is_strict 1024 (place_of w scope.methods) ≡ Ok n

-- ---- names

pub plain_name : (w : List ℕ) → is_name w ≡ true → list_all is_plain w ≡ true
plain_name w is = grind (arith, nat_tests, plain_form w)

pub name_reads : (w : List ℕ) → is_name w ≡ true → as_name w ≡ Ok w
name_reads w is = ap (λ b. if b then Ok w else Err BadShape) is

pub takes_name : (w : List ℕ) → is_name w ≡ true → Takes name (w ∷ []) w
takes_name w is = takes_seen (record { plain = plain_name w is; says = name_reads w is })

module _ {names : NameTables} {scope : Scope} (looks : LooksUp names scope) where
  pub takes_class : (w : List ℕ) (n : ℕ) → IsNumbered names.classes w n → Takes (class scope) (w ∷ []) n
  takes_class w n is = sees (λ v. referred scope.is_strict 256 (place_of v scope.classes)) (takes_name w is.is_name) (looks.class w n is)

  pub takes_method : (w : List ℕ) (n : ℕ) → IsNumbered names.methods w n → Takes (method scope) (w ∷ []) n
  takes_method w n is = sees (λ v. referred scope.is_strict 1024 (place_of v scope.methods)) (takes_name w is.is_name) (looks.method w n is)

-- ---- what may be owned

pub thing_means : (names : NameTables) (kinds : List ClassDecl) (w : List ℕ) (t : Thing) → thing_of (reported names kinds) w ≡ Ok t → IsThing names w t
thing_means names kinds w t is = marked_or (IsThing names w) (bytes_eq w (codes "msg")) owned.Message (class_of (reported names kinds) w) (λ c. owned.Object c) t
    (λ same. (bytes_eq-Decides w (codes "msg")).0 same) (λ c said. numbered names.classes 256 w c said) is

pub argument_means : (names : NameTables) (kinds : List ClassDecl) (w : List ℕ) (a : Argument) → argument_of (reported names kinds) w ≡ Ok a → IsArgument names w a
argument_means names kinds w a is = marked_or (IsArgument names w) (bytes_eq w (codes "word")) arg.Word (thing_of (reported names kinds) w) (λ t. arg.Own t) a
    (λ same. (bytes_eq-Decides w (codes "word")).0 same) (thing_means names kinds w) is

-- a name is no reserved word
not_reserved : (w : List ℕ) → is_name w ≡ true → is_reserved w ≡ false
not_reserved w is = not-true (is_reserved w) (and_parts (has_name_form w && nat_le (length w) 32) (not (is_reserved w)) is).1

no_message : (w : List ℕ) → is_name w ≡ true → bytes_eq w (codes "msg") ≡ false
no_message w is = false_from_ne_true (bytes_eq w (codes "msg"))
    (λ same. (let clash : true ≡ false = sym (ap is_reserved ((bytes_eq-Decides w (codes "msg")).0 same)) ∙ not_reserved w is in cc))

no_word : (w : List ℕ) → is_name w ≡ true → bytes_eq w (codes "word") ≡ false
no_word w is = false_from_ne_true (bytes_eq w (codes "word"))
    (λ same. (let clash : true ≡ false = sym (ap is_reserved ((bytes_eq-Decides w (codes "word")).0 same)) ∙ not_reserved w is in cc))

module _ {names : NameTables} {scope : Scope} (looks : LooksUp names scope) where
  pub thing_reads : (w : List ℕ) (t : Thing) → IsThing names w t → Reads (thing_of scope) w t
  thing_reads w x is = grind (arith, nat_tests, plain_name, no_message, name_reads)

  pub argument_reads : (w : List ℕ) (a : Argument) → IsArgument names w a → Reads (argument_of scope) w a
  argument_reads w x is = grind (arith, nat_tests, thing_reads, no_word)

-- ---- lists

-- the elements behind others
record Behind {X : Type 0} (Says : List ℕ → X → Type 0) (ps : List (List ℕ)) (front xs : List X) : Type 0 where
  elements : List X
  all : xs ≡ front ++ elements
  each : Pairwise Says ps elements

module _ {X : Type 0} (most : ℕ) (one : List ℕ → Result X AsmFaultKind) (Says : List ℕ → X → Type 0) where
  module _ (means : (w : List ℕ) (x : X) → one w ≡ Ok x → Says w x) where
    parted : (ps : List (List ℕ)) (front xs : List X) → elements most one front ps ≡ Ok xs → Behind Says ps front xs
    parted [] front xs is = record { elements = []; all = sym (ok_is front xs is) ∙ sym (append-nil front); each = tt }
    parted (p ∷ ps) front xs is =
        let t = passed (nat_lt (length front) most) (one p >>= λ x. elements most one (front ++ x ∷ []) ps) LimitPassed xs is in
        let s = steps (one p) (λ x. elements most one (front ++ x ∷ []) ps) xs t.1 in
        let b = parted ps (front ++ s.first ∷ []) xs s.second in
        record { elements = s.first ∷ b.elements; all = b.all ∙ append_assoc front (s.first ∷ []) b.elements; each = (means p s.first s.read, b.each) }

    parts_mean : (w : List ℕ) (xs : List X) (b : Bool) → (if b then Ok [] else elements most one [] (slice_split (λ b. b == 44) w)) ≡ Ok xs → Elements Says b w xs
    parts_mean w xs true is = sym (ok_is [] xs is)
    parts_mean w xs false is = let b = parted (slice_split (λ b. b == 44) w) [] xs is in subst (Pairwise Says (slice_split (λ b. b == 44) w)) (sym b.all) b.each

    pub list_means : (w : List ℕ) (xs : List X) → listed most one w ≡ Ok xs → IsList most Says w xs
    list_means w xs is = record {
      elements = parts_mean w xs (bytes_eq w (codes "-")) is;
      few = (listed_fits (λ x. Unit {0}) most one (λ v x e. tt) w xs is).few;
    }

  module _ (reads : (w : List ℕ) (x : X) → Says w x → Reads one w x) where
    parts_read : (ps : List (List ℕ)) (front xs : List X) → length front + length xs ≤ most → Pairs Says ps xs → elements most one front ps ≡ Ok (front ++ xs)
    parts_read _ front _ few no_pair = ap Ok (sym (append-nil front))
    parts_read _ front _ few (a_pair p ps x xs here more) = ap (λ b. if b then (one p >>= λ y. elements most one (front ++ y ∷ []) ps) else Err LimitPassed)
        (lt-ltb (length front) most (omega arith)) ∙ ap (λ e. e >>= λ y. elements most one (front ++ y ∷ []) ps) (reads p x here).says
        ∙ parts_read ps (front ++ x ∷ []) xs (omega (arith, length-append front (x ∷ []))) more ∙ ap Ok (append_assoc front (x ∷ []) xs)

    whole_read : (w : List ℕ) (xs : List X) (b : Bool) → length xs ≤ most → Elements Says b w xs →
        (if b then Ok [] else elements most one [] (slice_split (λ b. b == 44) w)) ≡ Ok xs
    whole_read w xs true few none = ap Ok (sym none)
    whole_read w xs false few each = parts_read (slice_split (λ b. b == 44) w) [] xs (omega arith) (pairs Says (slice_split (λ b. b == 44) w) xs each)

    pub list_reads : (w : List ℕ) (xs : List X) → IsList most Says w xs → Reads (listed most one) w xs
    list_reads w xs is = record { plain = plain_list Says (λ v x said. (reads v x said).plain) w xs is.elements; says = whole_read w xs (bytes_eq w (codes "-")) is.few is.elements }
