-- What a reading took of the words before it, and what it takes: word by word, and part by part, both ways.
use Rattle.std.proofs.lemmas.Bool.Decides.{nat_tests}
use Rattle.std.proofs.Common.{arith, ◌≡◌, ℕ, Bool, true, false, List, [], ◌∷◌, ◌++◌, Option, Some, None, Result, Ok, Err, refl, sym, ap, ◌∙◌, get_or}
use Rattle.std.proofs.Common.{slice_get}
use Rattle.std.specs.Prelude.{if◌then◌else◌}
use Rattle.std.specs.List.{list_all}
use Rattle.std.specs.Str.{bytes_eq}
use Rattle.std.proofs.lemmas.List.Quantifiers.{position-Some}
use Rattle.std.proofs.lemmas.Option.{slice_get-get_or}
use Rattle.std.proofs.lemmas.Slice.Eq.{bytes_eq-Decides}
use Rattle.aom_text.specs.Names.{is_name}
use Rattle.aom_text.specs.Words.{is_plain}
use Rattle.aom_text.specs.declared.fault.AsmFaultKind.{AsmFaultKind}
use Rattle.aom_text.specs.declared.fault.AsmFaultKind.TheVariants.{BadShape}
use Rattle.aom_syntax.specs.Keywords.{keyword_text}
use Rattle.aom_syntax.specs.Names.{place_of, referred}
use Rattle.aom_syntax.specs.Operands.{used}
use Rattle.aom_syntax.specs.Reading.{◌>>=◌, Reading, as_name, keyword, name, next, nothing_more, seen, took, word}
use Rattle.aom_syntax.specs.declared.keyword.Keyword.{Keyword}
use Rattle.aom_asm_semantics.proofs.SyntaxLemmas.{ok_is, passed, saw_word, steps}
use Rattle.aom_asm_semantics.proofs.Readings.{Takes, Whole, reads_on, sees, takes_word}
use Rattle.aom_asm_semantics.specs.Meaning.{IsNumbered, SaidOr}
use Rattle.aom_asm_semantics.specs.Source.{part, mark}
use Rattle.aom_asm_semantics.proofs.ImageLemmas.{some_given}
use Rattle.aom_asm_semantics.proofs.AsmLemmas.{no_ok}

-- ---- one word

-- the next word, and what is seen in it
pub record Saw {X : Type 0} (f : List ℕ → Result X AsmFaultKind) (ws : List (List ℕ)) (x : X) (rest : List (List ℕ)) : Type 0 where
  pub w : List ℕ
  pub words : ws ≡ w ∷ rest
  pub says : f w ≡ Ok x

pub saw : {X : Type 0} (f : List ℕ → Result X AsmFaultKind) (ws : List (List ℕ)) (x : X) (rest : List (List ℕ)) → seen f word ws ≡ Ok (x, rest) → Saw f ws x rest
saw f ws x rest is =
    let s = steps (word ws) (λ y. f y.0 >>= λ z. Ok (z, y.1)) (x, rest) is in
    let t = steps (f s.first.0) (λ z. Ok (z, s.first.1)) (x, rest) s.second in
    let last : (t.first, s.first.1) ≡ (x, rest) = ok_is (t.first, s.first.1) (x, rest) t.second in
    record {
      w = s.first.0;
      words = saw_word ws s.first.0 s.first.1 s.read ∙ ap (λ p. s.first.0 ∷ p.1) last;
      says = t.read ∙ ap (λ p. Ok p.0) last;
    }

-- the word that has to stand here
pub saw_keyword : (key : Keyword) (ws : List (List ℕ)) (u : Unit {0}) (rest : List (List ℕ)) → keyword key ws ≡ Ok (u, rest) → ws ≡ keyword_text key ∷ rest
saw_keyword key ws u rest is = grind (arith, nat_tests, saw, passed, bytes_eq-Decides)

-- no word is left
refuses : (b : Bool) (e f : AsmFaultKind) (x : Unit {0} × List (List ℕ)) → (if b then Err e else Err f) ≡ Ok x → ⊥
refuses b e f x is = no_ok e x (passed b (Err e) f x is).1

-- the two parts of what was read
abbrev pub pair : {X : Type 0} → X → List (List ℕ) → X × List (List ℕ)
pair x ws = (x, ws)

pub none_left : (expecting : Bool) (ws : List (List ℕ)) (u : Unit {0}) (rest : List (List ℕ)) → nothing_more expecting ws ≡ Ok (u, rest) → (ws ≡ []) × (rest ≡ [])
none_left expecting [] u rest is = (refl, sym (ap (λ p. p.1) (ok_is (pair tt []) (u, rest) is)))
none_left expecting (w ∷ ws) u rest is = grind (arith, nat_tests, steps, w ∷ ws, refuses expecting)

-- ---- a word that may be there

pub data Took (key : Keyword) (ws : List (List ℕ)) : Type 0 where
  is_there : (rest : List (List ℕ)) → ws ≡ keyword_text key ∷ rest → took key ws ≡ (true, rest) → Took key ws
  is_not : took key ws ≡ (false, ws) → Took key ws

pub take_it : (key : Keyword) (ws : List (List ℕ)) → Took key ws
take_it key [] = is_not refl
take_it key (w ∷ ws) = go (bytes_eq w (keyword_text key)) refl
  where
    go : (b : Bool) → bytes_eq w (keyword_text key) ≡ b → Took key (w ∷ ws)
    go true same = is_there ws (ap (λ v. v ∷ ws) ((bytes_eq-Decides w (keyword_text key)).0 same))
        (ap (λ (b : Bool). if b then (true, ws) else (false, w ∷ ws)) same)
    go false other = is_not (ap (λ (b : Bool). if b then (true, ws) else (false, w ∷ ws)) other)

-- the next word is another one
pub record NotNext (key : Keyword) (ws : List (List ℕ)) : Type 0 where
  pub left : took key ws ≡ (false, ws)

pub not_word : (key : Keyword) (w : List ℕ) (ws : List (List ℕ)) → bytes_eq w (keyword_text key) ≡ false → NotNext key (w ∷ ws)
not_word key w ws other = record { left = ap (λ (b : Bool). if b then (true, ws) else (false, w ∷ ws)) other }

pub not_part : (key other : Keyword) (said : Option (List ℕ)) (ws : List (List ℕ)) → bytes_eq (keyword_text other) (keyword_text key) ≡ false → NotNext key ws →
    NotNext key (part other said ++ ws)
not_part key other None ws apart rest = rest
not_part key other (Some w) ws apart rest = not_word key (keyword_text other) (w ∷ ws) apart

pub not_mark : (key other : Keyword) (said : Bool) (ws : List (List ℕ)) → bytes_eq (keyword_text other) (keyword_text key) ≡ false → NotNext key ws →
    NotNext key (mark other said ++ ws)
not_mark key other x ws apart rest = grind (arith, nat_tests, not_word key)

-- ---- a part that may be missing

pub record Part {X : Type 0} (key : Keyword) (Says : List ℕ → X → Type 0) (default : X) (ws : List (List ℕ)) (x : X) (rest : List (List ℕ)) : Type 0 where
  pub said : Option (List ℕ)
  pub words : ws ≡ part key said ++ rest
  pub says : SaidOr Says default said x

module _ {X : Type 0} (key : Keyword) (f : List ℕ → Result X AsmFaultKind) (Says : List ℕ → X → Type 0) (default : X) where
  abbrev pub optional : Reading X
  optional ws = if (took key ws).0 then seen f word (took key ws).1 else Ok (default, (took key ws).1)

  pub saw_part : ((w : List ℕ) (x : X) → f w ≡ Ok x → Says w x) → (ws : List (List ℕ)) (x : X) (rest : List (List ℕ)) → optional ws ≡ Ok (x, rest) →
      Part key Says default ws x rest
  saw_part means ws x rest is = go (take_it key ws)
    where
      go : Took key ws → Part key Says default ws x rest
      go (is_there behind words there) =
          let s = saw f behind x rest (sym (ap (λ p. if p.0 then seen f word p.1 else Ok (default, p.1)) there) ∙ is) in
          record { said = Some s.w; words = words ∙ ap (λ v. keyword_text key ∷ v) s.words; says = means s.w x s.says }
      go (is_not there) =
          let same : (default, ws) ≡ (x, rest) = ok_is (default, ws) (x, rest) (sym (ap (λ p. if p.0 then seen f word p.1 else Ok (default, p.1)) there) ∙ is) in
          record { said = None; words = ap (λ p. p.1) same; says = sym (ap (λ p. p.0) same) }

-- these words are left
pub record Leaves {X : Type 0} (r : Reading X) (ws : List (List ℕ)) (x : X) (rest : List (List ℕ)) : Type 0 where
  pub reads : r ws ≡ Ok (x, rest)

-- and so it goes on
pub then_reads : {X Y : Type 0} {r : Reading X} (f : X → Reading Y) {ws vs : List (List ℕ)} {x : X} {y : Y} → Leaves r ws x vs →
    Whole (f x) vs y → Whole (next r f) ws y
then_reads {r = r} f first later = record { reads = reads_on r f first.reads later.reads }

pub leaves : {X : Type 0} {r : Reading X} {us : List (List ℕ)} {x : X} (rest : List (List ℕ)) → Takes r us x → Leaves r (us ++ rest) x rest
leaves rest takes = record { reads = takes.reads rest }

-- a word that reads so
pub record Reads {X : Type 0} (f : List ℕ → Result X AsmFaultKind) (w : List ℕ) (x : X) : Type 0 where
  pub plain : list_all is_plain w ≡ true
  pub says : f w ≡ Ok x

pub takes_seen : {X : Type 0} {f : List ℕ → Result X AsmFaultKind} {w : List ℕ} {x : X} → Reads f w x → Takes (seen f word) (w ∷ []) x
takes_seen {f = f} {w = w} r = sees f (takes_word w r.plain) r.says

module _ {X : Type 0} (key : Keyword) (f : List ℕ → Result X AsmFaultKind) (Says : List ℕ → X → Type 0) (default : X) where
  pub reads_part : ((w : List ℕ) (x : X) → Says w x → Reads f w x) → (said : Option (List ℕ)) (x : X) (rest : List (List ℕ)) →
      SaidOr Says default said x → NotNext key rest → Leaves (optional key f Says default) (part key said ++ rest) x rest
  reads_part reads None x rest says other = record { reads = grind (arith, nat_tests, says) }
  reads_part reads (Some w) x rest says other = record { reads = grind arith }

-- ---- names that are used

module _ (space : List (List ℕ)) where
  pub placed : (w : List ℕ) (n : ℕ) → place_of w space ≡ Some n → slice_get space n ≡ Some w
  placed w n is =
      let at = position-Some (λ v. bytes_eq v w) space n [] is in
      slice_get-get_or space n [] at.0 ∙ ap Some ((bytes_eq-Decides (get_or space n []) w).0 at.1)

  found : (limit n : ℕ) (w : List ℕ) → referred true limit (place_of w space) ≡ Ok n → slice_get space n ≡ Some w
  found limit n w is = grind (arith, nat_tests, some_given, w, passed, placed, ok_is)

  -- a name that is declared is read as its number
  pub record Used (ws : List (List ℕ)) (n : ℕ) (rest : List (List ℕ)) : Type 0 where
    pub w : List ℕ
    pub words : ws ≡ w ∷ rest
    pub numbered : IsNumbered space w n

  pub named : (w v : List ℕ) → as_name w ≡ Ok v → (is_name w ≡ true) × (w ≡ v)
  named w v is = let i = passed (is_name w) (Ok w) BadShape v is in (i.0, ok_is w v i.1)

  pub numbered : (limit : ℕ) (w : List ℕ) (n : ℕ) → (as_name w >>= λ v. referred true limit (place_of v space)) ≡ Ok n → IsNumbered space w n
  numbered limit w n is =
      let s = steps (as_name w) (λ v. referred true limit (place_of v space)) n is in
      let i = named w s.first s.read in
      record { is_name = i.0; declared = found limit n w (ap (λ v. referred true limit (place_of v space)) i.1 ∙ s.second) }

  pub saw_used : (limit : ℕ) (ws : List (List ℕ)) (n : ℕ) (rest : List (List ℕ)) → used true limit space ws ≡ Ok (n, rest) → Used ws n rest
  saw_used limit ws n rest is =
      let s = steps (name ws) (λ x. referred true limit (place_of x.0 space) >>= λ y. Ok (y, x.1)) (n, rest) is in
      let t = steps (referred true limit (place_of s.first.0 space)) (λ y. Ok (y, s.first.1)) (n, rest) s.second in
      let last : (t.first, s.first.1) ≡ (n, rest) = ok_is (t.first, s.first.1) (n, rest) t.second in
      let v = saw as_name ws s.first.0 s.first.1 s.read in
      record {
        w = v.w;
        words = v.words ∙ ap (λ p. v.w ∷ p.1) last;
        numbered = numbered limit v.w n (ap (λ e. e >>= λ v. referred true limit (place_of v space)) v.says ∙ t.read ∙ ap (λ p. Ok p.0) last);
      }

-- a part that stands last
pub not_last : (key other : Keyword) (said : Option (List ℕ)) → bytes_eq (keyword_text other) (keyword_text key) ≡ false → NotNext key (part other said)
not_last key other None apart = record { left = refl }
not_last key other (Some w) apart = not_word key (keyword_text other) (w ∷ []) apart
