-- The image statement is read where its words mean a header, and as that header.
use Rattle.std.proofs.lemmas.Bool.Decides.{nat_tests}
use Rattle.std.proofs.Common.{◌≡◌, ℕ, true, false, List, ◌∷◌, ◌++◌, Option, Some, None, Ok, refl, sym, ap, subst, ◌∙◌, arith}
use Rattle.std.specs.Prelude.{if◌then◌else◌}
use Rattle.aom_image.specs.declared.class.ClassDecl.{ClassDecl}
use Rattle.aom_image.specs.declared.image.Header.{Header}
use Rattle.aom_instructions.specs.declared.version.Version.{Version}
use Rattle.aom_instructions.specs.declared.version.Version.TheVariants as versions
use Rattle.aom_syntax.specs.Headers.{image_statement, optional_root, optional_version}
use Rattle.aom_syntax.specs.Keywords.{keyword_text}
use Rattle.aom_syntax.specs.Operands.{class}
use Rattle.aom_syntax.specs.Reading.{Reading, giving, keyword, next, nothing_more, number, number_in, optional_number}
use Rattle.aom_syntax.specs.declared.keyword.Keyword.TheVariants as k
use Rattle.aom_syntax.specs.declared.scope.Scope.{Scope}
use Rattle.aom_asm_semantics.proofs.SyntaxLemmas.{number_between, ok_is, steps}
use Rattle.aom_asm_semantics.proofs.Readings.{Whole, done, ends, first, last, reads_on, takes_keyword, took_same}
use Rattle.aom_asm_semantics.specs.Meaning.{HeaderMeans, IsNumber, IsNumbered, NameTables, SaidOrNone, VersionMeans}
use Rattle.aom_asm_semantics.specs.Source.{HeaderText, header_words, part}
use Rattle.aom_asm_semantics.proofs.Ascii.{plain_number}
use Rattle.aom_asm_semantics.proofs.Pieces.{Leaves, NotNext, Reads, Took, is_not, is_there, none_left, not_part, not_word, reads_part, saw, saw_keyword, saw_part}
use Rattle.aom_asm_semantics.proofs.Pieces.{saw_used, take_it, takes_seen, then_reads}
use Rattle.aom_asm_semantics.proofs.Sound.{Sound, giving_sound, next_sound}
use Rattle.aom_asm_semantics.proofs.Words.{LooksUp, takes_class, reported}

-- ---- numbers

pub number_reads : (low high : ℕ) (w : List ℕ) (n : ℕ) → IsNumber low high w n → Reads (number_in low high) w n
number_reads low high w n is = record { plain = plain_number low high w n is; says = is }

-- ---- what was read

module _ (names : NameTables) (kinds : List ClassDecl) where
  record RootSays (ws : List (List ℕ)) (root : Option ℕ) : Type 0 where
    said : Option (List ℕ)
    words : ws ≡ part k.Root said
    says : SaidOrNone (IsNumbered names.classes) said root

  abbrev said_root : Reading (Option ℕ)
  said_root = next (class (reported names kinds)) (λ c. next (nothing_more false) (λ u. giving (Some c)))

  abbrev no_root : Reading (Option ℕ)
  no_root = next (nothing_more true) (λ u. giving None)

  root_sound : (ws : List (List ℕ)) → Sound (optional_root (reported names kinds)) ws (λ root rest. RootSays ws root)
  root_sound ws = go (take_it k.Root ws)
    where
      behind : (vs : List (List ℕ)) → ws ≡ keyword_text k.Root ∷ vs → Sound said_root vs (λ root rest. RootSays ws root)
      behind vs words = next_sound (λ root rest. RootSays ws root) (class (reported names kinds)) _ vs (λ c us read.
          next_sound (λ root rest. RootSays ws root) (nothing_more false) _ us (λ u rest none.
          let s = saw_used names.classes 256 vs c us read in
          let e = (none_left false us u rest none).0 in
          giving_sound (λ root rest. RootSays ws root) (Some c) rest (record {
            said = Some s.w;
            words = words ∙ ap (λ v. keyword_text k.Root ∷ v) s.words ∙ ap (λ v. keyword_text k.Root ∷ s.w ∷ v) e;
            says = s.numbered;
          })))

      without : Sound no_root ws (λ root rest. RootSays ws root)
      without = next_sound (λ root rest. RootSays ws root) (nothing_more true) _ ws (λ u rest none.
          giving_sound (λ root rest. RootSays ws root) None rest (record { said = None; words = (none_left true ws u rest none).0; says = tt }))

      go : Took k.Root ws → Sound (optional_root (reported names kinds)) ws (λ root rest. RootSays ws root)
      go (is_there vs words there) = record { each = λ root rest is. (behind vs words).each root rest (grind arith) }
      go (is_not there) = search (arith, nat_tests)

  record VersionSays (ws : List (List ℕ)) (version : Version) (rest : List (List ℕ)) : Type 0 where
    said : Option (List ℕ)
    words : ws ≡ part k.Version said ++ rest
    says : VersionMeans said version

  -- the version behind its keyword, or the first one
  abbrev said_version : Reading Version
  said_version = next (number 2 2) (λ n. giving versions.Two)

  abbrev versioned : Version → List (List ℕ) → Version × List (List ℕ)
  versioned version ws = (version, ws)

  version_says : (ws : List (List ℕ)) (version : Version) (rest : List (List ℕ)) → optional_version ws ≡ Ok (version, rest) → VersionSays ws version rest
  version_says ws version rest is = go (take_it k.Version ws)
    where
      go : Took k.Version ws → VersionSays ws version rest
      go (is_there vs words there) =
          let s = steps (number 2 2 vs) (λ n. Ok (versioned versions.Two n.1)) (version, rest) (grind arith) in
          let same = ok_is (versioned versions.Two s.first.1) (version, rest) s.second in
          let n = saw (number_in 2 2) vs s.first.0 s.first.1 s.read in
          let between = (number_between 2 2).each vs s.first.0 s.first.1 s.read in
          let least = between.least in
          let most = between.most in
          let two : s.first.0 ≡ 2 = omega arith in
          record {
            said = Some n.w;
            words = words ∙ ap (λ v. keyword_text k.Version ∷ v) (n.words ∙ ap (λ p. n.w ∷ p.1) same);
            says = subst (VersionMeans (Some n.w)) (ap (λ p. p.0) same) (n.says ∙ ap Ok two);
          }
      go (is_not there) =
          let same = ok_is (versioned versions.One ws) (version, rest) (sym (ap (λ p. if p.0 then said_version p.1 else Ok (versions.One, p.1)) there) ∙ is) in
          record { said = None; words = ap (λ p. p.1) same; says = subst (VersionMeans None) (ap (λ p. p.0) same) tt }

  -- the words of a header, and what they mean
  pub record HeaderSays (ws : List (List ℕ)) (h : Header) : Type 0 where
    pub said : HeaderText
    pub words : ws ≡ header_words said
    pub means : HeaderMeans names said h

  pub header_sound : (ws : List (List ℕ)) → Sound (image_statement (reported names kinds)) ws (λ h rest. HeaderSays ws h)
  header_sound ws =
      let Q = λ (h : Header) (rest : List (List ℕ)). HeaderSays ws h in
      next_sound Q (keyword k.Image) _ ws (λ u1 v1 r1.
      next_sound Q optional_version _ v1 (λ version v2 r2.
      next_sound Q (optional_number k.Cells 4096) _ v2 (λ cells v3 r3.
      next_sound Q (optional_number k.Messages 1024) _ v3 (λ messages v4 r4.
      next_sound Q (optional_number k.Natives 16) _ v4 (λ natives v5 r5.
      next_sound Q (keyword k.Budget) _ v5 (λ u6 v6 r6.
      next_sound Q (number 0 4294967295) _ v6 (λ budget v7 r7.
      next_sound Q (optional_root (reported names kinds)) _ v7 (λ root v8 r8.
      let e1 = saw_keyword k.Image ws u1 v1 r1 in
      let e2 = version_says v1 version v2 r2 in
      let cs = saw_part k.Cells (number_in 0 4096) (IsNumber 0 4096) 0 (λ w n is. is) v2 cells v3 r3 in
      let ms = saw_part k.Messages (number_in 0 1024) (IsNumber 0 1024) 0 (λ w n is. is) v3 messages v4 r4 in
      let ns = saw_part k.Natives (number_in 0 16) (IsNumber 0 16) 0 (λ w n is. is) v4 natives v5 r5 in
      let e6 = saw_keyword k.Budget v5 u6 v6 r6 in
      let b = saw (number_in 0 4294967295) v6 budget v7 r7 in
      let r = (root_sound v7).each root v8 r8 in
      giving_sound Q _ v8 (record {
        said = record { version = e2.said; cells = cs.said; messages = ms.said; natives = ns.said; budget = b.w; root = r.said };
        words = grind (arith, nat_tests);
        means = record { version = e2.says; cells = cs.says; messages = ms.says; natives = ns.says; budget = b.says; root = r.says };
      })))))))))

-- ---- what is read

version_reads : (said : Option (List ℕ)) (version : Version) (ws : List (List ℕ)) → VersionMeans said version → NotNext k.Version ws →
    Leaves optional_version (part k.Version said ++ ws) version ws
version_reads said version ws means other = grind (arith, nat_tests, took_same, reads_on, takes_seen, number_reads 2 2, means)

module _ {names : NameTables} {scope : Scope} (looks : LooksUp names scope) where
  root_reads : (said : Option (List ℕ)) (root : Option ℕ) → SaidOrNone (IsNumbered names.classes) said root → Whole (optional_root scope) (part k.Root said) root
  root_reads x y is = grind (arith, nat_tests, ends, takes_class looks)

  pub header_reads : (t : HeaderText) (h : Header) → HeaderMeans names t h → Whole (image_statement scope) (header_words t) h
  header_reads t h means =
      let behind = keyword_text k.Budget ∷ t.budget ∷ part k.Root t.root in
      let natives = part k.Natives t.natives ++ behind in
      let messages = part k.Messages t.messages ++ natives in
      let cells = part k.Cells t.cells ++ messages in
      first _ (takes_keyword k.Image) (
      then_reads _ (version_reads t.version h.version cells means.version no_version_next) (
      then_reads _ (reads_part k.Cells (number_in 0 4096) (IsNumber 0 4096) 0 (number_reads 0 4096) t.cells h.cells messages means.cells
      (not_part k.Cells k.Messages t.messages natives refl (not_part k.Cells k.Natives t.natives behind refl (not_word k.Cells (keyword_text k.Budget) (t.budget ∷ part k.Root t.root) refl)))) (
      then_reads _ (reads_part k.Messages (number_in 0 1024) (IsNumber 0 1024) 0 (number_reads 0 1024) t.messages h.messages natives means.messages
      (not_part k.Messages k.Natives t.natives behind refl (not_word k.Messages (keyword_text k.Budget) (t.budget ∷ part k.Root t.root) refl))) (
      then_reads _ (reads_part k.Natives (number_in 0 16) (IsNumber 0 16) 0 (number_reads 0 16) t.natives h.natives behind means.natives
      (not_word k.Natives (keyword_text k.Budget) (t.budget ∷ part k.Root t.root) refl)) (
      first _ (takes_keyword k.Budget) (
      first _ (takes_seen (number_reads 0 4294967295 t.budget h.budget means.budget)) (
      last _ (root_reads t.root h.root means.root) (done _))))))))
    where
      no_version_next : NotNext k.Version
          (part k.Cells t.cells ++ (part k.Messages t.messages ++ (part k.Natives t.natives ++ (keyword_text k.Budget ∷ t.budget ∷ part k.Root t.root))))
      no_version_next = grind (arith, nat_tests, not_part, not_word)
