-- A statement of a method's code is read where its words mean an instruction, and as that instruction.
use Rattle.std.proofs.lemmas.Bool.Decides.{nat_tests}
use Rattle.std.proofs.lemmas.Option.{same_Some}
use Rattle.std.proofs.Common.{◌≡◌, ℕ, suc, Bool, true, false, List, [], ◌∷◌, ◌++◌, length, take, get_or, Option, Some, None, Ok, Err, refl, sym, ap, subst}
use Rattle.std.proofs.Common.{◌∙◌, arith}
use Rattle.aom_instructions.specs.declared.version.Version.{Version}
use Rattle.aom_asm_semantics.proofs.ImageLemmas.{some_given, true_given}
use Rattle.std.specs.Prelude.{IfSome, if◌then◌else◌}
use Rattle.std.specs.List.{list_all}
use Rattle.std.specs.Str.{bytes_eq}
use Rattle.std.proofs.Math.Seq.{drop-cons}
use Rattle.std.proofs.lemmas.Bool.{eq-eqb, eqb-true}
use Rattle.std.proofs.lemmas.List.{drop_all, take-append-drop}
use Rattle.std.proofs.lemmas.List.Folds.{list_all-append}
use Rattle.std.proofs.lemmas.Slice.Eq.{bytes_eq-Decides}
use Rattle.aom_text.specs.Names.{is_name}
use Rattle.aom_text.specs.Words.{is_plain}
use Rattle.aom_text.specs.declared.fault.AsmFaultKind.TheVariants.{BadShape, DoubleName}
use Rattle.aom_image.specs.declared.class.ClassDecl.{ClassDecl}
use Rattle.aom_instructions.specs.declared.instr.Instr.{Instr}
use Rattle.aom_syntax.specs.Classes.{declared_at, is_at}
use Rattle.aom_syntax.specs.Methods.{after_label, check_label, instruction, known_mnemonic, label_of, named_mnemonic, skip_label}
use Rattle.aom_instructions.specs.Mnemonics.{is_in, mnemonic_of, mnemonic_text}
use Rattle.aom_instructions.specs.Table.{mnemonics}
use Rattle.aom_syntax.specs.Names.{place_of}
use Rattle.aom_syntax.specs.Reading.{◌>>=◌, as_name, giving, next, nothing_more, seen, word}
use Rattle.aom_syntax.specs.Words.{words_operands}
use Rattle.aom_instructions.specs.declared.mnemonic.Mnemonic.{Mnemonic}
use Rattle.aom_asm_semantics.proofs.AsmLemmas.{found_passes}
use Rattle.aom_asm_semantics.proofs.SyntaxLemmas.{at_place, ok_is, passed, saw_word, steps}
use Rattle.aom_asm_semantics.proofs.Readings.{Takes, Whole, first, in_turn, last, regroup, sees, takes_word}
use Rattle.aom_asm_semantics.proofs.Statements.{label_cut}
use Rattle.aom_asm_semantics.proofs.Tables.{mnemonic_is_no_label, mnemonic_is_plain, mnemonic_reads}
use Rattle.aom_asm_semantics.specs.Meaning.{InstructionMeans, NameTables, lookup}
use Rattle.aom_asm_semantics.specs.Source.{InstructionText, instruction_words, label_words}
use Rattle.aom_asm_semantics.proofs.Operands.{operands_follow}
use Rattle.aom_asm_semantics.proofs.Pieces.{named, none_left, pair}
use Rattle.aom_asm_semantics.proofs.Places.{finds_more, scoped}
use Rattle.aom_asm_semantics.proofs.Sound.{Sound, giving_sound, next_sound}
use Rattle.aom_asm_semantics.proofs.Words.{name_reads, plain_name}

-- ---- labels

-- a word without its last byte, and that byte
colon_last : (w : List ℕ) (n : ℕ) → suc n ≡ length w → get_or w n 0 ≡ 58 → w ≡ take n w ++ 58 ∷ []
colon_last w n long is = grind (arith, nat_tests, take-append-drop n w, drop-cons w n 0, drop_all)

pub label_is : (w l : List ℕ) → label_of w ≡ Some l → w ≡ l ++ 58 ∷ []
label_is [] l is = absurd cc
label_is (b ∷ bs) l is = grind (arith, nat_tests, true_given, colon_last (b ∷ bs), eqb-true, same_Some)

-- ---- what was read

record IsKnown (version : Version) (o : Option Mnemonic) (m : Mnemonic) : Type 0 where
  found : o ≡ Some m
  there : is_in version m ≡ true

known_is : (version : Version) (w : List ℕ) (o : Option Mnemonic) (m : Mnemonic) → known_mnemonic version w o ≡ Ok m → IsKnown version o m
known_is version w o m is = some_given (λ o. known_mnemonic version w o ≡ Ok m) o is (λ e. cc) (λ n same e.
    let p = passed (is_in version n) (Ok n) BadShape m e in
    let one = ok_is n m p.1 in
    record { found = same ∙ ap Some one; there = subst (λ x. is_in version x ≡ true) one p.0 })

module _ (place : ℕ) (labels : List (List ℕ)) where
  abbrev IsPlaced : Option (List ℕ) → Type 0
  IsPlaced label = IfSome label (λ l. place_of l labels ≡ Some place)

  abbrev IsNamed : Option (List ℕ) → Type 0
  IsNamed label = IfSome label (λ l. is_name l ≡ true)

  record Labelled (ws : List (List ℕ)) (w : List ℕ) (rest : List (List ℕ)) : Type 0 where
    label : Option (List ℕ)
    words : ws ≡ label_words label ++ (w ∷ rest)
    is_named : IsNamed label
    is_placed : IsPlaced label

  past : (ws : List (List ℕ)) (v : List ℕ) (vs : List (List ℕ)) (o : Option (List ℕ)) (w : List ℕ) (rest : List (List ℕ)) → ws ≡ v ∷ vs → label_of v ≡ o
      → skip_label place labels v o vs ≡ Ok (w, rest) → Labelled ws w rest
  past ws v vs None w rest words none is = record { label = None; words = words ∙ ap (λ p. p.0 ∷ p.1) (ok_is (v, vs) (w, rest) is); is_named = tt; is_placed = tt }
  past ws v vs (Some l) w rest words some is =
      let s = steps (check_label place labels l) (λ u. word vs) (w, rest) is in
      let t = steps (as_name l) (λ n. declared_at place labels n) s.first s.read in
      let i = named labels l t.first t.read in
      let at = passed (is_at place (place_of t.first labels)) (Ok tt) DoubleName s.first t.second in
      record {
        label = Some l;
        words = words ∙ ap (λ u. u ∷ vs) (label_is v l some) ∙ ap (λ us. (l ++ 58 ∷ []) ∷ us) (saw_word vs w rest s.second);
        is_named = i.0;
        is_placed = ap (λ n. place_of n labels) i.1 ∙ at_place place (place_of t.first labels) at.0;
      }

  labelled : (ws : List (List ℕ)) (w : List ℕ) (rest : List (List ℕ)) → after_label place labels ws ≡ Ok (w, rest) → Labelled ws w rest
  labelled ws w rest is = grind (arith, nat_tests, steps, past ws, saw_word ws)

  record Begins (version : Version) (ws : List (List ℕ)) (m : Mnemonic) (rest : List (List ℕ)) : Type 0 where
    label : Option (List ℕ)
    words : ws ≡ label_words label ++ (mnemonic_text m ∷ rest)
    is_named : IsNamed label
    is_placed : IsPlaced label
    there : is_in version m ≡ true

  begins : (version : Version) (ws : List (List ℕ)) (m : Mnemonic) (rest : List (List ℕ)) →
      seen (named_mnemonic version) (after_label place labels) ws ≡ Ok (m, rest) → Begins version ws m rest
  begins version ws m rest is =
      let s = steps (after_label place labels ws) (λ x. named_mnemonic version x.0 >>= λ y. Ok (y, x.1)) (m, rest) is in
      let t = steps (named_mnemonic version s.first.0) (λ y. Ok (y, s.first.1)) (m, rest) s.second in
      let l = labelled ws s.first.0 s.first.1 s.read in
      let both : pair t.first s.first.1 ≡ (m, rest) = ok_is (pair t.first s.first.1) (m, rest) t.second in
      let known = known_is version s.first.0 (mnemonic_of s.first.0) t.first t.read in
      let found : mnemonic_of s.first.0 ≡ Some m = known.found ∙ ap (λ p. Some p.0) both in
      let text : mnemonic_text m ≡ s.first.0 =
      (bytes_eq-Decides (mnemonic_text m) s.first.0).0 (found_passes (λ n. bytes_eq (mnemonic_text n) s.first.0) mnemonics m found) in
      record {
        label = l.label;
        words = l.words ∙ ap (λ v. label_words l.label ++ (v ∷ s.first.1)) (sym text) ∙ ap (λ p. label_words l.label ++ (mnemonic_text m ∷ p.1)) both;
        is_named = l.is_named;
        is_placed = l.is_placed;
        there = subst (λ (p : Mnemonic × List (List ℕ)). is_in version p.0 ≡ true) both known.there;
      }

  module _ (version : Version) (names : NameTables) (kinds : List ClassDecl) where
    -- the words of an instruction, and what they mean at its place
    pub record InstructionSays (ws : List (List ℕ)) (i : Instr) : Type 0 where
      pub said : InstructionText
      pub words : ws ≡ instruction_words said
      pub means : InstructionMeans names version labels said i
      pub placed : IsPlaced said.label

    pub instruction_sound : (ws : List (List ℕ)) → Sound (instruction (scoped true names kinds) version labels place) ws (λ i rest. InstructionSays ws i)
    instruction_sound ws =
        let Q = λ (i : Instr) (rest : List (List ℕ)). InstructionSays ws i in
        let scope = scoped true names kinds in
        next_sound Q (seen (named_mnemonic version) (after_label place labels)) _ ws
        (λ m v1 r1. next_sound Q (words_operands scope labels m) _ v1 (λ i v2 r2. next_sound Q (nothing_more false) _ v2 (λ u v3 r3.
        let b = begins version ws m v1 r1 in
        let none = (none_left false v2 u v3 r3).0 in
        let found = (operands_follow scope (lookup names) labels (finds_more true 256 names [] kinds names.classes)
        (finds_more true 1024 names [] kinds names.methods) (finds_more true 1024 names [] kinds labels) m).each v1 i v2 r2 in
        giving_sound Q i v3 (record {
          said = record { label = b.label; mnemonic = m; operands = v1 };
          words = b.words;
          means = record { label = b.is_named; there = b.there; operands = found ∙ ap (λ v. Ok (i, v)) none };
          placed = b.is_placed;
        }))))

-- ---- what is read

module _ (version : Version) (place : ℕ) (labels : List (List ℕ)) where
  colon_is_plain : (l : List ℕ) → is_name l ≡ true → list_all is_plain (l ++ 58 ∷ []) ≡ true
  colon_is_plain l is = list_all-append is_plain l (58 ∷ []) ∙ rw (plain_name l is)

  checked : (l : List ℕ) → is_name l ≡ true → place_of l labels ≡ Some place → check_label place labels l ≡ Ok tt
  checked l is there = grind (arith, nat_tests, name_reads l is, there, eq-eqb place place)

  takes_label : (label : Option (List ℕ)) (m : Mnemonic) → IsNamed place labels label → IsPlaced place labels label
      → Takes (after_label place labels) (label_words label ++ mnemonic_text m ∷ []) (mnemonic_text m)
  takes_label x m is there =
      grind (arith, nat_tests, in_turn, takes_word, mnemonic_is_plain m, mnemonic_is_no_label m, colon_is_plain, label_cut, checked, there)

  spread : (label : Option (List ℕ)) (w : List ℕ) (ws : List (List ℕ)) → label_words label ++ (w ∷ ws) ≡ (label_words label ++ w ∷ []) ++ ws
  spread x w ws = grind arith

  known_reads : (m : Mnemonic) → is_in version m ≡ true → named_mnemonic version (mnemonic_text m) ≡ Ok m
  known_reads m there = ap (known_mnemonic version (mnemonic_text m)) (mnemonic_reads m) ∙ ap (λ b. if b then Ok m else Err BadShape) there

  pub instruction_reads : (b : Bool) (names : NameTables) (kinds : List ClassDecl) (t : InstructionText) (i : Instr) → InstructionMeans names version labels t i →
      IsPlaced place labels t.label → Whole (instruction (scoped b names kinds) version labels place) (instruction_words t) i
  instruction_reads b names kinds t i means placed =
      let found = (operands_follow (lookup names) (scoped b names kinds) labels (finds_more b 256 names kinds [] names.classes)
      (finds_more b 1024 names kinds [] names.methods) (finds_more b 1024 names kinds [] labels) t.mnemonic).each t.operands i [] means.operands in
      let operands : Whole (words_operands (scoped b names kinds) labels t.mnemonic) t.operands i = record { reads = found } in
      regroup (spread t.label (mnemonic_text t.mnemonic) t.operands) (
      first _ (sees (named_mnemonic version) (takes_label t.label t.mnemonic means.label placed) (known_reads t.mnemonic means.there)) (
      last (λ x. next (nothing_more false) (λ u. giving x)) operands (record { reads = refl })))
