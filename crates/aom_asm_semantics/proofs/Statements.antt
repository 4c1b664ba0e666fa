-- An instruction reads back with its label.
use Rattle.std.proofs.lemmas.Bool.Decides.{nat_tests}
use Rattle.std.proofs.Common.{◌≡◌, ℕ, ◌<◌, ◌≤◌, Bool, true, false, List, [], ◌∷◌, ◌++◌, length, slice_get, Some, Ok, Err, refl, sym, ap, ◌∙◌, append_assoc}
use Rattle.std.proofs.Common.{arith}
use Rattle.std.specs.Prelude.{if◌then◌else◌}
use Rattle.std.specs.List.{list_all}
use Rattle.std.proofs.Math.ListN.{length-append}
use Rattle.std.proofs.Math.Seq.{get_or-append_seam, take-append_seam}
use Rattle.std.proofs.lemmas.List.Folds.{list_all-append}
use Rattle.aom_instructions.specs.declared.version.Version.{Version}
use Rattle.aom_text.specs.Words.{is_plain}
use Rattle.aom_text.specs.declared.fault.AsmFaultKind.TheVariants.{BadShape}
use Rattle.aom_instructions.specs.Fits.{InstrFits, limits}
use Rattle.aom_instructions.specs.declared.instr.Instr.{Instr}
use Rattle.aom_instructions.specs.Mnemonics.{is_in, mnemonic_text}
use Rattle.aom_syntax.specs.Methods.{after_label, check_label, instruction, known_mnemonic, label_of, named_mnemonic, skip_label}
use Rattle.aom_syntax.specs.Names.{place_of}
use Rattle.aom_syntax.specs.Reading.{◌>>=◌, seen, word}
use Rattle.aom_instructions.specs.declared.mnemonic.Mnemonic.{Mnemonic}
use Rattle.aom_syntax.specs.declared.scope.Scope.{Scope}
use Rattle.aom_disassembler.specs.Jumps.{is_target}
use Rattle.aom_disassembler.specs.Listing.{instr_words, label_words}
use Rattle.aom_disassembler.specs.Operands.{label_name}
use Rattle.aom_asm_semantics.specs.Naming.{HasNames, code_labels}
use Rattle.aom_asm_semantics.proofs.InstructionsBack.{says}
use Rattle.aom_asm_semantics.proofs.Labels.{has_label, label_placed}
use Rattle.aom_asm_semantics.proofs.Names.{name_lettered, plain_lettered}
use Rattle.aom_asm_semantics.proofs.Readings.{Takes, before, declared_there, ends, in_turn, sees, takes_word}
use Rattle.aom_asm_semantics.proofs.Tables.{mnemonic_is_no_label, mnemonic_is_plain, mnemonic_reads}

-- ---- labels

pub label_cut : (l : List ℕ) → label_of (l ++ 58 ∷ []) ≡ Some l
label_cut l = grind (arith, nat_tests, length-append l (58 ∷ []), get_or-append_seam l 58, take-append_seam l (58 ∷ []))

colon_is_plain : (place : ℕ) → place < 1024 → list_all is_plain (label_name place ++ 58 ∷ []) ≡ true
colon_is_plain place few = list_all-append is_plain (label_name place) (58 ∷ []) ∙ rw (plain_lettered 76 place refl (omega arith))

module _ (version : Version) (place : ℕ) (labels : List (List ℕ)) (m : Mnemonic) where
  reads_mnemonic : is_in version m ≡ true → named_mnemonic version (mnemonic_text m) ≡ Ok m
  reads_mnemonic there = ap (known_mnemonic version (mnemonic_text m)) (mnemonic_reads m) ∙ ap (λ b. if b then Ok m else Err BadShape) there

  -- a word without a colon is no label
  plainly : Takes (after_label place labels) (mnemonic_text m ∷ []) (mnemonic_text m)
  plainly = search (arith, nat_tests, in_turn, takes_word, mnemonic_is_plain m, mnemonic_is_no_label m)

  -- a label is skipped
  past_label : place < 1024 → place_of (label_name place) labels ≡ Some place →
      Takes (after_label place labels) ((label_name place ++ 58 ∷ []) ∷ mnemonic_text m ∷ []) (mnemonic_text m)
  past_label few there = in_turn _ (takes_word (label_name place ++ 58 ∷ []) (colon_is_plain place few)) (record {
    reads = λ rest. ap (λ o. skip_label place labels (label_name place ++ 58 ∷ []) o (mnemonic_text m ∷ rest)) (label_cut (label_name place))
        ∙ ap (λ e. e >>= λ u. word (mnemonic_text m ∷ rest)) (checked few there) ∙ (takes_word (mnemonic_text m) (mnemonic_is_plain m)).reads rest;
  })
    where
      checked : place < 1024 → place_of (label_name place) labels ≡ Some place → check_label place labels (label_name place) ≡ Ok tt
      checked few there = grind (arith, nat_tests, name_lettered 76 place, declared_there 76 place labels there)

  pub takes_mnemonic : is_in version m ≡ true → (b : Bool) → (b ≡ true → (place < 1024) × (place_of (label_name place) labels ≡ Some place)) →
      Takes (seen (named_mnemonic version) (after_label place labels)) (label_words b place ++ mnemonic_text m ∷ []) m
  takes_mnemonic known true labelled = let there = labelled refl in sees (named_mnemonic version) (past_label there.0 there.1) (reads_mnemonic known)
  takes_mnemonic known false labelled = sees (named_mnemonic version) plainly (reads_mnemonic known)

-- ---- instructions

module _ {classes methods : ℕ} {scope : Scope} (names : HasNames classes methods scope) (version : Version) (code : List Instr) (few : length code ≤ 1024) where
  pub instruction_reads : (place : ℕ) (i : Instr) → place < length code → slice_get code place ≡ Some i →
      InstrFits (limits version classes methods (length code)) i → instruction scope version (code_labels code) place (instr_words code place i) ≡ Ok (i, [])
  instruction_reads place i within there fits =
      let labels = code_labels code in
      let said = says names version labels (length code) i fits (has_label version classes methods code place i few there fits) in
      let front = label_words (is_target code place) place in
      let labelled = takes_mnemonic version place labels said.mnemonic said.there (is_target code place)
      (λ jumped. (omega arith, label_placed code place few within jumped)) in
      ap (λ ws. instruction scope version labels place (front ++ ws)) said.words ∙ ap (instruction scope version labels place)
      (sym (append_assoc front (mnemonic_text said.mnemonic ∷ []) said.operands)) ∙ before _ labelled (ends _ said.takes refl)
