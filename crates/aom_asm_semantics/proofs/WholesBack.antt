-- Statements that are a listing's denote its image.
use Rattle.std.proofs.lemmas.Bool.Decides.{nat_tests}
use Rattle.std.proofs.Common.{◌≡◌, ℕ, ◌+◌, ◌≤◌, ◌^◌, Bool, true, false, List, [], ◌∷◌, ◌++◌, length, None, Ok, refl, sym, ap, ◌∙◌, append-nil, arith}
use Rattle.std.specs.Prelude.{if◌then◌else◌}
use Rattle.std.specs.List.{sum_by}
use Rattle.std.proofs.lemmas.Bool.{ne_eqb}
use Rattle.aom_text.specs.declared.text.Statement.{Statement}
use Rattle.aom_image.specs.Image.{Image}
use Rattle.aom_image.specs.WellFormed.{WellFormed}
use Rattle.aom_syntax.specs.declared.scope.Scope.{Scope}
use Rattle.aom_disassembler.specs.Listing.{classes_statements, listing, methods_statements}
use Rattle.aom_asm.specs.Body.{Program}
use Rattle.aom_asm.specs.Denoted.{and_then, image_of, read_program, read_rest, read_statements, scope_of}
use Rattle.aom_asm_semantics.specs.Naming.{HasNames}
use Rattle.aom_asm_semantics.specs.Texts.{AllSayQuiet, all_words}
use Rattle.aom_asm_semantics.proofs.Following.{Goes, goes_on, first_of}
use Rattle.aom_asm_semantics.proofs.HeadersBack.{header_reads}
use Rattle.aom_asm_semantics.proofs.AsmLemmas.{class_bytes, class_sizes, serialized}
use Rattle.aom_asm_semantics.proofs.Parts.{classes_go, methods_go, read_so_far}
use Rattle.aom_asm_semantics.proofs.TextNames.{has_names}

-- ---- one reading

-- the bytes that an image spells
abbrev whole_size : Image → ℕ
whole_size i = (24 + sum_by (class_bytes i.header.version) i.classes) + sum_by (serialized i.header.version) i.methods

-- an image that was read
abbrev all_read : Image → Program
all_read i = read_so_far i.header i.classes i.methods None (whole_size i)

pub none_left : (ss : List Statement) → all_words ss ≡ [] → ss ≡ []
none_left [] words = refl
none_left (s ∷ ss) words = absurd cc

module _ (last : ℕ) (i : Image) (formed : WellFormed i) (quiet : AllSayQuiet i) (scope : Scope) (names : HasNames (length i.classes) (length i.methods) scope) where
  small : whole_size i ≤ 2 ^ 20
  small = grind (arith, nat_tests, serialized i.header.version, class_sizes i.header.version i.classes)

  parts_go : (ss : List Statement) → all_words ss ≡ classes_statements 0 i.classes ++ methods_statements 0 i.methods →
      Goes last scope (read_so_far i.header [] [] None 24) ss (all_read i) []
  parts_go ss words =
      let enough = small in
      goes_on (classes_go last i.header (length i.classes) (length i.methods) scope names formed.header.natives [] i.classes 24
      (methods_statements 0 i.methods) ss (omega arith) formed.classes.each formed.families.parents formed.classes.servers (omega arith) words)
      (λ rest behind. methods_go last i.header (length i.classes) (length i.methods) scope names formed.header.natives i.classes [] i.methods
      (24 + sum_by (class_bytes i.header.version) i.classes) [] rest (omega arith) formed.methods.each formed.families.overridden_methods quiet enough
      (behind ∙ sym (append-nil (methods_statements 0 i.methods))))

  closes : (ss : List Statement) → all_words ss ≡ [] → read_rest last scope (all_read i) ss ≡ Ok (all_read i)
  closes ss words = grind (arith, nat_tests, none_left ss words, ne_eqb)

  rest_reads : (ss : List Statement) → all_words ss ≡ classes_statements 0 i.classes ++ methods_statements 0 i.methods →
      read_rest last scope (read_so_far i.header [] [] None 24) ss ≡ Ok (all_read i)
  rest_reads ss words = let goes = parts_go ss words in goes.reads ∙ closes goes.rest goes.words

  program_reads : (ss : List Statement) → all_words ss ≡ listing i → read_program last scope ss ≡ Ok (all_read i)
  program_reads ss words = grind (arith, nat_tests, first_of ss words, read_so_far, header_reads names i.header formed.header, rest_reads)

-- ---- both readings

pub statements_denote : (i : Image) → WellFormed i → AllSayQuiet i → (last : ℕ) (ss : List Statement) → all_words ss ≡ listing i → read_statements last ss ≡ Ok i
statements_denote i formed quiet last ss words =
    let strict : Bool → Scope = λ b. scope_of b ss (if b then i.classes else []) in
    let named = λ (b : Bool). has_names i ss b (if b then i.classes else []) formed.classes.count formed.methods.count words in
    ap (λ r. and_then r (λ first. and_then (read_program last (scope_of true ss first.classes) ss) (λ p. Ok (image_of p)))) (program_reads last i formed quiet
    (strict false) (named false) ss words) ∙ ap (λ r. and_then r (λ p. Ok (image_of p))) (program_reads last i formed quiet (strict true) (named true) ss words)
