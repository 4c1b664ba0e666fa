-- The statement that declares a class reads back.
use Rattle.std.proofs.lemmas.Bool.Decides.{nat_tests}
use Rattle.std.proofs.Common.{◌≡◌, ℕ, ◌<◌, ◌≤◌, Bool, true, List, [], ◌∷◌, ◌++◌, length, Ok, refl, ◌||◌, eqb, arith, Option, Some}
use Rattle.std.specs.Prelude.{◌&&◌, ◌^◌, decimal, nat_le, not}
use Rattle.std.proofs.lemmas.Bool.{and_parts, lt-ltb}
use Rattle.aom_text.specs.Names.{has_name_form, is_letter, is_reserved}
use Rattle.aom_text.specs.Words.{others_of}
use Rattle.aom_image.specs.WellFormed.{ClassFits, KindFits, ParentFits, ProviderFits, ThingFits, is_dispatched, is_server, is_server_kind}
use Rattle.aom_image.specs.declared.class.ClassDecl.{ClassDecl}
use Rattle.aom_image.specs.declared.class.ClassKind.{ClassKind}
use Rattle.aom_image.specs.declared.class.Provider.{Provider}
use Rattle.aom_instructions.specs.declared.version.Version.{Version}
use Rattle.aom_image.specs.declared.method.Thing.{Thing}
use Rattle.aom_syntax.specs.Classes.{budget, class_of, class_statement, fields, flag, kind, optional_parent, provider, said_budget, said_parent, thing}
use Rattle.aom_syntax.specs.Classes.{thing_of}
use Rattle.aom_syntax.specs.Keywords.{keyword_text}
use Rattle.aom_syntax.specs.Reading.{Reading, any_keyword, giving, next, optional_number}
use Rattle.aom_syntax.specs.declared.keyword.Keyword.TheVariants as k
use Rattle.aom_syntax.specs.declared.scope.Scope.{Scope}
use Rattle.aom_disassembler.specs.Classes.{budget_words, class_words, field_words, kind_words, provider_words, thing_word}
use Rattle.aom_disassembler.specs.Operands.{class_after, class_name}
use Rattle.aom_asm_semantics.specs.Naming.{HasNames}
use Rattle.aom_asm_semantics.specs.ReadbackLaws.{ClassesReadBack}
use Rattle.aom_asm_semantics.proofs.Lists.{Element, plain_form, takes_list}
use Rattle.aom_asm_semantics.proofs.Names.{lettered, name_lettered}
use Rattle.aom_asm_semantics.proofs.OperandsBack.{takes_class}
use Rattle.aom_asm_semantics.proofs.Readings.{Takes, Whole, done, first, first_two, gives, in_turn, last, made, reads_on, sees, takes_any_keyword, takes_declared}
use Rattle.aom_asm_semantics.proofs.Readings.{takes_flag, takes_keyword, takes_number, takes_optional, takes_word, took_same}

pub name_form : (letter n : ℕ) → n < 1024 → is_letter letter ≡ true → has_name_form (lettered letter n) ≡ true
name_form letter n few is = let whole = and_parts (has_name_form (lettered letter n) && nat_le (length (lettered letter n)) 32)
    (not (is_reserved (lettered letter n))) (name_lettered letter n is (omega arith)) in
    (and_parts (has_name_form (lettered letter n)) (nat_le (length (lettered letter n)) 32) whole.0).0

module _ {classes methods : ℕ} {scope : Scope} (names : HasNames classes methods scope) where
  -- ---- what may be owned

  class_reads : (c : ℕ) → c < classes → class_of scope (class_name c) ≡ Ok c
  class_reads c there = grind (arith, nat_tests, name_lettered 99 c, lt-ltb c 256)

  pub thing_element : (t : Thing) → ThingFits classes t → Element 8 (thing_of scope) thing_word t
  thing_element x fits = grind (arith, nat_tests, name_form 99, class_reads)

  pub takes_thing : (t : Thing) → ThingFits classes t → Takes (thing scope) (thing_word t ∷ []) t
  takes_thing t fits = let element = thing_element t fits in sees _ (takes_word (thing_word t) (plain_form (thing_word t) element.form)) element.reads

  -- ---- parents

  said_reads : (version : Version) (K : ClassKind) (c : ℕ) → ParentFits version classes K (Some c) → (ws : List (List ℕ)) →
      said_parent scope version K (class_name c ∷ ws) ≡ Ok (Some c, ws)
  said_reads x y c fits ws = grind (arith, nat_tests, in_turn, takes_class names c fits.2, gives (Some c))

  -- a parent stands before the word of words
  parent_before : (version : Version) (K : ClassKind) (parent : Option ℕ) → ParentFits version classes K parent → (ws : List (List ℕ))
      → optional_parent scope version K (class_after k.From parent ++ keyword_text k.Words ∷ ws) ≡ Ok (parent, keyword_text k.Words ∷ ws)
  parent_before version x y fits ws = grind (arith, nat_tests, took_same, said_reads)

  -- ---- kinds

  module _ (version : Version) (natives servers : ℕ) (few_natives : natives ≤ 16) where
    takes_provider : (p : Provider) → ProviderFits version natives p → Takes (next any_keyword (provider version natives)) (provider_words p) p
    takes_provider x fits = grind (arith, nat_tests, in_turn, takes_any_keyword, gives, takes_number 0 15, lt-ltb)

    takes_kind : (K : ClassKind) → KindFits version classes natives K → (is_server_kind K ≡ true → servers < 8) →
        Takes (next any_keyword (kind scope version natives servers)) (kind_words K) K
    takes_kind x fits few =
        grind (arith, nat_tests, in_turn, takes_any_keyword, gives, made, takes_provider, lt-ltb servers 8, takes_class names, takes_keyword, takes_number 1 64)

    -- ---- the statement

    whole_said : (n : ℕ) → n < 2 ^ 32 → Whole said_budget (keyword_text k.Budget ∷ decimal n ∷ []) n
    whole_said n fits = search (arith, nat_tests, first, takes_keyword, takes_number 0 4294967295 n)

    whole_budget : (dispatched : Bool) (n : ℕ) → n < 2 ^ 32 → (dispatched || eqb n 0) ≡ true → Whole (budget true dispatched) (budget_words dispatched n) n
    whole_budget x n fits declared = grind (arith, nat_tests, whole_said n fits, Whole)

    -- what stands behind the kind, and behind the word before the fields
    abbrev rest_of_fields : ClassKind → Option ℕ → ℕ → Bool → Reading ClassDecl
    rest_of_fields K parent words owns = next (fields scope owns) (λ list. next (budget owns (is_dispatched K)) (λ n.
        giving (record { kind = K; parent = parent; words = words; fields = list; budget = n })))

    abbrev rest_of_class : ClassKind → Option ℕ → Reading ClassDecl
    rest_of_class K parent = next (optional_number k.Words 8) (λ words. next (flag k.Own) (rest_of_fields K parent words))

    abbrev behind_kind : ClassKind → Reading ClassDecl
    behind_kind K = next (optional_parent scope version K) (rest_of_class K)

    whole_rest : (c : ClassDecl) → ClassFits version classes natives c →
        Whole (rest_of_class c.kind c.parent) (field_words c ++ budget_words (is_dispatched c.kind) c.budget) c
    whole_rest c fits = first _ (takes_optional k.Words 8 c.words fits.words (omega (arith, fits.words))) (
        first (rest_of_fields c.kind c.parent c.words) (takes_flag k.Own) (
        first _ (takes_list 8 (thing_of scope) thing_word c.fields fits.field_count (λ i d less. thing_element _ (fits.fields i d less))) (
        last _ (whole_budget (is_dispatched c.kind) c.budget fits.budget fits.budgeted) (done _))))

    whole_parent : (c : ClassDecl) → ClassFits version classes natives c → ParentFits version classes c.kind c.parent
        → Whole (behind_kind c.kind) (class_after k.From c.parent ++ (field_words c ++ budget_words (is_dispatched c.kind) c.budget)) c
    whole_parent c fits parent = record { reads = grind (arith, nat_tests, reads_on, parent_before version c.kind c.parent parent, whole_rest c fits) }

    whole_class : (place : ℕ) (c : ClassDecl) → place < classes → ClassFits version classes natives c → ParentFits version classes c.kind c.parent →
        (is_server c ≡ true → servers < 8) → Whole (class_statement scope version natives place servers) (others_of (class_words place c)) c
    whole_class place c there fits parent few =
        let few_classes = names.few_classes in
        first _ (takes_declared 99 place scope.classes refl (omega arith) (names.class place there)) (
        first_two any_keyword (kind scope version natives servers) behind_kind (takes_kind c.kind fits.kind few) (whole_parent c fits parent))

pub class_statement_reads : ClassesReadBack
class_statement_reads classes methods scope names version natives servers place c few_natives there fits parent few =
    (whole_class names version natives servers few_natives place c there fits parent few).reads
