-- The statement that opens a listing reads back.
use Rattle.std.proofs.lemmas.Bool.Decides.{nat_tests}
use Rattle.std.proofs.Common.{◌≡◌, ℕ, ◌<◌, List, [], ◌∷◌, ◌++◌, Option, Ok, arith}
use Rattle.std.specs.Prelude.{IfSome, decimal}
use Rattle.aom_image.specs.WellFormed.{HeaderFits}
use Rattle.aom_image.specs.declared.image.Header.{Header}
use Rattle.aom_instructions.specs.declared.version.Version.{Version}
use Rattle.aom_instructions.specs.declared.version.Version.TheVariants as versions
use Rattle.aom_syntax.specs.Headers.{image_statement, optional_root, optional_version, limits_and_root}
use Rattle.aom_syntax.specs.Keywords.{keyword_text}
use Rattle.aom_syntax.specs.Reading.{next}
use Rattle.aom_syntax.specs.declared.keyword.Keyword.TheVariants as k
use Rattle.aom_syntax.specs.declared.scope.Scope.{Scope}
use Rattle.aom_disassembler.specs.Headers.{header_words, limit_words, version_words}
use Rattle.aom_disassembler.specs.Operands.{class_after}
use Rattle.aom_asm_semantics.specs.Naming.{HasNames}
use Rattle.aom_asm_semantics.proofs.OperandsBack.{takes_class}
use Rattle.aom_asm_semantics.proofs.Readings.{Takes, Whole, done, ends, first, gives, in_turn, last, takes_keyword, takes_number, takes_optional, took_same}

takes_version : Takes optional_version (keyword_text k.Version ∷ decimal 2 ∷ []) versions.Two
takes_version = record { reads = grind (arith, nat_tests, took_same, in_turn, takes_number 2 2 2, gives) }

-- what stands behind the version
abbrev limits_said : Header → List (List ℕ)
limits_said h = limit_words h ++ keyword_text k.Budget ∷ decimal h.budget ∷ class_after k.Root h.root

module _ {classes methods : ℕ} {scope : Scope} (names : HasNames classes methods scope) where
  whole_root : (root : Option ℕ) → IfSome root (λ c. c < classes) → Whole (optional_root scope) (class_after k.Root root) root
  whole_root x fits = grind (arith, nat_tests, ends, takes_class names)

  whole_limits : (h : Header) → HeaderFits classes h → Whole (limits_and_root scope h.version) (limits_said h) h
  whole_limits h fits = first _ (takes_optional k.Cells 4096 h.cells fits.cells (omega (arith, fits.cells))) (
      first _ (takes_optional k.Messages 1024 h.messages fits.messages (omega (arith, fits.messages))) (
      first _ (takes_optional k.Natives 16 h.natives fits.natives (omega (arith, fits.natives))) (
      first _ (takes_keyword k.Budget) (
      first _ (takes_number 0 4294967295 h.budget (omega arith) (omega (arith, fits.budget)) (omega (arith, fits.budget))) (
      last _ (whole_root h.root fits.root) (done _))))))

  whole_version : (version : Version) (h : Header) → Whole (limits_and_root scope version) (limits_said h) h →
      Whole (next optional_version (λ v. limits_and_root scope v)) (version_words version ++ limits_said h) h
  whole_version x h whole = grind (arith, nat_tests, first, takes_version)

  whole_header : (h : Header) → HeaderFits classes h → Whole (image_statement scope) (header_words h) h
  whole_header h fits = first _ (takes_keyword k.Image) (whole_version h.version h (whole_limits h fits))

  pub header_reads : (h : Header) → HeaderFits classes h → image_statement scope (header_words h) ≡ Ok (h, [])
  header_reads h fits = (whole_header h fits).reads
