-- A header that is read is in its range.
use Rattle.std.proofs.lemmas.Bool.Decides.{nat_tests}
use Rattle.std.proofs.Common.{◌≡◌, ℕ, ◌<◌, true, false, length, Option, Some, None, arith}
use Rattle.std.specs.Prelude.{IfSome}
use Rattle.aom_image.specs.WellFormed.{HeaderFits}
use Rattle.aom_image.specs.declared.image.Header.{Header}
use Rattle.aom_syntax.specs.Headers.{image_statement, optional_root, optional_version}
use Rattle.aom_syntax.specs.Operands.{class}
use Rattle.aom_syntax.specs.Reading.{giving, keyword, next, nothing_more, number, optional_number, took}
use Rattle.aom_syntax.specs.declared.keyword.Keyword.TheVariants as k
use Rattle.aom_syntax.specs.declared.scope.Scope.{Scope}
use Rattle.aom_syntax.proofs.Within.{Within, after, either, giving_within, next_within}
use Rattle.aom_syntax.proofs.RangedNames.{all_known, used_below}
use Rattle.aom_syntax.proofs.Numbers.{Between, number_between, optional_between}

module _ (scope : Scope) (strict : scope.is_strict ≡ true) where
  abbrev IsClass : ℕ → Type 0
  IsClass c = c < length scope.classes

  abbrev IsRoot : Option ℕ → Type 0
  IsRoot root = IfSome root IsClass

  abbrev Fits : Header → Type 0
  Fits h = HeaderFits (length scope.classes) h

  class_within : Within IsClass (class scope)
  class_within = used_below scope.is_strict 256 scope.classes (all_known scope.is_strict (length scope.classes) strict)

  said_root : Within IsRoot (next (class scope) (λ c. next (nothing_more false) (λ u. giving (Some c))))
  said_root = grind (arith, nat_tests, next_within, class_within, after, giving_within)

  no_root : Within IsRoot (next (nothing_more true) (λ u. giving None))
  no_root = after IsRoot (nothing_more true) (λ u. giving None) (λ u. giving_within IsRoot None tt)

  root_within : Within IsRoot (optional_root scope)
  root_within = either IsRoot (λ ws. (took k.Root ws).0) (λ ws. (took k.Root ws).1) _ (next (nothing_more true) (λ u. giving None)) said_root no_root

  pub header_within : Within Fits (image_statement scope)
  header_within = after Fits (keyword k.Image) _ (λ u. after Fits optional_version _ (λ version. next_within (Between 0 4096) Fits
      (optional_number k.Cells 4096) _ (optional_between k.Cells 4096) (λ cells few_cells. next_within (Between 0 1024) Fits (optional_number k.Messages 1024) _
      (optional_between k.Messages 1024) (λ messages few_messages. next_within (Between 0 16) Fits (optional_number k.Natives 16) _ (optional_between
      k.Natives 16) (λ natives few_natives. after Fits (keyword k.Budget) _ (λ u. next_within (Between 0 4294967295) Fits (number 0 4294967295) _
      (number_between 0 4294967295) (λ budget small. next_within IsRoot Fits (optional_root scope) _ root_within (λ root is_class. giving_within Fits _
      (record { cells = few_cells.most; messages = few_messages.most; natives = few_natives.most; root = is_class; budget = omega (arith, small.most) })))))))))
