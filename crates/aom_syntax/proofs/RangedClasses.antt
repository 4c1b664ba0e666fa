-- A class that is read is in its range.
use Rattle.std.proofs.lemmas.Bool.Decides.{nat_tests}
use Rattle.std.proofs.Common.{◌≡◌, ℕ, ◌<◌, ◌^◌, ◌||◌, eqb, ap, Bool, true, false, not, List, [], length, nat_lt, arith, refl, Option, Some, None}
use Rattle.std.specs.Prelude.{if◌then◌else◌}
use Rattle.std.proofs.lemmas.Bool.{ltb-true}
use Rattle.std.proofs.lemmas.List.Elements.{All-nil}
use Rattle.aom_text.specs.declared.fault.AsmFaultKind.TheVariants.{BadShape, LimitPassed}
use Rattle.aom_image.specs.WellFormed.{KindFits, ParentFits, ProviderFits, ThingFits, is_dispatched, is_server_kind, may_declare, may_descend}
use Rattle.aom_instructions.specs.Versions.{includes}
use Rattle.aom_instructions.specs.declared.version.Version.{Version}
use Rattle.aom_instructions.specs.declared.version.Version.TheVariants as versions
use Rattle.aom_image.specs.declared.class.ClassDecl.{ClassDecl}
use Rattle.aom_image.specs.declared.class.ClassKind.{ClassKind}
use Rattle.aom_image.specs.declared.class.ClassKind.TheVariants as kinds
use Rattle.aom_image.specs.declared.class.Provider.TheVariants as providers
use Rattle.aom_image.specs.declared.method.Thing.{Thing}
use Rattle.aom_syntax.specs.Reading.{any_keyword, failing, giving, keyword, next, nothing_more, number, optional_number, took, word}
use Rattle.aom_syntax.specs.Operands.{class}
use Rattle.aom_syntax.specs.Classes.{budget, class_statement, fields, flag, kind, listed, optional_parent, provider, said_budget, said_parent}
use Rattle.aom_syntax.specs.Classes.{server, thing_of, class_parts}
use Rattle.aom_syntax.specs.declared.keyword.Keyword.{Keyword}
use Rattle.aom_syntax.specs.declared.keyword.Keyword.TheVariants as k
use Rattle.aom_syntax.specs.declared.scope.Scope.{Scope}
use Rattle.aom_syntax.specs.Ranges.{ClassIsRead}
use Rattle.aom_syntax.proofs.Within.{Within, after, either, failing_within, giving_within, next_within, seen_within}
use Rattle.aom_syntax.proofs.RangedNames.{IsKnown, declared_below, used_below}
use Rattle.aom_syntax.proofs.Numbers.{Between, number_between, optional_between}
use Rattle.aom_syntax.proofs.RangedLists.{ListFits, listed_fits, thing_fits}

-- ---- kinds

native_within : (version : Version) (natives n : ℕ) (b : Bool) → nat_lt n natives ≡ b →
    Within (ProviderFits version natives) (if b then giving (providers.Native n) else failing LimitPassed)
native_within version natives n x below = grind (arith, nat_tests, giving_within, ltb-true, failing_within)

token_within : (version : Version) (natives : ℕ) (b : Bool) → includes version versions.Two ≡ b
    → Within (ProviderFits version natives) (if b then giving providers.Token else failing BadShape)
token_within version natives x is = grind (arith, nat_tests, giving_within, failing_within)

provider_within : (version : Version) (natives : ℕ) (key : Keyword) → Within (ProviderFits version natives) (provider version natives key)
provider_within version natives key = grind (arith, giving_within, after, failing_within)

-- a kind, and a server only after so few others
record KindIsRead (version : Version) (classes natives servers : ℕ) (kind : ClassKind) : Type 0 where
  pub kind_fits : KindFits version classes natives kind
  pub server : is_server_kind kind ≡ true → servers < 8

-- a budget that a class of such a kind may declare
record IsBudgetOf (kind : ClassKind) (n : ℕ) : Type 0 where
  pub small : n < 2 ^ 32
  pub declared : may_declare kind n ≡ true

said_within : (kind : ClassKind) → is_dispatched kind ≡ true → Within (IsBudgetOf kind) said_budget
said_within kind is = after (IsBudgetOf kind) (keyword k.Budget) (λ u. next (number 0 4294967295) (λ n. next (nothing_more false) (λ u. giving n))) (λ u.
    next_within _ (IsBudgetOf kind) (number 0 4294967295) (λ n. next (nothing_more false) (λ u. giving n)) (number_between 0 4294967295) (λ n low.
    after (IsBudgetOf kind) (nothing_more false) (λ u. giving n) (λ u.
    giving_within (IsBudgetOf kind) n (record { small = omega (arith, low.most); declared = ap (λ b. b || eqb n 0) is }))))

budget_within : (kind : ClassKind) (has_fields b : Bool) → is_dispatched kind ≡ b → Within (IsBudgetOf kind) (budget has_fields b)
budget_within kind has_fields true is = said_within kind is
budget_within kind has_fields false is = after (IsBudgetOf kind) (nothing_more (not has_fields)) (λ u. giving 0) (λ u.
    giving_within (IsBudgetOf kind) 0 (record { small = omega arith; declared = ap (λ b. b || eqb 0 0) is }))

module _ (scope : Scope) (version : Version) (natives servers : ℕ) (known : IsKnown scope.is_strict (length scope.classes)) where
  abbrev IsOfKind : ClassKind → Type 0
  IsOfKind kind = KindIsRead version (length scope.classes) natives servers kind

  abbrev AreOwned : List Thing → Type 0
  AreOwned ts = ListFits (ThingFits (length scope.classes)) 8 ts

  server_within : servers < 8 → Within IsOfKind (server scope)
  server_within room =
      next_within (λ c. c < length scope.classes) IsOfKind (class scope) (λ c. next (keyword k.Max) (λ u. next (number 1 64) (λ n. giving (kinds.Server n c))))
      (used_below scope.is_strict 256 scope.classes known) (λ c below.
      after IsOfKind (keyword k.Max) (λ u. next (number 1 64) (λ n. giving (kinds.Server n c))) (λ u.
      next_within (Between 1 64) IsOfKind (number 1 64) (λ n. giving (kinds.Server n c)) (number_between 1 64) (λ n few.
      giving_within IsOfKind (kinds.Server n c) (record { kind_fits = (few.least, few.most, below); server = λ is. room }))))

  next_server : (b : Bool) → nat_lt servers 8 ≡ b → Within IsOfKind (if b then server scope else failing LimitPassed)
  next_server x room = grind (arith, nat_tests, server_within, ltb-true, failing_within)

  kind_within : (key : Keyword) → Within IsOfKind (kind scope version natives servers key)
  kind_within k.Plain = giving_within IsOfKind kinds.Plain (record { kind_fits = tt; server = λ is. absurd cc })
  kind_within k.Session = giving_within IsOfKind kinds.Session (record { kind_fits = tt; server = λ is. absurd cc })
  kind_within k.Active = after IsOfKind any_keyword (λ key. next (provider version natives key) (λ p. giving (kinds.Active p))) (λ key.
      next_within _ IsOfKind (provider version natives key) (λ p. giving (kinds.Active p)) (provider_within version natives key) (λ p fits.
      giving_within IsOfKind (kinds.Active p) (record { kind_fits = fits; server = λ is. absurd cc })))
  kind_within k.Server = next_server (nat_lt servers 8) refl
  kind_within key = failing_within IsOfKind BadShape

  abbrev IsParent : Version → ClassKind → Option ℕ → Type 0
  IsParent v kind parent = ParentFits v (length scope.classes) kind parent

  named_parent : (kind : ClassKind) (b : Bool) → may_descend kind ≡ b
      → Within (IsParent versions.Two kind) (if b then next (class scope) (λ c. giving (Some c)) else failing BadShape)
  named_parent kind x is = grind (arith, next_within, used_below scope.is_strict 256 scope.classes known, failing_within)

  said_parent_within : (v : Version) (kind : ClassKind) → Within (IsParent v kind) (said_parent scope v kind)
  said_parent_within x kind = grind (arith, nat_tests, failing_within, named_parent kind)

  parent_within : (kind : ClassKind) → Within (IsParent version kind) (optional_parent scope version kind)
  parent_within kind = either (IsParent version kind) (λ ws. (took k.From ws).0) (λ ws. (took k.From ws).1) (said_parent scope version kind) (giving None)
      (said_parent_within version kind) (giving_within (IsParent version kind) None tt)

  fields_within : (owns : Bool) → Within AreOwned (fields scope owns)
  fields_within false = giving_within AreOwned [] (record { few = omega arith; each = All-nil (ThingFits (length scope.classes)) })
  fields_within true = seen_within AreOwned (listed 8 (thing_of scope)) word (listed_fits _ 8 (thing_of scope) (thing_fits scope known))

-- ---- the statement

-- where a class is declared at its place there are names
some_names : (is_strict : Bool) (place count : ℕ) → place < count → IsKnown is_strict count
some_names is_strict place count below = record { some = λ loose. omega (arith, below) }

module _ (scope : Scope) (version : Version) (natives place servers : ℕ) where
  abbrev IsRead : ClassDecl → Type 0
  IsRead c = ClassIsRead scope version natives place servers c

  behind_within : place < length scope.classes → Within IsRead (class_parts scope version natives servers)
  behind_within below =
      let known = some_names scope.is_strict place (length scope.classes) below in
      after IsRead any_keyword _ (λ key.
      next_within _ IsRead (kind scope version natives servers key) _ (kind_within scope version natives servers known key) (λ kind is_read.
      next_within _ IsRead (optional_parent scope version kind) _ (parent_within scope version natives servers known kind) (λ parent is_parent.
      next_within (Between 0 8) IsRead (optional_number k.Words 8) _ (optional_between k.Words 8) (λ words few.
      after IsRead (flag k.Own) _ (λ owns.
      next_within _ IsRead (fields scope owns) _ (fields_within scope version natives servers known owns) (λ list owned.
      next_within (IsBudgetOf kind) IsRead (budget owns (is_dispatched kind)) _ (budget_within kind owns (is_dispatched kind) refl) (λ n is_budget.
      giving_within IsRead _ (record {
        declared = below;
        class = record {
          kind = is_read.kind_fits;
          words = few.most;
          field_count = owned.few;
          fields = owned.each;
          budget = is_budget.small;
          budgeted = is_budget.declared;
        };
        parent = is_parent;
        server = is_read.server;
      }))))))))

  pub class_within : Within IsRead (class_statement scope version natives place servers)
  class_within = next_within (λ u. place < length _) IsRead _ (λ u. class_parts scope _ _ servers) (declared_below place _) (λ u below. behind_within below)
