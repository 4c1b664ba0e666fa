-- The beginning of a method that is read is in its range.
use Rattle.std.proofs.lemmas.Bool.Decides.{nat_tests}
use Rattle.std.proofs.Common.{◌≡◌, ℕ, ◌<◌, ◌≤◌, ◌||◌, Bool, true, false, List, length, replicate, All, Option, Some, None, Ok, slice_get, codes, subst, refl}
use Rattle.std.proofs.Common.{arith, ap, ◌∙◌}
use Rattle.std.specs.Prelude.{IfSome}
use Rattle.std.specs.Str.{bytes_eq}
use Rattle.std.proofs.lemmas.List.{length-replicate}
use Rattle.std.proofs.lemmas.List.Elements.{All-replicate}
use Rattle.std.proofs.lemmas.Option.{get_or_from_slice_get, slice_get_within}
use Rattle.aom_text.specs.declared.fault.AsmFaultKind.TheVariants.{BadShape}
use Rattle.aom_image.specs.WellFormed.{ArgumentFits, ClassFits, GivesFits, KindFits, OverFits}
use Rattle.aom_instructions.specs.declared.version.Version.{Version}
use Rattle.aom_image.specs.declared.class.ClassDecl.{ClassDecl}
use Rattle.aom_image.specs.declared.class.ClassKind.{ClassKind}
use Rattle.aom_image.specs.declared.class.ClassKind.TheVariants as kinds
use Rattle.aom_image.specs.declared.method.Argument.{Argument}
use Rattle.aom_image.specs.declared.method.Argument.TheVariants as arg
use Rattle.aom_image.specs.declared.method.Gives.{Gives}
use Rattle.aom_image.specs.declared.method.Gives.TheVariants as result
use Rattle.aom_image.specs.declared.method.Role.{Role}
use Rattle.aom_syntax.specs.Reading.{any_keyword, giving, next, nothing_more, seen, took, word}
use Rattle.aom_syntax.specs.Operands.{class}
use Rattle.aom_syntax.specs.Classes.{declared, flag, listed, thing_of}
use Rattle.aom_syntax.specs.Methods.{accepted, argument_of, flags_of, gives, heading, is_quiet_role, kind_of, not_served, optional_arguments}
use Rattle.aom_syntax.specs.Methods.{optional_class, optional_gives, optional_over, role, said_over, omitted_gives}
use Rattle.aom_syntax.specs.Methods.{default_gives, default_words, behind_class}
use Rattle.aom_syntax.specs.declared.keyword.Keyword.{Keyword}
use Rattle.aom_syntax.specs.declared.keyword.Keyword.TheVariants as k
use Rattle.aom_syntax.specs.declared.method.Heading.{Heading}
use Rattle.aom_syntax.specs.declared.scope.Scope.{Scope}
use Rattle.aom_syntax.specs.Ranges.{HeadingIsRead, IsSettled}
use Rattle.aom_syntax.proofs.Within.{Within, after, either, failing_within, giving_within, next_within, ok_is, seen_within, marked_or}
use Rattle.aom_syntax.proofs.RangedNames.{IsKnown, all_known, declared_below, used_below}
use Rattle.aom_syntax.proofs.RangedLists.{ListFits, listed_fits, thing_fits, thing_within}
use Rattle.aom_syntax.proofs.RangedStates.{AreStates, after_below, all_few, before_below, flags_below, states_within, words_few}
use Rattle.aom_syntax.proofs.ImageLemmas.{some_given}

-- ---- what an accept gives

abbrev MayGive : ℕ → Option Gives → Type 0
MayGive classes default = IfSome default (λ g. GivesFits classes g)

not_served_fits : (classes : ℕ) (known : Bool) → MayGive classes (not_served known)
not_served_fits classes x = grind arith

accepted_fits : (version : Version) (classes natives : ℕ) (known : Bool) (kind : ClassKind) → KindFits version classes natives kind →
    MayGive classes (accepted known kind)
accepted_fits version classes natives known x fits = grind (arith, nat_tests, not_served_fits classes known)

default_fits : (version : Version) (classes natives : ℕ) (known : Bool) (role : Role) (kind : ClassKind) → KindFits version classes natives kind →
    MayGive classes (default_gives known role kind)
default_fits version classes natives known x kind fits = grind arith

-- what is not said is what stands for it
pub stands_for : (default : Option Gives) (g : Gives) → omitted_gives default ≡ Ok g → default ≡ Some g
stands_for default g is = some_given (λ o. omitted_gives o ≡ Ok g) default is (λ e. cc) (λ u same e. same ∙ ap Some (ok_is u g e))

omitted_fits : (classes : ℕ) (default : Option Gives) (g : Gives) → MayGive classes default → omitted_gives default ≡ Ok g → GivesFits classes g
omitted_fits classes default g fits is = subst (MayGive classes) (stands_for default g is) fits

-- a class among those that were read before
kind_fits : (version : Version) (classes natives : ℕ) (decls : List ClassDecl) (class : Option ℕ) → All (ClassFits version classes natives) decls
    → KindFits version classes natives (kind_of decls class)
kind_fits version classes natives decls None all = tt
kind_fits version classes natives decls (Some c) all = go (slice_get decls c) refl
  where
    go : (o : Option ClassDecl) → slice_get decls c ≡ o → KindFits version classes natives (elim o [ None ↦ kinds.Plain | Some decl ↦ decl.kind ])
    go None there = tt
    go (Some decl) there = (subst (ClassFits _ _ _) (get_or_from_slice_get decls c decl decl there) (all c decl (slice_get_within decls c decl there))).kind

-- ---- parts of the statement

module _ (scope : Scope) (known : IsKnown scope.is_strict (length scope.classes)) where
  abbrev IsClass : Option ℕ → Type 0
  IsClass class = IfSome class (λ c. c < length scope.classes)

  abbrev IsArgument : Argument → Type 0
  IsArgument a = ArgumentFits (length scope.classes) a

  abbrev AreArguments : List Argument → Type 0
  AreArguments list = ListFits IsArgument 6 list

  abbrev IsGiven : Gives → Type 0
  IsGiven g = GivesFits (length scope.classes) g

  class_within : Within IsClass (optional_class scope)
  class_within = either IsClass (λ ws. (took k.Of ws).0) (λ ws. (took k.Of ws).1) (next (class scope) (λ c. giving (Some c))) (giving None)
      (next_within (λ c. c < length _) IsClass _ (λ c. giving (Some c)) (used_below _ 256 _ known) (λ c below. giving_within IsClass (Some c) below))
      (giving_within IsClass None tt)

  argument_fits : (w : List ℕ) (a : Argument) → argument_of scope w ≡ Ok a → IsArgument a
  argument_fits w a is =
      marked_or IsArgument (bytes_eq w (codes "word")) arg.Word (thing_of scope w) (λ t. arg.Own t) a (λ same. tt) (thing_fits scope known w) is

  arguments_within : (default : ℕ) → default ≤ 6 → Within AreArguments (optional_arguments scope default)
  arguments_within default few =
      either AreArguments (λ ws. (took k.Args ws).0) (λ ws. (took k.Args ws).1) (seen (listed 6 (argument_of scope)) word) (giving (replicate default arg.Word))
      (seen_within AreArguments (listed 6 (argument_of scope)) word (listed_fits IsArgument 6 (argument_of scope) argument_fits))
      (giving_within AreArguments _ (record { few = omega (arith, length-replicate default arg.Word, few); each = All-replicate IsArgument default arg.Word tt }))

  gives_within : (key : Keyword) → Within IsGiven (gives scope key)
  gives_within k.Nothing = giving_within IsGiven result.Nothing tt
  gives_within k.Word = giving_within IsGiven result.Word tt
  gives_within k.Own = grind (arith, nat_tests, next_within, thing_within scope known, giving_within IsGiven)
  gives_within k.Maybe = grind (arith, next_within, thing_within scope known)
  gives_within k.Left = grind (arith, next_within, used_below scope.is_strict 256 scope.classes known)
  gives_within key = failing_within IsGiven BadShape

  said_gives : Within IsGiven (next any_keyword (λ key. next (gives scope key) (λ g. next (nothing_more false) (λ u. giving g))))
  said_gives = after IsGiven any_keyword (λ key. next (gives scope key) (λ g. next (nothing_more false) (λ u. giving g))) (λ key.
      next_within IsGiven IsGiven (gives scope key) (λ g. next (nothing_more false) (λ u. giving g)) (gives_within key) (λ g fits.
      after IsGiven (nothing_more false) (λ u. giving g) (λ u. giving_within IsGiven g fits)))

  optional_within : (default : Option Gives) → MayGive (length scope.classes) default → Within IsGiven (optional_gives scope default)
  optional_within default fits = either IsGiven (λ ws. (took k.Gives ws).0) (λ ws. (took k.Gives ws).1) _
      (seen (λ u. omitted_gives _) (nothing_more true)) said_gives (seen_within IsGiven (λ u. omitted_gives default) _ (λ u g is. omitted_fits _ _ g fits is))

-- ---- the statement

module _ (before_version : Version) (natives : ℕ) (scope : Scope) (version : Version) (settled : IsSettled before_version natives scope) (place : ℕ) where
  known : IsKnown scope.is_strict (length scope.classes)
  known = all_known scope.is_strict (length scope.classes) settled.is_strict

  abbrev IsRead : Heading → Type 0
  IsRead h = HeadingIsRead scope version place h

  abbrev IsOver : Version → Option ℕ → Type 0
  IsOver v over = OverFits v (length scope.methods) over

  said_over_within : (v : Version) → Within (IsOver v) (said_over scope v)
  said_over_within x = grind (arith, failing_within, next_within, used_below scope.is_strict 1024 scope.methods)

  over_within : Within (IsOver version) (optional_over scope version)
  over_within = either (IsOver version) (λ ws. (took k.Over ws).0) (λ ws. (took k.Over ws).1) (said_over scope version) (giving None)
      (said_over_within version) (giving_within (IsOver version) None tt)

  behind_within : place < length scope.methods → (role : Role) (class over : Option ℕ) → IsClass scope known class → IsOver version over →
      Within IsRead (behind_class scope role class over)
  behind_within below role class over is_class is_over =
      let few = all_few (kind_of scope.kinds class) in
      after IsRead (flag k.Leaves) _ (λ leaves.
      after IsRead (flag k.Quiet) _ (λ quiet.
      next_within AreStates IsRead _ _ (states_within k.In _ (before_below role _ few)) (λ before in_states.
      next_within AreStates IsRead _ _ (states_within k.Out _ (after_below role _ few)) (λ after out_states.
      next_within (AreArguments scope known) IsRead _ _ (arguments_within scope known (default_words role) (words_few role)) (λ arguments are_few.
      next_within (IsGiven scope known) IsRead (optional_gives scope (default_gives scope.is_strict role (kind_of scope.kinds class))) _
      (optional_within scope known _ (default_fits _ _ natives _ role _ (kind_fits _ _ natives scope.kinds class settled.kinds))) (λ gives is_given.
      giving_within _ (record { class = class; over = over; role = role; flags = flags_of _ _; before = before; after = after; arguments = arguments; gives = gives }) (record {
        declared = below;
        heading = record {
          class = is_class;
          over = is_over;
          flags = flags_below leaves (quiet || is_quiet_role role);
          before = in_states;
          after = out_states;
          argument_count = are_few.few;
          arguments = are_few.each;
          gives = is_given;
        };
      })))))))

  pub heading_within : Within IsRead (heading scope version place)
  heading_within = next_within (λ u. place < length scope.methods) IsRead (declared place scope.methods) _ (declared_below place scope.methods) (λ u below.
      after IsRead role _ (λ role.
      next_within (IsClass scope known) IsRead (optional_class scope) _ (class_within scope known) (λ class is_class.
      next_within (IsOver version) IsRead (optional_over scope version) (λ over. behind_class scope role class over) over_within (λ over is_over.
      behind_within below role class over is_class is_over))))
