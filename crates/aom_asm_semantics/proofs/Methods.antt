-- The statement that declares a method reads back.
use Rattle.std.proofs.lemmas.Bool.Decides.{nat_tests}
use Rattle.std.proofs.Common.{◌≡◌, ℕ, ◌<◌, ◌≤◌, ◌==◌, ◌||◌, Bool, true, false, List, [], ◌∷◌, ◌++◌, length, map, Option, Some, Result, Ok, Err, refl, ap, arith}
use Rattle.std.specs.Prelude.{IfSome}
use Rattle.std.specs.List.{All, list_all}
use Rattle.std.proofs.lemmas.Bool.{agree_below_at, eqb-true}
use Rattle.aom_text.specs.Words.{is_plain, others_of}
use Rattle.aom_text.specs.declared.fault.AsmFaultKind.{AsmFaultKind}
use Rattle.aom_image.specs.Views.{has}
use Rattle.aom_asm_semantics.specs.ReadbackLaws.{HeadingsReadBack}
use Rattle.aom_image.specs.WellFormed.{ArgumentFits, GivesFits, MethodFits, OverFits}
use Rattle.aom_instructions.specs.declared.version.Version.{Version}
use Rattle.aom_image.specs.declared.method.Argument.{Argument}
use Rattle.aom_image.specs.declared.method.Gives.{Gives}
use Rattle.aom_image.specs.declared.method.Method.{Method}
use Rattle.aom_image.specs.declared.method.MethodFlags.{MethodFlags}
use Rattle.aom_image.specs.declared.method.Role.{Role}
use Rattle.aom_image.specs.declared.method.States.{States}
use Rattle.aom_syntax.specs.Classes.{flag}
use Rattle.aom_syntax.specs.Methods.{all_states, argument_of, flags_of, gives, heading, is_quiet_role, kind_of, optional_arguments, optional_class}
use Rattle.aom_syntax.specs.Methods.{optional_gives, optional_over, optional_states, role, role_of, said_over, states_of, default_after, default_before}
use Rattle.aom_syntax.specs.Methods.{default_gives, default_words, promised}
use Rattle.aom_syntax.specs.Reading.{Reading, any_keyword, giving, next, nothing_more, took}
use Rattle.aom_syntax.specs.Operands.{class}
use Rattle.aom_syntax.specs.Keywords.{keyword_text}
use Rattle.aom_syntax.specs.declared.keyword.Keyword.TheVariants as k
use Rattle.aom_syntax.specs.declared.method.Heading.{Heading}
use Rattle.aom_syntax.specs.declared.scope.Scope.{Scope}
use Rattle.aom_disassembler.specs.Methods.{argument_word, flag_words, gives_words, heading_words, promise_words, role_keyword, states_word, word_where}
use Rattle.aom_disassembler.specs.Operands.{class_after, method_after, method_name}
use Rattle.aom_disassembler.specs.Text.{list_word}
use Rattle.aom_asm_semantics.specs.Naming.{HasNames, heading_of}
use Rattle.aom_asm_semantics.specs.Texts.{SaysQuiet}
use Rattle.aom_asm_semantics.proofs.ClassesBack.{takes_thing, thing_element}
use Rattle.aom_asm_semantics.proofs.Lists.{Element, takes_list}
use Rattle.aom_asm_semantics.proofs.OperandsBack.{takes_class, takes_method}
use Rattle.aom_asm_semantics.proofs.Readings.{Takes, Whole, done, first, gives as gives_it, in_turn, last, only_two, reads_on, sees, settle, takes_any_keyword}
use Rattle.aom_asm_semantics.proofs.Readings.{takes_declared, takes_word, took_same}

-- ---- roles

role_known : (r : Role) → role_of (role_keyword r) ≡ Ok r
role_known x = grind arith

takes_role : (r : Role) → Takes role (keyword_text (role_keyword r) ∷ []) r
takes_role r = sees role_of (takes_any_keyword (role_keyword r)) (role_known r)

-- ---- flags

-- a method is quiet by its flags or by its role
quiet_said : (said by_role : Bool) → (by_role ≡ true → said ≡ true) → (said || by_role) ≡ said
quiet_said x by_role implied = grind arith

flags_again : (flags : ℕ) → flags < 4 → flags_of (has flags 1) (has flags 2) ≡ record { 0 = flags }
flags_again flags small =
    let same = agree_below_at (λ n. (flags_of (has n 1) (has n 2)).0 == n) (λ n. true) 4 flags refl small in
    ap (λ n. record { 0 = n }) (eqb-true _ _ same)

flags_read : (role : Role) (flags : MethodFlags) → flags.0 < 4 → (is_quiet_role role ≡ true → has flags.0 2 ≡ true) →
    flags_of (has flags.0 1) (has flags.0 2 || is_quiet_role role) ≡ flags
flags_read role flags small implied = grind (arith, nat_tests, quiet_said, flags_again flags.0 small)

-- ---- sets of states

is_set : ℕ → Result States AsmFaultKind → Bool
is_set set (Ok states) = states.0 == set
is_set set (Err fault) = false

set_from : (r : Result States AsmFaultKind) (set : ℕ) → is_set set r ≡ true → r ≡ Ok (record { 0 = set })
unfolding is_set
set_from r set same = grind arith

states_again : (set : ℕ) → set < 64 → states_of (states_word set) ≡ Ok (record { 0 = set })
unfolding is_set
states_again set small = set_from (states_of (states_word set)) set (agree_below_at (λ n. is_set n (states_of (states_word n))) (λ n. true) 64 set refl small)

states_are_plain : (set : ℕ) → set < 64 → list_all is_plain (states_word set) ≡ true
states_are_plain set small = agree_below_at (λ n. list_all is_plain (states_word n)) (λ n. true) 64 set refl small

takes_states_in : (default : ℕ) (s : States) → s.0 < 64 → Takes (optional_states k.In default) (keyword_text k.In ∷ states_word s.0 ∷ []) s
takes_states_in default s small = record { reads = (sees states_of (takes_word (states_word s.0) (states_are_plain s.0 small)) (states_again s.0 small)).reads }

takes_states_out : (default : ℕ) (s : States) → s.0 < 64 → Takes (optional_states k.Out default) (keyword_text k.Out ∷ states_word s.0 ∷ []) s
takes_states_out default s small = record { reads = (sees states_of (takes_word (states_word s.0) (states_are_plain s.0 small)) (states_again s.0 small)).reads }

-- ---- the class, what is overridden and the flags, which stand before what is promised

flags_before : {X : Type 0} (leaves quiet : Bool) (f : Bool → Bool → Reading X) (ws : List (List ℕ)) (x : X) →
    Whole (f leaves quiet) (keyword_text k.In ∷ ws) x → Whole (next (flag k.Leaves) (λ leaves. next (flag k.Quiet) (λ quiet. f leaves quiet)))
    ((word_where leaves k.Leaves ++ word_where quiet k.Quiet) ++ keyword_text k.In ∷ ws) x
flags_before x y f ws z whole = grind arith

-- flags, and what is promised behind them
abbrev flagged : Bool → Bool → List (List ℕ) → List (List ℕ)
flagged leaves quiet ws = (word_where leaves k.Leaves ++ word_where quiet k.Quiet) ++ keyword_text k.In ∷ ws

no_over : (leaves quiet : Bool) (ws : List (List ℕ)) → took k.Over (flagged leaves quiet ws) ≡ (false, flagged leaves quiet ws)
no_over x y ws = grind arith

no_class : (over : Option ℕ) (leaves quiet : Bool) (ws : List (List ℕ)) →
    took k.Of (method_after k.Over over ++ flagged leaves quiet ws) ≡ (false, method_after k.Over over ++ flagged leaves quiet ws)
no_class x leaves quiet ws = grind arith

module _ {classes methods : ℕ} {scope : Scope} (names : HasNames classes methods scope) where
  class_before : (class : Option ℕ) → IfSome class (λ c. c < classes) → (ws : List (List ℕ)) → took k.Of ws ≡ (false, ws) →
      optional_class scope (class_after k.Of class ++ ws) ≡ Ok (class, ws)
  class_before x fits ws other = grind (arith, nat_tests, takes_class names)

  said_reads : (version : Version) (m : ℕ) → OverFits version methods (Some m) → (ws : List (List ℕ)) →
      said_over scope version (method_name m ∷ ws) ≡ Ok (Some m, ws)
  said_reads x m fits ws = grind (arith, nat_tests, in_turn, takes_method names m fits.1, gives_it (Some m))

  over_before : (version : Version) (over : Option ℕ) → OverFits version methods over →
      (ws : List (List ℕ)) → took k.Over ws ≡ (false, ws) → optional_over scope version (method_after k.Over over ++ ws) ≡ Ok (over, ws)
  over_before version x fits ws other = grind (arith, nat_tests, took_same, said_reads version)

  -- ---- arguments and results

  argument_element : (a : Argument) → ArgumentFits classes a → Element 6 (argument_of scope) argument_word a
  argument_element x fits = grind (arith, nat_tests, thing_element names)

  takes_arguments : (default : ℕ) (xs : List Argument) →
      length xs ≤ 6 → All (ArgumentFits classes) xs → Takes (optional_arguments scope default) (keyword_text k.Args ∷ list_word (map argument_word xs) ∷ []) xs
  takes_arguments default xs few fits =
      record { reads = (takes_list 6 (argument_of scope) argument_word xs few (λ i d less. argument_element _ (fits i d less))).reads }

  takes_gives : (g : Gives) → GivesFits classes g → Takes (next any_keyword (gives scope)) (gives_words g) g
  takes_gives x fits = grind (arith, nat_tests, in_turn, takes_any_keyword, gives_it, takes_thing names, takes_class names)

  whole_gives : (default : Option Gives) (g : Gives) → GivesFits classes g → Whole (optional_gives scope default) (keyword_text k.Gives ∷ gives_words g) g
  whole_gives default g fits = record { reads = (only_two any_keyword (gives scope) (λ g. next (nothing_more false) (λ u. giving g)) (takes_gives g fits) (record { reads = refl })).reads }

  -- ---- the statement

  -- a heading, with flags of its own
  abbrev with_flags : Method → MethodFlags → Heading
  with_flags m flags =
      record { class = m.class; over = m.over; role = m.role; flags = flags; before = m.before; after = m.after; arguments = m.arguments; gives = m.gives }

  whole_promise : (version : Version) (m : Method) → MethodFits version classes methods m → (leaves quiet : Bool) →
      Whole (promised scope m.role m.class m.over leaves quiet) (promise_words m) (with_flags m (flags_of leaves (quiet || is_quiet_role m.role)))
  whole_promise version m fits leaves quiet = first _ (takes_states_in (default_before m.role (all_states (kind_of scope.kinds m.class))) m.before fits.before) (
      first _ (takes_states_out (default_after m.role (all_states (kind_of scope.kinds m.class))) m.after fits.after) (
      first _ (takes_arguments (default_words m.role) m.arguments fits.argument_count fits.arguments) (
      last _ (whole_gives (default_gives scope.is_strict m.role (kind_of scope.kinds m.class)) m.gives fits.gives) (done _))))

  whole_flags : (version : Version) (m : Method) → MethodFits version classes methods m → (is_quiet_role m.role ≡ true → has m.flags.0 2 ≡ true) → Whole (next
      (flag k.Leaves) (λ leaves. next (flag k.Quiet) (promised scope m.role m.class m.over leaves))) (flag_words m.flags.0 ++ promise_words m) (heading_of m)
  whole_flags version m fits quiet = grind (arith, nat_tests, flags_before, settle, flags_read m.role m.flags fits.flags quiet, whole_promise version m fits)

  -- what is read behind the class, and behind the role
  abbrev behind_class : Version → Role → Option ℕ → Reading Heading
  behind_class version role class =
      next (optional_over scope version) (λ over. next (flag k.Leaves) (λ leaves. next (flag k.Quiet) (promised scope role class over leaves)))

  abbrev behind_role : Version → Role → Reading Heading
  behind_role version role = next (optional_class scope) (behind_class version role)

  module _ (version : Version) (m : Method) (fits : MethodFits version classes methods m)
      (over_fits : OverFits version methods m.over) (quiet : is_quiet_role m.role ≡ true → has m.flags.0 2 ≡ true) where
    abbrev words_flagged : List (List ℕ)
    words_flagged = flag_words m.flags.0 ++ promise_words m

    whole_over : Whole (behind_class version m.role m.class) (method_after k.Over m.over ++ words_flagged) (heading_of m)
    whole_over = record { reads = grind (arith, nat_tests, reads_on, over_before version m.over over_fits, no_over, whole_flags version m fits quiet) }

    whole_of_class : Whole (behind_role version m.role) (class_after k.Of m.class ++ (method_after k.Over m.over ++ words_flagged)) (heading_of m)
    whole_of_class = record {
      reads = reads_on (optional_class scope) (behind_class version m.role) {ws = class_after k.Of m.class ++ (method_after k.Over m.over ++ words_flagged)}
          (class_before m.class fits.class (method_after k.Over m.over ++ words_flagged)
          (no_class m.over (has m.flags.0 1) (has m.flags.0 2) (others_of (promise_words m)))) whole_over.reads;
    }

    whole_heading : (place : ℕ) → place < methods → Whole (heading scope version place) (others_of (heading_words place m)) (heading_of m)
    whole_heading place there = grind (arith, nat_tests, first, takes_declared 109 place scope.methods, takes_role m.role, whole_of_class)

  pub heading_reads : (version : Version) (place : ℕ) (m : Method) → place < methods → MethodFits version classes methods m →
      OverFits version methods m.over → SaysQuiet m → heading scope version place (others_of (heading_words place m)) ≡ Ok (heading_of m, [])
  heading_reads version place m there fits over quiet = (whole_heading version m fits over quiet place there).reads

-- whatever names there are
pub heading_reads_back : HeadingsReadBack
heading_reads_back classes methods scope names = heading_reads names
