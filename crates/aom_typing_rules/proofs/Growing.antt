-- A flow has at most one entry more than the state from which it goes.
use Rattle.std.proofs.lemmas.Bool.Decides.{nat_tests}
use Rattle.std.proofs.Common.{◌≡◌, ℕ, zero, suc, ◌≤◌, List, [], ◌∷◌, length, Option, refl, ap, ◌∙◌, arith}
use Rattle.aom_image.specs.Image.{Image}
use Rattle.aom_instructions.specs.declared.instr.Instr.{Instr}
use Rattle.aom_instructions.specs.declared.instr.Target.{Target}
use Rattle.aom_image.specs.declared.method.Argument.{Argument}
use Rattle.aom_image.specs.declared.method.Argument.TheVariants.{Word as A_word_argument, Own as An_own_argument}
use Rattle.aom_image.specs.declared.method.Gives.{Gives}
use Rattle.aom_typing_rules.specs.Calls.{brought, caught, while_called, worked_on}
use Rattle.aom_abstract_state.specs.Entries.{made_ready_at, without_top}
use Rattle.aom_abstract_state.specs.Arguments.{argument_moved, arguments_moved}
use Rattle.aom_typing_rules.specs.Laws.{HaveAtMost}
use Rattle.aom_typing_rules.specs.Objects.{flow_jump_null, flow_jump_empty}
use Rattle.aom_typing_rules.specs.Rules.{flows, ways_of}
use Rattle.aom_abstract_state.specs.AbstractState.{AbstractState}
use Rattle.aom_typing_rules.specs.Ways.{News}
use Rattle.aom_typing_rules.specs.Ways.{Ways, after, flowing}
use Rattle.aom_abstract_state.specs.declared.kind.CleanupEntry.{CleanupEntry}
use Rattle.aom_abstract_state.specs.declared.kind.FieldState.{FieldState}
use Rattle.aom_abstract_state.specs.declared.kind.Kind.{Kind}

-- the arguments take no cleanup entry with them
argument_leaves : (x : Argument) (r : ℕ) (sh : AbstractState) → (argument_moved x r sh).entries ≡ sh.entries
argument_leaves A_word_argument r sh = refl
argument_leaves (An_own_argument t) r sh = refl

pub arguments_leave : (xs : List Argument) (first : ℕ) (sh : AbstractState) → (arguments_moved xs first sh).entries ≡ sh.entries
arguments_leave [] first sh = refl
arguments_leave (x ∷ xs) first sh = arguments_leave xs (suc first) (argument_moved x first sh) ∙ argument_leaves x first sh

top_gone : (es : List CleanupEntry) → length (without_top es) ≤ suc (length es)
top_gone [] = omega arith
top_gone (e ∷ es) = omega arith

as_many : (es : List CleanupEntry) (k : ℕ) → length (made_ready_at es k) ≡ length es
as_many [] k = refl
as_many (e ∷ es) zero = refl
as_many (e ∷ es) (suc k) = ap suc (as_many es k)

worked_leaves : (class : Option ℕ) (ended : ℕ) (sh : AbstractState) → (worked_on class ended sh).entries ≡ sh.entries
worked_leaves x ended sh = grind arith

call_leaves : (target : Target) (class : Option ℕ) (ended : ℕ) (sh : AbstractState) → length (while_called target class ended sh).entries ≡ length sh.entries
call_leaves x class ended sh = grind (arith, nat_tests, worked_leaves class ended sh, as_many sh.entries)

brings_one : (g : Gives) (c : ℕ) (sh : AbstractState) → length (brought g c sh).entries ≤ suc (length sh.entries)
brings_one x c sh = grind arith

catches_none : (g : Gives) (c : ℕ) (sh : AbstractState) → (caught g c sh).entries ≡ sh.entries
catches_none x c sh = grind arith

-- the state while a call lasts has as many entries as the one before it
pub lasting_has : (target : Target) (class : Option ℕ) (ended : ℕ) (xs : List Argument) (first : ℕ) (sh : AbstractState) →
    length (while_called target class ended (arguments_moved xs first sh)).entries ≡ length sh.entries
lasting_has target class ended xs first sh = grind (arith, nat_tests, call_leaves, arguments_leave)

jump_null_leaves : (p : Image) (m pc : ℕ) (sh : AbstractState) (k : Kind) (r to : ℕ) → HaveAtMost (suc (length sh.entries)) (flow_jump_null p m pc sh k r to)
jump_null_leaves p m pc sh x r to = grind arith

jump_empty_leaves : (p : Image) (m pc : ℕ) (sh : AbstractState) (x : FieldState) (f to : ℕ) → HaveAtMost (suc (length sh.entries)) (flow_jump_empty p m pc sh x f to)
jump_empty_leaves p m pc sh x f to = grind arith

module _ (p : Image) (m pc : ℕ) (sh : AbstractState) where
  after_has : (news : News) → length (after p m pc sh news).entries ≤ suc (length sh.entries)
  after_has x = grind (arith, nat_tests, top_gone sh.entries, brings_one, lasting_has, catches_none)

  ways_have : (ways : Ways) → HaveAtMost (suc (length sh.entries)) (flowing p m pc sh ways)
  ways_have x = grind (arith, after_has)

pub at_most_one_more : (p : Image) (m pc : ℕ) (sh : AbstractState) (i : Instr) → HaveAtMost (suc (length sh.entries)) (flows p m pc sh i)
at_most_one_more p m pc sh i = ways_have p m pc sh (ways_of p i)
