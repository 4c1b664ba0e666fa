-- The laws of the instructions on words.
use Rattle.std.proofs.lemmas.Bool.Decides.{nat_tests}
use Rattle.std.proofs.Common.{Bool, List, Option, Some, ap, refl, true, ℕ, ℤ, ◌≡◌, arith, None}
use Rattle.std.specs.Prelude.{is_none, is_some, length, int_lt}
use Rattle.aom_image.specs.Image.{Image}
use Rattle.aom_instructions.specs.declared.instr.Instr.TheVariants.{Const, Copy, Load, Print, Store, Add, And, JumpEqual, JumpLess, Mul, Or, Sub, Xor}
use Rattle.aom_abstract_state.specs.Kinds.{is_unowning, is_word, register, set_register}
use Rattle.aom_abstract_state.specs.AbstractState.{AbstractState}
use Rattle.aom_typing_rules.specs.Typing.{AllLead, Typing}
use Rattle.aom_typing_rules.specs.Words.{flow_compare, flow_word, rule_combine, rule_compare}
use Rattle.aom_abstract_state.specs.declared.kind.Kind.{Kind}
use Rattle.aom_abstract_state.specs.declared.kind.Kind.TheVariants.{Word}
use Rattle.aom_safety.proofs.Jumps.{goes_either}
use Rattle.aom_safety.proofs.Storing.{stored_fitted}
use Rattle.aom_safety.proofs.Straight.{At, Law, fitted, free_register, settle, stepped, well, write}
use Rattle.aom_safety.specs.Claims.{Layer, tasks_of}
use Rattle.aom_semantics.specs.Moves.{does}
use Rattle.aom_semantics.specs.Places.{Register, held}
use Rattle.aom_semantics.specs.State.{Choice, Frame, State, next, set_word, word}
use Rattle.aom_safety.specs.WellTyped.{WellTyped, WordFits}
use Rattle.aom_semantics.specs.Effects.{applied, computes, jumps_if, writes}
use Rattle.aom_semantics.specs.Words.{loaded, needs_binary, needs_compare, read, stored}
use Rattle.aom_instructions.specs.declared.instr.Instr.{Instr}
use Rattle.std.specs.Int.{int_bit_and, int_bit_or, int_bit_xor, int_wrapping_add, int_wrapping_mul, int_wrapping_sub, w32}
use Rattle.std.specs.Ordering.{int_eq}
use Rattle.aom_roles.specs.Tests.{AllTrue}

pub is_read : (w : Option ℤ) (k : Kind) → is_word k ≡ true → WordFits w k → is_some w ≡ true
is_read x y e f = grind arith

module _ (p : Image) (t : Typing) (c : Choice) (s : State) (fr : Frame) (sh : AbstractState) (ls : List Layer) (has_task : At p t s fr sh ls) where
  -- a register that is claimed to be a word has one
  pub has_word : (a : ℕ) → is_word (register sh a) ≡ true → is_some (word fr a) ≡ true
  has_word a e = is_read (word fr a) (register sh a) e (has_task.good.stack.1.words a)

  pub unowned : (a : ℕ) → is_unowning (register sh a) ≡ true → is_none (held s.cells (Register (length (tasks_of ls)) a)) ≡ true
  unowned a e = ap is_none (free_register p t c s fr sh ls has_task a e)

  -- a word is written
  pub writes_word : (a : ℕ) (w : ℤ) → is_unowning (register sh a) ≡ true → AllLead t fr.method (flow_word fr.place sh a) →
      WellTyped p t (applied p fr (tasks_of ls) s (writes fr a w))
  writes_word a w u leads =
      let fr' = set_word fr a (Some w) in
      let sh' = set_register sh a Word in
      let h = write p t s.cells fr sh ls a (Some w) Word (fitted p t s.cells fr sh ls has_task.good) u (λ h. tt) tt in
      well p t c s fr sh ls has_task (applied p fr (tasks_of ls) s (writes fr a w))
      (next fr') sh' refl has_task.items has_task.undo_operations (settle p t s.cells (next fr') sh' ls (stepped p t s.cells fr' sh' ls h) leads.0)

  pub law_const : (a : ℕ) (w : ℤ) → Law p t c s fr sh ls has_task (Const a w)
  law_const a w n leads = ((unowned a n.0, tt), writes_word a w n.0 leads)

  pub law_copy : (a b : ℕ) → Law p t c s fr sh ls has_task (Copy a b)
  law_copy a b n leads = ((has_word b n.0, (unowned a n.1.0, tt)), writes_word a (read fr (tasks_of ls) s b) n.1.0 leads)

  pub law_binary : (op : ℤ → ℤ → ℤ) (a b x : ℕ) → AllTrue (rule_combine fr.place sh a b x) → AllLead t fr.method (flow_word fr.place sh a) →
      AllTrue (needs_binary fr (tasks_of ls) s a b x) × WellTyped p t (applied p fr (tasks_of ls) s (computes p c fr (tasks_of ls) s op a b x))
  law_binary op a b x n leads = search (arith, nat_tests, has_word b n.0, has_word x n.1.0, unowned a n.1.1.0, writes_word a)

  pub law_compare : (test : ℤ → ℤ → Bool) (a b to : ℕ) →
      AllTrue (rule_compare fr.place sh a b) → AllLead t fr.method (flow_compare fr.place sh to) → AllTrue (needs_compare fr (tasks_of ls) s a b) ×
      WellTyped p t (applied p fr (tasks_of ls) s (jumps_if fr (test (read fr (tasks_of ls) s a) (read fr (tasks_of ls) s b)) to))
  law_compare test a b to n leads = search (arith, nat_tests, has_word a n.0, has_word b n.1.0, goes_either p t c s fr sh ls has_task to leads)

  pub law_print : (a : ℕ) → Law p t c s fr sh ls has_task (Print a)
  law_print a n leads =
      ((has_word a n.0, tt), well p t c s fr sh ls has_task _ (next fr) sh refl has_task.items has_task.undo_operations (grind (arith, nat_tests, settle, stepped, fitted)))

  pub law_load : (a w : ℕ) → Law p t c s fr sh ls has_task (Load a w)
  law_load a w n leads = ((unowned a n.0, (n.1.0, tt)), writes_word a (loaded s.cells fr.receiver w) n.0 leads)

  pub law_store : (w b : ℕ) → Law p t c s fr sh ls has_task (Store w b)
  law_store w b n leads =
      let v = read fr (tasks_of ls) s b in
      let cs = stored s.cells fr.receiver w v in
      let h = stepped p t cs fr sh ls (stored_fitted p t s.cells fr.receiver w v fr sh ls (fitted p t s.cells fr sh ls has_task.good)) in
      ((has_word b n.0, (n.1.0, tt)), well p t c s fr sh ls has_task (does p c fr (tasks_of ls) s (Store w b)) (next fr) sh refl has_task.items has_task.undo_operations (settle p t cs (next fr) sh ls h leads.0))

  -- each instruction of this file by its law
  abbrev pub of_words : (i : Instr) → Option (Law p t c s fr sh ls has_task i)
  of_words (Const a w) = Some (law_const a w)
  of_words (Copy a b) = Some (law_copy a b)
  of_words (Add a b x) = Some (law_binary (int_wrapping_add w32) a b x)
  of_words (Sub a b x) = Some (law_binary (int_wrapping_sub w32) a b x)
  of_words (Mul a b x) = Some (law_binary (int_wrapping_mul w32) a b x)
  of_words (And a b x) = Some (law_binary (int_bit_and w32) a b x)
  of_words (Or a b x) = Some (law_binary (int_bit_or w32) a b x)
  of_words (Xor a b x) = Some (law_binary (int_bit_xor w32) a b x)
  of_words (JumpEqual a b to) = Some (law_compare int_eq a b to)
  of_words (JumpLess a b to) = Some (law_compare int_lt a b to)
  of_words (Load a w) = Some (law_load a w)
  of_words (Store w b) = Some (law_store w b)
  of_words (Print a) = Some (law_print a)
  of_words _ = None
