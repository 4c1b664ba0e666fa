-- Each instruction may have its effect, and the registers that the effect names are among those of a method.
use Rattle.std.proofs.lemmas.Bool.Decides.{nat_tests}
use Rattle.std.proofs.Common.{Bool, List, Option, Some, [], ap, cond, inl, length, refl, sym, true, ℕ, ℤ, negsuc, arith, ◌∙◌, ◌∷◌, ◌≡◌, ◌≤◌}
use Rattle.std.proofs.lemmas.Bool.{leb-true}
use Rattle.std.specs.Prelude.{is_some}
use Rattle.aom_image.specs.Image.{Image}
use Rattle.aom_instructions.specs.Operands.{IsRegister}
use Rattle.aom_image.specs.Views.{arguments_of}
use Rattle.aom_instructions.specs.Fits.{InstrFits}
use Rattle.aom_instructions.specs.Table.{action_of, transfer_of}
use Rattle.aom_instructions.specs.declared.action.Action.{Action}
use Rattle.aom_instructions.specs.declared.action.Action.TheVariants.{Call, Push, PushOperation}
use Rattle.aom_instructions.specs.declared.action.CallMode.TheVariants.{Plain, Trapped}
use Rattle.aom_instructions.specs.declared.instr.Instr.{Instr}
use Rattle.aom_instructions.specs.declared.instr.Instr.TheVariants.{Xor}
use Rattle.aom_instructions.specs.declared.instr.Target.{Target}
use Rattle.aom_instructions.specs.declared.limits.Limits.{Limits}
use Rattle.aom_instructions.specs.declared.transfer.Transfer.TheVariants.{Begin}
use Rattle.aom_roles.specs.Tests.{AllTrue}
use Rattle.aom_link_conditions.specs.Jumps.{jump_of}
use Rattle.aom_link_conditions.specs.Loops.{loop_in}
use Rattle.aom_safety.proofs.Finishing.{all_parts}
use Rattle.aom_semantics.specs.Calls.{below_top, needs_entering, result_register}
use Rattle.aom_semantics.specs.Cleanup.{has_trap, leave_needs, no_memory, top_matches_operation}
use Rattle.aom_semantics.specs.Effects.{Calls, Cancels, Carried, Counts, Destroys, Destroys_last, Effect, Goes_on, In_register}
use Rattle.aom_semantics.specs.Effects.{Leaves, Handed, Made, Operates, Popped, Pushed, Pushed_operation, Same, Sets_trap, Spot, Update}
use Rattle.aom_semantics.specs.Effects.{effect, updates}
use Rattle.aom_safety.specs.Leaves.{LeavesWith}
use Rattle.aom_semantics.specs.Moves.{needs}
use Rattle.aom_semantics.specs.Places.{Cell}
use Rattle.aom_semantics.specs.State.{An_operation, Choice, Frame, Item, Need, Run, State, Task}
use Rattle.aom_safety.specs.Steps.{Fits, IsStraight}
use Rattle.aom_semantics.specs.Words.{read, word_or_zero}

-- the word that a register has
read_word : (o : Option ℤ) → is_some o ≡ true → o ≡ Some (word_or_zero o)
read_word x e = grind arith

-- the last item, by what is asked of it
operation_on_top : (items : List Item) → top_matches_operation items ≡ true → (m : ℕ) × (w : ℤ) × (items ≡ An_operation m w ∷ below_top items)
operation_on_top (An_operation m w ∷ items) e = (m, w, refl)
operation_on_top _ e = cc

module _ (p : Image) where
  -- what is carried to a register, or made in one, comes to one that a method has
  abbrev pub SpotFits : Spot → Type 0
  SpotFits (In_register a) = IsRegister a
  SpotFits _ = Unit {0}

  abbrev pub UpdateFits : Update → Type 0
  UpdateFits (Carried from to) = SpotFits to
  UpdateFits (Made name class a) = IsRegister a
  UpdateFits (Popped a) = IsRegister a
  UpdateFits (Handed name a) = IsRegister a
  UpdateFits _ = Unit {0}

  -- and so do the arguments of a method that is called
  abbrev pub EffectFits : Effect → Type 0
  EffectFits (Goes_on ch) = UpdateFits ch.update
  EffectFits (Leaves code u) = UpdateFits u
  EffectFits (Calls target m first) = length (arguments_of p m) ≤ 16
  EffectFits (Sets_trap target m first) = length (arguments_of p m) ≤ 16
  EffectFits _ = Unit {0}

module _ (p : Image) (c : Choice) (fr : Frame) (ts : List Task) (s : State) where
  abbrev May : Instr → Effect → Type 0
  May i e = Fits p c fr ts s i e × ((l : Limits) → InstrFits l i → EffectFits p e)

  either : (i : Instr) (b : Bool) (code : ℤ) (off : Update) (on : Effect) → (b ≡ true → May i (Leaves code off)) → May i on → May i (cond b (Leaves code off) on)
  either i x code off on y z = grind arith

  -- where it leaves, it may
  may_leave : (b : Bool) (cs : List Cell) → AllTrue (cond b (leave_needs cs (Run fr ∷ ts)) []) → b ≡ true → has_trap ts ≡ true
  may_leave x cs n e = grind arith

  -- the arguments lie within the registers of the caller, and so of the method called
  few_arguments : (target : Target) (m first : ℕ) (more : List Need) → AllTrue (needs_entering p fr ts s target m first more) → length (arguments_of p m) ≤ 16
  few_arguments target m first more n = grind (arith, nat_tests, all_parts, leb-true)

  -- where a loop begins, it may
  may_begin : (i : Instr) (depth rounds : ℕ) → transfer_of i ≡ Begin depth rounds → May i (Counts depth rounds)
  may_begin i depth rounds e = (inl e, λ l f. tt)

  -- a method is called, plainly or under a trap
  may_call : (i : Instr) (target : Target) (m first : ℕ) → action_of i ≡ Call Plain target m first (result_register (Some i)) → length (arguments_of p m) ≤ 16 →
      May i (Calls target m first)
  may_call i target m first e few = ((result_register (Some i), e), λ l f. few)

  may_trap : (i : Instr) (target : Target) (m first : ℕ) → action_of i ≡ Call Trapped target m first (result_register (Some i)) → length (arguments_of p m) ≤ 16 →
      May i (Sets_trap target m first)
  may_trap i target m first e few = ((result_register (Some i), e), λ l f. few)

  -- an operation is pushed over a trap, also where that leaves
  pushes_operation : (i : Instr) (a m : ℕ) → action_of i ≡ PushOperation a m → IsStraight i → has_trap ts ≡ true →
      May i (updates fr (Pushed_operation m (read fr ts s a)))
  pushes_operation i a m e straight trap = ((straight, (a, e, trap)), λ l f. tt)

  leaves_pushed : (i : Instr) (a m : ℕ) (code : ℤ) → action_of i ≡ PushOperation a m → LeavesWith c fr i code → has_trap ts ≡ true →
      May i (Leaves code (Pushed_operation m (read fr ts s a)))
  leaves_pushed i a m code e leaves trap = ((trap, leaves, (a, e, trap)), λ l f. tt)

  pub fits : (i : Instr) → AllTrue (needs p c fr ts s i) → May i (effect p c fr ts s i)
  unfolding jump_of loop_in
  -- most go on, jump or leave, whatever a test of theirs decides
  fits (Xor a b x) n = ((refl, tt), λ l f. tt)
  -- the others too, each a case of its own
  fits _ n = first_of (
    grind arith,
    search may_begin,
    grind (arith, nat_tests, either, may_leave, read_word),
    search (arith, either, pushes_operation, leaves_pushed),
    search (arith, may_call, may_trap, few_arguments),
    grind (arith, nat_tests, operation_on_top),
  )

  -- what a leave of an instruction pushes before it
  abbrev pub off_by : Action → Update
  off_by (Push a) = Pushed a
  off_by (PushOperation a m) = Pushed_operation m (read fr ts s a)
  off_by _ = Same

  abbrev pub off_of : Instr → Update
  off_of i = off_by (action_of i)

  taken : (b : Bool) (off on : Effect) → b ≡ true → cond b off on ≡ off
  taken x off on e = grind arith

  refused : (code : ℤ) (off : Update) (on : Effect) → (c.refused ≡ true) × (code ≡ negsuc 3) → cond c.refused (Leaves no_memory off) on ≡ Leaves code off
  refused code off on h = taken c.refused (Leaves no_memory off) on h.0 ∙ ap (λ k. Leaves k off) (sym h.1)

  -- an instruction that leaves with a code has that effect
  pub leaves_so : (i : Instr) (code : ℤ) → LeavesWith c fr i code → effect p c fr ts s i ≡ Leaves code (off_of i)
  leaves_so x code h = grind arith

  -- no loop begins at an instruction that calls or leaves, or lets an object or an operation go
  abbrev pub StraightBy : Instr → Effect → Type 0
  StraightBy i (Calls target m first) = IsStraight i
  StraightBy i (Cancels m) = IsStraight i
  StraightBy i (Sets_trap target m first) = IsStraight i
  StraightBy i (Leaves code u) = IsStraight i
  StraightBy i (Destroys o a words) = IsStraight i
  StraightBy i (Destroys_last o) = IsStraight i
  StraightBy i (Operates m w) = IsStraight i
  StraightBy i _ = Unit {0}

  leaver_straight : (i : Instr) (code : ℤ) → LeavesWith c fr i code → IsStraight i
  unfolding loop_in
  leaver_straight x code h = grind arith

  pub straight_by : (i : Instr) (e : Effect) → Fits p c fr ts s i e → StraightBy i e
  unfolding loop_in
  straight_by i x f = grind (arith, nat_tests, leaver_straight i)
