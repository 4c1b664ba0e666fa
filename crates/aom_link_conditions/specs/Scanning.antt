-- One step over a method's code, with the loops that are open.
use Rattle.std.specs.Prelude.{◌≡◌, ℕ, suc, List, [], ◌∷◌, ◌++◌, length}
use Rattle.aom_instructions.specs.declared.instr.Instr.{Instr}
use Rattle.aom_instructions.specs.Table.{transfer_of}
use Rattle.aom_instructions.specs.declared.transfer.Transfer.{Transfer}
use Rattle.aom_instructions.specs.declared.transfer.Transfer.TheVariants.{Begin, Repeat}

-- the innermost open loop is closed
pub record Leaves (d t : ℕ) (before after : List ℕ) : Type 0 where
  pub start : ℕ
  pub last : before ≡ after ++ start ∷ []
  pub back : t ≡ suc start
  pub number : d ≡ length after

pub record Enters (d place : ℕ) (before after : List ℕ) : Type 0 where
  pub number : d ≡ length before
  pub last : after ≡ before ++ place ∷ []

-- what a transfer at a place does to the places of the open loops, the outermost first
abbrev pub PassesBy : ℕ → Transfer → List ℕ → List ℕ → Type 0
PassesBy place (Begin d n) before after = Enters d place before after
PassesBy place (Repeat d t) before after = Leaves d t before after
PassesBy place _ before after = after ≡ before

abbrev pub Passes : ℕ → Instr → List ℕ → List ℕ → Type 0
Passes place i before after = PassesBy place (transfer_of i) before after
