-- The table of jump targets, by the instructions that were gone over.
use Rattle.std.proofs.Common.{◌≡◌, ◌∙◌, sym, ap, ℕ, ◌+◌, ◌<◌, ◌||◌, Bool, false, None, refl, List, [], ◌∷◌, ◌++◌, length, take, replicate, slice_index_or}
use Rattle.std.proofs.Math.Bool.{or-false}
use Rattle.std.proofs.lemmas.List.{get_or-replicate, take_more}
use Rattle.std.proofs.lemmas.List.Folds.{list_any-append}
use Rattle.aom_instructions.specs.declared.instr.Instr.{Instr}
use Rattle.aom_instructions.specs.declared.operand.Large.{Large}
use Rattle.aom_instructions.specs.declared.operand.Large.TheVariants as large
use Rattle.aom_syntax.specs.Classes.{is_at}
use Rattle.aom_instructions.specs.Operands.{place_said}
use Rattle.aom_disassembler.specs.Jumps.{jump_of, is_target, Reports}

-- an operand that is no place
pub none_said : (operand : Large) → ((x : ℕ) → operand ≡ large.Place x → ⊥) → None ≡ place_said operand
none_said (large.Place x) other = absurd (other x refl)
none_said _ other = refl

-- no place is marked at first
pub none_reported : Reports (replicate 1024 false) []
none_reported place within = get_or-replicate 1024 place false false within

-- the targets of code and of one more instruction
target_more : (code : List Instr) (i : Instr) (place : ℕ) → is_target (code ++ i ∷ []) place ≡ (is_target code place || is_at place (jump_of i))
target_more code i place =
    list_any-append (λ j. is_at place (jump_of j)) code (i ∷ []) ∙ ap (λ b. is_target code place || b) (or-false (is_at place (jump_of i)))

pub reported_more : (old new : List Bool) (code : List Instr) (index : ℕ) (i : Instr) → index < length code → i ≡ slice_index_or code index i
    → ((place : ℕ) → place < 1024 → slice_index_or new place false ≡ (slice_index_or old place false || is_at place (jump_of i)))
    → Reports old (take index code) → Reports new (take (index + 1) code)
reported_more old new code index i within is marks reported place small =
    let more : take (index + 1) code ≡ take index code ++ i ∷ [] = take_more code index i within ∙ ap (λ j. take index code ++ j ∷ []) (sym is) in
    marks place small ∙ ap (λ b. b || is_at place (jump_of i)) (reported place small) ∙ sym (target_more (take index code) i place)
    ∙ ap (λ t. is_target t place) (sym more)
