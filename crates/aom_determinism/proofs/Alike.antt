-- A move of each of two states that are the same but for names, where the new cells' names are changed with one another, and a turn of each.
use Rattle.std.proofs.lemmas.Bool.Decides.{nat_tests}
use Rattle.std.proofs.Common.{arith, List, None, ap, refl, subst, sym, ℕ, ◌∙◌, ◌≡◌, Bool, true, false, ℤ}
use Rattle.aom_image.specs.Image.{Image}
use Rattle.aom_typing_rules.specs.Typing.{Typing}
use Rattle.aom_safety.specs.Kept.{StateInvariant}
use Rattle.aom_semantics.specs.Moves.{IsOpen, step, written}
use Rattle.aom_semantics.specs.Places.{named, count_cells}
use Rattle.aom_semantics.specs.State.{Choice, Outcome, State}
use Rattle.aom_safety.specs.WellTyped.{WellTyped}
use Rattle.aom_semantics.specs.World.{Observed, nothing_observed, Environment, turn, turning, written_turn}
use Rattle.aom_determinism.proofs.NamedCells.{cells_counted}
use Rattle.aom_determinism.proofs.Fresh.{renamed_twice, swap_first, swap_one_to_one, swapped, swapped_free}
use Rattle.aom_determinism.proofs.Steps.{free_so, moves_so, refused_so, writes_so}
use Rattle.aom_determinism.proofs.Polling.{turn_unpolled}
use Rattle.aom_determinism.proofs.Turning.{polling_kept, turns_so, writes_turn_so}
use Rattle.aom_determinism.specs.Determined.{MovesStayAlike, TurnsStayAlike}
use Rattle.aom_determinism.specs.There.{AllThere}
use Rattle.aom_determinism.specs.Names.{AlikeOutcomes, AreAlike, IsOneToOne, renamed, renamed_choice, renamed_outcome}
use Rattle.aom_determinism.specs.Observing.{is_observed, is_polling}
use Rattle.aom_determinism.proofs.Observing.{step_unobserved, observed_kept}

alike_renamed : (names : ℕ → ℕ) → IsOneToOne names → (o : Outcome) → AlikeOutcomes o (renamed_outcome names o)
alike_renamed names one_to_one x = grind arith

-- two free names, of which one becomes the other as the two states' free names change places
module _ (p : Image) (t : Typing) (s u : State) (well : WellTyped p t u)
    (kept : StateInvariant p u) (there : AllThere u) (alike : AreAlike s u) (a b : ℕ) (free_a : named s.cells a ≡ None) (free_b : named u.cells b ≡ None) where
  exchanged : ℕ → ℕ
  exchanged n = swapped (alike.names a) b (alike.names n)

  exchanged_one : IsOneToOne exchanged
  unfolding exchanged
  exchanged_one n m e = alike.one_to_one n m (swap_one_to_one (alike.names a) b (alike.names n) (alike.names m) e)

  exchanged_first : exchanged a ≡ b
  unfolding exchanged
  exchanged_first = swap_first (alike.names a) b

  free : named u.cells (alike.names a) ≡ None
  free = subst (λ x. named x.cells (alike.names a) ≡ None) (sym alike.same) (free_so alike.names alike.one_to_one s a free_a)

  exchanged_state : renamed exchanged s ≡ u
  unfolding exchanged
  exchanged_state = renamed_twice (swapped (alike.names a) b) alike.names s
      ∙ ap (renamed (swapped (alike.names a) b)) (sym alike.same) ∙ swapped_free p t u (alike.names a) b well kept.fit there free free_b

module _ (p : Image) (t : Typing) (refused : List ℕ) (c d : Choice) (s u : State) (well : WellTyped p t u) (kept : StateInvariant p u) (there : AllThere u)
    (alike : AreAlike s u) (open_c : IsOpen p refused c s) (open_d : IsOpen p refused d u) (answers : is_observed p s.tasks ≡ true → c.answer ≡ d.answer) where
  -- the name of one new cell becomes that of the other
  abbrev names : ℕ → ℕ
  names = exchanged p t s u well kept there alike c.name d.name open_c.name open_d.name

  same_refusal : c.refused ≡ d.refused
  same_refusal = grind (arith, nat_tests, refused_so alike.names alike.one_to_one p refused s)

  -- it hears what the first hears
  observing : ℤ → Choice
  observing answer = record d { answer = answer }

  same_choice : renamed_choice names c ≡ observing c.answer
  unfolding observing
  same_choice = rw (exchanged_first p t s u well kept there alike c.name d.name open_c.name open_d.name, same_refusal)

  same_observing : step p (observing c.answer) u ≡ step p d u
  unfolding observing
  same_observing = go (is_observed p s.tasks) refl
    where
      go : (b : Bool) → is_observed p s.tasks ≡ b → step p (record d { answer = c.answer }) u ≡ step p d u
      go true e = ap (λ a. step p (record d { answer = a }) u) (answers e)
      go false e = step_unobserved p d c.answer u (ap (λ x. is_observed p x.tasks) alike.same ∙ observed_kept p alike.names s.tasks ∙ e)

  same_step : renamed_outcome names (step p c s) ≡ step p d u
  same_step = grind (arith, nat_tests, moves_so, exchanged_one, same_choice, observing, exchanged_state, same_observing)

  pub move_alike : AlikeOutcomes (step p c s) (step p d u)
  move_alike = grind (arith, nat_tests, same_step, alike_renamed, exchanged_one)

pub writes_alike : (p : Image) (s u : State) → AreAlike s u → written p s ≡ written p u
writes_alike p s u alike = sym (writes_so alike.names alike.one_to_one p s) ∙ ap (written p) (sym alike.same)

pub moves_stay_alike : MovesStayAlike
moves_stay_alike p t refused c d s u well kept there alike open_c open_d answers =
    (move_alike p t refused c d s u well kept there alike open_c open_d answers, writes_alike p s u alike)

-- a turn hears what the other hears, and the name of what one makes becomes that of the other
module _ (p : Image) (t : Typing) (outside : Environment) (observed other : Observed)
    (s u : State) (well : WellTyped p t u) (kept : StateInvariant p u) (there : AllThere u) (alike : AreAlike s u) (free_observed : named s.cells observed.name ≡ None)
    (free_other : named u.cells other.name ≡ None) (answers : is_polling (turning outside nothing_observed s) ≡ true → observed.completion ≡ other.completion) where
  abbrev turn_names : ℕ → ℕ
  turn_names = exchanged p t s u well kept there alike observed.name other.name free_observed free_other

  same_turn : turn p outside (record other { completion = observed.completion }) u ≡ turn p outside other u
  same_turn = grind (arith, nat_tests, polling_kept, turn_unpolled other p outside u)

  same_turned : renamed_outcome turn_names (turn p outside observed s) ≡ turn p outside other u
  same_turned = grind (arith, nat_tests, turns_so, exchanged_one, exchanged_first, exchanged_state, same_turn)

  pub turn_alike : AlikeOutcomes (turn p outside observed s) (turn p outside other u)
  turn_alike = grind (arith, nat_tests, same_turned, alike_renamed, exchanged_one)

pub turn_writes_alike : (p : Image) (outside : Environment) (s u : State) → AreAlike s u → written_turn p outside s ≡ written_turn p outside u
turn_writes_alike p outside s u alike = sym (writes_turn_so alike.names alike.one_to_one p outside s) ∙ ap (written_turn p outside) (sym alike.same)

pub turns_stay_alike : TurnsStayAlike
turns_stay_alike p t outside observed other s u well kept there alike free_observed free_other answers =
    (turn_alike p t outside observed other s u well kept there alike free_observed free_other answers, turn_writes_alike p outside s u alike)

-- they have as many cells
pub alike_counted : (s u : State) → AreAlike s u → count_cells s.cells ≡ count_cells u.cells
alike_counted s u alike = sym (cells_counted alike.names s.cells) ∙ ap (λ x. count_cells x.cells) (sym alike.same)
