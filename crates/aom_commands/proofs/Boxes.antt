-- Boxes that are made one after the other, each for its kind, stand as new natives, and owe nothing; and so do those of a machine that has booted with them.
use Rattle.std.proofs.lemmas.Bool.Decides.{nat_tests}
use Rattle.std.proofs.Common.{arith, ◌≡◌, ◌<◌, ◌+◌, ℕ, suc, List, [], ◌∷◌, ◌++◌, Option, Some, None, length, map, option_map, take, get_or, refl, ap}
use Rattle.std.proofs.Common.{subst, ◌∙◌}
use Rattle.std.proofs.lemmas.List.{take_more}
use Rattle.aom_natives.specs.Owed.{OweNothing}
use Rattle.aom_natives.specs.declared.kind.NativeKind.{NativeKind}
use Rattle.aom_natives.specs.declared.kind.NativeKind.TheVariants.{Counter}
use Rattle.aom_commands.specs.Beside.{AllNew, AreNew, NativeModel, StandsAs, new_of}

-- what is the same stands so
pub stands_same : (it that : NativeModel) → it ≡ that → StandsAs it that
stands_same it that same = search (arith, nat_tests)

new_owes : (it : NativeModel) (kind : NativeKind) → StandsAs it (new_of kind) → it.owed ≡ []
new_owes it x stands = grind arith

module _ {B : Type 0} (stance : B → NativeModel) where
  pub owe_nothing : (kinds : List NativeKind) (boxes : List B) → AreNew stance kinds boxes → OweNothing (λ b. (stance b).owed) boxes
  owe_nothing [] [] new = tt
  owe_nothing (k ∷ ks) (b ∷ bs) new = (new_owes (stance b) k new.0, owe_nothing ks bs new.1)
  owe_nothing [] (b ∷ bs) new = absurd new
  owe_nothing (k ∷ ks) [] new = absurd new

  pub as_many : (kinds : List NativeKind) (boxes : List B) → AreNew stance kinds boxes → length boxes ≡ length kinds
  as_many [] [] new = refl
  as_many (k ∷ ks) (b ∷ bs) new = ap suc (as_many ks bs new.1)
  as_many [] (b ∷ bs) new = absurd new
  as_many (k ∷ ks) [] new = absurd new

  one_behind : (kinds : List NativeKind) (boxes : List B) (k : NativeKind) (b : B) → AreNew stance kinds boxes → StandsAs (stance b) (new_of k) →
      AreNew stance (kinds ++ k ∷ []) (boxes ++ b ∷ [])
  one_behind [] [] k b new stands = (stands, tt)
  one_behind (x ∷ ks) (y ∷ bs) k b new stands = (new.0, one_behind ks bs k b new.1 stands)
  one_behind [] (y ∷ bs) k b new stands = absurd new
  one_behind (x ∷ ks) [] k b new stands = absurd new

  -- a box for each of the first kinds
  pub record Made (kinds : List NativeKind) (boxes : List B) (count : ℕ) : Type 0 where
    pub new : AreNew stance (take count kinds) boxes

  pub none_made : (kinds : List NativeKind) (boxes : List B) → boxes ≡ [] → Made kinds boxes 0
  none_made kinds boxes is = rw is (record { new = tt })

  pub one_more_made : (kinds : List NativeKind) (old new : List B) (b : B) (i : ℕ) (k : NativeKind) →
      Made kinds old i → new ≡ old ++ b ∷ [] → i < length kinds → get_or kinds i Counter ≡ k → StandsAs (stance b) (new_of k) → Made kinds new (i + 1)
  one_more_made kinds old new b i k made is within at stands =
      let more : take (i + 1) kinds ≡ take i kinds ++ k ∷ [] = take_more kinds i Counter within ∙ ap (λ x. take i kinds ++ x ∷ []) at in
      record { new = grind (arith, nat_tests, new, one_behind) }

  pub all_made : (kinds : List NativeKind) (boxes : List B) (i : ℕ) → take i kinds ≡ kinds → Made kinds boxes i → AreNew stance kinds boxes
  all_made kinds boxes i all made = subst (λ ks. AreNew stance ks boxes) all made.new

  -- a machine has them in its slots
  module _ {L : Type 0} (native : L → B) where
    pub all_new : (kinds : List NativeKind) (slots : List (Option L)) (boxes : List B) →
        map (option_map native) slots ≡ map (λ b. Some b) boxes → AreNew stance kinds boxes → AllNew (λ l. stance (native l)) kinds slots
    all_new [] [] [] same new = tt
    all_new (k ∷ ks) (Some l ∷ ls) (b ∷ bs) same new = grind (arith, nat_tests, all_new ks ls bs)
    all_new (k ∷ ks) (None ∷ ls) (b ∷ bs) same new = absurd cc
    all_new kinds [] (b ∷ bs) same new = absurd cc
    all_new kinds (l ∷ ls) [] same new = absurd cc
    all_new [] slots (b ∷ bs) same new = absurd new
    all_new (k ∷ ks) slots [] same new = absurd new
