-- Past the last place nothing has to be found.
use Rattle.std.proofs.Common.{◌≡◌, ℕ, ◌<◌, List, replicate, Option, Some, None, refl, sym, ◌∙◌, arith}
use Rattle.std.proofs.lemmas.List.{length-replicate}
use Rattle.std.proofs.lemmas.Option.{slice_get_within}
use Rattle.aom_image.specs.Image.{Image}
use Rattle.aom_image.specs.Views.{instr_at, transfer_at}
use Rattle.aom_instructions.specs.declared.instr.Instr.{Instr}
use Rattle.aom_instructions.specs.declared.transfer.Transfer.{Transfer}
use Rattle.aom_budget.proofs.LinkConditionsLemmas.{of_method}
use Rattle.aom_budget.proofs.ImageLemmas.{transfer_there}
use Rattle.aom_static_bounds.specs.Shapes.{Shapes}
use Rattle.aom_static_bounds.specs.Strongest.{IsMethodStrongest}
use Rattle.aom_verify.specs.Sweep.{HasPlaces}
use Rattle.aom_budget.specs.Pricing.{IsPassing}
use Rattle.aom_budget.specs.declared.pass.Round as rounds

module _ (p : Image) (m n : ℕ) (places : HasPlaces p m n) where
  instr_within : (x : ℕ) (i : Instr) → instr_at p m x ≡ Some i → x < n
  instr_within x i stands =
      let w = of_method p m x i stands in
      let same : places.method ≡ w.0 = let e = w.1 in let f = places.is in cc in
      let within = slice_get_within w.0.code x i w.2 in
      rw (places.size, same) within

  transfer_within : (x : ℕ) (t : Transfer) → transfer_at p m x ≡ Some t → x < n
  transfer_within x t goes = let w = transfer_there (instr_at p m x) t goes in instr_within x w.0 w.1

  pub passing_first : (prices : List ℕ) (s : Shapes) → IsMethodStrongest p m s → IsPassing p prices m s n (replicate n 0) (replicate n 0) None (replicate n None)
  passing_first prices s strongest = record {
    passed = record {
      around = λ f to d k r past b inner. absurd (omega (arith, past, transfer_within to _ b.ends));
      covers = λ x sh r past there inner. absurd (omega (arith, past, instr_within x _ (strongest.typed.each x sh there).stands));
      swept = λ t c a agrees. record {
        plain = λ x sh i r past stands no_loop no_next inner. absurd (omega (arith, past, instr_within x _ stands.instr));
        loops = λ x d k sh past stands. absurd (omega (arith, past, transfer_within x _ stands.goes));
        next_places = λ x d f sh past stands. absurd (omega (arith, past, transfer_within x _ stands.goes));
        rounds = λ f to d k past b some. absurd (omega (arith, past, transfer_within f _ b.begins));
        loop_exits = λ f to d k r past b inner. absurd (omega (arith, past, transfer_within to _ b.ends));
      };
    };
    within = record {
      here = record { body = tt; inside = tt; others = λ f e d k b inside. absurd (omega (arith, inside.1, transfer_within e _ b.ends)) };
      loops = λ f to d k before past b. absurd (omega (arith, past, transfer_within to _ b.ends));
    };
    places = rw (length-replicate {A = ℕ} n 0) places;
    after_size = refl;
    around_size = length-replicate {A = Option rounds.Round} n None ∙ sym (length-replicate {A = ℕ} n 0);
  }
