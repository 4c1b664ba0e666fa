-- What clients are told they are told under other names too: no line has a name.
use Rattle.std.proofs.lemmas.Bool.Decides.{nat_tests}
use Rattle.std.proofs.Common.{arith, List, None, Option, Some, [], ap, refl, ℕ, ℤ, ◌∷◌, ◌≡◌}
use Rattle.std.specs.Prelude.{flat_map, option_map}
use Rattle.aom_image.specs.declared.method.Thing.{Thing}
use Rattle.aom_image.specs.declared.method.Thing.TheVariants.{Message as A_message, Object as An_object_of}
use Rattle.aom_semantics.specs.Lines.{dispatch_lines, ended_line, message_line, queue_lines, serve_line, stage_lines}
use Rattle.aom_semantics.specs.Places.{Asked, Cell, Elsewhere, In_service, Object}
use Rattle.aom_semantics.specs.State.{Dispatch, Stage}
use Rattle.aom_determinism.proofs.NamedCells.{held_renamed}
use Rattle.aom_determinism.proofs.Serving.{service_renamed}
use Rattle.aom_determinism.specs.Names.{IsOneToOne, renamed_asked, renamed_cells, renamed_dispatch, renamed_object, renamed_queue, renamed_stage}

-- ---- the first of a queue is served

module _ (names : ℕ → ℕ) where
  pub serve_kept : (time : ℕ) (x : Thing) (es : List Asked) → serve_line time x (renamed_queue names es) ≡ serve_line time x es
  serve_kept time (An_object_of class) (e ∷ es) = ap (λ l. l ∷ []) (grind arith)
  serve_kept time (An_object_of class) [] = refl
  serve_kept time A_message es = refl

-- ---- what is completed

module _ (names : ℕ → ℕ) (one_to_one : IsOneToOne names) (cs : List Cell) where
  pub message_line_kept : (o : Option Object) (code : ℤ) → message_line (renamed_cells names cs) (option_map (renamed_object names) o) code ≡ message_line cs o code
  message_line_kept x code = grind (arith, nat_tests, service_renamed names one_to_one cs)

  ended_kept : (e : Asked) → ended_line (renamed_cells names cs) (renamed_asked names e) ≡ ended_line cs e
  ended_kept x = grind (arith, nat_tests, service_renamed names one_to_one cs)

  queue_kept : (es : List Asked) → flat_map (ended_line (renamed_cells names cs)) (renamed_queue names es) ≡ flat_map (ended_line cs) es
  queue_kept [] = refl
  queue_kept (e ∷ es) = rw (ended_kept e, queue_kept es)

  pub queue_lines_kept : (o : Option Object) → queue_lines (renamed_cells names cs) (option_map (renamed_object names) o) ≡ queue_lines cs o
  queue_lines_kept None = refl
  queue_lines_kept (Some o) = grind (arith, nat_tests, service_renamed names one_to_one cs o.name, queue_kept)

  stage_lines_kept : (c : ℕ) (stage : Stage) → stage_lines (renamed_cells names cs) c (renamed_stage names stage) ≡ stage_lines cs c stage
  stage_lines_kept c x = grind (arith, nat_tests, held_renamed names one_to_one cs (Elsewhere In_service), message_line_kept)

  pub dispatch_lines_kept : (d : Dispatch) → dispatch_lines (renamed_cells names cs) (renamed_dispatch names d) ≡ dispatch_lines cs d
  dispatch_lines_kept x = grind (arith, nat_tests, stage_lines_kept)
