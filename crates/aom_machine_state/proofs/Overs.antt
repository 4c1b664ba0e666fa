-- A method stands over the one that called it, or over a trap on that.
use Rattle.std.proofs.lemmas.Bool.Decides.{nat_tests}
use Rattle.std.proofs.Common.{◌≡◌, ℕ, ◌<◌, Bool, true, false, length, List, ◌∷◌, arith}
use Rattle.aom_cells.specs.Heap.{Heap}
use Rattle.aom_frames.specs.declared.item.Item.{Item}
use Rattle.aom_semantics.specs.Places.{Place}
use Rattle.aom_semantics.specs.State.{Task, Trapped}
use Rattle.aom_frames.specs.declared.task.Task.{Task as Machine_task}
use Rattle.aom_frames.specs.declared.task.Task.TheVariants.{Trapped as Is_trap}
use Rattle.aom_machine_state.specs.Places.{Others, register_in, going_in, value_in}
use Rattle.aom_machine_state.specs.Agrees.{word_in, word_at}
use Rattle.aom_machine_state.proofs.Values.{at_depth, going_past, register_past, word_past}

abbrev pub held_over : Bool → List Machine_task → List Machine_task
held_over true us = Is_trap ∷ us
held_over false us = us

abbrev pub tasks_over : Bool → List Task → List Task
tasks_over true us = Trapped ∷ us
tasks_over false us = us

pub higher : (b : Bool) (us : List Task) {n : ℕ} → n < length us → n < length (tasks_over b us)
higher x us small = grind arith

pub over_deep : (b : Bool) (us : List Machine_task) (vs : List Task) → length us ≡ length vs → length (held_over b us) ≡ length (tasks_over b vs)
over_deep x us vs e = grind arith

pub over_register : (b : Bool) (us : List Machine_task) (d i : ℕ) → register_in (held_over b us) d i ≡ register_in us d i
over_register x us d i = grind (arith, nat_tests, at_depth, register_past us d i)

pub over_going : (b : Bool) (us : List Machine_task) (d : ℕ) → going_in (held_over b us) d ≡ going_in us d
over_going x us d = grind (arith, nat_tests, at_depth, going_past us d)

pub over_word : (b : Bool) (us : List Task) (d i : ℕ) → word_in (tasks_over b us) d i ≡ word_in us d i
over_word x us d i = grind (arith, nat_tests, at_depth, word_past us d i)

pub over_value : (b : Bool) (us : List Machine_task) (h : Heap) (es : List Item) (others : Others) (r : Place) →
    value_in (held_over b us) h es others r ≡ value_in us h es others r
over_value b us h es others x = grind (arith, nat_tests, over_register b us, over_going b us)

pub over_words : (b : Bool) (us : List Task) (r : Place) → word_at (tasks_over b us) r ≡ word_at us r
over_words b us x = grind (arith, nat_tests, over_word b us)
