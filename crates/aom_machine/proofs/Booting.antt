-- A machine that has booted stands for the boot state.
use Rattle.std.proofs.lemmas.Bool.Decides.{nat_tests}
use Rattle.std.proofs.Common.{◌≡◌, ℕ, Bool, false, cond, [], ◌∷◌, Some, None, refl, sym, ap, ◌∙◌, subst, arith, length, replicate, slice_index_or}
use Rattle.aom_image.specs.Image.{Image}
use Rattle.aom_link_conditions.specs.Linked.{IsLinked}
use Rattle.aom_link_conditions.specs.Roles.{main_of}
use Rattle.aom_cells.specs.Heap.{Heap, null, cell_at, word_of, count}
use Rattle.aom_cells.specs.declared.cell.Cell.{Cell as Machine_cell}
use Rattle.aom_frames.specs.Items.{Stack as Machine_items}
use Rattle.aom_frames.specs.Tasks.{fresh}
use Rattle.aom_frames.specs.declared.task.Task.TheVariants.{Run as Runs_frame, Trapped as Is_trap, Dispatched as Ends}
use Rattle.aom_frames.specs.declared.dispatch.Dispatch.TheVariants.{Main}
use Rattle.aom_semantics.specs.State.{AtRoot, frame_of, Run, Trapped, Dispatched, Of_main, A_mark}
use Rattle.aom_typing_rules.specs.Typing.{Typing}
use Rattle.aom_static_bounds.specs.Strongest.{IsStrongest}
use Rattle.aom_static_bounds.specs.Depths.{HasDepths}
use Rattle.aom_static_bounds.specs.Heights.{HasHeights}
use Rattle.aom_budget.specs.Budgets.{CostsWithin}
use Rattle.aom_semantics.specs.Places.{Place, Elsewhere, Root}
use Rattle.aom_safety.specs.Laws.{BootKeeps, StepKeeps, LinkedIsWired}
use Rattle.aom_machine.proofs.SafetyLemmas.{boot as boots_at_traps, clients_keep}
use Rattle.aom_safety.specs.Quiet.{QuietPreserved}
use Rattle.aom_semantics.specs.World.{main_tasks, boot_state}
use Rattle.aom_static_bounds.specs.Dispatches.{IsAffordable}
use Rattle.aom_static_bounds.specs.Prices.{Prices}
use Rattle.aom_termination.specs.Laws.{BootWithin, MovesPay}
use Rattle.aom_machine.proofs.SemanticsLemmas.{cond_same}
use Rattle.aom_machine_state.specs.declared.parts.Parts.{Parts}
use Rattle.aom_machine_state.specs.Boot.{Booted}
use Rattle.aom_machine.proofs.MachineStateLemmas.{all_same, first_client, first_queue, mark_shows_none, services_begin}
use Rattle.aom_machine_state.specs.Places.{value}
use Rattle.aom_machine_state.specs.Agrees.{SameTasks, SameItems, word_at, thing_in, Agrees}
use Rattle.aom_machine.proofs.Affording.{affords}
use Rattle.aom_machine.proofs.MachineInstructionsLemmas.{begun_frame, begun_registers, boot_room, shows_null}
use Rattle.aom_machine.proofs.Paying.{boots_within, keeps_within}
use Rattle.aom_machine.proofs.Waiting.{none_waits}
use Rattle.aom_machine_state.specs.Stands.{Sound, Refines}
use Rattle.aom_cells.specs.Sessions.{Standing, is_open}
use Rattle.std.proofs.lemmas.List.{length-replicate}

-- three tasks, none of which has anything there
all_none : {A : Type 0} (a b c : Bool) (x y : A) → x ≡ y → cond a x (cond b y (cond c y y)) ≡ y
all_none x b c y z e = grind (arith, nat_tests, cond_same c y)

boot_tasks : (p : Image) (main : ℕ) → main_of p ≡ Some main → main_tasks (main_of p) ≡ Run (frame_of main AtRoot 1) ∷ Trapped ∷ Dispatched Of_main ∷ []
boot_tasks p main e = ap main_tasks e

-- no cell has a session
all_closed : (k n : ℕ) → slice_index_or (replicate k false) n false ≡ false
all_closed k n = all_same k n false

module _ (p : Image) (m : Parts) (booted : Booted p m) where
  -- no place has anything
  no_value : (r : Place) → value m r ≡ null
  no_value x = grind (arith, nat_tests, all_none, begun_registers booted.main, mark_shows_none, first_client p.header.cells, first_queue p.header.cells)

  no_word_yet : (r : Place) → word_at (main_tasks (main_of p)) r ≡ None
  no_word_yet x = grind (arith, nat_tests, boot_tasks p booted.main booted.is_main, all_none)

  no_cell : (n : ℕ) → cell_at m.cells n ≡ None
  no_cell n = ap (λ h. cell_at h n) booted.cells

  boot_agrees : Agrees p m (boot_state p)
  boot_agrees = record {
    tasks = subst (λ us. SameTasks us (main_tasks (main_of p))) (sym booted.tasks)
        (subst (λ us. SameTasks (Runs_frame (fresh booted.main null) ∷ Is_trap ∷ Ends Main ∷ []) us) (sym (boot_tasks p booted.main booted.is_main))
        (begun_frame booted.main null AtRoot 1 refl (λ other. absurd (other refl)), (tt, ((Elsewhere Root, refl), tt))));
    values = λ r. shows_null _ _ _ (no_value r) (no_word_yet r) refl;
    cells = record {
      things = λ n. ap thing_in (no_cell n);
      words = λ n w small. ap (λ c. word_of c w) (no_cell n);
      count = ap count booted.cells;
      limit = ap (λ (h : Heap). h.limit) booted.cells;
      wide = λ n c e. absurd (never n c e);
      classes = λ n c e. absurd (never n c e);
      null_is_none = no_cell null;
      below = λ n c e. absurd (never n c e);
    };
    entries = subst (λ (e : Machine_items). SameItems e.items (A_mark ∷ [])) (sym booted.entries) (tt, tt);
    requests = record { stands = booted.requests; limit = booted.numbers };
    natives = record {
      sessions = λ n. ap (λ (w : Standing). is_open w n) booted.sessions ∙ all_closed p.header.cells n;
      dead = ap (λ (w : Standing). w.killed) booted.sessions;
      limit = ap (λ (w : Standing). length w.flags) booted.sessions ∙ length-replicate p.header.cells false;
    };
    services = services_begin p m.clients m.messages m.tokens m.listed booted.clients booted.messages booted.tokens booted.listed;
    rest = booted.rest;
    room = (let d = booted.depth in omega arith);
    entry_room = (let d = ap (λ (e : Machine_items). e.depth) booted.entries in omega arith);
  }
    where
      never : (n : ℕ) (c : Machine_cell) → cell_at m.cells n ≡ Some c → ⊥
      never n c e = (let clash : Some c ≡ None = sym e ∙ no_cell n in cc)

-- the strongest typing, and a table of prices that the image can afford
abbrev pub Afforded : Image → Type 0
Afforded p = (t : Typing) × IsStrongest p t × (c : Prices) × IsAffordable p t c × CostsWithin p c

pub boots : (p : Image) (m : Parts) → IsLinked p → Afforded p → HasDepths p → HasHeights p → BootKeeps → StepKeeps → QuietPreserved → LinkedIsWired → BootWithin →
    MovesPay → Booted p m → Refines (record { image = p; parts = m }) (boot_state p)
boots p m linked (t, strongest, prices, affordable, costs) depths heights boot_keeps step_keeps quiet_preserved wired boot_within moves_pay booted =
    let w = wired p booted.formed linked in
    let sound : Sound p t = record {
      formed = booted.formed;
      linked = linked;
      wired = w;
      strongest = strongest;
      depths = depths;
      heights = heights;
      typed = strongest.typed;
      keeps = λ c s well unused. step_keeps p t w strongest.typed c s well unused;
      prices = prices;
      affordable = affordable;
      objects = affords p prices costs;
      pays = λ c s u well kept goes h. keeps_within p t prices linked strongest.typed affordable moves_pay c s u well kept goes h;
    } in
    record {
      typing = t;
      sound = sound;
      typed = boot_keeps p t w strongest.typed;
      only_quiet = quiet_preserved.boot p;
      traps = boots_at_traps p (main_of p);
      room = boot_room p t sound;
      waits = none_waits p t;
      kept = clients_keep.boot p;
      within = boots_within p t prices linked strongest.typed affordable boot_within;
      agrees = boot_agrees p m booted;
    }
