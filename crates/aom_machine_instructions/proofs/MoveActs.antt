-- An object goes from one register to another.
use Rattle.std.proofs.Common.{◌≡◌, ℕ, ◌<◌, length, List, ◌∷◌, None, slice_set, refl, sym, ap, ◌∙◌, arith}
use Rattle.std.proofs.lemmas.List.{length-set}
use Rattle.aom_instructions.specs.declared.instr.Instr.TheVariants.{Move}
use Rattle.aom_cells.specs.Heap.{null}
use Rattle.aom_semantics.specs.Places.{Register, moved, changed, held}
use Rattle.aom_machine_instructions.proofs.SemanticsLemmas.{held_moved}
use Rattle.aom_frames.specs.Tasks.{on_top, with_register, register_here}
use Rattle.aom_frames.specs.declared.task.Task.TheVariants.{Run as Runs_frame}
use Rattle.aom_machine_instructions.proofs.MachineStateLemmas.{cells_moved, moves, natives_moved, requests_moved, services_moved, value_here, value_written}
use Rattle.aom_machine_instructions.proofs.MachineStateLemmas.{word_written}
use Rattle.aom_machine_state.specs.declared.parts.Parts.{Parts}
use Rattle.aom_machine_state.specs.Places.{others, value_in, set_register}
use Rattle.aom_machine_instructions.specs.Acts.{Does}
use Rattle.aom_machine_state.specs.Places as places
use Rattle.aom_machine_instructions.proofs.Running.{word_here, free, no_word, reframed}
use Rattle.aom_machine_instructions.proofs.WordActs.{plain_does}
use Rattle.aom_machine_instructions.proofs.GoingOn.{goes_on_with}
use Rattle.aom_roles.specs.Tables.{set_extending}

module _ (m : Parts) (refused : List ℕ) where
  pub move_does : (a b : ℕ) → a < 16 → b < 16 → Does refused (Move a b) m (places.next (set_register a (register_here m.stack.tasks b) (set_register b null m)))
  move_does a b small little =
      plain_does m (places.next (set_register a (register_here m.stack.tasks b) (set_register b null m))) refused (Move a b) refl (λ p h c met.
      let s = h.state in
      let ts = h.below in
      let x = register_here m.stack.tasks b in
      let from = Register (length ts) b in
      let to = Register (length ts) a in
      goes_on_with p m h m (moved from to s.cells) s.items s.rest (set_extending None h.frame.words a None)
      (λ us. on_top (with_register a x) (on_top (with_register b null) us)) (λ f. with_register a x (with_register b null f)) (λ f ms. refl) (record {
        stack = refl;
        cells = cells_moved p m.cells s.cells from to h.agrees.cells;
        entries = h.agrees.entries;
        requests = requests_moved p m.active s.cells from to h.agrees.requests;
        natives = natives_moved p m.sessions s.killed s.cells from to h.agrees.natives;
        services = services_moved p s.cells from to refl refl h.agrees.services;
        rest = h.agrees.rest;
        room = h.agrees.entry_room;
      }) (λ f ms e top.
      let wide = top.frame.wide in
      let left = with_register b null f in
      let still : length left.registers ≡ 16 = length-set f.registers b null ∙ wide in
      record {
        frame = reframed f h.frame (slice_set left.registers a x) _ f.place h.frame.place top.frame (length-set left.registers a x ∙ still) top.frame.place;
        values = moves _ _ _ _ (held s.cells) _ from to top.values (word_here h.frame ts b ∙ no_word _ met.0) (λ r.
            value_written left ms m.cells m.entries.items (others m) (length ts) a x f.place top.deep (omega arith) r
            ∙ ap (λ y. changed (λ q. y) to x r) (value_written f ms m.cells m.entries.items (others m) (length ts) b null f.place top.deep (omega arith) r)
            ∙ ap (λ y. changed (changed (value_in (Runs_frame f ∷ ms) m.cells m.entries.items (others m)) from null) to y r)
            (ap (λ us. register_here us b) e ∙ sym (value_here f ms m.cells m.entries.items (others m) (length ts) b top.deep)))
            (word_written h.frame ts a h.frame.place None) (λ r. held_moved s.cells from to r (free _ met.1.0));
      }))
