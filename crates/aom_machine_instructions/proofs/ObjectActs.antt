-- Instructions on objects: a jump where there is none, a new cell, the destruction of nothing.
use Rattle.std.proofs.lemmas.Bool.Decides.{nat_tests}
use Rattle.std.proofs.Common.{inl, inr, ◌≡◌, ◌≢◌, ℕ, ◌<◌, ◌+◌, Bool, true, false, cond, ◌==◌, length, List, ◌∷◌}
use Rattle.std.proofs.Common.{Some, None, replicate, slice_index_or, refl, sym, ap, ◌∙◌, subst, arith, ℤ, pos}
use Rattle.std.specs.Prelude.{is_none}
use Rattle.std.specs.List.{list_any}
use Rattle.std.proofs.lemmas.List.{length-replicate}
use Rattle.std.proofs.lemmas.Bool.{eq-eqb, eqb-true, false≢true}
use Rattle.aom_image.specs.Image.{Image}
use Rattle.aom_image.specs.Views.{instr_at}
use Rattle.aom_instructions.specs.Table.{action_of}
use Rattle.aom_instructions.specs.declared.action.Action.TheVariants as action
use Rattle.aom_instructions.specs.declared.instr.Instr.{Instr}
use Rattle.aom_instructions.specs.declared.instr.Instr.TheVariants.{JumpNull, New}
use Rattle.aom_image.specs.declared.method.Thing.TheVariants.{Object as An_object_of}
use Rattle.aom_cells.specs.Heap.{Heap, null, cell_at, word_of, field_of, count, blank, Changes}
use Rattle.aom_roles.specs.Tables.{at, set_extending}
use Rattle.aom_roles.specs.Tests.{AllTrue}
use Rattle.aom_roles.specs.Things.{words_of}
use Rattle.aom_semantics.specs.Places.{Place, Register, Field, Cell, held, with_new, word_field}
use Rattle.aom_semantics.specs.Effects.{applied, deletes, jumps_unless}
use Rattle.aom_semantics.specs.State.{Choice, word, next, set_word, Run, Counters, raised}
use Rattle.aom_semantics.specs.Moves.{is_refused, makes, makes_cell}
use Rattle.aom_semantics.specs.Objects.{needs_delete}
use Rattle.aom_machine_state.specs.LineBuffer.{LineBuffer}
use Rattle.aom_frames.specs.Tasks.{on_top, with_register, register_here}
use Rattle.aom_frames.specs.declared.frame.Frame.{Frame as Machine_frame}
use Rattle.aom_frames.specs.declared.task.Task.{Task as Machine_task}
use Rattle.aom_frames.specs.declared.task.Task.TheVariants.{Run as Runs_frame}
use Rattle.aom_machine_instructions.proofs.MachineStateLemmas.{all_same, cases, natives_made, requests_made, services_made, zeros_at}
use Rattle.aom_machine_state.specs.declared.parts.Parts.{Parts}
use Rattle.aom_machine_state.specs.Places.{Others, others, value_in, set_register}
use Rattle.aom_machine_state.specs.Agrees.{Represents, number, SameCells, Agrees, observed_by}
use Rattle.aom_machine_instructions.specs.Acts.{CurrentFrame, Does, DoesIn}
use Rattle.aom_machine_state.specs.Cells.{refuses, refuses_entry, Made}
use Rattle.aom_machine_state.specs.Places as places
use Rattle.aom_machine_instructions.proofs.Running.{Top, by_top, register_shows, free, no_word, null_unnamed, unnamed, nothing_held, some_held, observed_fits}
use Rattle.aom_machine_instructions.proofs.GoingOn.{goes_on_with, still_none, written}
use Rattle.aom_machine_instructions.proofs.InstructionsLemmas.{delete_is}
use Rattle.aom_machine_instructions.proofs.WordActs.{jumps, passes, plain_does, plain_in}
use Rattle.aom_frames.specs.declared.item.Item.{Item}

-- what a register shows that has no word
pub shown : (p : Image) (m : Parts) (h : CurrentFrame p m) (f : Machine_frame) (ms : List Machine_task) → Top m h.state h.frame h.below f ms →
    (a : ℕ) → word h.frame a ≡ None → slice_index_or f.registers a null ≡ number (held h.state.cells (Register (length h.below) a))
shown p m h f ms top a none = subst (λ w. Represents (slice_index_or f.registers a null) w (held h.state.cells (Register (length h.below) a))) none
    (register_shows m h.state h.frame h.below f ms top a)

pub shown_here : (p : Image) (m : Parts) (h : CurrentFrame p m) (a : ℕ) → word h.frame a ≡ None →
    register_here m.stack.tasks a ≡ number (held h.state.cells (Register (length h.below) a))
shown_here p m h a none =
    by_top p m h (λ us. register_here us a ≡ number (held h.state.cells (Register (length h.below) a))) (λ f ms top. shown p m h f ms top a none)

module _ (m : Parts) (refused : List ℕ) where
  -- a jump unless a place owns something, by the number of what it owns
  pub jumps_empty : (p : Image) (h : CurrentFrame p m) (r : Place) (to : ℕ) → number (held h.state.cells r) ≡ null
      → Agrees p (places.to_place to m) (applied p h.frame h.below h.state (jumps_unless h.frame (held h.state.cells r) to))
  jumps_empty p h r to n = grind (arith, nat_tests, nothing_held p m h.typing h.state h.typed h.agrees r, jumps m refused p h to)

  pub passes_full : (p : Image) (h : CurrentFrame p m) (r : Place) (to : ℕ) → (number (held h.state.cells r) ≡ null → ⊥)
      → Agrees p (places.next m) (applied p h.frame h.below h.state (jumps_unless h.frame (held h.state.cells r) to))
  passes_full p h r to n = grind (arith, nat_tests, some_held, passes m refused p h)

  pub jump_null_does : (a to : ℕ) → register_here m.stack.tasks a ≡ null → Does refused (JumpNull a to) m (places.to_place to m)
  jump_null_does a to is = plain_does m (places.to_place to m) refused (JumpNull a to) refl
      (λ p h c met. jumps_empty p h (Register (length h.below) a) to (sym (shown_here p m h a (no_word _ met.0)) ∙ is))

  pub jump_object_does : (a to : ℕ) → (register_here m.stack.tasks a ≡ null → ⊥) → Does refused (JumpNull a to) m (places.next m)
  jump_object_does a to is = plain_does m (places.next m) refused (JumpNull a to) refl
      (λ p h c met. passes_full p h (Register (length h.below) a) to (λ n. is (shown_here p m h a (no_word _ met.0) ∙ n)))

  -- null is written, where the register owns nothing
  nulled : (p : Image) (h : CurrentFrame p m) (a : ℕ) (r r' : Counters) → a < 16 → r ≡ r' → held h.state.cells (Register (length h.below) a) ≡ None → Agrees p
      (places.next (set_register a null (record m { rest = r }))) (record h.state { tasks = Run (next (set_word h.frame a None)) ∷ h.below; rest = r' })
  nulled p h a r r' small rest none =
      let s = h.state in
      let mid = record m { rest = r } in
      goes_on_with p m h mid s.cells s.items r' (set_extending None h.frame.words a None) (on_top (with_register a null)) (with_register a null) (λ f ms. refl)
      (record {
        stack = refl;
        cells = h.agrees.cells;
        entries = h.agrees.entries;
        requests = h.agrees.requests;
        natives = h.agrees.natives;
        services = h.agrees.services;
        rest = rest;
        room = h.agrees.entry_room;
      }) (λ f ms e top. written p m h mid s.cells a null None None small refl f ms top (λ q. refl) (still_none p m h a none))

  -- what a destruction does where its needs are met
  pub destroy_does : (p : Image) (new : Parts) (i : Instr) (a : ℕ) → action_of i ≡ action.Destroy a → ((h : CurrentFrame p m) (c : Choice) →
      AllTrue (needs_delete p c h.frame h.below h.state a) →
      Agrees p new (applied p h.frame h.below h.state (deletes h.frame (held h.state.cells (Register (length h.below) a)) a))) → DoesIn p refused i m new
  destroy_does p new i a is act =
      subst (λ j. DoesIn p refused j m new) (sym (delete_is i a is)) (plain_in p m new refused _ refl (λ h c needs typed. act h c needs))

  -- the destruction of nothing
  pub destroy_null_does : (p : Image) (i : Instr) (a : ℕ) → action_of i ≡ action.Destroy a → a < 16 → register_here m.stack.tasks a ≡ null →
      DoesIn p refused i m (places.next (set_register a null m))
  destroy_null_does p i a is small null_there = destroy_does p (places.next (set_register a null m)) i a is (λ h c needs.
      let none = nothing_held p m h.typing h.state h.typed h.agrees (Register (length h.below) a) (sym null_there ∙ shown_here p m h a (no_word _ needs.0)) in
      subst (λ o. Agrees p (places.next (set_register a null m)) (applied p h.frame h.below h.state (deletes h.frame o a))) (sym none)
      (nulled p h a m.rest _ small h.agrees.rest none))

-- the fields of a new cell are null, and so are those of one that is not there
values_kept : (ms : List Machine_task) (h h' : Heap) (es : List Item) (rest : Others) (n class : ℕ) →
    cell_at h n ≡ None → Changes h h' n (Some (blank class)) → (r : Place) → value_in ms h' es rest r ≡ value_in ms h es rest r
values_kept ms h h' es rest n class none ch (Field k g) = cases (n == k) (λ e.
    let same = eqb-true n k e in
    ap (λ i. field_of (cell_at h' i) g) (sym same) ∙ ap (λ o. field_of o g) ch.here ∙ all_same 8 g null ∙ ap (λ o. field_of o g) (sym none)
    ∙ ap (λ i. field_of (cell_at h i) g) same) (λ e. ap (λ o. field_of o g) (ch.others k (λ d. false≢true (sym e ∙ eq-eqb n k (sym d)))))
values_kept ms h h' es rest n class none ch _ = refl

-- the words of a new object
abbrev zeros : Image → ℕ → List ℤ
zeros p class = replicate (words_of p class) (pos 0)

-- the cells with a new one
cells_made : (p : Image) (h h' : Heap) (cs : List Cell) (n class : ℕ) (ws : List ℤ) (q : Place) →
    SameCells p h cs → ((w : ℕ) → at (pos 0) ws w ≡ pos 0) → class < 256 → cell_at h n ≡ None →
    n ≢ null → Changes h h' n (Some (blank class)) → count h' ≡ count h + 1 → n < h'.limit → SameCells p h' (with_new n (An_object_of class) ws q cs)
cells_made p h h' cs n class ws q same zeros small none some ch more within = record {
  things = grind (arith, nat_tests, eqb-true n);
  words = λ k w below. cases (n == k) (λ e. ap (λ i. word_of (cell_at h' i) w) (sym (eqb-true n k e))
      ∙ ap (λ c. word_of c w) ch.here ∙ all_same 8 w (pos 0) ∙ sym (zeros w) ∙ ap (λ b. cond b (at (pos 0) ws w) (word_field cs k w)) (sym e))
      (λ e. ap (λ c. word_of c w) (other k e) ∙ same.words k w below ∙ ap (λ b. cond b (at (pos 0) ws w) (word_field cs k w)) (sym e));
  count = (let c = same.count in omega arith);
  limit = ch.limit ∙ same.limit;
  wide = λ k c is. cases (n == k) (λ e. let it : blank class ≡ c = new k c e is in ap (λ z. length z.fields) (sym it) ∙ length-replicate 8 null)
      (λ e. same.wide k c (sym (other k e) ∙ is));
  classes = grind (arith, nat_tests);
  null_is_none = ch.others null (λ d. some (sym d)) ∙ same.null_is_none;
  below = λ k c is. cases (n == k) (λ e. subst (λ i. i < h'.limit) (eqb-true n k e) within)
      (λ e. subst (λ l. k < l) (sym ch.limit) (same.below k c (sym (other k e) ∙ is)));
}
  where
    other : (k : ℕ) → (n == k) ≡ false → cell_at h' k ≡ cell_at h k
    other k e = ch.others k (λ d. false≢true (sym e ∙ eq-eqb n k (sym d)))

    new : (k : ℕ) (c : _) → (n == k) ≡ true → cell_at h' k ≡ Some c → blank class ≡ c
    new k c e is = let both : Some (blank class) ≡ Some c = sym ch.here ∙ ap (λ i. cell_at h' i) (eqb-true n k e) ∙ is in cc

-- whether the request at hand is for a cell
makes_here : (p : Image) (m : Parts) (h : CurrentFrame p m) (i : Instr) → instr_at p h.frame.method h.frame.place ≡ Some i → makes_cell p h.state.tasks ≡ makes (Some i)
makes_here p m h i here = ap (makes_cell p) h.top ∙ ap makes here

-- what the machine refuses is what the checked machine hears
module _ (p : Image) (lines : LineBuffer) (m : Parts) (h : CurrentFrame p m) (i : Instr) (here : instr_at p h.frame.method h.frame.place ≡ Some i) where
  abbrev is_named : ℕ → Bool
  is_named requests = list_any (λ n. n == raised requests) lines.refused

  pub same_refusal : makes (Some i) ≡ true → refuses lines m ≡ is_refused p lines.refused h.state
  same_refusal cell = grind (arith, nat_tests, makes_here p m h i here)

  pub same_entry_refusal : makes (Some i) ≡ false → refuses_entry lines m ≡ is_refused p lines.refused h.state
  same_entry_refusal none = grind (arith, nat_tests, makes_here p m h i here)

-- a new cell's number is below those of messages
pub new_small : (p : Image) (m : Parts) (h : CurrentFrame p m) (heap : Heap) (n class : ℕ) → Changes m.cells heap n (Some (blank class)) → n < heap.limit → n < 4096
new_small p m h heap n class ch within = let few = h.formed.header.cells in omega (arith, within, ch.limit, h.agrees.cells.limit, few)

module _ (m : Parts) (lines : LineBuffer) where
  -- the machine whose request is counted, with these cells
  abbrev pub asked : Heap → Parts
  asked heap = record m { cells = heap; rest = record m.rest { requests = raised m.rest.requests } }

  refused_does : (a class : ℕ) → a < 16 → true ≡ refuses lines m → Does lines.refused (New a class) m (places.next (set_register a null (asked m.cells)))
  unfolding DoesIn
  refused_does a class small full p h here = (
    record { name = null; refused = true; answer = observed_by m },
    record { name = null_unnamed p m h.state h.agrees; refusal = full ∙ same_refusal p lines m h (New a class) here refl; answer = observed_fits m },
    refl,
    λ needs typed. nulled m lines.refused p h a _ _ small (ap (λ (r : Counters). record r { requests = raised r.requests }) h.agrees.rest) (free _ needs.0),
  )

  -- a new cell comes to a register
  pub made_agrees : (p : Image) (h : CurrentFrame p m) (a class n : ℕ) (heap : Heap) (r : Counters) → a < 16 → record m.rest { requests = raised m.rest.requests }
      ≡ r → is_none (held h.state.cells (Register (length h.below) a)) ≡ true → class < 256 → cell_at m.cells n ≡ None → n ≢ null →
      Changes m.cells heap n (Some (blank class)) → count heap ≡ count m.cells + 1 → n < heap.limit → Agrees p (places.next (set_register a n (asked heap)))
      (record h.state { cells = with_new n (An_object_of class) (zeros p class) (Register (length h.below) a) h.state.cells; tasks = Run (next (set_word h.frame a None)) ∷ h.below; rest = r })
  made_agrees p h a class n heap r small rest empty fits none some ch more within =
      let s = h.state in
      let here = Register (length h.below) a in
      let cs = with_new n (An_object_of class) (zeros p class) here s.cells in
      let below = new_small p m h heap n class ch within in
      let fresh = unnamed p m s n h.agrees below none in
      goes_on_with p m h (asked heap) cs s.items r (set_extending None h.frame.words a None) (on_top (with_register a n)) (with_register a n) (λ f ms. refl) (record {
        stack = refl;
        cells = cells_made p m.cells heap s.cells n class (zeros p class) here h.agrees.cells (zeros_at (words_of p class)) fits none some ch more within;
        entries = h.agrees.entries;
        requests = requests_made p m.active s.cells n (An_object_of class) (zeros p class) here fresh h.agrees.requests;
        natives = natives_made p m.sessions s.killed s.cells n (An_object_of class) (zeros p class) here fresh h.agrees.natives;
        services = services_made p s.cells n class (zeros p class) here fresh below h.agrees.services;
        rest = rest;
        room = h.agrees.entry_room;
      }) (λ f ms e top. written p m h (asked heap) cs a n None (Some (record { name = n; thing = An_object_of class })) small refl f ms top
      (values_kept (Runs_frame f ∷ ms) m.cells heap m.entries.items (others m) n class none ch) (λ q. refl))

  pub asks_one : (r : Counters) → m.rest ≡ r → record m.rest { requests = raised m.rest.requests } ≡ record r { requests = raised r.requests }
  asks_one r e = ap (λ (q : Counters). record q { requests = raised q.requests }) e

  made_does : (a class n : ℕ) (heap : Heap) → a < 16 → false ≡ refuses lines m → class < 256 → cell_at m.cells n ≡ None → n ≢ null → Changes m.cells heap n
      (Some (blank class)) → count heap ≡ count m.cells + 1 → n < heap.limit → Does lines.refused (New a class) m (places.next (set_register a n (asked heap)))
  unfolding DoesIn
  made_does a class n heap small granted fits none some ch more within p h here = (
    record { name = n; refused = false; answer = observed_by m },
    record { name = unnamed p m h.state n h.agrees (new_small p m h heap n class ch within) none; refusal = granted ∙ same_refusal p lines m h (New a class) here refl; answer = observed_fits m },
    refl,
    λ needs typed. made_agrees p h a class n heap _ small (asks_one h.state.rest h.agrees.rest) needs.0 fits none some ch more within,
  )

  pub new_does : (a class n : ℕ) (refused : Bool) (heap : Heap) →
      a < 16 → refused ≡ refuses lines m → Made class refused n m.cells heap → Does lines.refused (New a class) m (places.next (set_register a n (asked heap)))
  new_does a class n refused heap small same it = elim it [
    | inl null_made ↦ subst (λ x. Does lines.refused (New a class) m (places.next (set_register a n (asked x)))) (sym null_made.2) (subst (λ k. Does
        lines.refused (New a class) m (places.next (set_register a k (asked m.cells)))) (sym null_made.1) (refused_does a class small (sym null_made.0 ∙ same)))
    | inr new_made ↦ made_does a class n heap small (sym new_made.0 ∙ same) new_made.1 new_made.2 new_made.3 new_made.4 new_made.5 new_made.6
  ]
