-- `stop`, and how a dispatch comes to its end.
use Rattle.std.proofs.Common.{◌≡◌, ◌==◌, ℕ, ℤ, true, List, [], ◌∷◌, Option, None, refl, sym, ap, ◌∙◌, subst}
use Rattle.aom_image.specs.Image.{Image}
use Rattle.aom_instructions.specs.declared.instr.Instr.TheVariants.{Stop}
use Rattle.aom_abstract_state.specs.declared.kind.Kind.TheVariants.{Null}
use Rattle.aom_typing_rules.specs.Typing.{Typing}
use Rattle.aom_cells.specs.Heap.{null}
use Rattle.aom_semantics.specs.Places.{Elsewhere, Entry, Field, Going, Object, Place, Register, CellView, held, seen}
use Rattle.aom_semantics.specs.State.{Dispatch, Dispatched, Counters, State}
use Rattle.aom_semantics.specs.Calls.{below_top}
use Rattle.aom_safety.specs.Claims.{Dispatching}
use Rattle.aom_safety.specs.WellTyped.{WellTyped, Good, Fits}
use Rattle.aom_machine_instructions.proofs.SafetyLemmas.{dispatch_layer, fits_unowning}
use Rattle.aom_frames.specs.Items.{Stack as Machine_items, entry_in}
use Rattle.aom_frames.specs.declared.item.Item.TheVariants.{Mark as Is_mark}
use Rattle.aom_frames.specs.declared.task.Task.TheVariants.{Dispatched as Ends}
use Rattle.aom_frames.specs.declared.dispatch.Dispatch.{Dispatch as Machine_dispatch}
use Rattle.aom_machine_state.specs.declared.parts.Parts.{Parts}
use Rattle.aom_machine_state.specs.Places.{others, value_in}
use Rattle.aom_machine_state.specs.Agrees.{word_at, Represents, SameDispatch, number, Agrees}
use Rattle.aom_machine_instructions.specs.Acts.{Does}
use Rattle.aom_machine_state.specs.Places as places
use Rattle.aom_machine_instructions.proofs.MachineStateLemmas.{mark_shows_none}
use Rattle.aom_machine_instructions.proofs.GoingOn.{goes_on_as}
use Rattle.aom_machine_instructions.proofs.Running.{agrees_with, aside_of, aside_unmarked}
use Rattle.aom_machine_instructions.proofs.WordActs.{plain_does}
use Rattle.aom_machine_instructions.proofs.SemanticsLemmas.{cond_same}

pub stop_does : (m : Parts) (refused : List ℕ) → Does refused Stop m (places.next (record m { rest = record m.rest { stopped = true } }))
stop_does m refused = plain_does m (places.next (record m { rest = record m.rest { stopped = true } })) refused Stop refl (λ p h c met.
    let s = h.state in
    goes_on_as p m h (record m { rest = record m.rest { stopped = true } }) s.cells s.items (record s.rest { stopped = true }) (record {
      stack = refl;
      cells = h.agrees.cells;
      entries = h.agrees.entries;
      requests = h.agrees.requests;
      natives = h.agrees.natives;
      services = h.agrees.services;
      rest = ap (λ (r : Counters). record r { stopped = true }) h.agrees.rest;
      room = h.agrees.entry_room;
    }) (λ f ms e top. top.values))

-- where a dispatch is at its end, no register, entry or destruction owns
pub record Closing (s : State) : Type 0 where
  pub registers : (d i : ℕ) → held s.cells (Register d i) ≡ None
  pub entries : (k : ℕ) → held s.cells (Entry k) ≡ None
  pub goings : (k : ℕ) → held s.cells (Going k) ≡ None

pub fits_null : (p : Image) (h : CellView) (o : Option Object) → Fits p h o Null → o ≡ None
fits_null p h o e = fits_unowning p h o Null refl e

pub closing : (p : Image) (t : Typing) (s : State) (d : Dispatch) → WellTyped p t s → s.tasks ≡ Dispatched d ∷ [] → Closing s
closing p t s d typed e = dispatch_layer (Good p t s.cells) d [] typed.layers (sym typed.tasks ∙ e) typed.good (λ owned_chain ls _ good.
    let alone = subst (λ ls. Good p t s.cells (Dispatching d owned_chain ∷ ls)) good.stack.1 good in
    record {
      registers = λ d i. fits_null p (seen s.cells) _ (alone.fits (Register d i));
      entries = λ k. fits_null p (seen s.cells) _ (alone.fits (Entry k));
      goings = λ k. fits_null p (seen s.cells) _ (alone.fits (Going k));
    })

pub shows_null : (n : ℕ) (w : Option ℤ) (o : Option Object) → n ≡ null → w ≡ None → o ≡ None → Represents n w o
shows_null n w o e f g = subst (λ w. Represents n w o) (sym f) (subst (λ o. Represents n None o) (sym g) e)

-- as main ends, its dispatch is at its end
pub ended : (p : Image) (m : Parts) (es : Machine_items) (s : State) (x : Machine_dispatch) (d : Dispatch) → Agrees p m s →
    m.entries ≡ record es { items = Is_mark ∷ es.items } → SameDispatch x d → Closing (record s { tasks = Dispatched d ∷ []; items = below_top s.items }) →
    Agrees p (record m { stack = record m.stack { tasks = Ends x ∷ [] }; entries = es }) (record s { tasks = Dispatched d ∷ []; items = below_top s.items })
ended p m es s x d agrees marked same shut = agrees_with p (record m { entries = es }) (record s { items = below_top s.items }) (Ends x ∷ [])
    (Dispatched d ∷ []) (aside_unmarked p m s es marked (aside_of p m s agrees)) (same, tt) values
  where
    values : (r : Place) → Represents (value_in (Ends x ∷ []) m.cells es.items (others m) r) (word_at (Dispatched d ∷ []) r) (held s.cells r)
    values (Register k i) = shows_null _ _ _ (cond_same (0 == k) null) (cond_same (0 == k) None) (shut.registers k i)
    values (Entry k) = shows_null _ _ _ (sym (mark_shows_none es.items k)
        ∙ ap (λ (e : Machine_items). entry_in e.items k) (sym marked) ∙ agrees.values (Entry k) ∙ ap number (shut.entries k)) refl (shut.entries k)
    values (Field n f) = agrees.values (Field n f)
    values (Going k) = shows_null _ _ _ (cond_same (0 == k) null) refl (shut.goings k)
    values (Elsewhere o) = agrees.values (Elsewhere o)
