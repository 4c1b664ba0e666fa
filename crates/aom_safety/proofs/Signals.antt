-- Between dispatches and at a dispatch's end each object rests: what signals is ready.
use Rattle.std.proofs.lemmas.Bool.Decides.{nat_tests}
use Rattle.std.proofs.Common.{arith, List, Option, Some, [], ap, refl, subst, sym, true, ◌∙◌, ◌∷◌, ◌≡◌}
use Rattle.std.proofs.lemmas.Bool.{ne_eqb, not-true}
use Rattle.std.specs.Prelude.{is_some}
use Rattle.aom_safety.specs.Claims.{Dispatching, Layer, forms, items_of, tasks_of}
use Rattle.aom_safety.proofs.ImageLemmas.{nil_given}
use Rattle.aom_image.specs.Image.{Image}
use Rattle.aom_image.specs.declared.class.ClassKind.{ClassKind}
use Rattle.aom_roles.specs.States.{states_of}
use Rattle.aom_typing_rules.specs.Typing.{Typing}
use Rattle.aom_safety.proofs.Layers.{dispatch_layer}
use Rattle.aom_safety.proofs.Owners.{layers_none}
use Rattle.aom_safety.specs.Laws.{AllRest, SignalsAreReady}
use Rattle.aom_semantics.specs.Places.{Cell, Object, Request, NoDuplicates, named, requested}
use Rattle.aom_safety.specs.Requests.{AllConformTo, ConformsTo, resting_in}
use Rattle.aom_semantics.specs.State.{Dispatch, OwnedObject, State}
use Rattle.aom_safety.specs.WellTyped.{Good, WellTyped}
use Rattle.aom_semantics.specs.World.{AllSettled, first_ready, has_signal, is_settled, ready_count, signal_count, signals, stands_ready}

-- what rests is idle or waits
rests_settled : (k : Option ClassKind) (r : Option Request) → ConformsTo k (resting_in (states_of k)) r → is_settled r ≡ true
unfolding states_of
rests_settled k r s = grind arith

settled_cells : (cs : List Cell) → ((o : Object) → named cs o.name ≡ Some o → is_settled (requested cs o.name) ≡ true) → NoDuplicates cs → AllSettled cs
settled_cells [] h no_duplicates = tt
settled_cells (c ∷ cs) h no_duplicates = (grind arith, settled_cells cs later no_duplicates.2)
  where
    later : (o : Object) → named cs o.name ≡ Some o → is_settled (requested cs o.name) ≡ true
    later o e = grind (arith, nat_tests, ne_eqb c.object.name o.name)

-- a signal of what is settled is that of an object that waits, or of a server with a queue
signals_ready : (c : Cell) (r : Option Request) → is_settled r ≡ true → signals c r ≡ stands_ready c r
signals_ready c x e = grind (arith, nat_tests, not-true)

same_signals : (cs : List Cell) → AllSettled cs → has_signal cs ≡ is_some (first_ready cs)
same_signals [] s = refl
same_signals (c ∷ cs) s = grind (arith, nat_tests, signals_ready c c.request s.0, same_signals cs s.1)

same_count : (cs : List Cell) → AllSettled cs → signal_count cs ≡ ready_count cs
same_count [] s = refl
same_count (c ∷ cs) s = grind (arith, nat_tests, signals_ready c c.request s.0, same_count cs s.1)

pub at_rest : (p : Image) (t : Typing) (s : State) (w : WellTyped p t s) → s.tasks ≡ [] → w.layers ≡ []
at_rest p t s w idle = layers_none w.layers (sym w.tasks ∙ idle)

pub items_at_rest : (p : Image) (t : Typing) (s : State) → WellTyped p t s → s.tasks ≡ [] → s.items ≡ []
items_at_rest p t s w idle = nil_given (λ is. forms is ≡ []) s.items (w.items ∙ ap items_of (at_rest p t s w idle)) (λ i is e. cc) (λ none e. none)

-- where no layer says more of an object, it rests
all_rest : (p : Image) (cs : List Cell) → AllConformTo p cs [] → NoDuplicates cs → AllRest cs
all_rest p cs conforms_to no_duplicates = search (arith, nat_tests, settled_cells cs, rests_settled, same_count cs, same_signals cs)

pub signals_are_ready : SignalsAreReady
signals_are_ready p t s w = (
  λ d e. dispatch_layer (λ ls. Good p t s.cells ls) d [] w.layers (sym w.tasks ∙ e) w.good
      (λ owned_chain ls none good. all_rest p s.cells (ended owned_chain ls d none good.conforms_to) good.no_duplicates),
  λ idle. all_rest p s.cells (subst (λ ls. AllConformTo p s.cells ls) (at_rest p t s w idle) w.good.conforms_to) w.good.no_duplicates,
)
  where
    ended : (owned_chain : List OwnedObject) (ls : List Layer) (d : Dispatch) → tasks_of ls ≡ [] → AllConformTo p s.cells (Dispatching d owned_chain ∷ ls) → AllConformTo p s.cells []
    ended owned_chain ls d none conforms_to = subst (λ ls. AllConformTo p s.cells ls) (layers_none ls none) conforms_to
