-- What waits at a server that goes is answered by few lines: so many connects wait as it has seats, and so many messages as there may be.
use Rattle.std.proofs.lemmas.Bool.Decides.{nat_tests}
use Rattle.std.proofs.Common.{List, None, Option, Some, [], ap, arith, cond, false, length, refl, true, ℕ, ◌+◌, ◌==◌, ◌≤◌, ◌∙◌, ◌∷◌, ◌≡◌}
use Rattle.std.specs.List.{list_any}
use Rattle.std.specs.Prelude.{filter, flat_map, map, suc, ◌||◌}
use Rattle.std.proofs.lemmas.Bool.{eq-eqb, ne_eqb, or_parts, or_right}
use Rattle.std.proofs.lemmas.List.{length-append}
use Rattle.aom_machine_instructions.specs.Serving.{answers}
use Rattle.aom_machine.proofs.LinkConditionsLemmas.{all_there}
use Rattle.aom_clients.specs.Clients as kept
use Rattle.aom_clients.specs.declared.entry.QueueEntry.{QueueEntry}
use Rattle.aom_clients.specs.declared.entry.QueueEntry.TheVariants.{Close}
use Rattle.aom_clients.specs.declared.place.MessagePlace.{MessagePlace}
use Rattle.aom_image.specs.Image.{Image}
use Rattle.aom_image.specs.Views.{class_at}
use Rattle.aom_image.specs.WellFormed.{ClassFits, KindFits, WellFormed}
use Rattle.aom_instructions.specs.declared.version.Version.{Version}
use Rattle.aom_image.specs.declared.class.ClassDecl.{ClassDecl}
use Rattle.aom_image.specs.declared.class.ClassKind.{ClassKind}
use Rattle.aom_image.specs.declared.method.Thing.{Thing}
use Rattle.aom_image.specs.declared.method.Thing.TheVariants.{Message as A_message, Object as An_object_of}
use Rattle.aom_roles.specs.Things.{is_object}
use Rattle.aom_cells.specs.Store.{count}
use Rattle.aom_machine.proofs.MachineStateLemmas.{many_without, messages_in, waiting_there}
use Rattle.aom_machine_state.specs.Serving.{asked_by}
use Rattle.aom_machine_state.specs.Stands.{Refines}
use Rattle.aom_machine_state.specs.declared.parts.Parts.{Parts}
use Rattle.aom_roles.specs.Classes.{kind_in}
use Rattle.aom_roles.specs.Shapes.{kind_of}
use Rattle.aom_machine.proofs.SemanticsLemmas.{held_without, named_name, tidy_without}
use Rattle.aom_machine.proofs.SafetyLemmas.{service_unnamed, waiting_message}
use Rattle.aom_semantics.specs.Clients.{count_messages, most_of}
use Rattle.aom_semantics.specs.Requests.{thing_kind}
use Rattle.aom_safety.specs.Kept.{ClientsFit, QueueFits}
use Rattle.aom_semantics.specs.Lines.{ended_line}
use Rattle.aom_semantics.specs.Places.{Asked, Cell, Close_of, Connect_of, Elsewhere, Message_of, Object, Queued as Waits_at, NoDuplicates, held, service_of, without}
use Rattle.aom_semantics.specs.Servers.{is_connect, is_message}
use Rattle.aom_semantics.specs.State.{State}
use Rattle.aom_machine.proofs.StepLines.{going_lines, reported_one}

-- ---- messages that wait

-- how many
abbrev messages_of : List Asked → ℕ
messages_of [] = 0
messages_of (Message_of c m ∷ es) = suc (messages_of es)
messages_of (_ ∷ es) = messages_of es

-- each waits there, and none twice
abbrev AreThere : List Cell → ℕ → List Asked → Type 0
AreThere cs n [] = Unit {0}
AreThere cs n (Message_of c m ∷ es) = ((x : Object) × (held cs (Elsewhere (Waits_at n m)) ≡ Some x) × (is_object x.thing ≡ false))
    × (list_any (is_message m) es ≡ false) × AreThere cs n es
AreThere cs n (_ ∷ es) = AreThere cs n es

-- where one goes that is none of them, they still are
still_there : (cs : List Cell) (n m : ℕ) (es : List Asked) → list_any (is_message m) es ≡ false → AreThere cs n es →
    AreThere (without (Elsewhere (Waits_at n m)) cs) n es
still_there cs n m [] none there = tt
still_there cs n m (Connect_of c ∷ es) none there = still_there cs n m es none there
still_there cs n m (Close_of c ∷ es) none there = still_there cs n m es none there
still_there cs n m (Message_of c k ∷ es) none there = grind (
  arith,
  nat_tests,
  or_parts (k == m),
  held_without cs (Elsewhere (Waits_at n m)) (Elsewhere (Waits_at n k)),
  still_there cs n m es,
  ne_eqb m k,
  eq-eqb k m,
  eq-eqb n n,
)

-- so there are as many messages at least
few_wait : (n : ℕ) (es : List Asked) (cs : List Cell) → NoDuplicates cs → AreThere cs n es → messages_of es ≤ count_messages cs
few_wait n [] cs no_duplicates there = omega arith
few_wait n (Connect_of c ∷ es) cs no_duplicates there = few_wait n es cs no_duplicates there
few_wait n (Close_of c ∷ es) cs no_duplicates there = few_wait n es cs no_duplicates there
few_wait n (Message_of c m ∷ es) cs no_duplicates there =
    let g = Elsewhere (Waits_at n m) in
    let less = few_wait n es (without g cs) (tidy_without cs g no_duplicates) (still_there cs n m es there.1 there.2) in
    let one : messages_in (held cs g) ≡ 1 = ap messages_in there.0.1 ∙ ap (λ b. cond b 0 1) there.0.2 in
    let all = many_without cs g no_duplicates in
    omega (arith, less, one, all)

-- ---- the lines

-- so many lines, at most
abbrev answered : List Asked → ℕ
answered es = length (filter is_connect es) + messages_of es

few_lines : (cs : List Cell) (es : List Asked) → length (flat_map (ended_line cs) es) ≤ answered es
few_lines cs [] = omega arith
few_lines cs (Connect_of c ∷ es) = let few = few_lines cs es in omega (arith, few)
few_lines cs (Message_of c m ∷ es) = grind (arith, nat_tests, few_lines cs es, reported_one, length-append)
few_lines cs (Close_of c ∷ es) = few_lines cs es

few_answers : (places : List MessagePlace) (es : List QueueEntry) → answers es ≡ answered (map (asked_by places) es)
few_answers places [] = refl
few_answers places (Close c ∷ es) = few_answers places es
few_answers places (_ ∷ es) = let e = few_answers places es in omega (arith, e)

-- ---- the seats of a class

kind_few : (version : Version) (classes natives : ℕ) (k : ClassKind) → KindFits version classes natives k → most_of (Some k) ≤ 64
kind_few version classes natives x fits = grind arith

most_few : (p : Image) → WellFormed p → (t : Thing) → most_of (thing_kind p t) ≤ 64
unfolding class_at kind_in kind_of
most_few p formed A_message = omega arith
most_few p formed (An_object_of class) = go (class_at p class) refl
  where
    go : (o : Option ClassDecl) → class_at p class ≡ o → most_of (kind_in o) ≤ 64
    go None e = omega arith
    go (Some d) e = let fits = all_there (ClassFits p.header.version (length p.classes) p.header.natives) p.classes class d formed.classes.each e in
        kind_few p.header.version (length p.classes) p.header.natives d.kind fits.kind

-- ---- a server

module _ (p : Image) (m : Parts) (s : State) (st : Refines (record { image = p; parts = m }) s) (bound : count m.messages ≤ m.messages.limit) where
  fit : ClientsFit p s.clients s.cells
  fit = st.kept.fit

  waits_message : (n k : ℕ) (x : Object) → held s.cells (Elsewhere (Waits_at n k)) ≡ Some x → is_object x.thing ≡ false
  waits_message n k x there = ap is_object (waiting_message p st.typing st.sound.wired s st.typed n k x there)

  are_there : (n : ℕ) (es : List Asked) → QueueFits s.clients n es →
      ((k : ℕ) → list_any (is_message k) es ≡ true → list_any (is_message k) (service_of s.cells n).queue ≡ true) → AreThere s.cells n es
  are_there n [] fits each = tt
  are_there n (Connect_of c ∷ es) fits each = are_there n es fits.1 each
  are_there n (Close_of c ∷ es) fits each = are_there n es fits.1 each
  are_there n (Message_of c k ∷ es) fits each =
      let x = waiting_there p st.typing st.sound.wired s st.typed s.clients fit n k (each k (ap (λ b. b || list_any (is_message k) es) (eq-eqb k k refl))) in
      ((x.0, x.1, waits_message n k x.0 x.1), fits.0.1, are_there n es fits.1 (λ j e. each j (or_right (k == j) (list_any (is_message j) es) e)))

  few_messages : (n : ℕ) → messages_of (service_of s.cells n).queue ≤ p.header.messages
  few_messages n = grind (arith, nat_tests, few_wait n, are_there n)

  few_at : (n : ℕ) → answered (service_of s.cells n).queue ≤ p.header.messages + 64
  few_at n = grind (arith, nat_tests, service_unnamed s.cells n, named_name s.cells n, most_few p st.sound.formed, few_messages n)

  -- what waits in the queue of a cell that goes is answered by few lines
  pub few_answered : (n : ℕ) → answers (kept.queue_at m.clients n) ≤ p.header.messages + 64
  few_answered n = grind (arith, nat_tests, few_answers m.clients.places, few_at n)

  pub few_going : going_lines s s.tasks ≤ p.header.messages + 64
  few_going = grind (arith, nat_tests, few_lines s.cells, few_at, going_lines s)
