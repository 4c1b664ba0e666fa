-- The room that a run needs is there: on the machine's side as on that of the checked machine.
use Rattle.std.proofs.lemmas.Bool.Decides.{nat_tests}
use Rattle.std.proofs.Common.{IsSome, List, Some, ap, arith, length, suc, sym, true, ℕ, ◌+◌, ◌<◌, ◌∙◌, ◌∷◌, ◌≡◌}
use Rattle.aom_image.specs.Image.{Image}
use Rattle.aom_image.specs.Views.{instr_at, leaves, method_at}
use Rattle.aom_instructions.specs.declared.instr.Instr.{Instr}
use Rattle.aom_frames.specs.Items.{entries_in, marks_in}
use Rattle.aom_frames.specs.declared.item.Item.{Item as Machine_item}
use Rattle.aom_frames.specs.Tasks.{TopFrameIs, method_here, place_here}
use Rattle.aom_roles.specs.Tables.{at}
use Rattle.aom_roles.specs.Tests.{AllTrue}
use Rattle.aom_typing_rules.specs.Rules.{rule_needs, ways_of}
use Rattle.aom_typing_rules.specs.Typing.{Typing}
use Rattle.aom_typing_rules.specs.Ways.{Goes_on, News, after}
use Rattle.aom_abstract_state.specs.AbstractState.{AbstractState}
use Rattle.aom_static_bounds.specs.Calls.{Among, callees}
use Rattle.aom_safety.specs.Laws.{IsWired}
use Rattle.aom_semantics.specs.Moves.{step}
use Rattle.aom_safety.specs.Quiet.{OnlyQuietRun}
use Rattle.aom_semantics.specs.State.{Choice, Frame, Goes, Item, Run, State, Task}
use Rattle.aom_safety.specs.WellTyped.{WellTyped}
use Rattle.aom_semantics.specs.World.{boot_state}
use Rattle.aom_machine_state.specs.declared.parts.Parts.{Parts}
use Rattle.aom_machine_state.specs.Agrees.{SameItems}
use Rattle.aom_machine_instructions.specs.Next.{IsNext, counting}
use Rattle.aom_machine_state.specs.Room as room
use Rattle.aom_machine_state.specs.Room.{HasRoom}
use Rattle.aom_machine_state.specs.Stands.{Sound, Stands}
use Rattle.aom_safety.specs.Traps.{marks}
use Rattle.aom_machine_instructions.proofs.Counts.{entries_at_hand, marks_at_hand, tasks_at_hand}
use Rattle.aom_machine_instructions.proofs.RoomMoves.{boots_with_room, keeps_room}
use Rattle.aom_machine_instructions.proofs.Stepping.{frame_of}
use Rattle.aom_machine_instructions.proofs.MachineStateLemmas.{by_item, by_items, same_length}

-- each move keeps the room
pub room_kept : (p : Image) (t : Typing) (s u : State) (sound : Sound p t) → WellTyped p t s → OnlyQuietRun p s.tasks → (c : Choice) → HasRoom p
    (at 0 sound.depths.depths) (at 0 sound.heights.heights) s → step p c s ≡ Goes u → HasRoom p (at 0 sound.depths.depths) (at 0 sound.heights.heights) u
room_kept p t s u sound typed only_quiet c room e = keeps_room p t sound.wired sound.typed sound.strongest sound.depths sound.heights c s u typed room e

-- the boot state has it
pub boot_room : (p : Image) (t : Typing) (sound : Sound p t) → HasRoom p (at 0 sound.depths.depths) (at 0 sound.heights.heights) (boot_state p)
boot_room p t sound = boots_with_room p (at 0 sound.depths.depths) sound.heights

same_entries : (is : List Machine_item) (js : List Item) → SameItems is js → entries_in is ≡ room.entries_in js
same_entries = by_items (λ is js. entries_in is ≡ room.entries_in js) (omega arith) (λ i j is js same _ rest.
    by_item (λ i j. entries_in (i ∷ is) ≡ room.entries_in (j ∷ js)) (λ n. omega (arith, rest)) (λ m n k w _ _. omega (arith, rest)) rest i j same)

same_marks : (is : List Machine_item) (js : List Item) → SameItems is js → marks_in is ≡ marks js
same_marks = by_items (λ is js. marks_in is ≡ marks js) (omega arith) (λ i j is js same _ rest.
    by_item (λ i j. marks_in (i ∷ is) ≡ marks (j ∷ js)) (λ n. rest) (λ m n k w _ _. rest) (ap suc rest) i j same)

module _ (p : Image) (m : Parts) (st : Stands (record { image = p; parts = m })) where
  -- there is room for a thousand tasks more
  pub has_much_room : (length m.stack.tasks + 1000) < m.stack.depth
  has_much_room =
      let few = tasks_at_hand p st.1.typing st.1.sound.depths (at 0 st.1.sound.heights.heights) st.0 st.1.typed st.1.only_quiet st.1.room in
      let same = same_length m.stack.tasks st.0.tasks st.1.agrees.tasks in
      let deep = st.1.agrees.room in
      omega (arith, few, same, deep)

  pub has_room : (length m.stack.tasks + 1) < m.stack.depth
  has_room = let much = has_much_room in omega (arith, much)

  -- the instruction at hand is that of the checked machine
  has_task : TopFrameIs m.stack.tasks → (i : Instr) → instr_at p (method_here m.stack.tasks) (place_here m.stack.tasks) ≡ Some i →
      (fr : Frame) × (ts : List Task) × (st.0.tasks ≡ Run fr ∷ ts) × (instr_at p fr.method fr.place ≡ Some i)
  has_task runs i here =
      let f = frame_of m.stack.tasks st.0.tasks runs st.1.agrees.tasks in
      (f.0, f.1, f.2, ap (λ k. instr_at p k f.0.place) (sym f.3) ∙ ap (λ k. instr_at p (method_here m.stack.tasks) k) (sym f.4) ∙ here)

  entry_room : room.entries_in st.0.items < 1024 → entries_in m.entries.items < m.entries.depth
  entry_room few = grind (arith, nat_tests, same_entries m.entries.items st.0.items st.1.agrees.entries)

-- for an entry where one is pushed
pub entries_room : (p : Image) (m : Parts) (i : Instr) (news : News) → IsNext p i m → ways_of p i ≡ Goes_on news
    → ((k pc : ℕ) (sh : AbstractState) → AllTrue (rule_needs p k pc sh i) → leaves p k ≡ true)
    → ((k pc : ℕ) (sh : AbstractState) → length (after p k pc sh news).entries ≡ suc (length sh.entries)) → entries_in m.entries.items < m.entries.depth
entries_room p m i news next goes leave more =
    let st = next.stands in
    let sound = st.1.sound in
    let f = has_task p (counting next.counts m) st next.runs i next.here in
    entry_room p (counting next.counts m) st
    (entries_at_hand p st.1.typing sound.wired sound.typed sound.strongest sound.depths sound.heights st.0 f.0 f.1 st.1.typed f.2 st.1.room
    i news f.3 goes (leave f.0.method f.0.place) (more f.0.method f.0.place))

-- and for a mark where a method is called
pub mark_room : (p : Image) (m : Parts) (i : Instr) (k : ℕ) → IsNext p i m → (IsWired p → IsSome (method_at p k))
    → ((n : ℕ) (sh : AbstractState) → Among k (callees p n sh i)) → marks_in m.entries.items < 256
mark_room p m i k next there calls =
    let st = next.stands in
    let sound = st.1.sound in
    let f = has_task p (counting next.counts m) st next.runs i next.here in
    let few = marks_at_hand p st.1.typing sound.wired sound.typed sound.strongest sound.depths sound.heights st.0 f.0 f.1 st.1.typed f.2
    st.1.room i k f.3 (there sound.wired) (calls f.0.method) in
    let same = same_marks m.entries.items st.0.items st.1.agrees.entries in
    omega (arith, few, same)
