-- What the machine finds that the next step asks of a native is what the checked machine wants.
use Rattle.std.proofs.lemmas.Bool.Decides.{nat_tests}
use Rattle.std.proofs.Common.{arith, ◌≡◌, ◌==◌, ◌&&◌, ◌||◌, ℕ, ℤ, Bool, true, not, cond, length, List}
use Rattle.std.proofs.Common.{◌∷◌, Option, Some, None, refl, sym, ap, ◌∙◌, subst, [], slice_get}
use Rattle.std.specs.Prelude.{option_map, is_some}
use Rattle.std.specs.List.{list_any}
use Rattle.aom_image.specs.Image.{Image}
use Rattle.aom_image.specs.Views.{instr_at}
use Rattle.aom_instructions.specs.declared.instr.Instr.{Instr}
use Rattle.aom_cells.specs.Heap.{cell_at, class_at, null, Lives}
use Rattle.aom_image.specs.Views.{class_at as declared_at}
use Rattle.aom_image.specs.declared.class.ClassDecl.{ClassDecl}
use Rattle.aom_roles.specs.Things.{is_object}
use Rattle.aom_roles.specs.Classes.{kind_in}
use Rattle.aom_roles.specs.Shapes.{kind_of}
use Rattle.aom_cells.specs.Sessions.{is_killed, is_open}
use Rattle.aom_semantics.specs.Requests.{thing_kind}
use Rattle.aom_semantics.specs.Natives.{is_dead, is_owed, native_of}
use Rattle.aom_semantics.specs.Places.{Going, Object, held as owned_at, in_session, named, requested}
use Rattle.aom_semantics.specs.State.{AtRoot, Destroy, Receiver, Inside, State, Static, Task, word}
use Rattle.aom_machine.proofs.SafetyLemmas.{HasWords, has_words}
use Rattle.aom_semantics.specs.NativeCall.{Exchange, Nothing, An_open, A_start, An_ask, A_cancel, A_close, exchange, exchange_at, NativeCall, Asks, Cancels}
use Rattle.aom_semantics.specs.NativeCall.{Closes, Starts, is_served, wanted, wanted_at, wanted_by, wanted_going, wanted_gone, wanted_here, wanted_task}
use Rattle.aom_safety.specs.WellTyped.{PreservesTyping}
use Rattle.aom_semantics.specs.Words.{read}
use Rattle.aom_frames.specs.Tasks.{TopFrameIs, method_here, place_here}
use Rattle.aom_machine_state.specs.declared.parts.Parts.{Parts}
use Rattle.aom_machine.specs.declared.wanted.NativeCall.{NativeCall as Machine_wanted}
use Rattle.aom_machine.specs.declared.wanted.NativeCall.TheVariants.{Start, Ask as Machine_ask, Cancel, Close as Machine_close}
use Rattle.aom_machine_instructions.specs.Acts.{CurrentFrame, In_going}
use Rattle.aom_machine_instructions.specs.Acts as acts
use Rattle.aom_machine_state.specs.Places.{IsDestroying, going_here}
use Rattle.aom_machine_state.specs.Agrees.{receiver_number, thing_in}
use Rattle.aom_machine_state.specs.Fields.{this}
use Rattle.aom_machine_state.specs.Stands.{Refines}
use Rattle.aom_machine.specs.NativeCall.{as_wanted, wanted_call, wanted_of, word_here}
use Rattle.aom_machine.proofs.MachineInstructionsLemmas.{an_open, at_step, by_going, cell_found, frame_of, going_object, going_of, receiver_held, inside_number}
use Rattle.aom_machine.proofs.MachineInstructionsLemmas.{inside_object, inside_there, kind_same, met, number_of, object_class, object_lives, step_of_instr}
use Rattle.aom_machine.proofs.MachineInstructionsLemmas.{this_is, word_read}
use Rattle.aom_machine.proofs.SemanticsLemmas.{held_lives}

both_not : (a b : Bool) → (not a && not b) ≡ not (a || b)
both_not x b = grind arith

mapped : (b : Bool) (w : Machine_wanted) → cond b (Some (as_wanted w)) None ≡ option_map as_wanted (cond b (Some w) None)
mapped x w = grind arith

module _ (p : Image) (m : Parts) (s : State) (st : Refines (record { image = p; parts = m }) s) (runs : TopFrameIs m.stack.tasks) where
  abbrev h : CurrentFrame p m
  h =
      let f = frame_of m.stack.tasks s.tasks runs st.agrees.tasks in
      record {
        typing = st.typing;
        state = s;
        frame = f.0;
        below = f.1;
        top = f.2;
        formed = st.sound.formed;
        linked = st.sound.linked;
        wired = st.sound.wired;
        typed = st.typed;
        kept = st.kept;
        agrees = st.agrees;
      }

  -- what the method that runs asks
  abbrev call : Exchange
  call = exchange_at (instr_at p h.frame.method h.frame.place)

  by_receiver : wanted p s ≡ wanted_by s p h.frame h.below h.frame.receiver call
  by_receiver = ap (wanted_task s p) h.top

  -- what works on no cell wants nothing
  pub null_wants : this m ≡ null → wanted p s ≡ None
  null_wants none = by_receiver ∙ go h.frame.receiver refl
    where
      go : (receiver : Receiver) → h.frame.receiver ≡ receiver → wanted_by s p h.frame h.below receiver call ≡ None
      go (Inside o from) e = absurd (inside_there p m h o from e none)
      go _ e = refl

  kind_reported : (o : Object) → this m ≡ o.name → named s.cells o.name ≡ Some o → is_object o.thing ≡ true →
      native_of (thing_kind p o.thing) ≡ native_of (kind_of p (class_at m.cells (this m)))
  kind_reported o number lives object = grind (arith, nat_tests, kind_same p, object_class p m s st.agrees o lives object)

  pub unserved_wants : native_of (kind_of p (class_at m.cells (this m))) ≡ None → wanted p s ≡ None
  unserved_wants none = by_receiver ∙ go h.frame.receiver refl
    where
      go : (receiver : Receiver) → h.frame.receiver ≡ receiver → wanted_by s p h.frame h.below receiver call ≡ None
      go (Inside o from) e = ap (λ n. wanted_at s h.frame h.below o n call)
          (kind_reported o (inside_number p m h o from e) (receiver_held p m h o from e) (inside_object p m h o from e) ∙ none)
      go _ e = refl

  -- the instruction that is next, and its needs
  module _ (i : Instr) (here : instr_at p (method_here m.stack.tasks) (place_here m.stack.tasks) ≡ Some i) where
    found : instr_at p h.frame.method h.frame.place ≡ Some i
    found = grind (arith, nat_tests, frame_of m.stack.tasks s.tasks runs st.agrees.tasks)

    -- the words of its call are there
    worded : HasWords h.frame (exchange i)
    worded =
        let c = an_open p [] m s st.agrees in
        let k = met p st.typing _ _ (subst (PreservesTyping p st.typing) (step_of_instr p c.0 s h.frame h.below i h.top found) (st.sound.keeps c.0 s st.typed c.1.name)) in
        has_words p c.0 h.frame h.below (acts.requested i (at_step s)) i k.0

  -- what the native of the cell is asked
  module _ (n : ℕ) (owed : Bool) (owes : owed ≡ is_owed (requested s.cells (this m))) where
    abbrev id : ℕ
    id = this m

    dead : is_dead s.killed n ≡ is_killed m.sessions n
    dead = sym (ap (λ ks. list_any (λ k. k == n) ks) st.agrees.natives.dead)

    session : in_session s.cells id ≡ is_open m.sessions id
    session = sym (st.agrees.natives.sessions id)

    served : is_served s n id ≡ (not (is_killed m.sessions n) && is_open m.sessions id)
    served = ap (λ d. not d && in_session s.cells id) dead ∙ ap (λ b. not (is_killed m.sessions n) && b) session

    word_reported : (b : ℕ) → is_some (word h.frame b) ≡ true → read h.frame h.below s b ≡ word_here m b
    word_reported b some = sym (word_read p m h b some)

    abbrev is_there : Bool
    is_there = not (is_killed m.sessions n) && is_open m.sessions id

    -- a call with two words, at a session that is open
    worded_so : (w : (function word : ℤ) → NativeCall) (v : (function word : ℤ) → Machine_wanted) → ((f x : ℤ) → as_wanted (v f x) ≡ w f x) → (a b : ℕ) → is_some
        (word h.frame a) ≡ true → is_some (word h.frame b) ≡ true → cond (is_served s n id) (Some (w (read h.frame h.below s a) (read h.frame h.below s b)))
        None ≡ option_map as_wanted (cond is_there (Some (v (word_here m a) (word_here m b))) None)
    worded_so w v same a b some_a some_b = grind (arith, nat_tests, served, word_reported a some_a, word_reported b some_b, mapped)

    call_so : (x : Exchange) → HasWords h.frame x → wanted_here s h.frame h.below n id x ≡ option_map as_wanted (wanted_call m owed n id x)
    call_so Nothing words = refl
    call_so An_open words = grind (arith, nat_tests, dead, session, both_not, mapped)
    call_so (A_start a b) words = worded_so (Starts n id) (Start n id) (λ f x. refl) a b words.0 words.1
    call_so (An_ask a b) words = worded_so (Asks n id) (Machine_ask n id) (λ f x. refl) a b words.0 words.1
    call_so A_cancel words = ap (λ b. cond b (Some (Cancels n id)) None) (sym owes) ∙ mapped owed (Cancel n id)
    call_so A_close words = ap (λ b. cond b (Some (Closes n id)) None) session ∙ mapped (is_open m.sessions id) (Machine_close n id)

    pub served_wants : (id ≡ null → ⊥) → native_of (kind_of p (class_at m.cells id)) ≡ Some n →
        (i : Instr) → instr_at p (method_here m.stack.tasks) (place_here m.stack.tasks) ≡ Some i → wanted p s ≡ option_map as_wanted (wanted_of m owed n id i)
    served_wants some serves i here = by_receiver ∙ ap (λ o. wanted_by s p h.frame h.below h.frame.receiver (exchange_at o)) (found i here) ∙ go h.frame.receiver refl
      where
        go : (receiver : Receiver) → h.frame.receiver ≡ receiver → wanted_by s p h.frame h.below receiver (exchange i) ≡ option_map as_wanted (wanted_of m owed n id i)
        go Static e = absurd (some (this_is p m h ∙ ap receiver_number e))
        go AtRoot e = absurd (some (this_is p m h ∙ ap receiver_number e))
        go (Inside o from) e =
            let number = inside_number p m h o from e in
            ap (λ k. wanted_at s h.frame h.below o k (exchange i)) (kind_reported o number (receiver_held p m h o from e) (inside_object p m h o from e) ∙ serves)
            ∙ ap (λ name. wanted_here s h.frame h.below n name (exchange i)) (sym number) ∙ call_so (exchange i) (worded i here)

-- ---- the going of a cell

module _ (p : Image) (m : Parts) (s : State) (st : Refines (record { image = p; parts = m }) s) (destroying : IsDestroying m.stack.tasks) where
  below : List Task
  below = (going_of m.stack.tasks s.tasks destroying st.agrees.tasks).0

  top : s.tasks ≡ Destroy ∷ below
  unfolding below
  top = (going_of m.stack.tasks s.tasks destroying st.agrees.tasks).1

  object : (o : Object) × (owned_at s.cells (Going (length below)) ≡ Some o)
  object = let k = cell_found p m st.typing s below st.sound st.typed st.agrees top in (k.0, k.1)

  hand : In_going p m
  hand = record { typing = st.typing; state = s; below = below; top = top; formed = st.sound.formed; wired = st.sound.wired; typed = st.typed; kept = st.kept; agrees = st.agrees }

  number : going_here m.stack.tasks ≡ object.0.name
  unfolding hand
  number = by_going p m hand (λ us. going_here us ≡ object.0.name) (λ x ms over. number_of p m hand object.0 x ms over object.1)

  is_one : is_object object.0.thing ≡ true
  unfolding hand
  is_one = by_going p m hand (λ us. is_object object.0.thing ≡ true) (λ x ms over. going_object p m hand object.0 x ms over object.1)

  wanted_is : wanted p s ≡ wanted_going s object.0 (native_of (kind_of p (class_at m.cells (going_here m.stack.tasks))))
  wanted_is =
      let o = object.0 in
      let lives = held_lives s.cells _ o st.typed.good.no_duplicates object.1 in
      let kind = kind_same p _ o.thing (ap (λ n. thing_in (cell_at m.cells n)) number ∙ object_class p m s st.agrees o lives is_one) in
      ap (wanted_task s p) top ∙ ap (wanted_gone s p) object.1 ∙ ap (wanted_going s o) (ap native_of kind)

  pub going_lives : Lives m.cells (going_here m.stack.tasks)
  going_lives = object_lives p m st.typing s st.typed st.agrees _ object.0 _ object.1 is_one number

  pub nothing_going : native_of (kind_of p (class_at m.cells (going_here m.stack.tasks))) ≡ None → wanted p s ≡ None
  nothing_going none = wanted_is ∙ ap (wanted_going s object.0) none

  pub closes_going : (n : ℕ) → native_of (kind_of p (class_at m.cells (going_here m.stack.tasks))) ≡ Some n →
      wanted p s ≡ option_map as_wanted (cond (is_open m.sessions (going_here m.stack.tasks)) (Some (Machine_close n (going_here m.stack.tasks))) None)
  closes_going n serves = wanted_is ∙ ap (wanted_going s object.0) serves ∙ ap (λ k. cond (in_session s.cells k) (Some (Closes n k)) None) (sym number)
      ∙ ap (λ b. cond b (Some (Closes n (going_here m.stack.tasks))) None) (sym (st.agrees.natives.sessions (going_here m.stack.tasks)))
      ∙ mapped (is_open m.sessions (going_here m.stack.tasks)) (Machine_close n (going_here m.stack.tasks))

-- ---- the class of a cell

pub kind_in_image : (p : Image) (class : Option ℕ) (c : ℕ) (o : Option ClassDecl) → class ≡ Some c → slice_get p.classes c ≡ o → kind_of p class ≡ kind_in o
unfolding kind_of declared_at
kind_in_image p class c o is there = ap (kind_of p) is ∙ ap kind_in there

pub native_missing : native_of (kind_in None) ≡ None
unfolding kind_in
native_missing = refl

pub native_declared : (d : ClassDecl) → native_of (kind_in (Some d)) ≡ native_of (Some d.kind)
unfolding kind_in
native_declared d = refl

-- ---- what a native has answered changes no state

pub observed_stands : (p : Image) (m : Parts) (answer : ℤ) (s : State) → Refines (record { image = p; parts = m }) s →
    Refines (record { image = p; parts = record m { observed = answer } }) s
observed_stands p m answer s st =
    let a = st.agrees in
    record {
      typing = st.typing;
      sound = st.sound;
      typed = st.typed;
      only_quiet = st.only_quiet;
      traps = st.traps;
      room = st.room;
      waits = st.waits;
      within = st.within;
      kept = st.kept;
      agrees = record {
        tasks = a.tasks;
        values = a.values;
        cells = a.cells;
        entries = a.entries;
        requests = a.requests;
        natives = a.natives;
        services = a.services;
        rest = a.rest;
        room = a.room;
        entry_room = a.entry_room;
      };
    }
