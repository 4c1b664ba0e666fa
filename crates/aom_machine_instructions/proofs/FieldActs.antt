-- Instructions on the words and the owning fields of what a method works on: of its cell, or of main's, the root.
use Rattle.std.proofs.lemmas.Bool.Decides.{nat_tests}
use Rattle.std.proofs.lemmas.Option.{none-some}
use Rattle.std.proofs.Common.{false, inl, inr, ◌≡◌, ◌≢◌, ℕ, ℤ, ◌<◌, true, cond, length, List, ◌∷◌, Option, Some, None, refl, sym, ap, ◌∙◌, subst, arith}
use Rattle.std.specs.Prelude.{is_some, nat_lt}
use Rattle.std.specs.Int.{w32, cast_signed}
use Rattle.std.proofs.lemmas.Bool.{eq-eqb, false≢true, lt-ltb, ltb-true, ne_eqb}
use Rattle.aom_image.specs.Image.{Image}
use Rattle.aom_instructions.specs.declared.instr.Instr.TheVariants.{Load, Store, Take, Put, JumpEmpty}
use Rattle.aom_image.specs.declared.method.Thing.{Thing}
use Rattle.aom_cells.specs.Heap.{Heap, null, field_at, word_at as cell_word}
use Rattle.aom_roles.specs.Things.{field_thing, holder_of, word_count, is_object}
use Rattle.aom_roles.specs.Tables.{set_extending}
use Rattle.aom_semantics.specs.Places.{Place, Register, Field, Elsewhere, Root, Object, held, named, moved, changed}
use Rattle.aom_semantics.specs.Effects.{applied, writes as writes_word}
use Rattle.aom_semantics.specs.State.{Receiver, Static, AtRoot, Inside, next, Task, Run, field_place, receiver_holder}
use Rattle.aom_semantics.specs.Objects.{is_declared_thing}
use Rattle.aom_safety.specs.WellTyped.{ReceiverConforms, ReceiverIsHeld, Now, Stack}
use Rattle.aom_semantics.specs.Words.{loaded, stored, read}
use Rattle.aom_machine_instructions.proofs.SafetyLemmas.{held_set_word, receiver_conforms_field, method_layer}
use Rattle.aom_machine_instructions.proofs.SemanticsLemmas.{held_moved}
use Rattle.aom_frames.specs.Tasks.{on_top, with_register, register_here, this_here}
use Rattle.aom_frames.specs.declared.frame.Frame.{Frame as Machine_frame}
use Rattle.aom_frames.specs.declared.task.Task.{Task as Machine_task}
use Rattle.aom_frames.specs.declared.task.Task.TheVariants.{Run as Runs_frame}
use Rattle.aom_machine_instructions.proofs.MachineStateLemmas.{cell_of, cells_moved, cells_put, cells_stored, field_written, kept, moves, natives_moved}
use Rattle.aom_machine_instructions.proofs.MachineStateLemmas.{natives_stored, requests_moved, requests_stored, root_written, services_moved, services_stored}
use Rattle.aom_machine_instructions.proofs.MachineStateLemmas.{stands_here, value_here, value_written, word_put_elsewhere, word_written}
use Rattle.aom_machine_state.specs.declared.parts.Parts.{Parts}
use Rattle.aom_machine_state.specs.Places.{others, value_in, WritesWord, set_register}
use Rattle.aom_machine_state.specs.Agrees.{word_at, receiver_number, Represents, number, SameCells, Agrees}
use Rattle.aom_machine_instructions.specs.Acts.{CurrentFrame, Does}
use Rattle.aom_machine_state.specs.Places as places
use Rattle.aom_machine_state.specs.Fields.{this, ThisLives, field_here, PutsWord, PutsField, WritesField}
use Rattle.aom_semantics.specs.Servers.{is_queue}
use Rattle.aom_machine_instructions.proofs.Running.{Top, by_top, word_here, free, no_word, null_unnamed, object_there}
use Rattle.aom_machine_instructions.proofs.WordActs.{word_read, word_put, plain_does}
use Rattle.aom_machine_instructions.proofs.ObjectActs.{jumps_empty, passes_full}
use Rattle.aom_machine_instructions.proofs.ImageLemmas.{some_given}
use Rattle.aom_machine_instructions.proofs.GoingOn.{OnTop, framed, goes_on_as, goes_on_with}

-- ---- the cell that a method works on

module _ (p : Image) (m : Parts) (h : CurrentFrame p m) where
  -- it lives
  pub receiver_held : (o : Object) (from : Place) → h.frame.receiver ≡ Inside o from → named h.state.cells o.name ≡ Some o
  receiver_held o from e = method_layer (λ ls. Stack p h.typing h.state.cells Now ls) h.frame h.below h.typed.layers
      (sym h.typed.tasks ∙ h.top) h.typed.good.stack (λ sh ls _ stack.
      let lives = subst (ReceiverIsHeld p h.state.cells ls) e stack.2 in
      lives.lives)

  -- the machine's number of it
  pub this_is : this m ≡ receiver_number h.frame.receiver
  this_is = by_top p m h (λ us. this_here us ≡ receiver_number h.frame.receiver) (λ f ms top. top.frame.this)

  pub inside_number : (o : Object) (from : Place) → h.frame.receiver ≡ Inside o from → this m ≡ o.name
  inside_number o from e = this_is ∙ ap receiver_number e

  pub inside_there : (o : Object) (from : Place) → h.frame.receiver ≡ Inside o from → this m ≢ null
  inside_there o from e n =
      none-some _ (sym (sym (receiver_held o from e) ∙ ap (named h.state.cells) (sym (inside_number o from e) ∙ n) ∙ null_unnamed p m h.state h.agrees))

  -- and it is no message
  pub inside_small : (o : Object) (from : Place) → h.frame.receiver ≡ Inside o from → o.name < 4096
  inside_small o from e = subst (λ n. n < 4096) (inside_number o from e)
      (by_top p m h (λ us. this_here us ≢ null → this_here us < 4096) (λ f ms top. top.frame.receiver_held) (inside_there o from e))

  pub inside_object : (o : Object) (from : Place) → h.frame.receiver ≡ Inside o from → is_object o.thing ≡ true
  inside_object o from e = object_there p m h.state h.agrees o (receiver_held o from e) (inside_small o from e)

  pub is_receiver_held : ThisLives m
  is_receiver_held there = grind (arith, nat_tests, cell_of p m.cells h.state.cells, receiver_held, inside_object, inside_number, this_is)

  -- what the method's class declares, what it works on has
  receiver_conforms : ReceiverConforms p (receiver_holder h.frame.receiver) (holder_of p h.frame.method)
  receiver_conforms = (stands_here p h.typing h.state h.frame h.below h.typed h.top).holder

  declared_there : (f : ℕ) → is_some (field_thing p (holder_of p h.frame.method) f) ≡ true → is_some (field_thing p (receiver_holder h.frame.receiver) f) ≡ true
  declared_there f has = ap is_some (receiver_conforms_field p (receiver_holder h.frame.receiver) (holder_of p h.frame.method) f receiver_conforms has) ∙ has

  word_there : (w : ℕ) → nat_lt w (word_count p (holder_of p h.frame.method)) ≡ true → nat_lt w (word_count p (receiver_holder h.frame.receiver)) ≡ true
  word_there w has =
      let within = ltb-true w (word_count p (holder_of p h.frame.method)) has in
      lt-ltb w (word_count p (receiver_holder h.frame.receiver)) (let more = receiver_conforms.words in omega (arith, within, more))

  -- a method that has words has a cell
  no_words : {P : Type 0} (w : ℕ) → nat_lt w 0 ≡ true → P
  no_words w e = let lt = ltb-true w 0 e in absurd (omega (arith, lt))

  pub has_cell : (w : ℕ) → nat_lt w (word_count p (holder_of p h.frame.method)) ≡ true → this m ≢ null
  has_cell w has n = go h.frame.receiver refl (word_there w has)
    where
      go : (receiver : Receiver) → h.frame.receiver ≡ receiver → nat_lt w (word_count p (receiver_holder receiver)) ≡ true → ⊥
      go (Inside o from) e has = inside_there o from e n
      go _ e has = no_words w has

  -- ---- words

  pub word_loaded : (w : ℕ) → nat_lt w (word_count p (holder_of p h.frame.method)) ≡ true → cell_word m.cells (this m) w ≡ loaded h.state.cells h.frame.receiver w
  word_loaded w has = go h.frame.receiver refl (word_there w has)
    where
      go : (receiver : Receiver) → h.frame.receiver ≡ receiver → nat_lt w (word_count p (receiver_holder receiver)) ≡ true → cell_word m.cells (this m) w ≡ loaded h.state.cells receiver w
      go (Inside o from) e has = ap (λ n. cell_word m.cells n w) (inside_number o from e) ∙ h.agrees.cells.words o.name w (inside_small o from e)
      go _ e has = no_words w has

  held_stored : (receiver : Receiver) (w : ℕ) (v : ℤ) (r : Place) → held (stored h.state.cells receiver w v) r ≡ held h.state.cells r
  held_stored x w v r = grind (arith, nat_tests, held_set_word h.state.cells)

  cells_after_store : (heap : Heap) (w : ℕ) (v : ℤ) → nat_lt w (word_count p (holder_of p h.frame.method)) ≡ true →
      PutsWord (this m) w v m.cells heap → SameCells p heap (stored h.state.cells h.frame.receiver w v)
  cells_after_store heap w v has puts = go h.frame.receiver refl (word_there w has)
    where
      go : (receiver : Receiver) → h.frame.receiver ≡ receiver → nat_lt w (word_count p (receiver_holder receiver)) ≡ true → SameCells p heap (stored h.state.cells receiver w v)
      go (Inside o from) e has = cells_stored p m.cells heap h.state.cells o.name w v o h.agrees.cells
          (receiver_held o from e) (inside_object o from e) (subst (λ n. PutsWord n w v m.cells heap) (inside_number o from e) puts)
      go _ e has = no_words w has

  -- ---- owning fields

  pub no_word_there : (receiver : Receiver) (f : ℕ) (us : List Task) → word_at us (field_place receiver f) ≡ None
  no_word_there x f us = grind arith

  pub field_no_queue : (receiver : Receiver) (f : ℕ) → is_queue (field_place receiver f) ≡ false
  field_no_queue x f = grind arith

  -- a method of which a field is declared works on the root or on an object
  by_receiver : (f : ℕ) (P : Receiver → Type 0) → (h.frame.receiver ≡ AtRoot → P AtRoot) → ((o : Object) (from : Place) →
      h.frame.receiver ≡ Inside o from → P (Inside o from)) → is_some (field_thing p (holder_of p h.frame.method) f) ≡ true → P h.frame.receiver
  by_receiver f P root inside has = go h.frame.receiver refl (declared_there f has)
    where
      go : (receiver : Receiver) → h.frame.receiver ≡ receiver → is_some (field_thing p (receiver_holder receiver) f) ≡ true → P receiver
      go Static e has = cc
      go AtRoot e has = root e
      go (Inside o from) e has = inside o from e

  -- a field's number is read from its place
  here_at_root : (f : ℕ) → this m ≡ null → m.root ≡ field_here f m
  here_at_root f n = ap (λ b. cond b m.root (field_at m.cells (this m) f)) (sym (eq-eqb (this m) null n))

  pub field_read_here : (f : ℕ) (us : List Machine_task) → is_some (field_thing p (holder_of p h.frame.method) f) ≡ true →
      value_in us m.cells m.entries.items (others m) (field_place h.frame.receiver f) ≡ field_here f m
  field_read_here f us = grind (arith, nat_tests, by_receiver f, here_at_root f, this_is, inside_number, ne_eqb, inside_there)

  -- and written in its place
  pub record Written (mid : Parts) (q : Place) (x : ℕ) : Type 0 where
    pub values : (us : List Machine_task) (r : Place) →
        value_in us mid.cells m.entries.items (record (others m) { root = mid.root }) r ≡ changed (value_in us m.cells m.entries.items (others m)) q x r
    pub cells : SameCells p mid.cells h.state.cells
    pub rest : mid ≡ record m { cells = mid.cells; root = mid.root }

  pub field_written_here : (mid : Parts) (f x : ℕ) → is_some (field_thing p (holder_of p h.frame.method) f) ≡ true → WritesField f x m mid →
      Written mid (field_place h.frame.receiver f) x
  field_written_here mid f x has writes = by_receiver f (λ receiver. Written mid (field_place receiver f) x)
      (λ e. elim writes [ inl root ↦ at_root root.1 | inr cell ↦ absurd (cell.0 (this_is ∙ ap receiver_number e)) ])
      (λ o from e. elim writes [ inl root ↦ absurd (inside_there o from e root.0) | inr cell ↦ in_cell o from e cell.1 cell.2 ]) has
    where
      at_root : mid ≡ record m { root = x } → Written mid (Elsewhere Root) x
      at_root e = subst (λ k. Written k (Elsewhere Root) x) (sym e)
          (record { values = λ us r. root_written us m.cells m.entries.items (others m) x r; cells = h.agrees.cells; rest = refl })

      in_cell : (o : Object) (from : Place) → h.frame.receiver ≡ Inside o from → PutsField (this m) f x m.cells mid.cells → mid ≡ record m { cells = mid.cells } →
          Written mid (Field o.name f) x
      in_cell o from e puts same =
          let at = subst (λ n. PutsField n f x m.cells mid.cells) (inside_number o from e) puts in
          record {
            values = λ us r. ap (λ (k : Parts). value_in us mid.cells m.entries.items (record (others m) { root = k.root }) r) same
                ∙ field_written us m.cells mid.cells m.entries.items (others m) o.name f x at r;
            cells = cells_put p m.cells mid.cells h.state.cells o.name f x o h.agrees.cells (receiver_held o from e) (inside_object o from e) at;
            rest = same ∙ ap (λ n. record m { cells = mid.cells; root = n }) (sym (ap (λ (k : Parts). k.root) same));
          }

  -- the number in a field is that of what the field owns
  pub field_shown : (f : ℕ) → is_some (field_thing p (holder_of p h.frame.method) f) ≡ true →
      field_here f m ≡ number (held h.state.cells (field_place h.frame.receiver f))
  field_shown f has = grind (arith, nat_tests, field_read_here f m.stack.tasks has, no_word_there h.frame.receiver f h.state.tasks)

-- ---- the instructions

pub load_does : (m new : Parts) (refused : List ℕ) (a w : ℕ) → WritesWord a (cell_word m.cells (this m) w) m new → Does refused (Load a w) m new
load_does m new refused a w x = plain_does m new refused (Load a w) refl (λ p h c met. subst (λ v. Agrees p new
    (applied p h.frame h.below h.state (writes_word h.frame a v))) (word_loaded p m h w met.1.0) (word_put p m new h a _ (free _ met.0) x))

pub store_does : (m : Parts) (refused : List ℕ) (w b : ℕ) (heap : Heap) →
    PutsWord (this m) w (cast_signed w32 (register_here m.stack.tasks b)) m.cells heap → Does refused (Store w b) m (places.next (record m { cells = heap }))
store_does m refused w b heap puts = plain_does m (places.next (record m { cells = heap })) refused (Store w b) refl (λ p h c met.
    let s = h.state in
    let fr = h.frame in
    let ts = h.below in
    let v = read fr ts s b in
    let cs = stored s.cells fr.receiver w v in
    let written = subst (λ v. PutsWord (this m) w v m.cells heap) (word_read p m h b met.0) puts in
    goes_on_as p m h (record m { cells = heap }) cs s.items s.rest (record {
      stack = refl;
      cells = cells_after_store p m h heap w v met.1.0 written;
      entries = h.agrees.entries;
      requests = requests_stored p m.active s.cells fr.receiver w v h.agrees.requests;
      natives = natives_stored p m.sessions s.killed s.cells fr.receiver w v h.agrees.natives;
      services = services_stored p s.cells fr.receiver w v (inside_small p m h) h.agrees.services;
      rest = h.agrees.rest;
      room = h.agrees.entry_room;
    }) (λ f ms e top q. subst (λ n. Represents n (word_at (Run fr ∷ ts) q) (held cs q))
    (sym (word_put_elsewhere (Runs_frame f ∷ ms) m.cells heap m.entries.items (others m) (this m) w v written q)) (subst (λ o. Represents
    (value_in (Runs_frame f ∷ ms) m.cells m.entries.items (others m) q) (word_at (Run fr ∷ ts) q) o) (sym (held_stored p m h fr.receiver w v q)) (top.values q))))

-- what a field or a register owns goes to the other, and the register is written
goes_by_field : (p : Image) (m mid : Parts) (h : CurrentFrame p m) (g x a n : ℕ) (ws : List (Option ℤ)) (from to : Place) →
    Written p m h mid (field_place h.frame.receiver g) x → is_queue from ≡ false → is_queue to ≡ false →
    ((f : Machine_frame) (ms : List Machine_task) → m.stack.tasks ≡ Runs_frame f ∷ ms → Top m h.state h.frame h.below f ms →
    OnTop p m h (record m { cells = mid.cells; root = mid.root }) (moved from to h.state.cells) ws (with_register a n f) ms) → Agrees p
    (places.next (set_register a n mid)) (record h.state { cells = moved from to h.state.cells; tasks = Run (next (record h.frame { words = ws })) ∷ h.below })
goes_by_field p m mid h g x a n ws from to written from_no to_no shows =
    let s = h.state in
    subst (λ k. Agrees p (places.next (set_register a n k))
    (record s { cells = moved from to s.cells; tasks = Run (next (record h.frame { words = ws })) ∷ h.below })) (sym written.rest)
    (goes_on_with p m h (record m { cells = mid.cells; root = mid.root }) (moved from to s.cells) s.items s.rest ws (on_top (with_register a n))
    (with_register a n) (λ f ms. refl) (record {
      stack = refl;
      cells = cells_moved p mid.cells s.cells from to written.cells;
      entries = h.agrees.entries;
      requests = requests_moved p m.active s.cells from to h.agrees.requests;
      natives = natives_moved p m.sessions s.killed s.cells from to h.agrees.natives;
      services = services_moved p s.cells from to from_no to_no h.agrees.services;
      rest = h.agrees.rest;
      room = h.agrees.entry_room;
    }) shows)

pub take_does : (m mid : Parts) (refused : List ℕ) (a g n : ℕ) → a < 16 → n ≡ field_here g m → WritesField g null m mid →
    Does refused (Take a g) m (places.next (set_register a n mid))
take_does m mid refused a g n small reads writes = plain_does m (places.next (set_register a n mid)) refused (Take a g) refl (λ p h c met.
    let q = field_place h.frame.receiver g in
    let here = Register (length h.below) a in
    let written = field_written_here p m h mid g null met.1.0 writes in
    goes_by_field p m mid h g null a n (set_extending None h.frame.words a None) q here written (field_no_queue p m h h.frame.receiver g) refl (λ f ms e top.
    let wide = top.frame.wide in
    let v = value_in (Runs_frame f ∷ ms) m.cells m.entries.items (others m) in
    record {
      frame = framed p m h f ms _ a n top;
      values = moves v _ _ _ (held h.state.cells) _ q here top.values (no_word_there p m h h.frame.receiver g (Run h.frame ∷ h.below)) (λ r.
          value_written f ms mid.cells m.entries.items (record (others m) { root = mid.root }) (length h.below) a n f.place top.deep (omega arith) r
          ∙ ap (λ y. changed (λ z. y) here n r) (written.values (Runs_frame f ∷ ms) r)
          ∙ ap (λ y. changed (changed v q null) here y r) (reads ∙ sym (field_read_here p m h g (Runs_frame f ∷ ms) met.1.0)))
          (word_written h.frame h.below a h.frame.place None) (λ r. held_moved h.state.cells q here r (free _ met.0));
    }))

-- a field that a thing is declared for is declared
declared_some : (p : Image) (t : Option Thing) (o : Option Object) → is_declared_thing p t o ≡ true → is_some t ≡ true
declared_some p t o e = some_given (λ t. is_declared_thing p t o ≡ true) t e (λ none. false≢true none) (λ x is _. ap is_some is)

pub put_does : (m mid : Parts) (refused : List ℕ) (g b x : ℕ) → b < 16 → x ≡ register_here m.stack.tasks b → WritesField g x m mid →
    Does refused (Put g b) m (places.next (set_register b null mid))
put_does m mid refused g b x small reads writes = plain_does m (places.next (set_register b null mid)) refused (Put g b) refl (λ p h c met.
    let fr = h.frame in
    let ts = h.below in
    let q = field_place fr.receiver g in
    let here = Register (length ts) b in
    let written = field_written_here p m h mid g x (declared_some p _ _ met.1.0) writes in
    goes_by_field p m mid h g x b null fr.words here q written refl (field_no_queue p m h fr.receiver g) (λ f ms e top.
    let wide = top.frame.wide in
    let v = value_in (Runs_frame f ∷ ms) m.cells m.entries.items (others m) in
    record {
      frame = framed p m h f ms _ b null top;
      values = moves v _ _ _ (held h.state.cells) _ here q top.values (word_here fr ts b ∙ no_word _ met.0)
          (λ r. written.values (Runs_frame (with_register b null f) ∷ ms) r ∙ ap (λ y. changed (λ z. y) q x r) (value_written f ms m.cells m.entries.items
          (others m) (length ts) b null f.place top.deep (omega arith) r) ∙ ap (λ y. changed (changed v here null) q y r)
          (reads ∙ ap (λ us. register_here us b) e ∙ sym (value_here f ms m.cells m.entries.items (others m) (length ts) b top.deep)))
          (λ r. kept (word_at (Run fr ∷ ts)) q r ∙ ap (λ y. changed (word_at (Run fr ∷ ts)) q y r) (no_word_there p m h fr.receiver g (Run fr ∷ ts)))
          (λ r. held_moved h.state.cells here q r (free _ met.1.1.0));
    }))

module _ (m : Parts) (refused : List ℕ) where
  pub jump_empty_does : (g to : ℕ) → field_here g m ≡ null → Does refused (JumpEmpty g to) m (places.to_place to m)
  jump_empty_does g to is = plain_does m (places.to_place to m) refused
      (JumpEmpty g to) refl (λ p h c met. jumps_empty m refused p h (field_place h.frame.receiver g) to (sym (field_shown p m h g met.0) ∙ is))

  pub jump_full_does : (g to : ℕ) → field_here g m ≢ null → Does refused (JumpEmpty g to) m (places.next m)
  jump_full_does g to is = plain_does m (places.next m) refused (JumpEmpty g to) refl
      (λ p h c met. passes_full m refused p h (field_place h.frame.receiver g) to (λ n. is (field_shown p m h g met.0 ∙ n)))
