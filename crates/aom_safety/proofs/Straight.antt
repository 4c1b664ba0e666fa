-- The laws of the instructions that stay in their method.
use Rattle.std.proofs.lemmas.Bool.Decides.{nat_tests}
use Rattle.std.proofs.Common.{Bool, List, None, Option, Some, ap, arith, cond, false, length, refl, subst, suc, sym, true, ℕ, ℤ, ◌&&◌, ◌==◌, ◌∙◌, ◌∷◌, ◌≡◌}
use Rattle.std.proofs.lemmas.Bool.{eq-eqb, eqb-true, ne_eqb, true≢false}
use Rattle.std.specs.Prelude.{is_some}
use Rattle.aom_safety.proofs.ImageLemmas.{some_given}
use Rattle.aom_image.specs.Image.{Image}
use Rattle.aom_instructions.specs.declared.instr.Instr.{Instr}
use Rattle.aom_image.specs.declared.method.Thing.{Thing}
use Rattle.aom_abstract_state.specs.Kinds.{field, filled, field_state_of, is_empty, is_object_or_null, is_ready_kind}
use Rattle.aom_abstract_state.specs.Kinds.{is_unowning, may_be, may_be_declared, register, set_register}
use Rattle.aom_typing_rules.specs.Rules.{flows, rule_needs}
use Rattle.aom_abstract_state.specs.AbstractState.{AbstractState}
use Rattle.aom_roles.specs.Tables.{at, set_extending}
use Rattle.aom_roles.specs.Things.{field_thing, holder_of}
use Rattle.aom_typing_rules.specs.Typing.{AllLead, Leads, Typing}
use Rattle.aom_abstract_state.specs.declared.kind.FieldState.{FieldState}
use Rattle.aom_abstract_state.specs.declared.kind.Kind.{Kind}
use Rattle.aom_abstract_state.specs.declared.kind.Kind.TheVariants.{Null, Unset}
use Rattle.aom_safety.proofs.OwnedObjects.{NoFieldHere}
use Rattle.aom_safety.proofs.Claimed.{Outside, claim-set_register, claim_frame, claim_from, claim_ready, claim_weaker, declared_moved, fits_weaker}
use Rattle.aom_safety.proofs.Claimed.{holds_moved, keep_fits, outside_differs, own_there, owns_no_more, stack_moved, word_fits_weaker}
use Rattle.aom_safety.proofs.ReceiverHolding.{receiver_conforms_field}
use Rattle.aom_safety.proofs.SemanticsLemmas.{at-set_extending, held_moved, one_place, requested_moved, same_place-true, tidy_moved}
use Rattle.aom_safety.specs.Claims.{Layer, Method, claim, declared, forms, items_of, objects, tasks_of, serves}
use Rattle.aom_semantics.specs.Moves.{does, needs}
use Rattle.aom_semantics.specs.Objects.{is_declared_thing, is_thing}
use Rattle.aom_semantics.specs.Places.{Cell, Field, Object, Place, Register, CellView, NoDuplicates, changed, held, moved, requested, same_place, seen}
use Rattle.aom_semantics.specs.State.{AtRoot, Choice, Frame, Receiver, Inside, Run, State, Static, field_place, receiver_holder, next, set_word, word}
use Rattle.aom_safety.specs.WellTyped.{CountsAs, AllUndo, Fits, Frames, Good, Holds, IsAlone, IsApart}
use Rattle.aom_safety.specs.WellTyped.{ReceiverIsHeld, Returns, Stack, WellTyped, WordFits, HasMessage}
use Rattle.aom_safety.proofs.ConformingTo.{all_moved, claims_less}
use Rattle.aom_safety.specs.Requests.{AllConformTo}
use Rattle.aom_image.specs.Views.{method_role}
use Rattle.aom_roles.specs.Roles.{is_cancel}
use Rattle.aom_roles.specs.Tests.{AllTrue}
use Rattle.aom_safety.proofs.RolesLemmas.{stands_along}

-- a state whose top task is a method
pub record At (p : Image) (t : Typing) (s : State) (fr : Frame) (sh : AbstractState) (ls : List Layer) : Type 0 where
  pub tasks : s.tasks ≡ Run fr ∷ tasks_of ls
  pub items : forms s.items ≡ items_of (Method fr sh ∷ ls)
  pub undo_operations : AllUndo p s.items
  pub good : Good p t s.cells (Method fr sh ∷ ls)

-- what a register is, on either side
pub register_fits : (p : Image) (cs : List Cell) (fr : Frame) (sh : AbstractState) (ls : List Layer) → ((r : Place) → Fits p (seen cs)
    (held cs r) (claim p (declared p cs) (Method fr sh ∷ ls) r)) → (i : ℕ) → Fits p (seen cs) (held cs (Register (length (tasks_of ls)) i)) (register sh i)
register_fits p cs fr sh ls fits i = grind (arith, nat_tests, eq-eqb)

pub fits_unowning : (p : Image) (h : CellView) (o : Option Object) (k : Kind) → is_unowning k ≡ true → Fits p h o k → o ≡ None
fits_unowning p h x k u f = grind arith

pub may_be_object : (p : Image) (x : Thing) (k : Kind) → may_be p x k ≡ true → is_object_or_null k ≡ true
may_be_object p x k e = grind arith

pub word_of_object : (w : Option ℤ) (k : Kind) → is_object_or_null k ≡ true → WordFits w k → w ≡ None
word_of_object w k e f = grind arith

-- the cells are as the layers claim, where the top method may be in the middle of its instruction
pub record Fitted (p : Image) (t : Typing) (cs : List Cell) (fr : Frame) (sh : AbstractState) (ls : List Layer) : Type 0 where
  pub fits : (r : Place) → Fits p (seen cs) (held cs r) (claim p (declared p cs) (Method fr sh ∷ ls) r)
  pub conforms_to : AllConformTo p cs (Method fr sh ∷ ls)
  pub no_duplicates : NoDuplicates cs
  pub frames : Frames p ls fr sh
  pub receiver_held : ReceiverIsHeld p cs ls fr.receiver
  pub apart : IsApart p fr.view fr.method fr.receiver ls
  pub stack : Stack p t cs (Returns fr.method fr.receiver) ls

-- other words, another place and other registers leave a frame its own
pub frames_reworded : {p : Image} {ls : List Layer} {fr : Frame} {sh sh' : AbstractState} {place : ℕ} {words : List (Option ℤ)} {counters : List ℕ} → Frames p ls fr
    sh → ((i : ℕ) → WordFits (at None words i) (register sh' i)) → Frames p ls (record fr { place = place; words = words; counters = counters }) sh'
frames_reworded g w = record { words = w; holder = g.holder; view = g.view; height = g.height; alone = g.alone; message = g.message }

pub fitted : (p : Image) (t : Typing) (cs : List Cell) (fr : Frame) (sh : AbstractState) (ls : List Layer) → Good p t cs (Method fr sh ∷ ls) → Fitted p t cs fr sh ls
fitted p t cs fr sh ls g = record { fits = g.fits; conforms_to = g.conforms_to; no_duplicates = g.no_duplicates; frames = g.stack.1; receiver_held = g.stack.2; apart = g.stack.3; stack = g.stack.4 }

-- the state that the typing has at the next place takes the flow's place
pub settle : (p : Image) (t : Typing) (cs : List Cell) (fr : Frame) (sh : AbstractState) (ls : List Layer) → Fitted p t cs fr sh ls → Leads t fr.method fr.place sh →
    (after : AbstractState) × Good p t cs (Method fr after ∷ ls) × (after.entries ≡ sh.entries)
settle p t cs fr sh ls g leads =
    let w = leads.2 in (
      leads.0,
      record {
        stack = (leads.1, frames_reworded g.frames (λ i. word_fits_weaker (word fr i) (w.registers i) (g.frames.words i)), g.receiver_held, g.apart, g.stack);
        fits = λ r. fits_weaker p (seen cs) (held cs r) (claim_weaker p (declared p cs) fr leads.0 sh ls r (owns_no_more leads.0 sh w)) (g.fits r);
        conforms_to = λ o lives. claims_less p o fr leads.0 sh ls (requested cs o.name) w.states (g.conforms_to o lives);
        no_duplicates = g.no_duplicates;
      },
      w.entries,
    )

pub receiver_held_relocated : (p : Image) (cs : List Cell) (a b : Place) (ls : List Layer) (receiver : Receiver) → held cs b ≡ None → Outside a ls → Outside b ls →
    ((o : Object) (from : Place) → receiver ≡ Inside o from → NoFieldHere a from × NoFieldHere b from) → ReceiverIsHeld p cs ls receiver → ReceiverIsHeld p (moved a b cs) ls receiver
receiver_held_relocated p cs a b ls (Inside o from) free oa ob n h =
    let m = n o from refl in
    holds_moved p cs a b ls o from free (outside_differs a from ls oa m.0 h.below) (outside_differs b from ls ob m.1 h.below) h
receiver_held_relocated p cs a b ls x free oa ob n h = grind arith

-- the height and the view with which a method began
abbrev pub began : Frame → ℕ × Option ℕ
began fr = (fr.height, fr.view)

-- nor is what the layers below claim of its object
pub apart_too : (p : Image) (fr fr' : Frame) (ls : List Layer) →
    fr'.receiver ≡ fr.receiver → fr'.method ≡ fr.method → began fr' ≡ began fr → IsApart p fr.view fr.method fr.receiver ls → IsApart p fr'.view fr'.method fr'.receiver ls
apart_too p fr fr' ls eh em eg apart = grind (arith, nat_tests, apart)

-- a frame of the same method, home and view counts as the same
counts_too : (p : Image) (fr fr' : Frame) → fr'.receiver ≡ fr.receiver → fr'.method ≡ fr.method → began fr' ≡ began fr →
    CountsAs p (receiver_holder fr.receiver) fr.view (holder_of p fr.method) → CountsAs p (receiver_holder fr'.receiver) fr'.view (holder_of p fr'.method)
counts_too p fr fr' eh em eg counts = grind (arith, nat_tests)

-- a frame of the same method and home is as alone
alone_too : (p : Image) (fr fr' : Frame) (ls : List Layer) → fr'.receiver ≡ fr.receiver → fr'.method ≡ fr.method →
    (is_cancel (method_role p fr.method) ≡ true → IsAlone p fr.receiver ls) → is_cancel (method_role p fr'.method) ≡ true → IsAlone p fr'.receiver ls
alone_too p fr fr' ls eh em alone e = subst (λ h. IsAlone p h ls) (sym eh) (alone (ap (λ m. is_cancel (method_role p m)) (sym em) ∙ e))

-- and serves as it does
message_too : (p : Image) (fr fr' : Frame) (ls : List Layer) → fr'.method ≡ fr.method → HasMessage p fr ls → HasMessage p fr' ls
message_too p fr fr' ls em message = (λ e. message.0 (ap (λ m. serves p m) (sym em) ∙ e), λ served. ap (λ m. serves p m) em ∙ message.1 served)

-- the home, the method and the states alone count for requests
pub same_conforms_to : (p : Image) (cs : List Cell) (fr fr' : Frame) (sh sh' : AbstractState) (ls : List Layer) → fr'.receiver ≡ fr.receiver → fr'.method ≡ fr.method →
    sh'.states ≡ sh.states → AllConformTo p cs (Method fr sh ∷ ls) → AllConformTo p cs (Method fr' sh' ∷ ls)
same_conforms_to p cs fr fr' sh sh' ls eh em es s o lives = grind (arith, nat_tests)

-- the same method of the same object, with other words
same_frames : (p : Image) (fr fr' : Frame) (sh sh' : AbstractState) (ls : List Layer) → fr'.receiver ≡ fr.receiver → fr'.method ≡ fr.method → began fr' ≡ began fr →
    ((i : ℕ) → WordFits (word fr' i) (register sh' i)) → Frames p ls fr sh → Frames p ls fr' sh'
same_frames p fr fr' sh sh' ls eh em eg words g = record {
  words = words;
  holder = grind (arith, nat_tests);
  view = counts_too p fr fr' eh em eg g.view;
  height = ap (λ (x : ℕ × Option ℕ). x.0) eg ∙ g.height;
  alone = alone_too p fr fr' ls eh em g.alone;
  message = message_too p fr fr' ls em g.message;
}

-- and with the same cells, which fit what its places are now
same_cells : (p : Image) (t : Typing) (cs : List Cell) (fr fr' : Frame) (sh sh' : AbstractState) (ls : List Layer) → Fitted p t cs fr sh ls →
    fr'.receiver ≡ fr.receiver → fr'.method ≡ fr.method → began fr' ≡ began fr → sh'.states ≡ sh.states →
    ((r : Place) → Fits p (seen cs) (held cs r) (claim p (declared p cs) (Method fr sh' ∷ ls) r)) → ((i : ℕ) → WordFits (word fr' i) (register sh' i)) →
    Fitted p t cs fr' sh' ls
same_cells p t cs fr fr' sh sh' ls g eh em eg es fits words = record {
  fits = λ r. subst (λ k. Fits p (seen cs) (held cs r) k) (sym (claim_frame p (declared p cs) fr fr' sh' ls r eh em)) (fits r);
  conforms_to = same_conforms_to p cs fr fr' sh sh' ls eh em es g.conforms_to;
  no_duplicates = g.no_duplicates;
  frames = same_frames p fr fr' sh sh' ls eh em eg words g.frames;
  receiver_held = subst (λ h. ReceiverIsHeld p cs ls h) (sym eh) g.receiver_held;
  apart = apart_too p fr fr' ls eh em eg g.apart;
  stack = subst (λ m. Stack p t cs (Returns m fr'.receiver) ls) (sym em) (subst (λ h. Stack p t cs (Returns fr.method h) ls) (sym eh) g.stack);
}

-- a thing moves from one local place to another, with its claim
pub relocate : (p : Image) (t : Typing) (cs : List Cell) (fr fr' : Frame) (sh sh' : AbstractState) (ls : List Layer) (a b : Place) →
    Fitted p t cs fr sh ls → fr'.receiver ≡ fr.receiver → fr'.method ≡ fr.method → began fr' ≡ began fr → sh'.states ≡ sh.states → held cs b ≡ None → Outside a ls →
    Outside b ls → ((o : Object) (from : Place) → fr'.receiver ≡ Inside o from → NoFieldHere a from × NoFieldHere b from) → ((r : Place) (x : Object) →
    held cs r ≡ Some x → is_ready_kind (claim p (declared p cs) (Method fr sh ∷ ls) r) ≡ false → (f : ℕ) → same_place b (Field x.name f) ≡ false) →
    ((r : Place) → claim p (declared p cs) (Method fr sh' ∷ ls) r ≡ changed (changed (claim p (declared p cs) (Method fr sh ∷ ls)) a Null) b
    (claim p (declared p cs) (Method fr sh ∷ ls) a) r) → ((i : ℕ) → WordFits (word fr' i) (register sh' i)) → Fitted p t (moved a b cs) fr' sh' ls
relocate p t cs fr fr' sh sh' ls a b g eh em eg es free oa ob nf fresh claims words =
    let cs' = moved a b cs in
    let d = declared p cs in
    let fits : (r : Place) → Fits p (seen cs') (held cs' r) (claim p d (Method fr sh' ∷ ls) r) = keep_fits p (seen cs) (seen cs')
    (claim p d (Method fr sh ∷ ls)) (claim p d (Method fr sh' ∷ ls)) a b (λ r. held_moved cs a b r free) (requested_moved cs a b) claims fresh g.fits in
    record {
      fits = λ r. subst (λ k. Fits p (seen cs') (held cs' r) k)
          (ap (λ e. claim p e (Method fr sh' ∷ ls) r) (sym (declared_moved p cs a b)) ∙ sym (claim_frame p (declared p cs') fr fr' sh' ls r eh em)) (fits r);
      conforms_to = same_conforms_to p (moved a b cs) fr fr' sh sh' ls eh em es (all_moved p cs a b (Method fr sh ∷ ls) g.conforms_to);
      no_duplicates = tidy_moved cs a b free g.no_duplicates;
      frames = same_frames p fr fr' sh sh' ls eh em eg words g.frames;
      receiver_held = receiver_held_relocated p cs a b ls fr'.receiver free oa ob nf (subst (λ h. ReceiverIsHeld p cs ls h) (sym eh) g.receiver_held);
      apart = apart_too p fr fr' ls eh em eg g.apart;
      stack = grind (arith, nat_tests, stack_moved p t cs a b ls);
    }

-- one place is claimed anew
pub relabel : (p : Image) (t : Typing) (cs : List Cell) (fr fr' : Frame) (sh sh' : AbstractState) (ls : List Layer) (a : Place) (v : Kind) →
    Fitted p t cs fr sh ls → fr'.receiver ≡ fr.receiver → fr'.method ≡ fr.method → began fr' ≡ began fr → sh'.states ≡ sh.states → Fits p (seen cs) (held cs a) v →
    ((r : Place) → claim p (declared p cs) (Method fr sh' ∷ ls) r ≡ changed (claim p (declared p cs) (Method fr sh ∷ ls)) a v r) →
    ((i : ℕ) → WordFits (word fr' i) (register sh' i)) → Fitted p t cs fr' sh' ls
relabel p t cs fr fr' sh sh' ls a v g eh em eg es new claims words =
    same_cells p t cs fr fr' sh sh' ls g eh em eg es (λ r. subst (λ k. Fits p (seen cs) (held cs r) k) (sym (claims r)) (go r (same_place a r) refl)) words
  where
    go : (r : Place) (b : Bool) → same_place a r ≡ b → Fits p (seen cs) (held cs r) (cond b v (claim p (declared p cs) (Method fr sh ∷ ls) r))
    go r true e = subst (λ q. Fits p (seen cs) (held cs q) v) (same_place-true a r e) new
    go r false e = g.fits r

pub claim_register : (p : Image) (d : Place → Kind) (fr : Frame) (sh : AbstractState) (ls : List Layer) (i : ℕ) →
    claim p d (Method fr sh ∷ ls) (Register (length (tasks_of ls)) i) ≡ register sh i
claim_register p d fr sh ls i = ap (λ b. cond b (register sh i) (claim p d ls (Register (length (tasks_of ls)) i))) (eq-eqb (length (tasks_of ls)) _ refl)

-- a register is written
pub words_set : (words : List (Option ℤ)) (sh : AbstractState) (a : ℕ) (w : Option ℤ) (k : Kind) → ((i : ℕ) → WordFits (at None words i) (register sh i)) →
    WordFits w k → (i : ℕ) → WordFits (at None (set_extending None words a w) i) (register (set_register sh a k) i)
words_set words sh a w k h g i = grind (arith, nat_tests, at-set_extending None words a i w, at-set_extending Unset sh.registers a i k)

-- a register that owns nothing is as it was where the one before it is written
pub next_unowning : (ks : List Kind) (c : ℕ) (k : Kind) → is_unowning (at Unset ks (suc c)) ≡ true → is_unowning (at Unset (set_extending Unset ks c k) (suc c)) ≡ true
next_unowning ks c k u = grind (arith, nat_tests, at-set_extending Unset ks c, ne_eqb c)

-- a register without a word becomes null
pub words_null : (words : List (Option ℤ)) (sh : AbstractState) (a : ℕ) → ((i : ℕ) → WordFits (at None words i) (register sh i)) → at None words a ≡ None → (i : ℕ) →
    WordFits (at None words i) (register (set_register sh a Null) i)
words_null words sh a h e i = grind (arith, nat_tests, at-set_extending Unset sh.registers a i Null, eqb-true a i)

pub no_word_fits : (k : Kind) → is_object_or_null k ≡ true → WordFits None k
no_word_fits k e = grind arith

-- a register of the top method
abbrev pub top : List Layer → ℕ → Place
top ls i = Register (length (tasks_of ls)) i

-- the frame stands elsewhere, or has other counters
pub reframed : (p : Image) (t : Typing) (cs : List Cell) (fr fr' : Frame) (sh : AbstractState) (ls : List Layer) →
    fr'.receiver ≡ fr.receiver → fr'.method ≡ fr.method → began fr' ≡ began fr → fr'.words ≡ fr.words → Fitted p t cs fr sh ls → Fitted p t cs fr' sh ls
reframed p t cs fr fr' sh ls eh em eg ew g =
    same_cells p t cs fr fr' sh sh ls g eh em eg refl g.fits (λ i. subst (λ ws. WordFits (at None ws i) (register sh i)) (sym ew) (g.frames.words i))

-- the place alone differs
pub stepped : (p : Image) (t : Typing) (cs : List Cell) (fr : Frame) (sh : AbstractState) (ls : List Layer) → Fitted p t cs fr sh ls → Fitted p t cs (next fr) sh ls
stepped p t cs fr sh ls g = record {
  fits = λ r. rw (claim_frame p (declared p cs) fr (next fr) sh ls r refl refl) (g.fits r);
  conforms_to = g.conforms_to;
  no_duplicates = g.no_duplicates;
  frames = frames_reworded g.frames g.frames.words;
  receiver_held = g.receiver_held;
  apart = g.apart;
  stack = g.stack;
}

-- a register that owns nothing is written
pub write : (p : Image) (t : Typing) (cs : List Cell) (fr : Frame) (sh : AbstractState) (ls : List Layer) (a : ℕ) (w : Option ℤ) (k : Kind) → Fitted p t cs fr sh ls →
    is_unowning (register sh a) ≡ true → ((h : CellView) → Fits p h None k) → WordFits w k → Fitted p t cs (set_word fr a w) (set_register sh a k) ls
write p t cs fr sh ls a w k g u new word =
    let free = fits_unowning p (seen cs) _ (register sh a) u (register_fits p cs fr sh ls g.fits a) in
    relabel p t cs fr (set_word fr a w) sh (set_register sh a k) ls (top ls a) k g refl refl refl refl (subst (λ o. Fits p (seen cs) o k) (sym free)
    (new (seen cs))) (λ r. claim-set_register p (declared p cs) fr sh ls a k r) (words_set fr.words sh a w k g.frames.words word)

-- a field of what the frame works on
pub claim_field : (p : Image) (d : Place → Kind) (fr : Frame) (sh : AbstractState) (ls : List Layer) (receiver : Receiver) (f : ℕ) → fr.receiver ≡ receiver →
    field_thing p (receiver_holder receiver) f ≡ field_thing p (holder_of p fr.method) f → is_some (field_thing p (receiver_holder receiver) f) ≡ true →
    claim p d (Method fr sh ∷ ls) (field_place receiver f) ≡ filled (field_thing p (receiver_holder receiver) f) (field sh f)
claim_field p d fr sh ls x f e own some = grind (arith, nat_tests, eq-eqb, own_there)

module _ (p : Image) (t : Typing) (c : Choice) (s : State) (fr : Frame) (sh : AbstractState) (ls : List Layer) (has_task : At p t s fr sh ls) where
  pub free_register : (a : ℕ) → is_unowning (register sh a) ≡ true → held s.cells (Register (length (tasks_of ls)) a) ≡ None
  free_register a u = fits_unowning p (seen s.cells) _ (register sh a) u (register_fits p s.cells fr sh ls has_task.good.fits a)

  pub no_word : (b : ℕ) → is_object_or_null (register sh b) ≡ true → word fr b ≡ None
  no_word b e = word_of_object (word fr b) (register sh b) e (has_task.good.stack.1.words b)

  abbrev pub Law : Instr → Type 0
  Law i = AllTrue (rule_needs p fr.method fr.place sh i) →
      AllLead t fr.method (flows p fr.method fr.place sh i) → AllTrue (needs p c fr (tasks_of ls) s i) × WellTyped p t (does p c fr (tasks_of ls) s i)

  -- a well-typed state from its parts
  pub well : (s' : State) (fr' : Frame) (sh' : AbstractState) → s'.tasks ≡ Run fr' ∷ tasks_of ls → forms s'.items ≡ objects sh'.entries (items_of ls) →
      AllUndo p s'.items → (after : AbstractState) × Good p t s'.cells (Method fr' after ∷ ls) × (after.entries ≡ sh'.entries) → WellTyped p t s'
  well s' fr' sh' tasks items undo_operations g = record {
    layers = Method fr' g.0 ∷ ls;
    tasks = tasks;
    items = items ∙ ap (λ es. objects es (items_of ls)) (sym g.2);
    undo_operations = undo_operations;
    good = g.1;
  }

  pub field_fits : (f : ℕ) → is_some (field_thing p (holder_of p fr.method) f) ≡ true →
      Fits p (seen s.cells) (held s.cells (field_place fr.receiver f)) (filled (field_thing p (receiver_holder fr.receiver) f) (field sh f))
  field_fits f some = grind (arith, nat_tests, receiver_conforms_field p, claim_field p)

  pub field_outside : (receiver : Receiver) (f : ℕ) → fr.receiver ≡ receiver → is_some (field_thing p (receiver_holder receiver) f) ≡ true → Outside (field_place receiver f) ls
  field_outside receiver f e some = grind arith

  pub field_not_from : (receiver : Receiver) (f : ℕ) → fr.receiver ≡ receiver → (o : Object) (from : Place) → receiver ≡ Inside o from → NoFieldHere (field_place receiver f) from
  field_not_from receiver f e o from e' = grind arith

  pub kind_fits : (b : ℕ) → Fits p (seen s.cells) (held s.cells (top ls b)) (register sh b)
  kind_fits b = register_fits p s.cells fr sh ls has_task.good.fits b

  pub thing_ok : (x : Thing) (o : Option Object) (k : Kind) → may_be p x k ≡ true → Fits p (seen s.cells) o k → is_thing p x o ≡ true
  thing_ok x y k e f = grind (arith, nat_tests, stands_along)

  pub declared_ok : (x : Option Thing) (o : Option Object) (k : Kind) → may_be_declared p x k ≡ true → Fits p (seen s.cells) o k → is_declared_thing p x o ≡ true
  declared_ok x o k e f = some_given (λ x. may_be_declared p x k ≡ true) x e (λ none. cc) (λ y is e. rw is (thing_ok y o k e f))

  pub declared_object : (x : Option Thing) (k : Kind) → may_be_declared p x k ≡ true → is_object_or_null k ≡ true
  declared_object x k e = grind arith

  -- a thing may be taken for one of what is declared
  pub refills : (h : CellView) (x : Option Thing) (o : Option Object) (k : Kind) → may_be_declared p x k ≡ true → is_ready_kind k ≡ true → Fits p h o k →
      Fits p h o (filled x (field_state_of k))
  refills h x o k e r f = grind (arith, nat_tests, stands_along)

  pub filled_word : (x : Option Thing) (k : Kind) → may_be_declared p x k ≡ true → WordFits None (filled x (field_state_of k))
  filled_word x k e = grind arith

  pub filled_ready : (x : Option Thing) (k : Kind) → may_be_declared p x k ≡ true → is_ready_kind (filled x (field_state_of k)) ≡ true
  filled_ready x k e = grind arith

  -- what is in a register may be claimed to be of another kind that holds of it
  pub widened : (b : ℕ) (l : Kind) → Fits p (seen s.cells) (held s.cells (top ls b)) l → WordFits (word fr b) l → Fitted p t s.cells fr (set_register sh b l) ls
  widened b l new word_fits = grind (arith, nat_tests, relabel, fitted, claim-set_register, at-set_extending, eqb-true)

  pub empties : (x : Option Thing) (y : FieldState) → is_empty y ≡ true → is_unowning (filled x y) ≡ true
  empties x y e = grind arith

  pub may_be_some : (x : Option Thing) (k : Kind) → may_be_declared p x k ≡ true → is_some x ≡ true
  may_be_some x k e = grind arith

  -- what the frame works on is nowhere claimed to be fresh
  pub this_is_ready : (receiver : Receiver) (f : ℕ) → fr.receiver ≡ receiver → (r : Place) (x : Object) → held s.cells r ≡ Some x →
      is_ready_kind (claim p (declared p s.cells) (Method fr sh ∷ ls) r) ≡ false → (g : ℕ) → same_place (field_place receiver f) (Field x.name g) ≡ false
  this_is_ready Static f e r x h fresh g = refl
  this_is_ready AtRoot f e r x h fresh g = refl
  this_is_ready (Inside o from) f e r x h fresh g = ap (λ b. b && (f == g)) (ne_eqb o.name x.name differs)
    where
      holds : Holds p s.cells ls o from
      holds = subst (λ h. ReceiverIsHeld p s.cells ls h) e has_task.good.stack.2

      apart : IsApart p fr.view fr.method (Inside o from) ls
      apart = subst (λ h. IsApart p fr.view fr.method h ls) e has_task.good.stack.3

      differs : o.name ≡ x.name → ⊥
      differs n =
          let here : from ≡ r = one_place s.cells from r o x has_task.good.no_duplicates holds.there h n in
          let ready = ap is_ready_kind (claim_from p (declared p s.cells) fr o from sh ls e apart.0 holds.below) ∙ claim_ready p s.cells ls from holds.ready in
          true≢false (sym ready ∙ ap (λ r. is_ready_kind (claim p (declared p s.cells) (Method fr sh ∷ ls) r)) here ∙ fresh)
