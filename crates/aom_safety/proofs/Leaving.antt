-- A leave from a well-typed state: there is a trap, no register over it owns, and what is left to unwind is well typed.
use Rattle.std.proofs.lemmas.Bool.Decides.{nat_tests}
use Rattle.std.proofs.Common.{Bool, List, None, Option, Some, [], ap, append-nil, append_assoc, arith, cond}
use Rattle.std.proofs.Common.{false, inl, inr, length, refl, subst, sym, true, ℕ, ℤ, ◌<◌, ◌∙◌, ◌∷◌, ◌≡◌}
use Rattle.std.proofs.lemmas.Bool.{and_from, ne_eqb, true≢false}
use Rattle.std.specs.Prelude.{◌++◌}
use Rattle.aom_image.specs.Image.{Image}
use Rattle.aom_image.specs.Views.{is_quiet, leaves, method_role}
use Rattle.aom_instructions.specs.declared.instr.Instr.TheVariants.{Leave, LeaveIf}
use Rattle.aom_abstract_state.specs.Kinds.{none_owns}
use Rattle.aom_abstract_state.specs.AbstractState.{AbstractState}
use Rattle.aom_roles.specs.Things.{holder_of}
use Rattle.aom_typing_rules.specs.Typing.{Typing}
use Rattle.aom_abstract_state.specs.declared.kind.CleanupEntry.{CleanupEntry}
use Rattle.aom_abstract_state.specs.declared.kind.Kind.{Kind}
use Rattle.aom_safety.proofs.Claimed.{layer_rel}
use Rattle.aom_safety.proofs.Finishing.{ended, none_owns_at, none_owns_from}
use Rattle.aom_safety.proofs.Straight.{At, Fitted, Law, claim_register, fits_unowning, fitted, settle, stepped, well}
use Rattle.aom_safety.proofs.Words.{has_word}
use Rattle.aom_semantics.specs.Calls.{none_owns_but}
use Rattle.aom_safety.specs.Claims.{Dispatching, Dying, Form, Layer, Mark, Method, Unwinding, claim, declared, entry_claim, entry_form}
use Rattle.aom_safety.specs.Claims.{forms, items_of, objects, tasks_of, Ending, delivered, serves}
use Rattle.aom_safety.proofs.Attending.{served_claim}
use Rattle.aom_abstract_state.specs.Kinds.{is_here}
use Rattle.aom_abstract_state.specs.declared.kind.MessageState.{MessageState}
use Rattle.aom_abstract_state.specs.declared.kind.MessageState.TheVariants.{Here}
use Rattle.aom_semantics.specs.Cleanup.{above_trap_is_free, has_trap, is_negative, leave_needs, to_trap}
use Rattle.aom_semantics.specs.Places.{In_service, Cell, Elsewhere, Entry, Field, Object, Place, Register, Request, Root, CellView, held, named, requested, seen}
use Rattle.aom_semantics.specs.State.{receiver_holder, Choice, Dispatch, Frame, Receiver, Run, State, Unwind, next}
use Rattle.aom_safety.specs.WellTyped.{CountsAs, HasMessage, ReceiverConforms, AllUndo, EndsDispatch, Fits, IsApart}
use Rattle.aom_safety.specs.WellTyped.{ReceiverIsHeld, Leaves, Returns, Stack, WellTyped, past_going}
use Rattle.aom_semantics.specs.Effects.{Leaves, Same, applied, updates}
use Rattle.aom_semantics.specs.Words.{read}
use Rattle.aom_typing_rules.specs.Requests.{unissued}
use Rattle.aom_safety.specs.Requests.{AllConformTo, Joins, Known, ConformsTo, Unworked, known_at, resting_in, rests_in, states_claim, thing_kind, works_at}
use Rattle.aom_safety.proofs.ConformingTo.{known_plain, rejoins_trap, rests_there, rests_unissued, conforms_to_rests}
use Rattle.aom_image.specs.declared.class.ClassKind.{ClassKind}
use Rattle.aom_safety.specs.Laws.{IsWired}
use Rattle.aom_instructions.specs.declared.instr.Instr.{Instr}
use Rattle.aom_roles.specs.Roles.{is_cancel}
use Rattle.aom_roles.specs.Tests.{AllTrue}

-- the entries of the methods over the innermost trap, the last first
abbrev pub entries_over : List Layer → List CleanupEntry
entries_over (Method fr sh ∷ ls) = sh.entries ++ entries_over ls
entries_over _ = []

-- the layers from that trap on
abbrev pub from_trap : List Layer → List Layer
from_trap [] = []
from_trap (Method fr sh ∷ ls) = from_trap ls
from_trap (Mark gv ∷ ls) = Mark gv ∷ ls
from_trap (Dying o ∷ ls) = Dying o ∷ ls
from_trap (Ending o left ∷ ls) = Ending o left ∷ ls
from_trap (Unwinding code es ∷ ls) = Unwinding code es ∷ ls
from_trap (Dispatching d owned_chain ∷ ls) = Dispatching d owned_chain ∷ ls

tasks_from_trap : (ls : List Layer) → to_trap (tasks_of ls) ≡ tasks_of (from_trap ls)
tasks_from_trap (Method fr sh ∷ ls) = tasks_from_trap ls
tasks_from_trap _ = refl

objects_append : (es fs : List CleanupEntry) (items : List Form) → objects (es ++ fs) items ≡ objects es (objects fs items)
objects_append [] fs items = refl
objects_append (e ∷ es) fs items = ap (λ l. entry_form e ∷ l) (objects_append es fs items)

items_from_trap : (ls : List Layer) → items_of ls ≡ objects (entries_over ls) (items_of (from_trap ls))
items_from_trap (Method fr sh ∷ ls) = grind (arith, nat_tests, items_from_trap ls, objects_append sh.entries)
items_from_trap _ = refl

-- the entries of two layers as those of one
entries_join : (es fs : List CleanupEntry) (items : List Form) (k : ℕ) (below : Kind) →
    entry_claim (es ++ fs) items k below ≡ entry_claim es (objects fs items) k (entry_claim fs items k below)
entries_join [] fs items k below = refl
entries_join (e ∷ es) fs items k below = grind (arith, nat_tests, objects_append es fs items, entries_join es fs items k below)

join_claims : (p : Image) (d : Place → Kind) (code : ℤ) (es fs : List CleanupEntry) (ls : List Layer) (r : Place) →
    claim p d (Unwinding code es ∷ Unwinding code fs ∷ ls) r ≡ claim p d (Unwinding code (es ++ fs) ∷ ls) r
join_claims p d code es fs ls x = grind (arith, nat_tests, entries_join es fs)

-- what lies under a method that may leave: neither the end of the run nor a dispatch's
no_end : {A : Type 0} (p : Image) (d : Dispatch) (m : ℕ) (receiver : Receiver) → leaves p m ≡ true → EndsDispatch p d (Returns m receiver) → A
no_end p d m receiver may e = grind arith

not_going : (p : Image) (t : Typing) (cs : List Cell) (ls : List Layer) (m : ℕ) (receiver : Receiver) → leaves p m ≡ true →
    Stack p t cs (Returns m receiver) ls → past_going ls ≡ ls
not_going p t cs x m receiver e s = grind arith

-- a method ends by a leave, and its entries are still there
ended_by_leave : (p : Image) (cs : List Cell) (fr : Frame) (sh : AbstractState) (ls : List Layer) (code : ℤ) → ReceiverConforms p (receiver_holder fr.receiver) (holder_of p fr.method) →
    CountsAs p (receiver_holder fr.receiver) fr.view (holder_of p fr.method) → ReceiverIsHeld p cs ls fr.receiver → IsApart p fr.view fr.method fr.receiver ls → past_going ls ≡ ls →
    none_owns sh.registers ≡ true → (serves p fr.method ≡ true → sh.message_state ≡ Here) → HasMessage p fr ls → (r : Place) (h : CellView) (o : Option Object) →
    Fits p h o (claim p (declared p cs) (Method fr sh ∷ ls) r) → Fits p h o (claim p (declared p cs) (Unwinding code sh.entries ∷ ls) r)
ended_by_leave p cs fr sh ls code receiver_conforms counts receiver_held apart at_top n here served r h o fits = go r fits
  where
    -- the message is where it was
    message : serves p fr.method ≡ true → claim p (declared p cs) ls (Elsewhere In_service) ≡ delivered sh.message_state
    message serving = served_claim p (declared p cs) ls (served.0 serving) ∙ sym (ap delivered (here serving))

    bare : AbstractState
    bare = record sh { entries = [] }

    go : (r : Place) → Fits p h o (claim p (declared p cs) (Method fr sh ∷ ls) r) → Fits p h o (claim p (declared p cs) (Unwinding code sh.entries ∷ ls) r)
    go (Register f i) fits = ended p cs fr bare ls receiver_conforms counts receiver_held apart at_top refl n message (Register f i) h o fits
    go (Entry k) fits = fits
    go (Field m f) fits = ended p cs fr bare ls receiver_conforms counts receiver_held apart at_top refl n message (Field m f) h o (grind (arith, nat_tests))
    go (Elsewhere Root) fits = ended p cs fr bare ls receiver_conforms counts receiver_held apart at_top refl n message (Elsewhere Root) h o (grind (arith, nat_tests))
    go (Elsewhere In_service) fits = ended p cs fr bare ls receiver_conforms counts receiver_held apart at_top refl n message (Elsewhere In_service) h o fits
    go _ fits = fits

-- all methods over the trap end so
all_ended : (p : Image) (t : Typing) (cs : List Cell) (code : ℤ) (ls : List Layer) (es : List CleanupEntry) (m : ℕ) (receiver : Receiver) → leaves p m ≡ true →
    Stack p t cs (Returns m receiver) ls → (r : Place) (h : CellView) (o : Option Object) → Fits p h o (claim p (declared p cs) (Unwinding code es ∷ ls) r) →
    Fits p h o (claim p (declared p cs) (Unwinding code (es ++ entries_over ls) ∷ from_trap ls) r)
all_ended p t cs code (Method fr sh ∷ ls) es m receiver e s r h o fits =
    let may = s.0.0 e in
    let d = declared p cs in
    let one =
    layer_rel (λ x y. Fits p h o x → Fits p h o y) (λ k f. f) p (Unwinding code es) (length (tasks_of (Method fr sh ∷ ls))) (items_of (Method fr sh ∷ ls)) r _ _
    (ended_by_leave p cs fr sh ls code s.1.holder s.1.view s.2 s.3 (not_going p t cs ls _ _ may.0 s.4) may.1 may.3 s.1.message r h o) fits in
    let two = rw (join_claims p d code es sh.entries ls r) at one in
    rw (append_assoc es sh.entries (entries_over ls)) at (all_ended p t cs code ls (es ++ sh.entries) fr.method fr.receiver may.0 s.4 r h o two)
all_ended p t cs code (Mark gv ∷ ls) es m receiver e s r h o fits = rw (append-nil es) fits
all_ended p t cs code (Dispatching d owned_chain ∷ ls) es m receiver e s r h o fits = no_end p d m receiver e s.0
all_ended p t cs code _ es m receiver e s r h o fits = absurd (first_of (assumption tt, cc))

stack_from_trap : (p : Image) (t : Typing) (cs : List Cell) (ls : List Layer) (m : ℕ) (receiver : Receiver) → leaves p m ≡ true → Stack p t cs (Returns m receiver) ls →
    Stack p t cs Leaves (from_trap ls)
stack_from_trap p t cs (Method fr sh ∷ ls) m receiver e s = stack_from_trap p t cs ls fr.method fr.receiver (s.0.0 e).0 s.4
stack_from_trap p t cs (Mark gv ∷ ls) m receiver e s = (tt, s.1)
stack_from_trap p t cs (Dispatching d owned_chain ∷ ls) m receiver e s = no_end p d m receiver e s.0
stack_from_trap p t cs _ m receiver e s = absurd (first_of (assumption tt, cc))

-- all that these methods worked on may rest, and suits what stands from the trap on
unworked_from_trap : (n : ℕ) (ls : List Layer) → Unworked n ls → Unworked n (from_trap ls)
unworked_from_trap n (Method fr sh ∷ ls) u = unworked_from_trap n ls u.1
unworked_from_trap n [] u = u
unworked_from_trap n (l ∷ ls) u = u

-- the home of a method that works on the object
on_it : (p : Image) (cs : List Cell) (ls : List Layer) (x : Object) (view : Option ℕ) (m : ℕ) (receiver : Receiver) →
    named cs x.name ≡ Some x → works_at x.name receiver ≡ true → ReceiverIsHeld p cs ls receiver → IsApart p view m receiver ls → Joins p x ls
on_it p cs ls x view m receiver lives w h a = grind arith

-- what is below a frame that is not quiet is not quiet either
still_nonquiet : (a b : Bool) → (a ≡ true → b ≡ true) → b ≡ false → a ≡ false
still_nonquiet x b h e = grind arith

module _ (p : Image) (t : Typing) (wired : IsWired p) (cs : List Cell) (x : Object) where
  abbrev k : Option ClassKind
  k = thing_kind p x.thing

  abbrev r : Option Request
  r = requested cs x.name

  nonquiet_cancels : (m : ℕ) → is_quiet p m ≡ false → is_cancel (method_role p m) ≡ false
  nonquiet_cancels m nonquiet = grind (arith, nat_tests)

  -- nor does it cancel
  pub known_nonquiet : (fr : Frame) (sh : AbstractState) (ls : List Layer) → is_quiet p fr.method ≡ false → (states_claim p x ls).cancelled ≡ false →
      (states_claim p x (Method fr sh ∷ ls)).cancelled ≡ false
  known_nonquiet fr sh ls nonquiet none = grind (arith, nat_tests, nonquiet_cancels fr.method nonquiet)

  -- so no method cancels below one that is not quiet
  pub none_cancels : (ls : List Layer) (m : ℕ) (receiver : Receiver) → is_quiet p m ≡ false → Stack p t cs (Returns m receiver) ls → (states_claim p x ls).cancelled ≡ false
  none_cancels (Method fr sh ∷ ls) m receiver nonquiet s =
      let too = still_nonquiet (is_quiet p fr.method) (is_quiet p m) s.0.4 nonquiet in
      known_nonquiet fr sh ls too (none_cancels ls fr.method fr.receiver too s.4)
  none_cancels (Mark gv ∷ Method fr sh ∷ ls) m receiver nonquiet s = known_nonquiet fr sh ls s.1.0.4 (none_cancels ls fr.method fr.receiver s.1.0.4 s.1.4)
  none_cancels (Mark gv ∷ Dispatching d owned_chain ∷ ls) m receiver nonquiet s = ap (λ l. (states_claim p x l).cancelled) s.1.1
  none_cancels (Mark gv ∷ []) m receiver nonquiet s = refl
  none_cancels (Dying o ∷ ls) m receiver nonquiet s = absurd (true≢false (sym s.1.5 ∙ nonquiet))
  none_cancels (Unwinding code es ∷ ls) m receiver nonquiet s = absurd (true≢false (sym s.0.3 ∙ nonquiet))
  none_cancels (Dispatching d owned_chain ∷ ls) m receiver nonquiet s = ap (λ l. (states_claim p x l).cancelled) s.1
  none_cancels [] m receiver nonquiet s = refl
  none_cancels _ m receiver nonquiet s = absurd (first_of (assumption tt, cc))

  -- what a method that may leave works on is not being cancelled
  module _ (lives : named cs x.name ≡ Some x) where
    rested_left : (ls : List Layer) (m : ℕ) (receiver : Receiver) → leaves p m ≡ true → Stack p t cs (Returns m receiver) ls → Joins p x ls →
        ConformsTo k (resting_in (rests_in p x)) r → ConformsTo k (states_claim p x (from_trap ls)) r
    rested_left (Method fr sh ∷ ls) m receiver e s (inl w) rests =
        rested_left ls fr.method fr.receiver (s.0.0 e).0 s.4 (on_it p cs ls x fr.view fr.method fr.receiver lives w s.2 s.3) rests
    rested_left (Method fr sh ∷ ls) m receiver e s (inr u) rests = rests_there p x (from_trap ls) r (unworked_from_trap x.name ls u.1) rests
    rested_left (Mark gv ∷ Method fr sh ∷ ls) m receiver e s j rests =
        rejoins_trap p x gv fr sh ls (rests_in p x) r j (rests_unissued k) (known_nonquiet fr sh ls s.1.0.4 (none_cancels ls fr.method fr.receiver s.1.0.4 s.1.4)) rests
    rested_left (Mark gv ∷ []) m receiver e s j rests = rests
    rested_left (Mark gv ∷ l ∷ ls) m receiver e s j rests = rests_there p x (Mark gv ∷ l ∷ ls) r j rests
    rested_left (Dispatching d owned_chain ∷ ls) m receiver e s j rests = no_end p d m receiver e s.0
    rested_left _ m receiver e s j rests = absurd (first_of (assumption tt, cc))

    -- the object that a method which may leave works on
    works_left : (fr : Frame) (sh : AbstractState) (ls : List Layer) → leaves p fr.method ≡ true →
        unissued sh.states ≡ true → ReceiverIsHeld p cs ls fr.receiver → IsApart p fr.view fr.method fr.receiver ls → Stack p t cs (Returns fr.method fr.receiver) ls →
        works_at x.name fr.receiver ≡ true → ConformsTo k (known_at p fr sh.states (states_claim p x ls)) r → ConformsTo k (states_claim p x (from_trap ls)) r
    works_left fr sh ls may u receiver_held apart s w h = rested_left ls fr.method fr.receiver may s (on_it p cs ls x fr.view fr.method fr.receiver lives w receiver_held apart)
        (conforms_to_rests k sh.states r u (subst (λ n. ConformsTo k n r) (grind (arith, nat_tests, known_plain, nonquiet_cancels, none_cancels)) h))

    conforms_to_left : (ls : List Layer) (m : ℕ) (receiver : Receiver) → leaves p m ≡ true → Stack p t cs (Returns m receiver) ls → ConformsTo k (states_claim p x ls) r →
        ConformsTo k (states_claim p x (from_trap ls)) r
    conforms_to_left (Method fr sh ∷ ls) m receiver e s h = go (works_at x.name fr.receiver) refl h (λ h. conforms_to_left ls fr.method fr.receiver (s.0.0 e).0 s.4 h)
      where
        below : Known
        below = states_claim p x ls

        go : (b : Bool) → works_at x.name fr.receiver ≡ b → ConformsTo k (cond b (known_at p fr sh.states below) below) r →
            (ConformsTo k below r → ConformsTo k (states_claim p x (from_trap ls)) r) → ConformsTo k (states_claim p x (from_trap ls)) r
        go true w h rest = let may = s.0.0 e in works_left fr sh ls may.0 may.2 s.2 s.3 s.4 w h
        go false w h rest = rest h
    conforms_to_left _ m receiver e s h = h

-- so it is with all objects
all_left : (p : Image) (t : Typing) (wired : IsWired p) (cs : List Cell) (code : ℤ) (es : List CleanupEntry) (fr : Frame) (sh : AbstractState) (ls : List Layer) →
    Fitted p t cs fr sh ls → leaves p fr.method ≡ true → unissued sh.states ≡ true → AllConformTo p cs (Unwinding code es ∷ from_trap ls)
all_left p t wired cs code es fr sh ls g may u x lives = go (works_at x.name fr.receiver) refl (g.conforms_to x lives)
  where
    below : Known
    below = states_claim p x ls

    go : (b : Bool) → works_at x.name fr.receiver ≡ b → ConformsTo (thing_kind p x.thing) (cond b (known_at p fr sh.states below) below) (requested cs x.name) →
        ConformsTo (thing_kind p x.thing) (states_claim p x (from_trap ls)) (requested cs x.name)
    go true w h = works_left p t wired cs x lives fr sh ls may u g.receiver_held g.apart g.stack w h
    go false w h = conforms_to_left p t wired cs x lives ls fr.method fr.receiver may g.stack h

-- what the registers of the layers hold is as claimed
abbrev RegistersFit : Image → List Cell → List Layer → Type 0
RegistersFit p cs ls = (f i : ℕ) → f < length (tasks_of ls) → Fits p (seen cs) (held cs (Register f i)) (claim p (declared p cs) ls (Register f i))

registers_below : (p : Image) (cs : List Cell) (fr : Frame) (sh : AbstractState) (ls : List Layer) → RegistersFit p cs (Method fr sh ∷ ls) → RegistersFit p cs ls
registers_below p cs fr sh ls h f i lt = grind (arith, nat_tests, ne_eqb)

frame_is_free : (p : Image) (cs : List Cell) (fr : Frame) (sh : AbstractState) (ls : List Layer) → RegistersFit p cs (Method fr sh ∷ ls) →
    none_owns sh.registers ≡ true → none_owns_but cs (length (tasks_of ls)) None ≡ true
frame_is_free p cs fr sh ls h n = grind (arith, nat_tests, none_owns_from, fits_unowning, none_owns_at, claim_register)

-- under a method that may leave there is a trap, and the registers up to it own nothing
below_leaving : (p : Image) (t : Typing) (cs : List Cell) (ls : List Layer) (m : ℕ) (receiver : Receiver) →
    leaves p m ≡ true → Stack p t cs (Returns m receiver) ls → RegistersFit p cs ls → (has_trap (tasks_of ls) ≡ true) × (above_trap_is_free cs (tasks_of ls) ≡ true)
below_leaving p t cs (Method fr sh ∷ ls) m receiver e s h =
    grind (arith, nat_tests, below_leaving p t cs ls fr.method fr.receiver, registers_below p cs fr sh ls h, and_from, frame_is_free p cs fr sh ls h)
below_leaving p t cs (Mark gv ∷ ls) m receiver e s h = (refl, refl)
below_leaving p t cs (Dispatching d owned_chain ∷ ls) m receiver e s h = no_end p d m receiver e s.0
below_leaving p t cs _ m receiver e s h = absurd (first_of (assumption tt, cc))

-- where a method may leave and its registers own nothing, the needs of a leave are met; any frame may stand for its own
pub leave_is_met : (p : Image) (t : Typing) (cs : List Cell) (fr top_frame : Frame) (sh : AbstractState) (ls : List Layer) →
    Fitted p t cs fr sh ls → leaves p fr.method ≡ true → none_owns sh.registers ≡ true → AllTrue (leave_needs cs (Run top_frame ∷ tasks_of ls))
leave_is_met p t cs fr top_frame sh ls g may n =
    grind (arith, nat_tests, below_leaving p t cs ls fr.method fr.receiver may g.stack, registers_below p cs fr sh ls, and_from, frame_is_free p cs fr sh ls)

-- there is a trap under such a method
pub trap_is_there : (p : Image) (t : Typing) (cs : List Cell) (fr : Frame) (sh : AbstractState) (ls : List Layer) →
    Fitted p t cs fr sh ls → leaves p fr.method ≡ true → none_owns sh.registers ≡ true → has_trap (tasks_of ls) ≡ true
trap_is_there p t cs fr sh ls g may n = (leave_is_met p t cs fr fr sh ls g may n).0

pub here_is : (d : MessageState) → is_here d ≡ true → d ≡ Here
here_is d e = grind arith

-- a leave from such a state is well typed
pub leave_keeps : (p : Image) (t : Typing) → IsWired p → (s : State) (code : ℤ) (fr : Frame) (sh : AbstractState) (ls : List Layer) → forms s.items ≡ objects sh.entries
    (items_of ls) → AllUndo p s.items → Fitted p t s.cells fr sh ls → leaves p fr.method ≡ true → none_owns sh.registers ≡ true →
    unissued sh.states ≡ true → is_here sh.message_state ≡ true → WellTyped p t (record s { tasks = Unwind code ∷ to_trap (tasks_of ls) })
leave_keeps p t wired s code fr sh ls items undo_operations g may n u here = record {
  layers = Unwinding code (sh.entries ++ entries_over ls) ∷ from_trap ls;
  tasks = ap (λ ts. Unwind code ∷ ts) (tasks_from_trap ls);
  items = items ∙ ap (λ i. objects sh.entries i) (items_from_trap ls) ∙ sym (objects_append sh.entries (entries_over ls) (items_of (from_trap ls)));
  undo_operations = undo_operations;
  good = record {
    stack = (tt, stack_from_trap p t s.cells ls fr.method fr.receiver may g.stack);
    fits = λ r. all_ended p t s.cells code ls sh.entries fr.method fr.receiver may g.stack r (seen s.cells) (held s.cells r)
        (ended_by_leave p s.cells fr sh ls code g.frames.holder g.frames.view g.receiver_held g.apart
        (not_going p t s.cells ls _ _ may g.stack) n (λ serving. here_is sh.message_state here) g.frames.message r (seen s.cells) (held s.cells r) (g.fits r));
    conforms_to = all_left p t wired s.cells code (sh.entries ++ entries_over ls) fr sh ls g may u;
    no_duplicates = g.no_duplicates;
  };
}

module _ (p : Image) (t : Typing) (wired : IsWired p) (c : Choice) (s : State) (fr : Frame) (sh : AbstractState) (ls : List Layer) (has_task : At p t s fr sh ls) where
  -- from where the method stands
  met : leaves p fr.method ≡ true → none_owns sh.registers ≡ true → AllTrue (leave_needs s.cells (Run fr ∷ tasks_of ls))
  met may n = leave_is_met p t s.cells fr fr sh ls (fitted p t s.cells fr sh ls has_task.good) may n

  leaves_here : (code : ℤ) → leaves p fr.method ≡ true → none_owns sh.registers ≡ true → unissued sh.states ≡ true → is_here sh.message_state ≡ true →
      WellTyped p t (applied p fr (tasks_of ls) s (Leaves code Same))
  leaves_here code may n u here = leave_keeps p t wired s code fr sh ls has_task.items has_task.undo_operations (fitted p t s.cells fr sh ls has_task.good) may n u here

  pub law_leave : (a : ℕ) → Law p t c s fr sh ls has_task (Leave a)
  law_leave a n leads = search (arith, nat_tests, has_word p t c s fr sh ls has_task a n.0, met n.1.0 n.1.1.0, leaves_here)

  -- with a negative word only
  pub law_leave_if : (a : ℕ) → Law p t c s fr sh ls has_task (LeaveIf a)
  law_leave_if a n leads = ((has_word p t c s fr sh ls has_task a n.0, needed (is_negative p c fr (tasks_of ls) s w)), goes (is_negative p c fr (tasks_of ls) s w))
    where
      w : ℤ
      w = read fr (tasks_of ls) s a

      needed : (b : Bool) → AllTrue (cond b (leave_needs s.cells (Run fr ∷ tasks_of ls)) [])
      needed x = grind (arith, nat_tests, met)

      goes : (b : Bool) → WellTyped p t (applied p fr (tasks_of ls) s (cond b (Leaves w Same) (updates fr Same)))
      goes true = leaves_here w n.1.0 n.1.1.0 n.1.1.1.0 n.1.1.1.1.0
      goes false = well p t c s fr sh ls has_task (applied p fr (tasks_of ls) s (updates fr Same)) (next fr) sh refl has_task.items has_task.undo_operations
          (settle p t s.cells (next fr) sh ls (stepped p t s.cells fr sh ls (fitted p t s.cells fr sh ls has_task.good)) leads.0)

  -- each instruction of this file by its law
  abbrev pub of_leaves : (i : Instr) → Option (Law p t c s fr sh ls has_task i)
  of_leaves (Leave a) = Some (law_leave a)
  of_leaves (LeaveIf a) = Some (law_leave_if a)
  of_leaves _ = None
