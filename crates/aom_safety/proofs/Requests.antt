-- The laws of the instructions on the request of what a method works on: it changes as what is known of it does, and no claim looks at another.
use Rattle.std.proofs.lemmas.Bool.Decides.{nat_tests}
use Rattle.std.proofs.Common.{Bool, arith, IsTrue, List, None, Option, Some, [], ap, cond, false, refl, subst, suc, sym, true, ℕ, ℤ, ◌++◌, ◌==◌, ◌∙◌, ◌∷◌, ◌≡◌}
use Rattle.std.proofs.lemmas.Bool.{eq-eqb, eqb-true}
use Rattle.std.proofs.lemmas.Nat.{and_assoc}
use Rattle.std.specs.Prelude.{bit_and, bit_or, is_none, is_some, not}
use Rattle.aom_safety.proofs.ImageLemmas.{some_given}
use Rattle.aom_image.specs.Image.{Image}
use Rattle.aom_image.specs.Views.{has, method_class, method_role}
use Rattle.aom_image.specs.declared.class.ClassKind.{ClassKind}
use Rattle.aom_image.specs.declared.method.Role.TheVariants.{Main}
use Rattle.aom_instructions.specs.declared.instr.Instr.TheVariants.{Abort, Enlist, Issue, JumpActive, JumpAdded, SetActive, Status}
use Rattle.aom_roles.specs.Shapes.{kind_of}
use Rattle.aom_roles.specs.States.{cancel_done, cancel_open, idle, issued, active, unlisted}
use Rattle.aom_typing_rules.specs.Requests.{enlisted, flow_narrowed, inactive, outstanding, own_kind}
use Rattle.aom_typing_rules.specs.Typing.{AllLead, Leads, Typing}
use Rattle.aom_safety.proofs.AbstractStateLemmas.{has_along}
use Rattle.aom_abstract_state.specs.Kinds.{is_ready_kind}
use Rattle.aom_abstract_state.specs.Needs.{Flow}
use Rattle.aom_abstract_state.specs.AbstractState.{AbstractState}
use Rattle.aom_roles.specs.Things.{holder_by, holder_of}
use Rattle.aom_safety.proofs.Callees.{holder_member, receiver_member, member_kind}
use Rattle.aom_safety.proofs.Storing.{Alike, alike_itself, fits_alike, receiver_held_alike, listed_still, on_some}
use Rattle.aom_safety.proofs.Storing.{requested_here, requested_there, request_updated_alike, stack_alike}
use Rattle.aom_safety.proofs.Straight.{frames_reworded, began, At, Fitted, Law, fitted, reframed, settle, stepped, this_is_ready, well}
use Rattle.aom_safety.proofs.ConformingTo.{same_object}
use Rattle.aom_safety.proofs.Words.{has_word, unowned, writes_word}
use Rattle.aom_safety.specs.Claims.{Layer, Method, claim, declared, tasks_of}
use Rattle.aom_semantics.specs.Effects.{Requested, applied, jumps_if, updates, asking_with}
use Rattle.aom_semantics.specs.Requests.{aborted, first_request, receiver_kind, in_phase, is_active, is_busy, is_cancelling, is_idle}
use Rattle.aom_semantics.specs.Requests.{is_issued, issued_of, on_request, own_request, request_updated, status_of, waits, Asking}
use Rattle.aom_safety.specs.Laws.{IsWired}
use Rattle.aom_semantics.specs.Places.{Cell, Object, Place, Request, held, named, requested, seen}
use Rattle.aom_safety.specs.Requests.{Known, ConformsTo, known_at, state_of, states_claim, thing_kind, works_at}
use Rattle.aom_semantics.specs.State.{Choice, Frame, Inside, Run, State, receiver_holder, next, to_place}
use Rattle.aom_safety.specs.WellTyped.{ReceiverConforms, Fits, ReceiverIsHeld, WellTyped}
use Rattle.aom_semantics.specs.Words.{read}
use Rattle.aom_instructions.specs.declared.instr.Instr.{Instr}
use Rattle.aom_roles.specs.Kinds.{is_active_kind, is_issuing_kind, is_listed_kind}

-- ---- what is known of a request

-- the object that a method works on has another request perhaps, and is in these states
restated : (p : Image) (t : Typing) (cs cs' : List Cell) (fr : Frame) (sh : AbstractState) (ls : List Layer) (o : Object) (from : Place) (states : ℕ) →
    fr.receiver ≡ Inside o from → named cs o.name ≡ Some o → Alike cs cs' → ((m : ℕ) → is_some (requested cs m) ≡ true → is_some (requested cs' m) ≡ true) →
    ((m : ℕ) → (o.name == m) ≡ false → requested cs' m ≡ requested cs m) →
    ((q : Place) (x : Object) → held cs q ≡ Some x → is_ready_kind (claim p (declared p cs) (Method fr sh ∷ ls) q) ≡ false → (o.name == x.name) ≡ false) →
    ConformsTo (thing_kind p o.thing) (known_at p fr states (states_claim p o ls)) (requested cs' o.name) →
    Fitted p t cs fr sh ls → Fitted p t cs' fr (record sh { states = states }) ls
restated p t cs cs' fr sh ls o from states receiver lives alike listed others ready conform_to g = record {
  fits = λ q. subst (λ k. Fits p (seen cs') (held cs' q) k) (sym (grind arith))
      (fits_alike p t cs cs' alike (Method fr sh ∷ ls) q (λ x e fresh. others x.name (ready q x e fresh)) (g.fits q));
  conforms_to = grind (arith, nat_tests);
  no_duplicates = alike.no_duplicates g.no_duplicates;
  frames = frames_reworded g.frames g.frames.words;
  receiver_held = receiver_held_alike p t cs cs' alike ls fr.receiver g.receiver_held;
  apart = g.apart;
  stack = stack_alike p t cs cs' alike listed ls _ g.stack;
}
  where
    known : (x : Object) → named cs' x.name ≡ Some x → (b : Bool) → (o.name == x.name) ≡ b →
        ConformsTo (thing_kind p x.thing) (cond b (known_at p fr states (states_claim p x ls)) (states_claim p x ls)) (requested cs' x.name)
    known x here y e = grind (arith, nat_tests, same_object cs o x lives)

-- an object that may be enlisted is in one of the states in which it is known to be
pub conforms_to_in : (k : Option ClassKind) (n : Known) (r : Option Request) → is_listed_kind k ≡ true → ConformsTo k n r → IsTrue (has n.states (state_of r))
conforms_to_in k n r e s = grind arith

-- and in these, where it is in one of them
conforms_to_within : (k : Option ClassKind) (b : ℕ) (n : Known) (r : Option Request) →
    is_listed_kind k ≡ true → IsTrue (has b (state_of r)) → ConformsTo k n r → ConformsTo k (record { states = b; cancelled = n.cancelled }) r
conforms_to_within k b n r e h s = grind arith

pub active_listed : (k : Option ClassKind) → is_active_kind k ≡ true → is_listed_kind k ≡ true
active_listed k e = grind arith

pub issuing_active : (k : Option ClassKind) → is_issuing_kind k ≡ true → is_active_kind k ≡ true
issuing_active k e = grind arith

-- the state of a request is one, and in the set that its phase is tested for
pub busy_in : (r : Option Request) → in_phase is_busy r ≡ true → IsTrue (has outstanding (state_of r))
busy_in r e = grind arith

pub free_in : (r : Option Request) → in_phase is_busy r ≡ false → IsTrue (has inactive (state_of r))
free_in r e = grind arith

pub listed_in : (r : Option Request) → is_some r ≡ true → IsTrue (has enlisted (state_of r))
listed_in r e = grind arith

pub unlisted_in : (r : Option Request) → is_some r ≡ false → IsTrue (has unlisted (state_of r))
unlisted_in r e = grind arith

no_state_is_none : (r : Option Request) → has 0 (state_of r) ≡ false
no_state_is_none r = grind arith

-- what is known to be in one state is
only_unlisted : (r : Option Request) → IsTrue (has unlisted (state_of r)) → r ≡ None
only_unlisted r h = grind arith

pub only_idle : (r : Option Request) → IsTrue (has idle (state_of r)) → (is_some r ≡ true) × (in_phase is_idle r ≡ true)
only_idle r h = grind arith

only_issued : (r : Option Request) → IsTrue (has issued (state_of r)) → (is_some r ≡ true) × (not (in_phase is_active r) ≡ true) × (in_phase is_issued r ≡ true)
only_issued r h = grind arith

only_cancelled : (r : Option Request) → IsTrue (has (bit_or cancel_open cancel_done) (state_of r)) → in_phase is_cancelling r ≡ true
only_cancelled r h = grind arith

-- an object that is enlisted is idle, one with a request made is issued, one that waits is active, and what is aborted is answered; whether it is being
-- cancelled stays as it was
conforms_to_enlisted : (k : Option ClassKind) (n : Known) (cs : List Cell) (priority : ℤ) →
    is_listed_kind k ≡ true → ConformsTo k n None → ConformsTo k (record { states = idle; cancelled = n.cancelled }) (Some (first_request cs priority))
conforms_to_enlisted k n cs priority l s = grind arith

conforms_to_issued : (k : Option ClassKind) (n : Known) (asking : Asking) (a : ℤ) (r : Option Request) → is_active_kind k ≡ true →
    in_phase is_idle r ≡ true → ConformsTo k n r → ConformsTo k (record { states = issued; cancelled = n.cancelled }) (on_request (issued_of k asking a) r)
conforms_to_issued k n asking a r e free s = grind arith

conforms_to_active : (k : Option ClassKind) (n : Known) (r : Option Request) →
    is_active_kind k ≡ true → in_phase is_issued r ≡ true → ConformsTo k n r → ConformsTo k (record { states = active; cancelled = n.cancelled }) (on_request waits r)
conforms_to_active k n r e made s = grind arith

conforms_to_aborted : (k : Option ClassKind) (n : Known) (r : Option Request) → is_active_kind k ≡ true →
    in_phase is_cancelling r ≡ true → ConformsTo k n r → ConformsTo k (record { states = cancel_done; cancelled = n.cancelled }) (on_request aborted r)
conforms_to_aborted k n r e under s = grind arith

-- what is in each of two sets is in what they share
pub has_common : (a b k : ℕ) → IsTrue (has a k) → IsTrue (has b k) → IsTrue (has (bit_and a b) k)
has_common a b k h g = grind (arith, nat_tests, eq-eqb, and_assoc k a b, eqb-true)

-- ---- the flows

-- ways that lead together lead by parts
lead_parts : (t : Typing) (m : ℕ) (xs ys : List Flow) → AllLead t m (xs ++ ys) → AllLead t m xs × AllLead t m ys
lead_parts t m [] ys l = (tt, l)
lead_parts t m (x ∷ xs) ys l = let rest = lead_parts t m xs ys l.1 in ((l.0, rest.0), rest.1)

-- a set that has a state is not empty
not_empty_by : (n k : ℕ) → IsTrue (has n k) → has 0 k ≡ false → (n == 0) ≡ false
not_empty_by n k h none = grind (arith, nat_tests, eqb-true n 0)

-- a way is there where the object is in one of its states
narrowed_leads : (t : Typing) (m place x : ℕ) (sh : AbstractState) → (bit_and sh.states x == 0) ≡ false → AllLead t m (flow_narrowed sh place x) →
    Leads t m place (record sh { states = bit_and sh.states x })
narrowed_leads t m place x sh some l = (subst (λ b. AllLead t m (cond b [] ((place, record sh { states = bit_and sh.states x }) ∷ []))) some l).0

-- ---- the laws

-- main is of no class
pub main_of_none : (p : Image) → IsWired p → (m : ℕ) → method_role p m ≡ Some Main → own_kind p m ≡ None
unfolding kind_of
main_of_none p wired m e = ap (λ c. kind_of p c) (wired.static_main m e)

-- what a method works on, by the class that it is of
of_class : (p : Image) → ((m : ℕ) → method_role p m ≡ Some Main → own_kind p m ≡ None) → (fr : Frame) → ReceiverConforms p (receiver_holder fr.receiver) (holder_of p fr.method) →
    is_listed_kind (own_kind p fr.method) ≡ true → (o : Object) × (from : Place) × (fr.receiver ≡ Inside o from) × (thing_kind p o.thing ≡ own_kind p fr.method)
unfolding kind_of
of_class p main_none fr holder listed = some_given (λ class. is_listed_kind (kind_of p class) ≡ true) (method_class p fr.method) listed (λ none. cc) (λ c e l.
    let no_main : method_role p fr.method ≡ Some Main → ⊥ = λ main. (let none = main_none fr.method main in grind arith) in
    let w = holder.member c (ap (λ x. holder_by (method_role p fr.method) x) e ∙ holder_member (method_role p fr.method) c no_main) in
    let found = receiver_member fr.receiver w.0 w.1 in
    (found.0, found.1, found.2, member_kind p found.0.thing w.0 found.3 ∙ w.3 ∙ ap (λ x. kind_of p x) (sym e)))

module _ (p : Image) (t : Typing) (main_none : (m : ℕ) → method_role p m ≡ Some Main → own_kind p m ≡ None)
    (c : Choice) (s : State) (fr : Frame) (sh : AbstractState) (ls : List Layer) (has_task : At p t s fr sh ls) where
  -- its object is one of the cells, and what is known of its request holds
  pub record OfObject : Type 0 where
    pub object : Object
    pub from : Place
    pub receiver : fr.receiver ≡ Inside object from
    pub kind : thing_kind p object.thing ≡ own_kind p fr.method
    pub lives : named s.cells object.name ≡ Some object
    pub conforms_to : ConformsTo (own_kind p fr.method) (known_at p fr sh.states (states_claim p object ls)) (own_request s.cells fr.receiver)

  abbrev own : Option Request
  own = own_request s.cells fr.receiver

  pub of_object : is_listed_kind (own_kind p fr.method) ≡ true → OfObject
  of_object listed =
      let found = of_class p main_none fr has_task.good.stack.1.holder listed in
      let o = found.0 in
      let holds : ReceiverIsHeld p s.cells ls (Inside o found.1) = subst (λ h. ReceiverIsHeld p s.cells ls h) found.2 has_task.good.stack.2 in
      let below : Known = states_claim p o ls in
      let here = subst (λ h. ConformsTo (thing_kind p o.thing) (cond (works_at o.name h) (known_at p fr sh.states below) below) (requested s.cells o.name)) found.2
      (has_task.good.conforms_to o holds.lives) in
      let known = subst (λ b. ConformsTo (thing_kind p o.thing) (cond b (known_at p fr sh.states below) below) (requested s.cells o.name))
      (eq-eqb o.name o.name refl) here in
      record {
        object = o;
        from = found.1;
        receiver = found.2;
        kind = found.3;
        lives = holds.lives;
        conforms_to = grind (arith, nat_tests);
      }

  -- what is known of it, in these states
  abbrev pub its : is_listed_kind (own_kind p fr.method) ≡ true → ℕ → Known
  its listed states = known_at p fr states (states_claim p (of_object listed).object ls)

  pub active_receiver : is_active_kind (own_kind p fr.method) ≡ true → is_active_kind (receiver_kind p fr.receiver) ≡ true
  active_receiver a = grind (arith, nat_tests, of_object, active_listed)

  listed_receiver : is_listed_kind (own_kind p fr.method) ≡ true → is_listed_kind (receiver_kind p fr.receiver) ≡ true
  listed_receiver l = let it = of_object l in ap (λ h. is_listed_kind (receiver_kind p h)) it.receiver ∙ ap is_listed_kind it.kind ∙ l

  pub receiver_is_own : is_listed_kind (own_kind p fr.method) ≡ true → receiver_kind p fr.receiver ≡ own_kind p fr.method
  receiver_is_own l = let it = of_object l in ap (λ h. receiver_kind p h) it.receiver ∙ it.kind

  -- no place claims the object to be fresh
  nowhere_fresh : (it : OfObject) (q : Place) (x : Object) → held s.cells q ≡ Some x →
      is_ready_kind (claim p (declared p s.cells) (Method fr sh ∷ ls) q) ≡ false → (it.object.name == x.name) ≡ false
  nowhere_fresh it q x e fresh = grind (arith, nat_tests, this_is_ready p t c s fr sh ls has_task (Inside it.object it.from) 0 it.receiver q x e fresh 0)

  -- it has that request, and is known to be in these states
  pub asked : (listed : is_listed_kind (own_kind p fr.method) ≡ true) (states : ℕ) (r : Option Request) → (is_some own ≡ true → is_some r ≡ true) →
      ConformsTo (own_kind p fr.method) (its listed states) r → Fitted p t (request_updated s.cells fr.receiver r) fr (record sh { states = states }) ls
  asked listed states r more conform_to =
      let it = of_object listed in
      let others : (m : ℕ) → (it.object.name == m) ≡ false → requested (request_updated s.cells fr.receiver r) m ≡ requested s.cells m = λ m other.
      subst (λ h. requested (request_updated s.cells h r) m ≡ requested s.cells m) (sym it.receiver) (requested_there s.cells it.object.name m r other) in
      let here : requested (request_updated s.cells fr.receiver r) it.object.name ≡ r =
      subst (λ h. requested (request_updated s.cells h r) it.object.name ≡ r) (sym it.receiver) (requested_here s.cells it.object.name r it.object it.lives) in
      restated p t s.cells (request_updated s.cells fr.receiver r) fr sh ls it.object it.from states it.receiver it.lives
      (request_updated_alike s.cells fr.receiver r) (listed_still s.cells fr.receiver r more) others (nowhere_fresh it)
      (subst (λ k. ConformsTo k (its listed states) (requested (request_updated s.cells fr.receiver r) it.object.name)) (sym it.kind) (grind (arith, nat_tests)))
      (fitted p t s.cells fr sh ls has_task.good)

  -- it is known to be in fewer states
  pub learned : (listed : is_listed_kind (own_kind p fr.method) ≡ true) (states : ℕ) → IsTrue (has states (state_of own)) →
      Fitted p t s.cells fr (record sh { states = states }) ls
  learned listed states h =
      let it = of_object listed in
      let conform_to = conforms_to_within (own_kind p fr.method) states (its listed sh.states) own listed h it.conforms_to in
      restated p t s.cells s.cells fr sh ls it.object it.from states it.receiver it.lives (alike_itself s.cells) (λ m some. some) (λ m other. refl)
      (nowhere_fresh it) (subst (λ k. ConformsTo k (its listed states) (requested s.cells it.object.name)) (sym it.kind) (grind (arith, nat_tests)))
      (fitted p t s.cells fr sh ls has_task.good)

  pub law_status : (a : ℕ) → Law p t c s fr sh ls has_task (Status a)
  law_status a n leads = ((unowned p t c s fr sh ls has_task a n.0, (active_receiver n.1.0, tt)), writes_word p t c s fr sh ls has_task a (status_of own) n.0 leads)

  -- it is in one of the states that are left of these
  within : (listed : is_listed_kind (own_kind p fr.method) ≡ true) (x : ℕ) → IsTrue (has x (state_of own)) → IsTrue (has (bit_and sh.states x) (state_of own))
  within listed x h = has_common sh.states x (state_of own) (conforms_to_in (own_kind p fr.method) (its listed sh.states) own listed (of_object listed).conforms_to) h

  pub some_left : (listed : is_listed_kind (own_kind p fr.method) ≡ true) (x : ℕ) → IsTrue (has x (state_of own)) → (bit_and sh.states x == 0) ≡ false
  some_left listed x h = not_empty_by (bit_and sh.states x) (state_of own) (within listed x h) (no_state_is_none own)

  -- a jump by the state of the request: what is learned of it is known at either place
  goes_by : (listed : is_listed_kind (own_kind p fr.method) ≡ true) (there here to : ℕ) (b : Bool) →
      (b ≡ true → IsTrue (has there (state_of own))) → (b ≡ false → IsTrue (has here (state_of own))) →
      AllLead t fr.method (flow_narrowed sh (suc fr.place) here ++ flow_narrowed sh to there) → WellTyped p t (applied p fr (tasks_of ls) s (jumps_if fr b to))
  goes_by listed there here to b if_there if_here leads = go b refl
    where
      parts : AllLead t fr.method (flow_narrowed sh (suc fr.place) here) × AllLead t fr.method (flow_narrowed sh to there)
      parts = lead_parts t fr.method (flow_narrowed sh (suc fr.place) here) (flow_narrowed sh to there) leads

      goes : (fr' : Frame) (place x : ℕ) → fr'.receiver ≡ fr.receiver → fr'.method ≡ fr.method → began fr' ≡ began fr → fr'.words ≡ fr.words → fr'.place ≡ place →
          IsTrue (has x (state_of own)) → AllLead t fr.method (flow_narrowed sh place x) → WellTyped p t (record s { tasks = Run fr' ∷ tasks_of ls })
      goes fr' place x eh em eg ew ep h l =
          let sh' : AbstractState = record sh { states = bit_and sh.states x } in
          let goes_on = narrowed_leads t fr.method place x sh (some_left listed x h) l in
          well p t c s fr sh ls has_task _ fr' sh' refl has_task.items has_task.undo_operations (settle p t s.cells fr' sh' ls
          (reframed p t s.cells fr fr' sh' ls eh em eg ew (learned listed (bit_and sh.states x) (within listed x h))) (rw em (rw ep goes_on)))

      go : (x : Bool) → b ≡ x → WellTyped p t (applied p fr (tasks_of ls) s (jumps_if fr x to))
      go true e = goes (to_place fr to) to there refl refl refl refl refl (if_there e) parts.1
      go false e = goes (next fr) (suc fr.place) here refl refl refl refl refl (if_here e) parts.0

  pub law_jump_active : (to : ℕ) → Law p t c s fr sh ls has_task (JumpActive to)
  law_jump_active to n leads = search (arith, nat_tests, active_receiver n.0, goes_by, active_listed, busy_in, free_in)

  pub law_jump_added : (to : ℕ) → Law p t c s fr sh ls has_task (JumpAdded to)
  law_jump_added to n leads = ((listed_receiver n.0, tt), goes_by n.0 enlisted unlisted to (is_some own) (listed_in own) (unlisted_in own) leads)

  -- the object's request is another, and the method goes on
  asks : (listed : is_listed_kind (own_kind p fr.method) ≡ true) (states : ℕ) (r : Option Request) →
      (is_some own ≡ true → is_some r ≡ true) → ConformsTo (own_kind p fr.method) (its listed states) r →
      Leads t fr.method (suc fr.place) (record sh { states = states }) → WellTyped p t (applied p fr (tasks_of ls) s (updates fr (Requested r)))
  asks listed states r more conform_to leads =
      let cs = request_updated s.cells fr.receiver r in
      let sh' : AbstractState = record sh { states = states } in
      well p t c s fr sh ls has_task (applied p fr (tasks_of ls) s (updates fr (Requested r)))
      (next fr) sh' refl has_task.items has_task.undo_operations (settle p t cs (next fr) sh' ls (stepped p t cs fr sh' ls (asked listed states r more conform_to)) leads)

  -- a state of the object that is one of these
  pub in_state : (listed : is_listed_kind (own_kind p fr.method) ≡ true) (x : ℕ) → IsTrue (has x sh.states) → IsTrue (has x (state_of own))
  in_state listed x h = has_along x sh.states (state_of own) h (conforms_to_in (own_kind p fr.method) (its listed sh.states) own listed (of_object listed).conforms_to)

  pub law_enlist : (priority : ℤ) → Law p t c s fr sh ls has_task (Enlist priority)
  law_enlist priority n leads =
      let it = of_object n.0 in
      let none = only_unlisted own (in_state n.0 unlisted n.1.0) in
      let conform_to = conforms_to_enlisted (own_kind p fr.method) (its n.0 sh.states) s.cells priority n.0 (rw none at it.conforms_to) in
      ((listed_receiver n.0, (ap is_none none, tt)), asks n.0 idle (Some (first_request s.cells priority)) (λ some. refl) conform_to leads.0)

  pub law_issue : (a b : ℕ) → Law p t c s fr sh ls has_task (Issue a b)
  law_issue a b n leads =
      let active = issuing_active (own_kind p fr.method) n.1.1.0 in
      let listed = active_listed (own_kind p fr.method) active in
      let it = of_object listed in
      let free = only_idle own (in_state listed idle n.1.1.1.1.0) in
      let code = read fr (tasks_of ls) s a in
      let asking = asking_with p c fr (tasks_of ls) s in
      let conform_to = subst (λ k. ConformsTo (own_kind p fr.method) (its listed issued) (on_request (issued_of k asking code) own))
      (sym (receiver_is_own listed)) (conforms_to_issued (own_kind p fr.method) (its listed sh.states) asking code own active free.1 it.conforms_to) in (
        (has_word p t c s fr sh ls has_task a n.0, (has_word p t c s fr sh ls has_task b n.1.0, grind (arith, nat_tests, receiver_is_own))),
        grind (arith, nat_tests, asks, on_some),
      )

  pub law_set_active : Law p t c s fr sh ls has_task SetActive
  law_set_active n leads =
      let listed = active_listed (own_kind p fr.method) n.0 in
      let it = of_object listed in
      let made = only_issued own (in_state listed issued n.1.0) in (
        (active_receiver n.0, (made.0, (made.1, (made.2, tt)))),
        asks listed active (on_request waits own) (on_some waits own) (conforms_to_active (own_kind p fr.method) (its listed sh.states) own n.0 made.2 it.conforms_to) leads.0,
      )

  pub law_abort : Law p t c s fr sh ls has_task Abort
  law_abort n leads =
      let listed = active_listed (own_kind p fr.method) n.0 in
      let it = of_object listed in
      let under = only_cancelled own (in_state listed (bit_or cancel_open cancel_done) n.1.0) in (
        (active_receiver n.0, (under, tt)),
        asks listed cancel_done (on_request aborted own) (on_some aborted own)
            (conforms_to_aborted (own_kind p fr.method) (its listed sh.states) own n.0 under it.conforms_to) leads.0,
      )

  -- each instruction of this file by its law
  abbrev pub of_requests : (i : Instr) → Option (Law p t c s fr sh ls has_task i)
  of_requests (JumpActive to) = Some (law_jump_active to)
  of_requests (JumpAdded to) = Some (law_jump_added to)
  of_requests (Enlist priority) = Some (law_enlist priority)
  of_requests (Issue a b) = Some (law_issue a b)
  of_requests SetActive = Some law_set_active
  of_requests Abort = Some law_abort
  of_requests (Status a) = Some (law_status a)
  of_requests _ = None
