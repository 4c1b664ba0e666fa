-- What is known of a cell that a native serves: its place, and its request, which has no timer.
use Rattle.std.proofs.lemmas.Bool.Decides.{nat_tests}
use Rattle.std.proofs.Common.{ap, arith, Bool, cond, false, List, None, Option, refl, Some, subst, suc, sym, true, zero, ℕ, ◌==◌, ◌∙◌, ◌∷◌, ◌≡◌, []}
use Rattle.std.specs.Prelude.{◌&&◌, ◌||◌, ◌≤◌, is_none, is_some, nat_lt, not}
use Rattle.std.proofs.lemmas.Bool.{eqb-true, false≢true, ltb-false, ltb-true}
use Rattle.std.proofs.lemmas.List.{get_or_past}
use Rattle.aom_image.specs.Image.{Image}
use Rattle.aom_image.specs.declared.class.ClassKind.{ClassKind}
use Rattle.aom_image.specs.declared.method.Thing.{Thing}
use Rattle.aom_roles.specs.Things.{is_object}
use Rattle.aom_roles.specs.Shapes.{kind_of}
use Rattle.aom_machine.proofs.SemanticsLemmas.{named_name}
use Rattle.aom_cells.specs.Heap.{class_at}
use Rattle.aom_scheduler.specs.Requests.{request_at}
use Rattle.aom_active_objects.specs.Agrees.{timer_in}
use Rattle.aom_machine.proofs.DeterminismLemmas.{native_served}
use Rattle.aom_determinism.specs.Owed.{owes, serves}
use Rattle.aom_semantics.specs.Requests.{is_unanswered, thing_kind}
use Rattle.aom_semantics.specs.Natives.{is_owed, is_served_by, native_of}
use Rattle.aom_semantics.specs.Places.{Cell, Object, Request, Timer, in_session, named, requested}
use Rattle.aom_safety.specs.Requests.{Known, ConformsTo, states_claim}
use Rattle.aom_semantics.specs.State.{State}
use Rattle.aom_semantics.specs.Tokens.{awaited}
use Rattle.aom_semantics.specs.World.{cell_at as standing_at}
use Rattle.aom_machine.proofs.MachineStateLemmas.{held_owed, reported_alike}
use Rattle.aom_machine_state.specs.declared.parts.Parts.{Parts}
use Rattle.aom_machine_state.specs.Messages.{is_a_message}
use Rattle.aom_machine.specs.Serving.{serves_class}
use Rattle.aom_machine_state.specs.Stands.{Refines}

-- ---- where it stands

-- the cell of a name, counted from the newest
pub record Placed (cs : List Cell) (id : ℕ) : Type 0 where
  pub index : ℕ
  pub cell : Cell
  pub at : standing_at cs index ≡ Some cell
  pub name : cell.object.name ≡ id
  pub lives : named cs id ≡ Some cell.object
  pub asked : requested cs id ≡ cell.request

pub placed : (cs : List Cell) (id : ℕ) → is_some (named cs id) ≡ true → Placed cs id
placed [] id e = cc
placed (c ∷ cs) id e = go (c.object.name == id) refl e (placed cs id)
  where
    go : (b : Bool) → (c.object.name == id) ≡ b → is_some (cond b (Some c.object) (named cs id)) ≡ true →
        (is_some (named cs id) ≡ true → Placed cs id) → Placed (c ∷ cs) id
    go true same e rest = record {
      index = zero;
      cell = c;
      at = refl;
      name = eqb-true c.object.name id same;
      lives = ap (λ b. cond b (Some c.object) (named cs id)) same;
      asked = ap (λ b. cond b c.request (requested cs id)) same;
    }
    go false other e rest =
        let r = rest e in
        record {
          index = suc r.index;
          cell = r.cell;
          at = r.at;
          name = r.name;
          lives = ap (λ b. cond b (Some c.object) (named cs id)) other ∙ r.lives;
          asked = ap (λ b. cond b c.request (requested cs id)) other ∙ r.asked;
        }

-- ---- its request

-- of what a native serves it has its code once it is aborted, no timer, and no token that it waits for
record Answered (q : Option Request) : Type 0 where
  code : is_unanswered q ≡ false
  timer : timer_in q ≡ None
  token : awaited q ≡ None

no_timer : (t : Option Timer) → is_none t ≡ true → t ≡ None
no_timer t e = grind arith

no_order : (t : Option ℕ) → is_none t ≡ true → t ≡ None
no_order t e = grind arith

answered_by : (k : Option ClassKind) (n : ℕ) (known : Known) (q : Option Request) → native_of k ≡ Some n → ConformsTo k known q → Answered q
answered_by k n known q native conforms_to = record { code = grind arith; timer = grind (arith, no_timer); token = grind (arith, no_order) }

-- and what waits for a time waits for no token
pub ticks_unreported : (k : Option ClassKind) (known : Known) (q : Option Request) → ConformsTo k known q → is_some (timer_in q) ≡ true → awaited q ≡ None
ticks_unreported k known q conforms_to runs = grind (arith, no_order)

-- the objects of a class are served by the one native that does
pub served_class : (p : Image) (native n : ℕ) (class : Option ℕ) → native_of (kind_of p class) ≡ Some n → (n == native) ≡ serves_class p native class
unfolding kind_of
served_class p native n x e = grind arith

pub unserved_class : (p : Image) (native : ℕ) (class : Option ℕ) → native_of (kind_of p class) ≡ None → serves_class p native class ≡ false
unfolding kind_of
unserved_class p native x e = grind arith

-- a message is served by no native, and has no request
pub unserved_message : (p : Image) (native : ℕ) (t : Thing) → is_object t ≡ false → is_served_by p native t ≡ false
unfolding kind_of
unserved_message p native t e = grind arith

unrequested : (p : Image) (t : Thing) → is_object t ≡ false → (known : Known) (q : Option Request) → ConformsTo (thing_kind p t) known q → q ≡ None
unfolding kind_of
unrequested p t e known q conforms_to = grind arith

-- so what is served is an object
pub served_object : (p : Image) (native : ℕ) (t : Thing) → is_served_by p native t ≡ true → is_object t ≡ true
unfolding kind_of
served_object p native t served = grind arith

module _ (p : Image) (m : Parts) (s : State) (st : Refines (record { image = p; parts = m }) s) (native id : ℕ) where
  lives_served : serves p s.cells native id ≡ true → is_some (named s.cells id) ≡ true
  lives_served served = grind (arith, nat_tests)

  pub its_place : serves p s.cells native id ≡ true → Placed s.cells id
  its_place served = placed s.cells id (lives_served served)

  answered : serves p s.cells native id ≡ true → Answered (requested s.cells id)
  answered served = grind (arith, nat_tests, its_place served, answered_by, native_served p native)

  pub coded : serves p s.cells native id ≡ true → is_unanswered (requested s.cells id) ≡ false
  coded served = (answered served).code

  pub untimed : serves p s.cells native id ≡ true → timer_in (requested s.cells id) ≡ None
  untimed served = (answered served).timer

  pub unreported : serves p s.cells native id ≡ true → awaited (requested s.cells id) ≡ None
  unreported served = (answered served).token

  -- the machine finds its class
  pub class_reported : serves_class p native (class_at m.cells id) ≡ serves p s.cells native id
  class_reported = grind (arith, nat_tests, unserved_message p native)

  -- a message has no request, and no session
  pub message_silent : (o : Object) → named s.cells id ≡ Some o → is_object o.thing ≡ false → (is_owed (requested s.cells id) || in_session s.cells id) ≡ false
  message_silent o lives message = ap (λ q. is_owed q || in_session s.cells id) none ∙ closed
    where
      name : o.name ≡ id
      name = named_name s.cells id o lives

      none : requested s.cells id ≡ None
      none = unrequested p o.thing message (states_claim p o st.typed.layers) (requested s.cells id) (subst (λ n. ConformsTo (thing_kind p o.thing)
          (states_claim p o st.typed.layers) (requested s.cells n)) name (st.typed.good.conforms_to o (ap (named s.cells) name ∙ lives)))

      past : (b : Bool) → nat_lt id 4096 ≡ b → p.header.cells ≤ id
      past true e = absurd (false≢true (sym (st.agrees.services.messages.past id (ltb-true id 4096 e)) ∙ ap is_a_message lives ∙ ap (λ b. not b) message))
      past false e = let far = ltb-false id 4096 e in let few = st.sound.formed.header.cells in omega (arith, far, few)

      closed : in_session s.cells id ≡ false
      closed =
          let many = past (nat_lt id 4096) refl in
          let long = st.agrees.natives.limit in
          sym (st.agrees.natives.sessions id) ∙ get_or_past m.sessions.flags id false (omega (arith, many, long))

-- ---- what the table tells of it

module _ (p : Image) (m : Parts) (native id : ℕ) where
  owes_reported : (s : State) → Refines (record { image = p; parts = m }) s →
      owes p s.cells native id ≡ (serves_class p native (class_at m.cells id) && held_owed (request_at m.active.table id))
  owes_reported s st = grind (arith, nat_tests, class_reported p m s st native id, reported_alike)

  pub owes_in_all : (s u : State) → Refines (record { image = p; parts = m }) s → Refines (record { image = p; parts = m }) u →
      owes p s.cells native id ≡ true → owes p u.cells native id ≡ true
  owes_in_all s u st su owed = owes_reported u su ∙ sym (owes_reported s st) ∙ owed
