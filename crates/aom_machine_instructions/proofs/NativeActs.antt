-- Instructions at a native: the machine's flags stand for the sessions that the checked machine then has.
use Rattle.std.proofs.lemmas.Bool.Decides.{nat_tests}
use Rattle.std.proofs.Common.{◌≡◌, ℕ, ℤ, Bool, true, false, length, List, Option, Some, None, refl, sym, ◌∙◌, subst, arith}
use Rattle.aom_image.specs.Image.{Image}
use Rattle.aom_image.specs.declared.class.ClassKind.{ClassKind}
use Rattle.aom_instructions.specs.declared.instr.Instr.TheVariants.{Ask, Close, Connect}
use Rattle.aom_roles.specs.Kinds.{is_native_kind, is_active_kind, is_listed_kind}
use Rattle.aom_cells.specs.Heap.{Lives}
use Rattle.aom_roles.specs.Tables.{set_extending}
use Rattle.aom_cells.specs.Sessions.{Sets, Standing, is_killed, is_open}
use Rattle.aom_semantics.specs.Effects.{Sessioned, applied, sets, updates}
use Rattle.aom_semantics.specs.Natives.{connected, native_of, opens, replied, session_updated}
use Rattle.aom_semantics.specs.Places.{Register, held}
use Rattle.aom_semantics.specs.State.{Counters}
use Rattle.aom_machine_instructions.proofs.SafetyLemmas.{active_listed, session_updated_alike, session_updated_requests}
use Rattle.aom_frames.specs.Tasks.{on_top, with_register}
use Rattle.aom_machine_state.specs.declared.parts.Parts.{Parts}
use Rattle.aom_machine_instructions.specs.Acts.{CurrentFrame, Does, DoesIn}
use Rattle.aom_machine_state.specs.Places.{others, WritesWord, value_in}
use Rattle.aom_machine_state.specs.Places as places
use Rattle.aom_machine_state.specs.Agrees.{Agrees, observed_by}
use Rattle.aom_machine_state.specs.Fields.{this}
use Rattle.aom_machine_instructions.specs.Next.{IsNext, counting}
use Rattle.aom_machine_state.specs.Stands.{Stands}
use Rattle.aom_machine_instructions.specs.Requests.{kind_here}
use Rattle.aom_machine_instructions.proofs.MachineStateLemmas.{cells_session_updated, natives_set, requests_alike, services_session_updated, still_opened}
use Rattle.aom_machine_instructions.proofs.GoingOn.{Beside, goes_on_as, goes_on_with, still_none, written}
use Rattle.aom_machine_instructions.proofs.ReceiverHolding.{needs_met}
use Rattle.aom_machine_instructions.proofs.RequestActs.{OnObject, finds_cell, finds_object, observed_reported, kind_reported, on_object}
use Rattle.aom_machine_instructions.proofs.Running.{free}
use Rattle.aom_machine_instructions.proofs.WordActs.{observed_at, plain_does, word_put}

-- objects that a native serves are active objects
pub native_active : (k : Option ClassKind) → is_native_kind k ≡ true → is_active_kind k ≡ true
native_active k e = grind arith

native_listed : (k : Option ClassKind) → is_native_kind k ≡ true → is_listed_kind k ≡ true
native_listed k e = active_listed k (native_active k e)

-- ---- what the code needs to know of an instruction that is next

module _ (p : Image) (m : Parts) where
  pub connect_lives : (a : ℕ) → IsNext p (Connect a) m → Lives m.cells (this m)
  connect_lives a next = finds_cell p m (Connect a) next (λ c fr ts s n. native_listed _ n.1.0)

  pub ask_lives : (a b x : ℕ) → IsNext p (Ask a b x) m → Lives m.cells (this m)
  ask_lives a b x next = finds_cell p m (Ask a b x) next (λ c fr ts s n. native_listed _ n.1.1.1.0)

  pub close_lives : IsNext p Close m → Lives m.cells (this m)
  close_lives next = finds_cell p m Close next (λ c fr ts s n. native_listed _ n.0)

  pub connect_served : (a : ℕ) → IsNext p (Connect a) m → is_native_kind (kind_here p m) ≡ true
  connect_served a next = grind (arith, nat_tests, needs_met p m (Connect a) next, finds_object p m (Connect a) next, native_listed, kind_reported p)

  pub ask_served : (a b x : ℕ) → IsNext p (Ask a b x) m → is_native_kind (kind_here p m) ≡ true
  ask_served a b x next = grind (arith, nat_tests, needs_met p m (Ask a b x) next, finds_object p m (Ask a b x) next, native_listed, kind_reported p)

  -- there is a place for the session of each cell
  pub same_places : {counts : Counters} → Stands (record { image = p; parts = counting counts m }) → length m.sessions.flags ≡ m.cells.limit
  same_places stands = stands.1.agrees.natives.limit ∙ sym stands.1.agrees.cells.limit

-- ---- the instructions

module _ (p : Image) (m : Parts) (h : CurrentFrame p m) (on : OnObject p m h) (w : Standing) (b : Bool) (set : Sets m.sessions w (this m) b) where
  -- the session is another
  beside : Beside p m h (record m { sessions = w }) (session_updated h.state.cells h.frame.receiver b) h.state.items h.state.rest
  beside = record {
    stack = refl;
    cells = cells_session_updated p m.cells h.state.cells h.frame.receiver b h.agrees.cells;
    entries = h.agrees.entries;
    requests = grind (
      arith,
      nat_tests,
      requests_alike p m.active h.state.cells,
      session_updated_requests h.state.cells h.frame.receiver b,
      session_updated_alike h.state.cells h.frame.receiver b,
      still_opened h.state.cells h.frame.receiver b,
    );
    natives = grind (arith, nat_tests, natives_set p m.sessions w h.state.killed h.state.cells on.object b on.lives);
    services = services_session_updated p h.state.cells h.frame.receiver b h.agrees.services;
    rest = h.agrees.rest;
    room = h.agrees.entry_room;
  }

  -- and a register that owned nothing has a word
  session_put : (new : Parts) (a : ℕ) (v : ℤ) → held h.state.cells (Register (length h.below) a) ≡ None →
      WritesWord a v (record m { sessions = w }) new → Agrees p new (applied p h.frame h.below h.state (sets h.frame a (Some v) (Sessioned b)))
  session_put new a v none x =
      let s = h.state in
      let n = x.number in
      let cs = session_updated s.cells h.frame.receiver b in
      subst (λ k. Agrees p k (applied p h.frame h.below s (sets h.frame a (Some v) (Sessioned b)))) (sym x.written)
      (goes_on_with p m h (record m { sessions = w }) cs s.items s.rest (set_extending None h.frame.words a (Some v))
      (on_top (with_register a n)) (with_register a n) (λ f ms. refl) beside (λ f ms e top. written p m h (record m { sessions = w }) cs a n
      (Some v) None x.small x.word f ms top (λ q. refl) (λ q. (session_updated_alike s.cells h.frame.receiver b).held_so q ∙ still_none p m h a none q)))

  session_passes : Agrees p (places.next (record m { sessions = w })) (applied p h.frame h.below h.state (updates h.frame (Sessioned b)))
  session_passes = grind (arith, nat_tests, goes_on_as p m h, beside, session_updated_alike h.state.cells h.frame.receiver b)

module _ (p : Image) (m new : Parts) (refused : List ℕ) (n : ℕ) (serves : native_of (kind_here p m) ≡ Some n) where
  pub connect_does : (a : ℕ) (w : Standing) → Sets m.sessions w (this m) (opens (is_killed m.sessions n) (is_open m.sessions (this m)) (observed_by m)) →
      WritesWord a (connected (is_killed m.sessions n) (is_open m.sessions (this m)) (observed_by m)) (record m { sessions = w }) new →
      DoesIn p refused (Connect a) m new
  unfolding DoesIn
  connect_does a w set writes h here = observed_at p m new refused (Connect a) refl h (λ c observes met typed.
      let on = on_object p m h (native_listed _ met.1.0) in
      let flag = subst (λ b. Sets m.sessions w (this m) b) (observed_reported p m h on n serves opens c observes) set in
      let word = subst (λ v. WritesWord a v (record m { sessions = w }) new) (observed_reported p m h on n serves connected c observes) writes in
      session_put p m h on w _ flag new a _ (free _ met.0) word)

  pub ask_does : (a b x : ℕ) → WritesWord a (replied (is_killed m.sessions n) (is_open m.sessions (this m)) (observed_by m)) m new → DoesIn p refused (Ask a b x) m new
  unfolding DoesIn
  ask_does a b x writes h here = observed_at p m new refused (Ask a b x) refl h (λ c observes met typed.
      let on = on_object p m h (native_listed _ met.1.1.1.0) in
      word_put p m new h a _ (free _ met.1.1.0) (subst (λ v. WritesWord a v m new) (observed_reported p m h on n serves replied c observes) writes))

pub close_does : (m : Parts) (refused : List ℕ) (w : Standing) → Sets m.sessions w (this m) false → Does refused Close m (places.next (record m { sessions = w }))
close_does m refused w set = plain_does m _ refused Close refl (λ p h c met. session_passes p m h (on_object p m h (native_listed _ met.0)) w false set)
