-- Each object and message has one line of the map of owners, but for those in a queue: the way from its owner up to an outer place goes through
-- just the places from which it hangs, it ends since what stands on it is heavier and heavier, and its end is one of those that the map begins at.
use Rattle.std.proofs.lemmas.Bool.Decides.{nat_tests}
use Rattle.std.proofs.Common.{◌≡◌, ◌∙◌, ◌<◌, ◌≤◌, ℕ, zero, suc, ◌+◌, Bool, true, false, cond, ◌==◌, ◌&&◌, List, [], ◌∷◌, ◌++◌, length, Option, Some, None}
use Rattle.std.proofs.Common.{refl, sym, ap, subst, arith}
use Rattle.std.specs.Prelude.{min, not}
use Rattle.std.proofs.lemmas.Bool.{eq-eqb, eqb-true, false≢true, ne_eqb}
use Rattle.std.proofs.lemmas.Option.{none-some, same_Some}
use Rattle.aom_image.specs.Image.{Image}
use Rattle.aom_image.specs.declared.method.Thing.{Thing}
use Rattle.aom_image.specs.declared.method.Thing.TheVariants.{Object as An_object_of, Message}
use Rattle.aom_cells.specs.Heap.{cell_at}
use Rattle.aom_cells.specs.declared.cell.Cell.{Cell as Machine_cell}
use Rattle.aom_semantics.specs.Owned.{over}
use Rattle.aom_semantics.specs.Places.{Cell, Elsewhere, Entry, Field, Going, In_service, Object, Place, Queued, Register, Root, Session, NoDuplicates, held, named}
use Rattle.aom_semantics.specs.Places.{same_place, service_of}
use Rattle.aom_semantics.specs.State.{State}
use Rattle.aom_semantics.specs.Servers.{is_among, is_queue}
use Rattle.aom_safety.specs.WellTyped.{Now}
use Rattle.aom_debug_views.proofs.SafetyLemmas.{at_session, declaring, field_thing_of, kind_at, lower_rank, rank, session_lower, waiting_message}
use Rattle.aom_debug_views.proofs.SemanticsLemmas.{held_lives, named_name, one_place, same_place-true, same_place_refl}
use Rattle.aom_machine_state.specs.declared.parts.Parts.{Parts}
use Rattle.aom_machine_state.specs.Places.{value}
use Rattle.aom_machine_state.specs.Serving.{owner_of as owner_by, waits_in}
use Rattle.aom_machine_state.specs.Stands.{MachineModel, Refines}
use Rattle.aom_debug_views.specs.Laws.{SessionsApart, ReportedOnce, has_line, lines_of}
use Rattle.aom_debug_views.specs.Owners.{At_root, At_service, By_field, By_session, In_going, In_register, Outer, Owned, Way, beneath, entries_map}
use Rattle.aom_debug_views.specs.Owners.{further, generations, goings_map, grown, is_frame, is_going, owners, registers_map, tree}
use Rattle.aom_debug_views.specs.CellViews.{counted}
use Rattle.aom_debug_views.specs.Reporting.{gathered}
use Rattle.aom_cells.specs.Heap.{field_of, null}
use Rattle.aom_frames.specs.declared.item.Item.{Item as Machine_item}
use Rattle.aom_frames.specs.declared.task.Task.{Task as Machine_task}
use Rattle.aom_frames.specs.declared.task.Task.TheVariants.{Run as Runs_frame}
use Rattle.aom_debug_views.proofs.MachineInstructionsLemmas.{not_null}
use Rattle.std.proofs.Math.Nat.{lt_of_not-le}
use Rattle.std.proofs.lemmas.List.{get_or_past}
use Rattle.aom_debug_views.proofs.Showing.{as_many_items, entry_there, owned_over}
use Rattle.aom_debug_views.proofs.Tasks.{as_many_tasks, frame_there, going_over, going_there, register_over, register_there}
use Rattle.aom_debug_views.proofs.Sums.{bit, sum_add, sum_none, sum_of, sum_of_add, sum_of_none, sum_of_one, sum_of_same, sum_one, sum_same, sum_to}
use Rattle.aom_clients.specs.Lists.{IsIn, IsOnce}
use Rattle.std.specs.List.{flat_map}
use Rattle.aom_roles.specs.Things.{is_object}

-- ---- lines

lines_append : (n : ℕ) (xs ys : List Owned) → lines_of n (xs ++ ys) ≡ lines_of n xs + lines_of n ys
lines_append n [] ys = omega arith
lines_append n (x ∷ xs) ys = grind (arith, nat_tests, lines_append n xs ys)

lines_gathered : (n : ℕ) (f : ℕ → List Owned) (m : ℕ) → lines_of n (gathered f m) ≡ sum_to (λ k. lines_of n (f k)) m
lines_gathered n f zero = refl
lines_gathered n f (suc m) = lines_append n (gathered f m) (f m) ∙ ap (λ k. k + lines_of n (f m)) (lines_gathered n f m)

lines_flat : (n : ℕ) (f : ℕ → List Owned) (cs : List ℕ) → lines_of n (flat_map f cs) ≡ sum_of (λ c. lines_of n (f c)) cs
lines_flat n f [] = refl
lines_flat n f (c ∷ cs) = lines_append n (f c) (flat_map f cs) ∙ ap (λ k. lines_of n (f c) + k) (lines_flat n f cs)

-- of what an object owns, and of nothing of a message
abbrev beneath_count : Thing → ℕ → ℕ
beneath_count (An_object_of c) k = k
beneath_count Message k = 0

lines_beneath : (n : ℕ) (t : Thing) (xs : List Owned) → lines_of n (beneath t xs) ≡ beneath_count t (lines_of n xs)
lines_beneath n x xs = grind arith

beneath_zero : (t : Thing) (k : ℕ) → k ≡ 0 → beneath_count t k ≡ 0
beneath_zero x k none = grind arith

-- one more where what owns it is an object
beneath_more : (t : Thing) (b k : ℕ) → (t ≡ Message → b ≡ 0) → b + beneath_count t k ≡ beneath_count t (b + k)
beneath_more x b k none = grind arith

bit_more : (b : Bool) (n : ℕ) → cond b (suc n) n ≡ bit b + n
bit_more x n = grind arith

-- ---- places

-- two places that hold are one where what they hold has one name
place_bit : (cs : List Cell) → NoDuplicates cs → (q r : Place) (x o : Object) → held cs q ≡ Some x → held cs r ≡ Some o → bit (same_place r q) ≡ bit (o.name == x.name)
place_bit cs no_duplicates q r x o there here = go (same_place r q) refl
  where
    go : (b : Bool) → same_place r q ≡ b → bit b ≡ bit (o.name == x.name)
    go true is = grind (arith, nat_tests, same_Some o x, same_place-true r q is, bit, eq-eqb o.name x.name)
    go false is = grind (arith, nat_tests, one_place cs r q o x no_duplicates here there)

-- a place that holds nothing is none that holds
none_bit : (cs : List Cell) (q r : Place) (x : Object) → held cs q ≡ Some x → held cs r ≡ None → bit (same_place r q) ≡ 0
none_bit cs q r x there none = grind (arith, nat_tests, bit, same_place-true r q)

module _ {A : Type 0} where
  within_over : (xs : List A) (k : ℕ) (x : A) → over xs k ≡ Some x → k < length xs
  within_over [] k x is = absurd (none-some x is)
  within_over (y ∷ ys) k x is = grind (arith, nat_tests, within_over ys k x, eqb-true)

-- what lives is held by the place that owns its cell
owner_there : (cs : List Cell) → NoDuplicates cs → (n : ℕ) (x : Object) → named cs n ≡ Some x → (q : Place) × (owner_by cs n ≡ Some q) × (held cs q ≡ Some x)
owner_there [] no_duplicates n x is = absurd (none-some x is)
owner_there (c ∷ cs) no_duplicates n x is = go (c.object.name == n) (owner_there cs no_duplicates.2 n x) is
  where
    later : (q : Place) → held cs q ≡ Some x → (b : Bool) → same_place c.owner q ≡ b → cond b (Some c.object) (held cs q) ≡ Some x
    later q holds y same = grind (arith, nat_tests, same_place-true)

    go : (b : Bool) → (named cs n ≡ Some x → (q : Place) × (owner_by cs n ≡ Some q) × (held cs q ≡ Some x)) →
        cond b (Some c.object) (named cs n) ≡ Some x → (q : Place) × (cond b (Some c.owner) (owner_by cs n) ≡ Some q) × (held (c ∷ cs) q ≡ Some x)
    go true below is = (c.owner, refl, ap (λ b. cond b (Some c.object) (held cs c.owner)) (same_place_refl c.owner) ∙ is)
    go false below is = let found = below is in (found.0, found.1, later found.0 found.2 (same_place c.owner found.0) refl)

-- a client that stands among others
among_is : (c : ℕ) (cs : List ℕ) → is_among c cs ≡ true → IsIn c cs
among_is c [] among = absurd (false≢true among)
among_is c (d ∷ cs) among = grind (arith, nat_tests, among_is c cs, eqb-true d c)

-- the way from a place up to one that the map begins at, or to a queue
data Up (s : State) : Place → Type 0 where
  up_register : {d i : ℕ} → d < length s.tasks → i < 16 → Up s (Register d i)
  up_entry : {k : ℕ} → k < length s.items → Up s (Entry k)
  up_going : {d : ℕ} → d < length s.tasks → Up s (Going d)
  up_root : Up s (Elsewhere Root)
  up_service : Up s (Elsewhere In_service)
  up_queue : {n k : ℕ} → Up s (Elsewhere (Queued n k))
  up_field : {n f : ℕ} (o : Object) (q : Place) → named s.cells n ≡ Some o → held s.cells q ≡ Some o → is_object o.thing ≡ true → f < 8 → Up s q → Up s (Field n f)
  up_session : {n c : ℕ} (o : Object) (q : Place) → named s.cells n ≡ Some o →
      held s.cells q ≡ Some o → is_object o.thing ≡ true → IsIn c (service_of s.cells n).sessions → Up s q → Up s (Elsewhere (Session n c))

-- it ends at one that the map begins at
abbrev ends_reported : {s : State} {q : Place} → Up s q → Bool
ends_reported (up_field o q there holds high few ends) = ends_reported ends
ends_reported (up_session o q there holds high within ends) = ends_reported ends
ends_reported up_queue = false
ends_reported _ = true

-- ---- how high

module _ (m : MachineModel) (s : State) (st : Refines m s) (sessions_once : SessionsApart m.parts) where
  abbrev p : Image
  p = m.image

  abbrev cs : List Cell
  cs = s.cells

  abbrev no_duplicates : NoDuplicates cs
  no_duplicates = st.typed.good.no_duplicates

  -- the sessions of a server are those of the machine
  owned_objects_once : (n : ℕ) → IsOnce (service_of cs n).sessions
  owned_objects_once n = subst IsOnce (st.agrees.services.clients.sessions n) (sessions_once n)

  -- no thing stands higher than as many generations as there may be classes
  abbrev height : Thing → ℕ
  height x = min 256 (rank p st.sound.wired x)

  abbrev held_height : Option Object → ℕ
  held_height None = 0
  held_height (Some o) = suc (height o.thing)

  low_enough : (r : Place) → held_height (held cs r) ≤ 257
  low_enough r = grind (arith, nat_tests)

  -- and what stands over something is an object
  is_high : (x y : Thing) → height x < height y → is_object y ≡ true
  is_high x y less = grind arith

  few_classes : length p.classes ≤ 256
  few_classes = st.sound.formed.classes.count

  -- an object owns what stands lower
  field_owner : (n f : ℕ) (x : Object) → held cs (Field n f) ≡ Some x → (o : Object) × (named cs n ≡ Some o) × (height x.thing < height o.thing)
  field_owner n f x holds =
      let y = kind_at p st.typing st.sound.wired s st.typed (Field n f) x holds in
      let owner = field_thing_of p st.typing cs st.typed.layers Now n f y.0 st.typed.good.stack y.1 in
      let less = lower_rank p st.sound.wired owner.0.thing y.0 x.thing f owner.2 y.2 in
      let within = declaring p st.sound.wired owner.0.thing y.0 f owner.2 in
      (owner.0, owner.1, omega (arith, less, within, few_classes))

  session_owner : (n c : ℕ) (x : Object) → held cs (Elsewhere (Session n c)) ≡ Some x →
      (o : Object) × (named cs n ≡ Some o) × (height x.thing < height o.thing) × IsIn c (service_of cs n).sessions
  session_owner n c x holds =
      let owner = at_session p st.typing st.sound.wired s st.typed n c x holds in
      let lower = session_lower p st.sound.wired owner.0 x.thing owner.3 in
      (owner.0, owner.1, omega (arith, lower.0, lower.1, few_classes), among_is c (service_of cs n).sessions owner.2)

  -- of what a place holds
  lower : (r : Place) (o x : Object) (f : ℕ) → held cs r ≡ Some o → held cs (Field o.name f) ≡ Some x → height x.thing < height o.thing
  lower r o x f holds below = grind (arith, nat_tests, field_owner o.name f x below, same_Some, held_lives)

  lower_owned_object : (r : Place) (o x : Object) (c : ℕ) → held cs r ≡ Some o → held cs (Elsewhere (Session o.name c)) ≡ Some x → height x.thing < height o.thing
  lower_owned_object r o x c holds below = grind (arith, session_owner o.name c x below, held_lives)

  -- ---- the way from a place up to an outer one

  -- how often a place stands on it
  abbrev occurs : (r q : Place) → Up s q → ℕ
  occurs r q (up_field o above there holds high few ends) = bit (same_place r q) + occurs r above ends
  occurs r q (up_session o above there holds high within ends) = bit (same_place r q) + occurs r above ends
  occurs r q _ = bit (same_place r q)

  -- a place that holds nothing does not
  occurs_none : (r q : Place) (e : Up s q) (x : Object) → held cs q ≡ Some x → held cs r ≡ None → occurs r q e ≡ 0
  occurs_none r q (up_field o above there holds high few ends) x on none = let here = none_bit cs q r x on none in let rest =
      occurs_none r above ends o holds none in omega (arith, here, rest)
  occurs_none r q (up_session o above there holds high within ends) x on none = let here = none_bit cs q r x on none in let rest =
      occurs_none r above ends o holds none in omega (arith, here, rest)
  occurs_none r q (up_register deep small) x on none = none_bit cs q r x on none
  occurs_none r q (up_entry high) x on none = none_bit cs q r x on none
  occurs_none r q (up_going deep) x on none = none_bit cs q r x on none
  occurs_none r q up_root x on none = none_bit cs q r x on none
  occurs_none r q up_service x on none = none_bit cs q r x on none
  occurs_none r q up_queue x on none = none_bit cs q r x on none

  -- as often as its fields and its sessions do
  abbrev under_it : Object → (q : Place) → Up s q → ℕ
  under_it o q e = sum_to (λ f. occurs (Field o.name f) q e) 8 + sum_of (λ c. occurs (Elsewhere (Session o.name c)) q e) (service_of cs o.name).sessions

  -- a message is no object
  no_owner : (r : Place) (o y : Object) (n : ℕ) → held cs r ≡ Some o → named cs n ≡ Some y → is_object y.thing ≡ true → o.thing ≡ Message → bit (o.name == n) ≡ 0
  no_owner r o y n here there high message = grind (arith, held_lives)

  -- what owns it on the way
  by_name : (r : Place) (o y : Object) (n : ℕ) → named cs n ≡ Some y → bit (o.name == y.name) ≡ bit (o.name == n)
  by_name r o y n there = ap (λ k. bit (o.name == k)) (named_name cs n y there)

  last_apart : (a b : Bool) → b ≡ false → bit (a && b) ≡ 0
  last_apart x b other = grind (arith, nat_tests, bit)

  last_same : (a : Bool) → bit (a && true) ≡ bit a
  last_same x = grind arith

  -- where the way begins at its end
  ends_here : (r q : Place) (e : Up s q) (x o : Object) → held cs q ≡ Some x → held cs r ≡ Some o → occurs r q e ≡ bit (same_place r q) → under_it o q e
      ≡ sum_to (λ f. 0) 8 + sum_of (λ c. 0) (service_of cs o.name).sessions → occurs r q e ≡ bit (o.name == x.name) + beneath_count o.thing (under_it o q e)
  ends_here r q e x o on here lone nothing = grind (arith, place_bit, sum_of_none)

  -- one that holds an object stands there as often as that is what the way begins with, and as its fields and sessions stand there
  split : (r q : Place) (e : Up s q) (x o : Object) → held cs q ≡ Some x → held cs r ≡ Some o →
      occurs r q e ≡ bit (o.name == x.name) + beneath_count o.thing (under_it o q e)
  split r (Field n f) (up_field y above there holds high few ends) x o on here =
      let first = place_bit cs no_duplicates (Field n f) r x o on here in
      let rest = split r above ends y o holds here in
      let fields = sum_add (λ k. bit ((o.name == n) && (k == f))) (λ k. occurs (Field o.name k) above ends) 8 in
      let one = sum_one (λ k. bit ((o.name == n) && (k == f))) f 8 few (λ k other. last_apart (o.name == n) (k == f) other) in
      let this : bit ((o.name == n) && (f == f)) ≡ bit (o.name == n) = ap (λ b. bit ((o.name == n) && b)) (eq-eqb f f refl) ∙ last_same (o.name == n) in
      let name = by_name r o y n there in
      let more = beneath_more o.thing (bit (o.name == n)) (under_it o above ends) (no_owner r o y n here there high) in
      let owned_chain = sum_of_same (λ c. 0 + occurs (Elsewhere (Session o.name c)) above ends) (λ c. occurs (Elsewhere (Session o.name c)) above ends)
      (service_of cs o.name).sessions (λ c. omega arith) in
      let all : bit (o.name == n) + under_it o above ends ≡ under_it o (Field n f) (up_field y above there holds high few ends) =
      omega (arith, fields, one, this, owned_chain) in
      let under = ap (beneath_count o.thing) all in
      omega (arith, first, rest, name, more, under)
  split r (Elsewhere (Session n c)) (up_session y above there holds high within ends) x o on here =
      let q = Elsewhere (Session n c) in
      let first = place_bit cs no_duplicates q r x o on here in
      let rest = split r above ends y o holds here in
      let owned_chain = sum_of_add (λ d. bit ((o.name == n) && (d == c))) (λ d. occurs (Elsewhere (Session o.name d)) above ends) (service_of cs o.name).sessions in
      let one = one_owned_object (o.name == n) refl in
      let name = by_name r o y n there in
      let more = beneath_more o.thing (bit (o.name == n)) (under_it o above ends) (no_owner r o y n here there high) in
      let all : bit (o.name == n) + under_it o above ends ≡ under_it o q (up_session y above there holds high within ends) = omega (arith, owned_chain, one) in
      let under = ap (beneath_count o.thing) all in
      omega (arith, first, rest, name, more, under)
    where
      one_owned_object : (b : Bool) → (o.name == n) ≡ b → sum_of (λ d. bit ((o.name == n) && (d == c))) (service_of cs o.name).sessions ≡ bit (o.name == n)
      one_owned_object true is = grind (arith, nat_tests, sum_of_one)
      one_owned_object false is = grind (arith, nat_tests, sum_of_none, bit)
  split r q (up_register deep small) x o on here = ends_here r q (up_register deep small) x o on here refl refl
  split r q (up_entry high) x o on here = ends_here r q (up_entry high) x o on here refl refl
  split r q (up_going deep) x o on here = ends_here r q (up_going deep) x o on here refl refl
  split r q up_root x o on here = ends_here r q up_root x o on here refl refl
  split r q up_service x o on here = ends_here r q up_service x o on here refl refl
  split r q up_queue x o on here = ends_here r q up_queue x o on here refl refl

  -- so what hangs from a place has a line of an object as often as the place stands on the way from it
  hangs_on : (fuel : ℕ) (w : Way) (r q : Place) (e : Up s q) (x : Object) → held cs q ≡ Some x → held_height (held cs r) ≤ fuel →
      lines_of x.name (tree cs fuel w (held cs r)) ≡ occurs r q e
  hangs_on zero w r q e x on low = grind (arith, nat_tests, occurs_none r q e x on)
  hangs_on (suc fuel) w r q e x on low = go (λ w r low. hangs_on fuel w r q e x on low) (held cs r) refl low
    where
      lower_still : (o : Object) → held cs r ≡ Some o → suc (height o.thing) ≤ suc fuel → (f : ℕ) (y : Option Object) →
          held cs (Field o.name f) ≡ y → held_height y ≤ fuel
      lower_still o is low f None there = omega arith
      lower_still o is low f (Some y) there = let less = lower r o y f is there in omega (arith, less, low)

      lower_there : (o : Object) → held cs r ≡ Some o → suc (height o.thing) ≤ suc fuel → (c : ℕ) (y : Option Object) →
          held cs (Elsewhere (Session o.name c)) ≡ y → held_height y ≤ fuel
      lower_there o is low c None there = omega arith
      lower_there o is low c (Some y) there = let less = lower_owned_object r o y c is there in omega (arith, less, low)

      below : (o : Object) → ℕ → List Owned
      below o f = tree cs fuel (further w (By_field f)) (held cs (Field o.name f))

      beyond : (o : Object) → ℕ → List Owned
      beyond o c = tree cs fuel (further w (By_session c)) (held cs (Elsewhere (Session o.name c)))

      go : ((w : Way) (r : Place) → held_height (held cs r) ≤ fuel → lines_of x.name (tree cs fuel w (held cs r)) ≡ occurs r q e) →
          (o : Option Object) → held cs r ≡ o → held_height o ≤ suc fuel → lines_of x.name (tree cs (suc fuel) w o) ≡ occurs r q e
      go deeper None is low = sym (occurs_none r q e x on is)
      go deeper (Some o) is low =
          let owned_chain = (service_of cs o.name).sessions in
          let owned = gathered (below o) 8 ++ flat_map (beyond o) owned_chain in
          let counted_so = bit_more (o.name == x.name) (lines_of x.name (beneath o.thing owned)) in
          let both = lines_append x.name (gathered (below o) 8) (flat_map (beyond o) owned_chain) in
          let fields = lines_gathered x.name (below o) 8 in
          let sessions = lines_flat x.name (beyond o) owned_chain in
          let each = sum_same (λ f. lines_of x.name (below o f)) (λ f. occurs (Field o.name f) q e) 8
          (λ f less. deeper (further w (By_field f)) (Field o.name f) (lower_still o is low f (held cs (Field o.name f)) refl)) in
          let every = sum_of_same (λ c. lines_of x.name (beyond o c)) (λ c. occurs (Elsewhere (Session o.name c)) q e) owned_chain
          (λ c. deeper (further w (By_session c)) (Elsewhere (Session o.name c)) (lower_there o is low c (held cs (Elsewhere (Session o.name c))) refl)) in
          let under : lines_of x.name owned ≡ under_it o q e = omega (arith, both, fields, sessions, each, every) in
          let down = lines_beneath x.name o.thing owned ∙ ap (beneath_count o.thing) under in
          let all = split r q e x o on is in
          counted_so ∙ omega (arith, down, all)

  -- and no object that has no such way has one
  none_hangs : (fuel : ℕ) (w : Way) (r : Place) (n : ℕ) → named cs n ≡ None → lines_of n (tree cs fuel w (held cs r)) ≡ 0
  none_hangs zero w r n none = refl
  none_hangs (suc fuel) w r n none = go (λ w r. none_hangs fuel w r n none) (held cs r) refl
    where
      below : (o : Object) → ℕ → List Owned
      below o f = tree cs fuel (further w (By_field f)) (held cs (Field o.name f))

      beyond : (o : Object) → ℕ → List Owned
      beyond o c = tree cs fuel (further w (By_session c)) (held cs (Elsewhere (Session o.name c)))

      go : ((w : Way) (r : Place) → lines_of n (tree cs fuel w (held cs r)) ≡ 0) → (o : Option Object) → held cs r ≡ o → lines_of n (tree cs (suc fuel) w o) ≡ 0
      go deeper None is = refl
      go deeper (Some o) is =
          let owned_chain = (service_of cs o.name).sessions in
          let owned = gathered (below o) 8 ++ flat_map (beyond o) owned_chain in
          let other = ne_eqb o.name n (λ same. none-some o (sym none ∙ ap (named cs) (sym same) ∙ held_lives cs r o no_duplicates is)) in
          let both = lines_append n (gathered (below o) 8) (flat_map (beyond o) owned_chain) in
          let fields = lines_gathered n (below o) 8 ∙ sum_none (λ f. lines_of n (below o f)) 8 (λ f less. deeper (further w (By_field f)) (Field o.name f)) in
          let sessions = lines_flat n (beyond o) owned_chain
          ∙ sum_of_none (λ c. lines_of n (beyond o c)) owned_chain (λ c among. deeper (further w (By_session c)) (Elsewhere (Session o.name c))) in
          let under : lines_of n owned ≡ 0 = omega (arith, both, fields, sessions) in
          ap (λ b. cond b (suc (lines_of n (beneath o.thing owned))) (lines_of n (beneath o.thing owned))) other ∙ lines_beneath n o.thing owned
          ∙ beneath_zero o.thing (lines_of n owned) under

  -- ---- all outer places

  abbrev weigh : (Place → ℕ) → ℕ
  weigh g = g (Elsewhere Root) + (sum_to (λ d. sum_to (λ i. g (Register d i)) 16)
      (length s.tasks) + (sum_to (λ k. g (Entry k)) (length s.items) + (g (Elsewhere In_service) + sum_to (λ d. g (Going d)) (length s.tasks))))

  -- what hangs from a register
  abbrev hanging_at : (depth register : ℕ) → List Owned
  hanging_at d i = grown cs (In_register (counted (λ k. is_frame (over s.tasks k)) d) i) (Register d i)

  lines_weighed : (n : ℕ) (g : Place → ℕ) → ((outer : Outer) (r : Place) → lines_of n (grown cs outer r) ≡ g r) → lines_of n (owners s) ≡ weigh g
  lines_weighed n g each =
      let registers = registers_map s (length s.tasks) in
      let entries = entries_map s (length s.items) in
      let goings = goings_map s (length s.tasks) in
      let service = grown cs At_service (Elsewhere In_service) in
      let first = lines_append n (grown cs At_root (Elsewhere Root)) (registers ++ (entries ++ (service ++ goings))) in
      let second = lines_append n registers (entries ++ (service ++ goings)) in
      let third = lines_append n entries (service ++ goings) in
      let fourth = lines_append n service goings in
      let served = each At_service (Elsewhere In_service) in
      let root = each At_root (Elsewhere Root) in
      let of_registers : lines_of n registers ≡ sum_to (λ d. sum_to (λ i. g (Register d i)) 16) (length s.tasks) = lines_gathered n _ (length s.tasks)
      ∙ sum_same _ (λ d. sum_to (λ i. g (Register d i)) 16) (length s.tasks) (λ d less. lines_gathered n (hanging_at d) 16 ∙ sum_same (λ i. lines_of n
      (hanging_at d i)) (λ i. g (Register d i)) 16 (λ i few. each (In_register (counted (λ k. is_frame (over s.tasks k)) d) i) (Register d i))) in
      let of_entries : lines_of n entries ≡ sum_to (λ k. g (Entry k)) (length s.items) = grind (arith, lines_gathered n) in
      let of_goings : lines_of n goings ≡ sum_to (λ d. g (Going d)) (length s.tasks) = lines_gathered n _ (length s.tasks)
      ∙ sum_same _ (λ d. g (Going d)) (length s.tasks) (λ d less. each (In_going (counted (λ j. is_going (over s.tasks j)) d)) (Going d)) in
      omega (arith, first, second, third, fourth, root, served, of_registers, of_entries, of_goings)

  weigh_same : (g h : Place → ℕ) → g (Elsewhere Root) ≡ h (Elsewhere Root) → ((d i : ℕ) → g (Register d i) ≡ h (Register d i)) →
      ((k : ℕ) → g (Entry k) ≡ h (Entry k)) → g (Elsewhere In_service) ≡ h (Elsewhere In_service) → ((d : ℕ) → g (Going d) ≡ h (Going d)) → weigh g ≡ weigh h
  weigh_same g h root registers entries service goings = let first = sum_same (λ d. sum_to (λ i. g (Register d i)) 16) (λ d. sum_to (λ i. h (Register d i)) 16)
      (length s.tasks) (λ d less. sum_same (λ i. g (Register d i)) (λ i. h (Register d i)) 16 (λ i few. registers d i)) in
      let second = sum_same (λ k. g (Entry k)) (λ k. h (Entry k)) (length s.items) (λ k less. entries k) in
      let third = sum_same (λ d. g (Going d)) (λ d. h (Going d)) (length s.tasks) (λ d less. goings d) in
      omega (arith, root, first, second, service, third)

  -- no way ends at a register
  no_registers : (g : Place → ℕ) → ((d i : ℕ) → g (Register d i) ≡ 0) → sum_to (λ d. sum_to (λ i. g (Register d i)) 16) (length s.tasks) ≡ 0
  no_registers g none = sum_none (λ d. sum_to (λ i. g (Register d i)) 16) (length s.tasks) (λ d less. sum_none (λ i. g (Register d i)) 16 (λ i few. none d i))

  -- or at one of that number
  met : (n : ℕ) → bit ((n == n) && true) ≡ 1
  met n = ap (λ b. bit (b && true)) (eq-eqb n n refl)

  -- each way ends at just one of them, or at a queue, and goes through no other
  weigh_one : (q : Place) (e : Up s q) → weigh (λ r. occurs r q e) ≡ bit (ends_reported e)
  weigh_one (Field n f) (up_field y above there holds high few ends) = grind (arith, weigh_same, weigh_one above ends)
  weigh_one (Elsewhere (Session n c)) (up_session y above there holds high within ends) = grind (arith, weigh_same, weigh_one above ends)
  weigh_one (Register D I) (up_register deep small) =
      let inner = sum_one (λ i. here D i) I 16 small (λ i other. other_register (D == D) (i == I) other) in
      let outer = sum_one (λ d. sum_to (λ i. here d i) 16) D (length s.tasks) deep
      (λ d other. sum_none (λ i. here d i) 16 (λ i less. ap (λ b. bit (b && (i == I))) other)) in
      let entries = sum_none (λ k. occurs (Entry k) (Register D I) (up_register deep small)) (length s.items) (λ k less. refl) in
      let goings = sum_none (λ d. occurs (Going d) (Register D I) (up_register deep small)) (length s.tasks) (λ k less. refl) in
      omega (arith, inner, outer, entries, goings, one)
    where
      here : (d i : ℕ) → ℕ
      here d i = bit ((d == D) && (i == I))

      one : here D I ≡ 1
      one = ap (λ b. bit (b && (I == I))) (eq-eqb D D refl) ∙ ap bit (eq-eqb I I refl)

      other_register : (a b : Bool) → b ≡ false → bit (a && b) ≡ 0
      other_register x b other = grind (arith, nat_tests, bit)
  weigh_one (Entry K) (up_entry high) =
      let entries = sum_one (λ k. bit ((k == K) && true)) K (length s.items) high (λ k other. ap (λ b. bit (b && true)) other) in
      let registers = no_registers (λ r. occurs r (Entry K) (up_entry high)) (λ d i. refl) in
      let goings = sum_none (λ d. occurs (Going d) (Entry K) (up_entry high)) (length s.tasks) (λ k less. refl) in
      omega (arith, entries, registers, goings, met K)
  weigh_one (Going D) (up_going deep) =
      let goings = sum_one (λ d. bit ((d == D) && true)) D (length s.tasks) deep (λ d other. ap (λ b. bit (b && true)) other) in
      let registers = no_registers (λ r. occurs r (Going D) (up_going deep)) (λ d i. refl) in
      let entries = sum_none (λ k. occurs (Entry k) (Going D) (up_going deep)) (length s.items) (λ k less. refl) in
      omega (arith, entries, registers, goings, met D)
  weigh_one (Elsewhere Root) up_root = grind (arith, nat_tests, no_registers, up_root, sum_none)
  weigh_one (Elsewhere In_service) up_service = grind (arith, nat_tests, no_registers, up_service, sum_none)
  weigh_one (Elsewhere (Queued n k)) up_queue = grind (arith, nat_tests, sum_none, sum_to, up_queue)

  -- ---- each place that holds has such a way

  abbrev parts : Parts
  parts = m.parts

  -- the number of what it holds stands there, and is not null
  number_there : (r : Place) (x : Object) → held cs r ≡ Some x → value parts r ≡ x.name
  number_there r x holds = grind (arith, nat_tests)

  some_number : (r : Place) (x : Object) → held cs r ≡ Some x → null ≡ x.name → ⊥
  some_number r x holds is = not_null p parts st.typing s st.typed st.agrees r x holds (sym is)

  module _ (r : Place) (x : Object) (holds : held cs r ≡ Some x) where
    task_there : (d : ℕ) (o : Option Machine_task) (n : ℕ) → over parts.stack.tasks d ≡ o → n ≡ x.name → (o ≡ None → n ≡ null) → d < length s.tasks
    task_there d None n there is none = absurd (some_number r x holds (sym (none refl) ∙ is))
    task_there d (Some t) n there is none = let less = within_over parts.stack.tasks d t there in let many = as_many_tasks p parts s st in omega (arith, less, many)

    register_small : (d i : ℕ) (o : Option Machine_task) → over parts.stack.tasks d ≡ o → register_over o i ≡ x.name → i < 16
    register_small d i (Some (Runs_frame f)) there is =
        let frame = frame_there p parts s st d f there in
        let wide = frame.2.wide in
        lt_of_not-le (λ more. some_number r x holds (sym (get_or_past f.registers i null (omega (arith, wide, more))) ∙ is))
    register_small d i _ there is = absurd (some_number r x holds is)

    entry_small : (k : ℕ) (o : Option Machine_item) → over parts.entries.items k ≡ o → owned_over o ≡ x.name → k < length s.items
    entry_small k None there is = absurd (some_number r x holds is)
    entry_small k (Some i) there is = let less = within_over parts.entries.items k i there in let many = as_many_items p parts s st in omega (arith, less, many)

    field_small : (n f : ℕ) (c : Option Machine_cell) → cell_at parts.cells n ≡ c → field_of c f ≡ x.name → f < 8
    field_small n f y there is = grind (arith, nat_tests, some_number, lt_of_not-le, get_or_past)

  -- a way, and where it ends: a queue alone holds what waits in it
  abbrev Leads : Place → Type 0
  Leads r = (e : Up s r) × (ends_reported e ≡ not (is_queue r))

  -- what waits in a queue is a message, which owns nothing
  message_there : (n k : ℕ) (o : Object) → held cs (Elsewhere (Queued n k)) ≡ Some o → is_object o.thing ≡ true → ⊥
  message_there n k o holds object = false≢true (sym (ap is_object (waiting_message p st.typing st.sound.wired s st.typed n k o holds)) ∙ object)

  no_queue : (q : Place) (o : Object) → held cs q ≡ Some o → is_object o.thing ≡ true → is_queue q ≡ false
  no_queue x o holds high = grind (arith, nat_tests, message_there)

  up : (fuel : ℕ) (r : Place) (x : Object) → held cs r ≡ Some x → 256 < height x.thing + fuel → Leads r
  up zero r x holds high = absurd (omega (arith, high))
  up (suc fuel) (Register d i) x holds high =
      let there = sym (register_there parts.stack.tasks d i) ∙ number_there (Register d i) x holds in (
        up_register (task_there (Register d i) x holds d (over parts.stack.tasks d) (register_over (over parts.stack.tasks d) i) refl there
            (λ none. ap (λ o. register_over o i) none)) (register_small (Register d i) x holds d i (over parts.stack.tasks d) refl there),
        refl,
      )
  up (suc fuel) (Entry k) x holds high =
      (up_entry (entry_small (Entry k) x holds k (over parts.entries.items k) refl (entry_there parts.entries.items k ∙ number_there (Entry k) x holds)), refl)
  up (suc fuel) (Going d) x holds high =
      let there = sym (going_there parts.stack.tasks d) ∙ number_there (Going d) x holds in
      (up_going (task_there (Going d) x holds d (over parts.stack.tasks d) (going_over (over parts.stack.tasks d)) refl there (λ none. ap going_over none)), refl)
  up (suc fuel) (Field n f) x holds high =
      let few = field_small (Field n f) x holds n f (cell_at parts.cells n) refl (number_there (Field n f) x holds) in
      let owner = field_owner n f x holds in
      let at = owner_there cs no_duplicates n owner.0 owner.1 in
      let less = owner.2 in
      let above = is_high x.thing owner.0.thing less in
      let rest = up fuel at.0 owner.0 at.2 (omega (arith, less, high)) in
      (up_field owner.0 at.0 owner.1 at.2 above few rest.0, rest.1 ∙ ap not (no_queue at.0 owner.0 at.2 above))
  up (suc fuel) (Elsewhere (Session n c)) x holds high =
      let owner = session_owner n c x holds in
      let at = owner_there cs no_duplicates n owner.0 owner.1 in
      let less = owner.2 in
      let above = is_high x.thing owner.0.thing less in
      let rest = up fuel at.0 owner.0 at.2 (omega (arith, less, high)) in
      (up_session owner.0 at.0 owner.1 at.2 above owner.3 rest.0, rest.1 ∙ ap not (no_queue at.0 owner.0 at.2 above))
  up (suc fuel) (Elsewhere Root) x holds high = (up_root, refl)
  up (suc fuel) (Elsewhere In_service) x holds high = (up_service, refl)
  up (suc fuel) (Elsewhere (Queued n k)) x holds high = (up_queue, refl)

  -- as many generations as there are
  all_hang : (outer : Outer) (r q : Place) (e : Up s q) (x : Object) → held cs q ≡ Some x → lines_of x.name (grown cs outer r) ≡ occurs r q e
  unfolding generations
  all_hang outer r q e x on = hangs_on 257 (record { outer = outer; branches = [] }) r q e x on (low_enough r)

  once : (n : ℕ) (o : Option Object) → named cs n ≡ o → lines_of n (owners s) ≡ cond (has_line o (owner_by cs n)) 1 0
  once n None is = lines_weighed n (λ r. 0) (λ outer r. none_hangs generations (record { outer = outer; branches = [] }) r n is) ∙ none
    where
      none : weigh (λ r. 0) ≡ 0
      none = grind (arith, nat_tests, sum_none, sum_to)
  once n (Some x) is =
      let owner = owner_there cs no_duplicates n x is in
      let e = up 257 owner.0 x owner.2 (omega arith) in
      ap (λ k. lines_of k (owners s)) (sym (named_name cs n x is)) ∙ lines_weighed x.name (λ r. occurs r owner.0 e.0)
      (λ outer r. all_hang outer r owner.0 e.0 x owner.2) ∙ weigh_one owner.0 e.0 ∙ ap bit e.1 ∙ ap (λ w. cond (not (waits_in w)) 1 0) (sym owner.1)

pub reported_once : ReportedOnce
reported_once m s st agrees sessions_once n = once m s st sessions_once n (named s.cells n) refl
