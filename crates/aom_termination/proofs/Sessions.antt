-- A server pays for the sessions with it that are there: they are no more than it may have, and each is of their class.
use Rattle.std.proofs.lemmas.Bool.Decides.{nat_tests}
use Rattle.std.proofs.Common.{◌≡◌, ◌≤◌, ◌+◌, ◌*◌, ◌∙◌, ℕ, Bool, true, false, cond, List, [], ◌∷◌, length, Option, Some, None, refl, sym, ap, arith}
use Rattle.std.specs.Prelude.{filter, is_some, ◌==◌}
use Rattle.std.proofs.lemmas.Bool.{eqb-true, ne_eqb}
use Rattle.std.proofs.Math.Nat.{mul-le-mul_right}
use Rattle.aom_image.specs.Image.{Image}
use Rattle.aom_image.specs.declared.method.Thing.{Thing}
use Rattle.aom_image.specs.declared.method.Thing.TheVariants.{Object as An_object_of}
use Rattle.aom_roles.specs.Classes.{sessions_in, sessions_of}
use Rattle.aom_roles.specs.Shapes.{kind_of}
use Rattle.aom_typing_rules.specs.Typing.{Typing}
use Rattle.aom_abstract_state.specs.Kinds.{filled}
use Rattle.aom_abstract_state.specs.declared.kind.FieldState.TheVariants.{Full}
use Rattle.aom_abstract_state.specs.declared.kind.Kind.{Kind}
use Rattle.aom_abstract_state.specs.declared.kind.Kind.TheVariants.{Null}
use Rattle.aom_termination.proofs.SafetyLemmas.{among_others, claim_going_above, fits_unowning}
use Rattle.aom_termination.proofs.SemanticsLemmas.{held_lives, held_moved, same_place-true, same_place_refl}
use Rattle.aom_safety.specs.Claims.{Dispatching, Dying, Ending, Layer, Mark, Method, Unwinding, claim, declared, tasks_of}
use Rattle.aom_semantics.specs.Clients.{most_of}
use Rattle.aom_semantics.specs.Requests.{thing_kind}
use Rattle.aom_semantics.specs.Places.{Cell, Elsewhere, Going, Object, Place, Session, NoDuplicates, held, moved, named, same_place, seen, service_of}
use Rattle.aom_semantics.specs.Servers.{has_session, is_among, is_other, is_server, sessions_in_use, session_class, session_thing}
use Rattle.aom_safety.specs.WellTyped.{EndsSessions, Back, Caught, Fits, Gone, Good, Leaves, Now, Returns, Stack}
use Rattle.aom_static_bounds.specs.Prices.{IsPriced, Prices, sessions_cost}
use Rattle.aom_termination.specs.Left.{due, is_session_with, sessions_left}
use Rattle.aom_termination.proofs.Pushed.{moved_less}

-- ---- a session that is there is among those of its server, and of their class

module _ (p : Image) (t : Typing) (cs : List Cell) (n client : ℕ) (o x : Object) (lives : named cs n ≡ Some o) where
  abbrev HasIt : Type 0
  HasIt = (has_session (service_of cs n) client ≡ true) × Fits p (seen cs) (Some x) (filled (session_thing p (Some o)) Full)

  abbrev Has : Kind → Type 0
  Has k = Fits p (seen cs) (Some x) k → HasIt

  -- where something is owned, nothing is not what is claimed
  owns : (b : Bool) (k : Kind) → Fits p (seen cs) (Some x) (cond b k Null) → (b ≡ true) × Fits p (seen cs) (Some x) k
  owns y k f = grind arith

  of_declared : Has (declared p cs (Elsewhere (Session n client)))
  of_declared f = grind (arith, nat_tests, owns)

  of_cond : (b : Bool) (k : Kind) → Has k → Has (cond b Null k)
  of_cond y k h f = grind arith

  -- a server that goes has those sessions alone that are left
  of_ending : (y : Object) (left : List ℕ) → EndsSessions p cs y left → (below : Kind) → Has below →
      Has (cond (y.name == n) (cond (is_among client left) (filled (session_thing p (Some y)) Full) Null) below)
  of_ending y left ends below has f = grind (arith, nat_tests, owns, eqb-true y.name n)

  pub of_claim : (back : Back) (ls : List Layer) → Stack p t cs back ls → Has (claim p (declared p cs) ls (Elsewhere (Session n client)))
  of_claim back [] h f = of_declared f
  of_claim back (Method fr sh ∷ ls) h f = of_claim (Returns fr.method fr.receiver) ls h.4 f
  of_claim back (Mark gv ∷ ls) h f = of_claim (Caught gv) ls h.1 f
  of_claim back (Unwinding code es ∷ ls) h f = of_claim Leaves ls h.1 f
  of_claim back (Dying y ∷ ls) h f = of_cond (y.name == n) _ (of_claim Gone ls h.2) f
  of_claim back (Ending y left ∷ ls) h f = of_ending y left h.0 _ (of_claim Now ls h.3) f
  of_claim back (Dispatching d owned_chain ∷ ls) h f = grind (arith, nat_tests, of_declared)

-- ---- how many are there

no_more_parted : (client : ℕ) (xs : List ℕ) → length (filter (is_other client) xs) ≤ length xs
no_more_parted client [] = omega arith
no_more_parted client (y ∷ xs) = grind (arith, no_more_parted client xs)

fewer_parted : (client : ℕ) (xs : List ℕ) → is_among client xs ≡ true → 1 + length (filter (is_other client) xs) ≤ length xs
fewer_parted client [] e = cc
fewer_parted client (y ∷ xs) e = grind (arith, no_more_parted client xs, fewer_parted client xs)

-- each of them is among those clients' and costs no more than that
module _ (c : Prices) (n most : ℕ) where
  abbrev Sessions : List Cell → List ℕ → Type 0
  Sessions cs xs = (client : ℕ) (x : Object) → held cs (Elsewhere (Session n client)) ≡ Some x → (is_among client xs ≡ true) × (c.destruction x.thing ≤ most)

  one_fewer : (y : Cell) (cs : List Cell) (xs : List ℕ) (client : ℕ) → y.owner ≡ Elsewhere (Session n client) → held cs y.owner ≡ None → Sessions (y ∷ cs) xs →
      Sessions cs (filter (is_other client) xs)
  one_fewer y cs xs client at free all k x there =
      let other : (client == k) ≡ false = grind (arith, nat_tests, ne_eqb client k) in
      let apart : same_place y.owner (Elsewhere (Session n k)) ≡ false = not_there k x there in
      let found = all k x (ap (λ b. cond b (Some y.object) (held cs (Elsewhere (Session n k)))) apart ∙ there) in
      (among_others k client xs other ∙ found.0, found.1)
    where
      not_there : (k : ℕ) (x : Object) → held cs (Elsewhere (Session n k)) ≡ Some x → same_place y.owner (Elsewhere (Session n k)) ≡ false
      not_there k x there = go (same_place y.owner (Elsewhere (Session n k))) refl
        where
          go : (b : Bool) → same_place y.owner (Elsewhere (Session n k)) ≡ b → b ≡ false
          go false e = refl
          go true e = let clash : None ≡ Some x = sym free ∙ ap (λ r. held cs r) (same_place-true y.owner (Elsewhere (Session n k)) e) ∙ there in cc

  others : (y : Cell) (cs : List Cell) (xs : List ℕ) → held cs y.owner ≡ None → Sessions (y ∷ cs) xs → Sessions cs xs
  others y cs xs free all k x there = all k x (grind (arith, nat_tests, same_place-true))

  -- one cell more
  with_one : (y : Cell) (cs : List Cell) (xs : List ℕ) → NoDuplicates (y ∷ cs) → Sessions (y ∷ cs) xs → ((zs : List ℕ) → Sessions cs zs →
      sessions_left c n cs ≤ length zs * most) → (r : Place) → y.owner ≡ r → due c (is_session_with n) r y.object + sessions_left c n cs ≤ length xs * most
  with_one y cs xs no_duplicates all rest (Elsewhere (Session s client)) e = go (s == n) refl
    where
      here : y.owner ≡ Elsewhere (Session n client) → c.destruction y.object.thing + sessions_left c n cs ≤ length xs * most
      here at = let this = all client y.object (ap (λ b. cond b (Some y.object) (held cs (Elsewhere (Session n client))))
          (ap (λ r. same_place r (Elsewhere (Session n client))) at ∙ same_place_refl (Elsewhere (Session n client)))) in
          let others = rest (filter (is_other client) xs) (one_fewer y cs xs client at no_duplicates.0 all) in
          let more : (1 + length (filter (is_other client) xs)) * most ≤ length xs * most = mul-le-mul_right most (fewer_parted client xs this.0) in
          grind (arith, this.1, others, more)

      go : (b : Bool) → (s == n) ≡ b → cond b (c.destruction y.object.thing) 0 + sessions_left c n cs ≤ length xs * most
      go true same = here (e ∙ ap (λ k. Elsewhere (Session k client)) (eqb-true s n same))
      go false other = omega (arith, rest xs (others y cs xs no_duplicates.0 all))
  with_one y cs xs no_duplicates all rest _ e = omega (arith, rest xs (others y cs xs no_duplicates.0 all))

  pub counted : (cs : List Cell) (xs : List ℕ) → NoDuplicates cs → Sessions cs xs → sessions_left c n cs ≤ length xs * most
  counted [] xs no_duplicates all = omega arith
  counted (y ∷ cs) xs no_duplicates all = with_one y cs xs no_duplicates all (λ zs h. counted cs zs no_duplicates.2 h) y.owner refl

-- ---- what a server pays for

-- the seats of each server are no more than it may have
abbrev pub FewOwnedObjects : Image → List Cell → Type 0
FewOwnedObjects p cs = (o : Object) → named cs o.name ≡ Some o → sessions_in_use (service_of cs o.name) ≤ most_of (thing_kind p o.thing)

sessions_paid : (p : Image) (cost : ℕ → ℕ) (x : Thing) (session : ℕ) → session_class p x ≡ Some session →
    sessions_cost p cost x ≡ most_of (thing_kind p x) * cost session
unfolding kind_of sessions_in sessions_of
sessions_paid p cost x session e = grind arith

module _ (p : Image) (t : Typing) (c : Prices) (priced : IsPriced p t c) (cs : List Cell) (ls : List Layer) (good : Good p t cs ls) (few : FewOwnedObjects p cs) where
  few_sessions : (o : Object) → named cs o.name ≡ Some o → is_server p o.thing ≡ true →
      sessions_left c o.name cs ≤ sessions_cost p (λ k. c.destruction (An_object_of k)) o.thing
  few_sessions o lives server = go (session_class p o.thing) refl server
    where
      go : (k : Option ℕ) → session_class p o.thing ≡ k → is_some k ≡ true →
          sessions_left c o.name cs ≤ sessions_cost p (λ k. c.destruction (An_object_of k)) o.thing
      go None at e = cc
      go (Some k) at e =
          let most = c.destruction (An_object_of k) in
          let those = counted c o.name most cs (service_of cs o.name).sessions good.no_duplicates all in
          let owned_chain = few o lives in
          let enough : length (service_of cs o.name).sessions * most ≤ most_of (thing_kind p o.thing) * most = mul-le-mul_right most (omega (arith, owned_chain)) in
          omega (arith, those, enough, sessions_paid p (λ k. c.destruction (An_object_of k)) o.thing k at)
        where
          all : Sessions c o.name (c.destruction (An_object_of k)) cs (service_of cs o.name).sessions
          all client x there =
              let has = of_claim p t cs o.name client o x lives Now ls good.stack (rw there at (good.fits (Elsewhere (Session o.name client)))) in
              let fits = rw at at has.1 in
              (has.0, priced.may_override x.thing (An_object_of k) fits.0)

  -- where it comes to the place of its going, it stands there with them
  pub stands_at_going : (o : Object) (from : Place) (depth : ℕ) →
      held cs from ≡ Some o → length (tasks_of ls) ≤ depth → is_server p o.thing ≡ true → (held (moved from (Going depth) cs) (Going depth) ≡ Some o) ×
      (sessions_left c o.name (moved from (Going depth) cs) ≤ sessions_cost p (λ k. c.destruction (An_object_of k)) o.thing)
  stands_at_going o from depth there deep server = grind (
    arith,
    nat_tests,
    fits_unowning p,
    claim_going_above p cs ls depth deep,
    held_moved cs from,
    same_place_refl,
    moved_less c,
    few_sessions o (held_lives cs from o good.no_duplicates there) server,
    held_lives cs from o good.no_duplicates there,
  )
