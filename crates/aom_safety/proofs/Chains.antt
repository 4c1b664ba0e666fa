-- With nothing at hand the owners of an object, one after the other, lead up to the root, and no object is met twice.
use Rattle.std.proofs.lemmas.Bool.Decides.{nat_tests}
use Rattle.std.proofs.Common.{[], inl, inr, List, Some, ap, arith, refl, subst, sym, ℕ, ◌<◌, ◌∙◌, ◌∷◌, ◌≡◌}
use Rattle.aom_image.specs.Image.{Image}
use Rattle.aom_typing_rules.specs.Typing.{Typing}
use Rattle.aom_roles.specs.Things.{field_thing}
use Rattle.aom_abstract_state.specs.declared.kind.Kind.TheVariants.{Null}
use Rattle.aom_safety.proofs.SemanticsLemmas.{held_lives, named_name}
use Rattle.aom_safety.proofs.Owners.{at_session, ends, field_thing_of, in_queue, kind_at, lower_rank, queued_lower, rank, session_lower}
use Rattle.aom_safety.proofs.Signals.{at_rest}
use Rattle.aom_safety.proofs.Straight.{fits_unowning}
use Rattle.aom_safety.specs.Claims.{declared}
use Rattle.aom_safety.specs.Laws.{IsWired}
use Rattle.aom_semantics.specs.Owned.{Ends, NoneGoes, at_entry, at_register, at_root, at_service, by_cell, by_server}
use Rattle.aom_semantics.specs.Places.{Elsewhere, Entry, Field, In_service, Object, Place, Queued, Register, Root, Session, held, named}
use Rattle.aom_semantics.specs.Servers.{session_thing}
use Rattle.aom_semantics.specs.State.{OwnedObject, State, thing_holder}
use Rattle.aom_safety.specs.WellTyped.{IsOwnedChain, Now, OwnedWithin, SomeOwned, WellTyped}

module _ (p : Image) (t : Typing) (wired : IsWired p) (s : State) (w : WellTyped p t s) (idle : s.tasks ≡ []) where
  -- each stands higher than that one
  abbrev Higher : ℕ → List OwnedObject → Type 0
  Higher n [] = Unit {0}
  Higher n (x ∷ xs) = (n < rank p wired x.object.thing) × Higher n xs

  higher_too : (m n : ℕ) (xs : List OwnedObject) → m < n → Higher n xs → Higher m xs
  higher_too m n [] lt h = tt
  higher_too m n (x ∷ xs) lt h = (omega (arith, lt, h.0), higher_too m n xs lt h.1)

  clear : NoneGoes s.tasks
  clear = subst (λ ts. NoneGoes ts) (sym idle) tt

  unheld : (q : Place) (o : Object) → declared p s.cells q ≡ Null → held s.cells q ≡ Some o → ⊥
  unheld q o null e = grind (arith, nat_tests, at_rest p t s w idle, fits_unowning p)

  -- what stands lower does not sit among what stands higher
  not_among : (o : Object) (xs : List OwnedObject) → named s.cells o.name ≡ Some o → IsOwnedChain s.cells xs → Higher (rank p wired o.thing) xs → SomeOwned o.name xs → ⊥
  not_among o (x ∷ xs) lives is_owned_chain high (inl same) = grind (arith, nat_tests, rank)
  not_among o (x ∷ xs) lives is_owned_chain high (inr some) = not_among o xs lives is_owned_chain.1 high.1 some
  not_among o [] lives is_owned_chain high some = some

  abbrev Chain : Object → Place → Type 0
  Chain o q = (above : List OwnedObject) × IsOwnedChain s.cells (record { object = o; place = q } ∷ above) × Higher (rank p wired o.thing) above

  -- over it stands what owns it
  on : (place q : Place) (o z : Object) → held s.cells place ≡ Some o →
      rank p wired o.thing < rank p wired z.thing → Chain z q → ((above : List OwnedObject) → OwnedWithin place (record { object = z; place = q } ∷ above)) → Chain o place
  on place q o z e lower rest is_owned_chain =
      let lives = held_lives s.cells place o w.good.no_duplicates e in
      let high : Higher (rank p wired o.thing) (record { object = z; place = q } ∷ rest.0) = grind (arith, nat_tests, higher_too, rank) in
      (record { object = z; place = q } ∷ rest.0, grind (arith, nat_tests, not_among), high)

  -- of what is no message
  follow : (q : Place) (o : Object) → Ends s q → held s.cells q ≡ Some o → 0 < rank p wired o.thing → Chain o q
  follow _ o (at_register {f = f} {i = i}) e pos = absurd (unheld (Register f i) o refl e)
  follow _ o (at_entry {k = k}) e pos = absurd (unheld (Entry k) o refl e)
  follow _ o at_root e pos = ([], ((e, held_lives s.cells (Elsewhere Root) o w.good.no_duplicates e, tt, λ h. h), tt), tt)
  follow _ o at_service e pos = absurd (unheld (Elsewhere In_service) o refl e)
  follow _ o (by_cell {n = n} {f = f} z q there held_so ends) e pos =
      let k = kind_at p t wired s w (Field n f) o e in
      let owner = field_thing_of p t s.cells w.layers Now n f k.0 w.good.stack k.1 in
      let same : Some owner.0 ≡ Some z = sym owner.1 ∙ there in
      let equal : owner.0 ≡ z = cc in
      let lower = lower_rank p wired z.thing k.0 o.thing f (subst (λ (y : Object). field_thing p (thing_holder y.thing) f ≡ Some k.0) equal owner.2) k.2 in
      on (Field n f) q o z e lower (follow q z ends held_so (omega (arith, lower))) (λ above. inl (named_name s.cells n z there))
  follow _ o (by_server {w = Session m c} {n = n} z q other there held_so ends) e pos =
      let owner = at_session p t wired s w m c o e in
      let equal : m ≡ n = cc in
      let same : Some owner.0 ≡ Some z = sym owner.1 ∙ ap (λ k. named s.cells k) equal ∙ there in
      let one : owner.0 ≡ z = cc in
      let lower = (session_lower p wired z o.thing (subst (λ (y : Object). session_thing p (Some y) ≡ Some o.thing) one owner.3)).0 in
      on (Elsewhere (Session m c)) q o z e lower (follow q z ends held_so (omega (arith, lower))) (λ above. inl (named_name s.cells n z there ∙ sym equal))
  follow _ o (by_server {w = Queued m k} z q other there held_so ends) e pos =
      let owner = in_queue p t wired s w m k o e in
      let none = (queued_lower p wired owner.0 o.thing owner.3).0 in
      let low : 0 < 0 = subst (λ x. 0 < rank p wired x) none pos in
      absurd (omega (arith, low))
  follow _ o (by_server z q other there held_so ends) e pos = cc

  -- so what a place owns sits there, and nothing that stands lower sits with it
  pub chain : (q : Place) (o : Object) → held s.cells q ≡ Some o → 0 < rank p wired o.thing →
      (above : List OwnedObject) × IsOwnedChain s.cells (record { object = o; place = q } ∷ above) × ((y : Object) →
      named s.cells y.name ≡ Some y → rank p wired y.thing < rank p wired o.thing → SomeOwned y.name (record { object = o; place = q } ∷ above) → ⊥)
  chain q o e pos =
      let c = follow q o (ends p t wired s w clear q o e) e pos in
      (c.0, c.1, λ y lives lower some. not_among y (record { object = o; place = q } ∷ c.0) lives c.1 (lower, grind (arith, nat_tests, higher_too, rank)) some)
