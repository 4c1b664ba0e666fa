-- The lists of messages once a client left its server, or its server went.
use Rattle.std.proofs.Common.{◌≡◌, ◌≢◌, ◌<◌, ◌≤◌, ◌+◌, ◌⊎◌, ◌++◌, ℕ, true, List, [], length, sym, ap, ◌∙◌, subst, inl, inr, arith}
use Rattle.std.specs.Prelude.{map}
use Rattle.std.proofs.lemmas.Bool.{cases_eq, false≢true}
use Rattle.std.proofs.lemmas.Bool.Decides.{nat_tests}
use Rattle.std.proofs.lemmas.List.{length-set, get_or-set_same, get_or-set_other}
use Rattle.std.proofs.Math.ListN.{get_or-map}
use Rattle.aom_clients.specs.Lists.{Table, IsIn, list_at, with_list}
use Rattle.aom_clients.proofs.CircularLists.{at-set}
use Rattle.aom_clients.proofs.Members.{in-either, in-left, in-right}
use Rattle.aom_clients.specs.declared.place.MessagePlace.{MessagePlace}
use Rattle.aom_clients.specs.declared.place.MessagePlace.TheVariants.{Free, Queued, Held, Discarded}
use Rattle.aom_clients.specs.Table.{is_out_of}
use Rattle.aom_clients.specs.Clients.{left_place}
use Rattle.aom_clients.specs.Nodes.{is_held_of, AreSent}
use Rattle.aom_clients.proofs.Leaving.{place}

-- what another client's message is, it stays
left-other : (c d : ℕ) (p : MessagePlace) → d ≢ c → is_out_of d p ≡ true → left_place c p ≡ p
left-other c d p other e = grind (arith, nat_tests)

held-out : (d : ℕ) (p : MessagePlace) → is_held_of d p ≡ true → is_out_of d p ≡ true
held-out d p e = grind (arith, nat_tests)

pub left-queued : (c d : ℕ) (p : MessagePlace) → left_place c p ≡ Queued d → (p ≡ Queued d) × (d ≢ c)
left-queued c d p e = grind (arith, nat_tests)

pub left-held : (c d : ℕ) (p : MessagePlace) → left_place c p ≡ Held d → (p ≡ Held d) × (d ≢ c)
left-held c d p e = grind (arith, nat_tests)

left-discarded : (c d : ℕ) (p : MessagePlace) → left_place c p ≡ Discarded d → (p ≡ Discarded d) ⊎ (d ≡ c)
left-discarded c d p e = grind (arith, nat_tests)

pub left-at : (c : ℕ) (pl : List MessagePlace) (m : ℕ) → place (map (left_place c) pl) m ≡ left_place c (place pl m)
left-at c pl m = get_or-map (left_place c) pl m Free

module _ (pl : List MessagePlace) (st : Table) (c : ℕ) (small : c < 64) (long : length st.lists ≡ 128) (s : AreSent pl st) where
  listed : c < length st.lists
  listed = omega (arith, small, long)

  listed_more : 64 + c < length st.lists
  listed_more = omega (arith, small, long)

  -- its client left ---------------------------------------------------------------------------------------------------------------------------
  abbrev none : Table
  none = with_list (64 + c) [] (with_list c [] st)

  in-none : (j n : ℕ) → IsIn n (list_at none j) → (j ≢ c) × IsIn n (list_at st j)
  in-none j n i = grind (arith, nat_tests, cases_eq j, get_or-set_same, listed_more, length-set, get_or-set_other, listed)

  none-in : (j n : ℕ) → j ≢ c → j ≢ 64 + c → IsIn n (list_at st j) → IsIn n (list_at none j)
  none-in j n apart other i = subst (IsIn n) (sym (get_or-set_other (with_list c [] st).lists (64 + c) j [] [] other ∙ get_or-set_other st.lists c j [] [] apart)) i

  pub sent-left : AreSent (map (left_place c) pl) none
  sent-left = record {
    out = λ d n less i.
        let j = in-none d n i in
        let was = s.out d n less j.1 in
        ap (is_out_of d) (left-at c pl n ∙ left-other c d (place pl n) j.0 was) ∙ was;
    past = λ d n less i. past d n less i (cases_eq d c);
    waiting = λ d n e.
        let was = left-queued c d (place pl n) (sym (left-at c pl n) ∙ e) in
        let w = s.waiting d n was.0 in
        (w.0, none-in d n was.1 (λ h. absurd (omega (arith, h, w.0))) w.1);
    held = λ d n e.
        let was = left-held c d (place pl n) (sym (left-at c pl n) ∙ e) in
        let w = s.held d n was.0 in
        (w.0, both d n was.1 w.0 w.1);
    senders = λ d n e. sender d n (left-discarded c d (place pl n) (sym (left-at c pl n) ∙ e));
    few = λ d less. at-set (λ d xs. d < 64 → length xs ≤ 64) (with_list c [] st).lists (64 + c) [] (omega (arith, listed_more, length-set st.lists c []))
        (λ _. omega arith)
        (λ d other less. at-set (λ d xs. d < 64 → length xs ≤ 64) st.lists c [] listed (λ _. omega arith) (λ d other less. s.few d less) d less) d less;
  }
    where
      past : (d n : ℕ) → d < 64 → IsIn n (list_at none (64 + d)) → (d ≡ c) ⊎ (d ≢ c) → is_held_of d (place (map (left_place c) pl) n) ≡ true
      past d n less i (inl same) = grind (arith, nat_tests, get_or-set_same, listed_more, length-set)
      past d n less i (inr other) =
          let was = s.past d n less (in-none (64 + d) n i).1 in
          ap (is_held_of d) (left-at c pl n ∙ left-other c d (place pl n) other (held-out d (place pl n) was)) ∙ was

      both : (d n : ℕ) → d ≢ c → d < 64 → IsIn n (list_at st d) ⊎ IsIn n (list_at st (64 + d)) → IsIn n (list_at none d) ⊎ IsIn n (list_at none (64 + d))
      both d n other less (inl i) = inl (none-in d n other (λ h. absurd (omega (arith, h, less))) i)
      both d n other less (inr i) = inr (none-in (64 + d) n (λ h. absurd (omega (arith, h, small))) (λ h. other (omega (arith, h))) i)

      sender : (d n : ℕ) → (place pl n ≡ Discarded d) ⊎ (d ≡ c) → d < 64
      sender d n (inl e) = s.senders d n e
      sender d n (inr same) = omega (arith, same, small)

  -- its server went -----------------------------------------------------------------------------------------------------------------------------
  module _ (holds : (m : ℕ) → IsIn m (list_at st c) → is_held_of c (place pl m) ≡ true) where
    abbrev more : Table
    more = with_list (64 + c) (list_at st (64 + c) ++ list_at st c) st

    abbrev moved : Table
    moved = with_list c [] more

    more_listed : c < length more.lists
    more_listed = omega (arith, listed, length-set st.lists (64 + c) (list_at st (64 + c) ++ list_at st c))

    same-else : (j : ℕ) → j ≢ c → j ≢ 64 + c → list_at moved j ≡ list_at st j
    same-else j apart other = get_or-set_other more.lists c j [] [] apart ∙ get_or-set_other st.lists (64 + c) j (list_at st (64 + c) ++ list_at st c) [] other

    empty-now : list_at moved c ≡ []
    empty-now = get_or-set_same more.lists c [] [] more_listed

    all-now : list_at moved (64 + c) ≡ list_at st (64 + c) ++ list_at st c
    all-now = grind (arith, nat_tests, get_or-set_other, get_or-set_same, listed_more)

    pub sent-release : AreSent pl moved
    sent-release = record {
      out = λ d n less i. out d n less i (cases_eq d c);
      past = λ d n less i. past d n less i (cases_eq d c);
      waiting = λ d n e. waiting d n e (cases_eq d c);
      held = λ d n e. ((s.held d n e).0, both d n (s.held d n e).0 (s.held d n e).1 (cases_eq d c));
      senders = s.senders;
      few = λ d less. few d less (cases_eq d c);
    }
      where
        out : (d n : ℕ) → d < 64 → IsIn n (list_at moved d) → (d ≡ c) ⊎ (d ≢ c) → is_out_of d (place pl n) ≡ true
        out d n less i (inl same) = elim (subst (IsIn n) (ap (list_at moved) same ∙ empty-now) i) [ ]
        out d n less i (inr other) = s.out d n less (subst (IsIn n) (same-else d other (λ h. absurd (omega (arith, h, less)))) i)

        past : (d n : ℕ) → d < 64 → IsIn n (list_at moved (64 + d)) → (d ≡ c) ⊎ (d ≢ c) → is_held_of d (place pl n) ≡ true
        past d n less i (inl same) = grind (arith, nat_tests, in-either n, all-now, place)
        past d n less i (inr other) = grind (arith, nat_tests, same-else (64 + d))

        never : (d n : ℕ) → place pl n ≡ Queued d → d ≡ c → IsIn n (list_at st d) → ⊥
        never d n e same i = false≢true (sym (ap (is_held_of c) e) ∙ holds n (subst (λ k. IsIn n (list_at st k)) same i))

        waiting : (d n : ℕ) → place pl n ≡ Queued d → (d ≡ c) ⊎ (d ≢ c) → (d < 64) × IsIn n (list_at moved d)
        waiting d n e (inl same) = absurd (never d n e same (s.waiting d n e).1)
        waiting d n e (inr other) =
            let w = s.waiting d n e in
            (w.0, subst (IsIn n) (sym (same-else d other (λ h. absurd (omega (arith, h, w.0))))) w.1)

        both : (d n : ℕ) → d < 64 → IsIn n (list_at st d) ⊎ IsIn n (list_at st (64 + d)) → (d ≡ c) ⊎ (d ≢ c) →
            IsIn n (list_at moved d) ⊎ IsIn n (list_at moved (64 + d))
        both d n less (inl i) (inl same) = grind (arith, nat_tests, all-now, in-right n)
        both d n less (inr i) (inl same) = grind (arith, nat_tests, all-now, in-left n)
        both d n less (inl i) (inr other) = inl (subst (IsIn n) (sym (same-else d other (λ h. absurd (omega (arith, h, less))))) i)
        both d n less (inr i) (inr other) = grind (arith, nat_tests, same-else (64 + d))

        few : (d : ℕ) → d < 64 → (d ≡ c) ⊎ (d ≢ c) → length (list_at moved d) ≤ 64
        few d less (inl same) = omega (arith, ap length (ap (list_at moved) same ∙ empty-now))
        few d less (inr other) = omega (arith, ap length (same-else d other (λ h. absurd (omega (arith, h, less)))), s.few d less)
