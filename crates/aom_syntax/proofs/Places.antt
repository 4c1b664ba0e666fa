-- The first places of names, with one more name behind them.
use Rattle.std.proofs.lemmas.Bool.Decides.{nat_tests}
use Rattle.std.proofs.Common.{arith, ◌≡◌, ◌∙◌, ◌≤◌, ◌+◌, sym, ap, subst, ℕ, nat_eq, nat_lt, Bool, true, false, cond, if◌then◌else◌, List, [], ◌∷◌, ◌++◌}
use Rattle.std.proofs.Common.{length, map, Option, Some, None, is_some}
use Rattle.std.specs.Borrow.{Bor}
use Rattle.std.specs.Ordering.{nat_cmp}
use Rattle.std.specs.Cmp.Lexicographic.{slice_cmp}
use Rattle.std.specs.BTreeMap.{BTreeMap, get_by, UpdatesBy}
use Rattle.std.specs.Str.{bytes_eq}
use Rattle.std.proofs.lemmas.Grind.{common_steps}
use Rattle.std.proofs.lemmas.List.{length-map, map-append}
use Rattle.std.proofs.lemmas.List.Sums.{prefix_len-le-length}
use Rattle.std.proofs.lemmas.Map.Text.{btree_map_updates_str}
use Rattle.std.proofs.lemmas.Slice.Eq.{bytes_eq-Decides}
use Rattle.aom_syntax.specs.Names.{place_of, FindsFirst}

-- what was found, or else the last place where that passes
abbrev pub or_last : Option ℕ → Bool → ℕ → Option ℕ
or_last (Some i) passes last = Some i
or_last None passes last = if passes then Some last else None

found_in : (k last : ℕ) (b : Bool) → k ≤ last → (if nat_lt (cond (nat_eq k last) (last + cond b 0 1) k)
    (last + 1) then Some (cond (nat_eq k last) (last + cond b 0 1) k) else None) ≡ or_last (if nat_lt k last then Some k else None) b last
found_in k last true le = grind (arith, common_steps)
found_in k last false le = grind (arith, common_steps)

pub place_of_push : (q n : List ℕ) (names : List (List ℕ)) → place_of q (names ++ n ∷ []) ≡ or_last (place_of q names) (bytes_eq n q) (length names)
place_of_push q n names = grind (arith, common_steps, prefix_len-le-length)

-- a name that was there
again : (o : Option ℕ) (b : Bool) (last : ℕ) → (b ≡ true → is_some o ≡ true) → o ≡ or_last o b last
again o b last e = grind arith

-- a name that was not
fresh : (o : Option ℕ) (b : Bool) (last : ℕ) → (b ≡ true → is_some o ≡ false) → cond b (Some last) o ≡ or_last o b last
fresh o b last e = grind arith

-- equal names are found alike
found_at : (q n : List ℕ) (names : List (List ℕ)) (b : Bool) → is_some (place_of n names) ≡ b → bytes_eq n q ≡ true → is_some (place_of q names) ≡ b
found_at q n names b is same = subst (λ m. is_some (place_of m names) ≡ b) ((bytes_eq-Decides n q).0 same) is

module _ (items : List (Bor (List ℕ))) (n : Bor (List ℕ)) where
  abbrev names : List (List ℕ)
  names = map (λ w. w.now) items

  pub found_again : (places : BTreeMap (Bor (List ℕ)) ℕ) →
      FindsFirst places names → true ≡ is_some (get_by (λ k. slice_cmp nat_cmp n.now k.now) places) → FindsFirst places (map (λ w. w.now) (items ++ n ∷ []))
  found_again places found there = search (arith, nat_tests, again, found_at, found.place n.now, place_of_push, map-append)

  pub found_fresh : (old new : BTreeMap (Bor (List ℕ)) ℕ) → FindsFirst old names → false ≡ is_some (get_by (λ k. slice_cmp nat_cmp n.now k.now) old) →
      UpdatesBy (λ x y. slice_cmp nat_cmp x.now y.now) (λ k. slice_cmp nat_cmp n.now k.now) old new (Some (length items)) →
      FindsFirst new (map (λ w. w.now) (items ++ n ∷ []))
  found_fresh old new found there updates = record {
    place = λ q. btree_map_updates_str n.now old new (Some (length items)) updates q ∙ ap (cond (bytes_eq n.now q) (Some (length items))) (found.place q)
        ∙ ap (λ l. cond (bytes_eq n.now q) (Some l) (place_of q names)) (sym (length-map items (λ w. w.now))) ∙ fresh _ _ _
        (found_at q _ _ _ (sym (there ∙ ap is_some (found.place _)))) ∙ sym (place_of_push q _ _) ∙ ap (place_of q) (sym (map-append (λ w. w.now) items _));
  }
