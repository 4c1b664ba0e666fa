-- What a linked image gives of its families, by the laws of families: what descends from a class has what the class has, and an owner weighs more than what it
-- owns.
use Rattle.std.proofs.lemmas.Bool.Decides.{nat_tests}
use Rattle.std.proofs.Common.{None, Option, Some, ap, arith, length, refl, slice_get, sym, true, ℕ, ◌<◌, ◌∙◌, ◌≡◌, ◌≤◌}
use Rattle.std.proofs.lemmas.Option.{slice_get_within}
use Rattle.aom_safety.proofs.ImageLemmas.{some_given}
use Rattle.aom_image.specs.Image.{Image}
use Rattle.aom_image.specs.Views.{class_at, fields_in, fields_of}
use Rattle.aom_image.specs.WellFormed.{ParentFits, WellFormed, may_descend}
use Rattle.aom_image.specs.declared.class.ClassKind.{ClassKind}
use Rattle.aom_image.specs.declared.method.Thing.{Thing}
use Rattle.aom_image.specs.declared.method.Thing.TheVariants.{Object as An_object_of}
use Rattle.aom_safety.proofs.RolesLemmas.{along}
use Rattle.aom_roles.specs.Classes.{ClassOrdered, OwnsBefore, is_session, is_session_in, is_session_kind}
use Rattle.aom_roles.specs.Classes.{kind_at, kind_in, sessions_at, sessions_in, sessions_of}
use Rattle.aom_roles.specs.Families.{descends, parent_of}
use Rattle.aom_roles.specs.Shapes.{kind_of}
use Rattle.aom_safety.proofs.LinkConditionsLemmas.{all_there, at_place, child_there}
use Rattle.aom_link_conditions.specs.Linked.{IsLinked}
use Rattle.aom_safety.proofs.InheritanceLemmas.{continued, families_inherit, weights_fall}
use Rattle.aom_inheritance.specs.Weights.{generation}
use Rattle.aom_roles.specs.Things.{Member, field_thing, word_count, words_in}
use Rattle.aom_safety.specs.Laws.{IsFamily}

-- a class of sessions has none itself
session_has_none : (k : Option ClassKind) → is_session_in k ≡ true → sessions_in k ≡ None
unfolding is_session_in is_session_kind sessions_in sessions_of
session_has_none x is = grind arith

-- and no parent
session_childless : (k : ClassKind) → may_descend k ≡ true → is_session_kind k ≡ true → ⊥
unfolding is_session_kind
session_childless k may is = grind arith

module _ (p : Image) (linked : IsLinked p) where
  -- its sessions are of a class of sessions before it
  pub session_before : (c session : ℕ) → sessions_at p c ≡ Some session → (session < c) × (is_session p session ≡ true)
  unfolding kind_in class_at sessions_in
  session_before c session serves = grind (arith, nat_tests)

  owned_before : (c d f : ℕ) → field_thing p (Member c) f ≡ Some (An_object_of d) → d < c
  unfolding fields_in class_at
  owned_before c d f e = some_given (λ o. slice_get (fields_in o) f ≡ Some (An_object_of d)) (class_at p c) e (λ e. cc)
      (λ k g e. (all_there (OwnsBefore p c) k.fields f (An_object_of d) (at_place (ClassOrdered p) p.classes c k linked.classes.classes g).fields e).0)

  -- a class with a field, or with sessions, is there, and so is what descends from one
  owner_there : (c f : ℕ) (t : Thing) → slice_get (fields_of p c) f ≡ Some t → c < length p.classes
  unfolding fields_in class_at
  owner_there c f t e = some_given (λ o. slice_get (fields_in o) f ≡ Some t) (class_at p c) e (λ e. cc) (λ k at e. slice_get_within p.classes c k at)

  server_there : (c s : ℕ) → sessions_at p c ≡ Some s → c < length p.classes
  unfolding kind_in class_at sessions_in
  server_there c s e = some_given (λ o. sessions_in (kind_in o) ≡ Some s) (class_at p c) e (λ e. cc) (λ k at e. slice_get_within p.classes c k at)

  descendant_there : (x d : ℕ) → descends p x d ≡ true → d < length p.classes → x < length p.classes
  descendant_there x d h there = along p (λ c. c < length p.classes) d (λ c e is up. child_there p c e is) there x h

  words_so : (c d : ℕ) → descends p c d ≡ true → word_count p (Member d) ≤ word_count p (Member c)
  unfolding words_in
  words_so c d h = along p (λ x. word_count p (Member d) ≤ word_count p (Member x)) d
      (λ x e is up. let k = continued p linked.parents x e is in omega (arith, up, k.continues.words, ap words_in k.at, ap words_in k.above)) (omega arith) c h

  -- what descends from a class is of its kind
  pub family_kinds : (c d : ℕ) → descends p c d ≡ true → kind_of p (Some c) ≡ kind_of p (Some d)
  unfolding kind_of
  family_kinds c d h = families_inherit.kinds p linked.parents c d h

  module _ (formed : WellFormed p) where
    -- no class has one of sessions for its parent: in the file such a class has none, and a child is of its parent's kind
    no_child : (c e : ℕ) → parent_of p c ≡ Some e → is_session p e ≡ true → ⊥
    unfolding class_at is_session_in kind_in
    no_child c e is session =
        let w = continued p linked.parents c e is in
        let fits : ParentFits p.header.version (length p.classes) w.child.kind w.child.parent =
        all_there (λ d. ParentFits p.header.version (length p.classes) d.kind d.parent) p.classes c w.child formed.families.parents w.at in
        let may = rw w.named at fits in
        let above : is_session_kind w.parent.kind ≡ true = sym (ap (λ o. is_session_in (kind_in o)) w.above) ∙ session in
        session_childless w.child.kind may.1 (ap is_session_kind w.continues.kind ∙ above)

    sessions_alone : (c s x : ℕ) → sessions_at p c ≡ Some s → descends p x s ≡ true → x ≡ s
    sessions_alone c s x serves h = along p (λ y. y ≡ s) s (λ y e is same. absurd (no_child y e is (rw same (session_before c s serves).1))) refl x h

    pub linked_is_family : IsFamily p
    unfolding kind_of
    linked_is_family = record {
      kinds = family_kinds;
      inherits = λ c d f t h e. families_inherit.fields p linked.parents c d h f t e;
      words = words_so;
      alone = sessions_alone;
      weight = λ c. generation p c;
      lighter = λ c d f x e h.
          let there = owner_there c f (An_object_of d) e in
          let before = owned_before c d f e in
          weights_fall.generations p x c (descendant_there x d h (omega (arith, there, before)))
          (weights_fall.fields p linked.parents linked.calls linked.needs c d f x e h);
      served = λ c s e.
          let there = server_there c s e in
          let before = session_before c s e in
          weights_fall.generations p s c (omega (arith, there, before.0)) (weights_fall.sessions p c s e (session_has_none (kind_at p s) before.1));
      few = λ c there. weights_fall.few p c there;
    }
