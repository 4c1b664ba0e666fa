-- What a fact leaves of an option, a test or a list of which it rules a case out.
use Rattle.std.proofs.Common.{Bool, true, false, List, [], ◌∷◌, Option, Some, None, ◌≡◌, refl}

pub some_given : {A G : Type 0} (P : Option A → Type 0) (o : Option A) → P o → (P None → ⊥) → ((x : A) → o ≡ Some x → P (Some x) → G) → G
some_given P None h out gives = absurd (out h)
some_given P (Some x) h out gives = gives x refl h

pub none_given : {A G : Type 0} (P : Option A → Type 0) (o : Option A) → P o → ((x : A) → P (Some x) → ⊥) → (o ≡ None → P None → G) → G
none_given P None h out gives = gives refl h
none_given P (Some x) h out gives = absurd (out x h)

pub true_given : {G : Type 0} (P : Bool → Type 0) (b : Bool) → P b → (P false → ⊥) → (b ≡ true → P true → G) → G
true_given P true h out gives = gives refl h
true_given P false h out gives = absurd (out h)

pub false_given : {G : Type 0} (P : Bool → Type 0) (b : Bool) → P b → (P true → ⊥) → (b ≡ false → P false → G) → G
false_given P true h out gives = absurd (out h)
false_given P false h out gives = gives refl h

pub cons_given : {A G : Type 0} (P : List A → Type 0) (xs : List A) → P xs → (P [] → ⊥) → ((x : A) (rest : List A) → xs ≡ x ∷ rest → P (x ∷ rest) → G) → G
cons_given P [] h out gives = absurd (out h)
cons_given P (x ∷ xs) h out gives = gives x xs refl h

pub nil_given : {A G : Type 0} (P : List A → Type 0) (xs : List A) → P xs → ((x : A) (rest : List A) → P (x ∷ rest) → ⊥) → (xs ≡ [] → P [] → G) → G
nil_given P [] h out gives = gives refl h
nil_given P (x ∷ xs) h out gives = absurd (out x xs h)
