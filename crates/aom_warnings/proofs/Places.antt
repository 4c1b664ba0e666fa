-- What warnings there can be of a thing, and that there are no others.
use Rattle.std.proofs.Common.{◌≡◌, ◌<◌, ◌≤◌, List, ◌⊎◌, ◌∙◌, ◌↔◌, ℕ, Bool, true, false, IsTrue, Option, Some, None, ap, arith, inl, inr, length, refl, slice_get, slice_index_or, subst, sym}
use Rattle.std.proofs.lemmas.Option.{slice_get_read, slice_get_within}
use Rattle.aom_image.specs.Image.{Image}
use Rattle.aom_image.specs.Views.{class_at, fields_in, fields_of, method_at}
use Rattle.aom_image.specs.WellFormed.{ClassFits, WellFormed}
use Rattle.aom_image.specs.declared.class.ClassDecl.{ClassDecl}
use Rattle.aom_image.specs.declared.method.Method.{Method}
use Rattle.aom_instructions.specs.declared.instr.Instr.{Instr}
use Rattle.aom_warnings.proofs.LinkConditionsLemmas.{all_there}
use Rattle.aom_warnings.specs.Called.{is_named_in}
use Rattle.aom_warnings.specs.Reached.{IsCut, IsCutIn}
use Rattle.aom_warnings.specs.Registers.{IsUnread, WritesUnread, WritesUnreadIn, written_word}
use Rattle.aom_warnings.specs.Warnings.{IsSo, OfClass, OfField, OfFirst, OfMethod, OfReach, OfWriting, TellsOne}
use Rattle.aom_warnings.specs.declared.warning.Warning.{Warning}
use Rattle.aom_warnings.specs.declared.warning.Warning.TheVariants.{NeverCalled, NeverMade, NeverReached, NeverRead, NeverUsed}

-- ---- one place of a method

module _ (p : Image) (m : ℕ) (d : Method) (place : ℕ) (at : method_at p m ≡ Some d) where
  reach_in : (w : Warning) → OfReach m place w → IsSo p w → (w ≡ NeverReached m place) × IsCut d.code place
  unfolding IsCutIn
  reach_in (NeverMade c) of so = absurd of
  reach_in (NeverRead c f) of so = absurd of
  reach_in (NeverCalled k) of so = absurd of
  reach_in (NeverUsed k i r) of so = absurd of
  reach_in (NeverReached k i) of so = (rw (of.0, of.1) refl, rw (of.0, of.1, at) at so)

  pub cut_told : (flag : Bool) → IsTrue flag ↔ IsCut d.code place → flag ≡ true → TellsOne p (OfReach m place) (Some (NeverReached m place))
  unfolding IsCutIn
  cut_told flag tells is = (rw at (tells.0 is), λ w of so. (reach_in w of so).0)

  pub uncut_told : (flag : Bool) → IsTrue flag ↔ IsCut d.code place → flag ≡ false → TellsOne p (OfReach m place) None
  uncut_told flag tells none = λ w of so. let is = tells.1 (reach_in w of so).1 in absurd cc

  used_in : (w : Warning) → OfWriting m place w → IsSo p w → (r : ℕ) × (w ≡ NeverUsed m place r) × WritesUnread p d place r
  unfolding WritesUnreadIn
  used_in (NeverMade c) of so = absurd of
  used_in (NeverRead c f) of so = absurd of
  used_in (NeverCalled k) of so = absurd of
  used_in (NeverReached k i) of so = absurd of
  used_in (NeverUsed k i r) of so = (r, rw (of.0, of.1) refl, rw (of.0, of.1, at) at so)

  module _ (i : Instr) (there : slice_get d.code place ≡ Some i) where
    written_there : (r : ℕ) → WritesUnread p d place r → written_word i ≡ Some r
    written_there r h =
        let same : Some h.writes.0 ≡ Some i = sym h.writes.1 ∙ there in
        grind (arith, same, h.writes.2)

    pub unwritten_told : written_word i ≡ None → TellsOne p (OfWriting m place) None
    unwritten_told none = λ w of so. let u = used_in w of so in let is = written_there u.0 u.2 in absurd cc

    module _ (r : ℕ) (flag : Bool) (is : written_word i ≡ Some r) (tells : IsTrue flag ↔ IsUnread p d r) where
      same_register : (s : ℕ) → WritesUnread p d place s → s ≡ r
      same_register s h = let other : Some s ≡ Some r = sym (written_there s h) ∙ is in grind (arith, other)

      pub unused_told : flag ≡ true → TellsOne p (OfWriting m place) (Some (NeverUsed m place r))
      unfolding WritesUnreadIn
      unused_told set = (
        rw at (record { writes = (i, there, is); unread = tells.0 set }),
        λ w of so. let u = used_in w of so in u.1 ∙ ap (λ s. NeverUsed m place s) (same_register u.0 u.2),
      )

      pub used_told : flag ≡ false → TellsOne p (OfWriting m place) None
      used_told none = λ w of so.
          let u = used_in w of so in
          let set = tells.1 (subst (λ s. IsUnread p d s) (same_register u.0 u.2) u.2.unread) in
          absurd cc

-- ---- all of a thing

pub of_class : (p : Image) (c : ℕ) (w : Warning) → OfClass c w → IsSo p w → (w ≡ NeverMade c) ⊎ OfFirst (OfField c) (length (fields_of p c)) w
of_class p c (NeverMade k) of so = inl (ap NeverMade of)
of_class p c (NeverRead k f) of so = inr (f, rw of at so.there, (of, refl))
of_class p c (NeverCalled k) of so = absurd of
of_class p c (NeverReached k i) of so = absurd of
of_class p c (NeverUsed k i r) of so = absurd of

-- of a method, but for its registers
abbrev pub OfCode : ℕ → Method → Warning → Type 0
OfCode m d w = (w ≡ NeverCalled m) ⊎ OfFirst (OfReach m) (length d.code) w

pub of_method : (p : Image) (m : ℕ) (d : Method) → method_at p m ≡ Some d → (w : Warning) → OfMethod m w → IsSo p w → OfCode m d w ⊎ OfFirst (OfWriting m) (length d.code) w
unfolding IsCutIn WritesUnreadIn
of_method p m d at (NeverMade k) of so = absurd of
of_method p m d at (NeverRead k f) of so = absurd of
of_method p m d at (NeverCalled k) of so = inl (inl (ap NeverCalled of))
of_method p m d at (NeverReached k i) of so =
    let cut : IsCut d.code i = rw (of, at) at so in
    inl (inr (i, cut.there, (of, refl)))
of_method p m d at (NeverUsed k i r) of so =
    let unread : WritesUnread p d i r = rw (of, at) at so in
    inr (i, slice_get_within d.code i unread.writes.0 unread.writes.1, (of, refl))

-- ---- all of an image

class_there : (p : Image) (c f : ℕ) → f < length (fields_of p c) → c < length p.classes
unfolding fields_in class_at
class_there p c f lt = go (slice_get p.classes c) refl lt
  where
    go : (o : Option ClassDecl) → slice_get p.classes c ≡ o → f < length (fields_in o) → c < length p.classes
    go None e l = absurd (omega (arith, l))
    go (Some d) e l = slice_get_within p.classes c d e

named_there : (p : Image) (m : ℕ) → is_named_in (method_at p m) ≡ true → m < length p.methods
unfolding is_named_in method_at
named_there p m is = go (slice_get p.methods m) refl is
  where
    go : (o : Option Method) → slice_get p.methods m ≡ o → is_named_in o ≡ true → m < length p.methods
    go None e h = absurd cc
    go (Some d) e h = slice_get_within p.methods m d e

cut_there : (p : Image) (m i : ℕ) → IsCutIn (method_at p m) i → m < length p.methods
unfolding IsCutIn method_at
cut_there p m i is = go (slice_get p.methods m) refl is
  where
    go : (o : Option Method) → slice_get p.methods m ≡ o → IsCutIn o i → m < length p.methods
    go None e h = absurd h
    go (Some d) e h = slice_get_within p.methods m d e

written_method : (p : Image) (m i r : ℕ) → WritesUnreadIn p (method_at p m) i r → m < length p.methods
unfolding WritesUnreadIn method_at
written_method p m i r is = go (slice_get p.methods m) refl is
  where
    go : (o : Option Method) → slice_get p.methods m ≡ o → WritesUnreadIn p o i r → m < length p.methods
    go None e h = absurd h
    go (Some d) e h = slice_get_within p.methods m d e

pub of_image : (p : Image) (w : Warning) → IsSo p w → OfFirst OfClass (length p.classes) w ⊎ OfFirst OfMethod (length p.methods) w
of_image p (NeverMade c) so = inl (c, so.there, refl)
of_image p (NeverRead c f) so = inl (c, class_there p c f so.there, refl)
of_image p (NeverCalled m) so = inr (m, named_there p m so.named, refl)
of_image p (NeverReached m i) so = inr (m, cut_there p m i so, refl)
of_image p (NeverUsed m i r) so = inr (m, written_method p m i r so, refl)

-- a class has no more fields than eight
pub few_fields : (p : Image) (c : ℕ) → WellFormed p → length (fields_of p c) ≤ 8
unfolding fields_in class_at
few_fields p c formed = go (slice_get p.classes c) refl
  where
    go : (o : Option ClassDecl) → slice_get p.classes c ≡ o → length (fields_in o) ≤ 8
    go None e = omega arith
    go (Some d) e = (all_there (ClassFits p.header.version (length p.classes) p.header.natives) p.classes c d formed.classes.each e).field_count

-- a method that is read at an index is the one of that number
pub method_there : (p : Image) (ms : List Method) (n i : ℕ) (d : Method) → ms ≡ p.methods → n ≡ i → i < length ms → d ≡ slice_index_or ms i d → method_at p n ≡ Some d
unfolding method_at
method_there p ms n i d e f lt is = rw (← e, f) (slice_get_read ms (length ms) i d refl lt is)
