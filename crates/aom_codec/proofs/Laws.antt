-- What is read is spelled so and fits, and what fits and is spelled so is read: for each way of making a format, once.
use Rattle.std.proofs.lemmas.Bool.Decides.{nat_tests}
use Rattle.std.proofs.Common.{◌≡◌, ℕ, zero, suc, ◌+◌, ◌^◌, ◌<◌, ◌≤◌, Bool, true, false, cond, ltb, eqb, List, [], ◌∷◌, ◌++◌, length, get_or, take, drop}
use Rattle.std.proofs.Common.{Result, Ok, Err, refl, sym, ap, subst, ◌∙◌, append_assoc, arith, eq-eqb}
use Rattle.std.specs.Int.{Width, w16, w32, byte_len, from_be_bytes, to_be_bytes}
use Rattle.std.proofs.lemmas.Bool.{ltb-false, le-ltb}
use Rattle.std.proofs.lemmas.List.{take_at, drop_at, take-append-drop, length-append, length-take, get_or-drop, get_or-take, get_or_past}
use Rattle.std.proofs.lemmas.Nat.{be_bytes_2, be_bytes_4, from_be_bytes-to_be_bytes_2, from_be_bytes-to_be_bytes_4}
use Rattle.aom_codec.specs.declared.fault.LoadFault.{LoadFault}
use Rattle.aom_codec.specs.declared.fault.LoadFault.TheVariants.{Truncated}
use Rattle.aom_codec.specs.Codec.{Codec, ◌>>=◌, byte_at, byte, number_at, number, next_u16, next_u32, nothing, checked, fixed, next, after, seen, many_from, many}
use Rattle.aom_codec.specs.Codec.{always, keep, read_many, serialize_many, FitMany, unused, choose}

abbrev pub IsBytes : List ℕ → Type 0
IsBytes bytes = (i : ℕ) → get_or bytes i 0 < 256

IsBytes-drop : (n : ℕ) (bytes : List ℕ) → IsBytes bytes → IsBytes (drop n bytes)
IsBytes-drop n bytes h i = rw get_or-drop (h (n + i))

IsBytes-take : (n : ℕ) (bytes : List ℕ) → IsBytes bytes → IsBytes (take n bytes)
IsBytes-take n bytes h i = grind (arith, get_or-take n bytes i 0, get_or_past, length-take n bytes)

pub bind_ok : {A B : Type 0} (r : Result A LoadFault) (f : A → Result B LoadFault) (y : B) → (r >>= f) ≡ Ok y → (x : A) × (r ≡ Ok x) × (f x ≡ Ok y)
bind_ok x f y e = grind arith

abbrev done : {A : Type 0} → A → Result A LoadFault
done x = Ok x

pub ok_is : {A : Type 0} (x y : A) → done x ≡ done y → x ≡ y
ok_is x y e = cc

-- what a test leaves that refuses where it fails, and one that refuses where it passes
pub passed : {A : Type 0} (b : Bool) (r : Result A LoadFault) (d : LoadFault) (y : A) → cond b r (Err d) ≡ Ok y → (b ≡ true) × (r ≡ Ok y)
passed x r d y e = grind arith

pub kept : {A : Type 0} (b : Bool) (r : Result A LoadFault) (d : LoadFault) (y : A) → cond b (Err d) r ≡ Ok y → (b ≡ false) × (r ≡ Ok y)
kept x r d y e = grind arith

pub guard_ok : {A : Type 0} (b : Bool) (d : LoadFault) (x y : A) → cond b (Ok x) (Err d) ≡ Ok y → (b ≡ true) × (x ≡ y)
guard_ok b d x y e = let p = passed b (Ok x) d y e in (p.0, ok_is x y p.1)

-- what holds of all that is made of what is read holds of what was made
pub made_of : {A B : Type 0} (P : B → Type 0) (r : Result A LoadFault) (make : A → B) (y : B) → ((x : A) → r ≡ Ok x → P (make x))
    → (r >>= λ x. Ok (make x)) ≡ Ok y → P y
made_of P r make y holds e = let b = bind_ok r (λ x. Ok (make x)) y e in subst P (ok_is (make b.0) y b.2) (holds b.0 b.1)

-- so where a mark stands for a value of its own
pub marked_or : {A B : Type 0} (P : B → Type 0) (b : Bool) (mark : B) (r : Result A LoadFault) (make : A → B) (y : B) → (b ≡ true → P mark)
    → ((x : A) → r ≡ Ok x → P (make x)) → cond b (Ok mark) (r >>= λ x. Ok (make x)) ≡ Ok y → P y
marked_or P true mark r make y own holds e = subst P (ok_is mark y e) (own refl)
marked_or P false mark r make y own holds e = made_of P r make y holds e

pub record Takes (bytes text rest : List ℕ) : Type 0 where
  pub parts : bytes ≡ text ++ rest
  pub rest_fits : IsBytes rest

Takes-then : (a x b y c : List ℕ) → Takes a x b → Takes b y c → Takes a (x ++ y) c
Takes-then a x b y c p q = record { parts = p.parts ∙ ap (λ (t : List ℕ). x ++ t) q.parts ∙ sym (append_assoc x y c); rest_fits = q.rest_fits }

-- the two laws of a format
pub record IsCodec {X : Type 0} (c : Codec X) : Type 0 where
  pub takes : (bytes : List ℕ) (x : X × List ℕ) → IsBytes bytes → c.read bytes ≡ Ok x → Takes bytes (c.serialize x.0) x.1 × c.Fits x.0
  pub again : (x : X) (rest : List ℕ) → c.Fits x → c.read (c.serialize x ++ rest) ≡ Ok (x, rest)

-- ---- numbers

byte_takes : (bytes : List ℕ) (x : ℕ × List ℕ) → IsBytes bytes → byte_at bytes ≡ Ok x → Takes bytes (x.0 ∷ []) x.1 × (x.0 < 256)
byte_takes [] x fits e = absurd cc
byte_takes (b ∷ rest) x fits e = subst (λ (p : ℕ × List ℕ). Takes (b ∷ rest) (p.0 ∷ []) p.1 × (p.0 < 256)) (ok_is (b, rest) x e)
    (record { parts = refl; rest_fits = λ i. fits (suc i) }, fits 0)

pub of_byte : IsCodec byte
of_byte = record { takes = byte_takes; again = λ x rest fits. refl }

pub record IsWide (w : Width) : Type 0 where
  pub len : (n : ℕ) → length (to_be_bytes w n) ≡ byte_len w
  pub back : (bytes : List ℕ) → length bytes ≡ byte_len w → IsBytes bytes → to_be_bytes w (from_be_bytes w bytes) ≡ bytes
  pub again : (n : ℕ) → n < 256 ^ byte_len w → from_be_bytes w (to_be_bytes w n) ≡ n
  pub below : (bytes : List ℕ) → IsBytes bytes → from_be_bytes w bytes < 256 ^ byte_len w

wide16 : IsWide w16
wide16 = record { len = λ n. refl; back = λ bytes len fits. be_bytes_2 bytes _ len fits refl; again = λ n lt. from_be_bytes-to_be_bytes_2 n lt; below = λ bytes fits. omega (arith, fits 0, fits 1) }

wide32 : IsWide w32
wide32 = record {
  len = λ n. refl;
  back = λ bytes len fits. be_bytes_4 bytes _ len fits refl;
  again = λ n lt. from_be_bytes-to_be_bytes_4 n lt;
  below = λ bytes fits. omega (arith, fits 0, fits 1, fits 2, fits 3);
}

number_takes : (w : Width) (wide : IsWide w) (bytes : List ℕ) (x : ℕ × List ℕ) → IsBytes bytes → number_at w bytes ≡ Ok x →
    Takes bytes (to_be_bytes w x.0) x.1 × (x.0 < 256 ^ byte_len w)
number_takes w wide bytes x fits e =
    let g = kept (ltb (length bytes) (byte_len w)) (Ok (from_be_bytes w (take (byte_len w) bytes), drop (byte_len w) bytes)) Truncated x e in
    let long : byte_len w ≤ length bytes = ltb-false _ _ g.0 in
    let front_fits = IsBytes-take (byte_len w) bytes fits in
    let front : to_be_bytes w (from_be_bytes w (take (byte_len w) bytes)) ≡ take (byte_len w) bytes = grind (arith, length-take) in
    subst (λ (p : ℕ × List ℕ). Takes bytes (to_be_bytes w p.0) p.1 × (p.0 < 256 ^ byte_len w)) (ok_is _ x g.1) (
      record {
        parts = sym (ap (λ t. t ++ drop (byte_len w) bytes) front ∙ take-append-drop (byte_len w) bytes);
        rest_fits = IsBytes-drop (byte_len w) bytes fits;
      },
      wide.below (take (byte_len w) bytes) front_fits,
    )

number_again : (w : Width) (wide : IsWide w) (n : ℕ) (rest : List ℕ) → n < 256 ^ byte_len w → number_at w (to_be_bytes w n ++ rest) ≡ Ok (n, rest)
number_again w wide n rest lt =
    let len = wide.len n in
    let long : ltb (length (to_be_bytes w n ++ rest)) (byte_len w) ≡ false = le-ltb _ _ (omega (arith, length-append (to_be_bytes w n) rest)) in
    rw (long, take_at (to_be_bytes w n) rest (byte_len w) len, drop_at (to_be_bytes w n) rest (byte_len w) len, wide.again n lt) refl

of_number : (w : Width) → IsWide w → IsCodec (number w)
of_number w wide = record { takes = number_takes w wide; again = number_again w wide }

pub of_pair : IsCodec next_u16
of_pair = of_number w16 wide16

pub next_u32_of : IsCodec next_u32
next_u32_of = of_number w32 wide32

-- ---- ways of making formats

pub of_nothing : IsCodec nothing
of_nothing = record {
  takes = λ bytes x fits e. subst (λ (y : Unit {0} × List ℕ). Takes bytes [] y.1 × Unit {0}) (ok_is (tt, bytes) x e) (record { parts = refl; rest_fits = fits }, tt);
  again = λ x rest fits. refl;
}

pub of_fixed : (c : Codec ℕ) (n : ℕ) (fault : LoadFault) → IsCodec c → c.Fits n → IsCodec (fixed c n fault)
of_fixed c n fault laws ok = record { takes = takes; again = again }
  where
    takes : (bytes : List ℕ) (x : Unit {0} × List ℕ) → IsBytes bytes → (fixed c n fault).read bytes ≡ Ok x → Takes bytes (c.serialize n) x.1 × Unit {0}
    takes bytes x fits e =
        let b = bind_ok (c.read bytes) (λ y. cond (eqb y.0 n) (Ok (tt, y.1)) (Err fault)) x e in
        let g = guard_ok (eqb b.0.0 n) fault (tt, b.0.1) x b.2 in
        let t = laws.takes bytes b.0 fits b.1 in
        (grind (arith, nat_tests), tt)

    again : (x : Unit {0}) (rest : List ℕ) → Unit {0} → (fixed c n fault).read (c.serialize n ++ rest) ≡ Ok (x, rest)
    again x rest _ = rw (laws.again n rest ok, eq-eqb n n refl) refl

pub of_checked : {X : Type 0} (c : Codec X) (test : X → Bool) (fault : LoadFault) → IsCodec c → IsCodec (checked c test fault)
of_checked {X} c test fault laws = record {
  takes = λ bytes x fits e.
      let b = bind_ok (c.read bytes) (λ y. cond (test y.0) (Ok y) (Err fault)) x e in
      let g = guard_ok (test b.0.0) fault b.0 x b.2 in
      let t = laws.takes bytes b.0 fits b.1 in
      subst (λ (y : X × List ℕ). Takes bytes (c.serialize y.0) y.1 × (c.Fits y.0 × (test y.0 ≡ true))) g.1 (t.0, (t.1, g.0));
  again = grind (arith, nat_tests);
}

pub of_next : {A B : Type 0} (a : Codec A) (b : A → Codec B) → IsCodec a → ((x : A) → IsCodec (b x)) → IsCodec (next a b)
of_next {A} {B} a b first second = record {
  takes = λ bytes x fits e.
      let p = bind_ok (a.read bytes) (λ y. (b y.0).read y.1 >>= λ z. Ok ((y.0, z.0), z.1)) x e in
      let q = bind_ok ((b p.0.0).read p.0.1) (λ z. Ok ((p.0.0, z.0), z.1)) x p.2 in
      let t = first.takes bytes p.0 fits p.1 in
      let u = (second p.0.0).takes p.0.1 q.0 t.0.rest_fits q.1 in
      let both = Takes-then bytes (a.serialize p.0.0) p.0.1 ((b p.0.0).serialize q.0.0) q.0.1 t.0 u.0 in
      subst (λ (y : (A × B) × List ℕ). Takes bytes ((next a b).serialize y.0) y.1 × (next a b).Fits y.0) (ok_is ((p.0.0, q.0.0), q.0.1) x q.2) (both, (t.1, u.1));
  again = λ x rest fits.
      ap (next a b).read (append_assoc (a.serialize x.0) ((b x.0).serialize x.1) rest)
      ∙ ap (λ r. r >>= λ y. (b y.0).read y.1 >>= λ z. Ok ((y.0, z.0), z.1)) (first.again x.0 ((b x.0).serialize x.1 ++ rest) fits.0)
      ∙ ap (λ r. r >>= λ z. Ok ((x.0, z.0), z.1)) ((second x.0).again x.1 rest fits.1);
}

pub of_after : {B : Type 0} (a : Codec (Unit {0})) (b : Codec B) → a.Fits tt → IsCodec a → IsCodec b → IsCodec (after a b)
of_after {B} a b ok first second = record {
  takes = λ bytes x fits e.
      let p = bind_ok (a.read bytes) (λ y. b.read y.1) x e in
      let t = first.takes bytes p.0 fits p.1 in
      let u = second.takes p.0.1 x t.0.rest_fits p.2 in
      (Takes-then bytes (a.serialize tt) p.0.1 (b.serialize x.0) x.1 t.0 u.0, u.1);
  again = λ x rest fits. ap (after a b).read (append_assoc (a.serialize tt) (b.serialize x) rest)
      ∙ ap (λ r. r >>= λ y. b.read y.1) (first.again tt (b.serialize x ++ rest) ok) ∙ second.again x rest fits;
}

-- what stands for a value is what the value is spelled as
pub record Returns {A B : Type 0} (c : Codec A) (there : A → Result B LoadFault) (back : B → A) : Type 0 where
  pub at : (x : A) (y : B) → c.Fits x → there x ≡ Ok y → back y ≡ x

pub of_seen : {A B : Type 0} (there : A → Result B LoadFault) (back : B → A) (c : Codec A) → Returns c there back → IsCodec c → IsCodec (seen there back c)
of_seen {A} {B} there back c returns laws = record {
  takes = λ bytes x fits e.
      let p = bind_ok (c.read bytes) (λ y. there y.0 >>= λ z. Ok (z, y.1)) x e in
      let q = bind_ok (there p.0.0) (λ z. Ok (z, p.0.1)) x p.2 in
      let t = laws.takes bytes p.0 fits p.1 in
      let same : back q.0 ≡ p.0.0 = returns.at p.0.0 q.0 t.1 q.1 in
      subst (λ (y : B × List ℕ). Takes bytes (c.serialize (back y.0)) y.1 × (c.Fits (back y.0) × (there (back y.0) ≡ Ok y.0))) (ok_is (q.0, p.0.1) x q.2)
      (subst (λ (a : A). Takes bytes (c.serialize a) p.0.1) (sym same) t.0, (subst c.Fits (sym same) t.1, ap there same ∙ q.1));
  again = grind (arith, nat_tests, back);
}

pub of_choose : {X : Type 0} (b : Bool) (c d : Codec X) → IsCodec c → IsCodec d → IsCodec (choose b c d)
of_choose x c d one two = grind arith

-- values that fit a number of formats, one after another
pub data FitEach {S X : Type 0} (c : S → Codec X) (add : S → X → S) : S → ℕ → List X → Type 0 where
  implied : {s : S} → FitEach c add s zero []
  one_more : {s : S} {n : ℕ} (x : X) (xs : List X) → (c s).Fits x → FitEach c add (add s x) n xs → FitEach c add s (suc n) (x ∷ xs)

pub fit_each : {S X : Type 0} (c : S → Codec X) (add : S → X → S) (s : S) (n : ℕ) (xs : List X) → FitMany c add s n xs → FitEach c add s n xs
fit_each c add s zero [] fits = implied
fit_each c add s (suc n) (x ∷ xs) fits = one_more x xs fits.0 (fit_each c add (add s x) n xs fits.1)
fit_each c add s _ _ fits = absurd fits

pub of_many_from : {S X : Type 0} (c : S → Codec X) (add : S → X → S) → ((s : S) → IsCodec (c s)) → (n : ℕ) (s : S) → IsCodec (many_from c add s n)
of_many_from {S} {X} c add laws zero s = record {
  takes = λ bytes x fits e. subst (λ (y : List X × List ℕ). Takes bytes (serialize_many c add s y.0) y.1 × FitMany c add s zero y.0)
      (ok_is ([], bytes) x e) (record { parts = refl; rest_fits = fits }, tt);
  again = λ x rest fits. again x rest (fit_each c add s zero x fits);
}
  where
    again : (x : List X) (rest : List ℕ) → FitEach c add s zero x → read_many c add s zero (serialize_many c add s x ++ rest) ≡ Ok (x, rest)
    again _ rest implied = refl
of_many_from {S} {X} c add laws (suc n) s = record {
  takes = λ bytes x fits e.
      let p = bind_ok ((c s).read bytes) (λ y. read_many c add (add s y.0) n y.1 >>= λ z. Ok (y.0 ∷ z.0, z.1)) x e in
      let q = bind_ok (read_many c add (add s p.0.0) n p.0.1) (λ z. Ok (p.0.0 ∷ z.0, z.1)) x p.2 in
      let t = (laws s).takes bytes p.0 fits p.1 in
      let u = (of_many_from c add laws n (add s p.0.0)).takes p.0.1 q.0 t.0.rest_fits q.1 in
      let both = Takes-then bytes ((c s).serialize p.0.0) p.0.1 (serialize_many c add (add s p.0.0) q.0.0) q.0.1 t.0 u.0 in
      subst (λ (y : List X × List ℕ). Takes bytes (serialize_many c add s y.0) y.1 × FitMany c add s (suc n) y.0)
      (ok_is (p.0.0 ∷ q.0.0, q.0.1) x q.2) (both, (t.1, u.1));
  again = λ x rest fits. again (of_many_from c add laws n) x rest (fit_each c add s (suc n) x fits) fits;
}
  where
    again : ((t : S) → IsCodec (many_from c add t n)) → (x : List X) (rest : List ℕ) → FitEach c add s (suc n) x → FitMany c add s (suc n) x
        → read_many c add s (suc n) (serialize_many c add s x ++ rest) ≡ Ok (x, rest)
    again rest_laws _ rest (one_more x xs here more) fits = ap (read_many c add s (suc n)) (append_assoc ((c s).serialize x) (serialize_many c add (add s x) xs) rest)
        ∙ ap (λ r. r >>= λ y. read_many c add (add s y.0) n y.1 >>= λ z. Ok (y.0 ∷ z.0, z.1)) ((laws s).again x (serialize_many c add (add s x) xs ++ rest) here)
        ∙ ap (λ r. r >>= λ z. Ok (x ∷ z.0, z.1)) ((rest_laws (add s x)).again xs rest fits.1)

pub of_many : {X : Type 0} (n : ℕ) (c : Codec X) → IsCodec c → IsCodec (many n c)
of_many n c laws = of_many_from (always c) keep (λ s. laws) n tt

pub unused_fits : (n : ℕ) (c : Codec ℕ) (fault : LoadFault) → (unused n c fault).Fits tt
unused_fits zero c fault = tt
unused_fits (suc n) c fault = unused_fits n c fault

pub of_unused : (n : ℕ) (c : Codec ℕ) (fault : LoadFault) → IsCodec c → c.Fits 0 → IsCodec (unused n c fault)
of_unused zero c fault laws ok = of_nothing
of_unused (suc n) c fault laws ok = of_after (fixed c 0 fault) (unused n c fault) tt (of_fixed c 0 fault laws ok) (of_unused n c fault laws ok)
