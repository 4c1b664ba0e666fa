-- The laws of a whole image: its format's, its length, and that nothing stands after it.
use Rattle.std.proofs.lemmas.Bool.Decides.{nat_tests}
use Rattle.std.proofs.Common.{◌≡◌, ◌≢◌, ℕ, ◌<◌, ◌≤◌, cond, ltb, List, [], ◌++◌, length, All, Result, Ok, Err, sym, ap, ◌∙◌, arith, ◌⊎◌}
use Rattle.std.proofs.lemmas.Bool.{ltb-false, le-ltb, cases_lt}
use Rattle.std.proofs.lemmas.List.{append-nil, nil_from_length, get_or_past}
use Rattle.aom_image.specs.Image.{Image}
use Rattle.aom_codec.specs.Serialization.{serialize}
use Rattle.aom_image.specs.WellFormed.{WellFormed}
use Rattle.aom_codec.specs.RoundTrip.{SerializationReadsBack, ReadingSerializesBack}
use Rattle.aom_codec.specs.Format.{image, whole, read_image}
use Rattle.aom_codec.specs.declared.fault.LoadFault.{LoadFault}
use Rattle.aom_codec.specs.declared.fault.LoadFault.TheVariants.{LimitPassed, OutOfMemory}
use Rattle.aom_codec.proofs.Laws.{IsBytes, guard_ok, ok_is, kept}
use Rattle.aom_codec.proofs.Lengths.{length_serialize}
use Rattle.aom_codec.proofs.Formats.{image_laws}
use Rattle.aom_codec.proofs.Serialized.{image_serialized}
use Rattle.aom_codec.proofs.Fitting.{image_in_range, image_fits}

whole_ok : (r : Result (Image × List ℕ) LoadFault) (x : Image) → whole r ≡ Ok x → (rest : List ℕ) × (r ≡ Ok (x, rest)) × (length rest ≡ 0)
whole_ok x y h = grind (arith, nat_tests, guard_ok)

pub read_takes : (bytes : List ℕ) (i : Image) → IsBytes bytes → read_image bytes ≡ Ok i → WellFormed i × (bytes ≡ serialize i)
read_takes bytes i fits e =
    let short = kept (ltb 1048576 (length bytes)) (whole (image.read bytes)) LimitPassed i e in
    let small : length bytes ≤ 1048576 = ltb-false _ _ short.0 in
    let w = whole_ok (image.read bytes) i short.1 in
    let t = image_laws.takes bytes (i, w.0) fits w.1 in
    let is : bytes ≡ serialize i = t.0.parts ∙ ap (λ r. image.serialize i ++ r) (nil_from_length w.0 w.2) ∙ append-nil (image.serialize i) ∙ image_serialized i in
    let range = image_in_range i t.1 in
    let size = length_serialize i range.classes range.methods in
    (record { header = range.header; classes = range.classes; methods = range.methods; families = range.families; size = omega (arith, ap length is, size) }, is)

pub read_again : SerializationReadsBack
read_again i well =
    let fits = image_fits i well.header well.classes well.methods well.families in
    let whole_is : whole (image.read (serialize i)) ≡ Ok i =
    ap whole (ap image.read (sym (append-nil (image.serialize i) ∙ image_serialized i)) ∙ image_laws.again i [] fits) in
    let size = well.size in
    let long = length_serialize i well.classes well.methods in
    ap (λ b. cond b (Err LimitPassed) (whole (image.read (serialize i)))) (le-ltb 1048576 (length (serialize i)) (omega arith)) ∙ whole_is

bytes_fit : (bytes : List ℕ) → All (λ b. b < 256) bytes → IsBytes bytes
bytes_fit bytes h i = grind (arith, nat_tests, cases_lt i, get_or_past bytes i 0)

pub serializes_back : ReadingSerializesBack
serializes_back bytes i h e = let t = read_takes bytes i (bytes_fit bytes h) e in (t.0, sym t.1)

-- a fault where an image is read can be want of memory alone
memory_or : (e : LoadFault) → (e ≡ OutOfMemory) ⊎ (e ≢ OutOfMemory)
memory_or x = grind arith

pub only_memory : (r : Result Image LoadFault) (i : Image) (e : LoadFault) → r ≡ Ok i → (e ≢ OutOfMemory → r ≡ Err e) → e ≡ OutOfMemory
only_memory r i e is fails = grind (arith, nat_tests, memory_or e)

pub one_image : (r : Result Image LoadFault) (i j : Image) → r ≡ Ok i → r ≡ Ok j → i ≡ j
one_image r i j p q = ok_is i j (sym p ∙ q)
