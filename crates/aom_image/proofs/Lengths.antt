-- Where all else of an image is in range, its size in bytes decides.
use Rattle.std.proofs.Common.{◌≡◌, ℕ, length, arith, ◌↔◌, IsTrue, leb}
use Rattle.std.proofs.lemmas.Bool.{leb-true, le-leb}
use Rattle.aom_image.specs.Image.{Image}
use Rattle.aom_image.specs.WellFormed.{HeaderFits, ClassesFit, MethodsFit, FamiliesFit, WellFormed, serialized_size}

pub length_decides : (i : Image) → HeaderFits (length i.classes) i.header → ClassesFit i.header.version i.header.natives i.classes →
    MethodsFit i.header.version (length i.classes) i.methods → FamiliesFit i.header.version i.classes i.methods → (n : ℕ) →
    n ≡ serialized_size i.header.version (length i.classes) i.methods → IsTrue (leb n 1048576) ↔ WellFormed i
length_decides i header classes methods families n is =
    let fits : IsTrue (leb n 1048576) → WellFormed i = λ short.
    record { header = header; classes = classes; methods = methods; families = families; size = omega (arith, leb-true n 1048576 short) } in
    (fits, λ w. le-leb n 1048576 (omega (arith, w.size)))
