-- Names with places are the same where all that they are made of is: by congruence, one part after another.
use Rattle.std.proofs.Common.{ℕ, ◌≡◌, ◌∙◌, List, Option, Some, ap, ap₂}
use Rattle.aom_cost_report.specs.Names.{Names}
use Rattle.aom_cost_report.specs.Places.{Places}

abbrev pub places_of : (file : List ℕ) → Option ℕ → (classes methods : List ℕ) → Places
places_of file image classes methods = record { file = file; image = image; classes = classes; methods = methods }

abbrev pub names_of : (classes methods : List (List ℕ)) → Places → Names
names_of classes methods places = record { classes = classes; methods = methods; places = Some places }

pub same_places : (file : List ℕ) {i j : Option ℕ} {cs ds ms ns : List ℕ} → i ≡ j → cs ≡ ds → ms ≡ ns → places_of file i cs ms ≡ places_of file j ds ns
same_places file {i} {j} {cs} {ds} {ms} {ns} image classes methods =
    ap (λ x. places_of file x cs ms) image ∙ ap₂ (λ xs ys. places_of file j xs ys) classes methods

pub same_names : {cs ds ms ns : List (List ℕ)} {p q : Places} → cs ≡ ds → ms ≡ ns → p ≡ q → names_of cs ms p ≡ names_of ds ns q
same_names {cs} {ds} {ms} {ns} {p} {q} classes methods places = ap (λ x. names_of cs ms x) places ∙ ap₂ (λ xs ys. names_of xs ys q) classes methods
