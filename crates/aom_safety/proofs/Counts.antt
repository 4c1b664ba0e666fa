-- How many cells there are as moves and turns change them: by the cells one after another.
use Rattle.std.proofs.lemmas.Bool.Decides.{nat_tests}
use Rattle.std.proofs.Common.{[], Bool, List, None, Option, Some, arith, cond, refl, suc, ℕ, ℤ, ◌+◌, ◌∷◌, ◌≡◌}
use Rattle.aom_image.specs.Image.{Image}
use Rattle.aom_image.specs.declared.method.Thing.{Thing}
use Rattle.aom_roles.specs.Things.{is_object}
use Rattle.aom_safety.proofs.SemanticsLemmas.{asking, detaching, count_kept, moving, opening, same_place-true, storing, without_none}
use Rattle.aom_semantics.specs.Natives.{all_detached}
use Rattle.aom_semantics.specs.Places.{Cell, Object, Place, Request, NoDuplicates, count_cells, held, moved, set_request, set_session, set_word_field, without}

-- ---- what changes no thing changes no count

pub count_moved : (cs : List Cell) (p q : Place) → count_cells (moved p q cs) ≡ count_cells cs
count_moved cs p q = count_kept (moving p q) cs

pub count_asked : (cs : List Cell) (n : ℕ) (r : Option Request) → count_cells (set_request n r cs) ≡ count_cells cs
count_asked cs n r = count_kept (asking n r) cs

pub count_opened : (cs : List Cell) (n : ℕ) (session : Bool) → count_cells (set_session n session cs) ≡ count_cells cs
count_opened cs n session = count_kept (opening n session) cs

pub count_stored : (cs : List Cell) (n w : ℕ) (v : ℤ) → count_cells (set_word_field n w v cs) ≡ count_cells cs
count_stored cs n w v = count_kept (storing n w v) cs

pub count_detached : (p : Image) (n : ℕ) (cs : List Cell) → count_cells (all_detached p n cs) ≡ count_cells cs
count_detached p n = count_kept (detaching p n)

-- ---- what comes and what goes

-- cells of things that pass a test are counted
pub record CountsBy (count : List Cell → ℕ) : Type 0 where
  pub passes : Thing → Bool
  pub some : (c : Cell) (cs : List Cell) → count (c ∷ cs) ≡ cond (passes c.object.thing) (suc (count cs)) (count cs)

abbrev pub counted_by : (Thing → Bool) → Option Object → ℕ
counted_by passes None = 0
counted_by passes (Some o) = cond (passes o.thing) 1 0

-- one less where one of them goes
pub counted_without : {count : List Cell → ℕ} (k : CountsBy count) (cs : List Cell) (g : Place) → NoDuplicates cs →
    count cs ≡ counted_by k.passes (held cs g) + count (without g cs)
counted_without k [] g no_duplicates = omega arith
counted_without {count = count} k (c ∷ cs) g no_duplicates = grind (arith, nat_tests, counted_without k cs g no_duplicates.2, without_none cs g, same_place-true c.owner g)

abbrev pub counted_in : Option Object → ℕ
counted_in o = counted_by is_object o

pub count_without : (cs : List Cell) (g : Place) → NoDuplicates cs → count_cells cs ≡ counted_in (held cs g) + count_cells (without g cs)
count_without = counted_without (record { passes = is_object; some = λ c cs. refl })
