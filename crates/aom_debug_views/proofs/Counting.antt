-- How many numbers have an object of a class is how many objects of the class each state has: their names are distinct, and below the limit.
use Rattle.std.proofs.lemmas.Bool.Decides.{nat_tests}
use Rattle.std.proofs.Common.{◌≡◌, ◌∙◌, ◌<◌, ℕ, zero, suc, ◌+◌, Bool, true, false, cond, ◌==◌, List, [], ◌∷◌, Option, Some, None, refl, sym, ap}
use Rattle.std.proofs.Common.{add-one, arith}
use Rattle.std.proofs.lemmas.Bool.{eq-eqb, eqb-true}
use Rattle.std.proofs.lemmas.List.{append-nil}
use Rattle.std.proofs.lemmas.Option.{none-some}
use Rattle.aom_image.specs.Image.{Image}
use Rattle.aom_cells.specs.Heap.{class_at}
use Rattle.aom_cells.specs.Heap.{count as living}
use Rattle.aom_semantics.specs.Places.{Cell, NoDuplicates, count_cells, named}
use Rattle.aom_semantics.specs.State.{State}
use Rattle.aom_machine_state.specs.declared.parts.Parts.{Parts}
use Rattle.aom_machine_state.specs.Stands.{Refines}
use Rattle.aom_transcript.specs.Sinks.{after}
use Rattle.aom_transcript.specs.Text.{ended}
use Rattle.aom_debug_protocol.specs.declared.fault.DebugFault.{DebugFault}
use Rattle.aom_debug_symbols.specs.NameLists.{NameLists}
use Rattle.aom_debug_symbols.specs.Answers.{answer_by}
use Rattle.aom_debug_protocol.specs.declared.answer.Answer.{Answer}
use Rattle.aom_debug_protocol.specs.declared.answer.Answer.TheVariants.{Cells}
use Rattle.aom_debug_views.specs.Reporting.{IsCut, Reports, ReportsPart, answers_by}
use Rattle.aom_debug_views.specs.CellViews.{class_in, class_of, count_class, counted, is_class}
use Rattle.aom_debug_views.proofs.Showing.{class_named}

-- ---- counts

pub counted_same : (f g : ℕ → Bool) (n : ℕ) → ((k : ℕ) → k < n → f k ≡ g k) → counted f n ≡ counted g n
counted_same f g zero same = refl
counted_same f g (suc n) same = grind (arith, nat_tests, counted_same f g n)

-- one more
pub counted_next : (f : ℕ → Bool) (n a b : ℕ) → a ≡ counted f n → b ≡ cond (f n) 1 0 → a + b ≡ counted f (n + 1)
counted_next f n a b first here = rw add-one (ap (λ x. x + b) first ∙ ap (λ x. counted f n + x) here)

none_counted : (n : ℕ) → counted (λ k. false) n ≡ 0
none_counted zero = refl
none_counted (suc n) = ap (λ k. k + 0) (none_counted n)

-- one number is told otherwise
counted_one : (f : ℕ → Bool) (x n : ℕ) → f x ≡ false → x < n → counted (λ k. cond (x == k) true (f k)) n ≡ suc (counted f n)
counted_one f x zero none less = absurd (omega arith)
counted_one f x (suc n) none less = grind (arith, counted_one f x n none, counted_same)

module _ (class : ℕ) where
  -- the name of an object of the class
  abbrev has : List Cell → ℕ → Bool
  has cs n = is_class class (class_of (named cs n))

  abbrev NamesBelow : ℕ → List Cell → Type 0
  NamesBelow limit cs = (n k : ℕ) → class_of (named cs n) ≡ Some k → n < limit

  first_reported : (c : Cell) (cs : List Cell) (n : ℕ) → has (c ∷ cs) n ≡ cond (c.object.name == n) (is_class class (class_in c.object.thing)) (has cs n)
  first_reported c cs n = grind (arith, nat_tests)

  others_below : (limit : ℕ) (c : Cell) (cs : List Cell) → named cs c.object.name ≡ None → NamesBelow limit (c ∷ cs) → NamesBelow limit cs
  others_below limit c cs none below n k is = go (c.object.name == n) refl
    where
      go : (b : Bool) → (c.object.name == n) ≡ b → n < limit
      go true same = absurd (none-some k (sym (ap class_of (ap (named cs) (sym (eqb-true c.object.name n same)) ∙ none)) ∙ is))
      go false other = below n k (ap (λ b. class_of (cond b (Some c.object) (named cs n))) other ∙ is)

  class_some : (o : Option ℕ) → is_class class o ≡ true → o ≡ Some class
  class_some x is = grind (arith, nat_tests, eqb-true)

  -- as many as there are, where all names are below the limit
  counted_names : (limit : ℕ) (cs : List Cell) → NoDuplicates cs → NamesBelow limit cs → counted (has cs) limit ≡ count_class class cs
  counted_names limit [] no_duplicates below = none_counted limit
  counted_names limit (c ∷ cs) no_duplicates below =
      counted_same (has (c ∷ cs)) (λ n. cond (c.object.name == n) (is_class class (class_in c.object.thing)) (has cs n)) limit (λ k less. first_reported c cs k)
      ∙ go (counted_names limit cs no_duplicates.2 (others_below limit c cs no_duplicates.1 below)) (is_class class (class_in c.object.thing)) refl
    where
      absent : has cs c.object.name ≡ false
      absent = ap (λ o. is_class class (class_of o)) no_duplicates.1

      unseen : (k : ℕ) (b : Bool) → (c.object.name == k) ≡ b → cond b false (has cs k) ≡ has cs k
      unseen k x same = grind (arith, nat_tests, eqb-true, absent)

      here : class_of (named (c ∷ cs) c.object.name) ≡ class_in c.object.thing
      here = ap (λ b. class_of (cond b (Some c.object) (named cs c.object.name))) (eq-eqb c.object.name c.object.name refl)

      go : counted (has cs) limit ≡ count_class class cs → (b : Bool) → is_class class (class_in c.object.thing) ≡ b →
          counted (λ n. cond (c.object.name == n) b (has cs n)) limit ≡ cond b (suc (count_class class cs)) (count_class class cs)
      go rest true is = counted_one (has cs) c.object.name limit absent (below c.object.name class (here ∙ class_some (class_in c.object.thing) is)) ∙ ap suc rest
      go rest false is = counted_same (λ n. cond (c.object.name == n) false (has cs n)) (has cs) limit (λ k less. unseen k (c.object.name == k) refl) ∙ rest

-- so the machine's numbers are counted
module _ (p : Image) (m : Parts) (s : State) (st : Refines (record { image = p; parts = m }) s) where
  names_below : (class : ℕ) → NamesBelow class m.cells.limit s.cells
  names_below class n k is = grind (arith, nat_tests, class_named p m s st n)

  pub class_counted : (class count : ℕ) → count ≡ counted (λ n. is_class class (class_at m.cells n)) m.cells.limit → count ≡ count_class class s.cells
  class_counted class count is = is ∙ counted_same (λ n. is_class class (class_at m.cells n)) (has class s.cells) m.cells.limit
      (λ k less. ap (is_class class) (class_named p m s st k)) ∙ counted_names class m.cells.limit s.cells st.typed.good.no_duplicates (names_below class)

-- how many there are in all
module _ (ns : NameLists) (m : Parts) (n : ℕ) (is : n ≡ living m.cells) (p : Image) where
  abbrev pub all_cells : State → List Answer
  all_cells s = Cells (count_cells s.cells) ∷ []

  same_count : (s : State) → Refines (record { image = p; parts = m }) s → ended (answer_by ns (Cells n)) ≡ answers_by ns (all_cells s)
  same_count s st = grind (arith, nat_tests, append-nil)

  pub count_reported : (before now : Option (List ℕ)) → now ≡ after before (ended (answer_by ns (Cells n))) →
      Reports (record { image = p; parts = m }) (λ s. answers_by ns (all_cells s)) before now
  count_reported before now out = record { out = λ s st. out ∙ ap (λ t. after before t) (same_count s st) }

  pub count_cut : (fault : DebugFault) (failed : Bool) (before now : Option (List ℕ)) → IsCut (ended (answer_by ns (Cells n))) fault failed before now →
      ReportsPart (record { image = p; parts = m }) (λ s. answers_by ns (all_cells s)) fault failed before now
  count_cut fault failed before now cut = record { reported = cut.reported; fails = cut.fails; out = grind (arith, same_count) }
