-- The instruction that is found by a line stands in it: what is sought in the rest of a text is in the part at hand, or in a later one. And one is found where
-- one stands.
use Rattle.std.proofs.lemmas.Bool.Decides.{nat_tests}
use Rattle.std.proofs.Common.{◌≡◌, ◌∙◌, ◌+◌, ◌==◌, ◌&&◌, ◌<◌, ◌≤◌, ℕ, zero, suc, Bool, true, false, cond, length, nat_le, nat_lt, IsSome, List}
use Rattle.std.proofs.Common.{[], ◌∷◌, Option, Some, None, ap, arith, refl, slice_get, slice_index_or, sym}
use Rattle.std.specs.Prelude.{option_map}
use Rattle.std.proofs.lemmas.Bool.{eq-eqb, eqb-true}
use Rattle.std.proofs.lemmas.List.Splits.{slice_split-cons_yes}
use Rattle.std.proofs.lemmas.Option.{none-some, same_Some}
use Rattle.aom_syntax.specs.declared.keyword.Keyword.TheVariants as k
use Rattle.aom_text.specs.Text.{statements}
use Rattle.aom_text.specs.declared.text.Statement.{Statement}
use Rattle.aom_diagnostics.specs.Declarations.{begins, instruction_statement, part}
use Rattle.aom_debug_symbols.proofs.DiagnosticsLemmas.{part_first, part_no, part_yes}
use Rattle.aom_debug_protocol.specs.declared.spot.CodeLocation.{CodeLocation}
use Rattle.aom_debug_symbols.specs.NameLists.{NameLists, line_told, statement_at, told}
use Rattle.aom_debug_symbols.specs.Lines.{place_in, spot_from, spot_in}

-- in the rest of a text there is a statement of that line at a place of a part
abbrev HasLine : (lines : List ℕ) (line : ℕ) → List Statement → (number place : ℕ) → Type 0
HasLine lines line ss number place = option_map (λ (s : Statement). line_told lines s.line) (slice_get (part (begins k.Method) ss number) place) ≡ Some line

-- a place that is found behind so many methods is in the part at hand, behind so many statements; or in a later part
pub data Stands (lines : List ℕ) (line methods place : ℕ) (ss : List Statement) (spot : CodeLocation) : Type 0 where
  here : (further : ℕ) → methods ≡ suc spot.method → spot.place ≡ place + further → HasLine lines line ss 0 further → Stands lines line methods place ss spot
  later : (number : ℕ) → suc spot.method ≡ methods + suc number → HasLine lines line ss (suc number) spot.place → Stands lines line methods place ss spot

-- ---- one statement more before the rest

module _ (lines : List ℕ) (line methods place : ℕ) (s : Statement) (ss : List Statement) (spot : CodeLocation) where
  -- it declares a method: the part at hand of the rest is the next one
  behind_method : begins k.Method s ≡ true → Stands lines line (methods + 1) 0 ss spot → Stands lines line methods place (s ∷ ss) spot
  behind_method starts (here further m p l) =
      let at : spot.place ≡ further = omega (arith, p) in
      later 0 (omega (arith, m)) (ap (λ xs. option_map (λ (x : Statement). line_told lines x.line) (slice_get xs spot.place)) (part_yes (begins k.Method) s ss 0 starts)
      ∙ ap (λ n. option_map (λ (x : Statement). line_told lines x.line) (slice_get (part (begins k.Method) ss 0) n)) at ∙ l)
  behind_method starts (later number m l) = later (suc number) (omega (arith, m))
      (ap (λ xs. option_map (λ (x : Statement). line_told lines x.line) (slice_get xs spot.place)) (part_yes (begins k.Method) s ss (suc number) starts) ∙ l)

  -- or it stands in the part at hand
  behind_other : begins k.Method s ≡ false → Stands lines line methods (place + 1) ss spot → Stands lines line methods place (s ∷ ss) spot
  behind_other stands (here further m p l) = here (suc further) m (omega (arith, p))
      (ap (λ xs. option_map (λ (x : Statement). line_told lines x.line) (slice_get xs (suc further))) (part_first (begins k.Method) s ss stands) ∙ l)
  behind_other stands (later number m l) =
      later number m (ap (λ xs. option_map (λ (x : Statement). line_told lines x.line) (slice_get xs spot.place)) (part_no (begins k.Method) s ss number stands) ∙ l)

  -- or it is the one
  at_last : begins k.Method s ≡ false → line_told lines s.line ≡ line → methods ≡ suc spot.method → spot.place ≡ place → Stands lines line methods place (s ∷ ss) spot
  at_last stands is m p = here 0 m (omega (arith, p))
      (ap (λ xs. option_map (λ (x : Statement). line_told lines x.line) (slice_get xs 0)) (part_first (begins k.Method) s ss stands) ∙ ap (λ (n : ℕ). Some n) is)

-- the place at hand
placed : (methods place : ℕ) (spot : CodeLocation) → place_in methods place ≡ Some spot → (methods ≡ suc spot.method) × (spot.place ≡ place)
placed zero place spot is = absurd (none-some spot is)
placed (suc method) place spot is = go (nat_le method 65535) is
  where
    go : (b : Bool) → cond b (Some (record { method = method; place = place })) None ≡ Some spot → (suc method ≡ suc spot.method) × (spot.place ≡ place)
    go true e = let same = same_Some (record { method = method; place = place }) spot e in
        (ap (λ (x : CodeLocation). suc x.method) same, sym (ap (λ (x : CodeLocation). x.place) same))
    go false e = absurd (none-some spot e)

-- what is found where a search may go on is found in the rest
went_on : (b : Bool) (o : Option CodeLocation) (spot : CodeLocation) → cond b o None ≡ Some spot → o ≡ Some spot
went_on true o spot is = is
went_on false o spot is = absurd (none-some spot is)

first_holds : (a b : Bool) → a && b ≡ true → a ≡ true
first_holds true b e = refl
first_holds false b e = e

-- what is found behind a statement stands there, where what is found in the rest does
one_behind : (lines : List ℕ) (line methods place : ℕ) (s : Statement) (ss : List Statement) (spot : CodeLocation) → (spot_from lines line (methods + 1) 0 ss ≡ Some spot →
    Stands lines line (methods + 1) 0 ss spot) → (spot_from lines line methods (place + 1) ss ≡ Some spot → Stands lines line methods (place + 1) ss spot) →
    spot_from lines line methods place (s ∷ ss) ≡ Some spot → Stands lines line methods place (s ∷ ss) spot
one_behind lines line methods place s ss spot next further is = method (begins k.Method s) refl is
  where
    other : begins k.Method s ≡ false → (b : Bool) → ((line_told lines s.line == line) && nat_lt 0 methods) ≡ b → cond b
        (place_in methods place) (cond (nat_lt place 65536) (spot_from lines line methods (place + 1) ss) None) ≡ Some spot → Stands lines line methods place (s ∷ ss) spot
    other stands true at e =
        let there = placed methods place spot e in
        at_last lines line methods place s ss spot stands (eqb-true (line_told lines s.line) line (first_holds (line_told lines s.line == line) (nat_lt 0 methods) at)) there.0 there.1
    other stands false at e =
        behind_other lines line methods place s ss spot stands (further (went_on (nat_lt place 65536) (spot_from lines line methods (place + 1) ss) spot e))

    method : (b : Bool) → begins k.Method s ≡ b → cond b (cond (nat_lt methods 65536) (spot_from lines line (methods + 1) 0 ss) None)
        (cond ((line_told lines s.line == line) && nat_lt 0 methods) (place_in methods place) (cond (nat_lt place 65536) (spot_from lines line methods (place + 1) ss) None))
        ≡ Some spot → Stands lines line methods place (s ∷ ss) spot
    method true starts e = behind_method lines line methods place s ss spot starts (next (went_on (nat_lt methods 65536) (spot_from lines line (methods + 1) 0 ss) spot e))
    method false stands e = other stands ((line_told lines s.line == line) && nat_lt 0 methods) refl e

-- what is found in the rest of a text stands there
found : (lines : List ℕ) (line methods place : ℕ) (ss : List Statement) (spot : CodeLocation) → spot_from lines line methods place ss ≡ Some spot → Stands lines line methods place ss spot
found lines line methods place [] spot is = absurd (none-some spot is)
found lines line methods place (s ∷ ss) spot is =
    one_behind lines line methods place s ss spot (λ e. found lines line (methods + 1) 0 ss spot e) (λ e. found lines line methods (place + 1) ss spot e) is

-- the line that is told for a statement is that of what is told
told_line : (ns : NameLists) (found : Option Statement) → option_map (λ (s : Statement). s.line) (option_map (told ns) found)
    ≡ option_map (λ (s : Statement). line_told ns.lines s.line) found
told_line ns None = refl
told_line ns (Some s) = refl

-- from the beginning of a text on no method was declared before, so that it stands in a part that one begins
in_text : (lines text : List ℕ) (line : ℕ) (spot : CodeLocation) → Stands lines line 0 0 (statements text) spot →
    option_map (λ (s : Statement). line_told lines s.line) (instruction_statement text spot.method spot.place) ≡ Some line
in_text lines text line spot (here further m p l) = absurd (omega (arith, m))
in_text lines text line spot (later number m l) =
    let same : spot.method + 1 ≡ suc number = omega (arith, m) in
    ap (λ n. option_map (λ (s : Statement). line_told lines s.line) (slice_get (part (begins k.Method) (statements text) n) spot.place)) same ∙ l

pub found_in_line : (ns : NameLists) (line : ℕ) (spot : CodeLocation) → spot_in ns.text ns.lines line ≡ Some spot →
    option_map (λ s. s.line) (statement_at ns spot) ≡ Some line
found_in_line ns line spot is = told_line ns (instruction_statement ns.text spot.method spot.place)
    ∙ in_text ns.lines ns.text line spot (found ns.lines line 0 0 (statements ns.text) spot is)

-- ---- where one stands, one is found

no_line : (lines : List ℕ) (line number at : ℕ) → HasLine lines line [] number at → ⊥
no_line lines line zero at has = none-some line has
no_line lines line (suc number) at has = none-some line has

place_there : (methods place : ℕ) → 0 < methods → methods ≤ 65536 → IsSome (place_in methods place)
place_there zero place some few = absurd (omega (arith, some))
place_there (suc method) place some few = grind (arith, nat_tests)

-- a statement more before the rest: one is found there, or in the rest
module _ (lines : List ℕ) (line methods place : ℕ) (s : Statement) (ss : List Statement) (many : suc (length ss) + methods ≤ 65536) (long : suc (length ss) + place ≤ 65536) where
  abbrev Rest : Type 0
  Rest = (number at : ℕ) → 0 < methods + number → HasLine lines line ss number at → IsSome (spot_from lines line methods (place + 1) ss)

  -- one that declares a method ends the part at hand
  past_method : begins k.Method s ≡ true → (number at : ℕ) → HasLine lines line (s ∷ ss) number at →
      ((number at : ℕ) → HasLine lines line ss number at → IsSome (spot_from lines line (methods + 1) 0 ss)) → IsSome (spot_from lines line (methods + 1) 0 ss)
  past_method starts zero at has next = absurd (none-some line (sym (ap (λ ps. option_map (λ (x : Statement). line_told lines x.line) (slice_get (slice_index_or ps 0 []) at))
      (slice_split-cons_yes (begins k.Method) s ss starts)) ∙ has))
  past_method starts (suc number) at has next =
      next number at (sym (ap (λ xs. option_map (λ (x : Statement). line_told lines x.line) (slice_get xs at)) (part_yes (begins k.Method) s ss number starts)) ∙ has)

  -- one that does not is passed, unless it is the one
  past_other : begins k.Method s ≡ false → ((line_told lines s.line == line) && nat_lt 0 methods) ≡ false → (number at : ℕ) → 0 < methods + number →
      HasLine lines line (s ∷ ss) number at → Rest → IsSome (spot_from lines line methods (place + 1) ss)
  past_other stands other zero zero some has rest =
      let is : Some (line_told lines s.line) ≡ Some line = sym (ap (λ xs. option_map (λ (x : Statement). line_told lines x.line) (slice_get xs 0)) (part_first (begins k.Method) s ss stands)) ∙ has in
      absurd (no_other (same_Some (line_told lines s.line) line is))
    where
      no_other : line_told lines s.line ≡ line → ⊥
      no_other same = grind (arith, nat_tests, eq-eqb (line_told lines s.line) line same, other, some)
  past_other stands other zero (suc at) some has rest =
      rest 0 at some (sym (ap (λ xs. option_map (λ (x : Statement). line_told lines x.line) (slice_get xs (suc at))) (part_first (begins k.Method) s ss stands)) ∙ has)
  past_other stands other (suc number) at some has rest =
      rest (suc number) at some (sym (ap (λ xs. option_map (λ (x : Statement). line_told lines x.line) (slice_get xs at)) (part_no (begins k.Method) s ss number stands)) ∙ has)

  one_sought : (number at : ℕ) → 0 < methods + number → HasLine lines line (s ∷ ss) number at →
      ((number at : ℕ) → HasLine lines line ss number at → IsSome (spot_from lines line (methods + 1) 0 ss)) → Rest → IsSome (spot_from lines line methods place (s ∷ ss))
  one_sought number at some has next rest = method (begins k.Method s) refl
    where
      other : begins k.Method s ≡ false → (b : Bool) → ((line_told lines s.line == line) && nat_lt 0 methods) ≡ b →
          IsSome (cond b (place_in methods place) (cond (nat_lt place 65536) (spot_from lines line methods (place + 1) ss) None))
      other stands true is = place_there methods place (grind (arith, nat_tests, is)) (omega (arith, many))
      other stands false is = let found = past_other stands is number at some has rest in grind (arith, nat_tests, found, long)

      method : (b : Bool) → begins k.Method s ≡ b → IsSome (cond b (cond (nat_lt methods 65536) (spot_from lines line (methods + 1) 0 ss) None)
          (cond ((line_told lines s.line == line) && nat_lt 0 methods) (place_in methods place) (cond (nat_lt place 65536) (spot_from lines line methods (place + 1) ss) None)))
      method true starts = let found = past_method starts number at has next in grind (arith, nat_tests, found, many)
      method false stands = other stands ((line_told lines s.line == line) && nat_lt 0 methods) refl

sought : (lines : List ℕ) (line methods place : ℕ) (ss : List Statement) → length ss + methods ≤ 65536 → length ss + place ≤ 65536 → (number at : ℕ) → 0 < methods + number →
    HasLine lines line ss number at → IsSome (spot_from lines line methods place ss)
sought lines line methods place [] many long number at some has = absurd (no_line lines line number at has)
sought lines line methods place (s ∷ ss) many long number at some has = one_sought lines line methods place s ss many long number at some has
    (λ n i there. sought lines line (methods + 1) 0 ss (omega (arith, many)) (omega (arith, many)) n i (omega arith) there)
    (λ n i more there. sought lines line methods (place + 1) ss (omega (arith, many)) (omega (arith, long)) n i more there)

pub finds_line : (ns : NameLists) (line : ℕ) (spot : CodeLocation) → length (statements ns.text) ≤ 65536 →
    option_map (λ s. s.line) (statement_at ns spot) ≡ Some line → IsSome (spot_in ns.text ns.lines line)
finds_line ns line spot few has = sought ns.lines line 0 0 (statements ns.text) (omega (arith, few)) (omega (arith, few)) (spot.method + 1) spot.place (omega arith)
    (sym (told_line ns (instruction_statement ns.text spot.method spot.place)) ∙ has)
