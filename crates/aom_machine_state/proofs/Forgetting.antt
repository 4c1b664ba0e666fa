-- Messages that wait are kept no more where their client leaves, or their server goes: by their cells one after another.
use Rattle.std.proofs.lemmas.Bool.Decides.{nat_tests}
use Rattle.std.proofs.Common.{Bool, List, None, Option, Some, [], ap, arith, cond, false, length, refl}
use Rattle.std.proofs.Common.{suc, sym, true, ℕ, ℤ, pos, ◌+◌, ◌<◌, ◌==◌, ◌≤◌, ◌∙◌, ◌∷◌, ◌≡◌}
use Rattle.std.specs.Prelude.{is_some, ◌||◌}
use Rattle.std.proofs.lemmas.Bool.{eq-eqb, eqb-true, false≢true, ne_eqb}
use Rattle.aom_image.specs.Image.{Image}
use Rattle.aom_roles.specs.Things.{is_object}
use Rattle.aom_cells.specs.Store.{Store, count, message_at, word_at}
use Rattle.aom_roles.specs.Tables.{at}
use Rattle.aom_machine_state.proofs.SemanticsLemmas.{same_place-true, same_place_refl, tidy_without, without_none}
use Rattle.aom_machine_state.proofs.SafetyLemmas.{cell_in, cell_name, cell_of, cell_of_filtered_cells, cell_placed, kept as left_cell, named_cell, object_in, filtered_cells}
use Rattle.aom_machine_state.proofs.SafetyLemmas.{without_so}
use Rattle.aom_semantics.specs.Clients.{count_messages}
use Rattle.aom_semantics.specs.Places.{Cell, Place as Owner, Service, NoDuplicates, held, named, same_place, without, word_field}
use Rattle.aom_semantics.specs.Servers.{is_among}
use Rattle.aom_machine_state.proofs.Reclaiming.{AllCells, each_cell}
use Rattle.aom_machine_state.specs.Messages.{SameMessages, is_a_message}
use Rattle.aom_machine_state.specs.Serving.{Once, message_name}

-- ---- one cell

abbrev pub words_in : Option Cell → ℕ → ℤ
words_in None w = pos 0
words_in (Some c) w = at (pos 0) c.words w

pub words_cell : (cs : List Cell) (n w : ℕ) → word_field cs n w ≡ words_in (cell_of cs n) w
words_cell [] n w = refl
words_cell (c ∷ cs) n w = grind (arith, nat_tests, words_cell cs n w, cell_of cs n)

-- the cell at a place goes
cell_without : (cs : List Cell) (q : Owner) (n : ℕ) → NoDuplicates cs → cell_of (without q cs) n ≡ left_cell (λ c. same_place c.owner q) (λ c. c.service) (cell_of cs n)
cell_without cs q n no_duplicates = grind (arith, nat_tests, cell_of, without_so q cs, cell_of_filtered_cells)

-- what is there then was there, and was at another place
before_without : (cs : List Cell) (q : Owner) (n : ℕ) (y : Cell) → NoDuplicates cs → cell_of (without q cs) n ≡ Some y →
    (cell_of cs n ≡ Some y) × (same_place y.owner q ≡ false)
before_without cs q n y no_duplicates e = grind (arith, nat_tests, cell_of cs n, cell_without cs q n no_duplicates, left_cell)

-- ---- some go that are messages

count_without : (cs : List Cell) (x : Cell) (n : ℕ) → NoDuplicates cs → cell_of cs n ≡ Some x → is_object x.object.thing ≡ false →
    count_messages cs ≡ suc (count_messages (without x.owner cs))
count_without cs x n no_duplicates e message = go cs no_duplicates (cell_placed cs n x no_duplicates e)
  where
    step : (b : Bool) (a c : ℕ) → a ≡ suc c → cond b a (suc a) ≡ suc (cond b c (suc c))
    step true a c e = e
    step false a c e = ap suc e

    by : (c : Cell) (cs : List Cell) → NoDuplicates (c ∷ cs) → (b : Bool) → same_place c.owner x.owner ≡ b →
        cond b (Some c) (cell_in cs x.owner) ≡ Some x → (cell_in cs x.owner ≡ Some x → count_messages cs ≡ suc (count_messages (without x.owner cs))) → cond
        (is_object c.object.thing) (count_messages cs) (suc (count_messages cs)) ≡ suc (count_messages (cond b (without x.owner cs) (c ∷ without x.owner cs)))
    by c cs no_duplicates true f e rest =
        let one : c ≡ x = cc in
        ap (λ b. cond b (count_messages cs) (suc (count_messages cs))) (ap (λ (y : Cell). is_object y.object.thing) one ∙ message)
        ∙ ap (λ l. suc (count_messages l)) (sym (without_none cs x.owner (ap (held cs) (sym (same_place-true c.owner x.owner f)) ∙ no_duplicates.0)))
    by c cs no_duplicates false f e rest = step (is_object c.object.thing) (count_messages cs) (count_messages (without x.owner cs)) (rest e)

    go : (cs : List Cell) → NoDuplicates cs → cell_in cs x.owner ≡ Some x → count_messages cs ≡ suc (count_messages (without x.owner cs))
    go [] no_duplicates e = cc
    go (c ∷ cs) no_duplicates e = by c cs no_duplicates (same_place c.owner x.owner) refl e (go cs no_duplicates.2)

module _ (drops : Cell → Bool) (f : Cell → Service) where
  abbrev left : List Cell → List Cell
  left cs = filtered_cells drops f cs

  count_stay : (cs : List Cell) → AllCells (λ x. drops x ≡ false) cs → count_messages (left cs) ≡ count_messages cs
  count_stay [] all = refl
  count_stay (c ∷ cs) all = grind (arith, nat_tests, count_stay cs all.1)

  -- it does not matter that one of them goes first
  left_without : (cs : List Cell) (x : Cell) → NoDuplicates cs → cell_in cs x.owner ≡ Some x → drops x ≡ true → left (without x.owner cs) ≡ left cs
  left_without [] x no_duplicates e h = cc
  left_without (c ∷ cs) x no_duplicates e h =
      grind (arith, nat_tests, left_without cs x no_duplicates.2, cell_in cs x.owner, without_none cs x.owner, same_place-true c.owner x.owner)

  -- what goes are just the messages of these places
  pub record Forgets (places : List ℕ) (cs : List Cell) : Type 0 where
    pub goes : (m : ℕ) → is_among m places ≡ true → (x : Cell) × (cell_of cs (message_name m) ≡ Some x) × (drops x ≡ true) × (is_object x.object.thing ≡ false)
    pub gone : (n : ℕ) (x : Cell) → cell_of cs n ≡ Some x → drops x ≡ true → (m : ℕ) × (n ≡ message_name m) × (is_among m places ≡ true)

  count_left : (places : List ℕ) → Once places → (cs : List Cell) → NoDuplicates cs → Forgets places cs → count_messages (left cs) + length places ≡ count_messages cs
  count_left [] once cs no_duplicates forgets = grind (arith, nat_tests, count_stay cs, each_cell, cell_of cs)
  count_left (m ∷ ms) once cs no_duplicates forgets = more (count_messages (left cs)) (length ms) (count_messages (without x.owner cs)) (count_messages cs)
      (ap (λ l. count_messages l + length ms) (sym (left_without cs x no_duplicates placed w.2))
      ∙ count_left ms once.1 (without x.owner cs) (tidy_without cs x.owner no_duplicates) rest) (count_without cs x (message_name m) no_duplicates w.1 w.3)
    where
      w : (x : Cell) × (cell_of cs (message_name m) ≡ Some x) × (drops x ≡ true) × (is_object x.object.thing ≡ false)
      w = forgets.goes m (ap (λ b. b || is_among m ms) (eq-eqb m m refl))

      x : Cell
      x = w.0

      placed : cell_in cs x.owner ≡ Some x
      placed = cell_placed cs (message_name m) x no_duplicates w.1

      more : (a l b c : ℕ) → a + l ≡ b → c ≡ suc b → a + suc l ≡ c
      more a l b c e g = omega (arith, e, g)

      apart : (j : ℕ) → is_among j ms ≡ true → (m == j) ≡ false
      apart j h = ne_eqb m j (λ same. false≢true (sym once.0 ∙ ap (λ i. is_among i ms) same ∙ h))

      rest : Forgets ms (without x.owner cs)
      rest = record { goes = goes; gone = gone }
        where
          -- another cell is at another place
          elsewhere : (j : ℕ) (y : Cell) → cell_of cs (message_name j) ≡ Some y → (m == j) ≡ false → same_place y.owner x.owner ≡ false
          elsewhere j y e other = go (same_place y.owner x.owner) refl
            where
              go : (b : Bool) → same_place y.owner x.owner ≡ b → b ≡ false
              go false g = refl
              go true g =
                  let one : Some y ≡ Some x = sym (cell_placed cs (message_name j) y no_duplicates e) ∙ ap (cell_in cs) (same_place-true y.owner x.owner g) ∙ placed in
                  let cell : y ≡ x = cc in
                  let names : message_name m ≡ message_name j = sym (cell_name cs (message_name m) x w.1) ∙ ap (λ (z : Cell). z.object.name) (sym cell)
                  ∙ cell_name cs (message_name j) y e in
                  absurd (false≢true (sym other ∙ eq-eqb m j (omega (arith, names))))

          goes : (j : ℕ) → is_among j ms ≡ true → (y : Cell) × (cell_of (without x.owner cs) (message_name j) ≡ Some y) × (drops y ≡ true)
              × (is_object y.object.thing ≡ false)
          goes j h =
              let y = forgets.goes j (later (m == j) (is_among j ms) h) in (
                y.0,
                cell_without cs x.owner (message_name j) no_duplicates ∙ ap (left_cell (λ c. same_place c.owner x.owner) (λ c. c.service)) y.1 ∙ ap
                    (λ b. cond b None (Some y.0)) (elsewhere j y.0 y.1 (apart j h)),
                y.2,
                y.3,
              )
            where
              later : (a b : Bool) → b ≡ true → (a || b) ≡ true
              later true b h = refl
              later false b h = h

          gone : (n : ℕ) (y : Cell) → cell_of (without x.owner cs) n ≡ Some y → drops y ≡ true → (j : ℕ) × (n ≡ message_name j) × (is_among j ms ≡ true)
          gone n y e h =
              let b = before_without cs x.owner n y no_duplicates e in
              let g = forgets.gone n y b.0 h in
              (g.0, g.1, by g.0 (m == g.0) refl g.1 b.0 b.1 g.2)
            where
              by : (j : ℕ) (b : Bool) → (m == j) ≡ b → n ≡ message_name j → cell_of cs n ≡ Some y → same_place y.owner x.owner ≡ false →
                  (b || is_among j ms) ≡ true → is_among j ms ≡ true
              by j false e name at other h = h
              by j true e name at other h =
                  let one : Some x ≡ Some y = sym w.1 ∙ ap (λ i. cell_of cs (message_name i)) (eqb-true m j e) ∙ ap (cell_of cs) (sym name) ∙ at in
                  let cell : x ≡ y = cc in
                  absurd (false≢true (sym other ∙ ap (λ (z : Cell). same_place z.owner x.owner) (sym cell) ∙ same_place_refl x.owner))

  -- and they are kept no more
  pub messages_filtered_cells : (p : Image) (before after : Store) (places : List ℕ) → Once places → (cs : List Cell) → NoDuplicates cs → Forgets places cs →
      ((m : ℕ) → is_among m places ≡ true → message_at after m ≡ None) → ((m : ℕ) → is_among m places ≡ false → message_at after m ≡ message_at before m) →
      after.limit ≡ before.limit → count after + length places ≡ count before → SameMessages p before cs → SameMessages p after (left cs)
  messages_filtered_cells p before after places once cs no_duplicates forgets gone others limit fewer same = record {
    there = λ m. there m (is_among m places) refl;
    within = λ m high. within m high (is_among m places) refl;
    past = λ n small. ap is_a_message (still n (λ x e. stays_below n small x e)) ∙ same.past n small;
    words = λ m w. words m w (is_among m places) refl;
    count = let cells = count_left places once cs no_duplicates forgets in let was = same.count in omega (arith, cells, was, fewer);
    limit = limit ∙ same.limit;
  }
    where
      within : (m : ℕ) → 1024 ≤ m → (b : Bool) → is_among m places ≡ b → message_at after m ≡ None
      within m high true e = gone m e
      within m high false e = others m e ∙ same.within m high

      cell_left : (n : ℕ) → cell_of (left cs) n ≡ left_cell drops f (cell_of cs n)
      cell_left n = cell_of_filtered_cells drops f cs n no_duplicates

      went : (m : ℕ) → is_among m places ≡ true → cell_of (left cs) (message_name m) ≡ None
      went m h = grind (arith, nat_tests, cell_left, left_cell drops f)

      -- what stays
      stays : (m : ℕ) → is_among m places ≡ false → (x : Cell) → cell_of cs (message_name m) ≡ Some x → drops x ≡ false
      stays m h x e = grind (arith, nat_tests)

      stays_below : (n : ℕ) → n < message_name 0 → (x : Cell) → cell_of cs n ≡ Some x → drops x ≡ false
      stays_below n small x e = grind (arith, nat_tests)

      still : (n : ℕ) → ((x : Cell) → cell_of cs n ≡ Some x → drops x ≡ false) → named (left cs) n ≡ named cs n
      still n h = named_cell (left cs) n ∙ ap object_in (cell_left n) ∙ go (cell_of cs n) refl ∙ sym (named_cell cs n)
        where
          go : (x : Option Cell) → cell_of cs n ≡ x → object_in (left_cell drops f x) ≡ object_in x
          go None e = refl
          go (Some x) e = ap (λ b. object_in (cond b None (Some (record x { service = f x })))) (h x e)

      there : (m : ℕ) (b : Bool) → is_among m places ≡ b → is_some (message_at after m) ≡ is_a_message (named (left cs) (message_name m))
      there m true h = ap is_some (gone m h) ∙ sym (ap is_a_message (named_cell (left cs) (message_name m) ∙ ap object_in (went m h)))
      there m false h = ap is_some (others m h) ∙ same.there m ∙ sym (ap is_a_message (still (message_name m) (stays m h)))

      words : (m w : ℕ) (b : Bool) → is_among m places ≡ b → word_at after m w ≡ word_field (left cs) (message_name m) w
      words m w true h = grind (arith, nat_tests, gone m h, words_cell, went m h)
      words m w false h = grind (arith, nat_tests, words_cell, cell_left, cell_of, left_cell, stays m h)
