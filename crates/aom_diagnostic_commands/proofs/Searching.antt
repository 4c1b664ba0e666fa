-- How the word is found that is wrong: line by line to its own, and there byte by byte.
use Rattle.std.proofs.Common.{ℕ, zero, suc, ◌≡◌, ◌≢◌, ◌∙◌, ◌<◌, ◌≤◌, ◌+◌, ◌-◌, ◌==◌, true, if◌then◌else◌, List, [], ◌∷◌, None, Some, Err, refl}
use Rattle.std.proofs.Common.{sym, ap, subst, arith}
use Rattle.std.proofs.Common.{drop, inl, inr, length, slice_index_or, take}
use Rattle.std.proofs.Math.Nat.{eq-or-lt_of_le}
use Rattle.std.proofs.lemmas.Bool.{cases_lt, ne_eqb}
use Rattle.aom_asm.specs.Denoted.{denoted}
use Rattle.aom_text.specs.declared.fault.AsmFault.{AsmFault}
use Rattle.aom_diagnostic_commands.specs.Wrong.{IsWrongEnd, RefusedAt, ends_word, line_start}

-- a byte more is behind
pub byte_behind : (text : List ℕ) (start before : ℕ) → start < length text → 0 < before →
    line_start (drop start text) before ≡ 1 + line_start (drop (start + 1) text) (if slice_index_or text start 10 == 10 then before - 1 else before)
byte_behind [] start before within some = absurd (omega (arith, within))
byte_behind (b ∷ bs) zero zero within some = absurd (omega (arith, some))
byte_behind (b ∷ bs) zero (suc before) within some =
    let less : before ≡ suc before - 1 = omega arith in
    ap (λ n. 1 + line_start bs (if b == 10 then n else suc before)) less
byte_behind (b ∷ bs) (suc start) before within some =
    let next : suc (start + 1) ≡ suc start + 1 = omega arith in
    byte_behind bs start before (omega (arith, within)) some
    ∙ ap (λ n. 1 + line_start (drop n (b ∷ bs)) (if slice_index_or bs start 10 == 10 then before - 1 else before)) next

module _ (text : List ℕ) (start before : ℕ) (within : start < length text) (some : 0 < before) where
  pub feed_behind : slice_index_or text start 10 ≡ 10 → start + line_start (drop start text) before ≡ start + 1 + line_start (drop (start + 1) text) (before - 1)
  feed_behind is = ap (λ n. start + n)
      (byte_behind text start before within some ∙ ap (λ b. 1 + line_start (drop (start + 1) text) (if b == 10 then before - 1 else before)) is) ∙ omega arith

  pub other_behind : slice_index_or text start 10 ≢ 10 → start + line_start (drop start text) before ≡ start + 1 + line_start (drop (start + 1) text) before
  other_behind not =
      ap (λ n. start + n) (byte_behind text start before within some
      ∙ ap (λ b. 1 + line_start (drop (start + 1) text) (if b then before - 1 else before)) (ne_eqb (slice_index_or text start 10) 10 not))
      ∙ omega arith

-- no line is before
pub none_before : (text : List ℕ) → line_start text 0 ≡ 0
none_before [] = refl
none_before (b ∷ bs) = refl

-- what holds below, and at the end, holds up to it
at_last : (P : ℕ → Type 0) (end place : ℕ) → place ≤ end → (place < end → P place) → P end → P place
at_last P end place most below last = elim (eq-or-lt_of_le most) [ inl same ↦ subst P (sym same) last | inr within ↦ below within ]

-- ---- in the fault's line

abbrev pub start_of : List ℕ → AsmFault → ℕ
start_of text fault = line_start text (fault.line - 1)

-- so far no word of the line is refused so
pub record Looked (text : List ℕ) (fault : AsmFault) (end : ℕ) : Type 0 where
  pub from : start_of text fault ≤ end
  pub near : end ≤ start_of text fault + 200
  pub inside : end ≤ length text
  pub line : (place : ℕ) → start_of text fault ≤ place → place < end → slice_index_or text place 10 ≢ 10
  pub none : (before : ℕ) → before ≤ end → ¬ RefusedAt text fault before

module _ (text : List ℕ) (fault : AsmFault) where
  pub begun : start_of text fault ≤ length text → Looked text fault (start_of text fault)
  begun within = record {
    from = omega arith;
    near = omega arith;
    inside = within;
    line = λ place from before. absurd (omega (arith, from, before));
    none = λ before most at. omega (arith, most, at.behind);
  }

  module _ (end : ℕ) (so_far : Looked text fault end) where
    -- a byte more is in the line
    further : slice_index_or text end 10 ≢ 10 → (place : ℕ) → start_of text fault ≤ place → place < end + 1 → slice_index_or text place 10 ≢ 10
    further other place from before = at_last (λ k. slice_index_or text k 10 ≢ 10) end place (omega (arith, before)) (λ within. so_far.line place from within) other

    pub gone_on : end < length text → end < start_of text fault + 200 → slice_index_or text end 10 ≢ 10 →
        (ends_word text (end + 1) ≡ true → denoted (take (end + 1) text) ≡ Err fault → ⊥) → Looked text fault (end + 1)
    gone_on inside near other not = record {
      from = omega (arith, so_far.from);
      near = omega (arith, near);
      inside = omega (arith, inside);
      line = further other;
      none = λ before most. at_last (λ k. ¬ RefusedAt text fault k) (end + 1) before most (λ within. so_far.none before (omega (arith, within)))
          (λ at. not at.ends at.so);
    }

    pub found : end < length text → end < start_of text fault + 200 → slice_index_or text end 10 ≢ 10 →
        ends_word text (end + 1) ≡ true → denoted (take (end + 1) text) ≡ Err fault → IsWrongEnd text fault (Some (end + 1))
    found inside near other ends so = (
      record {
        behind = omega (arith, so_far.from);
        near = omega (arith, near);
        inside = omega (arith, inside);
        line = further other;
        ends = ends;
        so = so;
      },
      λ before within. so_far.none before (omega (arith, within)),
    )

    -- nothing is left to look at
    none_behind : ((behind : ℕ) → end < behind → ¬ RefusedAt text fault behind) → IsWrongEnd text fault None
    none_behind later behind = elim (cases_lt end behind) [ inl past ↦ later behind past | inr most ↦ so_far.none behind most ]

    pub ends_with_text : length text ≤ end → IsWrongEnd text fault None
    ends_with_text past = none_behind (λ behind after at. omega (arith, past, after, at.inside))

    pub ends_far : start_of text fault + 200 ≤ end → IsWrongEnd text fault None
    ends_far far = none_behind (λ behind after at. omega (arith, far, after, at.near))

    pub ends_with_line : slice_index_or text end 10 ≡ 10 → IsWrongEnd text fault None
    ends_with_line feed = none_behind (λ behind after at. at.line end so_far.from after feed)
