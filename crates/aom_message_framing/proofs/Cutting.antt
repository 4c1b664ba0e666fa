-- A stream is cut in one way: what a frame begins with says where it ends.
use Rattle.std.proofs.Common.{◌≡◌, ◌∙◌, ◌≤◌, ◌<◌, ◌+◌, ◌^◌, ◌⊎◌, inl, inr, List, ◌++◌, ℕ, Option, Some, None, refl, ap, arith, sym, length, take, length-append, length-take, append_assoc}
use Rattle.std.proofs.lemmas.Bool.{cases_lt, true≢false}
use Rattle.std.proofs.lemmas.List.{take-take}
use Rattle.std.proofs.Math.Seq.{take-append_seam}
use Rattle.aom_message_framing.specs.Frames.{HasLength, HasNoHead, IsFrame, IsHead, SaysNoLength, announced, is_whole}
use Rattle.aom_message_framing.specs.declared.frames.Frame.{Frame}
use Rattle.aom_message_framing.specs.declared.frames.Frame.TheVariants as brings

abbrev extra : Option ℕ → ℕ
extra None = 0
extra (Some count) = count

-- a stream begins with a head, behind which a frame of that size has what it says
record Headed (stream : List ℕ) (all : ℕ) (head : List ℕ) : Type 0 where
  of : IsHead head
  first : take (length head) stream ≡ head
  size : all ≡ length head + extra (announced head)

-- a stream begins with 8,192 bytes that are no head
record Headless (stream : List ℕ) (all : ℕ) : Type 0 where
  of : HasNoHead (take all stream)
  size : all ≡ 2 ^ 13
  long : all ≤ length stream

abbrev Form : List ℕ → ℕ → Type 0
Form stream all = ((head : List ℕ) × Headed stream all head) ⊎ Headless stream all

first_of : (head rest stream : List ℕ) → stream ≡ head ++ rest → take (length head) stream ≡ head
first_of head rest stream is = ap (take (length head)) is ∙ take-append_seam head rest

-- the form of a frame
with_length : (frame head message rest stream : List ℕ) → HasLength frame head message → stream ≡ frame ++ rest → Form stream (length frame)
with_length frame head message rest stream has is =
    let split : stream ≡ head ++ (message ++ rest) = is ∙ ap (λ f. f ++ rest) has.is ∙ append_assoc head message rest in
    inl (
      head,
      record {
        of = has.whole;
        first = first_of head (message ++ rest) stream split;
        size = ap length has.is ∙ length-append head message ∙ ap (λ o. length head + extra o) (sym has.says);
      },
    )

without_length : (frame rest stream : List ℕ) → SaysNoLength frame → stream ≡ frame ++ rest → Form stream (length frame)
without_length frame rest stream (inl none) is = inl (frame, record { of = none.0; first = first_of frame rest stream is; size = grind (arith, ap extra none.1) })
without_length frame rest stream (inr long) is =
    let first = first_of frame rest stream is in
    inr (record { of = record { none = λ k within. ap (λ f. is_whole (take k f)) first ∙ long.0.none k (grind (arith, ap length first)) }; size = long.1; long = grind (arith, ap length is, length-append frame rest) })

form_of : (frame rest stream : List ℕ) (brought : Frame) → IsFrame frame brought → stream ≡ frame ++ rest → Form stream (length frame)
form_of frame rest stream (brings.Message message) frames is = with_length frame frames.0.0 message.items rest stream frames.0.1 is
form_of frame rest stream brings.TooLong frames is = with_length frame frames.0 frames.1 rest stream frames.2 is
form_of frame rest stream brings.NoLength frames is = without_length frame rest stream frames is

-- no head is shorter than another of the same stream
not_before : (stream : List ℕ) (all some : ℕ) (head other : List ℕ) → Headed stream all head → Headed stream some other → length head < length other → ⊥
not_before stream all some head other one two before =
    let same : take (length head) other ≡ head = ap (take (length head)) (sym two.first) ∙ take-take (length head) (length other) stream (grind (arith, before)) ∙ one.first in
    true≢false (sym one.of.whole ∙ ap is_whole (sym same) ∙ two.of.first (length head) before)

same_size : (stream : List ℕ) (all some : ℕ) (head other : List ℕ) → Headed stream all head → Headed stream some other → (length head < length other) ⊎ (length other ≤ length head) → all ≡ some
same_size stream all some head other one two (inl before) = absurd (not_before stream all some head other one two before)
same_size stream all some head other one two (inr behind) = elim (cases_lt (length other) (length head)) [
  | inl before ↦ absurd (not_before stream some all other head two one before)
  | inr equal ↦
      let long : length head ≡ length other = grind (arith, behind, equal) in
      let same : head ≡ other = sym one.first ∙ ap (λ n. take n stream) long ∙ two.first in
      one.size ∙ ap (λ h. length h + extra (announced h)) same ∙ sym two.size
]

-- a head is no beginning without one
no_head : (stream : List ℕ) (all some : ℕ) (head : List ℕ) → Headed stream all head → Headless stream some → ⊥
no_head stream all some head one two =
    let few : length head ≤ some = grind (arith, one.of.few, two.size) in
    let within : length head ≤ length (take some stream) = grind (arith, few, two.long, length-take) in
    let same : take (length head) (take some stream) ≡ head = take-take (length head) some stream few ∙ one.first in
    true≢false (sym one.of.whole ∙ ap is_whole (sym same) ∙ two.of.none (length head) within)

one_size : (stream : List ℕ) (all some : ℕ) → Form stream all → Form stream some → all ≡ some
one_size stream all some (inl one) (inl two) = same_size stream all some one.0 two.0 one.1 two.1 (cases_lt (length one.0) (length two.0))
one_size stream all some (inl one) (inr two) = absurd (no_head stream all some one.0 one.1 two)
one_size stream all some (inr one) (inl two) = absurd (no_head stream some all two.0 two.1 one)
one_size stream all some (inr one) (inr two) = one.size ∙ sym two.size

pub cut_once : (one other rest others : List ℕ) (brought meant : Frame) → IsFrame one brought → IsFrame other meant → one ++ rest ≡ other ++ others → one ≡ other
cut_once one other rest others brought meant first second is =
    let size = one_size (one ++ rest) (length one) (length other) (form_of one rest (one ++ rest) brought first refl) (form_of other others (one ++ rest) meant second is) in
    sym (first_of one rest (one ++ rest) refl) ∙ ap (λ n. take n (one ++ rest)) size ∙ first_of other others (one ++ rest) is
