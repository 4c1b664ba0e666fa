-- Of words that are no `refuse N` the second says the kind.
use Rattle.std.proofs.Common.{◌≡◌, ◌∷◌, ◌∙◌, ℕ, false, List, Some, arith}
use Rattle.aom_text.specs.Words.{first_of, others_of}
use Rattle.aom_script.specs.Script.{is_refusal, timed_says, words_say}
use Rattle.aom_script.proofs.reading.read_words.Goals as goal

timed : (ws left others : List (List ℕ)) (first second : List ℕ) → Some first ≡ first_of ws → left ≡ others_of ws →
    Some second ≡ first_of left → others ≡ others_of left → is_refusal first others ≡ false → timed_says second (first ∷ others) ≡ words_say ws
timed ws left others first second is_first is_left is_second are_others no_refusal = grind arith

pub returns-else-is_refusal : goal.returns-else-is_refusal
returns-else-is_refusal c =
    c.read_timed.ensures ∙ timed _ _ _ _ _ c.in-Some.ensures.word c.in-Some.ensures.rest c.in-Some-next.ensures.word c.in-Some-next.ensures.rest cc
