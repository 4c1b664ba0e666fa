-- What is out after several texts, the last of which may be cut.
use Rattle.std.proofs.lemmas.Bool.Decides.{nat_tests}
use Rattle.std.proofs.Common.{◌≡◌, ℕ, suc, min, arith, ◌+◌, ◌<◌, List, [], ◌∷◌, ◌++◌, Option, Some, None, length, take, drop, get_or, refl, sym, ap, ◌∙◌}
use Rattle.std.proofs.Common.{append-nil, append_assoc}
use Rattle.std.proofs.Math.Seq.{take-append-add, take-suc}
use Rattle.std.proofs.lemmas.List.{take-append-le, take-append-drop, take_min}
use Rattle.std.proofs.lemmas.Grind.{flat_map-append}
use Rattle.aom_transcript.specs.declared.line.Line.{Line}
use Rattle.aom_transcript.specs.Text.{line_text, ended, text_of}
use Rattle.aom_transcript.specs.Naming.{text_by}
use Rattle.aom_transcript.specs.Sinks.{after}

pub after_both : (before : Option (List ℕ)) (a b : List ℕ) → after (after before a) b ≡ after before (a ++ b)
after_both None a b = refl
after_both (Some t) a b = ap (λ (u : List ℕ). Some u) (append_assoc t a b)

pub after_none : (out : Option (List ℕ)) → out ≡ after out []
after_none None = refl
after_none (Some t) = ap (λ (u : List ℕ). Some u) (sym (append-nil t))

pub text_by_both : (reads : Line → List ℕ) (ls ks : List Line) → text_by reads (ls ++ ks) ≡ text_by reads ls ++ text_by reads ks
text_by_both reads ls ks = flat_map-append (λ line. ended (reads line)) ls ks

pub text_of_both : (ls ks : List Line) → text_of (ls ++ ks) ≡ text_of ls ++ text_of ks
text_of_both ls ks = text_by_both line_text ls ks

-- a whole text, and the beginning of the next
pub cut_next : (before : Option (List ℕ)) (a b : List ℕ) (n : ℕ) → after (after before a) (take n b) ≡ after before (take (length a + n) (a ++ b))
cut_next before a b n = after_both before a (take n b) ∙ ap (after before) (sym (take-append-add a b n))

-- the beginning of a text is one of a longer text
pub cut_short : (n : ℕ) (a b : List ℕ) → take n a ≡ take (min n (length a)) (a ++ b)
cut_short n a b = sym (take-append-le (min n (length a)) a b (omega arith) ∙ take_min n a)

-- what is out and what the page holds are the text of the lines, one after the other
pub record Paged (reads : Line → List ℕ) (before now : Option (List ℕ)) (page : List ℕ) (lines : List Line) : Type 0 where
  pub sent : List ℕ
  pub out : now ≡ after before sent
  pub whole : sent ++ page ≡ text_by reads lines

-- one line more
pub line_added : {reads : Line → List ℕ} (before now : Option (List ℕ)) (old page : List ℕ) (lines : List Line) (i : ℕ) (line : Line) → i < length lines →
    line ≡ get_or lines i line → Paged reads before now old (take i lines) → page ≡ old ++ ended (reads line) → Paged reads before now page (take (i + 1) lines)
line_added {reads} before now old page lines i line within is p added =
    let more : i + 1 ≡ suc i = omega arith in
    let next : text_by reads (take (i + 1) lines) ≡ text_by reads (take i lines) ++ ended (reads line) =
    ap (text_by _) (ap (λ n. take n lines) more ∙ take-suc _ i line within ∙ ap (λ l. take i lines ++ l ∷ []) (sym is))
    ∙ text_by_both reads _ _ ∙ ap (λ t. text_by reads (take i lines) ++ t) (append-nil _)
    in
    record {
      sent = p.sent;
      out = p.out;
      whole = ap (λ t. p.sent ++ t) added ∙ sym (append_assoc p.sent old (ended (reads line))) ∙ ap (λ t. t ++ ended (reads line)) p.whole ∙ sym next;
    }

pub still_paged : {reads : Line → List ℕ} (before mid now : Option (List ℕ)) (old page : List ℕ) (lines : List Line) →
    Paged reads before mid old lines → now ≡ mid → page ≡ old → Paged reads before now page lines
still_paged {reads} before mid now old page lines p out is = record { sent = p.sent; out = out ∙ p.out; whole = ap (λ t. p.sent ++ t) is ∙ p.whole }

-- the page is out
pub page_sent : {reads : Line → List ℕ} (before mid now : Option (List ℕ)) (old page : List ℕ) (lines : List Line) →
    Paged reads before mid old lines → now ≡ after mid old → page ≡ [] → Paged reads before now page lines
page_sent {reads} before mid now old page lines p out is = record {
  sent = p.sent ++ old;
  out = out ∙ ap (λ o. after o old) p.out ∙ after_both before p.sent old;
  whole = ap (λ t. (p.sent ++ old) ++ t) is ∙ append-nil (p.sent ++ old) ∙ p.whole;
}

-- the beginning of the page is out
pub page_cut : {reads : Line → List ℕ} (before mid now : Option (List ℕ)) (page : List ℕ) (lines : List Line) (i n : ℕ) →
    Paged reads before mid page (take i lines) → now ≡ after mid (take n page) → (k : ℕ) × (now ≡ after before (take k (text_by reads lines)))
page_cut {reads} before mid now page lines i n p out =
    let reported = text_by reads (take i lines) in
    let all : reported ++ text_by reads (drop i lines) ≡ text_by reads lines = sym (text_by_both reads _ _) ∙ ap (text_by reads) (take-append-drop i lines) in
    let sent = length p.sent + n in
    (min sent (length reported), grind (arith, nat_tests, out, cut_next, sent, cut_short))
