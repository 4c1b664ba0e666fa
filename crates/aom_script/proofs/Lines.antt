-- What lines denote, by the lines that are read and the next one.
use Rattle.std.proofs.Common.{◌≡◌, ◌⊎◌, ◌∙◌, ℕ, ◌+◌, ◌≤◌, false, List, [], ◌∷◌, ◌++◌, length, length-append, append-nil}
use Rattle.std.proofs.Common.{append_assoc, Option, None, Result, Ok, Err, inl, inr, refl, sym, ap, arith}
use Rattle.std.proofs.lemmas.Grind.{flat_map-append}
use Rattle.std.specs.Prelude.{Some}
use Rattle.aom_script.specs.declared.fault.ScriptFaultKind.{ScriptFaultKind}
use Rattle.aom_script.specs.declared.line.ScriptLine.{ScriptLine}
use Rattle.aom_script.specs.declared.reading.Reading.{Reading}
use Rattle.aom_script.specs.Script.{Script, reading_of, said_by, said_in, is_back, counted, in_place, line_says, last_time, fault_in, fault_of, refused_by}
use Rattle.aom_script.specs.Script.{timed_by, refused_in, timed_in, in_line, faults_after, unless, denoted_by, AddsLine, Adds, LinesWantMemory}

-- ---- one line

-- a line that is not faulty says what its numbers say, is not back, and is not past the last
pub record Said (number last : ℕ) (reading : Result Reading ScriptFaultKind) (said : ScriptLine) : Type 0 where
  pub ok : Reading
  pub reads : reading ≡ Ok ok
  pub on_time : is_back last ok ≡ false
  pub says : said_by ok ≡ Some said
  pub few : number ≤ 65536

is_counted : (number : ℕ) (o : Option ScriptLine) (said : ScriptLine) → counted number o ≡ Ok said → (o ≡ Some said) × (number ≤ 65536)
is_counted number o said e = grind arith

pub is_said : (number last : ℕ) (reading : Result Reading ScriptFaultKind) (said : ScriptLine) → in_place number last reading ≡ Ok said →
    Said number last reading said
is_said number last reading said e = grind arith

pub in_said : (number last : ℕ) (line : List ℕ) (said : ScriptLine) → line_says number last line ≡ Ok said → said_in (reading_of line) ≡ Some said
in_said number last line said e = let s = is_said number last (reading_of line) said e in ap said_in s.reads ∙ s.says

-- ---- the faults of lines

-- those of lines and of those after them
faults_append : (before xs ys : List (List ℕ)) → faults_after before (xs ++ ys) ≡ faults_after before xs ++ faults_after (before ++ xs) ys
faults_append before [] ys = ap (λ ls. faults_after ls ys) (sym (append-nil before))
faults_append before (x ∷ xs) ys =
    let fault = in_line (length before + 1) (fault_of before x) in
    ap (λ fs. fault ++ fs) (faults_append (before ++ x ∷ []) xs ys ∙ ap (λ ls. faults_after (before ++ x ∷ []) xs ++ faults_after ls ys)
    (append_assoc before (x ∷ []) xs)) ∙ sym (append_assoc fault (faults_after (before ++ x ∷ []) xs) (faults_after (before ++ x ∷ xs) ys))

-- some lines are read, and none of them is faulty
pub record SoFar (lines rest : List (List ℕ)) (count : ℕ) (script : Script) : Type 0 where
  pub before : List (List ℕ)
  pub parts : lines ≡ before ++ rest
  pub counted : length before ≡ count
  pub faultless : faults_after [] before ≡ []
  pub refused : script.refused ≡ refused_in before
  pub timed : script.timed ≡ timed_in before

pub starts : (lines : List (List ℕ)) (script : Script) → script.refused ≡ [] → script.timed ≡ [] → SoFar lines lines 0 script
starts lines script none nothing = record { before = []; parts = refl; counted = refl; faultless = refl; refused = none; timed = nothing }

-- what the line at hand says, by the lines before it
has_task : (lines rest : List (List ℕ)) (line : List ℕ) (count : ℕ) (script : Script) (s : SoFar lines rest count script) →
    line_says (length s.before + 1) (last_time (timed_in s.before)) line ≡ line_says (count + 1) (last_time script.timed) line
has_task lines rest line count script s = ap (λ k. line_says (k + 1) (last_time (timed_in s.before)) line) s.counted
    ∙ ap (λ es. line_says (count + 1) (last_time es) line) (sym s.timed)

-- the faults of the lines before and of the line at hand
one_more : (lines rest : List (List ℕ)) (line : List ℕ) (count : ℕ) (script : Script) (s : SoFar lines rest count script) →
    (later : List (List ℕ)) (fault : Option ScriptFaultKind) → fault_in (line_says (count + 1) (last_time script.timed) line) ≡ fault →
    faults_after [] (s.before ++ line ∷ later) ≡ in_line (count + 1) fault ++ faults_after (s.before ++ line ∷ []) later
one_more lines rest line count script s later fault is = faults_append [] s.before (line ∷ later) ∙ ap (λ fs. fs ++ faults_after s.before (line ∷ later))
    s.faultless ∙ ap (λ f. in_line (length s.before + 1) f ++ faults_after (s.before ++ line ∷ []) later)
    (ap fault_in (has_task lines rest line count script s) ∙ is) ∙ ap (λ k. in_line (k + 1) fault ++ faults_after (s.before ++ line ∷ []) later) s.counted

-- there is one line more
goes : (lines later : List (List ℕ)) (line : List ℕ) (count : ℕ) (script new : Script) (said : ScriptLine) → SoFar lines (line ∷ later) count script →
    line_says (count + 1) (last_time script.timed) line ≡ Ok said → AddsLine said script new (Ok tt) → SoFar lines later (count + 1) new
goes lines later line count script new said s says kept =
    let is : Some said ≡ said_in (reading_of line) = sym (in_said (count + 1) (last_time script.timed) line said says) in
    record {
      before = s.before ++ line ∷ [];
      parts = s.parts ∙ sym (append_assoc s.before (line ∷ []) later);
      counted = length-append s.before (line ∷ []) ∙ ap (λ k. k + 1) s.counted;
      faultless = one_more lines (line ∷ later) line count script s [] None (ap fault_in says);
      refused = kept.0 ∙ ap (λ ns. ns ++ refused_by (Some said)) s.refused
          ∙ ap (λ o. refused_in s.before ++ refused_by o) is ∙ ap (λ ns. refused_in s.before ++ ns) (sym (append-nil (refused_by (said_in (reading_of line)))))
          ∙ sym (flat_map-append (λ l. refused_by (said_in (reading_of l))) s.before (line ∷ []));
      timed = kept.1 ∙ ap (λ es. es ++ timed_by (Some said)) s.timed ∙ ap (λ o. timed_in s.before ++ timed_by o) is ∙ ap (λ es. timed_in s.before ++ es)
          (sym (append-nil (timed_by (said_in (reading_of line))))) ∙ sym (flat_map-append (λ l. timed_by (said_in (reading_of l))) s.before (line ∷ []));
    }

pub goes_on : (lines later : List (List ℕ)) (line : List ℕ) (count : ℕ) (script new : Script) →
    SoFar lines (line ∷ later) count script → Adds (count + 1) line script new (Ok tt) → SoFar lines later (count + 1) new
goes_on lines later line count script new s (inl kept) = goes lines later line count script new kept.0 s kept.1 kept.2
goes_on lines later line count script new s (inr faulty) = let is = faulty.1 in absurd cc

-- all lines are read
pub ends : (lines : List (List ℕ)) (count : ℕ) (script : Script) → SoFar lines [] count script → denoted_by lines ≡ Ok script
ends lines count script s =
    let all : lines ≡ s.before = s.parts ∙ append-nil s.before in
    ap denoted_by all ∙ ap (λ fs. unless fs (record { refused = refused_in s.before; timed = timed_in s.before })) s.faultless ∙ ap (λ ns. Ok
    (record { refused = ns; timed = timed_in s.before })) (sym s.refused) ∙ ap (λ es. Ok (record { refused = script.refused; timed = es })) (sym s.timed)

-- the line at hand is not taken
pub stops : (lines later : List (List ℕ)) (line : List ℕ) (count : ℕ) (script new : Script) (kind : ScriptFaultKind) →
    SoFar lines (line ∷ later) count script → Adds (count + 1) line script new (Err kind)
    → (denoted_by lines ≡ Err (record { line = count + 1; kind = kind })) ⊎ LinesWantMemory lines (record { line = count + 1; kind = kind })
stops lines later line count script new kind s (inr faulty) =
    let same : faulty.0 ≡ kind = let is = faulty.1 in cc in
    inl (ap (λ fs. unless fs (record { refused = refused_in lines; timed = timed_in lines }))
    (ap (faults_after []) s.parts ∙ one_more lines (line ∷ later) line count script s later (Some kind) (ap fault_in faulty.2 ∙ ap (λ k. Some k) same)))
stops lines later line count script new kind s (inl wants) = inr (record {
  kind = wants.2.0;
  before = s.before;
  line = line;
  later = later;
  parts = s.parts;
  at = ap (λ k. k + 1) (sym s.counted);
  faultless = s.faultless;
  said = wants.0;
  says = ap (λ es. line_says (count + 1) (last_time es) line) (sym s.timed) ∙ wants.1;
  kept = wants.2.1;
})

-- no line has a number above the limit
pub few : (number : ℕ) (line : List ℕ) (old new : Script) → Adds number line old new (Ok tt) → number ≤ 65536
few number line old new (inl kept) = (is_said number (last_time old.timed) (reading_of line) kept.0 kept.1).few
few number line old new (inr faulty) = let is = faulty.1 in absurd cc
