-- The parts of a listing are read one after another.
use Rattle.std.proofs.lemmas.Bool.Decides.{nat_tests}
use Rattle.std.proofs.Common.{◌≡◌, ℕ, suc, ◌+◌, ◌*◌, ◌<◌, ◌≤◌, ◌^◌, Bool, true, false, List, [], ◌∷◌, ◌++◌, length, Option, Some, None, Result, Ok, Err, refl}
use Rattle.std.proofs.Common.{sym, ap, subst, ◌∙◌, append_assoc, append-nil, arith}
use Rattle.std.specs.Prelude.{cond, if◌then◌else◌}
use Rattle.std.specs.List.{All, count_by, sum_by}
use Rattle.std.proofs.Math.ListN.{length-append}
use Rattle.std.proofs.lemmas.Bool.{lt-ltb, ne_eqb}
use Rattle.std.proofs.lemmas.List.Elements.{All-head, All-tail}
use Rattle.std.proofs.lemmas.List.Sums.{sum_by-append, sum_by-cons}
use Rattle.aom_text.specs.Words.{others_of}
use Rattle.aom_text.specs.declared.fault.AsmFaultKind.{AsmFaultKind}
use Rattle.aom_text.specs.declared.fault.AsmFaultKind.TheVariants.{LimitPassed}
use Rattle.aom_text.specs.declared.text.Statement.{Statement}
use Rattle.aom_image.specs.WellFormed.{ClassFits, MethodFits, OverFits, ParentFits, is_server}
use Rattle.aom_instructions.specs.Versions.{family_bytes}
use Rattle.aom_instructions.specs.Fits.{InstrFits, limits}
use Rattle.aom_image.specs.declared.class.ClassDecl.{ClassDecl}
use Rattle.aom_image.specs.declared.image.Header.{Header}
use Rattle.aom_instructions.specs.declared.instr.Instr.{Instr}
use Rattle.aom_image.specs.declared.method.Method.{Method}
use Rattle.aom_syntax.specs.Methods.{heading}
use Rattle.aom_syntax.specs.Reading.{◌>>=◌, took}
use Rattle.aom_syntax.specs.declared.keyword.Keyword.TheVariants as k
use Rattle.aom_syntax.specs.declared.scope.Scope.{Scope}
use Rattle.aom_disassembler.specs.Classes.{class_words}
use Rattle.aom_disassembler.specs.Jumps.{is_target}
use Rattle.aom_disassembler.specs.Listing.{classes_statements, end_words, instr_statements, instr_words, label_words, method_statements, methods_statements}
use Rattle.aom_disassembler.specs.Methods.{heading_words}
use Rattle.aom_disassembler.specs.Operands.{label_name}
use Rattle.aom_disassembler.specs.Words.{words_statement}
use Rattle.aom_asm.specs.Body.{Body, Program}
use Rattle.aom_asm.specs.Denoted.{declaration, grown, step}
use Rattle.aom_asm_semantics.proofs.AsmLemmas.{class_bytes, serialized}
use Rattle.aom_asm.specs.TextNames.{is_end, label_in, labels_of, label_or_none as label_or_empty}
use Rattle.aom_asm_semantics.specs.Naming.{HasNames, code_labels, heading_of, label_or_none, labels_from}
use Rattle.aom_asm_semantics.specs.Texts.{SaysQuiet, all_words}
use Rattle.aom_asm_semantics.proofs.ClassesBack.{class_statement_reads}
use Rattle.aom_asm_semantics.proofs.Following.{Goes, arrives, at_seam, goes_on, room, stays, steps, first_of}
use Rattle.aom_asm_semantics.proofs.Methods.{heading_reads}
use Rattle.aom_asm_semantics.proofs.Readings.{takes_any_keyword}
use Rattle.aom_asm_semantics.proofs.Statements.{instruction_reads, label_cut}

-- ---- the first word of an instruction's statement

plain_is_no_end : (i : Instr) → is_end (words_statement i) ≡ false
plain_is_no_end x = grind arith

plain_has_no_label : (i : Instr) → label_in (words_statement i) ≡ []
plain_has_no_label x = grind arith

plain_takes_no_end : (i : Instr) → took k.End (words_statement i) ≡ (false, words_statement i)
plain_takes_no_end x = grind arith

is_no_end : (b : Bool) (place : ℕ) (i : Instr) → is_end (label_words b place ++ words_statement i) ≡ false
is_no_end x place i = grind (arith, nat_tests, plain_is_no_end i)

takes_no_end : (b : Bool) (place : ℕ) (i : Instr) → took k.End (label_words b place ++ words_statement i) ≡ (false, label_words b place ++ words_statement i)
takes_no_end x place i = grind (arith, nat_tests, plain_takes_no_end i)

has_its_label : (b : Bool) (place : ℕ) (i : Instr) → label_in (label_words b place ++ words_statement i) ≡ label_or_none b place
has_its_label true place i = ap label_or_empty (label_cut (label_name place))
has_its_label false place i = plain_has_no_label i

-- the labels up to the end of a method are those of its code
labels_there : (code : List Instr) (place : ℕ) (is : List Instr) (labels : List (List ℕ)) (left : List (List (List ℕ))) (ss : List Statement) →
    all_words ss ≡ instr_statements code place is ++ end_words ∷ left → labels_of labels ss ≡ labels ++ labels_from code place is
labels_there code place [] labels left ss words =
    let f = first_of ss words in
    ap (labels_of labels) f.is ∙ ap (λ ws. if is_end ws then labels else labels_of (labels ++ label_in ws ∷ []) f.rest) f.here ∙ sym (append-nil labels)
labels_there code place (i ∷ is) labels left ss words =
    let f = first_of ss words in
    let jumped = is_target code place in
    ap (labels_of labels) f.is ∙ ap (λ ws. if is_end ws then labels else labels_of (labels ++ label_in ws ∷ []) f.rest) f.here
    ∙ ap (λ b. if b then labels else labels_of (labels ++ label_in (instr_words code place i) ∷ []) f.rest) (is_no_end jumped place i)
    ∙ ap (λ l. labels_of (labels ++ l ∷ []) f.rest) (has_its_label jumped place i) ∙ labels_there code (place + 1) is
    (labels ++ label_or_none jumped place ∷ []) left f.rest f.behind ∙ append_assoc labels (label_or_none jumped place ∷ []) (labels_from code (place + 1) is)

-- ---- programs

-- a program between two statements
abbrev pub read_so_far : Header → List ClassDecl → List Method → Option Body → ℕ → Program
read_so_far h cs ms b size = record { header = h; classes = cs; methods = ms; body = b; size = size }

-- so much does a class count among the servers
abbrev counted : ClassDecl → ℕ
counted c = cond (is_server c) 1 0

-- a class is a server while few have been, where few are in all
pub few_before : (cs : List ClassDecl) (c : ClassDecl) (todo : List ClassDecl) → count_by is_server (cs ++ c ∷ todo) ≤ 8 → is_server c ≡ true →
    count_by is_server cs < 8
few_before cs c todo few serves =
    let one : counted c ≡ 1 = ap (λ (b : Bool). cond {A = ℕ} b 1 0) serves in
    let parted : sum_by counted (cs ++ c ∷ todo) ≡ sum_by counted cs + sum_by counted (c ∷ todo) = sum_by-append counted cs (c ∷ todo) in
    let headed : sum_by counted (c ∷ todo) ≡ counted c + sum_by counted todo = sum_by-cons counted c todo in
    let bound : sum_by counted (cs ++ c ∷ todo) ≤ 8 = few in
    let less : sum_by counted cs < 8 = omega arith in
    less

module _ (last : ℕ) (h : Header) (classes methods : ℕ) (scope : Scope) (names : HasNames classes methods scope) (few_natives : h.natives ≤ 16) where
  -- what tells of families in each class and method
  abbrev more : ℕ
  more = family_bytes h.version

  abbrev fits_parent : ClassDecl → Type 0
  fits_parent c = ParentFits h.version classes c.kind c.parent

  -- ---- classes

  class_steps : (cs : List ClassDecl) (c : ClassDecl) (size : ℕ) (rest : List Statement) → length cs < classes →
      ClassFits h.version classes h.natives c → fits_parent c → (is_server c ≡ true → count_by is_server cs < 8) → size + (28 + more) ≤ 2 ^ 20
      → step scope rest (read_so_far h cs [] None size) (class_words (length cs) c) ≡ Ok (read_so_far h (cs ++ c ∷ []) [] None (size + (28 + more)))
  class_steps cs c size rest there fits parent few enough =
      grind (arith, nat_tests, takes_any_keyword, lt-ltb, class_statement_reads classes methods scope names h.version h.natives, room)

  pub classes_go : (cs todo : List ClassDecl) (size : ℕ) (left : List (List (List ℕ))) (ss : List Statement)
      → length cs + length todo ≤ classes → All (ClassFits h.version classes h.natives) todo → All fits_parent todo → count_by is_server (cs ++ todo) ≤ 8 →
      size + sum_by (class_bytes h.version) todo ≤ 2 ^ 20 → all_words ss ≡ classes_statements (length cs) todo ++ left →
      Goes last scope (read_so_far h cs [] None size) ss (read_so_far h (cs ++ todo) [] None (size + sum_by (class_bytes h.version) todo)) left
  classes_go cs [] size left ss there fits parents few enough words =
      let same : size ≡ size + 0 = omega arith in
      stays ss (ap (λ l. read_so_far h l [] None size) (sym (append-nil cs)) ∙ ap (λ n. read_so_far h (cs ++ []) [] None n) same) words
  classes_go cs (c ∷ todo) size left ss there fits parents few enough words =
      let longer : length (cs ++ c ∷ []) ≡ length cs + 1 = length-append cs (c ∷ []) in
      let regrouped : (cs ++ c ∷ []) ++ todo ≡ cs ++ c ∷ todo = append_assoc cs (c ∷ []) todo in
      let total : sum_by (class_bytes h.version) (c ∷ todo) ≡ (28 + more) + sum_by (class_bytes h.version) todo = sum_by-cons (class_bytes h.version) c todo in
      let summed : (size + (28 + more)) + sum_by (class_bytes h.version) todo ≡ size + sum_by (class_bytes h.version) (c ∷ todo) = omega arith in
      goes_on (steps {q = read_so_far h (cs ++ c ∷ []) [] None (size + (28 + more))} {left = classes_statements (length cs + 1) todo ++ left} ss words
      (λ rest behind. class_steps cs c size rest (omega arith)
      (All-head (ClassFits h.version classes h.natives) c todo fits) (All-head fits_parent c todo parents) (few_before cs c todo few) (omega arith)))
      (λ rest behind. arrives (grind (arith, nat_tests, class_bytes h.version))
      (classes_go (cs ++ c ∷ []) todo (size + (28 + more)) left rest (omega arith) (All-tail (ClassFits h.version classes h.natives) c todo fits)
      (All-tail fits_parent c todo parents) (subst (λ l. count_by is_server l ≤ 8) (sym regrouped) few) (omega arith)
      (behind ∙ ap (λ n. classes_statements n todo ++ left) (sym longer))))

  -- ---- methods

  module _ (cs : List ClassDecl) where
    -- a method that is being read
    abbrev body_of : Method → List Instr → Body
    body_of m code = record { heading = heading_of m; labels = code_labels m.code; code = code }

    abbrev opened : List Method → Method → List Instr → ℕ → Program
    opened ms m code size = read_so_far h cs ms (Some (body_of m code)) size

    heading_steps : (ms : List Method) (m : Method) (size : ℕ) (left : List (List (List ℕ))) (rest : List Statement) → length ms < methods → MethodFits
        h.version classes methods m → OverFits h.version methods m.over → SaysQuiet m → size + (24 + more) ≤ 2 ^ 20 → all_words rest ≡ instr_statements m.code 0
        m.code ++ end_words ∷ left → step scope rest (read_so_far h cs ms None size) (heading_words (length ms) m) ≡ Ok (opened ms m [] (size + (24 + more)))
    heading_steps ms m size left rest there fits over quiet enough words =
        let few_methods = names.few_methods in
        let ws = others_of (heading_words (length ms) m) in
        let p = read_so_far h cs ms None size in
        ap (λ e. e >>= λ key. declaration scope rest p key.0 key.1) ((takes_any_keyword k.Method).reads ws)
        ∙ ap (λ b. if b then (heading scope h.version (length ms) ws >>= λ x. grown (24 + more) size >>= λ n. Ok (read_so_far h cs ms
        (Some (record { heading = x.0; labels = labels_of [] rest; code = [] })) n)) else Err LimitPassed) (lt-ltb (length ms) 1024 (omega arith)) ∙ ap (λ e. e
        >>= λ x. grown (24 + more) size >>= λ n. Ok (read_so_far h cs ms (Some (record { heading = x.0; labels = labels_of [] rest; code = [] })) n))
        (heading_reads names h.version (length ms) m there fits over quiet)
        ∙ ap (λ e. e >>= λ n. Ok (read_so_far h cs ms (Some (record { heading = heading_of m; labels = labels_of [] rest; code = [] })) n)) (room
        (24 + more) size enough) ∙ ap (λ l. Ok (read_so_far h cs ms (Some (record { heading = heading_of m; labels = l; code = [] })) (size + (24 + more))))
        (labels_there m.code 0 m.code [] left rest words)

    -- the instruction is read behind those that were read, and put behind them
    abbrev added : List Method → Method → List Instr → ℕ → Result (Instr × List (List ℕ)) AsmFaultKind → Result Program AsmFaultKind
    added ms m done size read = (read >>= λ x. Ok (body_of m (done ++ x.0 ∷ []))) >>= λ b. grown 8 size >>= λ n. Ok (read_so_far h cs ms (Some b) n)

    instruction_steps : (ms : List Method) (m : Method) (done : List Instr) (i : Instr) (todo : List Instr) (size : ℕ) (rest : List Statement) →
        MethodFits h.version classes methods m → m.code ≡ done ++ i ∷ todo → InstrFits (limits h.version classes methods (length m.code)) i → size + 8 ≤ 2 ^ 20
        → step scope rest (opened ms m done size) (instr_words m.code (length done) i) ≡ Ok (opened ms m (done ++ i ∷ []) (size + 8))
    instruction_steps ms m done i todo size rest fits whole fit enough = grind (
      arith,
      nat_tests,
      length-append done (i ∷ todo),
      at_seam done i todo,
      takes_no_end,
      lt-ltb,
      instruction_reads names h.version m.code fits.code_length,
      room 8 size enough,
    )

    instructions_go : (ms : List Method) (m : Method) (done todo : List Instr) (size : ℕ) (left : List (List (List ℕ))) (ss : List Statement)
        → MethodFits h.version classes methods m → m.code ≡ done ++ todo → All (InstrFits (limits h.version classes methods (length m.code))) todo →
        size + 8 * length todo ≤ 2 ^ 20 → all_words ss ≡ instr_statements m.code (length done) todo ++ left →
        Goes last scope (opened ms m done size) ss (opened ms m (done ++ todo) (size + 8 * length todo)) left
    instructions_go ms m done [] size left ss fits whole each enough words =
        let same : size ≡ size + 8 * 0 = omega arith in
        stays ss (ap (λ l. opened ms m l size) (sym (append-nil done)) ∙ ap (λ n. opened ms m (done ++ []) n) same) words
    instructions_go ms m done (i ∷ todo) size left ss fits whole each enough words =
        let longer : length (done ++ i ∷ []) ≡ length done + 1 = length-append done (i ∷ []) in
        let regrouped : (done ++ i ∷ []) ++ todo ≡ done ++ i ∷ todo = append_assoc done (i ∷ []) todo in
        let summed : (size + 8) + 8 * length todo ≡ size + 8 * suc (length todo) = omega arith in
        goes_on (steps {q = opened ms m (done ++ i ∷ []) (size + 8)} {left = instr_statements m.code (length done + 1) todo ++ left} ss words
        (λ rest behind. instruction_steps ms m done i todo size rest fits whole (All-head (InstrFits (limits h.version classes methods (length m.code))) i todo each) (omega arith)))
        (λ rest behind. arrives (ap (λ l. opened ms m l ((size + 8) + 8 * length todo)) regrouped ∙ ap (λ n. opened ms m (done ++ i ∷ todo) n) summed)
        (instructions_go ms m (done ++ i ∷ []) todo (size + 8) left rest fits
        (whole ∙ sym regrouped) (All-tail (InstrFits (limits h.version classes methods (length m.code))) i todo each) (omega arith)
        (behind ∙ ap (λ n. instr_statements m.code n todo ++ left) (sym longer))))

    end_steps : (ms : List Method) (m : Method) (size : ℕ) (rest : List Statement) →
        1 ≤ length m.code → step scope rest (opened ms m m.code size) end_words ≡ Ok (read_so_far h cs (ms ++ m ∷ []) None size)
    end_steps ms m size rest some = grind (arith, nat_tests, ne_eqb)

    method_goes : (ms : List Method) (m : Method) (size : ℕ) (left : List (List (List ℕ))) (ss : List Statement) → length ms < methods → MethodFits
        h.version classes methods m → OverFits h.version methods m.over → SaysQuiet m → size + serialized h.version m ≤ 2 ^ 20 → all_words ss ≡ method_statements
        (length ms) m ++ left → Goes last scope (read_so_far h cs ms None size) ss (read_so_far h cs (ms ++ m ∷ []) None (size + serialized h.version m)) left
    method_goes ms m size left ss there fits over quiet enough words =
        let code = instr_statements m.code 0 m.code in
        let heading = heading_words (length ms) m in
        let inner : (code ++ end_words ∷ []) ++ left ≡ code ++ end_words ∷ left = append_assoc code (end_words ∷ []) left in
        let summed : (size + (24 + more)) + 8 * length m.code ≡ size + serialized h.version m = omega arith in
        arrives (ap (λ n. read_so_far h cs (ms ++ m ∷ []) None n) summed) (
        goes_on (steps {q = opened ms m [] (size + (24 + more))} {left = code ++ end_words ∷ left} ss (words ∙ ap (λ l. heading ∷ l) inner)
        (λ rest behind. heading_steps ms m size left rest there fits over quiet (omega arith) behind)) (λ rest behind. goes_on
        (instructions_go ms m [] m.code (size + (24 + more)) (end_words ∷ left) rest fits refl fits.code (omega arith) behind)
        (λ rest behind. steps rest behind (λ rest behind. end_steps ms m ((size + (24 + more)) + 8 * length m.code) rest fits.some_code))))

    pub methods_go : (ms todo : List Method) (size : ℕ) (left : List (List (List ℕ))) (ss : List Statement)
        → length ms + length todo ≤ methods → All (MethodFits h.version classes methods) todo → All (λ m. OverFits h.version methods m.over) todo →
        All SaysQuiet todo → size + sum_by (serialized h.version) todo ≤ 2 ^ 20 → all_words ss ≡ methods_statements (length ms) todo ++ left →
        Goes last scope (read_so_far h cs ms None size) ss (read_so_far h cs (ms ++ todo) None (size + sum_by (serialized h.version) todo)) left
    methods_go ms [] size left ss there fits overridden_methods quiet enough words =
        let same : size ≡ size + 0 = omega arith in
        stays ss (ap (λ l. read_so_far h cs l None size) (sym (append-nil ms)) ∙ ap (λ n. read_so_far h cs (ms ++ []) None n) same) words
    methods_go ms (m ∷ todo) size left ss there fits overridden_methods quiet enough words =
        let longer : length (ms ++ m ∷ []) ≡ length ms + 1 = length-append ms (m ∷ []) in
        let regrouped : (ms ++ m ∷ []) ++ todo ≡ ms ++ m ∷ todo = append_assoc ms (m ∷ []) todo in
        let bytes = serialized h.version in
        let total : sum_by bytes (m ∷ todo) ≡ bytes m + sum_by bytes todo = sum_by-cons bytes m todo in
        let summed : (size + bytes m) + sum_by bytes todo ≡ size + sum_by bytes (m ∷ todo) = omega arith in
        goes_on
        (method_goes ms m size (methods_statements (length ms + 1) todo ++ left) ss (omega arith) (All-head (MethodFits h.version classes methods) m todo fits)
        (All-head (λ m. OverFits h.version methods m.over) m todo overridden_methods) (All-head SaysQuiet m todo quiet) (omega arith)
        (words ∙ append_assoc (method_statements (length ms) m) (methods_statements (length ms + 1) todo) left))
        (λ rest behind. arrives (grind (arith, nat_tests))
        (methods_go (ms ++ m ∷ []) todo (size + bytes m) left rest (omega arith) (All-tail (MethodFits h.version classes methods) m todo fits)
        (All-tail (λ m. OverFits h.version methods m.over) m todo overridden_methods) (All-tail SaysQuiet m todo quiet) (omega arith)
        (behind ∙ ap (λ n. methods_statements n todo ++ left) (sym longer))))
