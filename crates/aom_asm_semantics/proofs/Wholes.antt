-- Statements that mean a program are read as that program, whether names are told apart or not.
use Rattle.std.proofs.lemmas.Bool.Decides.{nat_tests}
use Rattle.std.proofs.Common.{◌≡◌, ℕ, suc, ◌+◌, ◌*◌, ◌<◌, ◌≤◌, ◌^◌, Bool, true, List, [], ◌∷◌, ◌++◌, map, length, Option, Some, None, Result, Ok}
use Rattle.std.proofs.Common.{Err, refl, sym, ap, subst, ◌∙◌, append_assoc, append-nil, arith}
use Rattle.std.specs.Prelude.{IfSome, if◌then◌else◌}
use Rattle.std.specs.List.{count_by, sum_by}
use Rattle.std.proofs.lemmas.Bool.{lt-ltb, ne_eqb}
use Rattle.std.proofs.lemmas.List.Sums.{sum_by-cons}
use Rattle.std.proofs.lemmas.List.{length_push}
use Rattle.aom_text.specs.Names.{is_name}
use Rattle.aom_text.specs.declared.fault.AsmFaultKind.{AsmFaultKind}
use Rattle.aom_text.specs.declared.fault.AsmFaultKind.TheVariants.{LimitPassed}
use Rattle.aom_text.specs.declared.text.Statement.{Statement}
use Rattle.aom_image.specs.WellFormed.{is_server}
use Rattle.aom_instructions.specs.Versions.{family_bytes}
use Rattle.aom_instructions.specs.declared.version.Version.{Version}
use Rattle.aom_image.specs.declared.class.ClassDecl.{ClassDecl}
use Rattle.aom_image.specs.declared.image.Header.{Header}
use Rattle.aom_instructions.specs.declared.instr.Instr.{Instr}
use Rattle.aom_image.specs.declared.method.Method.{Method}
use Rattle.aom_syntax.specs.Classes.{class_statement}
use Rattle.aom_syntax.specs.Keywords.{keyword_text}
use Rattle.aom_syntax.specs.Methods.{heading, instruction}
use Rattle.aom_syntax.specs.Names.{place_of}
use Rattle.aom_syntax.specs.Reading.{◌>>=◌}
use Rattle.aom_syntax.specs.declared.keyword.Keyword.TheVariants as k
use Rattle.aom_syntax.specs.declared.scope.Scope.{Scope}
use Rattle.aom_asm.specs.Body.{Body, Program}
use Rattle.aom_asm.specs.Denoted.{declaration, grown, step, with_instruction, with_method}
use Rattle.aom_asm.specs.TextNames.{labels_of as labels_until, label_or_none}
use Rattle.aom_asm_semantics.specs.Naming.{heading_of}
use Rattle.aom_asm_semantics.specs.Texts.{all_words}
use Rattle.aom_asm_semantics.proofs.Following.{Goes, arrives, at_seam, goes_on, room, stays, steps}
use Rattle.aom_asm_semantics.proofs.AsmLemmas.{class_bytes, serialized}
use Rattle.aom_asm_semantics.proofs.Parts.{few_before, read_so_far}
use Rattle.aom_asm_semantics.proofs.Readings.{takes_any_keyword}
use Rattle.aom_asm_semantics.specs.Meaning.{ClassMeans, DeclaredOnce, HeadingMeans, InstructionMeans, MethodMeans, NameTables, labels_of}
use Rattle.aom_asm_semantics.specs.Source as source
use Rattle.aom_asm_semantics.specs.Source.{ClassText, Declaration, InstructionText, MethodText, class_words, classes_of, declared_statements, end_words}
use Rattle.aom_asm_semantics.specs.Source.{heading_words, instruction_words, kind_words, methods_of, part, promise_words}
use Rattle.aom_asm_semantics.proofs.Classes.{class_reads}
use Rattle.aom_asm_semantics.proofs.Headings.{heading_reads}
use Rattle.aom_asm_semantics.proofs.Instructions.{instruction_reads}
use Rattle.aom_asm_semantics.proofs.Places.{found_once, scoped}
use Rattle.aom_asm_semantics.proofs.Texts.{LabelsPlaced, Placed, labels_there, takes_no_end}
use Rattle.aom_asm_semantics.proofs.Words.{LooksUp}
use Rattle.aom_asm_semantics.proofs.Pairs.{Pairs, pairs, no_pair, a_pair}

-- ---- what is declared once stands at its place

regrouped : {X : Type 0} (front : List X) (x : X) (xs : List X) → front ++ x ∷ xs ≡ (front ++ x ∷ []) ++ xs
regrouped front x xs = sym (append_assoc front (x ∷ []) xs)

at_place : (space front : List (List ℕ)) (w : List ℕ) (ws : List (List ℕ)) → DeclaredOnce space → space ≡ front ++ w ∷ ws → is_name w ≡ true →
    place_of w space ≡ Some (length front)
at_place space front w ws once whole is = search (arith, nat_tests, found_once space w, at_seam front w ws)

pub classes_placed : (names : NameTables) (version : Version) (natives : ℕ) (space : List (List ℕ)) → DeclaredOnce space →
    (front : List (List ℕ)) (ts : List ClassText) (cs : List ClassDecl) → Pairs (ClassMeans names version natives) ts cs →
    space ≡ front ++ map (λ t. t.name) ts → Placed space (length front) (map (λ t. t.name) ts)
classes_placed names version natives space once front _ _ no_pair whole = tt
classes_placed names version natives space once front _ _ (a_pair t ts c cs here more) whole = (
  at_place space front t.name (map (λ t. t.name) ts) once whole here.name,
  grind (arith, length_push, classes_placed names version natives space once (front ++ t.name ∷ []) ts cs more, regrouped),
)

pub methods_placed : (names : NameTables) (version : Version) (b : Bool) (kinds : List ClassDecl) (space : List (List ℕ)) →
    DeclaredOnce space → (front : List (List ℕ)) (ts : List MethodText) (ms : List Method) →
    Pairs (MethodMeans names version b kinds) ts ms → space ≡ front ++ map (λ t. t.heading.name) ts → Placed space (length front) (map (λ t. t.heading.name) ts)
methods_placed names version b kinds space once front _ _ no_pair whole = tt
methods_placed names version b kinds space once front _ _ (a_pair t ts m ms here more) whole = (
  at_place space front t.heading.name (map (λ t. t.heading.name) ts) once whole here.heading.name,
  grind (arith, length_push, methods_placed names version b kinds space once (front ++ t.heading.name ∷ []) ts ms more, regrouped),
)

one_label : (labels front : List (List ℕ)) (label : Option (List ℕ)) (rest : List (List ℕ)) → DeclaredOnce labels → labels ≡ front ++ label_or_none label ∷ rest
    → IfSome label (λ l. is_name l ≡ true) → IfSome label (λ l. place_of l labels ≡ Some (length front))
one_label labels front x rest once whole is = grind (arith, nat_tests, at_place labels front)

labels_placed : (names : NameTables) (version : Version) (all labels : List (List ℕ)) → DeclaredOnce labels → (front : List (List ℕ)) (ts : List InstructionText)
    (is : List Instr) → Pairs (InstructionMeans names version all) ts is → labels ≡ front ++ labels_of ts → LabelsPlaced labels (length front) ts
labels_placed names version all labels once front _ _ no_pair whole = tt
labels_placed names version all labels once front _ _ (a_pair t ts i is here more) whole = (
  one_label labels front t.label (labels_of ts) once whole here.label,
  grind (arith, length_push, labels_placed names version all labels once (front ++ label_or_none t.label ∷ []) ts is more, regrouped),
)

-- ---- statement by statement

module _ (last : ℕ) (names : NameTables) (h : Header) (b : Bool) (kinds : List ClassDecl) (looks : LooksUp names (scoped b names kinds)) where
  abbrev scope : Scope
  scope = scoped b names kinds

  -- what tells of families in each class and method
  abbrev more : ℕ
  more = family_bytes h.version

  class_step : (cs : List ClassDecl) (ms : List Method) (t : ClassText) (c : ClassDecl) (size : ℕ) (rest : List Statement) → length cs < 256 →
      ClassMeans names h.version h.natives t c → place_of t.name names.classes ≡ Some (length cs) → (is_server c ≡ true → count_by is_server cs < 8) → size
      + (28 + more) ≤ 2 ^ 20 → step scope rest (read_so_far h cs ms None size) (class_words t) ≡ Ok (read_so_far h (cs ++ c ∷ []) ms None (size + (28 + more)))
  class_step cs ms t c size rest few means placed servers enough =
      let words = t.name ∷ (kind_words t.kind ++ (part k.From t.parent ++ (part k.Words t.words ++ (part k.Own t.own ++ part k.Budget t.budget)))) in
      let p = read_so_far h cs ms None size in
      ap (λ e. e >>= λ key. declaration scope rest p key.0 key.1) ((takes_any_keyword k.Class).reads words)
      ∙ ap (λ b. if b then (class_statement scope h.version h.natives (length cs) (count_by is_server cs) words >>= λ x. grown (28 + more) size >>= λ n. Ok
      (read_so_far h (cs ++ x.0 ∷ []) ms None n)) else Err LimitPassed) (lt-ltb (length cs) 256 few)
      ∙ ap (λ e. e >>= λ x. grown (28 + more) size >>= λ n. Ok (read_so_far h (cs ++ x.0 ∷ []) ms None n))
      (class_reads looks h.version h.natives (count_by is_server cs) (length cs) t c means placed servers).reads
      ∙ ap (λ e. e >>= λ n. Ok (read_so_far h (cs ++ c ∷ []) ms None n)) (room (28 + more) size enough)

  module _ (cs : List ClassDecl) where
    -- a method that is being read
    abbrev body_of : MethodText → Method → List Instr → Body
    body_of t m code = record { heading = heading_of m; labels = labels_of t.code; code = code }

    abbrev open_method : List Method → MethodText → Method → List Instr → ℕ → Program
    open_method ms t m code size = read_so_far h cs ms (Some (body_of t m code)) size

    heading_step : (ms : List Method) (t : MethodText) (m : Method) (size : ℕ) (left : List (List (List ℕ))) (rest : List Statement) → length ms < 1024
        → HeadingMeans names h.version b kinds t.heading (heading_of m) → place_of t.heading.name names.methods ≡ Some (length ms) → size + (24 + more) ≤ 2 ^ 20
        → all_words rest ≡ map instruction_words t.code ++ (end_words ∷ left)
        → step scope rest (read_so_far h cs ms None size) (heading_words t.heading) ≡ Ok (open_method ms t m [] (size + (24 + more)))
    heading_step ms t m size left rest few means placed enough words =
        let ws = t.heading.name ∷ keyword_text t.heading.role ∷ promise_words t.heading in
        let p = read_so_far h cs ms None size in
        ap (λ e. e >>= λ key. declaration scope rest p key.0 key.1) ((takes_any_keyword k.Method).reads ws)
        ∙ ap (λ b. if b then (heading scope h.version (length ms) ws >>= λ x. grown (24 + more) size >>= λ n. Ok
        (read_so_far h cs ms (Some (record { heading = x.0; labels = labels_until [] rest; code = [] })) n)) else Err LimitPassed) (lt-ltb (length ms) 1024 few)
        ∙ ap (λ e. e >>= λ x. grown (24 + more) size >>= λ n. Ok (read_so_far h cs ms (Some (record { heading = x.0; labels = labels_until [] rest; code = [] })) n))
        (heading_reads looks h.version (length ms) t.heading (heading_of m) means placed).reads ∙ ap (λ e. e >>= λ n. Ok (read_so_far h cs ms
        (Some (record { heading = heading_of m; labels = labels_until [] rest; code = [] })) n)) (room (24 + more) size enough) ∙ ap (λ l. Ok
        (read_so_far h cs ms (Some (record { heading = heading_of m; labels = l; code = [] })) (size + (24 + more)))) (labels_there t.code left [] rest words)

    -- the instruction is put behind those that were read
    abbrev added : List Method → MethodText → Method → List Instr → ℕ → Result (Instr × List (List ℕ)) AsmFaultKind → Result Program AsmFaultKind
    added ms t m done size read = (read >>= λ x. Ok (body_of t m (done ++ x.0 ∷ []))) >>= λ b. grown 8 size >>= λ n. Ok (read_so_far h cs ms (Some b) n)

    code_step : (ms : List Method) (t : MethodText) (m : Method) (done : List Instr) (one : InstructionText) (i : Instr) (size : ℕ) (rest : List Statement) → length done < 1024
        → InstructionMeans names h.version (labels_of t.code) one i → IfSome one.label (λ l. place_of l (labels_of t.code) ≡ Some (length done)) →
        size + 8 ≤ 2 ^ 20 → step scope rest (open_method ms t m done size) (instruction_words one) ≡ Ok (open_method ms t m (done ++ i ∷ []) (size + 8))
    code_step ms t m done one i size rest few means placed enough =
        let ws = instruction_words one in
        ap (λ t'. if t'.0 then with_method (read_so_far h cs ms None size) (body_of t m done) t'.1 else
        (with_instruction scope h.version (body_of t m done) t'.1 >>= λ b. grown 8 size >>= λ n. Ok (read_so_far h cs ms (Some b) n))) (takes_no_end one).left
        ∙ ap (λ t'. (if t' then (instruction scope h.version (labels_of t.code) (length done) ws >>= λ x. Ok (body_of t m (done ++ x.0 ∷ [])))
        else Err LimitPassed) >>= λ b. grown 8 size >>= λ n. Ok (read_so_far h cs ms (Some b) n)) (lt-ltb (length done) 1024 few)
        ∙ ap (added ms t m done size) (instruction_reads h.version (length done) (labels_of t.code) b names kinds one i means placed).reads
        ∙ ap (λ e. e >>= λ n. Ok (open_method ms t m (done ++ i ∷ []) n)) (room 8 size enough)

    end_step : (ms : List Method) (t : MethodText) (m : Method) (size : ℕ) (rest : List Statement) → 1 ≤ length m.code
        → step scope rest (open_method ms t m m.code size) end_words ≡ Ok (read_so_far h cs (ms ++ m ∷ []) None size)
    end_step ms t m size rest some = grind (arith, nat_tests, read_so_far h cs (ms ++ m ∷ []) None size, ne_eqb)

    code_goes : (ms : List Method) (t : MethodText) (m : Method) (done : List Instr) (ts : List InstructionText) (todo : List Instr) (size : ℕ) (left : List
        (List (List ℕ))) (ss : List Statement) → length done + length todo ≤ 1024 → Pairs (InstructionMeans names h.version (labels_of t.code)) ts todo →
        LabelsPlaced (labels_of t.code) (length done) ts → size + 8 * length todo ≤ 2 ^ 20 → all_words ss ≡ map instruction_words ts ++ left →
        Goes last scope (open_method ms t m done size) ss (open_method ms t m (done ++ todo) (size + 8 * length todo)) left
    code_goes ms t m done _ _ size left ss few no_pair placed enough words =
        let same : size ≡ size + 8 * 0 = omega arith in
        stays ss (ap (λ l. open_method ms t m l size) (sym (append-nil done)) ∙ ap (λ n. open_method ms t m (done ++ []) n) same) words
    code_goes ms t m done _ _ size left ss few (a_pair one ts i todo here more) placed enough words =
        let count : length (done ++ i ∷ []) ≡ length done + 1 = length_push done i in
        let summed : (size + 8) + 8 * length todo ≡ size + 8 * suc (length todo) = omega arith in
        goes_on (steps {q = open_method ms t m (done ++ i ∷ []) (size + 8)} {left = map instruction_words ts ++ left} ss words (λ rest behind. code_step ms t m
        done one i size rest (omega arith) here placed.0 (omega arith))) (λ rest behind. arrives (ap (λ l. open_method ms t m l ((size + 8) + 8 * length todo))
        (append_assoc done (i ∷ []) todo) ∙ ap (λ n. open_method ms t m (done ++ i ∷ todo) n) summed) (code_goes ms t m (done ++ i ∷ []) ts todo
        (size + 8) left rest (omega arith) more (subst (λ n. LabelsPlaced (labels_of t.code) n ts) (sym count) placed.1) (omega arith) behind))

    method_goes : (ms : List Method) (t : MethodText) (m : Method) (size : ℕ) (left : List (List (List ℕ))) (ss : List Statement) →
        length ms < 1024 → MethodMeans names h.version b kinds t m → place_of t.heading.name names.methods ≡ Some (length ms) →
        size + serialized h.version m ≤ 2 ^ 20 → all_words ss ≡ heading_words t.heading ∷ (map instruction_words t.code ++ (end_words ∷ left)) →
        Goes last scope (read_so_far h cs ms None size) ss (read_so_far h cs (ms ++ m ∷ []) None (size + serialized h.version m)) left
    method_goes ms t m size left ss few means placed enough words =
        let some = means.some in
        let short = means.few in
        let code = pairs (InstructionMeans names h.version (labels_of t.code)) t.code m.code means.code in
        let summed : (size + (24 + more)) + 8 * length m.code ≡ size + serialized h.version m = omega arith in
        goes_on (steps {q = open_method ms t m [] (size + (24 + more))} {left = map instruction_words t.code ++ (end_words ∷ left)} ss words
        (λ rest behind. heading_step ms t m size left rest few means.heading placed (omega arith) behind)) (λ rest behind. goes_on
        (code_goes ms t m [] t.code m.code (size + (24 + more)) (end_words ∷ left) rest (omega arith) code
        (labels_placed names h.version (labels_of t.code) (labels_of t.code) means.labels [] t.code m.code code refl) (omega arith) behind)
        (λ later others. arrives (ap (λ n. read_so_far h cs (ms ++ m ∷ []) None n) summed)
        (goes_on (steps {q = read_so_far h cs (ms ++ m ∷ []) None ((size + (24 + more)) + 8 * length m.code)} {left = left} later others
        (λ rest behind. end_step ms t m ((size + (24 + more)) + 8 * length m.code) rest some)) (λ rest behind. stays rest refl behind))))

  -- ---- declarations

  pub declarations_go : (ds : List Declaration) (cs todo : List ClassDecl) (ms left : List Method) (size : ℕ) (ss : List Statement)
      → Pairs (ClassMeans names h.version h.natives) (classes_of ds) todo → Pairs (MethodMeans names h.version b kinds) (methods_of ds) left
      → Placed names.classes (length cs) (map (λ t. t.name) (classes_of ds)) → Placed names.methods (length ms) (map (λ t. t.heading.name) (methods_of ds))
      → length cs + length todo ≤ 256 → count_by is_server (cs ++ todo) ≤ 8 → length ms + length left ≤ 1024 → size + sum_by (class_bytes h.version) todo
      + sum_by (serialized h.version) left ≤ 2 ^ 20 → all_words ss ≡ declared_statements ds → Goes last scope (read_so_far h cs ms None size) ss
      (read_so_far h (cs ++ todo) (ms ++ left) None (size + sum_by (class_bytes h.version) todo + sum_by (serialized h.version) left)) []
  declarations_go [] cs _ ms _ size ss no_pair no_pair cp mp few servers short enough words =
      let same : size ≡ size + sum_by (class_bytes h.version) [] + sum_by (serialized h.version) [] = omega arith in
      stays ss (ap (λ l. read_so_far h l ms None size) (sym (append-nil cs)) ∙ ap (λ l. read_so_far h (cs ++ []) l None size) (sym (append-nil ms)) ∙ ap
      (λ n. read_so_far h (cs ++ []) (ms ++ []) None n) same) words
  declarations_go (source.class t ∷ ds) cs _ ms left size ss (a_pair _ _ c todo here later) methods cp mp few servers short enough words =
      let count : length (cs ++ c ∷ []) ≡ length cs + 1 = length_push cs c in
      let again : (cs ++ c ∷ []) ++ todo ≡ cs ++ c ∷ todo = append_assoc cs (c ∷ []) todo in
      let sum = sum_by (serialized h.version) left in
      let headed : sum_by (class_bytes h.version) (c ∷ todo) ≡ (28 + more) + sum_by (class_bytes h.version) todo = sum_by-cons (class_bytes h.version) c todo in
      let summed : (size + (28 + more)) + sum_by (class_bytes h.version) todo + sum ≡ size + sum_by (class_bytes h.version) (c ∷ todo) + sum = omega arith in
      goes_on (steps {q = read_so_far h (cs ++ c ∷ []) ms None (size + (28 + more))} {left = declared_statements ds} ss words
      (λ rest behind. class_step cs ms t c size rest (omega arith) here cp.0 (few_before cs c todo servers) (omega arith)))
      (λ rest behind. arrives (grind arith) (declarations_go ds (cs ++ c ∷ []) todo ms left (size + (28 + more)) rest later methods (grind arith) mp
      (omega arith) (subst (λ l. count_by is_server l ≤ 8) (sym again) servers) short (omega arith) behind))
  declarations_go (source.method t ∷ ds) cs todo ms _ size ss classes (a_pair _ _ m left here more) cp mp few servers short enough words =
      let count : length (ms ++ m ∷ []) ≡ length ms + 1 = length_push ms m in
      let again : (ms ++ m ∷ []) ++ left ≡ ms ++ m ∷ left = append_assoc ms (m ∷ []) left in
      let bytes = serialized h.version in
      let sum = sum_by (class_bytes h.version) todo in
      let headed : sum_by bytes (m ∷ left) ≡ bytes m + sum_by bytes left = sum_by-cons bytes m left in
      let summed : (size + bytes m) + sum + sum_by bytes left ≡ size + sum + sum_by bytes (m ∷ left) = omega arith in
      goes_on (method_goes cs ms t m size (declared_statements ds) ss (omega arith) here mp.0 (omega arith)
      (words ∙ ap (λ v. heading_words t.heading ∷ v) (append_assoc (map instruction_words t.code) (end_words ∷ []) (declared_statements ds))))
      (λ rest behind. arrives (grind arith) (declarations_go ds cs todo (ms ++ m ∷ []) left (size + bytes m) rest classes more cp (grind arith)
      few servers (omega arith) (omega arith) behind))
