-- What was read of statements is what they mean: the parts of a program, one after another.
use Rattle.std.proofs.lemmas.Bool.Decides.{nat_tests}
use Rattle.std.proofs.Common.{◌≡◌, ℕ, ◌+◌, ◌<◌, ◌≤◌, ◌==◌, Bool, true, false, List, [], ◌∷◌, ◌++◌, map, length, Option, Some, None, Result, Ok, Err, refl}
use Rattle.std.proofs.Common.{sym, ap, subst, ◌∙◌, append_assoc, append-nil, arith, nat_lt}
use Rattle.std.specs.Prelude.{if◌then◌else◌}
use Rattle.std.specs.List.{count_by}
use Rattle.std.proofs.lemmas.Bool.{eqb-false, ltb-true}
use Rattle.std.proofs.lemmas.List.{length_push}
use Rattle.aom_text.specs.declared.fault.AsmFaultKind.{AsmFaultKind}
use Rattle.aom_text.specs.declared.fault.AsmFaultKind.TheVariants.{BadShape, LimitPassed}
use Rattle.aom_text.specs.declared.text.Statement.{Statement}
use Rattle.aom_image.specs.WellFormed.{is_server}
use Rattle.aom_instructions.specs.Versions.{family_bytes}
use Rattle.aom_image.specs.declared.class.ClassDecl.{ClassDecl}
use Rattle.aom_image.specs.declared.image.Header.{Header}
use Rattle.aom_instructions.specs.declared.instr.Instr.{Instr}
use Rattle.aom_image.specs.declared.method.Method.{Method}
use Rattle.aom_syntax.specs.Classes.{class_statement}
use Rattle.aom_syntax.specs.Headers.{image_statement}
use Rattle.aom_syntax.specs.Keywords.{keyword_text}
use Rattle.aom_syntax.specs.Methods.{heading, instruction}
use Rattle.aom_syntax.specs.Reading.{◌>>=◌, any_keyword, nothing_more, took}
use Rattle.aom_syntax.specs.declared.keyword.Keyword.{Keyword}
use Rattle.aom_syntax.specs.declared.keyword.Keyword.TheVariants as k
use Rattle.aom_syntax.specs.declared.method.Heading.{Heading}
use Rattle.aom_syntax.specs.declared.scope.Scope.{Scope}
use Rattle.aom_asm.specs.Body.{Body, Program}
use Rattle.aom_asm.specs.Denoted.{at_line, closed, declaration, grown, method_of, read_program, read_rest, step, with_class, with_heading, with_instruction}
use Rattle.aom_asm.specs.Denoted.{with_method}
use Rattle.aom_asm.specs.TextNames.{labels_of as labels_until}
use Rattle.aom_asm_semantics.proofs.AsmLemmas.{Started, begins_with, no_ok, program_starts, said, started, steps_then}
use Rattle.aom_asm_semantics.proofs.SyntaxLemmas.{kept, ok_is, passed, steps}
use Rattle.aom_asm_semantics.specs.Texts.{all_words}
use Rattle.aom_asm_semantics.proofs.Parts.{read_so_far}
use Rattle.aom_asm_semantics.specs.Meaning.{ClassMeans, HeaderMeans, InstructionMeans, MethodMeans, NameTables, Pairwise, labels_of}
use Rattle.aom_asm_semantics.specs.Source as source
use Rattle.aom_asm_semantics.specs.Source.{Declaration, InstructionText, MethodText, Source, class_words, classes_of, declared_statements, end_words, heading_words}
use Rattle.aom_asm_semantics.specs.Source.{header_words, instruction_words, methods_of, source_statements}
use Rattle.aom_asm_semantics.proofs.Classes.{ClassSays, class_sound}
use Rattle.aom_asm_semantics.proofs.Headers.{header_sound}
use Rattle.aom_asm_semantics.proofs.Headings.{HeadingSays, heading_sound}
use Rattle.aom_asm_semantics.proofs.Instructions.{InstructionSays, instruction_sound}
use Rattle.aom_asm_semantics.proofs.Pieces.{Took, is_not, is_there, none_left, take_it}
use Rattle.aom_asm_semantics.proofs.Places.{scoped}
use Rattle.aom_asm_semantics.proofs.Texts.{LabelsPlaced, Placed, labels_once, labels_there}

-- a method, by what was read of it
abbrev pub whole_of : Body → Method
whole_of b = record {
  class = b.heading.class;
  over = b.heading.over;
  role = b.heading.role;
  flags = b.heading.flags;
  before = b.heading.before;
  after = b.heading.after;
  arguments = b.heading.arguments;
  gives = b.heading.gives;
  code = b.code;
}

abbrev with_code : Body → List Instr → Body
with_code b code = record { heading = b.heading; labels = b.labels; code = code }

module _ (last : ℕ) (names : NameTables) (kinds : List ClassDecl) where
  abbrev scope : Scope
  scope = scoped true names kinds

  -- ---- one statement

  record ClassStep (h : Header) (cs : List ClassDecl) (ms : List Method) (ws : List (List ℕ)) (q : Program) : Type 0 where
    class : ClassDecl
    size : ℕ
    says : ClassSays names kinds h.natives (count_by is_server cs) h.version (length cs) ws class
    same : q ≡ read_so_far h (cs ++ class ∷ []) ms None size

  class_taken : (h : Header) (cs : List ClassDecl) (ms : List Method) (size : ℕ) (ws : List (List ℕ)) (q : Program) →
      with_class scope (read_so_far h cs ms None size) ws ≡ Ok q → ClassStep h cs ms ws q
  class_taken h cs ms size ws q is =
      let servers = count_by is_server cs in
      let i = passed (nat_lt (length cs) 256) (class_statement scope h.version h.natives
      (length cs) servers ws >>= λ c. grown (28 + family_bytes h.version) size >>= λ n. Ok (read_so_far h (cs ++ c.0 ∷ []) ms None n)) LimitPassed q is in
      let s = steps (class_statement scope h.version h.natives (length cs) servers ws)
      (λ c. grown (28 + family_bytes h.version) size >>= λ n. Ok (read_so_far h (cs ++ c.0 ∷ []) ms None n)) q i.1 in
      let t = steps (grown (28 + family_bytes h.version) size) (λ n. Ok (read_so_far h (cs ++ s.first.0 ∷ []) ms None n)) q s.second in
      record {
        class = s.first.0;
        size = t.first;
        says = (class_sound names kinds h.natives servers h.version (length cs) ws).each s.first.0 s.first.1 s.read;
        same = sym (ok_is (read_so_far h (cs ++ s.first.0 ∷ []) ms None t.first) q t.second);
      }

  record HeadingStep (h : Header) (cs : List ClassDecl) (ms : List Method) (ss : List Statement) (ws : List (List ℕ)) (q : Program) : Type 0 where
    begun : Heading
    size : ℕ
    says : HeadingSays names kinds h.version (length ms) ws begun
    same : q ≡ read_so_far h cs ms (Some (record { heading = begun; labels = labels_until [] ss; code = [] })) size

  heading_taken : (h : Header) (cs : List ClassDecl) (ms : List Method) (size : ℕ) (ss : List Statement) (ws : List (List ℕ)) (q : Program)
      → with_heading scope ss (read_so_far h cs ms None size) ws ≡ Ok q → HeadingStep h cs ms ss ws q
  heading_taken h cs ms size ss ws q is =
      let body : Heading → Option Body = λ m. Some (record { heading = m; labels = labels_until [] ss; code = [] }) in
      let i = passed (nat_lt (length ms) 1024) (heading scope h.version
      (length ms) ws >>= λ m. grown (24 + family_bytes h.version) size >>= λ n. Ok (read_so_far h cs ms (body m.0) n)) LimitPassed q is in
      let s = steps (heading scope h.version (length ms) ws) (λ m. grown (24 + family_bytes h.version) size >>= λ n. Ok (read_so_far h cs ms (body m.0) n)) q i.1 in
      let t = steps (grown (24 + family_bytes h.version) size) (λ n. Ok (read_so_far h cs ms (body s.first.0) n)) q s.second in
      record {
        begun = s.first.0;
        size = t.first;
        says = (heading_sound names kinds h.version (length ms) ws).each s.first.0 s.first.1 s.read;
        same = sym (ok_is (read_so_far h cs ms (body s.first.0) t.first) q t.second);
      }

  record CodeStep (h : Header) (cs : List ClassDecl) (ms : List Method) (b : Body) (ws : List (List ℕ)) (q : Program) : Type 0 where
    instr : Instr
    size : ℕ
    few : length b.code < 1024
    says : InstructionSays (length b.code) b.labels h.version names kinds ws instr
    same : q ≡ read_so_far h cs ms (Some (with_code b (b.code ++ instr ∷ []))) size

  code_taken : (h : Header) (cs : List ClassDecl) (ms : List Method) (size : ℕ) (b : Body) (ws : List (List ℕ)) (q : Program)
      → (with_instruction scope h.version b ws >>= λ c. grown 8 size >>= λ n. Ok (read_so_far h cs ms (Some c) n)) ≡ Ok q → CodeStep h cs ms b ws q
  code_taken h cs ms size b ws q is =
      let added : Instr → Body = λ i. with_code b (b.code ++ i ∷ []) in
      let s = steps (with_instruction scope h.version b ws) (λ c. grown 8 size >>= λ n. Ok (read_so_far h cs ms (Some c) n)) q is in
      let t = steps (grown 8 size) (λ n. Ok (read_so_far h cs ms (Some s.first) n)) q s.second in
      let i = passed (nat_lt (length b.code) 1024) (instruction scope h.version b.labels (length b.code) ws >>= λ i. Ok (added i.0)) LimitPassed s.first s.read in
      let u = steps (instruction scope h.version b.labels (length b.code) ws) (λ i. Ok (added i.0)) s.first i.1 in
      record {
        instr = u.first.0;
        size = t.first;
        few = ltb-true (length b.code) 1024 i.0;
        says = (instruction_sound (length b.code) b.labels h.version names kinds ws).each u.first.0 u.first.1 u.read;
        same = grind (arith, nat_tests, read_so_far, ok_is);
      }

  record EndStep (h : Header) (cs : List ClassDecl) (ms : List Method) (size : ℕ) (b : Body) (ws : List (List ℕ)) (q : Program) : Type 0 where
    some : 1 ≤ length b.code
    none : ws ≡ []
    same : q ≡ read_so_far h cs (ms ++ whole_of b ∷ []) None size

  end_taken : (h : Header) (cs : List ClassDecl) (ms : List Method) (size : ℕ) (b : Body) (ws : List (List ℕ)) (q : Program) →
      with_method (read_so_far h cs ms None size) b ws ≡ Ok q → EndStep h cs ms size b ws q
  end_taken h cs ms size b ws q is =
      let s = steps (method_of b) (λ m. nothing_more false ws >>= λ u. Ok (read_so_far h cs (ms ++ m ∷ []) None size)) q is in
      let t = steps (nothing_more false ws) (λ u. Ok (read_so_far h cs (ms ++ s.first ∷ []) None size)) q s.second in
      let i = kept (length b.code == 0) (Ok (whole_of b)) LimitPassed s.first s.read in
      let some : length b.code ≡ 0 → ⊥ = eqb-false (length b.code) 0 i.0 in
      record {
        some = omega (arith, some);
        none = (none_left false ws t.first.0 t.first.1 t.read).0;
        same = grind (arith, nat_tests, read_so_far, size, ok_is);
      }

  -- ---- the statements that are left

  -- where no method is open: declarations, and what they add
  record Later (h : Header) (ss : List Statement) (cs : List ClassDecl) (ms : List Method) (q : Program) : Type 0 where
    declarations : List Declaration
    words : all_words ss ≡ declared_statements declarations
    header : q.header ≡ h
    more_classes : List ClassDecl
    classes : q.classes ≡ cs ++ more_classes
    class_means : Pairwise (ClassMeans names h.version h.natives) (classes_of declarations) more_classes
    class_places : Placed names.classes (length cs) (map (λ t. t.name) (classes_of declarations))
    more_methods : List Method
    methods : q.methods ≡ ms ++ more_methods
    method_means : Pairwise (MethodMeans names h.version true kinds) (methods_of declarations) more_methods
    method_places : Placed names.methods (length ms) (map (λ t. t.heading.name) (methods_of declarations))

  -- where one is open: its instructions up to its end, and declarations behind it
  record Inside (h : Header) (ss : List Statement) (b : Body) (cs : List ClassDecl) (ms : List Method) (q : Program) : Type 0 where
    code : List InstructionText
    more : List Instr
    means : Pairwise (InstructionMeans names h.version b.labels) code more
    places : LabelsPlaced b.labels (length b.code) code
    rest : List Statement
    words : all_words ss ≡ map instruction_words code ++ (end_words ∷ all_words rest)
    some : 1 ≤ length (b.code ++ more)
    few : length (b.code ++ more) ≤ 1024
    later : Later h rest cs (ms ++ whole_of (with_code b (b.code ++ more)) ∷ []) q

  abbrev After : Header → List Statement → Option Body → List ClassDecl → List Method → Program → Type 0
  After h ss None cs ms q = Later h ss cs ms q
  After h ss (Some b) cs ms q = Inside h ss b cs ms q

  abbrev IsFew : Option Body → Type 0
  IsFew None = Unit {0}
  IsFew (Some b) = length b.code ≤ 1024

  abbrev AllAfter : List Statement → Type 0
  AllAfter ss = (o : Option Body) (h : Header) (cs : List ClassDecl) (ms : List Method) (size : ℕ) (q : Program) →
      IsFew o → read_rest last scope (read_so_far h cs ms o size) ss ≡ Ok q → After h ss o cs ms q

  nothing_after : AllAfter []
  nothing_after None h cs ms size q few is =
      let p = read_so_far h cs ms None size in
      let i = kept (length ms == 0) (Ok p) LimitPassed q (said last (closed p) q is) in
      let same : q ≡ p = sym (ok_is p q i.1) in
      record {
        declarations = [];
        words = refl;
        header = ap (λ (p : Program). p.header) same;
        more_classes = [];
        classes = ap (λ (p : Program). p.classes) same ∙ sym (append-nil cs);
        class_means = tt;
        class_places = tt;
        more_methods = [];
        methods = ap (λ (p : Program). p.methods) same ∙ sym (append-nil ms);
        method_means = tt;
        method_places = tt;
      }
  nothing_after (Some b) h cs ms size q few is = absurd (no_ok BadShape q (said last (Err BadShape) q is))

  module _ (s : Statement) (ss : List Statement) (h : Header) (cs : List ClassDecl) (ms : List Method) (q : Program) where
    add_class : (rest : List (List ℕ)) → s.words ≡ keyword_text k.Class ∷ rest → (c : ClassDecl) →
        ClassSays names kinds h.natives (count_by is_server cs) h.version (length cs) rest c → Later h ss (cs ++ c ∷ []) ms q → Later h (s ∷ ss) cs ms q
    add_class rest begins c says later = record {
      declarations = source.class says.said ∷ later.declarations;
      words = ap (λ ws. ws ∷ all_words ss) (begins ∙ says.words) ∙ ap (λ r. class_words says.said ∷ r) later.words;
      header = later.header;
      more_classes = c ∷ later.more_classes;
      classes = later.classes ∙ append_assoc cs (c ∷ []) later.more_classes;
      class_means = (says.means, later.class_means);
      class_places = grind (arith, nat_tests, Placed names.classes, length_push cs c);
      more_methods = later.more_methods;
      methods = later.methods;
      method_means = later.method_means;
      method_places = later.method_places;
    }

    add_method : (rest : List (List ℕ)) → s.words ≡ keyword_text k.Method ∷ rest → (begun : Heading) → HeadingSays names kinds h.version (length ms) rest begun
        → Inside h ss (record { heading = begun; labels = labels_until [] ss; code = [] }) cs ms q → Later h (s ∷ ss) cs ms q
    add_method rest begins begun says inside =
        let labels : labels_until [] ss ≡ labels_of inside.code = labels_there inside.code (all_words inside.rest) [] ss inside.words in
        let later = inside.later in
        let m : Method = whole_of (record { heading = begun; labels = labels_until [] ss; code = inside.more }) in
        let text : MethodText = record { heading = says.said; code = inside.code } in
        record {
          declarations = source.method text ∷ later.declarations;
          words = ap (λ ws. ws ∷ all_words ss) (begins ∙ says.words)
              ∙ ap (λ r. heading_words says.said ∷ r) (inside.words ∙ ap (λ r. map instruction_words inside.code ++ (end_words ∷ r)) later.words ∙ sym
              (append_assoc (map instruction_words inside.code) (end_words ∷ []) (declared_statements later.declarations)));
          header = later.header;
          more_classes = later.more_classes;
          classes = later.classes;
          class_means = later.class_means;
          class_places = later.class_places;
          more_methods = m ∷ later.more_methods;
          methods = later.methods ∙ append_assoc ms (m ∷ []) later.more_methods;
          method_means = (
            record {
              heading = says.means;
              labels = labels_once inside.code (subst (λ l. LabelsPlaced l 0 inside.code) labels inside.places);
              code = subst (λ l. Pairwise (InstructionMeans names h.version l) inside.code inside.more) labels inside.means;
              some = inside.some;
              few = inside.few;
            },
            later.method_means,
          );
          method_places = grind (arith, nat_tests, Placed names.methods, length_push ms m);
        }

    add_end : (b : Body) (rest : List (List ℕ)) → s.words ≡ keyword_text k.End ∷ rest →
        rest ≡ [] → 1 ≤ length b.code → length b.code ≤ 1024 → Later h ss cs (ms ++ whole_of b ∷ []) q → Inside h (s ∷ ss) b cs ms q
    add_end b rest begins none some few later =
        let same : b.code ≡ b.code ++ [] = sym (append-nil b.code) in
        record {
          code = [];
          more = [];
          means = tt;
          places = tt;
          rest = ss;
          words = ap (λ ws. ws ∷ all_words ss) (begins ∙ ap (λ v. keyword_text k.End ∷ v) none);
          some = subst (λ (l : List Instr). 1 ≤ length l) same some;
          few = subst (λ (l : List Instr). length l ≤ 1024) same few;
          later = subst (λ (l : List Instr). Later h ss cs (ms ++ whole_of (with_code b l) ∷ []) q) same later;
        }

    add_code : (b : Body) (i : Instr) → InstructionSays (length b.code) b.labels h.version names kinds s.words i →
        Inside h ss (with_code b (b.code ++ i ∷ [])) cs ms q → Inside h (s ∷ ss) b cs ms q
    add_code b i says inside =
        let same : (b.code ++ i ∷ []) ++ inside.more ≡ b.code ++ i ∷ inside.more = append_assoc b.code (i ∷ []) inside.more in
        record {
          code = says.said ∷ inside.code;
          more = i ∷ inside.more;
          means = (says.means, inside.means);
          places = (says.placed, subst (λ n. LabelsPlaced b.labels n inside.code) (length_push b.code i) inside.places);
          rest = inside.rest;
          words = ap (λ ws. ws ∷ all_words ss) says.words ∙ ap (λ r. instruction_words says.said ∷ r) inside.words;
          some = subst (λ (l : List Instr). 1 ≤ length l) same inside.some;
          few = subst (λ (l : List Instr). length l ≤ 1024) same inside.few;
          later = subst (λ (l : List Instr). Later h inside.rest cs (ms ++ whole_of (with_code b l) ∷ []) q) same inside.later;
        }

    -- a class or the beginning of a method
    declared_after : AllAfter ss → (size : ℕ) (p : Program) → read_rest last scope p ss ≡ Ok q → (key : Keyword) (rest : List (List ℕ)) →
        any_keyword s.words ≡ Ok (key, rest) → declaration scope ss (read_so_far h cs ms None size) key rest ≡ Ok p → Later h (s ∷ ss) cs ms q
    declared_after all size p behind k.Class rest read is =
        let c = class_taken h cs ms size rest p is in
        add_class rest (begins_with s.words k.Class rest read) c.class c.says
        (all None h (cs ++ c.class ∷ []) ms c.size q tt (ap (λ p. read_rest last scope p ss) (sym c.same) ∙ behind))
    declared_after all size p behind k.Method rest read is =
        let m = heading_taken h cs ms size ss rest p is in
        add_method rest (begins_with s.words k.Method rest read) m.begun m.says (all (Some (record { heading = m.begun; labels = labels_until [] ss; code = [] })) h cs ms m.size q (omega arith)
        (ap (λ p. read_rest last scope p ss) (sym m.same) ∙ behind))
    declared_after all size p behind key rest read is = absurd (no_ok BadShape p is)

    -- an instruction, or the end of a method
    abbrev in_method : ℕ → Body → Bool × List (List ℕ) → Result Program AsmFaultKind
    in_method size b t = if t.0 then with_method (read_so_far h cs ms None size) b t.1 else
        (with_instruction scope h.version b t.1 >>= λ c. grown 8 size >>= λ n. Ok (read_so_far h cs ms (Some c) n))

    spoken_after : AllAfter ss → (size : ℕ) (b : Body) → length b.code ≤ 1024 → (p : Program) → read_rest last scope p ss ≡ Ok q → Took k.End s.words
        → in_method size b (took k.End s.words) ≡ Ok p → Inside h (s ∷ ss) b cs ms q
    spoken_after all size b few p behind (is_there rest words there) is =
        let e = end_taken h cs ms size b rest p (sym (ap (in_method size b) there) ∙ is) in
        add_end b rest words e.none e.some few (all None h cs (ms ++ whole_of b ∷ []) size q tt (ap (λ p. read_rest last scope p ss) (sym e.same) ∙ behind))
    spoken_after all size b few p behind (is_not there) is =
        let c = code_taken h cs ms size b s.words p (sym (ap (in_method size b) there) ∙ is) in
        let less = c.few in
        let count : length (b.code ++ c.instr ∷ []) ≡ length b.code + 1 = length_push b.code c.instr in
        add_code b c.instr c.says
        (all (Some (with_code b (b.code ++ c.instr ∷ []))) h cs ms c.size q (omega arith) (ap (λ p. read_rest last scope p ss) (sym c.same) ∙ behind))

  statement_after : (s : Statement) (ss : List Statement) → AllAfter ss → AllAfter (s ∷ ss)
  statement_after s ss all None h cs ms size q few is =
      let p = read_so_far h cs ms None size in
      let t = steps_then (at_line s.line (step scope ss p s.words)) (λ q. read_rest last scope q ss) q is in
      let u = steps (any_keyword s.words) (λ key. declaration scope ss p key.0 key.1) t.first (said s.line (step scope ss p s.words) t.first t.read) in
      declared_after s ss h cs ms q all size t.first t.second u.first.0 u.first.1 u.read u.second
  statement_after s ss all (Some b) h cs ms size q few is =
      let p = read_so_far h cs ms (Some b) size in
      let t = steps_then (at_line s.line (step scope ss p s.words)) (λ q. read_rest last scope q ss) q is in
      spoken_after s ss h cs ms q all size b few t.first t.second (take_it k.End s.words) (said s.line (step scope ss p s.words) t.first t.read)

  all_after : (ss : List Statement) → AllAfter ss
  all_after [] = nothing_after
  all_after (s ∷ ss) = statement_after s ss (all_after ss)

  -- ---- a whole program

  -- the statements are a program's, and mean what was read
  pub record Parsed (ss : List Statement) (q : Program) : Type 0 where
    pub text : Source
    pub words : all_words ss ≡ source_statements text
    pub header : HeaderMeans names text.header q.header
    pub classes : Pairwise (ClassMeans names q.header.version q.header.natives) (classes_of text.declarations) q.classes
    pub methods : Pairwise (MethodMeans names q.header.version true kinds) (methods_of text.declarations) q.methods
    pub class_places : Placed names.classes 0 (map (λ t. t.name) (classes_of text.declarations))
    pub method_places : Placed names.methods 0 (map (λ t. t.heading.name) (methods_of text.declarations))

  by_first : (ss : List Statement) (q : Program) → Started last scope q ss → Parsed ss q
  by_first _ q (started s ss p starts rest) =
      let u = steps (image_statement scope s.words) (λ h. Ok (read_so_far h.0 [] [] None 24)) p starts in
      let h = u.first.0 in
      let says = (header_sound names kinds s.words).each h u.first.1 u.read in
      let same : read_so_far h [] [] None 24 ≡ p = ok_is (read_so_far h [] [] None 24) p u.second in
      let later = all_after ss None h [] [] 24 q tt (ap (λ p. read_rest last scope p ss) same ∙ rest) in
      record {
        text = record { header = says.said; declarations = later.declarations };
        words = ap (λ ws. ws ∷ all_words ss) says.words ∙ ap (λ r. header_words says.said ∷ r) later.words;
        header = subst (HeaderMeans names says.said) (sym later.header) says.means;
        classes = grind (arith, nat_tests);
        methods = grind (arith, nat_tests);
        class_places = later.class_places;
        method_places = later.method_places;
      }

  pub parsed : (ss : List Statement) (q : Program) → read_program last scope ss ≡ Ok q → Parsed ss q
  parsed ss q is = by_first ss q (program_starts last scope ss q is)
