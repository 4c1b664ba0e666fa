-- Reading gives an image where the text denotes it, and only there: what was read is parsed, and what is meant is read, by both readings.
use Rattle.std.proofs.lemmas.Bool.Decides.{nat_tests}
use Rattle.std.proofs.Common.{◌≡◌, ℕ, ◌+◌, ◌≤◌, ◌^◌, Bool, true, false, List, [], ◌∷◌, map, length, None, Ok, Err, refl, sym, ap, subst, ◌∙◌, arith, nat_le}
use Rattle.std.specs.Prelude.{if◌then◌else◌}
use Rattle.std.specs.List.{count_by, sum_by}
use Rattle.std.proofs.lemmas.Bool.{le-leb, leb-true, ne_eqb}
use Rattle.std.proofs.lemmas.List.Sums.{sum_by-cons}
use Rattle.aom_text.specs.Text.{statements}
use Rattle.aom_text.specs.declared.fault.AsmFaultKind.TheVariants.{LimitPassed}
use Rattle.aom_text.specs.declared.text.Statement.{Statement}
use Rattle.aom_image.specs.Image.{Image}
use Rattle.aom_image.specs.WellFormed.{WellFormed, is_server}
use Rattle.aom_image.specs.declared.class.ClassDecl.{ClassDecl}
use Rattle.aom_image.specs.declared.image.Header.{Header}
use Rattle.aom_instructions.specs.declared.version.Version.{Version}
use Rattle.aom_image.specs.declared.method.Method.{Method}
use Rattle.aom_asm.specs.Body.{Program}
use Rattle.aom_asm.specs.Denoted.{and_then, denoted, image_of, last_line_of, read_program, read_rest, read_statements, scope_of}
use Rattle.aom_asm_semantics.proofs.AsmLemmas.{class_bytes, class_sizes, reads_well, serialized, steps_then}
use Rattle.aom_asm_semantics.specs.Naming.{heading_of}
use Rattle.aom_asm_semantics.specs.Texts.{all_words}
use Rattle.aom_asm_semantics.proofs.SyntaxLemmas.{ok_is, passed}
use Rattle.aom_asm_semantics.proofs.Following.{Goes}
use Rattle.aom_asm_semantics.proofs.Parts.{read_so_far}
use Rattle.aom_asm_semantics.proofs.WholesBack.{none_left}
use Rattle.aom_asm_semantics.specs.Denotes.{Denotes, bytes_of, names_of}
use Rattle.aom_asm_semantics.specs.Meaning.{ClassMeans, DeclaredOnce, HeaderMeans, MethodMeans, NameTables, Pairwise}
use Rattle.aom_asm_semantics.specs.Source.{ClassText, MethodText, Source, classes_of, declared_statements, methods_of, source_statements}
use Rattle.aom_asm_semantics.proofs.Headers.{header_reads}
use Rattle.aom_asm_semantics.proofs.Headings.{beside_others}
use Rattle.aom_asm_semantics.proofs.Parsed.{parsed, whole_of}
use Rattle.aom_asm_semantics.proofs.Places.{looks_up, scoped}
use Rattle.aom_asm_semantics.proofs.Texts.{Placed, names_are, placed_once, text_names}
use Rattle.aom_asm_semantics.proofs.Wholes.{classes_placed, declarations_go, methods_placed}
use Rattle.aom_asm_semantics.proofs.Words.{LooksUp}
use Rattle.aom_asm_semantics.proofs.Pairs.{Pairs, pairs, no_pair, a_pair}

-- ---- what a program says

-- with names of its own, beside those classes
record Says (names : NameTables) (b : Bool) (kinds : List ClassDecl) (text : Source) (h : Header) (cs : List ClassDecl) (ms : List Method) : Type 0 where
  class_names : DeclaredOnce names.classes
  method_names : DeclaredOnce names.methods
  header : HeaderMeans names text.header h
  classes : Pairwise (ClassMeans names h.version h.natives) (classes_of text.declarations) cs
  methods : Pairwise (MethodMeans names h.version b kinds) (methods_of text.declarations) ms
  few_classes : length cs ≤ 256
  few_servers : count_by is_server cs ≤ 8
  some_method : 1 ≤ length ms
  few_methods : length ms ≤ 1024
  small : 24 + sum_by (class_bytes h.version) cs + sum_by (serialized h.version) ms ≤ 2 ^ 20

-- ---- beside other classes

record Others (names : NameTables) (version : Version) (kinds : List ClassDecl) (ts : List MethodText) (ms : List Method) : Type 0 where
  others : List Method
  means : Pairwise (MethodMeans names version false kinds) ts others
  count : length others ≡ length ms
  bytes : sum_by (serialized version) others ≡ sum_by (serialized version) ms

other_methods : (names : NameTables) (version : Version) (kinds others : List ClassDecl) (ts : List MethodText) (ms : List Method) →
    Pairs (MethodMeans names version true kinds) ts ms → Others names version others ts ms
other_methods names version kinds others _ _ no_pair = record { others = []; means = tt; count = refl; bytes = refl }
other_methods names version kinds others _ _ (a_pair t ts m ms one more) =
    let b = beside_others names version kinds others t.heading (heading_of m) one.heading in
    let first : Method = whole_of (record { heading = b.heading; labels = []; code = m.code }) in
    let later = other_methods names version kinds others ts ms more in
    let count = later.count in
    let bytes = later.bytes in
    let size = serialized version in
    let before : sum_by size (m ∷ ms) ≡ size m + sum_by size ms = sum_by-cons size m ms in
    let after : sum_by size (first ∷ later.others) ≡ size first + sum_by size later.others = sum_by-cons size first later.others in
    record {
      others = first ∷ later.others;
      means = (record { heading = b.means; labels = one.labels; code = one.code; some = one.some; few = one.few }, later.means);
      count = omega arith;
      bytes = omega arith;
    }

-- a program says much the same beside other classes
record SaysBeside (names : NameTables) (kinds : List ClassDecl) (text : Source) (h : Header) (cs : List ClassDecl) : Type 0 where
  methods : List Method
  says : Says names false kinds text h cs methods

says_beside : (names : NameTables) (kinds others : List ClassDecl) (text : Source) (h : Header) (cs : List ClassDecl) (ms : List Method) →
    Says names true kinds text h cs ms → SaysBeside names others text h cs
says_beside names kinds others text h cs ms says = let o = other_methods names h.version kinds others
    (methods_of text.declarations) ms (pairs (MethodMeans names h.version true kinds) (methods_of text.declarations) ms says.methods) in
    let count = o.count in
    let bytes = o.bytes in
    let some = says.some_method in
    let few = says.few_methods in
    let small = says.small in
    record {
      methods = o.others;
      says = record {
        class_names = says.class_names;
        method_names = says.method_names;
        header = says.header;
        classes = says.classes;
        methods = o.means;
        few_classes = says.few_classes;
        few_servers = says.few_servers;
        some_method = omega arith;
        few_methods = omega arith;
        small = omega arith;
      };
    }

-- ---- what is meant is read

as_many : {A B : Type 0} (R : A → B → Type 0) (name : A → List ℕ) (ts : List A) (xs : List B) → Pairs R ts xs → length (map name ts) ≡ length xs
as_many R name _ _ no_pair = refl
as_many R name _ _ (a_pair t ts x xs here more) = let rest = as_many R name ts xs more in omega arith

module _ (last : ℕ) (text : Source) (b : Bool) (kinds : List ClassDecl) (h : Header) (cs : List ClassDecl) (ms : List Method)
    (says : Says (names_of text) b kinds text h cs ms) where
  abbrev class_texts : List ClassText
  class_texts = classes_of text.declarations

  abbrev method_texts : List MethodText
  method_texts = methods_of text.declarations

  class_pairs : Pairs (ClassMeans (names_of text) h.version h.natives) class_texts cs
  class_pairs = pairs (ClassMeans (names_of text) h.version h.natives) class_texts cs says.classes

  method_pairs : Pairs (MethodMeans (names_of text) h.version b kinds) method_texts ms
  method_pairs = pairs (MethodMeans (names_of text) h.version b kinds) method_texts ms says.methods

  abbrev whole : Program
  whole = read_so_far h cs ms None (24 + sum_by (class_bytes h.version) cs + sum_by (serialized h.version) ms)

  looks : LooksUp (names_of text) (scoped b (names_of text) kinds)
  looks =
      let class_count = as_many (ClassMeans (names_of text) h.version h.natives) (λ t. t.name) class_texts cs class_pairs in
      let method_count = as_many (MethodMeans (names_of text) h.version b kinds) (λ t. t.heading.name) method_texts ms method_pairs in
      let few_classes = says.few_classes in
      let few_methods = says.few_methods in
      looks_up b (names_of text) kinds says.class_names (omega arith) says.method_names (omega arith)

  goes : (ss : List Statement) → all_words ss ≡ declared_statements text.declarations →
      Goes last (scoped b (names_of text) kinds) (read_so_far h [] [] None 24) ss whole []
  goes ss words =
      let few_classes = says.few_classes in
      let few_methods = says.few_methods in
      let small = says.small in
      declarations_go last (names_of text) h b kinds looks text.declarations [] cs [] ms 24 ss class_pairs method_pairs
      (classes_placed (names_of text) h.version h.natives (names_of text).classes says.class_names [] class_texts cs class_pairs refl)
      (methods_placed (names_of text) h.version b kinds (names_of text).methods says.method_names [] method_texts ms method_pairs refl)
      (omega arith) says.few_servers (omega arith) (omega arith) words

  closes : (ss : List Statement) → all_words ss ≡ [] → read_rest last (scoped b (names_of text) kinds) whole ss ≡ Ok whole
  closes ss words = grind (arith, nat_tests, scoped b, none_left ss words, ne_eqb)

  rest_reads : (ss : List Statement) → all_words ss ≡ declared_statements text.declarations →
      read_rest last (scoped b (names_of text) kinds) (read_so_far h [] [] None 24) ss ≡ Ok whole
  rest_reads ss words = let g = goes ss words in g.reads ∙ closes g.rest g.words

  program_reads : (ss : List Statement) → all_words ss ≡ source_statements text → read_program last (scoped b (names_of text) kinds) ss ≡ Ok whole
  program_reads ss words = grind (arith, header_reads, looks, rest_reads)

-- by the names that the statements declare
by_names : (last : ℕ) (text : Source) (ss : List Statement) → all_words ss ≡ source_statements text
    → (b : Bool) (kinds : List ClassDecl) (h : Header) (cs : List ClassDecl) (ms : List Method) → Says (names_of text) b kinds text h cs ms
    → read_program last (scope_of b ss kinds) ss ≡ Ok (read_so_far h cs ms None (24 + sum_by (class_bytes h.version) cs + sum_by (serialized h.version) ms))
by_names last text ss words b kinds h cs ms says = grind (arith, names_are, program_reads)

-- the bytes of an image, class by class
summed : (i : Image) → bytes_of i ≤ 2 ^ 20 → 24 + sum_by (class_bytes i.header.version) i.classes + sum_by (serialized i.header.version) i.methods ≤ 2 ^ 20
summed i small = grind (arith, nat_tests, serialized, class_sizes, small)

multiplied : (i : Image) → 24 + sum_by (class_bytes i.header.version) i.classes + sum_by (serialized i.header.version) i.methods ≤ 2 ^ 20 → bytes_of i ≤ 2 ^ 20
multiplied i small = subst (λ n. 24 + n + sum_by (serialized i.header.version) i.methods ≤ 2 ^ 20) (class_sizes i.header.version i.classes) small

module _ (text : List ℕ) (i : Image) where
  abbrev last : ℕ
  last = last_line_of text

  abbrev ss : List Statement
  ss = statements text

  meant_says : (d : Denotes text i) → Says (names_of d.source) true i.classes d.source i.header i.classes i.methods
  meant_says d = record {
    class_names = d.class_names;
    method_names = d.method_names;
    header = d.header;
    classes = d.classes;
    methods = d.methods;
    few_classes = d.few_classes;
    few_servers = d.few_servers;
    some_method = d.some_method;
    few_methods = d.few_methods;
    small = summed i d.small;
  }

  pub denotes_read : Denotes text i → denoted text ≡ Ok i
  denotes_read d =
      let says = meant_says d in
      let loose = says_beside (names_of d.source) i.classes [] d.source i.header i.classes i.methods says in
      ap (λ b. if b then read_statements last ss else Err (record { line = 1; kind = LimitPassed })) (le-leb (length text) (2 ^ 20) d.short)
      ∙ ap (λ r. and_then r (λ first. and_then (read_program last (scope_of true ss first.classes) ss) (λ p. Ok (image_of p))))
      (by_names last d.source ss d.written false [] i.header i.classes loose.methods loose.says)
      ∙ ap (λ r. and_then r (λ p. Ok (image_of p))) (by_names last d.source ss d.written true i.classes i.header i.classes i.methods says)

  -- ---- what was read is meant

  read_small : (q : Program) → WellFormed (image_of q) → bytes_of (image_of q) ≤ 2 ^ 20
  read_small q formed = formed.size

  pub read_denotes : denoted text ≡ Ok i → Denotes text i
  read_denotes is =
      let few = passed (nat_le (length text) (2 ^ 20)) (read_statements last ss) (record { line = 1; kind = LimitPassed }) i is in
      let s = steps_then (read_program last (scope_of false ss []) ss)
      (λ first. and_then (read_program last (scope_of true ss first.classes) ss) (λ p. Ok (image_of p))) i few.1 in
      let t = steps_then (read_program last (scope_of true ss s.first.classes) ss) (λ p. Ok (image_of p)) i s.second in
      let q = t.first in
      let kinds = s.first.classes in
      let made : image_of q ≡ i = ok_is (image_of q) i t.second in
      let formed : WellFormed (image_of q) = subst WellFormed (sym made) (reads_well text i is) in
      let p = parsed last (text_names ss) kinds ss q t.read in
      let source = p.text in
      let same : text_names ss ≡ names_of source = names_are source ss p.words in
      let read : Says (text_names ss) true kinds source q.header q.classes q.methods = record {
        class_names = placed_once (text_names ss).classes (subst (Placed (text_names ss).classes 0) (sym (ap (λ (n : NameTables). n.classes) same)) p.class_places);
        method_names = grind (arith, nat_tests, placed_once, text_names, Placed);
        header = p.header;
        classes = p.classes;
        methods = p.methods;
        few_classes = formed.classes.count;
        few_servers = formed.classes.servers;
        some_method = formed.methods.some;
        few_methods = formed.methods.count;
        small = summed (image_of q) (read_small q formed);
      } in
      let says : Says (names_of source) true kinds source q.header q.classes q.methods = grind arith in
      let loose = says_beside (names_of source) kinds [] source q.header q.classes q.methods says in
      let first = by_names last source ss p.words false [] q.header q.classes loose.methods loose.says in
      let again : s.first ≡ read_so_far q.header q.classes loose.methods None
      (24 + sum_by (class_bytes q.header.version) q.classes + sum_by (serialized q.header.version) loose.methods) = ok_is s.first (read_so_far q.header q.classes
      loose.methods None (24 + sum_by (class_bytes q.header.version) q.classes + sum_by (serialized q.header.version) loose.methods)) (sym s.read ∙ first) in
      let alike : kinds ≡ q.classes = ap (λ (p : Program). p.classes) again in
      subst (Denotes text) made (record {
        source = source;
        written = p.words;
        short = leb-true (length text) (2 ^ 20) few.0;
        class_names = says.class_names;
        method_names = says.method_names;
        header = says.header;
        classes = says.classes;
        methods = subst (λ c. Pairwise (MethodMeans (names_of source) q.header.version true c) (methods_of source.declarations) q.methods) alike says.methods;
        few_classes = says.few_classes;
        few_servers = says.few_servers;
        some_method = says.some_method;
        few_methods = says.few_methods;
        small = multiplied (image_of q) says.small;
      })
