-- What holds of a program while it is read, and so what reads without a fault is a well-formed image.
use Rattle.std.proofs.Common.{◌≡◌, ◌∙◌, refl, sym, ap, subst, arith, ℕ, suc, ◌+◌, ◌*◌, ◌<◌, ◌≤◌, ◌^◌, ◌==◌, nat_lt, nat_le, Bool, true}
use Rattle.std.proofs.Common.{false, List, [], ◌∷◌, ◌++◌, length, length-append, Option, Some, None, Result, Ok, Err, is_some}
use Rattle.std.specs.Prelude.{cond, if◌then◌else◌}
use Rattle.std.specs.List.{All, count_by, sum_by}
use Rattle.std.proofs.lemmas.Bool.{ltb-true, eqb-false, false≢true}
use Rattle.std.proofs.lemmas.List.Elements.{All-nil, All-push}
use Rattle.std.proofs.lemmas.List.Sums.{sum_by-cons, sum_by_push}
use Rattle.aom_text.specs.Text.{statements}
use Rattle.aom_text.specs.declared.fault.AsmFaultKind.{AsmFaultKind}
use Rattle.aom_text.specs.declared.fault.AsmFaultKind.TheVariants.{BadShape, LimitPassed}
use Rattle.aom_text.specs.declared.text.Statement.{Statement}
use Rattle.aom_image.specs.Image.{Image}
use Rattle.aom_image.specs.WellFormed.{ClassFits, ClassesFit, FamiliesFit, HeaderFits, MethodFits, MethodsFit, OverFits, ParentFits, WellFormed, is_server}
use Rattle.aom_instructions.specs.Versions.{family_bytes}
use Rattle.aom_instructions.specs.Fits.{InstrFits, limits}
use Rattle.aom_image.specs.declared.class.ClassDecl.{ClassDecl}
use Rattle.aom_image.specs.declared.image.Header.{Header}
use Rattle.aom_instructions.specs.declared.version.Version.{Version}
use Rattle.aom_instructions.specs.declared.version.Version.TheVariants as versions
use Rattle.aom_instructions.specs.declared.instr.Instr.{Instr}
use Rattle.aom_image.specs.declared.method.Method.{Method}
use Rattle.aom_syntax.specs.Classes.{class_statement}
use Rattle.aom_syntax.specs.Headers.{image_statement}
use Rattle.aom_syntax.specs.Keywords.{keyword_text}
use Rattle.aom_syntax.specs.Methods.{heading, instruction}
use Rattle.aom_syntax.specs.Reading.{◌>>=◌, any_keyword, nothing_more, took}
use Rattle.aom_syntax.specs.declared.keyword.Keyword.{Keyword}
use Rattle.aom_syntax.specs.declared.keyword.Keyword.TheVariants as k
use Rattle.aom_syntax.specs.declared.method.Heading.{Heading}
use Rattle.aom_syntax.specs.declared.scope.Scope.{Scope}
use Rattle.aom_syntax.specs.Ranges.{ClassesInRange, HeadersInRange, HeadingFits, HeadingsInRange, InstructionsInRange}
use Rattle.aom_asm.specs.Body.{Body, Program}
use Rattle.aom_asm.specs.Denoted.{and_then, at_line, closed, declaration, denoted, grown, image_of, in_body, last_line_of, method_of, opened, read_program}
use Rattle.aom_asm.specs.Denoted.{read_rest, read_statements, scope_of, step, step_by, with_class, with_heading, with_instruction, with_method}
use Rattle.aom_asm.proofs.SyntaxLemmas.{kept, ok_is, passed, steps}
use Rattle.aom_asm.specs.TextNames.{declared_names, is_end, labels_of, name_after}
use Rattle.aom_asm.proofs.Counting.{Silent, at_end, before_end, begins_with, class_alone, code_silent, count_declared, declares, declares_more, declares_none}
use Rattle.aom_asm.proofs.Counting.{end_silent, header_silent, length_labels, method_alone, names_one, not_at_end, one_of, takes_end, takes_no_end}
use Rattle.aom_asm.proofs.Steps.{Started, grown_is, no_ok, program_starts, said, started, steps_then}
use Rattle.aom_asm.proofs.ImageLemmas.{cons_given}

-- a program between two statements
abbrev program : Header → List ClassDecl → List Method → Option Body → ℕ → Program
program h cs ms b size = record { header = h; classes = cs; methods = ms; body = b; size = size }

-- the bytes that a class spells, a method, and a method that is open
abbrev pub class_bytes : Version → ClassDecl → ℕ
class_bytes version c = 28 + family_bytes version

abbrev pub serialized : Version → Method → ℕ
serialized version m = 24 + family_bytes version + 8 * length m.code

abbrev serialized_open : Version → Option Body → ℕ
serialized_open version None = 0
serialized_open version (Some b) = 24 + family_bytes version + 8 * length b.code

-- classes are all of the same size
pub class_sizes : (version : Version) (cs : List ClassDecl) → sum_by (class_bytes version) cs ≡ (28 + family_bytes version) * length cs
class_sizes versions.One [] = omega arith
class_sizes versions.One (c ∷ cs) = omega (arith, sum_by-cons (class_bytes versions.One) c cs, class_sizes versions.One cs)
class_sizes versions.Two [] = omega arith
class_sizes versions.Two (c ∷ cs) = omega (arith, sum_by-cons (class_bytes versions.Two) c cs, class_sizes versions.Two cs)

abbrev open_count : Option Body → ℕ
open_count None = 0
open_count (Some b) = 1

abbrev counted : ClassDecl → ℕ
counted c = cond (is_server c) 1 0

counted_push : (cs : List ClassDecl) (c : ClassDecl) → count_by is_server (cs ++ c ∷ []) ≡ count_by is_server cs + counted c
counted_push cs c = sum_by_push counted cs c

few_counted : (n : ℕ) (b : Bool) → (b ≡ true → n < 8) → n ≤ 8 → n + cond {A = ℕ} b 1 0 ≤ 8
few_counted n true few le = let less : n < 8 = few refl in omega arith
few_counted n false few le = omega arith

if_true : {X : Type 0} (r s y : X) (b : Bool) → b ≡ true → (if b then r else s) ≡ y → r ≡ y
if_true r s y b is e = ap (λ c. if c then r else s) (sym is) ∙ e

-- ---- what holds

-- of the header, the classes and the methods that were read so far
record Done (scope : Scope) (h : Header) (cs : List ClassDecl) (ms : List Method) : Type 0 where
  few_classes : length cs ≤ 256
  header : scope.is_strict ≡ true → HeaderFits (length scope.classes) h
  classes : All (ClassFits h.version (length scope.classes) h.natives) cs
  parents : All (λ c. ParentFits h.version (length scope.classes) c.kind c.parent) cs
  servers : count_by is_server cs ≤ 8
  overridden_methods : scope.is_strict ≡ true → All (λ m. OverFits h.version (length scope.methods) m.over) ms
  methods : scope.is_strict ≡ true → All (MethodFits h.version (length scope.classes) (length scope.methods)) ms

-- and of the method that is open, with the names of classes and methods that are still to come
record Holds (scope : Scope) (h : Header) (cs : List ClassDecl) (ms : List Method) (size : ℕ) (o : Option Body) (classes_left methods_left : ℕ) : Type 0 where
  class_names : length cs + classes_left ≡ length scope.classes
  method_names : length ms + open_count o + methods_left ≡ length scope.methods
  few_methods : length ms + open_count o ≤ 1024
  serialization : size ≡ 24 + sum_by (class_bytes h.version) cs + sum_by (serialized h.version) ms + serialized_open h.version o
  short : size ≤ 2 ^ 20
  done : Done scope h cs ms

-- of a method that is open, with the statements that are left before its end
record BodyHolds (scope : Scope) (version : Version) (b : Body) (left : ℕ) : Type 0 where
  labels : length b.code + left ≡ length b.labels
  few : length b.code ≤ 1024
  heading : scope.is_strict ≡ true → HeadingFits version (length scope.classes) (length scope.methods) b.heading
  code : scope.is_strict ≡ true → All (InstrFits (limits version (length scope.classes) (length scope.methods) (length b.labels))) b.code

abbrev OpenHolds : Scope → Version → Option Body → List Statement → Type 0
OpenHolds scope version None ss = Unit {0}
OpenHolds scope version (Some b) ss = BodyHolds scope version b (before_end ss)

-- of a program before these statements
record Read (scope : Scope) (p : Program) (ss : List Statement) : Type 0 where
  parts : Holds scope p.header p.classes p.methods p.size p.body (declares k.Class ss) (declares k.Method ss)
  body : OpenHolds scope p.header.version p.body ss

-- ---- one statement

module _ (headers : HeadersInRange) (classes_in : ClassesInRange) (headings : HeadingsInRange) (instructions : InstructionsInRange) (scope : Scope)
    (before : Version) (natives : ℕ) (settled : scope.is_strict ≡ true → All (ClassFits before (length scope.classes) natives) scope.kinds) where
  -- a class
  class_step : (ss : List Statement) (h : Header) (cs : List ClassDecl) (ms : List Method) (size cl ml : ℕ) (ws : List (List ℕ)) (q : Program) →
      cl ≡ suc (declares k.Class ss) → ml ≡ declares k.Method ss → Holds scope h cs ms size None cl ml →
      with_class scope (program h cs ms None size) ws ≡ Ok q → Read scope q ss
  class_step ss h cs ms size cl ml ws q some none holds is = let i = passed (nat_lt (length cs) 256) (class_statement scope h.version h.natives (length cs)
      (count_by is_server cs) ws >>= λ c. grown (28 + family_bytes h.version) size >>= λ n. Ok (program h (cs ++ c.0 ∷ []) ms None n)) LimitPassed q is in
      let s = steps (class_statement scope h.version h.natives (length cs) (count_by is_server cs) ws)
      (λ c. grown (28 + family_bytes h.version) size >>= λ n. Ok (program h (cs ++ c.0 ∷ []) ms None n)) q i.1 in
      let c = s.first.0 in
      let t = steps (grown (28 + family_bytes h.version) size) (λ n. Ok (program h (cs ++ c ∷ []) ms None n)) q s.second in
      let g = grown_is (28 + family_bytes h.version) size t.first t.read in
      let less : length cs < 256 = ltb-true (length cs) 256 i.0 in
      let range = classes_in scope h.version h.natives (length cs) (count_by is_server cs) ws c s.first.1 s.read in
      let longer : length (cs ++ c ∷ []) ≡ length cs + 1 = length-append cs (c ∷ []) in
      let summed : sum_by (class_bytes h.version) (cs ++ c ∷ []) ≡ sum_by (class_bytes h.version) cs + class_bytes h.version c =
      sum_by_push (class_bytes h.version) cs c in
      let names = holds.class_names in
      let methods = holds.method_names in
      let serialization = holds.serialization in
      let servers : count_by is_server (cs ++ c ∷ []) ≤ 8 =
      subst (λ n. n ≤ 8) (sym (counted_push cs c)) (few_counted (count_by is_server cs) (is_server c) range.server holds.done.servers) in
      subst (λ q. Read scope q ss) (ok_is (program h (cs ++ c ∷ []) ms None t.first) q t.second) (record {
        parts = record {
          class_names = omega arith;
          method_names = omega arith;
          few_methods = holds.few_methods;
          serialization = omega (arith, g.0);
          short = g.1;
          done = record {
            few_classes = omega arith;
            header = holds.done.header;
            classes = All-push (ClassFits h.version (length scope.classes) h.natives) cs c holds.done.classes range.class;
            parents = All-push (λ c. ParentFits h.version (length scope.classes) c.kind c.parent) cs c holds.done.parents range.parent;
            servers = servers;
            overridden_methods = holds.done.overridden_methods;
            methods = holds.done.methods;
          };
        };
        body = tt;
      })

  -- the beginning of a method
  heading_step : (ss : List Statement) (h : Header) (cs : List ClassDecl) (ms : List Method) (size cl ml : ℕ) (ws : List (List ℕ)) (q : Program) →
      cl ≡ declares k.Class ss → ml ≡ suc (declares k.Method ss) → Holds scope h cs ms size None cl ml →
      with_heading scope ss (program h cs ms None size) ws ≡ Ok q → Read scope q ss
  heading_step ss h cs ms size cl ml ws q none some holds is =
      let begun : Heading → Option Body = λ m. Some (record { heading = m; labels = labels_of [] ss; code = [] }) in
      let i = passed (nat_lt (length ms) 1024) (heading scope h.version
      (length ms) ws >>= λ m. grown (24 + family_bytes h.version) size >>= λ n. Ok (program h cs ms (begun m.0) n)) LimitPassed q is in
      let s = steps (heading scope h.version (length ms) ws) (λ m. grown (24 + family_bytes h.version) size >>= λ n. Ok (program h cs ms (begun m.0) n)) q i.1 in
      let m = s.first.0 in
      let t = steps (grown (24 + family_bytes h.version) size) (λ n. Ok (program h cs ms (begun m) n)) q s.second in
      let g = grown_is (24 + family_bytes h.version) size t.first t.read in
      let less : length ms < 1024 = ltb-true (length ms) 1024 i.0 in
      let range = λ (strict : scope.is_strict ≡ true).
      (headings before natives scope h.version (record { is_strict = strict; kinds = settled strict }) (length ms) ws m s.first.1 s.read).heading in
      let names = holds.class_names in
      let methods = holds.method_names in
      let serialization = holds.serialization in
      subst (λ q. Read scope q ss) (ok_is (program h cs ms (begun m) t.first) q t.second) (record {
        parts = record { class_names = omega arith; method_names = omega arith; few_methods = omega arith; serialization = omega (arith, g.0); short = g.1; done = holds.done };
        body = record {
          labels = sym (length_labels [] ss);
          few = omega arith;
          heading = range;
          code = λ strict. All-nil (InstrFits (limits h.version (length scope.classes) (length scope.methods) (length (labels_of [] ss))));
        };
      })

  -- an instruction
  code_step : (ss : List Statement) (h : Header) (cs : List ClassDecl) (ms : List Method) (size left : ℕ) (b : Body) (ws : List (List ℕ)) (q : Program)
      → left ≡ suc (before_end ss) → Holds scope h cs ms size (Some b) (declares k.Class ss) (declares k.Method ss) → BodyHolds scope h.version b left
      → (with_instruction scope h.version b ws >>= λ c. grown 8 size >>= λ n. Ok (program h cs ms (Some c) n)) ≡ Ok q → Read scope q ss
  code_step ss h cs ms size left b ws q one holds body is =
      let longer_by : Instr → Body = λ i. record b { code = b.code ++ i ∷ [] } in
      let s = steps (with_instruction scope h.version b ws) (λ c. grown 8 size >>= λ n. Ok (program h cs ms (Some c) n)) q is in
      let t = steps (grown 8 size) (λ n. Ok (program h cs ms (Some s.first) n)) q s.second in
      let g = grown_is 8 size t.first t.read in
      let i = passed (nat_lt (length b.code) 1024) (instruction scope h.version b.labels (length b.code) ws >>= λ i. Ok (longer_by i.0))
      LimitPassed s.first s.read in
      let u = steps (instruction scope h.version b.labels (length b.code) ws) (λ i. Ok (longer_by i.0)) s.first i.1 in
      let less : length b.code < 1024 = ltb-true (length b.code) 1024 i.0 in
      let added = u.first.0 in
      let longer : length (b.code ++ added ∷ []) ≡ length b.code + 1 = length-append b.code (added ∷ []) in
      let fits = InstrFits (limits h.version (length scope.classes) (length scope.methods) (length b.labels)) in
      let labels = body.labels in
      let serialization = holds.serialization in
      let same : program h cs ms (Some (longer_by added)) t.first ≡ q =
      ap (λ c. program h cs ms (Some c) t.first) (ok_is (longer_by added) s.first u.second) ∙ ok_is (program h cs ms (Some s.first) t.first) q t.second in
      subst (λ q. Read scope q ss) same (record {
        parts = record { class_names = holds.class_names; method_names = holds.method_names; few_methods = holds.few_methods; serialization = omega (arith, g.0); short = g.1; done = holds.done };
        body = record {
          labels = omega arith;
          few = omega arith;
          heading = body.heading;
          code = λ strict. All-push fits b.code added (body.code strict) (instructions scope h.version strict b.labels (length b.code) ws added u.first.1 u.read);
        };
      })

  -- a method at its end, where there is a place for each label
  abbrev whole_of : Body → Method
  whole_of b = record {
    class = b.heading.class;
    over = b.heading.over;
    role = b.heading.role;
    flags = b.heading.flags;
    before = b.heading.before;
    after = b.heading.after;
    arguments = b.heading.arguments;
    gives = b.heading.gives;
    code = b.code;
  }

  method_fits : (version : Version) (b : Body) (left : ℕ) → BodyHolds scope version b left → scope.is_strict ≡ true →
      length b.labels ≡ length b.code → 1 ≤ length b.code → MethodFits version (length scope.classes) (length scope.methods) (whole_of b)
  method_fits version b left body strict places some =
      let range = body.heading strict in
      let code = subst (λ n. All (InstrFits (limits version (length scope.classes) (length scope.methods) n)) b.code) places (body.code strict) in
      record {
        class = range.class;
        flags = range.flags;
        before = range.before;
        after = range.after;
        argument_count = range.argument_count;
        arguments = range.arguments;
        gives = range.gives;
        some_code = some;
        code_length = body.few;
        code = code;
      }

  -- the end of a method
  end_step : (ss : List Statement) (h : Header) (cs : List ClassDecl) (ms : List Method) (size left : ℕ) (b : Body) (ws : List (List ℕ)) (q : Program)
      → left ≡ 0 → Holds scope h cs ms size (Some b) (declares k.Class ss) (declares k.Method ss) → BodyHolds scope h.version b left
      → with_method (program h cs ms None size) b ws ≡ Ok q → Read scope q ss
  end_step ss h cs ms size left b ws q none holds body is =
      let whole = whole_of b in
      let s = steps (method_of b) (λ m. nothing_more false ws >>= λ u. Ok (program h cs (ms ++ m ∷ []) None size)) q is in
      let t = steps (nothing_more false ws) (λ u. Ok (program h cs (ms ++ s.first ∷ []) None size)) q s.second in
      let i = kept (length b.code == 0) (Ok whole) LimitPassed s.first s.read in
      let made : whole ≡ s.first = ok_is whole s.first i.1 in
      let some : length b.code ≡ 0 → ⊥ = eqb-false (length b.code) 0 i.0 in
      let longer : length (ms ++ whole ∷ []) ≡ length ms + 1 = length-append ms (whole ∷ []) in
      let places : length b.labels ≡ length b.code = (let labels = body.labels in omega arith) in
      let summed : sum_by (serialized h.version) (ms ++ whole ∷ []) ≡ sum_by (serialized h.version) ms + serialized h.version whole =
      sum_by_push (serialized h.version) ms whole in
      let names = holds.method_names in
      let few = holds.few_methods in
      let serialization = holds.serialization in
      let same : program h cs (ms ++ whole ∷ []) None size ≡ q = ap (λ m. program h cs (ms ++ m ∷ []) None size) made
      ∙ ok_is (program h cs (ms ++ s.first ∷ []) None size) q t.second in
      subst (λ q. Read scope q ss) same (record {
        parts = record {
          class_names = holds.class_names;
          method_names = omega arith;
          few_methods = omega arith;
          serialization = omega arith;
          short = holds.short;
          done = record {
            few_classes = holds.done.few_classes;
            header = holds.done.header;
            classes = holds.done.classes;
            parents = holds.done.parents;
            servers = holds.done.servers;
            overridden_methods = λ strict. All-push (λ m. OverFits h.version (length scope.methods) m.over) ms whole (holds.done.overridden_methods strict) (body.heading strict).over;
            methods = λ strict. All-push (MethodFits h.version (length scope.classes) (length scope.methods)) ms whole
                (holds.done.methods strict) (method_fits h.version b left body strict places (omega (arith, some)));
          };
        };
        body = tt;
      })

  -- ---- any statement

  -- a name behind a keyword, where more was read behind it
  class_named : (h : Header) (cs : List ClassDecl) (ms : List Method) (size : ℕ) (ws rest : List (List ℕ)) (q : Program) →
      ws ≡ keyword_text k.Class ∷ rest → with_class scope (program h cs ms None size) rest ≡ Ok q → one_of (name_after k.Class ws) ≡ 1
  class_named h cs ms size ws rest q begins is = cons_given
      (λ r. with_class scope (program h cs ms None size) r ≡ Ok q) rest is (λ e. no_ok _ _ (passed (nat_lt (length cs) 256) (Err BadShape) LimitPassed q e).1)
      (λ n left same e. names_one k.Class ws n left (begins ∙ ap (λ v. keyword_text k.Class ∷ v) same))

  method_named : (ss : List Statement) (h : Header) (cs : List ClassDecl) (ms : List Method) (size : ℕ) (ws rest : List (List ℕ)) (q : Program) →
      ws ≡ keyword_text k.Method ∷ rest → with_heading scope ss (program h cs ms None size) rest ≡ Ok q → one_of (name_after k.Method ws) ≡ 1
  method_named ss h cs ms size ws rest q begins is = cons_given (λ r. with_heading scope ss (program h cs ms None size) r ≡ Ok q) rest is
      (λ e. no_ok _ _ (passed (nat_lt (length ms) 1024) (Err BadShape) LimitPassed q e).1)
      (λ n left same e. names_one k.Method ws n left (begins ∙ ap (λ v. keyword_text k.Method ∷ v) same))

  module _ (s : Statement) (ss : List Statement) (h : Header) (cs : List ClassDecl) (ms : List Method) (size : ℕ) (q : Program) where
    -- a class or the beginning of a method
    declared_step : Holds scope h cs ms size None (declares k.Class (s ∷ ss)) (declares k.Method (s ∷ ss)) → (key : Keyword) (rest : List (List ℕ)) →
        any_keyword s.words ≡ Ok (key, rest) → declaration scope ss (program h cs ms None size) key rest ≡ Ok q → Read scope q ss
    declared_step holds k.Class rest read is =
        let one = class_named h cs ms size s.words rest q (begins_with s.words k.Class rest read) is in
        class_step ss h cs ms size (declares k.Class (s ∷ ss)) (declares k.Method (s ∷ ss)) rest q
        (omega (arith, declares_more k.Class s ss 1 one)) (omega (arith, declares_more k.Method s ss 0 (class_alone s.words rest read))) holds is
    declared_step holds k.Method rest read is =
        let one = method_named ss h cs ms size s.words rest q (begins_with s.words k.Method rest read) is in
        heading_step ss h cs ms size (declares k.Class (s ∷ ss)) (declares k.Method (s ∷ ss)) rest q
        (omega (arith, declares_more k.Class s ss 0 (method_alone s.words rest read))) (omega (arith, declares_more k.Method s ss 1 one)) holds is
    declared_step holds _ rest read is = absurd (no_ok _ _ is)

    -- the same with no names to come from this statement
    none_declared : (o : Option Body) → Silent s.words → Holds scope h cs ms size o (declares k.Class (s ∷ ss)) (declares k.Method (s ∷ ss)) →
        Holds scope h cs ms size o (declares k.Class ss) (declares k.Method ss)
    none_declared o silent holds =
        let classes : declares k.Class (s ∷ ss) ≡ declares k.Class ss = omega (arith, declares_more k.Class s ss 0 silent.class) in
        let methods : declares k.Method (s ∷ ss) ≡ declares k.Method ss = omega (arith, declares_more k.Method s ss 0 silent.method) in
        subst (λ n. Holds scope h cs ms size o n (declares k.Method ss)) classes
        (subst (λ n. Holds scope h cs ms size o (declares k.Class (s ∷ ss)) n) methods holds)

    -- an instruction, which declares no name
    spoken : (b : Body) → Holds scope h cs ms size (Some b) (declares k.Class (s ∷ ss)) (declares k.Method (s ∷ ss)) →
        BodyHolds scope h.version b (before_end (s ∷ ss)) → is_end s.words ≡ false →
        (with_instruction scope h.version b s.words >>= λ c. grown 8 size >>= λ n. Ok (program h cs ms (Some c) n)) ≡ Ok q → Read scope q ss
    spoken b holds body goes_on is =
        let added : Instr → Body = λ i. record b { code = b.code ++ i ∷ [] } in
        let first = steps (with_instruction scope h.version b s.words) (λ c. grown 8 size >>= λ n. Ok (program h cs ms (Some c) n)) q is in
        let i = passed (nat_lt (length b.code) 1024) (instruction scope h.version b.labels (length b.code) s.words >>= λ i. Ok (added i.0)) LimitPassed
        first.first first.read in
        let said = steps (instruction scope h.version b.labels (length b.code) s.words) (λ i. Ok (added i.0)) first.first i.1 in
        code_step ss h cs ms size (before_end (s ∷ ss)) b s.words q
        (not_at_end s ss goes_on) (none_declared (Some b) (code_silent scope h.version b.labels (length b.code) s.words said.first said.read) holds) body is

    body_step : (b : Body) → Holds scope h cs ms size (Some b) (declares k.Class (s ∷ ss)) (declares k.Method (s ∷ ss)) →
        BodyHolds scope h.version b (before_end (s ∷ ss)) → in_body scope (program h cs ms None size) b s.words ≡ Ok q → Read scope q ss
    body_step b holds body is = go (is_end s.words) refl
      where
        one : Bool × List (List ℕ) → Result Program AsmFaultKind
        one t = if t.0 then with_method (program h cs ms None size) b t.1 else
            (with_instruction scope h.version b t.1 >>= λ c. grown 8 size >>= λ n. Ok (program h cs ms (Some c) n))

        go : (e : Bool) → is_end s.words ≡ e → Read scope q ss
        go true ends = end_step ss h cs ms size (before_end (s ∷ ss)) b (took k.End s.words).1 q (at_end s ss ends)
            (none_declared (Some b) (end_silent s.words ends) holds) body (if_true _ _ (Ok q) (took k.End s.words).0 (takes_end s.words ends) is)
        go false goes_on = spoken b holds body goes_on (sym (ap one (takes_no_end s.words goes_on)) ∙ is)

    stepped : (o : Option Body) → Holds scope h cs ms size o (declares k.Class (s ∷ ss)) (declares k.Method (s ∷ ss)) →
        OpenHolds scope h.version o (s ∷ ss) → step_by o scope ss (program h cs ms None size) s.words ≡ Ok q → Read scope q ss
    stepped None holds body is =
        let t = steps (any_keyword s.words) (λ key. declaration scope ss (program h cs ms None size) key.0 key.1) q is in
        declared_step holds t.first.0 t.first.1 t.read t.second
    stepped (Some b) holds body is = body_step b holds body is

  -- ---- the statements after others

  record AtEnd (q : Program) : Type 0 where
    read : Read scope q []
    closed : q.body ≡ None
    some : 1 ≤ length q.methods

  no_body : (o : Option Body) → is_some o ≡ false → o ≡ None
  no_body None is = refl
  no_body (Some b) is = let clash : true ≡ false = is in cc

  closes : (p q : Program) → Read scope p [] → closed p ≡ Ok q → AtEnd q
  closes p q read is =
      let i = kept (is_some p.body) (if length p.methods == 0 then Err LimitPassed else Ok p) BadShape q is in
      let j = kept (length p.methods == 0) (Ok p) LimitPassed q i.1 in
      let some : length p.methods ≡ 0 → ⊥ = eqb-false (length p.methods) 0 j.0 in
      subst AtEnd (ok_is p q j.1) (record { read = read; closed = no_body p.body i.0; some = omega (arith, some) })

  rest_read : (last : ℕ) (p : Program) (ss : List Statement) (q : Program) → Read scope p ss → read_rest last scope p ss ≡ Ok q → AtEnd q
  rest_read last p [] q read is = closes p q read (said last (closed p) q is)
  rest_read last p (s ∷ ss) q read is =
      let t = steps_then (at_line s.line (step scope ss p s.words)) (λ q. read_rest last scope q ss) q is in
      rest_read last t.first ss q
      (stepped s ss p.header p.classes p.methods p.size t.first p.body read.parts read.body (said s.line (step scope ss p s.words) t.first t.read)) t.second

  -- ---- a whole program

  opens : (s : Statement) (ss : List Statement) (p : Program) →
      length scope.classes ≡ declares k.Class (s ∷ ss) → length scope.methods ≡ declares k.Method (s ∷ ss) → opened scope s.words ≡ Ok p → Read scope p ss
  opens s ss p class_names method_names is =
      let t = steps (image_statement scope s.words) (λ h. Ok (program h.0 [] [] None 24)) p is in
      let silent = header_silent scope s.words t.first t.read in
      subst (λ p. Read scope p ss) (ok_is (program t.first.0 [] [] None 24) p t.second) (record {
        parts = record {
          class_names = omega (arith, class_names, declares_more k.Class s ss 0 silent.class);
          method_names = omega (arith, method_names, declares_more k.Method s ss 0 silent.method);
          few_methods = omega arith;
          serialization = refl;
          short = omega arith;
          done = record {
            few_classes = omega arith;
            header = λ strict. headers scope strict s.words t.first.0 t.first.1 t.read;
            classes = All-nil (ClassFits t.first.0.version (length scope.classes) t.first.0.natives);
            parents = All-nil (λ c. ParentFits t.first.0.version (length scope.classes) c.kind c.parent);
            servers = omega arith;
            overridden_methods = λ strict. All-nil (λ m. OverFits t.first.0.version (length scope.methods) m.over);
            methods = λ strict. All-nil (MethodFits t.first.0.version (length scope.classes) (length scope.methods));
          };
        };
        body = tt;
      })

  program_read : (last : ℕ) (ss : List Statement) (q : Program) → length scope.classes ≡ declares k.Class ss → length scope.methods ≡ declares k.Method ss →
      Started last scope q ss → AtEnd q
  program_read last _ q class_names method_names (started s ss p starts rest) = rest_read last p ss q (opens s ss p class_names method_names starts) rest

  -- with names told apart it is an image
  well_formed : (q : Program) → scope.is_strict ≡ true → AtEnd q → WellFormed (image_of q)
  well_formed q strict at =
      let parts = subst (λ o. Holds scope q.header q.classes q.methods q.size o (declares k.Class []) (declares k.Method [])) at.closed at.read.parts in
      let class_names = parts.class_names in
      let method_names = parts.method_names in
      let few = parts.few_methods in
      let short = parts.short in
      let serialization = parts.serialization in
      let class_count : length scope.classes ≡ length q.classes = omega (arith, declares_none k.Class) in
      let method_count : length scope.methods ≡ length q.methods = omega (arith, declares_none k.Method) in
      let classes : ClassesFit q.header.version q.header.natives q.classes =
      record { count = parts.done.few_classes; each = subst (λ n. All (ClassFits q.header.version n q.header.natives) q.classes) class_count parts.done.classes; servers = parts.done.servers } in
      let each : All (MethodFits q.header.version (length q.classes) (length q.methods)) q.methods =
      subst (λ n. All (MethodFits q.header.version n (length q.methods)) q.methods) class_count
      (subst (λ n. All (MethodFits q.header.version (length scope.classes) n) q.methods) method_count (parts.done.methods strict)) in
      let methods : MethodsFit q.header.version (length q.classes) q.methods = record { some = at.some; count = omega arith; each = each } in
      let v = q.header.version in
      let families : FamiliesFit v q.classes q.methods = record {
        parents = subst (λ n. All (λ c. ParentFits v n c.kind c.parent) q.classes) class_count parts.done.parents;
        overridden_methods = subst (λ n. All (λ m. OverFits v n m.over) q.methods) method_count (parts.done.overridden_methods strict);
      } in
      record {
        header = subst (λ n. HeaderFits n q.header) class_count (parts.done.header strict);
        classes = classes;
        methods = methods;
        families = families;
        size = omega (arith, class_sizes v q.classes);
      }

-- ---- a whole text

module _ (headers : HeadersInRange) (classes_in : ClassesInRange) (headings : HeadingsInRange) (instructions : InstructionsInRange) where
  -- the classes of the first reading are in range for the second
  first_classes : (last : ℕ) (ss : List Statement) (q : Program) →
      read_program last (scope_of false ss []) ss ≡ Ok q → All (ClassFits q.header.version (length (declared_names k.Class [] ss)) q.header.natives) q.classes
  first_classes last ss q is = let at = program_read headers classes_in headings instructions (scope_of false ss []) q.header.version 0 (λ strict. absurd
      (false≢true strict)) last ss q (count_declared k.Class ss) (count_declared k.Method ss) (program_starts last (scope_of false ss []) ss q is) in
      at.read.parts.done.classes

  statements_well : (last : ℕ) (ss : List Statement) (i : Image) → read_statements last ss ≡ Ok i → WellFormed i
  statements_well last ss i is =
      let second : Program → Scope = λ p. scope_of true ss p.classes in
      let s = steps_then (read_program last (scope_of false ss []) ss) (λ first. and_then (read_program last (second first) ss) (λ p. Ok (image_of p))) i is in
      let first = s.first in
      let t = steps_then (read_program last (second first) ss) (λ p. Ok (image_of p)) i s.second in
      let kinds = first_classes last ss first s.read in
      let at = program_read headers classes_in headings instructions (second first) first.header.version first.header.natives (λ strict. kinds) last ss t.first
      (count_declared k.Class ss) (count_declared k.Method ss) (program_starts last (second first) ss t.first t.read) in
      subst WellFormed (ok_is (image_of t.first) i t.second)
      (well_formed headers classes_in headings instructions (second first) first.header.version first.header.natives (λ strict. kinds) t.first refl at)

  pub text_well : (text : List ℕ) (i : Image) → denoted text ≡ Ok i → WellFormed i
  text_well text i is = statements_well (last_line_of text) (statements text) i
      (passed (nat_le (length text) (2 ^ 20)) (read_statements (last_line_of text) (statements text)) (record { line = 1; kind = LimitPassed }) i is).1
