-- The statement that begins a method is read where its words mean a heading, and as that heading.
use Rattle.std.proofs.lemmas.Bool.Decides.{nat_tests}
use Rattle.std.proofs.Common.{arith, ◌≡◌, ℕ, true, false, List, [], ◌∷◌, ◌++◌, replicate, Option, Some, None, Ok, refl, sym, ap, subst, ◌∙◌, append-nil}
use Rattle.std.specs.Prelude.{if◌then◌else◌}
use Rattle.std.specs.Str.{bytes_eq}
use Rattle.aom_instructions.specs.declared.version.Version.{Version}
use Rattle.aom_instructions.specs.declared.version.Version.TheVariants as versions
use Rattle.aom_image.specs.declared.class.ClassDecl.{ClassDecl}
use Rattle.aom_image.specs.declared.class.ClassKind.{ClassKind}
use Rattle.aom_image.specs.declared.class.ClassKind.TheVariants as class_kind
use Rattle.aom_image.specs.declared.method.Argument.TheVariants as arg
use Rattle.aom_image.specs.declared.method.Gives.{Gives}
use Rattle.aom_image.specs.declared.method.Gives.TheVariants as result
use Rattle.aom_image.specs.declared.method.Role.{Role}
use Rattle.aom_image.specs.declared.method.Role.TheVariants as roles
use Rattle.aom_image.specs.declared.method.States.{States}
use Rattle.aom_image.specs.declared.method.Thing.{Thing}
use Rattle.aom_image.specs.declared.method.Thing.TheVariants as owned
use Rattle.aom_syntax.specs.Classes.{declared, flag, listed, thing, thing_of}
use Rattle.aom_syntax.specs.Keywords.{keyword_text}
use Rattle.aom_syntax.specs.Methods.{accepted, all_states, argument_of, gives, heading, kind_of, optional_arguments, optional_class, optional_gives}
use Rattle.aom_syntax.specs.Methods.{optional_over, optional_states, role, role_of, said_over, states_of, omitted_gives, default_after, default_before}
use Rattle.aom_syntax.specs.Methods.{default_gives, default_words, promised}
use Rattle.aom_syntax.specs.Names.{place_of}
use Rattle.aom_syntax.specs.Operands.{class, method}
use Rattle.aom_syntax.specs.Reading.{◌>>=◌, Reading, any_keyword, giving, next, nothing_more, seen}
use Rattle.aom_syntax.specs.declared.keyword.Keyword.{Keyword}
use Rattle.aom_syntax.specs.declared.keyword.Keyword.TheVariants as k
use Rattle.aom_syntax.specs.declared.method.Heading.{Heading}
use Rattle.aom_syntax.specs.declared.scope.Scope.{Scope}
use Rattle.aom_asm_semantics.proofs.AsmLemmas.{begins_with}
use Rattle.aom_asm_semantics.proofs.SyntaxLemmas.{ok_is, stands_for, steps}
use Rattle.aom_asm_semantics.proofs.Readings.{Takes, Whole, done, first, gives as gives_it, in_turn, last, only_two, sees, settle, takes_any_keyword, took_same}
use Rattle.aom_asm_semantics.specs.Meaning.{AreStates, GivesMeans, HeadingMeans, IsArgument, IsList, IsNumbered, IsThing, NameTables, OverMeans, SaidOr, SaidOrNone}
use Rattle.aom_asm_semantics.specs.Meaning.{states}
use Rattle.aom_asm_semantics.specs.Source as source
use Rattle.aom_asm_semantics.specs.Source.{GivesText, HeadingText, gives_words, heading_words, mark, part, promise_words}
use Rattle.aom_asm_semantics.proofs.Pieces.{Leaves, NotNext, Reads, Took, is_not, is_there, none_left, not_mark, not_part, not_word, pair, reads_part, saw}
use Rattle.aom_asm_semantics.proofs.Pieces.{saw_part, saw_used, take_it, takes_seen, then_reads}
use Rattle.aom_asm_semantics.proofs.Ascii.{plain_states}
use Rattle.aom_asm_semantics.proofs.Declared.{reads_mark, saw_declared, saw_mark, takes_declared}
use Rattle.aom_asm_semantics.proofs.Sound.{Sound, giving_sound, next_sound}
use Rattle.aom_asm_semantics.proofs.Words.{LooksUp, argument_means, argument_reads, list_means, list_reads, takes_class, takes_method, thing_means, thing_reads, reported}

-- ---- words

states_read : (w : List ℕ) (s : States) → AreStates w s → Reads states_of w s
states_read w s is = record { plain = plain_states w s is; says = is }

record RoleSays (ws : List (List ℕ)) (r : Role) (rest : List (List ℕ)) : Type 0 where
  key : Keyword
  words : ws ≡ keyword_text key ∷ rest
  says : role_of key ≡ Ok r

role_says : (ws : List (List ℕ)) (r : Role) (rest : List (List ℕ)) → role ws ≡ Ok (r, rest) → RoleSays ws r rest
role_says ws r rest is =
    let s = steps (any_keyword ws) (λ x. role_of x.0 >>= λ y. Ok (y, x.1)) (r, rest) is in
    let t = steps (role_of s.first.0) (λ y. Ok (y, s.first.1)) (r, rest) s.second in
    let last : pair t.first s.first.1 ≡ (r, rest) = ok_is (pair t.first s.first.1) (r, rest) t.second in
    record { key = s.first.0; words = begins_with ws s.first.0 s.first.1 s.read ∙ ap (λ p. keyword_text s.first.0 ∷ p.1) last; says = t.read ∙ ap (λ p. Ok p.0) last }

-- ---- what was read

module _ (names : NameTables) (kinds : List ClassDecl) where
  abbrev scope : Scope
  scope = reported names kinds

  record ClassSays (ws : List (List ℕ)) (class : Option ℕ) (rest : List (List ℕ)) : Type 0 where
    said : Option (List ℕ)
    words : ws ≡ part k.Of said ++ rest
    says : SaidOrNone (IsNumbered names.classes) said class

  class_says : (ws : List (List ℕ)) (c : Option ℕ) (rest : List (List ℕ)) → optional_class scope ws ≡ Ok (c, rest) → ClassSays ws c rest
  class_says ws c rest is = go (take_it k.Of ws)
    where
      go : Took k.Of ws → ClassSays ws c rest
      go (is_there vs words there) =
          let read = sym (ap (λ p. if p.0 then (class scope p.1 >>= λ x. Ok (Some x.0, x.1)) else Ok (None, p.1)) there) ∙ is in
          let s = steps (class scope vs) (λ x. Ok (Some x.0, x.1)) (c, rest) read in
          let u = saw_used names.classes 256 vs s.first.0 s.first.1 s.read in
          let same : pair (Some s.first.0) s.first.1 ≡ (c, rest) = ok_is (pair (Some s.first.0) s.first.1) (c, rest) s.second in
          record {
            said = Some u.w;
            words = words ∙ ap (λ v. keyword_text k.Of ∷ v) u.words ∙ ap (λ p. keyword_text k.Of ∷ u.w ∷ p.1) same;
            says = subst (SaidOrNone (IsNumbered names.classes) (Some u.w)) (ap (λ p. p.0) same) u.numbered;
          }
      go (is_not there) =
          let read = sym (ap (λ p. if p.0 then (class scope p.1 >>= λ x. Ok (Some x.0, x.1)) else Ok (None, p.1)) there) ∙ is in
          let same : pair None ws ≡ (c, rest) = ok_is (pair None ws) (c, rest) read in
          record { said = None; words = ap (λ p. p.1) same; says = subst (SaidOrNone (IsNumbered names.classes) None) (ap (λ p. p.0) same) tt }

  -- what is overridden, where it is said
  record OverSays (version : Version) (ws : List (List ℕ)) (over : Option ℕ) (rest : List (List ℕ)) : Type 0 where
    said : Option (List ℕ)
    words : ws ≡ part k.Over said ++ rest
    says : OverMeans names version said over

  said_over_sound : (version : Version) (ws vs : List (List ℕ)) → ws ≡ keyword_text k.Over ∷ vs →
      Sound (said_over scope version) vs (λ over rest. OverSays version ws over rest)
  said_over_sound versions.One ws vs words = record { each = λ p rest is. cc }
  said_over_sound versions.Two ws vs words =
      let Q = λ (over : Option ℕ) (rest : List (List ℕ)). OverSays versions.Two ws over rest in
      next_sound Q (method scope) _ vs (λ m us read.
      let s = saw_used names.methods 1024 vs m us read in
      giving_sound Q (Some m) us (record { said = Some s.w; words = words ∙ ap (λ v. keyword_text k.Over ∷ v) s.words; says = (refl, s.numbered) }))

  over_says : (version : Version) (ws : List (List ℕ)) (over : Option ℕ) (rest : List (List ℕ)) → optional_over scope version ws ≡ Ok (over, rest) →
      OverSays version ws over rest
  over_says version ws over rest is = go (take_it k.Over ws)
    where
      go : Took k.Over ws → OverSays version ws over rest
      go (is_there vs words there) = search (arith, nat_tests, said_over_sound version ws vs words, words)
      go (is_not there) =
          let same : pair None ws ≡ (over, rest) = grind (arith, nat_tests, ok_is, pair) in
          record { said = None; words = ap (λ p. p.1) same; says = subst (OverMeans names version None) (ap (λ p. p.0) same) tt }

  record GivesSays (default : Option Gives) (ws : List (List ℕ)) (g : Gives) : Type 0 where
    said : GivesText
    words : ws ≡ gives_words said
    means : GivesMeans names default said g

  -- a result behind its keyword, with what is left
  record ResultSays (default : Option Gives) (ws : List (List ℕ)) (g : Gives) (rest : List (List ℕ)) : Type 0 where
    said : GivesText
    words : keyword_text k.Gives ∷ ws ≡ gives_words said ++ rest
    means : GivesMeans names default said g

  result_sound : (default : Option Gives) (key : Keyword) (vs : List (List ℕ)) → Sound (gives scope key) vs (λ g rest. ResultSays default (keyword_text key ∷ vs) g rest)
  result_sound default k.Nothing vs = giving_sound _ result.Nothing vs (record { said = source.nothing; words = refl; means = tt })
  result_sound default k.Word vs = giving_sound _ result.Word vs (record { said = source.word; words = refl; means = tt })
  result_sound default k.Own vs = next_sound _ (thing scope) _ vs (λ t rest read.
      let s = saw (thing_of scope) vs t rest read in
      giving_sound _ (result.Own t) rest
      (record { said = source.own s.w; words = ap (λ v. keyword_text k.Gives ∷ keyword_text k.Own ∷ v) s.words; means = thing_means names kinds s.w t s.says }))
  result_sound default k.Maybe vs = next_sound _ (thing scope) _ vs (λ t rest read.
      let s = saw (thing_of scope) vs t rest read in
      giving_sound _ (result.Maybe t) rest (record
      { said = source.maybe s.w; words = ap (λ v. keyword_text k.Gives ∷ keyword_text k.Maybe ∷ v) s.words; means = thing_means names kinds s.w t s.says }))
  result_sound default k.Left vs = next_sound _ (class scope) _ vs (λ c rest read.
      let s = saw_used names.classes 256 vs c rest read in
      giving_sound _ (result.Left c) rest
      (record { said = source.left s.w; words = ap (λ v. keyword_text k.Gives ∷ keyword_text k.Left ∷ v) s.words; means = s.numbered }))
  result_sound default key vs = record { each = λ g rest is. cc }

  abbrev said_gives : Reading Gives
  said_gives = next any_keyword (λ key. next (gives scope key) (λ g. next (nothing_more false) (λ u. giving g)))

  abbrev nothing_said : Option Gives → Reading Gives
  nothing_said default = seen (λ u. omitted_gives default) (nothing_more true)

  ended : (said : GivesText) (ws us : List (List ℕ)) → ws ≡ gives_words said ++ us → us ≡ [] → ws ≡ gives_words said
  ended said ws us e none = e ∙ ap (λ v. gives_words said ++ v) none ∙ append-nil (gives_words said)

  gives_sound : (default : Option Gives) (ws : List (List ℕ)) → Sound (optional_gives scope default) ws (λ g rest. GivesSays default ws g)
  gives_sound default ws = go (take_it k.Gives ws)
    where
      behind : (vs : List (List ℕ)) → ws ≡ keyword_text k.Gives ∷ vs → Sound said_gives vs (λ g rest. GivesSays default ws g)
      behind vs words =
          let Q = λ (g : Gives) (rest : List (List ℕ)). GivesSays default ws g in
          next_sound Q any_keyword _ vs (λ key us r1. next_sound Q (gives scope key) _ us (λ g ts r2. next_sound Q (nothing_more false) _ ts (λ u rest r3.
          let e = begins_with vs key us r1 in
          let s = (result_sound default key us).each g ts r2 in
          giving_sound Q g rest (record {
            said = s.said;
            words = ended s.said ws ts (words ∙ ap (λ v. keyword_text k.Gives ∷ v) e ∙ s.words) (none_left false ts u rest r3).0;
            means = s.means;
          }))))

      without : Sound (nothing_said default) ws (λ g rest. GivesSays default ws g)
      without = record {
        each = λ g rest is.
            let s = steps (nothing_more true ws) (λ x. omitted_gives default >>= λ y. Ok (y, x.1)) (g, rest) is in
            let t = steps (omitted_gives default) (λ y. Ok (y, s.first.1)) (g, rest) s.second in
            let same : pair t.first s.first.1 ≡ (g, rest) = ok_is (pair t.first s.first.1) (g, rest) t.second in
            record {
              said = source.omitted;
              words = (none_left true ws s.first.0 s.first.1 s.read).0;
              means = stands_for default t.first t.read ∙ ap (λ p. Some p.0) same;
            };
      }

      go : Took k.Gives ws → Sound (optional_gives scope default) ws (λ g rest. GivesSays default ws g)
      go (is_there vs words there) =
          record { each = λ g rest is. (behind vs words).each g rest (sym (ap (λ p. if p.0 then said_gives p.1 else nothing_said default p.1) there) ∙ is) }
      go (is_not there) = search (arith, nat_tests)

  -- the words of a heading behind its keyword, and what they mean at its place
  pub record HeadingSays (version : Version) (place : ℕ) (ws : List (List ℕ)) (h : Heading) : Type 0 where
    pub said : HeadingText
    pub words : keyword_text k.Method ∷ ws ≡ heading_words said
    pub means : HeadingMeans names version true kinds said h
    pub placed : place_of said.name names.methods ≡ Some place

  pub heading_sound : (version : Version) (place : ℕ) (ws : List (List ℕ)) → Sound (heading scope version place) ws (λ h rest. HeadingSays version place ws h)
  heading_sound version place ws =
      let Q = λ (h : Heading) (rest : List (List ℕ)). HeadingSays version place ws h in
      next_sound Q (declared place names.methods) _ ws (λ u v1 r1.
      next_sound Q role _ v1 (λ role v2 r2.
      next_sound Q (optional_class scope) _ v2 (λ class v3 r3.
      next_sound Q (optional_over scope version) _ v3 (λ over v3b r3b.
      next_sound Q (flag k.Leaves) _ v3b (λ leaves v4 r4.
      next_sound Q (flag k.Quiet) _ v4 (λ quiet v5 r5.
      let all = all_states (kind_of kinds class) in
      next_sound Q (optional_states k.In (default_before role all)) _ v5 (λ before v6 r6.
      next_sound Q (optional_states k.Out (default_after role all)) _ v6 (λ after v7 r7.
      next_sound Q (optional_arguments scope (default_words role)) _ v7 (λ arguments v8 r8.
      next_sound Q (optional_gives scope (default_gives true role (kind_of kinds class))) _ v8 (λ gives v9 r9.
      let d = saw_declared names.methods place ws u v1 r1 in
      let r = role_says v1 role v2 r2 in
      let c = class_says v2 class v3 r3 in
      let v = over_says version v3 over v3b r3b in
      let i = saw_part k.In states_of AreStates (states (default_before role all)) (λ w s is. is) v5 before v6 r6 in
      let o = saw_part k.Out states_of AreStates (states (default_after role all)) (λ w s is. is) v6 after v7 r7 in
      let a = saw_part k.Args (listed 6 (argument_of scope)) (IsList 6 (IsArgument names)) (replicate (default_words role) arg.Word)
      (list_means 6 (argument_of scope) (IsArgument names) (argument_means names kinds)) v7 arguments v8 r8 in
      let g = (gives_sound (default_gives true role (kind_of kinds class)) v8).each gives v9 r9 in
      let said : HeadingText = record {
        name = d.w;
        role = r.key;
        class = c.said;
        over = v.said;
        leaves = leaves;
        quiet = quiet;
        before = i.said;
        after = o.said;
        arguments = a.said;
        gives = g.said;
      } in
      giving_sound Q _ v9 (record {
        said = said;
        words = grind (arith, nat_tests, saw_mark);
        means = record { name = d.is_name; role = r.says; class = c.says; over = v.says; flags = refl; before = i.says; after = o.says; arguments = a.says; gives = g.means };
        placed = d.placed;
      })))))))))))

-- ---- what is read

not_gives : (key : Keyword) (said : GivesText) → bytes_eq (keyword_text k.Gives) (keyword_text key) ≡ false → NotNext key (gives_words said)
not_gives key x apart = grind (arith, nat_tests, not_word key, key)

takes_role : (key : Keyword) (r : Role) → role_of key ≡ Ok r → Takes role (keyword_text key ∷ []) r
takes_role key r says = sees role_of (takes_any_keyword key) says

module _ {names : NameTables} {scope : Scope} (looks : LooksUp names scope) where
  class_reads : (said : Option (List ℕ)) (c : Option ℕ) (rest : List (List ℕ)) → SaidOrNone (IsNumbered names.classes) said c → NotNext k.Of rest
      → Leaves (optional_class scope) (part k.Of said ++ rest) c rest
  class_reads x y rest says other = grind (arith, nat_tests, takes_class looks, says)

  takes_thing : (w : List ℕ) (t : Thing) → IsThing names w t → Takes (thing scope) (w ∷ []) t
  takes_thing w t is = takes_seen (thing_reads looks w t is)

  whole_gives : (default : Option Gives) (g : Gives) {ws : List (List ℕ)} → Takes (next any_keyword (gives scope)) ws g →
      Whole (optional_gives scope default) (keyword_text k.Gives ∷ ws) g
  whole_gives default g takes =
      record { reads = (only_two any_keyword (gives scope) (λ g. next (nothing_more false) (λ u. giving g)) takes (record { reads = refl })).reads }

  gives_read : (default : Option Gives) (said : GivesText) (g : Gives) → GivesMeans names default said g → Whole (optional_gives scope default) (gives_words said) g
  gives_read default said g means = grind (arith, nat_tests, means, whole_gives default, in_turn, takes_any_keyword, gives_it, takes_thing, takes_class looks)

  said_over_reads : (version : Version) (w : List ℕ) (m : ℕ) → OverMeans names version (Some w) (Some m) → (ws : List (List ℕ)) →
      said_over scope version (w ∷ ws) ≡ Ok (Some m, ws)
  said_over_reads x w m means ws = grind (arith, nat_tests, in_turn, takes_method looks w m means.1, gives_it (Some m))

  over_reads : (version : Version) (said : Option (List ℕ)) (over : Option ℕ) (rest : List (List ℕ)) → OverMeans names version said over → NotNext k.Over rest
      → Leaves (optional_over scope version) (part k.Over said ++ rest) over rest
  over_reads version said over rest means other = grind (arith, nat_tests, took_same, said_over_reads, means)

  -- what stands behind the keyword
  pub heading_reads : (version : Version) (place : ℕ) (t : HeadingText) (h : Heading) → HeadingMeans names version scope.is_strict scope.kinds t h →
      place_of t.name scope.methods ≡ Some place → Whole (heading scope version place) (t.name ∷ keyword_text t.role ∷ promise_words t) h
  heading_reads version place t h means placed =
      let kind = kind_of scope.kinds h.class in
      let v9 = gives_words t.gives in
      let v8 = part k.Args t.arguments ++ v9 in
      let v7 = part k.Out t.after ++ v8 in
      let v6 = part k.In t.before ++ v7 in
      let v5 = mark k.Quiet t.quiet ++ v6 in
      let v4 = mark k.Leaves t.leaves ++ v5 in
      let v3 = part k.Over t.over ++ v4 in
      first _ (takes_declared scope.methods place t.name means.name placed) (
      first _ (takes_role t.role h.role means.role) (
      then_reads _ (class_reads t.class h.class v3 means.class
      (not_part k.Of k.Over t.over v4 refl (not_mark k.Of k.Leaves t.leaves v5 refl (not_mark k.Of k.Quiet t.quiet v6 refl
      (not_part k.Of k.In t.before v7 refl (not_part k.Of k.Out t.after v8 refl (not_part k.Of k.Args t.arguments v9 refl (not_gives k.Of t.gives refl)))))))) (
      then_reads (λ over. next (flag k.Leaves) (λ leaves. next (flag k.Quiet) (promised scope h.role h.class over leaves)))
      (over_reads version t.over h.over v4 means.over (not_mark k.Over k.Leaves t.leaves v5 refl (not_mark k.Over k.Quiet t.quiet v6 refl (not_part k.Over k.In
      t.before v7 refl (not_part k.Over k.Out t.after v8 refl (not_part k.Over k.Args t.arguments v9 refl (not_gives k.Over t.gives refl))))))) (
      then_reads (λ leaves. next (flag k.Quiet) (promised scope h.role h.class h.over leaves)) (reads_mark k.Leaves t.leaves v5
      (not_mark k.Leaves k.Quiet t.quiet v6 refl (not_part k.Leaves k.In t.before v7 refl
      (not_part k.Leaves k.Out t.after v8 refl (not_part k.Leaves k.Args t.arguments v9 refl (not_gives k.Leaves t.gives refl)))))) (
      then_reads (promised scope h.role h.class h.over t.leaves) (reads_mark k.Quiet t.quiet v6 (not_part k.Quiet k.In t.before v7 refl
      (not_part k.Quiet k.Out t.after v8 refl (not_part k.Quiet k.Args t.arguments v9 refl (not_gives k.Quiet t.gives refl))))) (
      then_reads _ (reads_part k.In states_of AreStates (states (default_before h.role (all_states kind))) states_read t.before h.before v7 means.before
      (not_part k.In k.Out t.after v8 refl (not_part k.In k.Args t.arguments v9 refl (not_gives k.In t.gives refl)))) (
      then_reads _ (reads_part k.Out states_of AreStates (states (default_after h.role (all_states kind))) states_read t.after h.after v8 means.after
      (not_part k.Out k.Args t.arguments v9 refl (not_gives k.Out t.gives refl))) (
      then_reads _ (reads_part k.Args (listed 6 (argument_of scope)) (IsList 6 (IsArgument names)) (replicate (default_words h.role) arg.Word)
      (list_reads 6 (argument_of scope) (IsArgument names) (argument_reads looks)) t.arguments h.arguments v9 means.arguments
      (not_gives k.Args t.gives refl)) (
      last _ (gives_read (default_gives scope.is_strict h.role kind) t.gives h.gives means.gives) (
      settle (ap (λ f. record h { flags = f }) (sym means.flags)) (done _)))))))))))

-- ---- beside other classes

-- what stands for what is missing
said_or : {X : Type 0} → X → Option (List ℕ) → X → X
said_or default None x = default
said_or default (Some w) x = x

still : {X : Type 0} (Says : List ℕ → X → Type 0) (default other : X) (said : Option (List ℕ)) (x : X) → SaidOr Says default said x →
    SaidOr Says other said (said_or other said x)
unfolding said_or
still x default other y z says = grind (arith, nat_tests, says)

gives_or : Gives → GivesText → Gives → Gives
gives_or default source.omitted g = default
gives_or default said g = g

still_gives : (names : NameTables) (default : Option Gives) (other : Gives) (said : GivesText) (g : Gives) → GivesMeans names default said g →
    GivesMeans names (Some other) said (gives_or other said g)
unfolding gives_or
still_gives names default other said g means = grind (arith, nat_tests, means)

-- before the classes are known, something stands for each result that is missing
record Stands (default : Option Gives) : Type 0 where
  gives : Gives
  is : default ≡ Some gives

served_stands : (kind : ClassKind) → Stands (accepted false kind)
served_stands (class_kind.Server sessions session) = record { gives = result.Own (owned.Object session); is = refl }
served_stands _ = record { gives = result.Nothing; is = refl }

gives_stands : (role : Role) (kind : ClassKind) → Stands (default_gives false role kind)
gives_stands roles.Error kind = record { gives = result.Word; is = refl }
gives_stands roles.Accept kind = served_stands kind
gives_stands _ kind = record { gives = result.Nothing; is = refl }

-- a heading means a heading too where no class is known yet
pub record Beside (names : NameTables) (version : Version) (kinds : List ClassDecl) (t : HeadingText) : Type 0 where
  pub heading : Heading
  pub means : HeadingMeans names version false kinds t heading

pub beside_others : (names : NameTables) (version : Version) (kinds others : List ClassDecl) (t : HeadingText) (h : Heading) →
    HeadingMeans names version true kinds t h → Beside names version others t
beside_others names version kinds others t h means =
    let kind = kind_of kinds h.class in
    let other = kind_of others h.class in
    let before = states (default_before h.role (all_states other)) in
    let after = states (default_after h.role (all_states other)) in
    let stands = gives_stands h.role other in
    let gives = stands.gives in
    record {
      heading = record h { before = said_or before t.before h.before; after = said_or after t.after h.after; gives = gives_or gives t.gives h.gives };
      means = record {
        name = means.name;
        role = means.role;
        class = means.class;
        over = means.over;
        flags = means.flags;
        before = still AreStates (states (default_before h.role (all_states kind))) before t.before h.before means.before;
        after = still AreStates (states (default_after h.role (all_states kind))) after t.after h.after means.after;
        arguments = means.arguments;
        gives = grind (arith, nat_tests, gives_or, gives, still_gives);
      };
    }
