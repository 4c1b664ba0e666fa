-- The statement of a class is read where its words mean a class, and as that class.
use Rattle.std.proofs.lemmas.Bool.Decides.{nat_tests}
use Rattle.std.proofs.Common.{arith, ◌≡◌, ℕ, ◌<◌, Bool, true, false, not, List, [], ◌∷◌, ◌++◌, Option, Some, None, Ok, refl, sym, ap, subst, ◌∙◌, nat_lt}
use Rattle.std.specs.Prelude.{if◌then◌else◌}
use Rattle.std.proofs.lemmas.Bool.{lt-ltb, ltb-true}
use Rattle.aom_text.specs.declared.fault.AsmFaultKind.TheVariants.{BadShape, LimitPassed}
use Rattle.aom_image.specs.WellFormed.{is_dispatched, is_server, is_server_kind, may_descend}
use Rattle.aom_instructions.specs.Versions.{includes}
use Rattle.aom_instructions.specs.declared.version.Version.{Version}
use Rattle.aom_instructions.specs.declared.version.Version.TheVariants as versions
use Rattle.aom_image.specs.declared.class.ClassDecl.{ClassDecl}
use Rattle.aom_image.specs.declared.class.ClassKind.{ClassKind}
use Rattle.aom_image.specs.declared.class.Provider.{Provider}
use Rattle.aom_image.specs.declared.method.Thing.{Thing}
use Rattle.aom_syntax.specs.Classes.{budget, class_statement, declared, fields, flag, kind, listed, optional_parent, provider, said_budget, said_parent}
use Rattle.aom_syntax.specs.Classes.{server, thing_of}
use Rattle.aom_syntax.specs.Keywords.{keyword_text}
use Rattle.aom_syntax.specs.Names.{place_of}
use Rattle.aom_syntax.specs.Operands.{class}
use Rattle.aom_syntax.specs.Reading.{Reading, any_keyword, failing, giving, keyword, next, nothing_more, number, number_in, optional_number}
use Rattle.aom_syntax.specs.declared.keyword.Keyword.{Keyword}
use Rattle.aom_syntax.specs.declared.scope.Scope.{Scope}
use Rattle.aom_asm_semantics.proofs.AsmLemmas.{begins_with}
use Rattle.aom_asm_semantics.proofs.Readings.{Takes, Whole, done, first, first_two, gives, in_turn, last, made, takes_any_keyword, takes_keyword, takes_flag}
use Rattle.aom_asm_semantics.proofs.Readings.{took_same}
use Rattle.aom_asm_semantics.specs.Meaning.{BudgetMeans, ClassMeans, IsBudget, IsList, IsNumber, IsThing, KindMeans, NameTables, ParentMeans, ProviderMeans, SaidOr}
use Rattle.aom_asm_semantics.specs.Source.{ClassText, KindText, ProviderText, class_words, kind_words, part, provider_words}
use Rattle.aom_asm_semantics.proofs.Pieces.{Leaves, NotNext, Part, Took, is_not, is_there, none_left, not_last, not_part, reads_part, saw, saw_keyword, saw_part}
use Rattle.aom_asm_semantics.proofs.Pieces.{saw_used, take_it, takes_seen, then_reads}
use Rattle.aom_asm_semantics.proofs.Declared.{reads_mark, saw_declared, saw_mark, takes_declared}
use Rattle.aom_asm_semantics.proofs.Headers.{number_reads}
use Rattle.aom_asm_semantics.proofs.Sound.{Sound, giving_sound, next_sound}
use Rattle.aom_asm_semantics.proofs.Words.{LooksUp, list_means, list_reads, takes_class, thing_means, thing_reads, reported}
use Rattle.aom_asm_semantics.proofs.SyntaxLemmas.{ok_is}
use Rattle.aom_image.specs.declared.class.ClassKind.TheVariants as kinds
use Rattle.aom_image.specs.declared.class.Provider.TheVariants as providers
use Rattle.aom_syntax.specs.declared.keyword.Keyword.TheVariants as k
use Rattle.aom_asm_semantics.specs.Source as source
use Rattle.aom_asm_semantics.proofs.ImageLemmas.{true_given}

abbrev provided : ℕ → List (List ℕ) → Provider × List (List ℕ)
provided n ws = (providers.Native n, ws)

abbrev by_tokens : List (List ℕ) → Provider × List (List ℕ)
by_tokens ws = (providers.Token, ws)

abbrev unowned : List (List ℕ) → List Thing × List (List ℕ)
unowned ws = ([], ws)

-- ---- what was read

record ProviderSays (version : Version) (natives : ℕ) (ws : List (List ℕ)) (p : Provider) (rest : List (List ℕ)) : Type 0 where
  said : ProviderText
  words : ws ≡ provider_words said ++ rest
  means : ProviderMeans version natives said p

provider_sound : (version : Version) (natives : ℕ) (key : Keyword) (vs : List (List ℕ))
    → Sound (provider version natives key) vs (λ p rest. ProviderSays version natives (keyword_text key ∷ vs) p rest)
provider_sound version natives k.This vs = giving_sound _ providers.Own vs (record { said = source.by_itself; words = refl; means = tt })
provider_sound version natives k.Timer vs = giving_sound _ providers.Timer vs (record { said = source.by_timer; words = refl; means = tt })
provider_sound version natives k.Native vs =
    let Q = λ (p : Provider) (rest : List (List ℕ)). ProviderSays version natives (keyword_text k.Native ∷ vs) p rest in
    next_sound Q (number 0 15) _ vs (λ n us read.
    let s = saw (number_in 0 15) vs n us read in
    record {
      each = λ p rest is.
          true_given (λ b. (if b then giving (providers.Native n) else failing LimitPassed) us ≡ Ok (p, rest)) (nat_lt n natives) is (λ e. cc) (λ below e.
          let same = ok_is (provided n us) (p, rest) e in
          record {
            said = source.by_native s.w;
            words = ap (λ v. keyword_text k.Native ∷ v) (s.words ∙ ap (λ v. s.w ∷ v) (ap (λ q. q.1) same));
            means = subst (ProviderMeans version natives (source.by_native s.w)) (ap (λ q. q.0) same) (s.says, ltb-true n natives below);
          });
    })
provider_sound version natives k.Token vs = record {
  each = λ p rest is.
      true_given (λ b. (if b then giving providers.Token else failing BadShape) vs ≡ Ok (p, rest)) (includes version versions.Two) is (λ e. cc) (λ two e.
      let same = ok_is (by_tokens vs) (p, rest) e in
      record {
        said = source.by_token;
        words = ap (λ q. keyword_text k.Token ∷ q.1) same;
        means = subst (ProviderMeans version natives source.by_token) (ap (λ q. q.0) same) two;
      });
}
provider_sound version natives key vs = record { each = λ p rest is. cc }

module _ (names : NameTables) (kinds_before : List ClassDecl) (natives servers : ℕ) where
  record KindSays (version : Version) (ws : List (List ℕ)) (K : ClassKind) (rest : List (List ℕ)) : Type 0 where
    said : KindText
    words : ws ≡ kind_words said ++ rest
    means : KindMeans names version natives said K

  server_sound : (version : Version) (vs : List (List ℕ)) →
      Sound (server (reported names kinds_before)) vs (λ K rest. KindSays version (keyword_text k.Server ∷ vs) K rest)
  server_sound version vs =
      let Q = λ (K : ClassKind) (rest : List (List ℕ)). KindSays version (keyword_text k.Server ∷ vs) K rest in
      next_sound Q (class (reported names kinds_before)) _ vs (λ c us r1.
      next_sound Q (keyword k.Max) _ us (λ u ts r2.
      next_sound Q (number 1 64) _ ts (λ n rest r3.
      let s = saw_used names.classes 256 vs c us r1 in
      let e = saw_keyword k.Max us u ts r2 in
      let n_said = saw (number_in 1 64) ts n rest r3 in
      giving_sound Q (kinds.Server n c) rest (record {
        said = source.server s.w n_said.w;
        words = ap (λ v. keyword_text k.Server ∷ v) (s.words ∙ ap (λ v. s.w ∷ v) (e ∙ ap (λ v. keyword_text k.Max ∷ v) n_said.words));
        means = (s.numbered, n_said.says);
      }))))

  if_few : (version : Version) (b : Bool) (vs : List (List ℕ)) →
      Sound (if b then server (reported names kinds_before) else failing LimitPassed) vs (λ K rest. KindSays version (keyword_text k.Server ∷ vs) K rest)
  if_few version true vs = server_sound version vs
  if_few version false vs = record { each = λ p rest is. cc }

  kind_sound : (version : Version) (key : Keyword) (vs : List (List ℕ)) →
      Sound (kind (reported names kinds_before) version natives servers key) vs (λ K rest. KindSays version (keyword_text key ∷ vs) K rest)
  kind_sound version k.Plain vs = giving_sound _ kinds.Plain vs (record { said = source.plain; words = refl; means = tt })
  kind_sound version k.Session vs = giving_sound _ kinds.Session vs (record { said = source.session; words = refl; means = tt })
  kind_sound version k.Active vs =
      let Q = λ (K : ClassKind) (rest : List (List ℕ)). KindSays version (keyword_text k.Active ∷ vs) K rest in
      next_sound Q any_keyword _ vs (λ key us r1. next_sound Q (provider version natives key) _ us (λ p rest r2.
      let e = begins_with vs key us r1 in
      let s = (provider_sound version natives key us).each p rest r2 in
      giving_sound Q (kinds.Active p) rest (record { said = source.active s.said; words = ap (λ v. keyword_text k.Active ∷ v) (e ∙ s.words); means = s.means })))
  kind_sound version k.Server vs = if_few version (nat_lt servers 8) vs
  kind_sound version key vs = record { each = λ p rest is. cc }

  -- a parent, where one is said
  record ParentSays (version : Version) (kind : ClassKind) (ws : List (List ℕ)) (parent : Option ℕ) (rest : List (List ℕ)) : Type 0 where
    said : Option (List ℕ)
    words : ws ≡ part k.From said ++ rest
    says : ParentMeans names version kind said parent

  abbrev found_parent : Option ℕ → List (List ℕ) → Option ℕ × List (List ℕ)
  found_parent parent ws = (parent, ws)

  named_sound : (kind : ClassKind) (ws vs : List (List ℕ)) → ws ≡ keyword_text k.From ∷ vs → (b : Bool) → may_descend kind ≡ b → Sound (if b then next
      (class (reported names kinds_before)) (λ c. giving (Some c)) else failing BadShape) vs (λ parent rest. ParentSays versions.Two kind ws parent rest)
  named_sound kind ws vs words true may =
      let Q = λ (parent : Option ℕ) (rest : List (List ℕ)). ParentSays versions.Two kind ws parent rest in
      next_sound Q (class (reported names kinds_before)) _ vs (λ c us read.
      let s = saw_used names.classes 256 vs c us read in
      giving_sound Q (Some c) us (record { said = Some s.w; words = words ∙ ap (λ v. keyword_text k.From ∷ v) s.words; says = (refl, may, s.numbered) }))
  named_sound kind ws vs words false may = record { each = λ p rest is. cc }

  said_parent_sound : (version : Version) (kind : ClassKind) (ws vs : List (List ℕ)) → ws ≡ keyword_text k.From ∷ vs
      → Sound (said_parent (reported names kinds_before) version kind) vs (λ parent rest. ParentSays version kind ws parent rest)
  said_parent_sound versions.One kind ws vs words = record { each = λ p rest is. cc }
  said_parent_sound versions.Two kind ws vs words = named_sound kind ws vs words (may_descend kind) refl

  parent_says : (version : Version) (kind : ClassKind) (ws : List (List ℕ)) (parent : Option ℕ) (rest : List (List ℕ)) →
      optional_parent (reported names kinds_before) version kind ws ≡ Ok (parent, rest) → ParentSays version kind ws parent rest
  parent_says version kind ws parent rest is = go (take_it k.From ws)
    where
      go : Took k.From ws → ParentSays version kind ws parent rest
      go (is_there vs words there) = (said_parent_sound version kind ws vs words).each parent rest (grind arith)
      go (is_not there) =
          let same = ok_is (found_parent None ws) (parent, rest) (sym (grind arith) ∙ is) in
          record { said = None; words = ap (λ p. p.1) same; says = subst (ParentMeans names version kind None) (ap (λ p. p.0) same) tt }

  record BudgetSays (dispatched : Bool) (ws : List (List ℕ)) (n : ℕ) : Type 0 where
    said : Option (List ℕ)
    words : ws ≡ part k.Budget said
    means : BudgetMeans dispatched said n

  said_sound : (ws : List (List ℕ)) → Sound said_budget ws (λ n rest. BudgetSays true ws n)
  said_sound ws =
      let Q = λ (n : ℕ) (rest : List (List ℕ)). BudgetSays true ws n in
      next_sound Q (keyword k.Budget) _ ws (λ u vs r1. next_sound Q (number 0 4294967295) _ vs (λ n us r2. next_sound Q (nothing_more false) _ us (λ v rest r3.
      let e = saw_keyword k.Budget ws u vs r1 in
      let s = saw (number_in 0 4294967295) vs n us r2 in
      giving_sound Q n rest (record {
        said = Some s.w;
        words = e ∙ ap (λ v. keyword_text k.Budget ∷ v) (s.words ∙ ap (λ v. s.w ∷ v) (none_left false us v rest r3).0);
        means = s.says;
      }))))

  budget_sound : (owns dispatched : Bool) (ws : List (List ℕ)) → Sound (budget owns dispatched) ws (λ n rest. BudgetSays dispatched ws n)
  budget_sound owns true ws = said_sound ws
  budget_sound owns false ws =
      let Q = λ (n : ℕ) (rest : List (List ℕ)). BudgetSays false ws n in
      next_sound Q (nothing_more (not owns)) _ ws
      (λ u rest r. giving_sound Q 0 rest (record { said = None; words = (none_left (not owns) ws u rest r).0; means = refl }))

  owns_says : (owns : Bool) (ws vs : List (List ℕ)) (list : List Thing) (rest : List (List ℕ)) →
      flag k.Own ws ≡ Ok (owns, vs) → fields (reported names kinds_before) owns vs ≡ Ok (list, rest) → Part k.Own (IsList 8 (IsThing names)) [] ws list rest
  owns_says false ws vs list rest marked read =
      let same : unowned vs ≡ (list, rest) = ok_is (unowned vs) (list, rest) read in
      record { said = None; words = saw_mark k.Own ws false vs marked ∙ ap (λ p. p.1) same; says = sym (ap (λ p. p.0) same) }
  owns_says true ws vs list rest marked read =
      let s = saw (listed 8 (thing_of (reported names kinds_before))) vs list rest read in
      record {
        said = Some s.w;
        words = saw_mark k.Own ws true vs marked ∙ ap (λ v. keyword_text k.Own ∷ v) s.words;
        says = list_means 8 (thing_of (reported names kinds_before)) (IsThing names) (thing_means names kinds_before) s.w list s.says;
      }

  -- the words of a class behind its keyword, and what they mean at its place
  pub record ClassSays (version : Version) (place : ℕ) (ws : List (List ℕ)) (c : ClassDecl) : Type 0 where
    pub said : ClassText
    pub words : keyword_text k.Class ∷ ws ≡ class_words said
    pub means : ClassMeans names version natives said c
    pub placed : place_of said.name names.classes ≡ Some place

  pub class_sound : (version : Version) (place : ℕ) (ws : List (List ℕ)) →
      Sound (class_statement (reported names kinds_before) version natives place servers) ws (λ c rest. ClassSays version place ws c)
  class_sound version place ws =
      let Q = λ (c : ClassDecl) (rest : List (List ℕ)). ClassSays version place ws c in
      let scope = reported names kinds_before in
      next_sound Q (declared place names.classes) _ ws (λ u v1 r1.
      next_sound Q any_keyword _ v1 (λ key v2 r2.
      next_sound Q (kind scope version natives servers key) _ v2 (λ K v3 r3.
      next_sound Q (optional_parent scope version K) _ v3 (λ parent v3b r3b.
      next_sound Q (optional_number k.Words 8) _ v3b (λ words v4 r4.
      next_sound Q (flag k.Own) _ v4 (λ owns v5 r5.
      next_sound Q (fields scope owns) _ v5 (λ list v6 r6.
      next_sound Q (budget owns (is_dispatched K)) _ v6 (λ most v7 r7.
      let d = saw_declared names.classes place ws u v1 r1 in
      let e = begins_with v1 key v2 r2 in
      let s = (kind_sound version key v2).each K v3 r3 in
      let p = parent_says version K v3 parent v3b r3b in
      let n = saw_part k.Words (number_in 0 8) (IsNumber 0 8) 0 (λ w n is. is) v3b words v4 r4 in
      let o = owns_says owns v4 v5 list v6 r5 r6 in
      let b = (budget_sound owns (is_dispatched K) v6).each most v7 r7 in
      giving_sound Q _ v7 (record {
        said = record { name = d.w; kind = s.said; parent = p.said; words = n.said; own = o.said; budget = b.said };
        words = grind (arith, nat_tests);
        means = record { name = d.is_name; kind = s.means; parent = p.says; words = n.says; own = o.says; budget = b.means };
        placed = d.placed;
      })))))))))

-- ---- what is read

module _ {names : NameTables} {scope : Scope} (looks : LooksUp names scope) where
  own_reads : {Y : Type 0} (g : Bool → List Thing → Reading Y) (said : Option (List ℕ)) (list : List Thing) (rest : List (List ℕ)) (y : Y) →
      SaidOr (IsList 8 (IsThing names)) [] said list → NotNext k.Own rest →
      ((owns : Bool) → Whole (g owns list) rest y) → Whole (next (flag k.Own) (λ owns. next (fields scope owns) (g owns))) (part k.Own said ++ rest) y
  own_reads g None list rest y says other later = search (arith, nat_tests, Whole, says, then_reads, reads_mark)
  own_reads g (Some w) list rest y says other later = first (λ owns. next (fields scope owns) (g owns))
      (takes_flag k.Own) (first (g true) (takes_seen (list_reads 8 (thing_of scope) (IsThing names) (thing_reads looks) w list says)) (later true))

  module _ (version : Version) (natives servers : ℕ) where
    takes_provider : (said : ProviderText) (p : Provider) → ProviderMeans version natives said p →
        Takes (next any_keyword (provider version natives)) (provider_words said) p
    takes_provider source.by_itself providers.Own means = in_turn _ (takes_any_keyword k.This) (gives _)
    takes_provider source.by_timer providers.Timer means = in_turn _ (takes_any_keyword k.Timer) (gives _)
    takes_provider (source.by_native w) (providers.Native n) means =
        in_turn _ (takes_any_keyword k.Native) (in_turn _ (takes_seen (number_reads 0 15 w n means.0)) (record {
          reads = λ rest. ap (λ b. (if b then giving (providers.Native n) else failing LimitPassed) rest) (lt-ltb n natives means.1);
        }))
    takes_provider source.by_token providers.Token means = search (arith, nat_tests, in_turn, takes_any_keyword, means)
    takes_provider said p means = absurd means

    takes_kind : (said : KindText) (K : ClassKind) → KindMeans names version natives said K → (is_server_kind K ≡ true → servers < 8)
        → Takes (next any_keyword (kind scope version natives servers)) (kind_words said) K
    takes_kind source.plain kinds.Plain means few = in_turn _ (takes_any_keyword k.Plain) (gives _)
    takes_kind source.session kinds.Session means few = in_turn _ (takes_any_keyword k.Session) (gives _)
    takes_kind (source.active said) (kinds.Active p) means few =
        in_turn _ (takes_any_keyword k.Active) (made any_keyword (provider version natives) kinds.Active (takes_provider said p means))
    takes_kind (source.server class most) (kinds.Server sessions of_class) means few = search (
      arith,
      nat_tests,
      in_turn,
      takes_any_keyword,
      lt-ltb servers 8,
      takes_class looks class of_class means.0,
      takes_keyword,
      takes_seen (number_reads 1 64 most sessions means.1),
      number_reads 1 64 most sessions means.1,
      gives (kinds.Server sessions of_class),
    )
    takes_kind said K means few = absurd means

    said_reads : (w : List ℕ) (n : ℕ) → IsBudget w n → Whole said_budget (keyword_text k.Budget ∷ w ∷ []) n
    said_reads w n says = first _ (takes_keyword k.Budget) (first _ (takes_seen (number_reads 0 4294967295 w n says)) (record { reads = refl }))

    budget_reads : (dispatched : Bool) (said : Option (List ℕ)) (n : ℕ) → BudgetMeans dispatched said n → (owns : Bool) →
        Whole (budget owns dispatched) (part k.Budget said) n
    budget_reads dispatched said n means owns = grind (arith, nat_tests, said_reads, means, Whole)

    -- what stands behind the kind
    abbrev rest_of_fields : ClassKind → Option ℕ → ℕ → Bool → List Thing → Reading ClassDecl
    rest_of_fields K parent words owns list =
        next (budget owns (is_dispatched K)) (λ n. giving (record { kind = K; parent = parent; words = words; fields = list; budget = n }))

    abbrev rest_of_class : ClassKind → Option ℕ → Reading ClassDecl
    rest_of_class K parent = next (optional_number k.Words 8) (λ words. next (flag k.Own) (λ owns. next (fields scope owns) (rest_of_fields K parent words owns)))

    abbrev behind_kind : ClassKind → Reading ClassDecl
    behind_kind K = next (optional_parent scope version K) (rest_of_class K)

    said_parent_reads : (v : Version) (K : ClassKind) (w : List ℕ) (c : ℕ) → ParentMeans names v K (Some w) (Some c) → (ws : List (List ℕ)) →
        said_parent scope v K (w ∷ ws) ≡ Ok (Some c, ws)
    said_parent_reads x y w c means ws = grind (arith, nat_tests, in_turn, takes_class looks w c means.2, gives (Some c))

    parent_reads : (K : ClassKind) (said : Option (List ℕ)) (parent : Option ℕ) (ws : List (List ℕ)) →
        ParentMeans names version K said parent → NotNext k.From ws → Leaves (optional_parent scope version K) (part k.From said ++ ws) parent ws
    parent_reads x said parent ws means other = grind (arith, nat_tests, took_same, said_parent_reads, means)

    -- what stands behind the keyword
    pub class_reads : (place : ℕ) (t : ClassText) (c : ClassDecl) → ClassMeans names version natives t c →
        place_of t.name scope.classes ≡ Some place → (is_server c ≡ true → servers < 8) → Whole (class_statement scope version natives place servers)
        (t.name ∷ (kind_words t.kind ++ (part k.From t.parent ++ (part k.Words t.words ++ (part k.Own t.own ++ part k.Budget t.budget))))) c
    class_reads place t c means placed few =
        let budget_words = part k.Budget t.budget in
        let own_words = part k.Own t.own ++ budget_words in
        first _ (takes_declared scope.classes place t.name means.name placed) (
        first_two any_keyword (kind scope version natives servers) behind_kind (takes_kind t.kind c.kind means.kind few) (
        then_reads (rest_of_class c.kind) (parent_reads c.kind t.parent c.parent (part k.Words t.words ++ own_words) means.parent
        (not_part k.From k.Words t.words own_words refl (not_part k.From k.Own t.own budget_words refl (not_last k.From k.Budget t.budget refl)))) (
        then_reads _ (reads_part k.Words (number_in 0 8) (IsNumber 0 8) 0 (number_reads 0 8) t.words c.words own_words means.words
        (not_part k.Words k.Own t.own budget_words refl (not_last k.Words k.Budget t.budget refl))) (
        own_reads (rest_of_fields c.kind c.parent c.words) t.own c.fields budget_words c means.own (not_last k.Own k.Budget t.budget refl) (λ owns.
        last _ (budget_reads (is_dispatched c.kind) t.budget c.budget means.budget owns) (done _))))))
