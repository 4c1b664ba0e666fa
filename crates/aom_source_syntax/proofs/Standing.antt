-- Each step of the reader keeps where it stands, and what it refuses no program begins with.
use Rattle.std.proofs.Common.{ℕ, List, [], ◌∷◌, ◌++◌, ◌≡◌, ◌+◌, ◌<◌, ◌≤◌, ◌∙◌, refl, sym, ap, subst, map, length, append_assoc, zero-add, arith, below_more, Option, Some, None, slice_get, get_or, inl, inr}
use Rattle.std.proofs.lemmas.List.{append-nil}
use Rattle.std.proofs.lemmas.Option.{slice_get_past, slice_get-get_or, slice_get_within, get_or_from_slice_get}
use Rattle.std.proofs.lemmas.List.Sums.{fold_more}
use Rattle.aom_source_syntax.specs.declared.declarations.DeclarationPart.TheVariants as d
use Rattle.aom_source_syntax.specs.declared.fault.SyntaxFault.{SyntaxFault}
use Rattle.aom_source_syntax.specs.declared.fault.SyntaxFaultKind.{SyntaxFaultKind}
use Rattle.aom_source_syntax.specs.declared.fault.SyntaxFaultKind.TheVariants as f
use Rattle.aom_source_syntax.specs.declared.item.Action.{Action}
use Rattle.aom_source_syntax.specs.declared.item.Item.{Item}
use Rattle.aom_source_syntax.specs.declared.stack.Waiting.{Waiting}
use Rattle.aom_source_syntax.specs.declared.symbol.Class.{Class}
use Rattle.aom_source_syntax.specs.declared.symbol.Class.TheVariants as c
use Rattle.aom_source_syntax.specs.declared.symbol.Part.{Part}
use Rattle.aom_source_syntax.specs.declared.symbol.Symbol.{Symbol}
use Rattle.aom_source_syntax.specs.declared.symbol.Symbol.TheVariants as s
use Rattle.aom_source_syntax.specs.Grammar.{rule, declaration}
use Rattle.aom_source_syntax.specs.Programs.{symbols_of, tokens_of, items_of, class_at, or_end, IsProgram, Agree, depth_at, depth_behind}
use Rattle.aom_source_syntax.specs.Reading.{waiting, After, Completes, Splits, Stands, expecting, NoProgram, Refuses, RefusesAs, RefusesNoProgram, IsRefused, IsShallow, Mismatch}
use Rattle.aom_source_syntax.proofs.Trees.{Gathered, expands, gathers, chosen_on, chosen_back}

pub agrees_class : (text other : List Class) (many k : ℕ) → Agree many text other → k < many → class_at text k ≡ class_at other k
agrees_class text other many k agree lt = ap or_end (agree.at k lt)

pub agrees_fewer : (text other : List Class) (many few : ℕ) → few ≤ many → Agree many text other → Agree few text other
agrees_fewer text other many few le agree = record { at = λ k lt. agree.at k (omega arith) }

pub agrees_self : (text : List Class) (many : ℕ) → Agree many text text
agrees_self text many = record { at = λ k lt. refl }

-- two stacks complete alike for each text that begins as this one
pub record Same (text : List Class) (old new : List Waiting) (at : ℕ) : Type 0 where
  pub on : (other : List Class) → Agree (at + 2) text other → (more : List Item) → Completes old other at more → Completes new other at more
  pub back : (other : List Class) → Agree (at + 2) text other → (more : List Item) → Completes new other at more → Completes old other at more

pub stands_same : (text : List Class) (items : List Item) (old new : List Waiting) (at : ℕ) → Same text old new at → Stands text items old at → Stands text items new at
stands_same text items old new at same h = record {
  leads = λ other agree. record {
    on = λ all p.
        let x : Splits other all items old at = (h.leads other agree).on all p in
        record { more = x.more; joins = x.joins; completes = same.on other agree x.more x.completes };
    back = λ more completes. (h.leads other agree).back more (same.back other agree more completes);
  };
}

pub stands_token : (text : List Class) (items : List Item) (w : Waiting) (ws : List Waiting) (at : ℕ) (class : Class) → w.symbol ≡ s.Token class
    → Stands text items (w ∷ ws) at → Stands text items (expecting (Some class) ws) at
stands_token text items w ws at class is h = stands_same text items (w ∷ ws) (expecting (Some class) ws) at
    (record {
      on = λ other agree more done. let P : Symbol → Type 0 = λ x. After x w.token other at (Completes ws other) more in subst P is done;
      back = λ other agree more done. let P : Symbol → Type 0 = λ x. After x w.token other at (Completes ws other) more in subst P (sym is) done;
    })
    h

pub stands_part : (text : List Class) (items : List Item) (w : Waiting) (ws : List Waiting) (at : ℕ) (part : Part) (symbols : List Symbol) → w.symbol ≡ s.Part part
    → rule part (class_at text at) (class_at text (at + 1)) ≡ Some symbols
    → Stands text items (w ∷ ws) at → Stands text items (map (waiting at) symbols ++ ws) at
stands_part text items w ws at part symbols is chosen h =
    let there : (other : List Class) → Agree (at + 2) text other → rule part (class_at other at) (class_at other (at + 1)) ≡ Some symbols
    = λ other agree.
    ap (λ (x : Class). rule part x (class_at other (at + 1))) (sym (agrees_class text other (at + 2) at agree (omega arith)))
    ∙ ap (λ (x : Class). rule part (class_at text at) x) (sym (agrees_class text other (at + 2) (at + 1) agree (omega arith))) ∙ chosen in
    stands_same text items (w ∷ ws) (map (waiting at) symbols ++ ws) at
    (record {
      on = λ other agree more done.
          let P : Symbol → Type 0 = λ x. After x w.token other at (Completes ws other) more in
          chosen_on part symbols other w.token at ws more (there other agree) (subst P is done);
      back = λ other agree more done.
          let P : Symbol → Type 0 = λ x. After x w.token other at (Completes ws other) more in
          subst P (sym is) (chosen_back part symbols other w.token at ws more (there other agree) done);
    })
    h

pub stands_item : (text : List Class) (items : List Item) (w : Waiting) (ws : List Waiting) (at : ℕ) (action : Action) → w.symbol ≡ s.Action action
    → Stands text items (w ∷ ws) at → Stands text (items ++ record { action = action; token = w.token } ∷ []) ws at
stands_item text items w ws at action is h = record {
  leads = λ other agree. record {
    on = λ all p.
        let x : Splits other all items (w ∷ ws) at = (h.leads other agree).on all p in
        let P : Symbol → Type 0 = λ y. After y w.token other at (Completes ws other) x.more in
        let done : After (s.Action action) w.token other at (Completes ws other) x.more = subst P is x.completes in
        record {
          more = done.0;
          joins = x.joins ∙ ap (λ (ms : List Item). items ++ ms) done.1 ∙ sym (append_assoc items (record { action = action; token = w.token } ∷ []) done.0);
          completes = done.2;
        };
    back = λ more completes.
        let Q : List Item → Type 0 = λ all. IsProgram other all in
        let P : Symbol → Type 0 = λ y. After y w.token other at (Completes ws other) (record { action = action; token = w.token } ∷ more) in
        subst Q (sym (append_assoc items (record { action = action; token = w.token } ∷ []) more))
        ((h.leads other agree).back (record { action = action; token = w.token } ∷ more) (subst P (sym is) (more, refl, completes)));
  };
}

pub stands_passed : (text : List Class) (items : List Item) (ws : List Waiting) (at : ℕ) (class : Class) → slice_get text at ≡ Some class
    → Stands text items (expecting (Some class) ws) at → Stands text items ws (at + 1)
stands_passed text items ws at class found h = record {
  leads = λ other agree.
      let fewer : Agree (at + 2) text other = agrees_fewer text other ((at + 1) + 2) (at + 2) (omega arith) agree in
      record {
        on = λ all p.
            let x : Splits other all items (expecting (Some class) ws) at = (h.leads other fewer).on all p in
            record { more = x.more; joins = x.joins; completes = x.completes.1 };
        back = λ more completes. (h.leads other fewer).back more (sym (fewer.at at (omega arith)) ∙ found, completes);
      };
}

pub stands_first : (text : List Class) → Stands text [] (waiting 0 (declaration d.Program) ∷ []) 0
stands_first text = record {
  leads = λ other agree. record {
    on = λ all p. record {
      more = all;
      joins = refl;
      completes =
          let P : List Item → Type 0 = λ is. Completes (waiting 0 (declaration d.Program) ∷ []) other 0 is in
          let Q : List Symbol → Type 0 = λ ss. Completes (map (waiting 0) ss ++ []) other 0 (items_of p.tree 0 0 ++ []) in
          subst P (append-nil (items_of p.tree 0 0) ∙ sym p.has)
          (subst Q p.root (expands p.tree other 0 0 [] [] p.fits (zero-add (length (tokens_of p.tree)) ∙ p.whole, refl)));
    };
    back = λ more completes.
        let g : Gathered (declaration d.Program ∷ []) other 0 0 [] more = gathers (declaration d.Program ∷ []) other 0 0 [] more completes in
        record {
          tree = g.tree;
          root = g.has;
          fits = g.fits;
          whole = sym (zero-add (length (tokens_of g.tree))) ∙ g.rest.0;
          has = g.joins ∙ ap (λ (is : List Item). items_of g.tree 0 0 ++ is) g.rest.1 ∙ append-nil (items_of g.tree 0 0);
        };
  };
}

-- at the end of the text
pub program_at_end : (text : List Class) (items : List Item) (at : ℕ) → at ≡ length text → Stands text items [] at → IsProgram text items
program_at_end text items at whole h =
    let P : List Item → Type 0 = λ is. IsProgram text is in
    subst P (append-nil items) ((h.leads text (agrees_self text (at + 2))).back [] (whole, refl))

pub none_before_end : (text : List Class) (items : List Item) (at : ℕ) → at < length text → Stands text items [] at → NoProgram text at
none_before_end text items at lt h = record {
  none = λ other agree all p.
      let x : Splits other all items [] at = (h.leads other agree).on all p in
      let past : slice_get other at ≡ None = slice_get_past other at (omega (arith, x.completes.0)) in
      let here : slice_get text at ≡ Some (get_or text at c.End) = slice_get-get_or text at c.End lt in
      let same : slice_get text at ≡ slice_get other at = agree.at at (omega arith) in
      let differ : None ≡ Some (get_or text at c.End) = sym past ∙ sym same ∙ here in
      cc differ;
}

pub none_at_token : (text : List Class) (items : List Item) (ws : List Waiting) (at : ℕ) (class : Class) → (slice_get text at ≡ Some class → ⊥)
    → Stands text items (expecting (Some class) ws) at → NoProgram text at
none_at_token text items ws at class other_here h = record {
  none = λ other agree all p.
      let x : Splits other all items (expecting (Some class) ws) at = (h.leads other agree).on all p in
      other_here (agree.at at (omega arith) ∙ x.completes.0);
}

pub none_at_part : (text : List Class) (items : List Item) (w : Waiting) (ws : List Waiting) (at : ℕ) (part : Part) → w.symbol ≡ s.Part part
    → rule part (class_at text at) (class_at text (at + 1)) ≡ None → Stands text items (w ∷ ws) at → NoProgram text at
none_at_part text items w ws at part is none h = record {
  none = λ other agree all p.
      let x : Splits other all items (w ∷ ws) at = (h.leads other agree).on all p in
      let P : Symbol → Type 0 = λ y. After y w.token other at (Completes ws other) x.more in
      let done : After (s.Part part) w.token other at (Completes ws other) x.more = subst P is x.completes in
      let there : rule part (class_at other at) (class_at other (at + 1)) ≡ None
      = ap (λ (y : Class). rule part y (class_at other (at + 1))) (sym (agrees_class text other (at + 2) at agree (omega arith)))
      ∙ ap (λ (y : Class). rule part (class_at text at) y) (sym (agrees_class text other (at + 2) (at + 1) agree (omega arith))) ∙ none in
      let differ : None ≡ Some (symbols_of done.0) = sym there ∙ done.2 in
      cc differ;
}

pub stands_as : (text : List Class) (old new : List Item) (before after : List Waiting) (at : ℕ) → new ≡ old → after ≡ before → Stands text old before at → Stands text new after at
stands_as text old new before after at items stack h =
    let P : List Item → Type 0 = λ x. Stands text x after at in
    let Q : List Waiting → Type 0 = λ x. Stands text old x at in
    subst P (sym items) (subst Q (sym stack) h)

-- what refuses a part that waits refuses the text
pub refuses_part : (text : List Class) (items : List Item) (w : Waiting) (ws : List Waiting) (at : ℕ) (part : Part) (fault : SyntaxFault) → w.symbol ≡ s.Part part
    → Stands text items (w ∷ ws) at → IsRefused text at part fault → Refuses text fault
refuses_part text items w ws at part fault is h refused =
    let P : SyntaxFault → Type 0 = λ x. Refuses text x in
    elim refused [
      | inl none ↦ subst P (sym none.0) (none_at_part text items w ws at part is none.1 h, none.1)
      | inr full ↦ subst P (sym full) tt
    ]

pub depth_next : (text : List Class) (at : ℕ) (class : Class) → slice_get text at ≡ Some class → depth_at text (at + 1) ≡ depth_behind (depth_at text at) class
depth_next text at class found =
    let within : at < length text = slice_get_within text at class found in
    fold_more depth_behind 0 text at class within ∙ ap (λ (x : Class). depth_behind (depth_at text at) x) (get_or_from_slice_get text at class class found)

pub refuses_kind : (text : List Class) (items : List Item) (ws : List Waiting) (at depth : ℕ) (class : Class) (kind : SyntaxFaultKind) → depth ≡ depth_at text at
    → ((k : ℕ) → k < at + 1 → depth_at text k ≤ 64) → Stands text items (expecting (Some class) ws) at → Mismatch text at depth class kind → RefusesAs text at kind
refuses_kind text items ws at depth class (f.Token expected) same below h m =
    (none_at_token text items ws at class m.1 h, inr (λ found. m.1 (found ∙ ap (λ (x : Class). Some x) m.0)))
refuses_kind text items ws at depth class (f.Part part) same below h m = absurd m
refuses_kind text items ws at depth class f.TooDeep same below h m =
    (slice_get_within text at class m.0, omega (arith, m.1, depth_next text at class m.0, ap (λ (n : ℕ). depth_behind n class) same), below)
refuses_kind text items ws at depth class f.OutOfMemory same below h m = absurd m

-- what refuses a token that is expected refuses the text
pub refuses_token : (text : List Class) (items : List Item) (ws : List Waiting) (at depth : ℕ) (class : Class) (fault : SyntaxFault) → depth ≡ depth_at text at
    → ((k : ℕ) → k < at + 1 → depth_at text k ≤ 64) → fault.token ≡ at → Stands text items (expecting (Some class) ws) at → Mismatch text at depth class fault.kind → Refuses text fault
refuses_token text items ws at depth class fault same below token h m =
    let P : ℕ → Type 0 = λ n. RefusesAs text n fault.kind in
    subst P (sym token) (refuses_kind text items ws at depth class fault.kind same below h m)

pub stands_expecting : (text : List Class) (items : List Item) (ws : List Waiting) (at : ℕ) (old new : Option Class) → old ≡ new → Stands text items (expecting old ws) at
    → Stands text items (expecting new ws) at
stands_expecting text items ws at old new is h = let P : Option Class → Type 0 = λ x. Stands text items (expecting x ws) at in subst P is h

pub stands_at : (text : List Class) (items : List Item) (ws : List Waiting) (i j : ℕ) → i ≡ j → Stands text items ws i → Stands text items ws j
stands_at text items ws i j is h = let P : ℕ → Type 0 = λ x. Stands text items ws x in subst P is h

pub shallow_next : (text : List Class) (old new : ℕ) → new ≡ old + 1 → depth_at text new ≤ 64 → ((k : ℕ) → k < old + 1 → depth_at text k ≤ 64)
    → (k : ℕ) → k < new + 1 → depth_at text k ≤ 64
shallow_next text old new more here below =
    let P : ℕ → Type 0 = λ k. depth_at text k ≤ 64 in
    let Q : ℕ → Type 0 = λ n. (k : ℕ) → k < n + 1 → depth_at text k ≤ 64 in
    subst Q (sym more) (below_more P (old + 1) below (subst P more here))

-- a text that a fault refuses is no program, or too deep
pub refuses_kind_programs : (text : List Class) (at : ℕ) (kind : SyntaxFaultKind) → RefusesAs text at kind → (items : List Item) → IsProgram text items → IsShallow text
    → kind ≡ f.OutOfMemory
refuses_kind_programs text at (f.Token class) h items program shallow = absurd (h.0.none text (agrees_self text (at + 2)) items program)
refuses_kind_programs text at (f.Part part) h items program shallow = absurd (h.0.none text (agrees_self text (at + 2)) items program)
refuses_kind_programs text at f.TooDeep h items program shallow = absurd (omega (arith, h.0, h.1, shallow.at (at + 1) (omega (arith, h.0))))
refuses_kind_programs text at f.OutOfMemory h items program shallow = refl

pub refuses_programs : (text : List Class) (fault : SyntaxFault) → Refuses text fault → RefusesNoProgram text fault
refuses_programs text fault h = refuses_kind_programs text fault.token fault.kind h
