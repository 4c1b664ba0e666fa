-- What waits for a production's symbols completes as trees of these symbols do.
use Rattle.std.proofs.Common.{ℕ, List, [], ◌∷◌, ◌++◌, ◌≡◌, ◌+◌, ◌∙◌, refl, sym, ap, subst, map, length, length-append, append_assoc, add-zero, arith, Some}
use Rattle.aom_source_syntax.specs.declared.item.Item.{Item}
use Rattle.aom_source_syntax.specs.declared.stack.Waiting.{Waiting}
use Rattle.aom_source_syntax.specs.declared.symbol.Class.{Class}
use Rattle.aom_source_syntax.specs.declared.symbol.Part.{Part}
use Rattle.aom_source_syntax.specs.declared.symbol.Symbol.{Symbol}
use Rattle.aom_source_syntax.specs.declared.symbol.Symbol.TheVariants as s
use Rattle.aom_source_syntax.specs.Grammar.{rule}
use Rattle.aom_source_syntax.specs.Programs.{Trees, None_more, Token_of, Item_of, Part_of, symbols_of, tokens_of, items_of, class_at, Fits}
use Rattle.aom_source_syntax.specs.Reading.{waiting, Completes}

-- what waits completes from one number as from an equal one
pub moved : (ws : List Waiting) (text : List Class) (i j : ℕ) (more : List Item) → i ≡ j → Completes ws text i more → Completes ws text j more
moved ws text i j more e h = let P : ℕ → Type 0 = λ k. Completes ws text k more in subst P e h

pub expands : (tree : Trees) (text : List Class) (from at : ℕ) (ws : List Waiting) (more : List Item) → Fits tree text at
    → Completes ws text (at + length (tokens_of tree)) more → Completes (map (waiting from) (symbols_of tree) ++ ws) text at (items_of tree from at ++ more)
expands None_more text from at ws more fits rest = moved ws text (at + 0) at more (add-zero at) rest
expands (Token_of class others) text from at ws more fits rest = (
  fits.0,
  expands others text from (at + 1) ws more fits.1
      (moved ws text (at + length (class ∷ tokens_of others)) ((at + 1) + length (tokens_of others)) more (omega arith) rest),
)
expands (Item_of action others) text from at ws more fits rest =
    (items_of others from at ++ more, refl, expands others text from at ws more fits rest)
expands (Part_of part inner others) text from at ws more fits rest = (
  inner,
  items_of others from (at + length (tokens_of inner)) ++ more,
  fits.0,
  fits.1,
  append_assoc (items_of inner at at) (items_of others from (at + length (tokens_of inner))) more,
  expands others text from (at + length (tokens_of inner)) ws more fits.2
      (moved ws text (at + length (tokens_of inner ++ tokens_of others)) ((at + length (tokens_of inner)) + length (tokens_of others)) more
      (omega (arith, length-append (tokens_of inner) (tokens_of others))) rest),
)

pub record Gathered (symbols : List Symbol) (text : List Class) (from at : ℕ) (ws : List Waiting) (items : List Item) : Type 0 where
  pub tree : Trees
  pub more : List Item
  pub has : symbols_of tree ≡ symbols
  pub fits : Fits tree text at
  pub joins : items ≡ items_of tree from at ++ more
  pub rest : Completes ws text (at + length (tokens_of tree)) more

pub gathers : (symbols : List Symbol) (text : List Class) (from at : ℕ) (ws : List Waiting) (items : List Item)
    → Completes (map (waiting from) symbols ++ ws) text at items → Gathered symbols text from at ws items
gathers [] text from at ws items h =
    record { tree = None_more; more = items; has = refl; fits = tt; joins = refl; rest = moved ws text at (at + 0) items (sym (add-zero at)) h }
gathers (s.Token class ∷ symbols) text from at ws items h =
    let g : Gathered symbols text from (at + 1) ws items = gathers symbols text from (at + 1) ws items h.1 in
    record {
      tree = Token_of class g.tree;
      more = g.more;
      has = ap (λ (ss : List Symbol). s.Token class ∷ ss) g.has;
      fits = (h.0, g.fits);
      joins = g.joins;
      rest = moved ws text ((at + 1) + length (tokens_of g.tree)) (at + length (class ∷ tokens_of g.tree)) g.more (omega arith) g.rest;
    }
gathers (s.Action action ∷ symbols) text from at ws items h =
    let g : Gathered symbols text from at ws h.0 = gathers symbols text from at ws h.0 h.2 in
    record {
      tree = Item_of action g.tree;
      more = g.more;
      has = ap (λ (ss : List Symbol). s.Action action ∷ ss) g.has;
      fits = g.fits;
      joins = h.1 ∙ ap (λ (is : List Item). record { action = action; token = from } ∷ is) g.joins;
      rest = g.rest;
    }
gathers (s.Part part ∷ symbols) text from at ws items h =
    let g : Gathered symbols text from (at + length (tokens_of h.0)) ws h.1 = gathers symbols text from (at + length (tokens_of h.0)) ws h.1 h.5 in
    record {
      tree = Part_of part h.0 g.tree;
      more = g.more;
      has = ap (λ (ss : List Symbol). s.Part part ∷ ss) g.has;
      fits = (h.2, h.3, g.fits);
      joins = h.4 ∙ ap (λ (is : List Item). items_of h.0 at at ++ is) g.joins
          ∙ sym (append_assoc (items_of h.0 at at) (items_of g.tree from (at + length (tokens_of h.0))) g.more);
      rest = moved ws text ((at + length (tokens_of h.0)) + length (tokens_of g.tree)) (at + length (tokens_of h.0 ++ tokens_of g.tree)) g.more
          (omega (arith, length-append (tokens_of h.0) (tokens_of g.tree))) g.rest;
    }

-- a part that waits completes as the symbols do that are chosen for it
pub chosen_on : (part : Part) (symbols : List Symbol) (text : List Class) (from at : ℕ) (ws : List Waiting) (items : List Item)
    → rule part (class_at text at) (class_at text (at + 1)) ≡ Some symbols → Completes (waiting from (s.Part part) ∷ ws) text at items
    → Completes (map (waiting at) symbols ++ ws) text at items
chosen_on part symbols text from at ws items chosen h =
    let same : symbols_of h.0 ≡ symbols = cc (h.2, chosen) in
    let P : List Symbol → Type 0 = λ ss. Completes (map (waiting at) ss ++ ws) text at items in
    let Q : List Item → Type 0 = λ is. Completes (map (waiting at) (symbols_of h.0) ++ ws) text at is in
    subst P same (subst Q (sym h.4) (expands h.0 text at at ws h.1 h.3 h.5))

pub chosen_back : (part : Part) (symbols : List Symbol) (text : List Class) (from at : ℕ) (ws : List Waiting) (items : List Item)
    → rule part (class_at text at) (class_at text (at + 1)) ≡ Some symbols → Completes (map (waiting at) symbols ++ ws) text at items
    → Completes (waiting from (s.Part part) ∷ ws) text at items
chosen_back part symbols text from at ws items chosen h =
    let g : Gathered symbols text at at ws items = gathers symbols text at at ws items h in
    (g.tree, g.more, chosen ∙ ap (λ (ss : List Symbol). Some ss) (sym g.has), g.fits, g.joins, g.rest)
