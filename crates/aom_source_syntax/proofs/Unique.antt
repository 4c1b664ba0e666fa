-- Trees of the same symbols that fit a text at the same place are one.
use Rattle.std.proofs.Common.{ℕ, List, ◌≡◌, ◌+◌, ◌∙◌, refl, sym, ap, subst, length, Some, Result, Ok, Err}
use Rattle.std.specs.Prelude.{IfOk, IfErr}
use Rattle.aom_source_syntax.specs.declared.fault.SyntaxFault.{SyntaxFault}
use Rattle.aom_source_syntax.proofs.Standing.{refuses_programs}
use Rattle.aom_source_syntax.specs.declared.item.Item.{Item}
use Rattle.aom_source_syntax.specs.declared.item.Action.{Action}
use Rattle.aom_source_syntax.specs.declared.symbol.Class.{Class}
use Rattle.aom_source_syntax.specs.declared.symbol.Part.{Part}
use Rattle.aom_source_syntax.specs.Grammar.{rule}
use Rattle.aom_source_syntax.specs.Programs.{Trees, None_more, Token_of, Item_of, Part_of, symbols_of, tokens_of, items_of, class_at, Fits, IsProgram}
use Rattle.aom_source_syntax.specs.Reading.{OneTree, OneProgram, IsOnlyProgram, Refuses, RefusesNoProgram}

pub one_tree : (one two : Trees) (text : List Class) (at : ℕ) → symbols_of one ≡ symbols_of two → Fits one text at → Fits two text at → one ≡ two
one_tree None_more None_more text at same x y = refl
one_tree None_more (Token_of class others) text at same x y = cc same
one_tree None_more (Item_of action others) text at same x y = cc same
one_tree None_more (Part_of part inner others) text at same x y = cc same
one_tree (Token_of class others) None_more text at same x y = cc same
one_tree (Token_of class others) (Item_of action more) text at same x y = cc same
one_tree (Token_of class others) (Part_of part inner more) text at same x y = cc same
one_tree (Token_of class others) (Token_of other more) text at same x y =
    let head : class ≡ other = cc same in
    let rest : others ≡ more = one_tree others more text (at + 1) (cc same) x.1 y.1 in
    ap (λ (c : Class). Token_of c others) head ∙ ap (λ (t : Trees). Token_of other t) rest
one_tree (Item_of action others) None_more text at same x y = cc same
one_tree (Item_of action others) (Token_of class more) text at same x y = cc same
one_tree (Item_of action others) (Part_of part inner more) text at same x y = cc same
one_tree (Item_of action others) (Item_of other more) text at same x y =
    let head : action ≡ other = cc same in
    let rest : others ≡ more = one_tree others more text at (cc same) x y in
    ap (λ (a : Action). Item_of a others) head ∙ ap (λ (t : Trees). Item_of other t) rest
one_tree (Part_of part inner others) None_more text at same x y = cc same
one_tree (Part_of part inner others) (Token_of class more) text at same x y = cc same
one_tree (Part_of part inner others) (Item_of action more) text at same x y = cc same
one_tree (Part_of part inner others) (Part_of other within more) text at same x y =
    let head : part ≡ other = cc same in
    let chosen : rule part (class_at text at) (class_at text (at + 1)) ≡ Some (symbols_of within)
    = ap (λ (p : Part). rule p (class_at text at) (class_at text (at + 1))) head ∙ y.0 in
    let insides : inner ≡ within = one_tree inner within text at (cc (x.0, chosen)) x.1 y.1 in
    let P : Trees → Type 0 = λ t. Fits more text (at + length (tokens_of t)) in
    let rest : others ≡ more = one_tree others more text (at + length (tokens_of inner)) (cc same) x.2 (subst P (sym insides) y.2) in
    ap (λ (p : Part). Part_of p inner others) head ∙ ap (λ (t : Trees). Part_of other t others) insides ∙ ap (λ (t : Trees). Part_of other within t) rest

pub one_root : OneTree
one_root = λ text one two root other x y. one_tree one two text 0 (root ∙ sym other) x y

pub one_list : OneProgram
one_list = λ text one two p q. p.has ∙ ap (λ (t : Trees). items_of t 0 0) (one_root text p.tree q.tree p.root q.root p.fits q.fits) ∙ sym q.has

pub if_program : {A : Type 0} (text : List Class) (seen : A → List Item) (r : Result A SyntaxFault) → IfOk r (λ v. IsProgram text (seen v)) → IfOk r (λ v. IsOnlyProgram text (seen v))
if_program text seen (Ok v) h = λ others other. one_list text others (seen v) other h
if_program text seen (Err fault) h = h

pub if_refused : {A : Type 0} (text : List Class) (r : Result A SyntaxFault) → IfErr r (λ x. Refuses text x) → IfErr r (λ x. RefusesNoProgram text x)
if_refused text (Ok v) h = h
if_refused text (Err fault) h = refuses_programs text fault h
