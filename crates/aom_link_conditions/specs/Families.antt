-- What a class has of its parent.
use Rattle.std.specs.Prelude.{◌≡◌, ◌≤◌, ℕ, List, All, Some, IfSome, slice_get}
use Rattle.aom_image.specs.Image.{Image}
use Rattle.aom_image.specs.Views.{class_at}
use Rattle.aom_image.specs.declared.class.ClassDecl.{ClassDecl}

-- a list begins with what another has
abbrev pub BeginsWith : {X : Type 0} → List X → List X → Type 0
BeginsWith xs first = (i : ℕ) → IfSome (slice_get first i) (λ x. slice_get xs i ≡ Some x)

-- a class is of another's kind, and has its words and its fields, and perhaps more
pub record Continues (c e : ClassDecl) : Type 0 where
  pub kind : c.kind ≡ e.kind
  pub words : e.words ≤ c.words
  pub fields : BeginsWith c.fields e.fields

-- what is asked of a class that has a parent
abbrev pub ContinuesParent : Image → ClassDecl → Type 0
ContinuesParent p c = IfSome c.parent (λ e. IfSome (class_at p e) (Continues c))

-- each class continues its parent
abbrev pub AllContinue : Image → Type 0
AllContinue p = All (ContinuesParent p) p.classes
