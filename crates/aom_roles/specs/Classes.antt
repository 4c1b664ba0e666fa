-- What classes own, and whose sessions they are.
use Rattle.std.specs.Prelude.{◌≡◌, ◌<◌, ℕ, Bool, true, false, List, All, Option, Some, None, IfSome, slice_get}
use Rattle.aom_image.specs.Image.{Image}
use Rattle.aom_image.specs.Views.{class_at}
use Rattle.aom_image.specs.declared.class.ClassDecl.{ClassDecl}
use Rattle.aom_image.specs.declared.class.ClassKind.{ClassKind}
use Rattle.aom_image.specs.declared.class.ClassKind.TheVariants.{Server, Session}
use Rattle.aom_image.specs.declared.method.Thing.{Thing}
use Rattle.aom_image.specs.declared.method.Thing.TheVariants.{Object, Message}

-- the class of a server's sessions
unfoldable pub sessions_of : ClassKind → Option ℕ
sessions_of (Server most c) = Some c
sessions_of _ = None

unfoldable pub is_session_kind : ClassKind → Bool
is_session_kind Session = true
is_session_kind _ = false

unfoldable pub kind_in : Option ClassDecl → Option ClassKind
kind_in None = None
kind_in (Some d) = Some d.kind

-- the kind of a class
abbrev pub kind_at : Image → ℕ → Option ClassKind
kind_at p c = kind_in (class_at p c)

unfoldable pub is_session_in : Option ClassKind → Bool
is_session_in None = false
is_session_in (Some k) = is_session_kind k

-- whether the objects of a class are sessions
abbrev pub is_session : Image → ℕ → Bool
is_session p c = is_session_in (kind_at p c)

unfoldable pub sessions_in : Option ClassKind → Option ℕ
sessions_in None = None
sessions_in (Some k) = sessions_of k

-- the class of the sessions of a class
abbrev pub sessions_at : Image → ℕ → Option ℕ
sessions_at p c = sessions_in (kind_at p c)

-- what a class owns is of a class before it, and no session
abbrev pub OwnsBefore : Image → ℕ → Thing → Type 0
OwnsBefore p c (Object d) = (d < c) × (is_session p d ≡ false)
OwnsBefore p c Message = Unit {0}

-- its sessions are of a session class before it
abbrev pub SessionsBefore : Image → ℕ → ClassKind → Type 0
SessionsBefore p c k = IfSome (sessions_of k) (λ s. (s < c) × (is_session p s ≡ true))

-- its parent comes before it
abbrev pub ParentBefore : ℕ → ClassDecl → Type 0
ParentBefore c d = IfSome d.parent (λ e. e < c)

-- what a class names comes before it
pub record ClassOrdered (p : Image) (c : ℕ) (d : ClassDecl) : Type 0 where
  pub fields : All (OwnsBefore p c) d.fields
  pub sessions : SessionsBefore p c d.kind
  pub parent : ParentBefore c d

abbrev pub EachOrdered : Image → List ClassDecl → Type 0
EachOrdered p classes = (c : ℕ) → IfSome (slice_get classes c) (ClassOrdered p c)

-- the root is no session
abbrev pub RootOrdered : Image → Type 0
RootOrdered p = IfSome p.header.root (λ c. is_session p c ≡ false)

-- the root, where it is a session; none where it may be the root
abbrev pub SessionRoot : Image → Option ℕ → Type 0
SessionRoot p None = RootOrdered p
SessionRoot p (Some c) = (p.header.root ≡ Some c) × (is_session p c ≡ true)

-- each class names classes before it, and sessions only where they may be
pub record ClassesOrdered (p : Image) : Type 0 where
  pub classes : EachOrdered p p.classes
  pub root : RootOrdered p
