-- Entries that are kept as nodes: what stands stays as nodes are added, and one node more is one entry more.
use Rattle.std.proofs.Common.{◌≡◌, ℕ, zero, suc, ◌<◌, ◌-◌, ◌&&◌, true, List, [], ◌∷◌, ◌++◌, length, length-append, slice_get, Some, refl, ap, ◌∙◌, arith}
use Rattle.aom_abstract_state.specs.Entries.{made_ready_at, made_ready_entry, without_top}
use Rattle.aom_abstract_state.specs.EntryStacks.{AllThere, Extends, Stands, entries_of, listed, node_at}
use Rattle.aom_abstract_state.specs.Tests.{same_entries, same_entry}
use Rattle.aom_abstract_state.specs.declared.kind.CleanupEntry.{CleanupEntry}
use Rattle.aom_abstract_state.specs.declared.entry_stacks.Node.{Node}
use Rattle.aom_abstract_state.specs.declared.entry_stacks.EntryStack.{EntryStack}
use Rattle.aom_abstract_state.proofs.Ordering.{entries_self}

before_last : (nodes : List Node) (x : Node) (i : ℕ) → i < length nodes → node_at (nodes ++ x ∷ []) i ≡ node_at nodes i
before_last [] x i h = absurd (omega arith)
before_last (n ∷ ns) x zero h = refl
before_last (n ∷ ns) x (suc i) h = before_last ns x i (omega arith)

at_last : (nodes : List Node) (x : Node) → node_at (nodes ++ x ∷ []) (length nodes) ≡ x
at_last [] x = refl
at_last (n ∷ ns) x = at_last ns x

still_there : (n : ℕ) (nodes : List Node) (x : Node) (top : ℕ) → AllThere n nodes top → AllThere n (nodes ++ x ∷ []) top
still_there zero nodes x top h = tt
still_there (suc n) nodes x top h = (
  omega (arith, h.0, length-append nodes (x ∷ [])),
  rw (before_last nodes x top h.0) (still_there n nodes x (node_at nodes top).below h.1),
)

still_listed : (n : ℕ) (nodes : List Node) (x : Node) (top : ℕ) → AllThere n nodes top → listed n (nodes ++ x ∷ []) top ≡ listed n nodes top
still_listed zero nodes x top h = refl
still_listed (suc n) nodes x top h = rw (before_last nodes x top h.0, still_listed n nodes x (node_at nodes top).below h.1)

pub extends_push : (nodes : List Node) (x : Node) → Extends nodes (nodes ++ x ∷ [])
extends_push nodes x = record {
  stands = λ entry_stack h. still_there entry_stack.height nodes x entry_stack.top h;
  same = λ entry_stack h. still_listed entry_stack.height nodes x entry_stack.top h;
}

pub extends_self : (nodes : List Node) → Extends nodes nodes
extends_self nodes = record { stands = λ entry_stack h. h; same = λ entry_stack h. refl }

pub extends_along : (a b c : List Node) → Extends a b → Extends b c → Extends a c
extends_along a b c h k = record {
  stands = λ entry_stack s. k.stands entry_stack (h.stands entry_stack s);
  same = λ entry_stack s. k.same entry_stack (h.stands entry_stack s) ∙ h.same entry_stack s;
}

-- the pile with one more node on top
pub pushed_stands : (nodes : List Node) (entry_stack : EntryStack) (e : CleanupEntry) → Stands nodes entry_stack →
    AllThere (suc entry_stack.height) (nodes ++ record { entry = e; below = entry_stack.top } ∷ []) (length nodes)
pushed_stands nodes entry_stack e h =
    let x : Node = record { entry = e; below = entry_stack.top } in (
      omega (arith, length-append nodes (x ∷ [])),
      rw (at_last nodes x) (still_there entry_stack.height nodes x entry_stack.top h),
    )

pub pushed_entries : (nodes : List Node) (entry_stack : EntryStack) (e : CleanupEntry) →
    Stands nodes entry_stack → listed (suc entry_stack.height) (nodes ++ record { entry = e; below = entry_stack.top } ∷ []) (length nodes) ≡ e ∷ entries_of nodes entry_stack
pushed_entries nodes entry_stack e h =
    let x : Node = record { entry = e; below = entry_stack.top } in
    rw (at_last nodes x, still_listed entry_stack.height nodes x entry_stack.top h)

pub length_listed : (n : ℕ) (nodes : List Node) (top : ℕ) → length (listed n nodes top) ≡ n
length_listed zero nodes top = refl
length_listed (suc n) nodes top = ap suc (length_listed n nodes (node_at nodes top).below)

-- what is below the last entry
pub entry_below : (nodes : List Node) (top h n : ℕ) → 0 < h → 0 < n →
    slice_get (listed h nodes top) n ≡ slice_get (listed (h - 1) nodes (node_at nodes top).below) (n - 1)
entry_below nodes top (suc h) (suc n) some more =
    let e : suc h - 1 ≡ h = omega arith in
    let f : suc n - 1 ≡ n = omega arith in
    rw (e, f) refl
entry_below nodes top _ n some more = absurd (omega arith)

pub entry_first : (nodes : List Node) (top h n : ℕ) → 0 < h → n ≡ 0 → slice_get (listed h nodes top) n ≡ Some (node_at nodes top).entry
entry_first nodes top zero n some none = absurd (omega arith)
entry_first nodes top (suc h) n some none = rw none refl

pub same_below : (a b : List Node) (x y h : ℕ) → 0 < h → same_entries (listed h a x) (listed h b y)
    ≡ (same_entry (node_at a x).entry (node_at b y).entry && same_entries (listed (h - 1) a (node_at a x).below) (listed (h - 1) b (node_at b y).below))
same_below a b x y zero some = absurd (omega arith)
same_below a b x y (suc h) some = let e : suc h - 1 ≡ h = omega arith in rw e refl

-- from one node on all is the same
pub same_from : (n : ℕ) (a b : List Node) (x y : ℕ) → a ≡ b → x ≡ y → same_entries (listed n a x) (listed n b y) ≡ true
same_from n a b x y e f = rw (e, f) (entries_self (listed n b y))

pub none_below : (nodes : List Node) (top h : ℕ) → 0 < h → listed (h - 1) nodes (node_at nodes top).below ≡ without_top (listed h nodes top)
none_below nodes top zero some = absurd (omega arith)
none_below nodes top (suc h) some = let e : suc h - 1 ≡ h = omega arith in rw e refl

pub below_there : (nodes : List Node) (top h : ℕ) → 0 < h → AllThere h nodes top → AllThere (h - 1) nodes (node_at nodes top).below
below_there nodes top zero some there = absurd (omega arith)
below_there nodes top (suc h) some there = let e : suc h - 1 ≡ h = omega arith in rw e there.1

pub made_ready_here : (nodes : List Node) (top h n : ℕ) → 0 < h → n ≡ 0 →
    made_ready_at (listed h nodes top) n ≡ made_ready_entry (node_at nodes top).entry ∷ without_top (listed h nodes top)
made_ready_here nodes top zero n some none = absurd (omega arith)
made_ready_here nodes top (suc h) n some none = rw none refl

pub made_ready_below : (nodes : List Node) (top h n : ℕ) → 0 < h → 0 < n →
    made_ready_at (listed h nodes top) n ≡ (node_at nodes top).entry ∷ made_ready_at (without_top (listed h nodes top)) (n - 1)
made_ready_below nodes top (suc h) (suc n) some more = let f : suc n - 1 ≡ n = omega arith in rw f refl
made_ready_below nodes top _ n some more = absurd (omega arith)
