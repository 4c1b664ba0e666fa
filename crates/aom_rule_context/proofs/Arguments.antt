-- The arguments of a call, one after the other.
use Rattle.std.proofs.Common.{◌≡◌, ℕ, suc, true, false, nat_lt, cond, ◌+◌, ◌<◌, ◌≤◌, List, ◌∷◌, ◌++◌, length}
use Rattle.std.proofs.Common.{slice_get, Some, None, drop, inl, inr, sym, ap, ◌∙◌, Ok, Err, arith}
use Rattle.std.proofs.lemmas.Bool.{le-leb, lt-leb, lt-ltb, le-ltb}
use Rattle.std.proofs.lemmas.Option.{slice_get_within}
use Rattle.std.proofs.lemmas.Bool.Decides.{leb_tells}
use Rattle.std.proofs.Math.ListN.{drop_of_length-le}
use Rattle.std.specs.Prelude.{slice_index_or}
use Rattle.aom_image.specs.Image.{Image}
use Rattle.aom_image.specs.declared.method.Argument.{Argument}
use Rattle.aom_typing_rules.specs.Calls.{argument_needs, each_argument, rule_arguments}
use Rattle.aom_abstract_state.specs.Kinds.{register}
use Rattle.aom_abstract_state.specs.Needs.{tested}
use Rattle.aom_abstract_state.specs.AbstractState.{AbstractState}
use Rattle.aom_abstract_state.specs.declared.why.Reason.{Reason}
use Rattle.aom_abstract_state.specs.declared.why.Reason.TheVariants.{RegisterKind}
use Rattle.aom_abstract_state.specs.declared.kind.CleanupEntry.{CleanupEntry}
use Rattle.aom_abstract_state.specs.declared.kind.CleanupEntry.TheVariants.{Operation}
use Rattle.aom_roles.specs.Tables.{at}
use Rattle.aom_rule_context.proofs.AbstractStateLemmas.{after, failed_first, one_on, passed_first, split}

-- one more is as it is declared, or is not
needs_one : (p : Image) (sh : AbstractState) (xs : List Argument) (first i : ℕ) (x : Argument) → i < length xs → x ≡ slice_index_or xs i x →
    each_argument p sh (drop i xs) (first + i) ≡ argument_needs p x (register sh (first + i)) ++ each_argument p sh (drop (i + 1) xs) (first + (i + 1))
needs_one p sh xs first i x within e =
    ap (λ (l : List Argument). each_argument p sh l (first + i)) (split xs i x within e ∙ ap (λ (l : List Argument). x ∷ l) (one_on xs i))
    ∙ ap (λ (k : ℕ). argument_needs p x (register sh (first + i)) ++ each_argument p sh (drop (i + 1) xs) k) (after first i)

pub needs_passed : (p : Image) (sh : AbstractState) (xs : List Argument) (first i : ℕ) (x : Argument) (u : Unit {0}) →
    i < length xs → x ≡ slice_index_or xs i x → tested (argument_needs p x (register sh (first + i))) ≡ Ok u →
    tested (each_argument p sh (drop i xs) (first + i)) ≡ tested (each_argument p sh (drop (i + 1) xs) (first + (i + 1)))
needs_passed p sh xs first i x u within e passed = ap tested (needs_one p sh xs first i x within e)
    ∙ passed_first (argument_needs p x (register sh (first + i))) (each_argument p sh (drop (i + 1) xs) (first + (i + 1))) tt u tt passed

pub needs_failed : (p : Image) (sh : AbstractState) (xs : List Argument) (first i : ℕ) (x : Argument) (w : Reason) → i < length xs →
    x ≡ slice_index_or xs i x → tested (argument_needs p x (register sh (first + i))) ≡ Err w → tested (each_argument p sh (drop i xs) (first + i)) ≡ Err w
needs_failed p sh xs first i x w within e failed = ap tested (needs_one p sh xs first i x within e)
    ∙ failed_first (argument_needs p x (register sh (first + i))) (each_argument p sh (drop (i + 1) xs) (first + (i + 1))) tt tt w failed

pub needs_done : (p : Image) (sh : AbstractState) (xs : List Argument) (i n : ℕ) → length xs ≤ i → tested (each_argument p sh (drop i xs) n) ≡ Ok tt
needs_done p sh xs i n ended = ap (λ (l : List Argument). tested (each_argument p sh l n)) (drop_of_length-le xs ended)

-- the last argument is within the registers, or past them
pub rule_within : (p : Image) (sh : AbstractState) (xs : List Argument) (first : ℕ) → first + length xs ≤ 16 →
    tested (rule_arguments p sh xs first) ≡ tested (each_argument p sh xs first)
rule_within p sh xs first h = ap (λ b. cond b (tested (each_argument p sh xs first)) (Err RegisterKind)) (le-leb (first + length xs) 16 h)

pub rule_past : (p : Image) (sh : AbstractState) (xs : List Argument) (first : ℕ) → 16 < first + length xs → tested (rule_arguments p sh xs first) ≡ Err RegisterKind
rule_past p sh xs first h = ap (λ b. cond b (tested (each_argument p sh xs first)) (Err RegisterKind)) (lt-leb (first + length xs) 16 h)

pub arguments_fit : (p : Image) (sh : AbstractState) (xs : List Argument) (first : ℕ) (u : Unit {0}) → tested (rule_arguments p sh xs first) ≡ Ok u → first + length xs ≤ 16
arguments_fit p sh xs first u e = elim (leb_tells (first + length xs) 16) [
  | inl w ↦ w.1
  | inr w ↦ let clash : Err RegisterKind ≡ Ok u = sym (rule_past p sh xs first w.1) ∙ e in absurd cc
]

-- the entry of a number, where there is one
pub entry_there : (es : List CleanupEntry) (k : ℕ) (x : CleanupEntry) → slice_get es k ≡ Some x → (nat_lt k (length es) ≡ true) × (at Operation es k ≡ x)
entry_there es k x e = (lt-ltb k (length es) (slice_get_within es k x e), found es k x e)
  where
    found : (es : List CleanupEntry) (k : ℕ) (x : CleanupEntry) → slice_get es k ≡ Some x → at Operation es k ≡ x
    found (y ∷ ys) (suc k) x e = found ys k x e
    found _ _ x e = cc

pub entry_missing : (es : List CleanupEntry) (k : ℕ) → slice_get es k ≡ None → nat_lt k (length es) ≡ false
entry_missing es k e = elim (leb_tells (length es) k) [
  | inl w ↦ le-ltb k (length es) w.1
  | inr w ↦ absurd (there es k w.1 e)
]
  where
    there : (es : List CleanupEntry) (k : ℕ) → k < length es → slice_get es k ≡ None → ⊥
    there (y ∷ ys) (suc k) h e = there ys k (omega arith) e
    there _ k h e = first_of (cc, omega arith)
