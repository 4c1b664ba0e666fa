-- The first name that is a word, from a place on.
use Rattle.std.proofs.Common.{◌≡◌, ◌∙◌, ℕ, ◌+◌, ◌<◌, ◌≤◌, List, drop, get_or, length, Bool, true, false, if◌then◌else◌, Option, Some, None, ap}
use Rattle.std.proofs.lemmas.List.{at_drop_all, at_drop_more}
use Rattle.std.specs.Str.{bytes_eq}
use Rattle.aom_source_scripts.specs.Scripts.{number_of}
use Rattle.aom_source_scripts.specs.declared.naming.ScriptName.{ScriptName}

chosen : (b c : Bool) (x y : Option ℕ) → b ≡ c → (if b then x else y) ≡ (if c then x else y)
chosen b c x y e = ap (λ (s : Bool). if s then x else y) e

pub number_here : (names : List ScriptName) (word : List ℕ) (i : ℕ) (d : ScriptName) → i < length names → bytes_eq (get_or names i d).name.now word ≡ true
    → number_of (drop i names) word ≡ Some (get_or names i d).number
unfolding number_of
number_here names word i d within is = at_drop_more (λ ns. number_of ns word) names i d within ∙ chosen _ true _ _ is

pub number_behind : (names : List ScriptName) (word : List ℕ) (i : ℕ) (d : ScriptName) → i < length names → bytes_eq (get_or names i d).name.now word ≡ false
    → number_of (drop i names) word ≡ number_of (drop (i + 1) names) word
unfolding number_of
number_behind names word i d within is = at_drop_more (λ ns. number_of ns word) names i d within ∙ chosen _ false _ _ is

pub number_nowhere : (names : List ScriptName) (word : List ℕ) (i : ℕ) → length names ≤ i → number_of (drop i names) word ≡ None
unfolding number_of
number_nowhere names word i behind = at_drop_all (λ ns. number_of ns word) names i behind
