-- What a native answers counts only where it is heard.
use Rattle.std.proofs.lemmas.Bool.Decides.{nat_tests}
use Rattle.std.proofs.Common.{List, None, Option, Some, ap, arith, false, refl, ℕ, ℤ, ◌∷◌, ◌≡◌}
use Rattle.aom_image.specs.Image.{Image}
use Rattle.aom_image.specs.Views.{instr_at, class_at}
use Rattle.aom_instructions.specs.declared.instr.Instr.{Instr}
use Rattle.std.proofs.lemmas.Bool.{and_right}
use Rattle.aom_determinism.proofs.SafetyLemmas.{by_exchange}
use Rattle.aom_semantics.specs.NativeCall.{exchange_at}
use Rattle.aom_semantics.specs.Requests.{receiver_kind, thing_kind}
use Rattle.aom_semantics.specs.Moves.{counted, step, step_instr, step_task}
use Rattle.aom_semantics.specs.State.{Choice, Frame, Run, State, Task}
use Rattle.aom_determinism.proofs.Needs.{kind_kept}
use Rattle.aom_determinism.specs.Observing.{HasNoNative, observes, is_observed}
use Rattle.aom_determinism.specs.Names.{renamed_tasks}
use Rattle.aom_image.specs.declared.method.Thing.{Thing}
use Rattle.std.specs.Prelude.{length, slice_get}
use Rattle.aom_image.specs.declared.class.ClassDecl.{ClassDecl}
use Rattle.aom_determinism.proofs.LinkConditionsLemmas.{all_there}
use Rattle.aom_image.specs.WellFormed.{ClassFits, WellFormed}
use Rattle.aom_roles.specs.Kinds.{is_native_kind}
use Rattle.aom_roles.specs.Classes.{kind_in}
use Rattle.aom_roles.specs.Shapes.{kind_of}

-- where no native serves a class, a request begins the same whatever one would answer
module _ (p : Image) (c : Choice) (answer : ℤ) where
  abbrev other : Choice
  other = record c { answer = answer }

  instr_unobserved : (fr : Frame) (ts : List Task) (s : State) (i : Option Instr) → observes (receiver_kind p fr.receiver) (exchange_at i) ≡ false →
      step_instr p other fr ts s i ≡ step_instr p c fr ts s i
  instr_unobserved fr ts s x h = grind (arith, nat_tests, by_exchange)

  task_unobserved : (s : State) (ts : List Task) → is_observed p ts ≡ false → step_task p other s ts ≡ step_task p c s ts
  task_unobserved s x h = grind (arith, nat_tests, instr_unobserved)

  pub step_unobserved : (s : State) → is_observed p s.tasks ≡ false → step p other s ≡ step p c s
  step_unobserved s h = task_unobserved (counted p s) s.tasks h

-- a native is heard under other names too
pub observed_kept : (p : Image) (names : ℕ → ℕ) (ts : List Task) → is_observed p (renamed_tasks names ts) ≡ is_observed p ts
observed_kept p names (Run fr ∷ ts) = ap (λ k. observes k (exchange_at (instr_at p fr.method fr.place))) (kind_kept names p fr.receiver)
observed_kept p names _ = refl

module _ (p : Image) (natives : HasNoNative p) where
  pub thing_unserved : (t : Thing) → is_native_kind (thing_kind p t) ≡ false
  thing_unserved x = grind arith

  -- where there is no native none is heard
  pub none_observed : (ts : List Task) → is_observed p ts ≡ false
  none_observed x = grind (arith, nat_tests, and_right)

-- a class of an image without natives has none
class_unserved : (p : Image) (c : ClassDecl) → p.header.natives ≡ 0 → ClassFits p.header.version (length p.classes) p.header.natives c →
    is_native_kind (Some c.kind) ≡ false
class_unserved p c none fits = grind (arith, nat_tests)

pub unnamed_unserved : (p : Image) → WellFormed p → p.header.natives ≡ 0 → HasNoNative p
unfolding kind_of kind_in class_at
unnamed_unserved p formed none = record { none = go }
  where
    there : (o : Option ClassDecl) (c : ℕ) → slice_get p.classes c ≡ o → is_native_kind (kind_in o) ≡ false
    there None c is = refl
    there (Some d) c is = class_unserved p d none (all_there (ClassFits p.header.version (length p.classes) p.header.natives) p.classes c d formed.classes.each is)

    go : (class : Option ℕ) → is_native_kind (kind_of p class) ≡ false
    go x = grind (arith, nat_tests, there)
