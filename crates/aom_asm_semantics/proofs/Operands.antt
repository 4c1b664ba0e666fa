-- What is read with some names is read with others that find as much: the operands of instructions.
use Rattle.std.proofs.lemmas.Bool.Decides.{nat_tests}
use Rattle.std.proofs.Common.{arith, ◌≡◌, ℕ, List, Ok, ap, ◌∙◌}
use Rattle.aom_instructions.specs.declared.kinds.LargeKind.{LargeKind}
use Rattle.aom_instructions.specs.declared.kinds.OperandOrder.{OperandOrder}
use Rattle.aom_instructions.specs.declared.kinds.OperandOrder.TheVariants.{LargeLast, LargeSecond}
use Rattle.aom_instructions.specs.declared.mnemonic.Mnemonic.{Mnemonic}
use Rattle.aom_instructions.specs.declared.operand.Large.{Large}
use Rattle.aom_instructions.specs.declared.operand.Small.{Small}
use Rattle.aom_syntax.specs.Names.{place_of, referred}
use Rattle.aom_syntax.specs.Operands.{class, label, method, used}
use Rattle.aom_syntax.specs.Reading.{◌>>=◌, Reading, name, next}
use Rattle.aom_syntax.specs.Words.{in_order, large_operand, words_operands}
use Rattle.aom_syntax.specs.declared.scope.Scope.{Scope}
use Rattle.aom_asm_semantics.proofs.SyntaxLemmas.{steps}

-- whatever one reading gives, another gives too
pub record Follows {X : Type 0} (r t : Reading X) : Type 0 where
  pub each : (ws : List (List ℕ)) (x : X) (rest : List (List ℕ)) → r ws ≡ Ok (x, rest) → t ws ≡ Ok (x, rest)

same : {X : Type 0} (r : Reading X) → Follows r r
same r = record { each = λ ws x rest is. is }

follows : {A B : Type 0} (a : Reading A) (b : A → Reading B) (c : Reading A) (d : A → Reading B) → Follows a c → ((x : A) → Follows (b x) (d x)) →
    Follows (next a b) (next c d)
follows a b c d first later = record {
  each = λ ws y rest is.
      let s = steps (a ws) (λ x. b x.0 x.1) (y, rest) is in
      ap (λ e. e >>= λ x. d x.0 x.1) (first.each ws s.first.0 s.first.1 s.read) ∙ (later s.first.0).each s.first.1 y rest s.second;
}

-- every number that is found with some names is found with others
pub record FindsMore (limit : ℕ) (strict loose : Scope) (names others : List (List ℕ)) : Type 0 where
  pub finds : (w : List ℕ) (n : ℕ) → referred strict.is_strict limit (place_of w names) ≡ Ok n → referred loose.is_strict limit (place_of w others) ≡ Ok n

used_follows : (limit : ℕ) (strict loose : Scope) (names others : List (List ℕ)) → FindsMore limit strict loose names others
    → Follows (used strict.is_strict limit names) (used loose.is_strict limit others)
used_follows limit strict loose names others more = record {
  each = λ ws n rest is.
      let s = steps (name ws) (λ x. referred strict.is_strict limit (place_of x.0 names) >>= λ y. Ok (y, x.1)) (n, rest) is in
      let t = steps (referred strict.is_strict limit (place_of s.first.0 names)) (λ y. Ok (y, s.first.1)) (n, rest) s.second in
      ap (λ e. e >>= λ x. referred loose.is_strict limit (place_of x.0 others) >>= λ y. Ok (y, x.1)) s.read
      ∙ ap (λ e. e >>= λ y. Ok (y, s.first.1)) (more.finds s.first.0 t.first t.read) ∙ t.second;
}

module _ (strict loose : Scope) (labels : List (List ℕ)) (classes : FindsMore 256 strict loose strict.classes loose.classes)
    (methods : FindsMore 1024 strict loose strict.methods loose.methods) (places : FindsMore 1024 strict loose labels labels) where
  class_follows : Follows (class strict) (class loose)
  class_follows = used_follows 256 strict loose strict.classes loose.classes classes

  method_follows : Follows (method strict) (method loose)
  method_follows = used_follows 1024 strict loose strict.methods loose.methods methods

  label_follows : Follows (label strict labels) (label loose labels)
  label_follows = used_follows 1024 strict loose labels labels places

  -- by what stands before the name, and behind it
  only : {A X : Type 0} {a c : Reading A} (f : A → Reading X) → Follows a c → Follows (next a f) (next c f)
  only {a = a} {c = c} f first = follows a f c f first (λ x. same (f x))

  behind : {A X : Type 0} (r : Reading A) (b d : A → Reading X) → ((x : A) → Follows (b x) (d x)) → Follows (next r b) (next r d)
  behind r b d later = follows r b r d (same r) later

  -- large operands alone are found by name
  large_follows : (k : LargeKind) → Follows (large_operand strict labels k) (large_operand loose labels k)
  large_follows x = grind (arith, nat_tests, only, label_follows, class_follows, method_follows, same)

  order_follows : (o : OperandOrder) (first second third : Reading Small) {fourth other : Reading Large} →
      Follows fourth other → Follows (in_order o first second third fourth) (in_order o first second third other)
  order_follows LargeLast first second third more = behind first _ _ (λ a. behind second _ _ (λ b. behind third _ _ (λ c. only _ more)))
  order_follows LargeSecond first second third more = behind first _ _ (λ a. only _ more)

  pub operands_follow : (mnemonic : Mnemonic) → Follows (words_operands strict labels mnemonic) (words_operands loose labels mnemonic)
  operands_follow mnemonic = grind (arith, nat_tests, only, order_follows, large_follows)
