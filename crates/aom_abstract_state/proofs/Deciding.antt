-- The tests on kinds and fillings decide the order, and the meet of two kinds is the strongest below both.
use Rattle.std.proofs.Common.{◌≡◌, true, ◌&&◌, refl, arith}
use Rattle.aom_image.specs.declared.method.Thing.{Thing}
use Rattle.aom_roles.specs.Things.{same_thing}
use Rattle.aom_abstract_state.specs.Order.{Weaker, WeakerFilling}
use Rattle.aom_abstract_state.specs.Order.Weaker.{alike, unset_word, unset_null, maybe_null, maybe_own}
use Rattle.aom_abstract_state.specs.Order.WeakerFilling.{alike_filling, perhaps_empty, perhaps_full}
use Rattle.aom_abstract_state.specs.Tests.{same_init_state, same_message_state, implied, implied_field_state}
use Rattle.aom_abstract_state.specs.declared.kind.InitState.{InitState}
use Rattle.aom_abstract_state.specs.declared.kind.MessageState.{MessageState}
use Rattle.aom_abstract_state.specs.declared.kind.Kind.{Kind}
use Rattle.aom_abstract_state.specs.declared.kind.Kind.TheVariants.{Unset, Word, Null, Own, Maybe}
use Rattle.aom_abstract_state.specs.declared.kind.FieldState.{FieldState}
use Rattle.aom_abstract_state.specs.declared.kind.FieldState.TheVariants.{Empty, Full, Perhaps}

pub thing_is : (t u : Thing) → same_thing t u ≡ true → t ≡ u
thing_is t u h = grind arith

pub delivery_is : (a b : MessageState) → same_message_state a b ≡ true → a ≡ b
delivery_is a b h = grind arith

pub delivery_self : (a : MessageState) → same_message_state a a ≡ true
delivery_self a = grind arith

object_self : (t : Thing) (a : InitState) → (same_thing t t && same_init_state a a) ≡ true
object_self t a = grind arith

pub no_more_self : (k : Kind) → implied k k ≡ true
no_more_self k = grind arith

-- the test is true where the first kind says no more
pub weaker_tests : (a b : Kind) → Weaker a b → implied a b ≡ true
weaker_tests a b (alike {k = k}) = no_more_self a
weaker_tests a b unset_word = refl
weaker_tests a b unset_null = refl
weaker_tests a b (maybe_null {t = t} {a = age}) = refl
weaker_tests a b (maybe_own {t = t} {a = age}) = object_self t age

-- and only there
pub same_own : (t u : Thing) (a b : InitState) → (same_thing t u && same_init_state a b) ≡ true → (t ≡ u) × (a ≡ b)
same_own t u a b h = grind arith

pub weaker_tested : (a b : Kind) → implied a b ≡ true → Weaker a b
weaker_tested Unset Unset h = alike
weaker_tested Unset Word h = unset_word
weaker_tested Unset Null h = unset_null
weaker_tested (Own u b) (Own t a) h = let s = same_own u t b a h in rw (s.0, s.1) alike
weaker_tested Word Word h = alike
weaker_tested Null Null h = alike
weaker_tested (Maybe u b) Null h = maybe_null
weaker_tested (Maybe u b) (Own t a) h = let s = same_own u t b a h in rw (s.0, s.1) maybe_own
weaker_tested (Maybe u b) (Maybe t a) h = let s = same_own u t b a h in rw (s.0, s.1) alike
weaker_tested _ _ h = absurd cc

pub fillings_test : (x y : FieldState) → WeakerFilling x y → implied_field_state x y ≡ true
fillings_test Empty y (alike_filling {x = x}) = refl
fillings_test Full y (alike_filling {x = x}) = refl
fillings_test Perhaps y (alike_filling {x = x}) = refl
fillings_test x y perhaps_empty = refl
fillings_test x y perhaps_full = refl

pub fillings_tested : (x y : FieldState) → implied_field_state x y ≡ true → WeakerFilling x y
fillings_tested Empty Empty h = alike_filling
fillings_tested Full Full h = alike_filling
fillings_tested Perhaps Empty h = perhaps_empty
fillings_tested Perhaps Full h = perhaps_full
fillings_tested Perhaps Perhaps h = alike_filling
fillings_tested _ _ h = absurd cc

-- the order is transitive
pub weaker_along : (a b c : Kind) → Weaker a b → Weaker b c → Weaker a c
weaker_along a b c (alike {k = k}) h = h
weaker_along a b c unset_word (alike {k = k}) = unset_word
weaker_along a b c unset_null (alike {k = k}) = unset_null
weaker_along a b c (maybe_null {t = t} {a = age}) (alike {k = k}) = maybe_null
weaker_along a b c (maybe_own {t = t} {a = age}) (alike {k = k}) = maybe_own

pub fillings_along : (x y z : FieldState) → WeakerFilling x y → WeakerFilling y z → WeakerFilling x z
fillings_along x y z (alike_filling {x = f}) h = h
fillings_along x y z perhaps_empty (alike_filling {x = f}) = perhaps_empty
fillings_along x y z perhaps_full (alike_filling {x = f}) = perhaps_full
