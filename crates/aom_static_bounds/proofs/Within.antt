-- Methods that have depths and heights keep within the limits, since what is called comes to less, and what is entered adds to its caller.
use Rattle.std.proofs.Common.{◌≡◌, ℕ, ◌≤◌, List, Some, IsSome, refl, arith}
use Rattle.aom_image.specs.Image.{Image}
use Rattle.aom_image.specs.Views.{instr_at, method_at}
use Rattle.aom_instructions.specs.declared.instr.Instr.{Instr}
use Rattle.aom_static_bounds.proofs.LinkConditionsLemmas.{of_method}
use Rattle.aom_roles.specs.Tables.{at}
use Rattle.aom_static_bounds.specs.Calls.{MayCall}
use Rattle.aom_static_bounds.specs.Depths.{Frames, HasDepths, DepthsWithin}
use Rattle.aom_static_bounds.specs.Depths.Frames.{alone, calling}
use Rattle.aom_static_bounds.specs.Heights.{Heights, AreHeights, HasHeights, HeightsWithin}
use Rattle.aom_static_bounds.specs.Heights.Heights.{own, under}

-- ---- what stands or calls is a method

pub standing : (p : Image) (m place : ℕ) (i : Instr) → instr_at p m place ≡ Some i → IsSome (method_at p m)
standing p m place i here = let w = of_method p m place i here in rw w.1 refl

pub caller : (p : Image) (m k : ℕ) → MayCall p m k → IsSome (method_at p m)
caller p m k call = standing p m call.place call.calls.instr call.calls.stands

-- ---- the limits

lowest : (p : Image) (m n : ℕ) → Frames p m n → IsSome (method_at p m)
lowest p m n (alone some) = some
lowest p m n (calling {k = k} call above) = caller p m k call

pub all_within : (p : Image) → HasDepths p → DepthsWithin p
all_within p h = record { within = λ m n frames. omega (arith, (h.are.each m (lowest p m n frames)).most n frames, h.are.within m) }

heights_most : (p : Image) (hs : List ℕ) → AreHeights p hs → (m n : ℕ) → Heights p m n → n ≤ at 0 hs m
heights_most p hs h m n (own stands) = h.own m n stands
heights_most p hs h m n (under {k = k} {h = count} {n = above} call heights) = omega (arith, h.under m k count call, heights_most p hs h k above heights)

pub all_high : (p : Image) → HasHeights p → HeightsWithin p
all_high p h = record { within = λ m n heights. omega (arith, heights_most p h.heights h.are m n heights, h.are.within m) }
