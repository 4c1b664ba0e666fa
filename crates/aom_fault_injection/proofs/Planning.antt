-- What is planned, by its parts; each injection is one that a script can say.
use Rattle.std.proofs.Common.{◌≡◌, ◌∙◌, ◌≤◌, ◌<◌, ◌+◌, ◌^◌, ℕ, min, Bool, true, false, List, [], ◌∷◌, ◌++◌, Option, Some}
use Rattle.std.proofs.Common.{None, map, length, take, drop, refl, sym, ap, subst, arith, append-nil, append_assoc}
use Rattle.std.specs.Prelude.{is_some, filter}
use Rattle.std.specs.List.{All, flat_map}
use Rattle.std.proofs.lemmas.List.{take_all, drop_all}
use Rattle.std.proofs.lemmas.List.Elements.{All-append, All-filter, All-map, All-nil, All-take, All-weaker}
use Rattle.aom_transcript.specs.declared.event.TimedEvent.{TimedEvent}
use Rattle.aom_fault_injection.specs.Injections.{CanInject, IsKillTarget}
use Rattle.aom_fault_injection.specs.Planned.{AreTimes, Grows, below, clients_among, deaths_of, first_of, is_named, natives_among}
use Rattle.aom_fault_injection.specs.Planned.{pairs_of, pairs_with, part_of, last_request, planned, some_pairs, victims_of}
use Rattle.aom_fault_injection.specs.declared.injection.Injection.{Injection}
use Rattle.aom_fault_injection.specs.declared.injection.Injection.TheVariants.{Refusal, Pair, Death}
use Rattle.aom_fault_injection.specs.declared.injection.KillTarget.{KillTarget}
use Rattle.aom_fault_injection.specs.declared.injection.KillTarget.TheVariants.{Native, Client}
use Rattle.aom_fault_injection.specs.declared.tries.Part.{Part}
use Rattle.aom_fault_injection.specs.declared.tries.Tries.{Tries}
use Rattle.aom_fault_injection.proofs.Numbers.{all_of_each, below_none, below_step, below_within}

-- ---- pairs, as they are added

-- those of one request were added
pub grown_on : (done more rest all new : List Injection) (most : ℕ) (left : Option Injection) →
    is_some left ≡ false → Grows done more most new left → done ++ (more ++ rest) ≡ all → (new ++ rest ≡ all) × (length new ≤ most)
grown_on done more rest all new most None none grows far = (ap (λ xs. xs ++ rest) grows.0 ∙ append_assoc done more rest ∙ far, grows.1)
grown_on done more rest all new most (Some left) none grows far = let no : true ≡ false = none in absurd cc

-- or not all of them
pub grown_full : (done more rest all new : List Injection) (most : ℕ) (left : Option Injection) →
    is_some left ≡ true → Grows done more most new left → done ++ (more ++ rest) ≡ all → Grows [] all most new left
grown_full done more rest all new most None some grows far = let no : false ≡ true = some in absurd cc
grown_full done more rest all new most (Some left) some grows far =
    (grows.0, (grows.1.0 ++ rest, sym far ∙ sym (append_assoc done more rest) ∙ ap (λ xs. xs ++ rest) grows.1.1 ∙ append_assoc new (left ∷ grows.1.0) rest))

-- the pairs of the request at hand, and those of the others
pub pairs_step : (last number end : ℕ) → number < end →
    flat_map (pairs_with last) (below number end) ≡ pairs_with last number ++ flat_map (pairs_with last) (below (number + 1) end)
pairs_step last number end within = ap (flat_map (pairs_with last)) (below_step number end within)

pub pairs_end : (done all : List Injection) (last number end most : ℕ) → end ≤ number → length done ≤ most →
    done ++ flat_map (pairs_with last) (below number end) ≡ all → Grows [] all most done None
pairs_end done all last number end most past few far =
    (sym (append-nil done) ∙ ap (λ xs. done ++ flat_map (pairs_with last) xs) (sym (below_none number end past)) ∙ far, few)

front : {A : Type 0} (xs ys : List A) → (take (length xs) (xs ++ ys) ≡ xs) × (drop (length xs) (xs ++ ys) ≡ ys)
front [] ys = (refl, refl)
front (x ∷ xs) ys = let rest = front xs ys in (ap (λ zs. x ∷ zs) rest.0, rest.1)

-- what was added is the first so many, and what is left begins with that one
pub grown_is : (all new : List Injection) (most : ℕ) (left : Option Injection) → Grows [] all most new left →
    (new ≡ take most all) × (left ≡ first_of (drop most all))
grown_is all new most None grows =
    let few : length all ≤ most = subst (λ xs. length xs ≤ most) grows.0 grows.1 in
    (grows.0 ∙ sym (take_all most all few), ap first_of (sym (drop_all most all few)))
grown_is all new most (Some left) grows =
    let later = left ∷ grows.1.0 in
    let both = front new later in (
      sym both.0 ∙ ap (λ n. take n (new ++ later)) grows.0 ∙ ap (take most) (sym grows.1.1),
      ap first_of (sym both.1 ∙ ap (λ n. drop n (new ++ later)) grows.0 ∙ ap (drop most) (sym grows.1.1)),
    )

-- ---- each can be injected

natives_can : (kills : Bool) (natives : ℕ) → All IsKillTarget (natives_among kills natives)
natives_can true natives = All-map IsKillTarget Native (below 0 (min natives 16))
    (All-weaker (λ n. n < min natives 16) (λ n. n < 16) (λ n below. omega (arith, below)) (below 0 (min natives 16)) (below_within (min natives 16)))
natives_can false natives = All-nil IsKillTarget

clients_can : (deaths : Bool) (timed : List TimedEvent) → All IsKillTarget (clients_among deaths timed)
clients_can true timed = All-map IsKillTarget Client (filter (is_named timed) (below 0 64)) (All-filter (is_named timed) (λ n. n < 64) (below 0 64) (below_within 64))
clients_can false timed = All-nil IsKillTarget

deaths_can : (times : List ℕ) (victims : List KillTarget) → AreTimes times → All IsKillTarget victims → All CanInject (deaths_of times victims)
deaths_can times victims are all = all_of_each (λ t. t ≤ 10 ^ 15) CanInject (λ t. map (Death t) victims)
    (λ t is. All-map CanInject (Death t) victims (All-weaker IsKillTarget (λ v. CanInject (Death t v)) (λ v can. (is, can)) victims all)) times are

always : {A : Type 0} (xs : List A) → All (λ x. Unit {0}) xs
always xs = λ k d within. tt

pairs_can : (part : Part) (requests : ℕ) → All CanInject (pairs_of part requests)
pairs_can part requests =
    let last = last_request requests in
    all_of_each (λ n. Unit {0}) CanInject (pairs_with last) (λ n _. All-map CanInject (Pair n) (below (n + 1) (last + 1)) (always (below (n + 1) (last + 1))))
    (part_of part requests) (always (part_of part requests))

some_can : (most : Option ℕ) (pairs : List Injection) → All CanInject pairs → All CanInject (some_pairs most pairs)
some_can None pairs all = All-nil CanInject
some_can (Some most) pairs all = All-take CanInject most pairs all

pub planned_can : (tries : Tries) (natives : ℕ) (timed : List TimedEvent) (requests : ℕ) (times : List ℕ) → AreTimes times →
    All CanInject (planned tries natives timed requests times)
planned_can tries natives timed requests times are =
    let refusals = map Refusal (part_of tries.part requests) in
    let victims = victims_of tries natives timed in
    let pairs = pairs_of tries.part requests in
    All-append CanInject (refusals ++ deaths_of times victims) (some_pairs tries.pairs pairs)
    (All-append CanInject refusals (deaths_of times victims) (All-map CanInject Refusal (part_of tries.part requests) (always (part_of tries.part requests)))
    (deaths_can times victims are (All-append IsKillTarget (natives_among tries.kills natives) (clients_among tries.deaths timed) (natives_can tries.kills natives)
    (clients_can tries.deaths timed)))) (some_can tries.pairs pairs (pairs_can tries.part requests))
