use Rattle.std.proofs.Common.{rules, ap, refl, w32}
use Rattle.std.specs.Prelude.{FitsSigned}
use Rattle.std.proofs.lemmas.Int.{to_z-of_z}
use Rattle.aom_machine.specs.NativeCall.{as_wanted}
use Rattle.aom_run.proofs.Stepped.{asked_alone, asked_to_start}
use Rattle.aom_run.proofs.asking.call.Goals as goal

pub returns-in-Start-clause-after : goal.returns-in-Start-clause-after
returns-in-Start-clause-after g c =
    let fits : FitsSigned w32 c.start.result = search rules in
    rw (to_z-of_z w32 c.start.result fits) (asked_to_start (λ l. l.ids) _ _ _ _ _ _ _ _
    (ap as_wanted c.in-Start.is) c.requires.fits c.start.ensures.taken c.start.ensures.refused c.start.ensures.alive c.start.ensures.others)

pub open-requires-clause-agree : goal.open-requires-clause-agree
open-requires-clause-agree g c = c.requires.agree

pub start-requires-clause-agree : goal.start-requires-clause-agree
start-requires-clause-agree g c = c.requires.agree

pub call-requires-clause-agree : goal.call-requires-clause-agree
call-requires-clause-agree g c = c.requires.agree

pub cancel-requires-clause-agree : goal.cancel-requires-clause-agree
cancel-requires-clause-agree g c = c.requires.agree

pub close-requires-clause-agree : goal.close-requires-clause-agree
close-requires-clause-agree g c = c.requires.agree

pub open-requires-clause-alive : goal.open-requires-clause-alive
open-requires-clause-alive g c = rw c.in-Open.is at c.requires.fits

pub returns-in-Open-clause-agree : goal.returns-in-Open-clause-agree
returns-in-Open-clause-agree g c = c.open.ensures.agree

pub start-requires-clause-alive : goal.start-requires-clause-alive
start-requires-clause-alive g c = let fits = rw c.in-Start.is at c.requires.fits in fits.0

pub returns-in-Start-clause-agree : goal.returns-in-Start-clause-agree
returns-in-Start-clause-agree g c = c.start.ensures.agree

pub call-requires-clause-alive : goal.call-requires-clause-alive
call-requires-clause-alive g c = rw c.in-Ask.is at c.requires.fits

pub returns-in-Ask-clause-agree : goal.returns-in-Ask-clause-agree
returns-in-Ask-clause-agree g c = c.call.ensures.agree

pub cancel-requires-clause-alive : goal.cancel-requires-clause-alive
cancel-requires-clause-alive g c = let fits = rw c.in-Cancel.is at c.requires.fits in fits.0

pub returns-in-Cancel-clause-agree : goal.returns-in-Cancel-clause-agree
returns-in-Cancel-clause-agree g c = c.cancel.ensures.agree

pub close-requires-clause-alive : goal.close-requires-clause-alive
close-requires-clause-alive g c = let fits = rw c.in-Close.is at c.requires.fits in fits.0

pub returns-in-Close-clause-agree : goal.returns-in-Close-clause-agree
returns-in-Close-clause-agree g c = c.close.ensures.agree

pub returns-in-Open-clause-after : goal.returns-in-Open-clause-after
returns-in-Open-clause-after g c =
    let alive = rw c.in-Open.is at c.requires.fits in
    rw c.in-Open.is (asked_alone (λ l. l.ids) _ _ _ c.in-Open.id _ _ refl (λ k m before. refl) c.open.ensures.ids alive c.open.ensures.alive c.open.ensures.others)

pub returns-in-Ask-clause-after : goal.returns-in-Ask-clause-after
returns-in-Ask-clause-after g c =
    let alive = rw c.in-Ask.is at c.requires.fits in
    rw c.in-Ask.is (asked_alone (λ l. l.ids) _ _ _ c.in-Ask.id _ _ refl (λ k m before. refl) c.call.ensures.ids alive c.call.ensures.alive c.call.ensures.others)

pub returns-in-Close-clause-after : goal.returns-in-Close-clause-after
returns-in-Close-clause-after g c =
    let fits = rw c.in-Close.is at c.requires.fits in
    rw c.in-Close.is
    (asked_alone (λ l. l.ids) _ _ _ c.in-Close.id _ _ refl (λ k m before. refl) c.close.ensures.ids fits.0 c.close.ensures.alive c.close.ensures.others)

pub start-requires-clause-fresh : goal.start-requires-clause-fresh
start-requires-clause-fresh g c = let fits = rw c.in-Start.is at c.requires.fits in fits.1

pub start-requires-clause-room : goal.start-requires-clause-room
start-requires-clause-room g c = let fits = rw c.in-Start.is at c.requires.fits in fits.2

pub cancel-requires-clause-owed : goal.cancel-requires-clause-owed
cancel-requires-clause-owed g c = let fits = rw c.in-Cancel.is at c.requires.fits in fits.1

pub close-requires-clause-fresh : goal.close-requires-clause-fresh
close-requires-clause-fresh g c = let fits = rw c.in-Close.is at c.requires.fits in fits.1

pub returns-in-Open-clause-answer : goal.returns-in-Open-clause-answer
returns-in-Open-clause-answer g c =
    let fits : FitsSigned w32 c.open.result = search rules in
    rw (c.in-Open.is, to_z-of_z w32 c.open.result fits) c.open.ensures.answer

pub returns-in-Start-clause-answer : goal.returns-in-Start-clause-answer
returns-in-Start-clause-answer g c =
    let fits : FitsSigned w32 c.start.result = search rules in
    let function : FitsSigned w32 c.in-Start.function = search rules in
    let word : FitsSigned w32 c.in-Start.word = search rules in
    let answer = rw (to_z-of_z w32 c.in-Start.function function, to_z-of_z w32 c.in-Start.word word) at c.start.ensures.answer in
    rw (c.in-Start.is, to_z-of_z w32 c.start.result fits) answer

pub returns-in-Ask-clause-answer : goal.returns-in-Ask-clause-answer
returns-in-Ask-clause-answer g c =
    let fits : FitsSigned w32 c.call.result = search rules in
    let function : FitsSigned w32 c.in-Ask.function = search rules in
    let word : FitsSigned w32 c.in-Ask.word = search rules in
    let answer = rw (to_z-of_z w32 c.in-Ask.function function, to_z-of_z w32 c.in-Ask.word word) at c.call.ensures.answer in
    rw (c.in-Ask.is, to_z-of_z w32 c.call.result fits) answer

pub returns-in-Cancel-clause-answer : goal.returns-in-Cancel-clause-answer
returns-in-Cancel-clause-answer g c = rw c.in-Cancel.is tt

pub returns-in-Close-clause-answer : goal.returns-in-Close-clause-answer
returns-in-Close-clause-answer g c = rw c.in-Close.is tt
