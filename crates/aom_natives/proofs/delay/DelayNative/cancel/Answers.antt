use Rattle.std.proofs.Common.{◌≡◌, ℕ, List, Some, None, get_or, sym, ap, ◌∙◌}
use Rattle.std.specs.Prelude.{position, remove, ◌==◌}
use Rattle.std.proofs.lemmas.List.Quantifiers.{position-Some}
use Rattle.aom_natives.specs.Owed.{TakesOut}
use Rattle.aom_natives.specs.declared.delay.OwedRequest.{OwedRequest}
use Rattle.aom_natives.proofs.Delays.{owed-entry, entry-id, ids-out, find-none}
use Rattle.aom_natives.proofs.Ids.{takes-out}
use Rattle.aom_natives.proofs.delay.DelayNative.cancel.Goals as goal

pub unreachable-requires : goal.unreachable-requires
unreachable-requires c = let none : position (λ (e : OwedRequest). c.args.id == e.id) c.args.self.now ≡ None =
    sym (ap (position (λ (e : OwedRequest). c.args.id == e.id)) (c.as_slice.ensures.value ∙ c.self.view_is)) ∙ sym c.place_in.ensures ∙ c.in-None.is in
    owed-entry c.args.self.now c.args.id c.requires (find-none (λ (e : OwedRequest). c.args.id == e.id) c.args.self.now none)

-- the entry that is removed
removed : (id at : ℕ) (items now : List OwedRequest) (e : OwedRequest) → items ≡ now → position (λ e. id == e.id) items ≡ Some at → e ≡ get_or items at e →
    (e.id ≡ id) × TakesOut e now (remove items at)
removed id at items now e is found value = (entry-id items id at e found value, rw (← is) (takes-out items at e (position-Some _ items at e found).0 (sym value)))

pub returns-clause-entry : goal.returns-clause-entry
returns-clause-entry c =
    let found = sym (ap (position (λ (e : OwedRequest). c.args.id == e.id)) c.as_slice.ensures.value) ∙ sym c.place_in.ensures ∙ c.in-Some.is in
    let out = removed _ _ _ _ _ c.self.view_is found c.remove.ensures.value in
    rw c.remove.ensures.items (c.remove.result, out.0, out.1)

pub returns-clause-owed : goal.returns-clause-owed
returns-clause-owed c =
    let found = sym (ap (position (λ (e : OwedRequest). c.args.id == e.id)) c.as_slice.ensures.value) ∙ sym c.place_in.ensures ∙ c.in-Some.is in
    let out = removed _ _ _ _ _ c.self.view_is found c.remove.ensures.value in
    rw (c.remove.ensures.items, ← out.0) (ids-out _ _ _ out.1)
