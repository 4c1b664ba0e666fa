-- Tokens stay what they are where what clients have changes, where messages of clients come and go, and where an object goes whose request is at rest: by the
-- cells that stay.
use Rattle.std.proofs.lemmas.Bool.Decides.{nat_tests}
use Rattle.std.proofs.Common.{Bool, List, None, Option, Some, ap, arith, cond, false, refl, sym, true, ℕ, ◌<◌, ◌==◌, ◌∙◌, ◌≡◌}
use Rattle.std.specs.Prelude.{is_some}
use Rattle.std.proofs.lemmas.Bool.{eqb-true, ne_eqb}
use Rattle.aom_image.specs.Image.{Image}
use Rattle.aom_machine_state.proofs.SemanticsLemmas.{requested_unnamed, requested_without, unnamed}
use Rattle.aom_machine_state.proofs.SafetyLemmas.{cell_of, cell_of_filtered_cells, each_slot_released_requests, kept as left_cell, service_cell, service_here, service_in}
use Rattle.aom_machine_state.proofs.SafetyLemmas.{service_there, service_without, filtered_cells}
use Rattle.aom_semantics.specs.Clients.{each_slot_released}
use Rattle.aom_safety.specs.Kept.{sources_of}
use Rattle.aom_semantics.specs.Places.{Cell, Object, Place, Service, NoDuplicates, Token, held, named, requested, service_of, set_service, without}
use Rattle.aom_semantics.specs.Tokens.{awaited}
use Rattle.aom_machine_state.proofs.Beside.{Beside}
use Rattle.aom_machine_state.proofs.Serving.{absent_served}
use Rattle.aom_machine_state.proofs.Tokens.{tokens_still}
use Rattle.aom_machine_state.proofs.Reclaiming.{service_lost}
use Rattle.aom_machine_state.specs.Serving.{message_name}
use Rattle.aom_machine_state.specs.Tokens.{SameTokens}
use Rattle.aom_cells.specs.Tokens.{Kept}

-- ---- what one source tells

-- what has one source has a sender just where it is no token
pub sent_unreported : (v : Service) → sources_of v ≡ 1 → v.token ≡ None → is_some v.sender ≡ true
sent_unreported v one none = grind (arith, nat_tests)

pub unreported_sent : (v : Service) → sources_of v ≡ 1 → is_some v.sender ≡ true → v.token ≡ None
unreported_sent v one sent = grind (arith, nat_tests)

pub token_unsent : (v : Service) → sources_of v ≡ 1 → is_some v.token ≡ true → v.sender ≡ None
token_unsent v one reported = grind (arith, nat_tests)

-- ---- tokens go on

-- the token under a name, if one is there
abbrev pub token_under : List Cell → ℕ → Option Token
token_under cs n = (service_of cs n).token

-- under each name is the same token, or none
abbrev pub Reported_alike : List Cell → List Cell → Type 0
Reported_alike cs ds = (n : ℕ) → token_under ds n ≡ token_under cs n

-- messages of clients come and go
pub tokens_beside : (p : Image) (w : Kept) (cs ds : List Cell) → Beside cs ds → Reported_alike cs ds → SameTokens p w cs → SameTokens p w ds
tokens_beside p w cs ds beside reports same = tokens_still p w cs ds (λ n. ap awaited (beside.requests n)) (λ m. reports (message_name m)) same

-- what clients have at a cell changes
pub reported_served : (cs : List Cell) (n : ℕ) (v : Service) → v.token ≡ token_under cs n → Reported_alike cs (set_service n v cs)
reported_served cs n v same k = grind (arith, nat_tests, service_there cs n k v, eqb-true n k, service_here cs n v, absent_served cs n v)

-- some cells go, none of which is a token
pub reported_filtered_cells : (drops : Cell → Bool) (f : Cell → Service) (cs : List Cell) → NoDuplicates cs → ((n : ℕ) (x : Cell) →
    cell_of cs n ≡ Some x → drops x ≡ true → x.service.token ≡ None) → ((x : Cell) → (f x).token ≡ x.service.token) → Reported_alike cs (filtered_cells drops f cs)
reported_filtered_cells drops f cs no_duplicates none keeps n = ap (λ (v : Service). v.token) (service_cell (filtered_cells drops f cs) n ∙ ap service_in (cell_of_filtered_cells drops f cs n no_duplicates))
    ∙ go (cell_of cs n) refl ∙ sym (ap (λ (v : Service). v.token) (service_cell cs n))
  where
    go : (x : Option Cell) → cell_of cs n ≡ x → (service_in (left_cell drops f x)).token ≡ (service_in x).token
    go None e = refl
    go (Some x) e = by (drops x) refl
      where
        by : (b : Bool) → drops x ≡ b → (service_in (cond b None (Some (record x { service = f x })))).token ≡ x.service.token
        by true d = sym (none n x e d)
        by false d = keeps x

-- no message holds a slot any more
pub tokens_slot_released : (p : Image) (w : Kept) (clients : List ℕ) (cs : List Cell) → SameTokens p w cs → SameTokens p w (each_slot_released clients cs)
tokens_slot_released p w clients cs same = tokens_still p w cs (each_slot_released clients cs) (λ n. ap awaited (each_slot_released_requests clients cs n))
    (λ m. ap (λ (v : Service). v.token) (service_lost clients cs (message_name m))) same

-- an object goes that waits for no token
pub tokens_without : (p : Image) (w : Kept) (cs : List Cell) (g : Place) (o : Object) →
    NoDuplicates cs → held cs g ≡ Some o → o.name < 4096 → awaited (requested cs o.name) ≡ None → SameTokens p w cs → SameTokens p w (without g cs)
tokens_without p w cs g o no_duplicates there small rests same = tokens_still p w cs (without g cs) (λ n. asks n (o.name == n) refl) reports same
  where
    asks : (n : ℕ) (b : Bool) → (o.name == n) ≡ b → awaited (requested (without g cs) n) ≡ awaited (requested cs n)
    asks n true e =
        let one = eqb-true o.name n e in
        ap awaited (requested_unnamed (without g cs) n (ap (named (without g cs)) (sym one) ∙ unnamed cs g o no_duplicates there)) ∙ sym rests
        ∙ ap (λ i. awaited (requested cs i)) one
    asks n false e = ap awaited (requested_without cs g o n no_duplicates there e)

    reports : (m : ℕ) → token_under (without g cs) (message_name m) ≡ token_under cs (message_name m)
    reports m = ap (λ (v : Service). v.token)
        (service_without cs g o (message_name m) no_duplicates there (ne_eqb o.name (message_name m) (λ e. absurd (omega (arith, e, small)))))
