-- Where messages hold no slot any more all else is as it was: by what that keeps of a cell.
use Rattle.std.proofs.Common.{List, [], ap, refl, ℕ, ◌∙◌, ◌∷◌, ◌≡◌}
use Rattle.aom_safety.proofs.SemanticsLemmas.{held_kept, named_kept, read_kept, read_so, requests, services, tidy_kept, slot_release}
use Rattle.aom_safety.proofs.Storing.{Alike, alike_itself}
use Rattle.aom_semantics.specs.Clients.{each_slot_released}
use Rattle.aom_semantics.specs.Places.{Cell, Service, requested, service_of}
use Rattle.aom_semantics.specs.Servers.{slot_released, all_slot_released}

pub service_slot_released : (c : ℕ) (cs : List Cell) (n : ℕ) →
    service_of (all_slot_released c cs) n ≡ record (service_of cs n) { sender = slot_released c (service_of cs n).sender }
service_slot_released c cs n = read_so (slot_release c) services n (λ v. record v { sender = slot_released c v.sender }) cs (λ x is here. refl) (λ none. refl)

pub each_slot_released_alike : (clients : List ℕ) (cs : List Cell) → Alike cs (each_slot_released clients cs)
each_slot_released_alike [] cs = alike_itself cs
each_slot_released_alike (c ∷ clients) cs =
    let rest = each_slot_released_alike clients (all_slot_released c cs) in
    record {
      held_so = λ r. rest.held_so r ∙ held_kept (slot_release c) (λ x. refl) cs r;
      named_so = λ n. rest.named_so n ∙ named_kept (slot_release c) cs n;
      queues_so = λ n. rest.queues_so n ∙ ap (λ (v : Service). v.queue) (service_slot_released c cs n);
      sessions_so = λ n. rest.sessions_so n ∙ ap (λ (v : Service). v.sessions) (service_slot_released c cs n);
      no_duplicates = λ t. rest.no_duplicates (tidy_kept (slot_release c) (λ x. refl) cs t);
    }

pub each_slot_released_requests : (clients : List ℕ) (cs : List Cell) (n : ℕ) → requested (each_slot_released clients cs) n ≡ requested cs n
each_slot_released_requests [] cs n = refl
each_slot_released_requests (c ∷ clients) cs n = each_slot_released_requests clients (all_slot_released c cs) n ∙ read_kept (slot_release c) requests (λ x. refl) cs n
