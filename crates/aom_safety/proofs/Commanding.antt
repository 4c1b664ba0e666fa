-- What a client's command comes to between dispatches is well typed: a queue is longer, a message more waits in one, or those of a client go.
use Rattle.std.proofs.lemmas.Bool.Decides.{nat_tests}
use Rattle.std.proofs.Math.Bool.{or-false}
use Rattle.std.proofs.Common.{arith, [], List, Some, ap, cond, false, refl, ℕ, ◌∙◌, ◌∷◌, ◌≡◌}
use Rattle.std.proofs.lemmas.List.Folds.{list_any-append}
use Rattle.std.specs.List.{list_any}
use Rattle.std.specs.Prelude.{◌||◌}
use Rattle.aom_image.specs.Image.{Image}
use Rattle.aom_typing_rules.specs.Typing.{Typing}
use Rattle.aom_abstract_state.specs.Kinds.{filled}
use Rattle.aom_abstract_state.specs.declared.kind.FieldState.TheVariants.{Full}
use Rattle.aom_abstract_state.specs.declared.kind.Kind.TheVariants.{Null}
use Rattle.aom_safety.proofs.Claimed.{declared_ready}
use Rattle.aom_safety.proofs.ClientsFit.{by_server}
use Rattle.aom_safety.proofs.Picking.{fits_ready}
use Rattle.aom_safety.proofs.Services.{held_served, named_served, requested_served, tidy_served}
use Rattle.aom_safety.specs.Claims.{declared}
use Rattle.aom_semantics.specs.Places.{Asked, Cell, Elsewhere, Object, Place, Queued, NoDuplicates, held, named, requested, service_of}
use Rattle.aom_semantics.specs.Servers.{asked_last, has_message, has_session, is_message, message_thing, reserved}
use Rattle.aom_safety.specs.WellTyped.{Good}

-- ---- what is declared goes by names, messages and sessions

module _ (p : Image) (cs cs' : List Cell) (names : (n : ℕ) → named cs' n ≡ named cs n) (messages : (n m : ℕ) → has_message
    (service_of cs' n) m ≡ has_message (service_of cs n) m) (sessions : (n c : ℕ) → has_session (service_of cs' n) c ≡ has_session (service_of cs n) c) where
  pub declared_same : (q : Place) → declared p cs' q ≡ declared p cs q
  declared_same (Elsewhere (Queued m k)) = ap (λ b. cond b (filled (message_thing p (named cs' m)) Full) Null) (messages m k)
      ∙ ap (λ y. cond (has_message (service_of cs m) k) (filled (message_thing p y) Full) Null) (names m)
  declared_same x = grind arith

  -- so that cells in the same places, with the same requests, are well typed
  pub good_same : (t : Typing) → ((q : Place) → held cs' q ≡ held cs q) → ((n : ℕ) → requested cs' n ≡ requested cs n) → NoDuplicates cs' → Good p t cs [] → Good p t cs' []
  good_same t places requests no_duplicates good = search (arith, nat_tests, declared_same, fits_ready p, declared_ready p cs)

-- something that is no message is queued last
pub good_asked : (p : Image) (t : Typing) (cs : List Cell) (o : Object) → named cs o.name ≡ Some o → (e : Asked) → ((m : ℕ) → is_message m e ≡ false) →
    Good p t cs [] → Good p t (reserved (asked_last e) o.name cs) []
good_asked p t cs o lives e plain good = good_same p cs (reserved (asked_last e) o.name cs) (named_served cs o.name (asked_last e (service_of cs o.name)))
    messages sessions t (held_served cs o.name (asked_last e (service_of cs o.name))) (requested_served cs o.name (asked_last e (service_of cs o.name)))
    (tidy_served cs o.name (asked_last e (service_of cs o.name)) good.no_duplicates) good
  where
    messages : (n m : ℕ) → has_message (service_of (reserved (asked_last e) o.name cs) n) m ≡ has_message (service_of cs n) m
    messages n m = by_server cs o lives (asked_last e) (λ n v. has_message v m ≡ has_message (service_of cs n) m) (list_any-append (λ x. is_message m x)
        (service_of cs o.name).queue (e ∷ []) ∙ ap (λ b. list_any (λ x. is_message m x) (service_of cs o.name).queue || (b || false)) (plain m)
        ∙ or-false (list_any (λ x. is_message m x) (service_of cs o.name).queue)) (λ n other. refl) n

    sessions : (n c : ℕ) → has_session (service_of (reserved (asked_last e) o.name cs) n) c ≡ has_session (service_of cs n) c
    sessions n c = by_server cs o lives (asked_last e) (λ n v. has_session v c ≡ has_session (service_of cs n) c) refl (λ n other. refl) n
