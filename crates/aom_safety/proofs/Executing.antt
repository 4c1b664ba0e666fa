-- A client's command between dispatches leads to a well-typed state.
use Rattle.std.proofs.lemmas.Bool.Decides.{nat_tests}
use Rattle.std.proofs.Common.{arith, List, None, Option, Some, [], ap, refl, subst, sym, ℕ, ℤ, ◌∙◌, ◌∷◌, ◌≡◌}
use Rattle.aom_image.specs.Image.{Image}
use Rattle.aom_clients.specs.Table.{server_of}
use Rattle.aom_clients.specs.declared.client.Client.{Client}
use Rattle.aom_clients.specs.declared.client.Client.TheVariants.{Open}
use Rattle.aom_clients.specs.declared.refusal.CommandRefusal.{CommandRefusal}
use Rattle.aom_typing_rules.specs.Typing.{Typing}
use Rattle.aom_safety.proofs.ClientsAsk.{asked_there}
use Rattle.aom_safety.proofs.ClientsCommand.{nobody, none_named, server_stays, server_there}
use Rattle.aom_safety.proofs.ClientsFacts.{waiting_message, waiting_well}
use Rattle.aom_safety.proofs.Commanding.{good_asked}
use Rattle.aom_safety.proofs.Sending.{good_sent}
use Rattle.aom_safety.proofs.Signals.{at_rest}
use Rattle.aom_safety.proofs.Withdrawing.{good_withdrawn}
use Rattle.aom_semantics.specs.Clients.{sent_message, asked_server, Listed, client_at, commanded, connecting, leaving, refusal, sending, reported}
use Rattle.aom_safety.specs.Kept.{ClientsFit}
use Rattle.aom_safety.specs.Laws.{IsWired}
use Rattle.aom_semantics.specs.Places.{Cell, Close_of, Connect_of, Message_of, named, service_of}
use Rattle.aom_semantics.specs.Servers.{asked_last, reserved, withdrawn}
use Rattle.aom_semantics.specs.State.{State}
use Rattle.aom_safety.specs.WellTyped.{Good, WellTyped}
use Rattle.aom_transcript.specs.declared.event.ClientCommand.{ClientCommand}
use Rattle.aom_transcript.specs.declared.event.ClientCommand.TheVariants.{Connect}

module _ (p : Image) (t : Typing) (wired : IsWired p) (s : State) (w : WellTyped p t s) (idle : s.tasks ≡ []) (fit : ClientsFit p s.clients s.cells) (c : ℕ) where
  good : Good p t s.cells []
  good = subst (λ ls. Good p t s.cells ls) (at_rest p t s w idle) w.good

  -- with other cells, and what clients are at
  well : (u : State) → u.tasks ≡ s.tasks → u.items ≡ s.items → Good p t u.cells [] → WellTyped p t u
  well u tasks items now = search (arith, nat_tests, at_rest p t s w idle, good)

  connects_well : (refused : Option CommandRefusal) (class slots : ℕ) → WellTyped p t (connecting p c s refused (asked_server p class s.cells) slots)
  connects_well refused class slots = go refused (asked_server p class s.cells) refl
    where
      go : (r : Option CommandRefusal) (x : Option Listed) → asked_server p class s.cells ≡ x → WellTyped p t (connecting p c s r x slots)
      go None (Some x) e =
          let l = asked_there p class s.cells x good.no_duplicates e in
          well _ refl refl (grind (arith, nat_tests, good_asked p t s.cells l.0 l.2 (Connect_of c), good))
      go None None e = w
      go (Some r) x e = w

  sends_well : (refused : Option CommandRefusal) (name : ℕ) (words : List ℤ) → named s.cells name ≡ None → (k : Client) → client_at s.clients c ≡ k →
      WellTyped p t (sending p c s refused k name words)
  sends_well None name words free (Open server session slots) at =
      let there = server_there p c s good.no_duplicates fit server (fit.listed server c (ap server_of at)) in
      well _ refl refl (rw there.1 at (good_sent p t s.cells good there.0 there.2 there.3 c name free (the_message there.0.name) refl refl refl refl refl
      (none_named name (service_of s.cells there.0.name).queue (nobody p c s good.no_duplicates fit there.0.name name free))))
    where
      the_message : ℕ → Cell
      the_message = sent_message c name words

      sent : ℕ → List Cell
      sent n = the_message n ∷ reserved (asked_last (Message_of c name)) n s.cells
  sends_well _ name words free k at = w

  leaves_well : (k : Client) → client_at s.clients c ≡ k → (to : Option Client) → WellTyped p t (leaving p c s to)
  leaves_well k at None = w
  leaves_well k at (Some to) = well _ refl refl (subst (λ x. Good p t (reported p c s x (withdrawn c s.cells)) []) (sym at) (go k at))
    where
      alone : Good p t (withdrawn c s.cells) []
      alone = good_withdrawn p t s.clients s.cells good fit c (waiting_message p t wired s w)

      go : (k : Client) → client_at s.clients c ≡ k → Good p t (reported p c s k (withdrawn c s.cells)) []
      go (Open server session slots) at =
          let there = server_there p c s good.no_duplicates fit server (fit.listed server c (ap server_of at)) in
          rw there.1 at (good_asked p t (withdrawn c s.cells) there.0 (server_stays p c s good.no_duplicates fit (waiting_well p t wired s w) there.0 there.2
          (fit.listed there.0.name c (ap server_of at ∙ ap (λ n. Some n) (sym there.1)))) (Close_of c) (λ m. refl) alone)
      go _ at = alone

  -- whatever is commanded
  pub commanded_well : (command : ClientCommand) (name : ℕ) → named s.cells name ≡ None → WellTyped p t (commanded p c s command name)
  commanded_well (Connect class slots) name free = connects_well (refusal p c s (Connect class slots)) class slots
  commanded_well x name free = grind (arith, nat_tests, sends_well, leaves_well)
