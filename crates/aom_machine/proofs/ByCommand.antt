-- What a command of a client comes to, case by case: what holds in each case holds after the command.
use Rattle.std.proofs.Common.{List, None, Option, refl, Some, ℕ, ℤ, ◌≡◌}
use Rattle.aom_clients.specs.declared.client.Client.{Client}
use Rattle.aom_clients.specs.declared.client.Client.TheVariants.{Connecting, Open}
use Rattle.aom_clients.specs.declared.refusal.CommandRefusal.{CommandRefusal}
use Rattle.aom_clients.specs.Table.{row}
use Rattle.aom_image.specs.Image.{Image}
use Rattle.aom_semantics.specs.Clients.{Listed, asked_server, client_at, commanded, connecting, leaving, refusal, sending, reported, with_client, with_message}
use Rattle.aom_semantics.specs.Places.{Cell, Close_of, Connect_of}
use Rattle.aom_semantics.specs.Servers.{asked_last, reserved, withdrawn}
use Rattle.aom_semantics.specs.State.{State}
use Rattle.aom_transcript.specs.declared.event.ClientCommand.{ClientCommand}
use Rattle.aom_transcript.specs.declared.event.ClientCommand.TheVariants.{Close, Connect, Die, Send}

module _ (p : Image) (c : ℕ) (s : State) where
  -- a server is asked for a session, or nothing changes
  abbrev pub connected : Listed → ℕ → State
  connected x slots = record s { cells = reserved (asked_last (Connect_of c)) x.name s.cells; clients = with_client c (Connecting x.name slots) s.clients }

  pub by_connecting : (P : State → Type 0) → P s → (r : Option CommandRefusal) (y : Option Listed) (slots : ℕ) →
      ((x : Listed) → y ≡ Some x → P (connected x slots)) → P (connecting p c s r y slots)
  by_connecting P same None (Some x) slots connects = connects x refl
  by_connecting P same None None slots connects = same
  by_connecting P same (Some r) y slots connects = same

  -- an open client sends a message, or nothing changes
  abbrev pub sent : ℕ → List ℤ → ℕ → State
  sent name words server = record s { cells = with_message p c s name words server }

  pub by_sending : (P : State → Type 0) → P s → (r : Option CommandRefusal) (x : Client) (name : ℕ) (words : List ℤ) →
      ((server session slots : ℕ) → r ≡ None → x ≡ Open server session slots → P (sent name words server)) → P (sending p c s r x name words)
  by_sending P same None (Open server session slots) name words sends = sends server session slots refl refl
  by_sending P same _ _ name words sends = same

  -- the server of a client that was open is asked to close its session
  pub by_reported : (P : List Cell → Type 0) (cs : List Cell) → P cs →
      (x : Client) → ((server session slots : ℕ) → x ≡ Open server session slots → P (reserved (asked_last (Close_of c)) server cs)) → P (reported p c s x cs)
  by_reported P cs same (Open server session slots) closes = closes server session slots refl
  by_reported P cs same _ closes = same

  -- a client leaves, or nothing changes
  abbrev pub left : Client → List Cell → State
  left to cs = record s { cells = cs; clients = with_client c to s.clients }

  pub by_leaving : (P : State → Type 0) → P s → (to : Option Client) →
      ((x : Client) → to ≡ Some x → P (left x (reported p c s (client_at s.clients c) (withdrawn c s.cells)))) → P (leaving p c s to)
  by_leaving P same None leaves = same
  by_leaving P same (Some x) leaves = leaves x refl

  -- what is shown of each that a command may come to
  pub record ByCommand (P : State → Type 0) (name : ℕ) : Type 0 where
    pub same : P s
    pub connects : (x : Listed) (slots : ℕ) → P (connected x slots)
    pub sends : (words : List ℤ) (server : ℕ) → P (sent name words server)
    pub leaves : (to : Client) → P (left to (withdrawn c s.cells))
    pub closes : (to : Client) (server : ℕ) → P (left to (reserved (asked_last (Close_of c)) server (withdrawn c s.cells)))

  module _ (P : State → Type 0) (name : ℕ) (each : ByCommand P name) where
    by_left : (to : Option Client) → P (leaving p c s to)
    by_left to = by_leaving P each.same to
        (λ x is. by_reported (λ cs. P (left x cs)) (withdrawn c s.cells) (each.leaves x) (client_at s.clients c) (λ server session slots at. each.closes x server))

    pub by_command : (command : ClientCommand) → P (commanded p c s command name)
    by_command (Connect class slots) =
        by_connecting P each.same (refusal p c s (Connect class slots)) (asked_server p class s.cells) slots (λ x is. each.connects x slots)
    by_command (Send words) =
        by_sending P each.same (refusal p c s (Send words)) (client_at s.clients c) name words (λ server session slots goes at. each.sends words server)
    by_command Close = by_left (row (client_at s.clients c)).close
    by_command Die = by_left (row (client_at s.clients c)).die
