-- Where messages hold no slot any more the machine's cells and sessions are as they were: by the cells one after another.
use Rattle.std.proofs.Common.{List, [], ap, refl, sym, ℕ, pos, ◌∙◌, ◌∷◌, ◌≡◌}
use Rattle.aom_cells.specs.Heap.{Heap}
use Rattle.aom_image.specs.Image.{Image}
use Rattle.aom_machine_state.specs.Agrees.{SameCells, SameNatives, thing_of}
use Rattle.aom_cells.specs.Sessions.{Standing}
use Rattle.aom_roles.specs.Tables.{at}
use Rattle.aom_machine_state.proofs.SafetyLemmas.{each_slot_released_alike}
use Rattle.aom_machine_state.proofs.SemanticsLemmas.{Reads, count_kept, read_kept, sessions, slot_release}
use Rattle.aom_semantics.specs.Clients.{each_slot_released}
use Rattle.aom_semantics.specs.Places.{Cell, count_cells, in_session, word_field}
use Rattle.aom_semantics.specs.Servers.{all_slot_released}

abbrev pub words_at : (w : ℕ) → Reads (λ cs n. word_field cs n w)
words_at w = record { of = λ c. at (pos 0) c.words w; first = λ c cs n. refl }

pub each_words : (clients : List ℕ) (cs : List Cell) (n w : ℕ) → word_field (each_slot_released clients cs) n w ≡ word_field cs n w
each_words [] cs n w = refl
each_words (c ∷ clients) cs n w = each_words clients (all_slot_released c cs) n w ∙ read_kept (slot_release c) (words_at w) (λ x. refl) cs n

each_count : (clients : List ℕ) (cs : List Cell) → count_cells (each_slot_released clients cs) ≡ count_cells cs
each_count [] cs = refl
each_count (c ∷ clients) cs = each_count clients (all_slot_released c cs) ∙ count_kept (slot_release c) cs

each_session : (clients : List ℕ) (cs : List Cell) (n : ℕ) → in_session (each_slot_released clients cs) n ≡ in_session cs n
each_session [] cs n = refl
each_session (c ∷ clients) cs n = each_session clients (all_slot_released c cs) n ∙ read_kept (slot_release c) sessions (λ x. refl) cs n

pub cells_slot_released : (p : Image) (h : Heap) (clients : List ℕ) (cs : List Cell) → SameCells p h cs → SameCells p h (each_slot_released clients cs)
cells_slot_released p h clients cs same = record {
  things = λ n. same.things n ∙ ap thing_of (sym ((each_slot_released_alike clients cs).named_so n));
  words = λ n w small. same.words n w small ∙ sym (each_words clients cs n w);
  count = same.count ∙ sym (each_count clients cs);
  limit = same.limit;
  wide = same.wide;
  classes = same.classes;
  null_is_none = same.null_is_none;
  below = same.below;
}

pub natives_slot_released : (p : Image) (w : Standing) (killed : List ℕ) (clients : List ℕ) (cs : List Cell) → SameNatives p w cs killed →
    SameNatives p w (each_slot_released clients cs) killed
natives_slot_released p w killed clients cs same = record { sessions = λ n. same.sessions n ∙ sym (each_session clients cs n); dead = same.dead; limit = same.limit }
