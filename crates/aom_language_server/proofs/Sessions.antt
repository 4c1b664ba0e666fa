-- What goes out one behind the other.
use Rattle.std.proofs.Common.{◌≡◌, ◌∙◌, ◌+◌, ℕ, Bool, true, false, List, [], ◌∷◌, ◌++◌, Option, Some, None, ap, append_assoc, length, option_map, refl, sym, take}
use Rattle.std.proofs.Math.Seq.{take-append-add, take-length}
use Rattle.std.proofs.lemmas.Grind.{flat_map-append}
use Rattle.std.proofs.lemmas.List.{append-nil}
use Rattle.std.specs.List.{flat_map}
use Rattle.aom_message_framing.specs.Frames.{frame_text}
use Rattle.aom_language_server.specs.Sessions.{Wrote, WroteBeginning, WroteFrames, end_of}
use Rattle.aom_language_server.specs.declared.serving.Ended.{Ended}
use Rattle.aom_language_server.specs.declared.serving.Ended.TheVariants.{Early, Failed, InOrder}

-- ---- text behind other text

none_behind : (before : Option (List ℕ)) → before ≡ option_map (λ t. t ++ []) before
none_behind None = refl
none_behind (Some t) = ap Some (sym (append-nil t))

both_behind : (before : Option (List ℕ)) (one other : List ℕ) → option_map (λ t. t ++ other) (option_map (λ t. t ++ one) before) ≡ option_map (λ t. t ++ (one ++ other)) before
both_behind None one other = refl
both_behind (Some t) one other = ap Some (append_assoc t one other)

-- ---- frames

pub nothing : (before : Option (List ℕ)) → WroteFrames before before
nothing before = ([], none_behind before)

pub one_frame : (text : List ℕ) (before after : Option (List ℕ)) → after ≡ option_map (λ t. t ++ frame_text text) before → WroteFrames before after
one_frame text before after is = (text ∷ [], is ∙ ap (λ (s : List ℕ). option_map (λ t. t ++ s) before) (sym (append-nil (frame_text text))))

pub more_frames : (first middle last : Option (List ℕ)) → WroteFrames first middle → WroteFrames middle last → WroteFrames first last
more_frames first middle last one other = (
  one.0 ++ other.0,
  other.1
      ∙ ap (λ (o : Option (List ℕ)). option_map (λ t. t ++ flat_map frame_text other.0) o) one.1
      ∙ both_behind first (flat_map frame_text one.0) (flat_map frame_text other.0)
      ∙ ap (λ (s : List ℕ). option_map (λ t. t ++ s) first) (sym (flat_map-append frame_text one.0 other.0)),
)

-- ---- a beginning of some

pub beginning_of_one : (text : List ℕ) (n : ℕ) (before after : Option (List ℕ)) → after ≡ option_map (λ t. t ++ take n (frame_text text)) before → WroteBeginning before after
beginning_of_one text n before after is = (text ∷ [], n, is ∙ ap (λ (s : List ℕ). option_map (λ t. t ++ take n s) before) (sym (append-nil (frame_text text))))

pub whole_beginning : (before after : Option (List ℕ)) → WroteFrames before after → WroteBeginning before after
whole_beginning before after frames =
    let sent = flat_map frame_text frames.0 in
    (frames.0, length sent, frames.1 ∙ ap (λ (s : List ℕ). option_map (λ t. t ++ s) before) (sym (take-length sent)))

more_beginning : (first middle last : Option (List ℕ)) → WroteFrames first middle → WroteBeginning middle last → WroteBeginning first last
more_beginning first middle last one other =
    let sent = flat_map frame_text one.0 in
    let rest = flat_map frame_text other.0 in (
      one.0 ++ other.0,
      length sent + other.1,
      other.2
          ∙ ap (λ (o : Option (List ℕ)). option_map (λ t. t ++ take other.1 rest) o) one.1
          ∙ both_behind first sent (take other.1 rest)
          ∙ ap (λ (s : List ℕ). option_map (λ t. t ++ s) first) (sym (take-append-add sent rest other.1))
          ∙ ap (λ (s : List ℕ). option_map (λ t. t ++ take (length sent + other.1) s) first) (sym (flat_map-append frame_text one.0 other.0)),
    )

-- ---- the end

pub more_written : (ended : Option Ended) (first middle last : Option (List ℕ)) → WroteFrames first middle → Wrote ended middle last → Wrote ended first last
more_written None first middle last one other = more_frames first middle last one other
more_written (Some InOrder) first middle last one other = more_frames first middle last one other
more_written (Some Early) first middle last one other = more_frames first middle last one other
more_written (Some Failed) first middle last one other = more_beginning first middle last one other

pub written_so : (in_order : Bool) (before after : Option (List ℕ)) → WroteFrames before after → Wrote (Some (end_of in_order)) before after
written_so true before after frames = frames
written_so false before after frames = frames
