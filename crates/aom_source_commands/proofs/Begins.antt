-- What begins with a place still does so with more behind it.
use Rattle.std.proofs.Common.{◌≡◌, ◌≢◌, ◌∙◌, ◌⊎◌, List, [], ◌++◌, ℕ, ap, append_assoc, codes, inl, inr, subst, sym}
use Rattle.std.proofs.lemmas.List.{append-nil}
use Rattle.aom_source_commands.specs.Telling.{TellsPlace, place_text}

-- more is told behind it
behind : (name source told more after : List ℕ) → after ≡ told ++ more → TellsPlace name source told → TellsPlace name source after
behind name source told more after is (inl begins) = inl (record {
  place = begins.place;
  within = begins.within;
  rest = begins.rest ++ more;
  is = is ∙ ap (λ t. t ++ more) begins.is ∙ append_assoc (place_text name begins.place) begins.rest more;
})
behind name source told more after is (inr wanting) = inr (wanting.0 ++ more, is ∙ ap (λ t. t ++ more) wanting.1 ∙ append_assoc (codes "memory\n") wanting.0 more)

-- the first, or one more
pub told_next : (name source told text after : List ℕ) → after ≡ told ++ text → (told ≡ []) ⊎ TellsPlace name source told → TellsPlace name source text → TellsPlace name source after
told_next name source told text after is (inl none) tells = subst (TellsPlace name source) (sym (is ∙ ap (λ t. t ++ text) none)) tells
told_next name source told text after is (inr before) tells = behind name source told text after is before

-- where nothing is told, memory is wanted
pub wants_memory : (name source told after : List ℕ) → told ≡ [] → after ≡ told ++ codes "memory\n" → TellsPlace name source after
wants_memory name source told after none is = inr ([], is ∙ ap (λ t. t ++ codes "memory\n") none ∙ sym (append-nil (codes "memory\n")))

-- where something is told
pub told_something : (name source told : List ℕ) → told ≢ [] → (told ≡ []) ⊎ TellsPlace name source told → TellsPlace name source told
told_something name source told some (inl none) = absurd (some none)
told_something name source told some (inr tells) = tells
