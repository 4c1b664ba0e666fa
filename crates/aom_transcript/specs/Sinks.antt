-- What is out at a sink.
use Rattle.std.specs.Prelude.{ℕ, List, ◌++◌, Option, option_map}

-- what is out once a text is out too, where the sink tells it
abbrev pub after : Option (List ℕ) → List ℕ → Option (List ℕ)
after out text = option_map (λ t. t ++ text) out
