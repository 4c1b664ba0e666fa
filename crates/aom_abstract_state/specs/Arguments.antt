-- The arguments of a method: as they leave their registers, and what is known of them as it begins.
use Rattle.std.specs.Prelude.{ℕ, suc, List, [], ◌∷◌, replicate, Option, Some, None, map}
use Rattle.aom_image.specs.Image.{Image}
use Rattle.aom_image.specs.Views.{arguments_of, method_at, method_role}
use Rattle.aom_image.specs.declared.method.Argument.{Argument}
use Rattle.aom_image.specs.declared.method.Argument.TheVariants.{Word as A_word, Own as An_own}
use Rattle.aom_image.specs.declared.method.Method.{Method}
use Rattle.aom_image.specs.declared.method.Role.{Role}
use Rattle.aom_image.specs.declared.method.Role.TheVariants.{Construct, Main}
use Rattle.aom_abstract_state.specs.AbstractState.{AbstractState}
use Rattle.aom_abstract_state.specs.Kinds.{set_register}
use Rattle.aom_abstract_state.specs.declared.kind.InitState.TheVariants.{Ready}
use Rattle.aom_abstract_state.specs.declared.kind.MessageState.TheVariants.{Here}
use Rattle.aom_abstract_state.specs.declared.kind.FieldState.{FieldState}
use Rattle.aom_abstract_state.specs.declared.kind.FieldState.TheVariants.{Perhaps, Empty}
use Rattle.aom_abstract_state.specs.declared.kind.Kind.{Kind}
use Rattle.aom_abstract_state.specs.declared.kind.Kind.TheVariants.{Word, Null, Own}

-- an argument has left its register: a word is copied, and what is owned moves
abbrev pub argument_moved : Argument → ℕ → AbstractState → AbstractState
argument_moved A_word r sh = sh
argument_moved (An_own t) r sh = set_register sh r Null

-- each argument has, from that register on
abbrev pub arguments_moved : List Argument → ℕ → AbstractState → AbstractState
arguments_moved [] first sh = sh
arguments_moved (x ∷ xs) first sh = arguments_moved xs (suc first) (argument_moved x first sh)

abbrev pub argument_kind : Argument → Kind
argument_kind A_word = Word
argument_kind (An_own t) = Own t Ready

-- the root is null as main begins, and so are the fields of an object under construction
abbrev pub entry_fields : Option Role → List FieldState
entry_fields (Some Main) = replicate 8 Empty
entry_fields (Some Construct) = replicate 8 Empty
entry_fields _ = replicate 8 Perhaps

-- the request states in which the object of a method may be as it begins, and as it ends
unfoldable pub before_in : Option Method → ℕ
before_in None = 0
before_in (Some d) = d.before.0

unfoldable pub after_in : Option Method → ℕ
after_in None = 0
after_in (Some d) = d.after.0

abbrev pub before_of : Image → ℕ → ℕ
before_of p m = before_in (method_at p m)

abbrev pub after_of : Image → ℕ → ℕ
after_of p m = after_in (method_at p m)

-- what is known as a method begins
abbrev pub entry_shape : Image → ℕ → AbstractState
entry_shape p m = record {
  registers = map argument_kind (arguments_of p m);
  fields = entry_fields (method_role p m);
  entries = [];
  states = before_of p m;
  message_state = Here;
}
