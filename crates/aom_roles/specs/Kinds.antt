-- What kinds of classes there are, by what their objects do.
use Rattle.std.specs.Prelude.{Bool, true, false, not, ◌&&◌, Option, Some}
use Rattle.aom_image.specs.declared.class.ClassKind.{ClassKind}
use Rattle.aom_image.specs.declared.class.ClassKind.TheVariants.{Active, Server}
use Rattle.aom_image.specs.declared.class.Provider.TheVariants.{Native, Token}

-- objects of a class of active objects
abbrev pub is_active_kind : Option ClassKind → Bool
is_active_kind (Some (Active provider)) = true
is_active_kind _ = false

-- objects of a class of active objects whose requests are completed by the tokens that they hand out
abbrev pub is_token_kind : Option ClassKind → Bool
is_token_kind (Some (Active Token)) = true
is_token_kind _ = false

-- and those that issue their requests
abbrev pub is_issuing_kind : Option ClassKind → Bool
is_issuing_kind k = is_active_kind k && not (is_token_kind k)

-- objects of a class whose objects are enlisted
abbrev pub is_listed_kind : Option ClassKind → Bool
is_listed_kind (Some (Active provider)) = true
is_listed_kind (Some (Server most session)) = true
is_listed_kind _ = false

-- objects of a class of active objects that a native serves
abbrev pub is_native_kind : Option ClassKind → Bool
is_native_kind (Some (Active (Native n))) = true
is_native_kind _ = false
