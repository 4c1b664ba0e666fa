-- Past the last class there is none with sessions.
use Rattle.std.proofs.Common.{◌≡◌, ◌<◌, ◌≤◌, ℕ, Some, None, length, ap, arith, refl, sym}
use Rattle.std.proofs.lemmas.Bool.Decides.{nat_tests}
use Rattle.aom_image.specs.Image.{Image}
use Rattle.aom_roles.specs.Classes.{sessions_at, sessions_in}
use Rattle.aom_warnings.specs.Made.{IsUnmade, ServesNot}
use Rattle.aom_warnings.proofs.RolesLemmas.{kind_past}

past_serves : (p : Image) (s : ℕ) → length p.classes ≤ s → sessions_at p s ≡ None
unfolding sessions_in
past_serves p s le = ap sessions_in (sym (kind_past p p.classes s s refl refl le))

pub all_serve_not : (p : Image) (c n : ℕ) → length p.classes ≤ n → ((s : ℕ) → s < n → sessions_at p s ≡ Some c → IsUnmade p s) → ServesNot p c
all_serve_not p c n le each s is = grind (arith, nat_tests, each s, past_serves p s)
