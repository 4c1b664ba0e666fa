-- What a place writes is told where nothing reads it.
use Rattle.std.proofs.Common.{◌∙◌, length, refl, sym}
use Rattle.std.proofs.lemmas.Option.{slice_get_read}
use Rattle.aom_warnings.proofs.Places.{unused_told, unwritten_told, used_told}
use Rattle.aom_warnings.proofs.finding.writing.Goals as goal

pub returns-in_err-register : goal.returns-in_err-register
returns-in_err-register c =
    let d = c.args.method.now in
    let there = slice_get_read d.code (length d.code) c.args.place _ refl c.requires.place c.at.ensures in
    rw c.from_residual.ensures (unwritten_told c.args.image.now c.args.number d c.args.place c.requires.method _ there (sym c.written_word.ensures ∙ c.in_err-register.was))

pub returns-then-is_unread : goal.returns-then-is_unread
returns-then-is_unread c =
    let d = c.args.method.now in
    let there = slice_get_read d.code (length d.code) c.args.place _ refl c.requires.place c.at.ensures in
    unused_told c.args.image.now c.args.number d c.args.place c.requires.method _ there _ _ (sym c.written_word.ensures ∙ c.in_ok-register.was) c.is_unread.ensures
    c.if-is_unread.true

pub returns-else-is_unread : goal.returns-else-is_unread
returns-else-is_unread c =
    let d = c.args.method.now in
    let there = slice_get_read d.code (length d.code) c.args.place _ refl c.requires.place c.at.ensures in
    used_told c.args.image.now c.args.number d c.args.place c.requires.method _ there _ _ (sym c.written_word.ensures ∙ c.in_ok-register.was) c.is_unread.ensures
    c.if-is_unread.false
