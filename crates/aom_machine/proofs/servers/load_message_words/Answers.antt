-- The words of the message are in the registers so far, and each is such as a register has.
use Rattle.std.proofs.Common.{ap, arith, of_z, refl, rules, subst, suc, w32, FitsSigned, ◌+◌, ◌≡◌, ◌∙◌}
use Rattle.std.specs.Int.{cast_unsigned}
use Rattle.std.proofs.lemmas.Int.{to_z-of_z}
use Rattle.aom_frames.specs.Tasks.{with_register}
use Rattle.aom_cells.specs.Store.{word_at}
use Rattle.aom_machine.specs.Servers.{IsWord, reported_word}
use Rattle.aom_machine.proofs.servers.load_message_words.Goals as goal

pub loop-word-init : goal.loop-word-init
loop-word-init c = record { reported = refl; read = tt }

pub loop-word-preserved : goal.loop-word-preserved
loop-word-preserved c =
    let messages = c.args.messages.now in
    let place = c.args.message in
    let w = c.loop-word.word in
    let fits : FitsSigned w32 c.word.result = search rules in
    let same = to_z-of_z w32 c.word.result fits in
    let here : IsWord (word_at messages place w) = subst (λ z. IsWord z) c.word.ensures same in
    let one : w + 1 ≡ suc w = omega arith in
    let bits : c.cast_unsigned.result ≡ cast_unsigned w32 (word_at messages place w) = c.cast_unsigned.ensures ∙ ap (of_z w32) (same ∙ c.word.ensures) in
    rw one (record {
      reported = c.set_register.ensures ∙ ap (λ i. with_register w i c.loop-word.frame) bits ∙ ap (λ f. reported_word messages place w f) c.loop-word.invariant.reported;
      read = (here, c.loop-word.invariant.read);
    })

pub returns : goal.returns
returns c =
    let count : c.loop-word.word ≡ 5 = search rules in
    record { reported = rw count at c.loop-word.invariant.reported; read = rw count at c.loop-word.invariant.read }
