-- The number that `clap` reads is in its range, and stays as it is.
use Rattle.std.proofs.Common.{rules, ◌≡◌, ◌∙◌, ap, arith, sym, unwrap_or}
use Rattle.std.specs.Fmt.{decimal}
use Rattle.std.specs.Str.Parse.{ParsesUnsigned, ExplainsUnsignedError, HasUnsignedDigitsIfOk}
use Rattle.clap.specs.Words.{found_of}
use Rattle.clap.proofs.WalkLemmas.{one_text-rows}
use Rattle.aom_command_line.proofs.Reading.{reads, reads_digits}
use Rattle.aom_command_line.proofs.words.number_of.Goals as goal

pub returns : goal.returns
returns c = record {
  least = search rules;
  most = search rules;
  is = λ n least most text.
      let read = reads (λ bs r. ParsesUnsigned 32 10 bs r × ExplainsUnsignedError 10 bs r × HasUnsignedDigitsIfOk bs r) (λ bs r g. g.0) n (omega
      (arith, most, c.ranges.most)) c.get_one.result (c.get_one.ensures.value (decimal n) (one_text-rows (found_of c.args.own.now) c.args.id.now ∙ text)) in
      let number : c.unwrap_or-number.result ≡ n = c.unwrap_or-number.ensures ∙ ap (λ o. unwrap_or o c.args.standard) read in
      let clamped = c.clamp.ensures in
      omega (arith, number, clamped);
  digits = λ n word least most text numeral value. let read =
      reads_digits (λ bs r. ParsesUnsigned 32 10 bs r × ExplainsUnsignedError 10 bs r × HasUnsignedDigitsIfOk bs r) (λ bs r g. g.0) word numeral (omega
      (arith, most, value, c.ranges.most)) c.get_one.result (c.get_one.ensures.value word (one_text-rows (found_of c.args.own.now) c.args.id.now ∙ text)) in
      let number : c.unwrap_or-number.result ≡ n = c.unwrap_or-number.ensures ∙ ap (λ o. unwrap_or o c.args.standard) read ∙ sym value in
      let clamped = c.clamp.ensures in
      omega (arith, number, clamped);
}
