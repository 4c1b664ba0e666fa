-- Each is read as the words say.
use Rattle.aom_command_line.proofs.words.tries_words.Goals as goal

pub returns : goal.returns
returns c = record {
  first = c.number_of.ensures;
  last = c.number_of-2.ensures;
  kills = c.is_set.ensures;
  deaths = c.is_set-2.ensures;
  pairs = c.is_set-3.ensures;
  most = c.number_of-3.ensures;
}
