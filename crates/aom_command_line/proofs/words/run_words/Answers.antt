use Rattle.aom_command_line.proofs.words.run_words.Goals as goal

pub returns-clause-asks : goal.returns-clause-asks
returns-clause-asks c = record { image = c.in_ok-word_of.ensures; kind = c.requires; script = c.in_ok-word_of-2.ensures; limit = c.limit_of.ensures; natives = c.in_ok-natives_of.ensures.named }
