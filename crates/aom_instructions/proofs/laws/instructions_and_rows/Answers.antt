use Rattle.aom_instructions.proofs.Again.{making_parts_again, parts_make_again, rows_are_one}
use Rattle.aom_instructions.proofs.laws.instructions_and_rows.Goals as goal

pub returns : goal.returns
returns c = (parts_make_again, making_parts_again, rows_are_one)
