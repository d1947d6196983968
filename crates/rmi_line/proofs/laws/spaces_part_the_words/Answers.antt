use Rattle.rmi_line.proofs.SpacesPartWords.{line_of-one_line, line_of-split}
use Rattle.rmi_line.proofs.laws.spaces_part_the_words.Goals as goal

pub returns-clause-words : goal.returns-clause-words
returns-clause-words c = line_of-split

pub returns-clause-newline : goal.returns-clause-newline
returns-clause-newline c = line_of-one_line
