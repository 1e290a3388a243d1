use Rattle.parts.proofs.PartFileListLemmas.{file_list_lines}
use Rattle.parts.proofs.laws.sorted_parts_have_the_lines_of_the_whole.Goals as goal

pub returns : goal.returns
returns c params t whole files texts accepted = file_list_lines params t accepted whole files texts
