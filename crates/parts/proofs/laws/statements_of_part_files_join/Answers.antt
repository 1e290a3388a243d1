use Rattle.parts.proofs.PartFileListLemmas.{file_list_joined, file_list_parted, file_list_whole}
use Rattle.parts.proofs.laws.statements_of_part_files_join.Goals as goal

pub returns-clause-joined : goal.returns-clause-joined
returns-clause-joined c params t files texts accepted = file_list_joined params t accepted files texts

pub returns-clause-accepted : goal.returns-clause-accepted
returns-clause-accepted c params t files text accepted = file_list_parted params t accepted files text

pub returns-clause-whole : goal.returns-clause-whole
returns-clause-whole c params t whole files texts accepted = file_list_whole params t accepted whole files texts
