use Rattle.c_parser.proofs.ProgramLaws
use Rattle.c_parser.proofs.laws.one_program.Goals as goal

pub returns : goal.returns
returns c = ProgramLaws.one_program
