use Rattle.c_parser.proofs.ProgramLaws
use Rattle.c_parser.proofs.laws.program_depth.Goals as goal

pub returns : goal.returns
returns c = ProgramLaws.program_depth
