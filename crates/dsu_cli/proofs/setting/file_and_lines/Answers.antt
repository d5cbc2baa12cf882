use Rattle.dsu_cli.proofs.Cuts.{file_and_lines_is}
use Rattle.dsu_cli.proofs.setting.file_and_lines.Goals as goal

pub returns : goal.returns
returns c = file_and_lines_is c.args.word.now c.rsplit_once.result c.rsplit_once.ensures.cases
