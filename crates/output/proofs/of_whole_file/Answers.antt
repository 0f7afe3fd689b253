-- `output::of_whole_file` meets its contract: the runs that it lends are the file's.
use Rattle.output.proofs.RunLaws.{runs_copied}
use Rattle.output.proofs.of_whole_file.Goals as goal

pub with_runs-requires : goal.with_runs-requires
with_runs-requires c =
    runs_copied c.args.file.now c.requires c.run_of-base.ensures c.run_of-wider.ensures c.run_of-local.ensures c.run_of-peak_base.ensures c.run_of-peak_wider.ensures
