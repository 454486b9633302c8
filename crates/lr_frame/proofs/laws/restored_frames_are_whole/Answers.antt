use Rattle.lr_frame.proofs.Whole.{whole_of_block, whole_of_redecoded, whole_of_window}
use Rattle.lr_frame.proofs.laws.restored_frames_are_whole.Goals as goal

pub returns-clause-blocks : goal.returns-clause-blocks
returns-clause-blocks c block frame corrected e = whole_of_block block frame corrected e

pub returns-clause-windows : goal.returns-clause-windows
returns-clause-windows c line window frame corrected e = whole_of_window line window frame corrected e

pub returns-clause-redecoded : goal.returns-clause-redecoded
returns-clause-redecoded c line passes window frame corrected e =
    whole_of_redecoded line passes window frame corrected e
