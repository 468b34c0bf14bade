use native.Mathlib.Omega.{arith}
use Rattle.number.proofs.Laws.{put_one}
use Rattle.number.proofs.U8Unsigned.write.Goals as goal

pub returns : goal.returns
returns c = put_one _ _ _ (omega arith) (omega arith)
