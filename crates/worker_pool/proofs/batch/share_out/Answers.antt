use Rattle.std.proofs.Common.{◌∙◌, refl}
use Rattle.std.proofs.Math.Seq.{map-set_same}
use Rattle.worker_pool.proofs.batch.share_out.Goals as goal
use Rattle.worker_pool.proofs.batch.share_out.Goals.{then-helper-owner+in-Some+in_ok-push, then-helper-owner+in_default, else-helper-owner}

pub loop-helper-preserved : goal.loop-helper-preserved
loop-helper-preserved g c =
    elim c.if-helper-owner.branch [
      | then-helper-owner+in-Some+in_ok-push w ↦
          rw w.helper-items-is (map-set_same _ _ _ _ c.helper-item.result refl ∙ c.loop-helper.invariant)
      | then-helper-owner+in_default w ↦
          rw w.helper-items-is (map-set_same _ _ _ _ c.helper-item.result refl ∙ c.loop-helper.invariant)
      | else-helper-owner w ↦
          rw w.helper-items-is (map-set_same _ _ _ _ c.helper-item.result refl ∙ c.loop-helper.invariant)
    ]
