use native.Mathlib.Omega.{arith}
use mathlib.Core.Path.{refl, ◌∙◌}
use Rattle.hash_lanes.proofs.Places.{put_made}
use Rattle.hash_lanes.proofs.nodes.put.Goals as goal

pub returns : goal.returns
returns c = let a = c.args in
    put_made a.b.now a.p a.w _ _ _ (c.copy_from_slice.ensures.after ∙ c.to_le_bytes.ensures) (omega arith) refl c.requires.0 c.requires.1 c.requires.2 c.ranges.w.fits
