use Rattle.hash_compress.proofs.Laws.{mix_made}
use Rattle.hash_compress.proofs.mix.Goals as goal

pub returns : goal.returns
returns c = mix_made _ _ _ _ _ _ c.rotr-d.ensures c.rotr-b.ensures c.rotr-d-2.ensures c.rotr-b-2.ensures
