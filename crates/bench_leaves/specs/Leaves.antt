-- For the benchmark alone: the key of its stream.
use Rattle.std.specs.Prelude.{ℕ, List, replicate}

-- eight words k
abbrev pub key_of : ℕ → List ℕ
key_of k = replicate 8 k
