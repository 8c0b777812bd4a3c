-- Document 01, network: what the id of an entry is made from.
use Rattle.std.specs.Prelude.{ℕ, ◌+◌, ◌*◌, ◌^◌, ◌≤◌, ◌<◌, ◌≡◌, List, ◌++◌, length, get_or}
use Rattle.hash_digest.specs.Blake3.{hash}
use Rattle.spec_network.specs.Opening.{most_types, longest_name, longest_key, global}
use Rattle.spec_network.specs.Tables.{cell, name_at, shard_at, names_width}

-- a scope byte and a shard's key; a type's name before them
abbrev pub longest_scope : ℕ
longest_scope = 1 + longest_key

abbrev pub longest_head : ℕ
longest_head = longest_name + longest_scope

-- the names that an entry's type and scope find (question 1), with type and scope in range (question 5). Behind the last shard's key nothing is read
pub record Named (names : List ℕ) (kind scope : ℕ) : Type 0 where
  pub long : length names ≡ names_width
  pub type : kind < most_types
  pub target : scope ≤ global
  pub name : cell names (name_at kind) ≤ longest_name
  pub key : cell names (shard_at scope) ≤ longest_key

-- the first 8 bytes, little-endian, of the digest of a head and the wire bytes
abbrev pub id_in : List ℕ → List ℕ → ℕ
id_in head wire = let h = hash (head ++ wire) in get_or h 0 0 + 2 ^ 32 * get_or h 1 0
