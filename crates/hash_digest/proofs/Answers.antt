-- Laws of the digest's answer: within the limit, and past it.
use Prim.Native.Nat.{ℕ, ◌+◌, ◌<◌, ◌≤◌}
use mathlib.Core.Path.{◌≡◌, ap, sym, ◌∙◌}
use mathlib.Core.List.{List, ◌++◌}
use lib.ListN.{length, length-append}
use native.Mathlib.Omega.{arith}
use borrow.Author.Tests.{le-leb, lt-leb}
use Rattle.std.specs.Prelude.{Ok, Err}
use Rattle.hash_digest.specs.declared.Hashed.{Hashed}
use Rattle.hash_digest.specs.declared.TooLong.{TooLong}
use Rattle.hash_digest.specs.Blake3.{hash, longest, answer, too_long, digest_of, reply}

pub digest_short : (s : List ℕ) {w : List ℕ} → length s ≤ longest → w ≡ hash s → ◌≡◌ {A = Hashed} (record { number = 0; words = w }) (digest_of s)
unfolding digest_of
digest_short s {w} h p =
    ap (λ v. record { number = 0; words = v }) p
    ∙ sym (ap (λ b. answer b (record { number = 0; words = hash s }) too_long) (le-leb (length s) longest h))

pub digest_long : (s : List ℕ) → longest < length s → too_long ≡ digest_of s
unfolding digest_of
digest_long s h = sym (ap (λ b. answer b (record { number = 0; words = hash s }) too_long) (lt-leb (length s) longest h))

-- the same of two parts in a row
pub parts_short : (f r : List ℕ) {w : List ℕ} → length f + length r ≤ longest → w ≡ hash (f ++ r) → reply (Ok w) ≡ digest_of (f ++ r)
parts_short f r h p = let n = length-append f r in digest_short (f ++ r) (omega arith) p

pub parts_long : (f r : List ℕ) {e : TooLong} → longest < length f + length r → reply (Err e) ≡ digest_of (f ++ r)
parts_long f r h = let n = length-append f r in digest_long (f ++ r) (omega arith)
