-- What the functions of the geography owe, each as a law over plain variables.
use Prim.Native.Nat.{ℕ, zero, suc, ◌+◌, ◌*◌, ◌/◌, ◌%◌, ◌<◌, ◌≤◌}
use mathlib.Core.Path.{◌≡◌, refl, ap, ap₂, ◌∙◌, subst}
use mathlib.Core.Bool.{true, false}
use mathlib.Core.List.{List, ◌++◌}
use native.Mathlib.Omega.{arith}
use native.Mathlib.Nat.{mod-lt}
use borrow.Author.Tests.{eq-eqb, ne_eqb}
use lib.Dec.{leb}
use lib.ListN.{get_or, length, take}
use Rattle.std.specs.Prelude.{replicate, ◌-◌}
use Rattle.std.specs.Int.{w32, w64, to_le_bytes}
use Rattle.hash_digest.specs.Blake3.{hash}
use Rattle.rand_streams.specs.declared.Cursor.{Cursor}
use Rattle.rand_streams.specs.Streams.{Moved}
use Rattle.math_time.specs.Seconds.{second, millisecond}
use Rattle.rand_draw.specs.Draw.{words64_at, whole64_at}
use Rattle.rand_draw.proofs.Laws.{moved_on, moved_as}
use Rattle.link_geography.specs.declared.Link.{Link}
use Rattle.link_geography.specs.declared.Band.{Band}
use Rattle.math_word.specs.Word.{le4, le8}
use Rattle.link_geography.specs.Bytes.{derive, host, links}
use Rattle.link_geography.specs.Geography.{most_regions, at_least_one, region_of, transmission_of, link_of, band_of, drawn_link, link_words, link_admitted}

-- ---- at least one
pub one_none : (n : ℕ) → n ≡ 0 → (1 ≡ at_least_one n) × (0 < 1)
unfolding at_least_one
one_none n e = (omega arith, omega arith)

pub one_some : (n : ℕ) → (n ≡ 0 → ⊥) → (n ≡ at_least_one n) × (0 < n)
unfolding at_least_one
one_some zero f = absurd (f refl)
one_some (suc n) f = (omega arith, omega arith)

pub one_most : (n : ℕ) {r : ℕ} → n ≤ most_regions → r ≡ at_least_one n → r ≤ most_regions
unfolding at_least_one
one_most n h e = omega arith

-- ---- digests
pub host_made : (seed till : ℕ) {head b tail d : List ℕ} → head ≡ to_le_bytes w64 seed → b ≡ to_le_bytes w32 till → tail ≡ host ++ (take 4 b ++ replicate (4 - length b) 0) → d ≡ hash (head ++ tail)
    → d ≡ derive seed host till
unfolding derive le4 le8
host_made seed till ph pb pt pd = rw (pd, ph, pt, pb)

pub links_made : (seed : ℕ) {head d : List ℕ} → head ≡ to_le_bytes w64 seed → d ≡ hash (head ++ (links ++ le4 0)) → d ≡ derive seed links 0
unfolding derive le8
links_made seed ph pd = rw (pd, ph)

pub region : (seed regions till : ℕ) (d : List ℕ) {n low high : ℕ} → d ≡ derive seed host till → n ≡ at_least_one regions → 0 < n → low ≡ get_or d 0 0 → high ≡ get_or d 1 0
    → ((low + 4294967296 * high) % n ≡ region_of seed regions till) × ((low + 4294967296 * high) % n < at_least_one regions)
unfolding region_of
region seed regions till d {n} {low} {high} p q pos r s = (
  ap₂ (λ x y. x % y) (ap₂ (λ x y. x + 4294967296 * y) (r ∙ ap (λ l. get_or l 0 0) p) (s ∙ ap (λ l. get_or l 1 0) p)) q,
  subst (λ m. (low + 4294967296 * high) % n < m) q (mod-lt (low + 4294967296 * high) pos),
)

pub wire : (bytes rate : ℕ) {n t : ℕ} → n ≡ at_least_one rate → t ≡ bytes * second / n → t ≡ transmission_of bytes rate
unfolding transmission_of
wire bytes rate p q = q ∙ ap (λ m. bytes * second / m) p

-- ---- a link's two draws
pub link_drawn : (c d e : Cursor) (s : Band) {x y : ℕ} {base : ℕ} → x ≡ s.base + whole64_at c.key c.count s.bases → Moved c (words64_at c.key c.count s.bases) d
    → y ≡ s.rate + whole64_at d.key d.count s.rates → Moved d (words64_at d.key d.count s.rates) e → base ≡ x * millisecond
    → (link_of base y ≡ drawn_link c.key c.count s) × Moved c (link_words c.key c.count s) e
unfolding drawn_link link_words
link_drawn c d e s {x} {y} p m q m' b =
    let after : ℕ = c.count + words64_at c.key c.count s.bases in (
      ap₂ link_of (b ∙ ap (λ z. z * millisecond) p) (q ∙ ap₂ (λ k n. s.rate + whole64_at k n s.rates) m.key m.count),
      moved_as c e (words64_at c.key c.count s.bases + words64_at d.key d.count s.rates) _ (ap₂ (λ k n. words64_at c.key c.count s.bases + words64_at k n s.rates) m.key m.count)
          (moved_on c d e (words64_at c.key c.count s.bases) (words64_at d.key d.count s.rates) m m'),
    )

abbrev near : Band
near = record { base = 1; bases = 10; rate = 1000000000; rates = 9000000001 }

abbrev far : Band
far = record { base = 40; bases = 121; rate = 100000000; rates = 900000001 }

-- a pair within a region, and one between two
pub band_near : (a b : ℕ) → a ≡ b → near ≡ band_of a b
unfolding band_of
band_near a b e = simp (eq-eqb a b e)

pub band_far : (a b : ℕ) → (a ≡ b → ⊥) → far ≡ band_of a b
unfolding band_of
band_far a b e = simp (ne_eqb a b e)

pub of_band : (c d : Cursor) (s s' : Band) {l : Link} → s ≡ s' → (l ≡ drawn_link c.key c.count s) × Moved c (link_words c.key c.count s) d
    → (l ≡ drawn_link c.key c.count s') × Moved c (link_words c.key c.count s') d
of_band c d s s' {l} e h = subst (λ z. (l ≡ drawn_link c.key c.count z) × Moved c (link_words c.key c.count z) d) e h

-- the test of a link, in order
pub slow : (l : Link) → leb l.base.ns (160 * millisecond) ≡ true → leb 100000000 l.rate ≡ link_admitted l
unfolding link_admitted
slow l h = rw h

pub long : (l : Link) → leb l.base.ns (160 * millisecond) ≡ false → leb l.base.ns (160 * millisecond) ≡ link_admitted l
unfolding link_admitted
long l h = h ∙ rw h
