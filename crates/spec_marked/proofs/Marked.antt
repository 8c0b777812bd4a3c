-- Every marked line of document 01 holds: the checker computes what the definitions give.
use mathlib.Core.Path.{◌≡◌, refl, ap}
use mathlib.Core.Bool.{Bool, true, false, ◌&&◌, ◌||◌}
use mathlib.Core.List.{List}
use Prim.Native.Nat.{ℕ, ◌+◌, ◌*◌, ◌^◌}
use lib.Dec.{leb, ltb}
use borrow.Author.Tests.{leb-true, le-ltb}
use Rattle.math_float.specs.Float.{zero64}
use Rattle.math_time.specs.Seconds.{millisecond}
use Rattle.link_latency.specs.Admitted as admitted
use lib.Ieee as ieee
use Rattle.table_marks.specs.Marks as marks
use Rattle.table_rows.specs.Table as table
use Rattle.table_rows.specs.Rows as rows
use Rattle.table_shift.specs.Shift as shift
use Rattle.fault_blocks.specs.Blocks as blocks
use Rattle.fault_rule.specs.Rule as rule
use Rattle.fault_card.specs.Card as card
use Rattle.hash_chunk.specs.Chunk as chunk
use Rattle.hash_digest.specs.Blake3 as digest
use Rattle.hash_compress.specs.Compress as compress
use Rattle.rand_streams.specs.Link as link
use Rattle.link_geography.specs.Bytes as bytes
use Rattle.spec_network.specs.Real as real
use Rattle.spec_network.specs.Accept as accepting
use Rattle.rand_streams.specs.Streams as streams
use Rattle.math_word.specs.Word as word
use Rattle.rand_draw.specs.Fraction as fraction-of
use Rattle.rand_draw.specs.Real as ranges
use Rattle.math_time.specs.Seconds as seconds
use Rattle.link_latency.specs.Latency as sample
use Rattle.link_geography.specs.Geography as geography
use Rattle.fault_decide.specs.Decide as deciding
use Rattle.spec_marked.specs.Marked.{Marked, tenth}

-- no time is both at or behind 5 and before it
nothing : (t : ℕ) (b : Bool) → leb 5 t ≡ b → b && ltb t 5 ≡ false
nothing t true h = le-ltb t 5 (leb-true 5 t h)
nothing t false h = refl

-- with no spike rate and nothing on the wire a latency is the delay at the stream's word pair
at_draw : (base draw : ℕ) (key : List ℕ) (count : ℕ) → streams.word_pair key count ≡ draw → sample.latency_at key count base tenth zero64 0 ≡ sample.delay_of base tenth draw + 0
unfolding sample.latency_at sample.unspiked fraction-of.hits_at ieee.lt
at_draw base draw key count e = ap (λ (d : ℕ). sample.delay_of base tenth d + 0) e

-- THE THEOREM: line by line, in the table's order
pub marked : Marked
unfolding admitted.latency_admitted admitted.fraction_admitted admitted.rate_admitted ieee.eq ieee.le ieee.of_bits marks.halve marks.position table.over rows.kept shift.put_words blocks.joins blocks.stops blocks.blocked card.exact word.le8 word.le4 word.le_word real.keys_of link.link_key link.link_bytes real.priced_by digest.hash digest.tree chunk.chunk chunk.blocks chunk.parent compress.compressed compress.folded accepting.drawn accepting.offered real.chance real.id_of real.draws_of ieee.lt ieee.add ieee.sub ieee.mul ieee.div ieee.neg ieee.of_int fraction-of.fraction fraction-of.fraction_at fraction-of.hits_at fraction-of.hit_words ranges.real_of ranges.real_at seconds.seconds seconds.times sample.jitter_range sample.jitters sample.jitter_of sample.jitter_words sample.floored sample.delay_of sample.unspiked sample.spike_at sample.spike_count sample.latency_at sample.latency_words geography.cost_of deciding.decide_of word.add32 word.xor32 word.rotl32 word.rotr32 compress.iv compress.rounds compress.columns compress.diagonals compress.permuted compress.mix_at compress.mix_of compress.half_of compress.put_quad compress.initial chunk.words_of bytes.links_bytes real.fault_key_of compress.round_of deciding.try_rule deciding.try_action geography.transmission_of geography.at_least_one rule.holds blocks.window_of
marked = (
  refl,
  (
    refl,
    (
      refl,
      (
        refl,
        (
          refl,
          (
            (refl, refl),
            (
              (refl, refl),
              (
                (refl, refl),
                (
                  (refl, refl),
                  (
                    λ now. let h = nothing now (leb 5 now) refl in (h, ap (λ (b : Bool). b || false) h),
                    (
                      at_draw (150 * millisecond) 0,
                      (
                        at_draw (150 * millisecond) (2 ^ 63),
                        (
                          λ key count. at_draw 0 (streams.word_pair key count) key count refl,
                          (
                            (refl, refl),
                            ((refl, refl), tt),
                          ),
                        ),
                      ),
                    ),
                  ),
                ),
              ),
            ),
          ),
        ),
      ),
    ),
  ),
)
