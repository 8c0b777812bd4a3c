-- The runs with the real draws compute to what the Rust answers.
use mathlib.Core.Path.{refl}
use Rattle.link_latency.specs.Admitted as admitted
use lib.Ieee as ieee
use Rattle.table_waiting.specs.Waiting as waiting
use Rattle.table_marks.specs.Marks as marks
use Rattle.table_ring.specs.Ring as ring
use Rattle.table_log.specs.Log as log
use Rattle.table_rows.specs.Table as table
use Rattle.table_rows.specs.Rows as rows
use Rattle.table_shift.specs.Shift as shift
use Rattle.fault_rules.specs.Rules as rules
use Rattle.fault_blocks.specs.Blocks as blocks
use Rattle.fault_rule.specs.Rule as rule
use Rattle.fault_card.specs.Card as card
use Rattle.hash_chunk.specs.Chunk as chunk
use Rattle.hash_digest.specs.Blake3 as digest
use Rattle.hash_compress.specs.Compress as compress
use Rattle.rand_streams.specs.Link as link
use Rattle.link_geography.specs.Bytes as bytes
use Rattle.spec_network.specs.Real as real
use Rattle.spec_network.specs.Accept as accepting
use Rattle.rand_chacha8.specs.Chacha as chacha
use Rattle.rand_streams.specs.Streams as streams
use Rattle.math_word.specs.Word as word
use Rattle.rand_draw.specs.Draw as drawing
use Rattle.rand_draw.specs.Fraction as fraction
use Rattle.rand_draw.specs.Real as ranges
use Rattle.math_time.specs.Seconds as seconds
use Rattle.link_latency.specs.Latency as latency
use Rattle.link_geography.specs.Geography as geography
use Rattle.fault_decide.specs.Decide as deciding
use Rattle.math_float.specs.Float as float
use Rattle.spec_runs.specs.RealRuns.{Drawn, Planned}

pub drawn : Drawn
unfolding admitted.latency_admitted admitted.fraction_admitted admitted.rate_admitted ieee.eq ieee.le ieee.of_bits waiting.before marks.halve marks.position ring.slot_of ring.push_slot ring.pushed_at log.tally_at log.tallied_at log.noted_at log.pushed log.cleared_at table.over rows.kept shift.put_words shift.closed rules.without rules.reading_of rules.fire_at rules.install_number rules.install_table rules.index_of rules.remove_table rules.fire_table rules.put_at blocks.window_of blocks.joins blocks.stops blocks.blocked blocks.block_table blocks.open_count blocks.unblock_table blocks.put_at rule.has rule.filter_of rule.window_of rule.action_of rule.rule_of rule.holds rule.forward rule.passes rule.applies card.le_at card.size_of card.places_of card.field_of card.spec_of card.exact word.le8 word.le4 word.le_word real.keys_of link.link_key link.link_bytes real.priced_by digest.hash digest.tree chunk.chunk chunk.blocks chunk.parent compress.compressed compress.folded accepting.drawn accepting.offered real.chance real.id_of real.draws_of ieee.lt ieee.add ieee.sub ieee.mul ieee.div ieee.neg ieee.of_int fraction.fraction fraction.fraction_at fraction.hits_at fraction.hit_words ranges.real_of ranges.real_at drawing.again drawing.carries drawing.whole_of drawing.draws_of drawing.whole32_at drawing.words32_at streams.word_pair seconds.seconds seconds.times latency.jitter_range latency.jitters latency.jitter_of latency.jitter_words latency.floored latency.delay_of latency.unspiked latency.spike_at latency.spike_count latency.latency_at latency.latency_words geography.cost_of deciding.decide_of chacha.word_at chacha.block_of chacha.sums chacha.initial chacha.double_rounds chacha.columns chacha.diagonals chacha.quarter_at chacha.quarter_of chacha.half_of chacha.put_quad word.add32 word.xor32 word.rotl32 word.rotr32 compress.iv compress.rounds compress.columns compress.diagonals compress.permuted compress.mix_at compress.mix_of compress.half_of compress.put_quad compress.initial chunk.words_of geography.at_least_one geography.region_of geography.transmission_of geography.band_of geography.drawn_link geography.link_words geography.row_count geography.all_count geography.pair_link geography.link_in geography.put_link geography.put_pair geography.priced_row geography.priced_all geography.prices_of geography.link_at geography.link_admitted geography.link_cost drawing.whole64_at drawing.words64_at bytes.derive bytes.host_bytes bytes.links_bytes real.fault_key_of compress.round_of deciding.try_rule deciding.try_action deciding.hits float.clamped card.map_exact
drawn = record { opens = refl; counts = refl; waits = refl; words = (refl, refl) }

pub planned_drawn : Planned
unfolding admitted.latency_admitted admitted.fraction_admitted admitted.rate_admitted ieee.eq ieee.le ieee.of_bits waiting.before marks.halve marks.position ring.slot_of ring.push_slot ring.pushed_at log.tally_at log.tallied_at log.noted_at log.pushed log.cleared_at table.over rows.kept shift.put_words shift.closed rules.without rules.reading_of rules.fire_at rules.install_number rules.install_table rules.index_of rules.remove_table rules.fire_table rules.put_at blocks.window_of blocks.joins blocks.stops blocks.blocked blocks.block_table blocks.open_count blocks.unblock_table blocks.put_at rule.has rule.filter_of rule.window_of rule.action_of rule.rule_of rule.holds rule.forward rule.passes rule.applies card.le_at card.size_of card.places_of card.field_of card.spec_of card.exact word.le8 word.le4 word.le_word real.keys_of link.link_key link.link_bytes real.priced_by digest.hash digest.tree chunk.chunk chunk.blocks chunk.parent compress.compressed compress.folded accepting.drawn accepting.offered real.chance real.id_of real.draws_of ieee.lt ieee.add ieee.sub ieee.mul ieee.div ieee.neg ieee.of_int fraction.fraction fraction.fraction_at fraction.hits_at fraction.hit_words ranges.real_of ranges.real_at drawing.again drawing.carries drawing.whole_of drawing.draws_of drawing.whole32_at drawing.words32_at streams.word_pair seconds.seconds seconds.times latency.jitter_range latency.jitters latency.jitter_of latency.jitter_words latency.floored latency.delay_of latency.unspiked latency.spike_at latency.spike_count latency.latency_at latency.latency_words geography.cost_of deciding.decide_of chacha.word_at chacha.block_of chacha.sums chacha.initial chacha.double_rounds chacha.columns chacha.diagonals chacha.quarter_at chacha.quarter_of chacha.half_of chacha.put_quad word.add32 word.xor32 word.rotl32 word.rotr32 compress.iv compress.rounds compress.columns compress.diagonals compress.permuted compress.mix_at compress.mix_of compress.half_of compress.put_quad compress.initial chunk.words_of geography.at_least_one geography.region_of geography.transmission_of geography.band_of geography.drawn_link geography.link_words geography.row_count geography.all_count geography.pair_link geography.link_in geography.put_link geography.put_pair geography.priced_row geography.priced_all geography.prices_of geography.link_at geography.link_admitted geography.link_cost drawing.whole64_at drawing.words64_at bytes.derive bytes.host_bytes bytes.links_bytes real.fault_key_of compress.round_of deciding.try_rule deciding.try_action deciding.hits float.clamped card.map_exact
planned_drawn = record { opens = refl; counts = refl; waits = refl; words = (refl, refl) }
