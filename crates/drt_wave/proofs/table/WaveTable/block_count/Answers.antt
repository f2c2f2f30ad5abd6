use Rattle.std.proofs.Common.{◌*◌, ◌+◌, ◌/◌, ◌<◌, ◌≤◌, subst}
use Rattle.drt_wave.proofs.Working.{blocks_cover, block_begins}
use Rattle.drt_wave.proofs.table.WaveTable.block_count.Goals as goal

pub returns-clause-covers : goal.returns-clause-covers
returns-clause-covers c = subst (λ n. n ≤ (c.wave_size.result + 63) / 64 * 64) c.wave_size.ensures.value (blocks_cover c.wave_size.result)

pub returns-clause-begins : goal.returns-clause-begins
returns-clause-begins c = λ b lt. subst (λ n. b * 64 < n) c.wave_size.ensures.value (block_begins c.wave_size.result b lt)
