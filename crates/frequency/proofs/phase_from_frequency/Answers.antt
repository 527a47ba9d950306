-- `frequency::phase_from_frequency` meets its contract: its phases are those from 0.
use Rattle.frequency.specs.Frequency.{phases}
use Rattle.frequency.proofs.FrequencyLaws.{refusal_from_nought}
use Rattle.frequency.proofs.phase_from_frequency.Goals as goal

pub returns : goal.returns
unfolding phases
returns c = record { value = rw refusal_from_nought at c.phase_from_start.ensures.value; buffer_after = rw refusal_from_nought at c.phase_from_start.ensures.buffer_after }
