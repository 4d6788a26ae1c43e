-- `inputs::key_file` meets its contract: what it hands out is the front of what was read.
-- Assumes nothing.
use Rattle.inputs.proofs.key_file.Goals as goal

pub returns-clause-read : goal.returns-clause-read
returns-clause-read g c = record { n = _; buffer = _; filled = c.named_file-n.ensures; taken = c.key_bytes.ensures }
