-- `irep::read_header` meets its contract.
-- Assumes nothing.
use Rattle.format.specs.Bytes.{ok}
use Rattle.headers_irep.specs.Headers.{irep_record_of}
use Rattle.irep.proofs.Laws.{head_bytes}
use Rattle.irep.proofs.read_header.Goals as goal

pub returns : goal.returns
returns c =
    rw (c.be32_to_u32.ensures, c.be16_to_u16.ensures, c.be16_to_u16-2.ensures, c.be16_to_u16-3.ensures, c.be16_to_u16-4.ensures, c.be32_to_u32-2.ensures)
    (head_bytes c.args.f.now c.args.at (ok (irep_record_of c.in_ok-h.h)) c.in_ok-h.ensures)
