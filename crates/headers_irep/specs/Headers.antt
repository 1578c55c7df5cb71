-- The headers of IREP, of its records and of their handlers as the definitions have them.
-- Assumes nothing.
use Rattle.format.specs.Headers.{IrepHeader, RecordHeader, HandlerHeader}
use Rattle.headers_irep.specs.declared.SectionIrepHeader.{SectionIrepHeader}
use Rattle.headers_irep.specs.declared.IrepRecord.{IrepRecord}
use Rattle.headers_irep.specs.declared.IrepCatchHandler.{IrepCatchHandler}

abbrev pub irep_header_of : SectionIrepHeader → IrepHeader
irep_header_of h = record { mark = h.ident; size = h.size; version = h.rite_version }

abbrev pub irep_record_of : IrepRecord → RecordHeader
irep_record_of h =
    record {
      size = h.size;
      nlocals = h.nlocals;
      nregs = h.nregs;
      rlen = h.rlen;
      clen = h.clen;
      ilen = h.ilen;
    }

abbrev pub irep_catch_handler_of : IrepCatchHandler → HandlerHeader
irep_catch_handler_of h = record { kind = h.type_; begin = h.begin; end = h.end; target = h.target }
