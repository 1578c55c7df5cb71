-- The headers of the file and of LVAR, DBG and END as the definitions have them.
-- Assumes nothing.
use Rattle.format.specs.Headers.{FileHeader, SectionHeader}
use Rattle.headers.specs.declared.RiteBinaryHeader.{RiteBinaryHeader}
use Rattle.headers.specs.declared.SectionMiscHeader.{SectionMiscHeader}

abbrev pub file_header_of : RiteBinaryHeader → FileHeader
file_header_of h =
    record {
      ident = h.ident;
      major = h.major_version;
      minor = h.minor_version;
      size = h.size;
      compiler = h.compiler_name;
      version = h.compiler_version;
    }

abbrev pub section_header_of : SectionMiscHeader → SectionHeader
section_header_of h = record { mark = h.ident; size = h.size }
