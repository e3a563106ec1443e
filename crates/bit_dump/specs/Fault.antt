-- For `from` of `DumpFault`: a fault of the stream, or want of memory, as `dump` answers it.
use Rattle.bit_stream.specs.declared.fault.StreamFault.{StreamFault}
use Rattle.bit_stream.specs.declared.fault.StreamFault.TheVariants as stream
use Rattle.bit_dump.specs.declared.fault.DumpFault.{DumpFault}
use Rattle.bit_dump.specs.declared.fault.DumpFault.TheVariants.{Bit, Memory}

-- what reading a stream refuses, as `dump` answers it
abbrev pub of_stream : StreamFault → DumpFault
of_stream (stream.Bit fault) = Bit fault
of_stream stream.Memory = Memory
