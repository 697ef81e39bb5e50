-- Which fault of a command a fault of reading is.
use Rattle.sk_text.specs.declared.source.ReadFault.{ReadFault}
use Rattle.sk_text.specs.declared.source.ReadFault.TheVariants.{Read as ReadFailed, Memory as MemoryRefused}
use Rattle.sk_engines.specs.declared.fault.CommandFault.{CommandFault}
use Rattle.sk_engines.specs.declared.fault.CommandFault.TheVariants.{Read, Memory}

abbrev pub of_reading : ReadFault → CommandFault
of_reading ReadFailed = Read
of_reading MemoryRefused = Memory
