-- What is said of a fault of a stream: its name.
use Rattle.std.specs.Prelude.{ℕ, List, codes}
use Rattle.ipfix_reader.specs.declared.fault.FramingFault.{FramingFault}
use Rattle.ipfix_reader.specs.declared.fault.FramingFault.TheVariants.{BadVersion, BadLength, CutOff}

abbrev pub text_of_framing : FramingFault → List ℕ
text_of_framing BadVersion = codes "BadVersion"
text_of_framing BadLength = codes "BadLength"
text_of_framing CutOff = codes "CutOff"
