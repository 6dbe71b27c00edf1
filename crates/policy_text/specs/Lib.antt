pub use Rattle.sequences.specs.Results as Steps
pub use Rattle.ipfix_element.specs.Element
pub use Rattle.ipfix_element.specs.Kinds
pub use Rattle.ipfix_element.specs.Registry
pub use Rattle.ipfix_element.specs.Names
pub use Rattle.numerals.specs.Numerals
pub use Rattle.flow_prefix.specs.Reading
pub use Rattle.flow_prefix.specs.Prefixes
pub use Rattle.flow_prefix.specs.Printing as PrefixPrinting
pub mod Words
pub mod Naming
pub mod Elements
pub mod Classes
pub mod Policies
pub mod Results
pub mod FaultTexts
pub mod Lines
pub mod Parsing
pub mod Memory
pub mod Grammar
pub mod Printing
pub mod Spelling
pub mod LineParts
pub mod FirstFault
