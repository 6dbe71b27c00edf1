-- What is said of a fault.
use Rattle.std.specs.Prelude.{ℕ, List, codes}
use Rattle.policy_text.specs.declared.fault.FaultKind.{FaultKind}
use Rattle.policy_text.specs.declared.fault.FaultKind.TheVariants.{NoHeader, UnknownWord, BadName, BadNumber, BadPrefix, BadTruncate, UnknownAggregate, DoubleAggregate, BadKey, TooMany, OutOfMemory, BadDegrade}

-- its name
abbrev pub text_of_kind : FaultKind → List ℕ
text_of_kind NoHeader = codes "NoHeader"
text_of_kind UnknownWord = codes "UnknownWord"
text_of_kind BadName = codes "BadName"
text_of_kind BadNumber = codes "BadNumber"
text_of_kind BadPrefix = codes "BadPrefix"
text_of_kind BadTruncate = codes "BadTruncate"
text_of_kind UnknownAggregate = codes "UnknownAggregate"
text_of_kind DoubleAggregate = codes "DoubleAggregate"
text_of_kind BadKey = codes "BadKey"
text_of_kind TooMany = codes "TooMany"
text_of_kind OutOfMemory = codes "OutOfMemory"
text_of_kind BadDegrade = codes "BadDegrade"
