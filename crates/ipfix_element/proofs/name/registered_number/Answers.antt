use Rattle.std.proofs.Common.{◌≡◌, rules, tests, sym, ◌∙◌}
use Rattle.std.specs.List.{find}
use Rattle.std.proofs.lemmas.Iterator.{YieldsList-from_slice}
use Rattle.std.proofs.lemmas.Iterator.Consumers.{YieldsList-from_copied}
use Rattle.std.proofs.lemmas.Iterator.Adapters.{option_map_id}
use Rattle.std.proofs.lemmas.Iterator.Search.{find_from_yields_List}
use Rattle.ipfix_element.specs.declared.registry.TheConstants.{NUMBERS}
use Rattle.ipfix_element.specs.Lines.{is_named}
use Rattle.ipfix_element.proofs.RegistryLaws.{named_found, named_only}
use Rattle.ipfix_element.proofs.name.registered_number.Goals as goal

-- the call found what `find` finds
first_is : (c : goal.After-find) → c.find.result ≡ find (λ n. is_named n c.args.text.now) NUMBERS
first_is c =
    let found = find_from_yields_List (λ n. is_named n c.args.text.now) _ _ c.find.result c.find.ensures.ran (YieldsList-from_copied (YieldsList-from_slice NUMBERS cc)) (λ x b q k. search (rules, tests)) in
    sym (option_map_id c.find.result) ∙ found

pub returns-clause-found : goal.returns-clause-found
returns-clause-found c = named_found c.args.text.now c.find.result (first_is c)

pub returns-clause-only : goal.returns-clause-only
returns-clause-only c = λ n h. first_is c ∙ named_only n c.args.text.now h
