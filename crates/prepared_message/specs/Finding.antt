-- What is found in a message by templates that are known.
use Rattle.std.specs.Prelude.{◌≡◌, ◌≤◌, ℕ, List, None, Ok, length, map}
use Rattle.ipfix_octets.specs.MessageFormat.{longest_message}
use Rattle.ipfix_template.specs.declared.template.Template.{Template}
use Rattle.ipfix_message.specs.declared.item.Item.{Item}
use Rattle.ipfix_message.specs.Reading.{header_of, items_of}
use Rattle.ipfix_session.specs.Answers.{as_contents}
use Rattle.ipfix_session.specs.Contents.{contents_after}
use Rattle.ipfix_session.specs.Keeping.{Keeps}
use Rattle.ipfix_session.specs.Meaning.{domain_of}
use Rattle.ipfix_session.specs.Standing.{templates_of}
use Rattle.ipfix_session.specs.Unchanging.{BringNoTemplates}
use Rattle.prepared_message.specs.declared.found.Found.{Found}
use Rattle.prepared_message.specs.Seen.{used_pair}
use Rattle.prepared_message.specs.Uses.{known_in, used_by}

-- the message brings no template, and this is what it holds, and the templates of its Data Sets, wherever these templates are known
pub record IsFound (known : List (ℕ × List (ℕ × Template))) (message : List ℕ) (found : Found) : Type 0 where
  pub said : List Item
  pub items : items_of message ≡ Ok said
  pub unchanging : BringNoTemplates said
  pub headed : header_of message ≡ found.header
  pub used : map used_pair found.uses.items ≡ used_by (known_in (domain_of message) known) None said
  pub holds : (older : List Item) → Keeps (templates_of (domain_of message) known) older → contents_after older message said ≡ Ok (as_contents found.contents)
  pub short : length message ≤ longest_message
