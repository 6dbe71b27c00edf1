use Rattle.std.proofs.Common.{refl, sym}
use Rattle.rule_table.proofs.TableLaws.{complete_read, from_both}
use Rattle.rule_table.proofs.table.RuleTable.marked_places.Goals as goal

pub returns : goal.returns
returns c = from_both c.places_under.result _ _ _ (λ places each ascending.
    complete_read c.self.inside.rules.items c.args.self.now c.self.inside.entries.items c.deref.result.now c.self.inside.sources.items c.as_slice-sources.result.now c.self.inside.destinations.items c.as_slice-destinations.result.now c.in_ok-marks.marks.items c.in_ok-marks.marks.items places.items c.args.name.now c.as_bytes-octets.result.now c.args.domain c.args.flow_record.now c.self.invariant.1 (sym c.self.view_is) c.deref.ensures.value c.as_slice-sources.ensures.value c.as_slice-destinations.ensures.value refl c.as_bytes-octets.ensures.value c.in_ok-marks.ensures each ascending)
    c.places_under.ensures.each c.places_under.ensures.ascending
